-- A number is read from the bytes that were written for it, and bytes are written again as they were read.
use Prim.Native.Nat.{◌%◌, ◌+◌, ◌-◌, ◌/◌, ◌<◌, ◌≤◌, suc, ℕ}
use mathlib.Core.List.{List, [], ◌++◌, ◌∷◌, map}
use mathlib.Core.Path.{◌∙◌, ◌≡◌, ap, sym}
use native.Mathlib.Nat.{add-zero}
use native.Mathlib.Numerals.{add-one}
use native.Mathlib.Omega.{arith}
use lib.ListN.{get_or-map, drop, get_or, length, length-map, set, take}
use lib.Seq.{drop-cons, get_or-drop, sets, sets-eq}
use borrow.Rule.Slice.PartMut.{put_mid}
use Rattle.std.proofs.lemmas.List.{append_assoc, drop-drop}
use Rattle.lists.proofs.Flat.{after, take_two}
use Rattle.lists.proofs.Laws.{map_take}
use Rattle.lists.proofs.Sets.{sets_next}
use Rattle.words.specs.Words.{bytes16, bytes32, bytes64, le16, le32, le64, short}

abbrev pub Bytes : List ℕ → Type 0
Bytes s = (k : ℕ) → get_or s k 0 < 256

get_d_at_place : (s : List ℕ) (at k : ℕ) (r : List ℕ) → drop at s ≡ r → get_or s (at + k) 0 ≡ get_or r k 0
get_d_at_place s at k r e = sym (get_or-drop at s k 0) ∙ ap (λ (l : List ℕ). get_or l k 0) e

-- ---- reading what was written

pub le16_of : (s : List ℕ) (at n : ℕ) (rest : List ℕ) → n < 65536 → drop at s ≡ bytes16 n ++ rest → le16 s at ≡ n
le16_of s at n rest h e =
    let lo : get_or s at 0 ≡ n % 256 = rw add-zero at (get_d_at_place s at 0 (bytes16 n ++ rest) e) in
    let hi : get_or s (at + 1) 0 ≡ n / 256 % 256 = get_d_at_place s at 1 (bytes16 n ++ rest) e in
    omega arith

pub le32_of : (s : List ℕ) (at n : ℕ) (rest : List ℕ) → n < 4294967296 → drop at s ≡ bytes32 n ++ rest → le32 s at ≡ n
le32_of s at n rest h e =
    let lo : le16 s at ≡ n % 65536 = le16_of s at (n % 65536) (bytes16 (n / 65536) ++ rest) (omega arith) e in
    let hi : le16 s (at + 2) ≡ n / 65536 =
    le16_of s (at + 2) (n / 65536) rest (omega arith) (after s at (bytes16 (n % 65536)) (bytes16 (n / 65536) ++ rest) e) in
    rw (lo, hi) (omega arith)

pub le64_of : (s : List ℕ) (at n : ℕ) (rest : List ℕ) → n < 18446744073709551616 → drop at s ≡ bytes64 n ++ rest → le64 s at ≡ n
le64_of s at n rest h e =
    let lo : le32 s at ≡ n % 4294967296 = le32_of s at (n % 4294967296) (bytes32 (n / 4294967296) ++ rest) (omega arith) e in
    let hi : le32 s (at + 4) ≡ n / 4294967296 =
    le32_of s (at + 4) (n / 4294967296) rest (omega arith) (after s at (bytes32 (n % 4294967296)) (bytes32 (n / 4294967296) ++ rest) e) in
    rw (lo, hi) (omega arith)

-- ---- writing what was read

pub le16_lt : (s : List ℕ) (at : ℕ) → Bytes s → le16 s at < 65536
le16_lt s at b = omega (arith, b at, b (at + 1))

pub le32_lt : (s : List ℕ) (at : ℕ) → Bytes s → le32 s at < 4294967296
le32_lt s at b = omega (arith, le16_lt s at b, le16_lt s (at + 2) b)

pub le64_lt : (s : List ℕ) (at : ℕ) → Bytes s → le64 s at < 18446744073709551616
le64_lt s at b = omega (arith, le32_lt s at b, le32_lt s (at + 4) b)

pub bytes16_of : (s : List ℕ) (at : ℕ) → Bytes s → at + 2 ≤ length s → bytes16 (le16 s at) ≡ take 2 (drop at s)
bytes16_of s at b h =
    let lo : le16 s at % 256 ≡ get_or s at 0 = omega (arith, b at) in
    let quotient : le16 s at / 256 ≡ get_or s (at + 1) 0 = omega (arith, b at) in
    let hi : le16 s at / 256 % 256 ≡ get_or s (at + 1) 0 = rw quotient (omega (arith, b (at + 1))) in
    (λ i. lo i ∷ hi i ∷ [])
    ∙ rw (drop-cons s at 0 (omega arith), drop-cons s (suc at) 0 (omega arith), add-one)

pub bytes32_of : (s : List ℕ) (at : ℕ) → Bytes s → at + 4 ≤ length s → bytes32 (le32 s at) ≡ take 4 (drop at s)
bytes32_of s at b h =
    let lo : le32 s at % 65536 ≡ le16 s at = omega (arith, le16_lt s at b) in
    let hi : le32 s at / 65536 ≡ le16 s (at + 2) = omega (arith, le16_lt s at b) in
    (λ i. bytes16 (lo i) ++ bytes16 (hi i))
    ∙ (λ i. bytes16_of s at b (omega arith) i ++ bytes16_of s (at + 2) b (omega arith) i)
    ∙ take_two s at 2 2

pub bytes64_of : (s : List ℕ) (at : ℕ) → Bytes s → at + 8 ≤ length s → bytes64 (le64 s at) ≡ take 8 (drop at s)
bytes64_of s at b h =
    let lo : le64 s at % 4294967296 ≡ le32 s at = omega (arith, le32_lt s at b) in
    let hi : le64 s at / 4294967296 ≡ le32 s (at + 4) = omega (arith, le32_lt s at b) in
    (λ i. bytes32 (lo i) ++ bytes32 (hi i))
    ∙ (λ i. bytes32_of s at b (omega arith) i ++ bytes32_of s (at + 4) b (omega arith) i)
    ∙ take_two s at 4 4

-- a list copied to the places from `at` on, up to `end`
pub copied : {A : Type 0} (l : List A) (at end : ℕ) (vs part : List A) → end ≡ at + length vs → end ≤ length l → part ≡ vs
    → put_mid at (end - at) l part ≡ sets l at vs
copied l at end vs part e h p =
    let n : end - at ≡ length vs = omega arith in
    let room : at + length vs ≤ length l = omega arith in
    rw (p, n, sets-eq vs l at room, drop-drop (length vs) at l, append_assoc)

-- one more of the numbers of 16 bits
pub short_next : (l : List ℕ) (at : ℕ) (v : List ℕ) (i : ℕ) → i < length v
    → set (sets l at (map short (take i v))) (at + i) (short (get_or v i 0)) ≡ sets l at (map short (take (i + 1) v))
short_next l at v i h =
    rw (map_take short i v, map_take short (i + 1) v, ← get_or-map short v i 0)
    (sets_next l at (map short v) i 0 (omega (arith, length-map v short)))
