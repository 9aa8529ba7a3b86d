-- Halved uses have the condition of the uses: each half is used as often as the edge was, and alike as often.
use Prim.Native.Nat.{◌+◌, ◌<◌, ◌≤◌, ℕ}
use mathlib.Core.Bool.{Bool, false, true}
use mathlib.Core.List.{List, [], ◌∷◌}
use mathlib.Core.Logic.{◌⊎◌, inl, inr, ⊎_elim}
use mathlib.Core.Path.{◌∙◌, ◌≡◌, ap, refl, sym}
use native.Mathlib.Omega.{arith}
use lib.Dec.{eqb, leb, ltb}
use borrow.Author.Tests.{eqb-false, eqb-true, lt-ltb, ne_eqb}
use Rattle.edge.specs.Uses.{edge_number}
use Rattle.lists.proofs.Alike.{bit_one}
use Rattle.lists.proofs.Count.{All, all_weaker, bit, count_append}
use Rattle.lists.proofs.Laws.{cases, eqb_sym}
use Rattle.lists.specs.Lists.{count, flat}
use Rattle.shell.proofs.Level.{IsUse, uses_low}
use Rattle.shell.specs.Conditions.{alike_to, condition, uses_of}
use Rattle.shell_edits.proofs.KeepsUses.{by_kind}
use Rattle.shell_edits.specs.Keeps.{halve, halved}

-- ---- two numbers that are both 0 or both not
abbrev Alike : ℕ → ℕ → Type 0
Alike m n = ((m ≡ 0) × (n ≡ 0)) ⊎ ((0 < m) × (0 < n))

alike_sum : (m n m' n' : ℕ) → Alike m n → Alike m' n' → Alike (m + m') (n + n')
alike_sum m n m' n' (inl h) (inl k) = inl (omega (arith, h.0, k.0), omega (arith, h.1, k.1))
alike_sum m n m' n' (inl h) (inr k) = inr (omega (arith, k.0), omega (arith, k.1))
alike_sum m n m' n' (inr h) k = inr (omega (arith, h.0), omega (arith, h.1))

some_alike : (m n : ℕ) → Alike m n → ltb 0 m ≡ ltb 0 n
some_alike m n (inl h) = rw (h.0, h.1)
some_alike m n (inr h) = rw (lt-ltb 0 m h.0, lt-ltb 0 n h.1)

none_alike : (m n : ℕ) → Alike m n → eqb 0 m ≡ eqb 0 n
none_alike m n (inl h) = rw (h.0, h.1)
none_alike m n (inr h) = rw (ne_eqb 0 m (λ z. omega (arith, z, h.0)), ne_eqb 0 n (λ z. omega (arith, z, h.1)))

bit_apart : (x y : ℕ) → (x ≡ y → ⊥) → bit (eqb x y) ≡ 0
bit_apart x y h = rw (ne_eqb x y h)

-- ---- edge e, and its halves a and a + 1
module _ (e a : ℕ) (inside : e < a) (few : a + 2 ≤ 32768) where
  -- of the halves, one is k
  one_half : (k : ℕ) → a ≤ k → k < a + 2 → bit (eqb k a) + bit (eqb k (a + 1)) ≡ 1
  one_half k l h =
      ⊎_elim
      (λ (z : eqb k a ≡ true). rw z (omega (arith, bit_apart k (a + 1) (λ y. omega (arith, y, eqb-true k a z)))))
      (λ (z : eqb k a ≡ false). rw z (omega (arith, bit_one k (a + 1) (other (eqb-false k a z)))))
      (cases (eqb k a))
    where
      other : (k ≡ a → ⊥) → k ≡ a + 1
      other z =
          ⊎_elim
          (λ (y : eqb k (a + 1) ≡ true). eqb-true k (a + 1) y)
          (λ (y : eqb k (a + 1) ≡ false). absurd (z (omega (arith, eqb-false k (a + 1) y))))
          (cases (eqb k (a + 1)))

  -- a test counted over halved uses as another is over the uses
  count_halved : (q r : ℕ → Bool) (us : List ℕ) → All (λ (u : ℕ). count q (halve e a u) ≡ bit (r u)) us → count q (halved e a us) ≡ count r us
  unfolding flat count
  count_halved q r [] h = refl
  count_halved q r (u ∷ us) h = omega (arith, count_append q (halve e a u) (halved e a us), h.0, count_halved q r us h.1)

  -- a test that each half passes if the use does
  some_halved : (q r : ℕ → Bool) (us : List ℕ) → All (λ (u : ℕ). u < 65536) us → All (λ (u : ℕ). All (λ (v : ℕ). q v ≡ r u) (halve e a u)) us
      → Alike (count q (halved e a us)) (count r us)
  unfolding flat count
  some_halved q r [] l h = inl (refl, refl)
  some_halved q r (u ∷ us) l h =
      rw (count_append q (halve e a u) (halved e a us))
      (alike_sum (count q (halve e a u)) (bit (r u)) (count q (halved e a us)) (count r us) (one u l.0 h.0) (some_halved q r us l.1 h.1))
    where
      single : (b : Bool) → Alike (bit b + 0) (bit b)
      single true = inr (omega arith, omega arith)
      single false = inl (refl, refl)

      double : (b : Bool) → Alike (bit b + (bit b + 0)) (bit b)
      double true = inr (omega arith, omega arith)
      double false = inl (refl, refl)

      one : (v : ℕ) → v < 65536 → All (λ (w : ℕ). q w ≡ r v) (halve e a v) → Alike (count q (halve e a v)) (bit (r v))
      one v k =
          by_kind e a inside few (λ (w : ℕ) (hs : List ℕ). All (λ (x : ℕ). q x ≡ r w) hs → Alike (count q hs) (bit (r w))) v k
          (λ is t. rw t.0 (single (r v)))
          (λ t. rw (t.0, t.1.0) (double (r e)))
          (λ t. rw (t.0, t.1.0) (double (r (e + 32768))))

  -- ---- the uses of a shell
  module _ (us : List ℕ) (h : All (IsUse a) us) where
    abbrev by_use : (P : ℕ → List ℕ → Type 0) → ((u : ℕ) → IsUse a u → eqb (edge_number u) e ≡ false → P u (u ∷ [])) → P e (a ∷ (a + 1) ∷ [])
        → P (e + 32768) ((a + 1 + 32768) ∷ (a + 32768) ∷ []) → All (λ (u : ℕ). P u (halve e a u)) us
    by_use P other first second = all_weaker (IsUse a) (λ (u : ℕ). P u (halve e a u)) (λ u t. by_kind e a inside few P u t.0 (other u t) first second) us h

    -- the edge of a use of e, a or a + 1
    plain : (edge_number a ≡ a) × (edge_number (a + 1) ≡ a + 1) × (edge_number e ≡ e)
    plain = (omega arith, omega arith, omega arith)

    reversed : (edge_number (a + 32768) ≡ a) × (edge_number (a + 1 + 32768) ≡ a + 1) × (edge_number (e + 32768) ≡ e)
    reversed = (omega arith, omega arith, omega arith)

    uses_old : (k : ℕ) → k < a → (k ≡ e → ⊥) → uses_of (halved e a us) k ≡ uses_of us k
    unfolding uses_of count
    uses_old k l apart =
        let q : ℕ → Bool = λ (v : ℕ). eqb (edge_number v) k in
        let x = bit_apart e k (λ z. apart (sym z)) in
        let y = bit_apart a k (λ z. omega (arith, z)) in
        let w = bit_apart (a + 1) k (λ z. omega (arith, z)) in
        count_halved q q us
        (by_use (λ (u : ℕ) (hs : List ℕ). count q hs ≡ bit (q u))
        (λ u t is. omega arith)
        (rw (plain.0, plain.1, plain.2) (omega (arith, x, y, w)))
        (rw (reversed.0, reversed.1, reversed.2) (omega (arith, x, y, w))))

    uses_half : (k : ℕ) → a ≤ k → k < a + 2 → uses_of (halved e a us) k ≡ uses_of us e
    unfolding uses_of count
    uses_half k low high =
        let q : ℕ → Bool = λ (v : ℕ). eqb k (edge_number v) in
        let r : ℕ → Bool = λ (v : ℕ). eqb (edge_number v) e in
        let x = bit_one e e refl in
        let y = one_half k low high in
        (λ i. count (λ (v : ℕ). eqb_sym (edge_number v) k i) (halved e a us))
        ∙ count_halved q r us
        (by_use (λ (u : ℕ) (hs : List ℕ). count q hs ≡ bit (r u))
        (λ u t is. rw is (omega (arith, bit_apart k (edge_number u) (λ z. omega (arith, z, t.1)))))
        (rw (plain.0, plain.1, plain.2) (omega (arith, x, y)))
        (rw (reversed.0, reversed.1, reversed.2) (omega (arith, x, y))))

    alike_old : (v : ℕ) → edge_number v < a → (edge_number v ≡ e → ⊥) → alike_to (halved e a us) v ≡ alike_to us v
    unfolding alike_to count
    alike_old v l apart =
        count_halved (eqb v) (eqb v) us
        (by_use (λ (u : ℕ) (hs : List ℕ). count (eqb v) hs ≡ bit (eqb v u))
        (λ u t is. omega arith)
        (omega (arith, bit_apart v e (λ z. apart (omega (arith, z))), bit_apart v a (λ z. omega (arith, z, l)), bit_apart v (a + 1) (λ z. omega (arith, z, l))))
        (omega (arith, bit_apart v (e + 32768) (λ z. apart (omega (arith, z))), bit_apart v (a + 32768) (λ z. omega (arith, z, l)), bit_apart v (a + 1 + 32768) (λ z. omega (arith, z, l)))))

    alike_half : (k : ℕ) → a ≤ k → k < a + 2 → alike_to (halved e a us) k ≡ alike_to us e
    unfolding alike_to count
    alike_half k low high =
        count_halved (eqb k) (eqb e) us
        (by_use (λ (u : ℕ) (hs : List ℕ). count (eqb k) hs ≡ bit (eqb e u))
        (λ u t is. omega (arith, bit_apart k u (λ z. omega (arith, z, t.1)), bit_apart e u (λ z. eqb-false (edge_number u) e is (omega (arith, z)))))
        (omega (arith, bit_one e e refl, one_half k low high))
        (omega (arith, bit_apart e (e + 32768) (λ z. omega (arith, z)), bit_apart k (a + 32768) (λ z. omega (arith, z)), bit_apart k (a + 1 + 32768) (λ z. omega (arith, z)))))

    alike_reversed : (k : ℕ) → a ≤ k → k < a + 2 → alike_to (halved e a us) (k + 32768) ≡ alike_to us (e + 32768)
    unfolding alike_to count
    alike_reversed k low high =
        let f = e + 32768 in
        let l = k + 32768 in
        count_halved (eqb l) (eqb f) us
        (by_use (λ (u : ℕ) (hs : List ℕ). count (eqb l) hs ≡ bit (eqb f u))
        (λ u t is. omega (arith, bit_apart l u (λ z. omega (arith, z, t.1)), bit_apart f u (λ z. eqb-false (edge_number u) e is (omega (arith, z)))))
        (omega (arith, bit_apart f e (λ z. omega (arith, z)), bit_apart l a (λ z. omega (arith, z)), bit_apart l (a + 1) (λ z. omega (arith, z))))
        (omega (arith, bit_one f f refl, one_half k low high, bit_shifted k a, bit_shifted k (a + 1))))
      where
        bit_shifted : (x y : ℕ) → bit (eqb (x + 32768) (y + 32768)) ≡ bit (eqb x y)
        bit_shifted x y =
            ⊎_elim
            (λ (z : eqb x y ≡ true). omega (arith, bit_one x y (eqb-true x y z), bit_one (x + 32768) (y + 32768) (omega (arith, eqb-true x y z))))
            (λ (z : eqb x y ≡ false). omega (arith, bit_apart x y (eqb-false x y z), bit_apart (x + 32768) (y + 32768) (λ w. eqb-false x y z (omega (arith, w)))))
            (cases (eqb x y))

    -- so of each use and its halves
    pub halves_uses : (u : ℕ) → IsUse a u → All (λ (v : ℕ). uses_of (halved e a us) (edge_number v) ≡ uses_of us (edge_number u)) (halve e a u)
    halves_uses u t =
        by_kind e a inside few (λ (w : ℕ) (hs : List ℕ). All (λ (v : ℕ). uses_of (halved e a us) (edge_number v) ≡ uses_of us (edge_number w)) hs) u t.0
        (λ is. (uses_old (edge_number u) t.1 (eqb-false (edge_number u) e is), tt))
        (rw (plain.0, plain.1, plain.2) (uses_half a (omega arith) (omega arith), (uses_half (a + 1) (omega arith) (omega arith), tt)))
        (rw (reversed.0, reversed.1, reversed.2) (uses_half (a + 1) (omega arith) (omega arith), (uses_half a (omega arith) (omega arith), tt)))

    each_uses : All (λ (u : ℕ). All (λ (v : ℕ). uses_of (halved e a us) (edge_number v) ≡ uses_of us (edge_number u)) (halve e a u)) us
    each_uses = all_weaker (IsUse a) (λ (u : ℕ). All (λ (v : ℕ). uses_of (halved e a us) (edge_number v) ≡ uses_of us (edge_number u)) (halve e a u)) halves_uses us h

    each_alike : All (λ (u : ℕ). All (λ (v : ℕ). alike_to (halved e a us) v ≡ alike_to us u) (halve e a u)) us
    each_alike =
        by_use (λ (u : ℕ) (hs : List ℕ). All (λ (v : ℕ). alike_to (halved e a us) v ≡ alike_to us u) hs)
        (λ u t is. (alike_old u t.1 (eqb-false (edge_number u) e is), tt))
        (alike_half a (omega arith) (omega arith), (alike_half (a + 1) (omega arith) (omega arith), tt))
        (alike_reversed (a + 1) (omega arith) (omega arith), (alike_reversed a (omega arith) (omega arith), tt))

    -- tests of numbers that are the same
    same_test : (t : ℕ → Bool) (f g : ℕ → ℕ) → All (λ (u : ℕ). All (λ (v : ℕ). f v ≡ g u) (halve e a u)) us
        → Alike (count (λ (v : ℕ). t (f v)) (halved e a us)) (count (λ (u : ℕ). t (g u)) us)
    same_test t f g k =
        some_halved (λ (v : ℕ). t (f v)) (λ (u : ℕ). t (g u)) us (uses_low a us h)
        (all_weaker (λ (u : ℕ). All (λ (v : ℕ). f v ≡ g u) (halve e a u)) (λ (u : ℕ). All (λ (v : ℕ). t (f v) ≡ t (g u)) (halve e a u))
        (λ u s. all_weaker (λ (v : ℕ). f v ≡ g u) (λ (v : ℕ). t (f v) ≡ t (g u)) (λ v z. ap t z) (halve e a u) s) us k)

    pub condition_halved : condition (halved e a us) ≡ condition us
    unfolding condition
    condition_halved =
        let vs = halved e a us in
        let f : ℕ → ℕ = λ (v : ℕ). uses_of vs (edge_number v) in
        let g : ℕ → ℕ = λ (u : ℕ). uses_of us (edge_number u) in
        let many = some_alike (count (λ (v : ℕ). leb 3 (f v)) vs) (count (λ (u : ℕ). leb 3 (g u)) us) (same_test (leb 3) f g each_uses) in
        let twice = some_alike (count (λ (v : ℕ). leb 2 (alike_to vs v)) vs) (count (λ (u : ℕ). leb 2 (alike_to us u)) us) (same_test (leb 2) (alike_to vs) (alike_to us) each_alike) in
        let once = none_alike (count (λ (v : ℕ). ltb (f v) 2) vs) (count (λ (u : ℕ). ltb (g u) 2) us) (same_test (λ (k : ℕ). ltb k 2) f g each_uses) in
        rw (many, twice, once)
