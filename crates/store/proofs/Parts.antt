-- A list stored in a list, and the parts of that.
use Prim.Native.Nat.{ℕ, suc, zero, ◌+◌, ◌-◌, ◌<◌, ◌≤◌}
use mathlib.Core.Bool.{Bool, true, false, true≢false, ◌||◌}
use mathlib.Core.List.{List, [], ◌∷◌}
use mathlib.Core.Logic.{◌⊎◌, inl, inr, ⊎_elim}
use mathlib.Core.Path.{◌≡◌, ◌∙◌, ap, refl, sym}
use native.Mathlib.Nat.{add-zero}
use native.Mathlib.Omega.{arith}
use lib.Dec.{leb, ltb}
use lib.ListN.{drop, get_or, length, length-drop, length-set, length-take, set}
use lib.Seq.{ext_get_or, get_or-drop, get_or-set_other, get_or-set_same, get_or-take, length-sets, sets}
use borrow.Author.Tests.{leb-true, ltb-false, ltb-true}
use Rattle.lists.proofs.Flat.{tabulate_of}
use Rattle.lists.proofs.Laws.{cases}
use Rattle.lists.specs.Lists.{tabulate}
use Rattle.store.specs.Store.{part}

module _ {ℓ} {A : Type ℓ} (d : A) where
  pub get_d_before : (t : List A) (at : ℕ) (xs : List A) (i : ℕ) → i < at → get_or (sets t at xs) i d ≡ get_or t i d
  get_d_before t at [] i h = refl
  get_d_before t at (x ∷ xs) i h = get_d_before (set t at x) (suc at) xs i (omega arith) ∙ get_or-set_other t at i x d (λ e. omega (arith, e))

  pub get_d_after : (t : List A) (at : ℕ) (xs : List A) (i : ℕ) → at + length xs ≤ i → get_or (sets t at xs) i d ≡ get_or t i d
  get_d_after t at [] i h = refl
  get_d_after t at (x ∷ xs) i h = get_d_after (set t at x) (suc at) xs i (omega arith) ∙ get_or-set_other t at i x d (λ e. omega (arith, e))

  pub get_d_in : (t : List A) (at : ℕ) (xs : List A) (j : ℕ) → j < length xs → at + length xs ≤ length t → get_or (sets t at xs) (at + j) d ≡ get_or xs j d
  get_d_in t at [] j h l = absurd (omega (arith, h))
  get_d_in t at (x ∷ xs) zero h l =
      rw (add-zero at) (get_d_before (set t at x) (suc at) xs at (omega arith) ∙ get_or-set_same t at x d (omega arith))
  get_d_in t at (x ∷ xs) (suc j) h l =
      let e : at + suc j ≡ suc at + j = omega arith in
      rw e (get_d_in (set t at x) (suc at) xs j (omega arith) (omega (arith, length-set t at x)))

module _ (t : List ℕ) where
  pub part_long : (a n : ℕ) → a + n ≤ length t → length (part a n t) ≡ n
  part_long a n h = simp (length-take, length-drop) (omega arith)

  pub part_at : (a n i : ℕ) → i < n → get_or (part a n t) i 0 ≡ get_or t (a + i) 0
  part_at a n i h = get_or-take n (drop a t) i 0 h ∙ get_or-drop a t i 0

  -- a part, number by number
  pub part_tabulated : (a n : ℕ) → a + n ≤ length t → tabulate n (λ (k : ℕ). get_or t (a + k) 0) ≡ part a n t
  part_tabulated a n h =
      let l = part_long a n h in
      ap (λ (m : ℕ). tabulate m (λ (k : ℕ). get_or t (a + k) 0)) (sym l)
      ∙ tabulate_of (part a n t) 0 (λ (k : ℕ). get_or t (a + k) 0) (λ k b. sym (part_at a n k (omega (arith, l))))

-- two parts of one length with the same numbers
pub part_same : (s t : List ℕ) (a n : ℕ) → a + n ≤ length s → a + n ≤ length t → ((i : ℕ) → i < n → get_or s (a + i) 0 ≡ get_or t (a + i) 0) → part a n s ≡ part a n t
part_same s t a n hs ht same =
    let l = part_long s a n hs in
    ext_get_or 0 (part a n s) (part a n t) (l ∙ sym (part_long t a n ht))
    (λ i b. part_at s a n i (omega (arith, l)) ∙ same i (omega (arith, l)) ∙ sym (part_at t a n i (omega (arith, l))))

-- a list stored inside a part
pub part_own : (t xs : List ℕ) (a n k : ℕ) → a + n ≤ length t → k + length xs ≤ n → part a n (sets t (a + k) xs) ≡ sets (part a n t) k xs
part_own t xs a n k h few =
    let l₁ = part_long (sets t (a + k) xs) a n (omega (arith, length-sets t (a + k) xs)) in
    let l₂ = part_long t a n h in
    ext_get_or 0 (part a n (sets t (a + k) xs)) (sets (part a n t) k xs) (l₁ ∙ sym (length-sets (part a n t) k xs ∙ l₂))
    (λ i b.
    part_at (sets t (a + k) xs) a n i (omega (arith, l₁))
    ∙ ⊎_elim
    (λ (e : ltb i k ≡ true).
    let low = ltb-true i k e in
    get_d_before 0 t (a + k) xs (a + i) (omega arith) ∙ sym (part_at t a n i (omega (arith, l₁))) ∙ sym (get_d_before 0 (part a n t) k xs i low))
    (λ (e : ltb i k ≡ false).
    let high = ltb-false i k e in
    ⊎_elim
    (λ (f : ltb i (k + length xs) ≡ true).
    let in_List = ltb-true i (k + length xs) f in
    let z : k + (i - k) ≡ i = omega arith in
    let w : (a + k) + (i - k) ≡ a + i = omega arith in
    rw w at (get_d_in 0 t (a + k) xs (i - k) (omega arith) (omega arith)) ∙ sym (rw z at (get_d_in 0 (part a n t) k xs (i - k) (omega arith) (omega (arith, l₂)))))
    (λ (f : ltb i (k + length xs) ≡ false).
    let past = ltb-false i (k + length xs) f in
    get_d_after 0 t (a + k) xs (a + i) (omega arith) ∙ sym (part_at t a n i (omega (arith, l₁))) ∙ sym (get_d_after 0 (part a n t) k xs i (omega arith)))
    (cases (ltb i (k + length xs))))
    (cases (ltb i k)))

-- ---- two stores that are the same outside some places

-- n places from a on are none of those from lo to hi
abbrev pub outside : ℕ → ℕ → ℕ → ℕ → Bool
outside lo hi a n = leb (a + n) lo || leb hi a

pub record Apart (lo hi : ℕ) (t t' : List ℕ) : Type 0 where
  pub long : length t ≡ 12312
  pub long' : length t' ≡ 12312
  pub same : (i : ℕ) → (i < lo) ⊎ (hi ≤ i) → get_or t' i 0 ≡ get_or t i 0

side : (b c : Bool) (lo hi a n : ℕ) → leb (a + n) lo ≡ b → leb hi a ≡ c → (b || c) ≡ true → (a + n ≤ lo) ⊎ (hi ≤ a)
side true c lo hi a n e f h = inl (leb-true (a + n) lo e)
side false true lo hi a n e f h = inr (leb-true hi a f)
side false false lo hi a n e f h = absurd (true≢false (sym h))

module _ {lo hi : ℕ} {t t' : List ℕ} (s : Apart lo hi t t') where
  pub number_kept : (a n i : ℕ) → outside lo hi a n ≡ true → i < n → get_or t' (a + i) 0 ≡ get_or t (a + i) 0
  number_kept a n i h l =
      s.same (a + i)
      (⊎_elim (λ (b : a + n ≤ lo). inl (omega arith)) (λ (b : hi ≤ a). inr (omega arith)) (side (leb (a + n) lo) (leb hi a) lo hi a n refl refl h))

  pub part_kept : (a n : ℕ) → outside lo hi a n ≡ true → leb (a + n) 12312 ≡ true → part a n t' ≡ part a n t
  part_kept a n h l =
      let b = leb-true (a + n) 12312 l in
      part_same t' t a n (omega (arith, s.long')) (omega (arith, s.long)) (λ i c. number_kept a n i h c)

-- numbers stored from `at` on
pub numbers_apart : (lo hi at : ℕ) (t xs : List ℕ) → length t ≡ 12312 → lo ≤ at → at + length xs ≤ hi → Apart lo hi t (sets t at xs)
numbers_apart lo hi at t xs long low high = record {
  long = long;
  long' = length-sets t at xs ∙ long;
  same = λ i h. ⊎_elim (λ (b : i < lo). get_d_before 0 t at xs i (omega arith)) (λ (b : hi ≤ i). get_d_after 0 t at xs i (omega arith)) h;
}

pub apart_then : (lo hi : ℕ) (t t' t'' : List ℕ) → Apart lo hi t t' → Apart lo hi t' t'' → Apart lo hi t t''
apart_then lo hi t t' t'' a b = record { long = a.long; long' = b.long'; same = λ i h. b.same i h ∙ a.same i h }
