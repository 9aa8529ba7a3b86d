-- Records of one size laid one after another: each found by its place, and all of them taken back.
use Prim.Native.Nat.{◌*◌, ◌+◌, ◌<◌, suc, suc-le-suc, zero, ℕ}
use mathlib.Core.List.{List, [], ◌++◌, ◌∷◌, append_assoc, map}
use mathlib.Core.Path.{◌∙◌, ◌≡◌, ap, refl, sym}
use native.Mathlib.Nat.{add-zero, le_of_suc-le-suc, mul-suc, mul-zero, not-suc-le-zero, zero-lt-suc}
use native.Mathlib.Omega.{arith}
use lib.ListN.{drop, get_or, length, length-append, take}
use lib.Seq.{drop-append_seam, drop-drop, take-add}
use Rattle.lists.proofs.Laws.{tabulate_get_d}
use Rattle.lists.specs.Lists.{flat, tabulate}

module _ {ℓ} {A : Type ℓ} where
  -- what stands after the first part of what stands at a place
  pub after : (s : List A) (at : ℕ) (p q : List A) → drop at s ≡ p ++ q → drop (at + length p) s ≡ q
  after s at p q e = sym (drop-drop (length p) at s) ∙ ap (drop (length p)) e ∙ drop-append_seam p q

  -- two runs, one after the other
  pub take_two : (s : List A) (at m n : ℕ) → take m (drop at s) ++ take n (drop (at + m) s) ≡ take (m + n) (drop at s)
  take_two s at m n = rw (← drop-drop m at s, take-add m n (drop at s))

  pub get_d_tabulate : (n : ℕ) (f : ℕ → A) (k : ℕ) (d : A) → k < n → get_or (tabulate n f) k d ≡ f k
  unfolding tabulate
  get_d_tabulate zero f k d h = absurd (not-suc-le-zero h)
  get_d_tabulate (suc n) f zero d h = refl
  get_d_tabulate (suc n) f (suc k) d h = get_d_tabulate n (λ (j : ℕ). f (suc j)) k d (le_of_suc-le-suc h)

  -- an element does not depend on what stands past the end
  pub get_d_any : (xs : List A) (k : ℕ) (d e : A) → k < length xs → get_or xs k d ≡ get_or xs k e
  get_d_any [] k d e h = absurd (not-suc-le-zero h)
  get_d_any (x ∷ xs) zero d e h = refl
  get_d_any (x ∷ xs) (suc k) d e h = get_d_any xs k d e (le_of_suc-le-suc h)

  pub tabulate_ext : (n : ℕ) (f g : ℕ → A) → ((k : ℕ) → k < n → f k ≡ g k) → tabulate n f ≡ tabulate n g
  unfolding tabulate
  tabulate_ext zero f g e = refl
  tabulate_ext (suc n) f g e =
      λ i. e 0 (zero-lt-suc n) i ∷ tabulate_ext n (λ (k : ℕ). f (suc k)) (λ (k : ℕ). g (suc k)) (λ k h. e (suc k) (suc-le-suc h)) i

  -- a table that agrees with a list is the list
  pub tabulate_of : (xs : List A) (d : A) (f : ℕ → A) → ((k : ℕ) → k < length xs → f k ≡ get_or xs k d) → tabulate (length xs) f ≡ xs
  tabulate_of xs d f e = tabulate_ext (length xs) f (λ (k : ℕ). get_or xs k d) e ∙ tabulate_get_d xs d

  -- runs of one size, in sequence, are one run
  pub flat_runs : (s : List A) (at size n : ℕ) (g : ℕ → List A) → ((k : ℕ) → k < n → g k ≡ take size (drop (at + size * k) s))
      → flat (tabulate n g) ≡ take (size * n) (drop at s)
  unfolding tabulate flat
  flat_runs s at size zero g e = rw mul-zero
  flat_runs s at size (suc n) g e =
      let first : g 0 ≡ take size (drop at s) = rw (mul-zero size, add-zero at) at (e 0 (zero-lt-suc n)) in
      let place : (k : ℕ) → at + size * suc k ≡ at + size + size * k = λ k. omega (arith, mul-suc size k) in
      let rest : flat (tabulate n (λ (k : ℕ). g (suc k))) ≡ take (size * n) (drop (at + size) s) =
      flat_runs s (at + size) size n (λ (k : ℕ). g (suc k))
      (λ k h. e (suc k) (suc-le-suc h) ∙ ap (λ (p : ℕ). take size (drop p s)) (place k)) in
      let all : size + size * n ≡ size * suc n = omega (arith, mul-suc size n) in
      rw (first, rest, ← all) (take_two s at size (size * n))

module _ {ℓ ℓ'} {A : Type ℓ} {B : Type ℓ'} (f : A → List B) (size : ℕ) (sized : (x : A) → length (f x) ≡ size) where
  pub length_flat : (xs : List A) → length (flat (map f xs)) ≡ size * length xs
  unfolding flat
  length_flat [] = sym (mul-zero size)
  length_flat (x ∷ xs) = omega (arith, length-append (f x) (flat (map f xs)), sized x, length_flat xs, mul-suc size (length xs))

  -- record k, and what stands after it
  pub record_at : (s : List B) (at : ℕ) (xs : List A) (rest : List B) (d : A) → drop at s ≡ flat (map f xs) ++ rest → (k : ℕ) → k < length xs
      → drop (at + size * k) s ≡ f (get_or xs k d) ++ (flat (map f (drop (suc k) xs)) ++ rest)
  unfolding flat
  record_at s at [] rest d e k h = absurd (not-suc-le-zero h)
  record_at s at (x ∷ xs) rest d e zero h = rw (mul-zero size, add-zero at) (e ∙ append_assoc (f x) (flat (map f xs)) rest)
  record_at s at (x ∷ xs) rest d e (suc k) h =
      let next : drop (at + size) s ≡ flat (map f xs) ++ rest =
      rw (sized x) at (after s at (f x) (flat (map f xs) ++ rest) (e ∙ append_assoc (f x) (flat (map f xs)) rest)) in
      let place : at + size * suc k ≡ at + size + size * k = omega (arith, mul-suc size k) in
      rw place (record_at s (at + size) xs rest d next k (le_of_suc-le-suc h))
