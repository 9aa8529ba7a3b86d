-- A table that holds a list up to its limit, and one element more.
use Prim.Native.Nat.{◌<◌, ◌≤◌, min, suc, ℕ}
use mathlib.Core.List.{List, [], ◌++◌, ◌∷◌}
use mathlib.Core.Path.{◌∙◌, ◌≡◌, ap, sym}
use native.Mathlib.Numerals.{add-one}
use native.Mathlib.Omega.{arith}
use lib.ListN.{length, length-append, set, take}
use lib.Seq.{take_all, take-append-le, take-suc-set}
use Rattle.mesh_draw.specs.Kept.{Tabled}

module _ {ℓ} {A : Type ℓ} (limit : ℕ) (table xs : List A) where
  -- a list within the limit stands there whole
  pub tabled_whole : length xs ≤ limit → Tabled limit table xs → take (length xs) table ≡ xs
  tabled_whole h e = let m : min (length xs) limit ≡ length xs = omega arith in rw m at (e ∙ take_all limit xs h)

  pub tabled_next : (x : A) → length table ≡ limit → length xs < limit → Tabled limit table xs → Tabled limit (set table (length xs) x) (xs ++ (x ∷ []))
  tabled_next x long h e =
      let n : length (xs ++ (x ∷ [])) ≡ suc (length xs) = length-append xs (x ∷ []) ∙ add-one (length xs) in
      let m : min (length (xs ++ (x ∷ []))) limit ≡ suc (length xs) = omega (arith, n) in
      rw m (take-suc-set table (length xs) x (omega arith) ∙ ap (λ (l : List A). l ++ (x ∷ [])) (tabled_whole (omega arith) e) ∙ sym (take_all limit (xs ++ (x ∷ [])) (omega (arith, n))))

  pub tabled_over : (ys : List A) → limit ≤ length xs → Tabled limit table xs → Tabled limit table (xs ++ ys)
  tabled_over ys h e =
      let m : min (length xs) limit ≡ limit = omega arith in
      let m' : min (length (xs ++ ys)) limit ≡ limit = omega (arith, length-append xs ys) in
      rw m' ((rw m at e) ∙ sym (take-append-le limit xs ys h))
