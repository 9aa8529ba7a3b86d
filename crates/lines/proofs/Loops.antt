-- Loops that write a text for each element, one after the other.
use Prim.Native.Nat.{◌+◌, ◌-◌, ◌<◌, ◌≤◌, suc, zero, ℕ}
use mathlib.Core.List.{List, [], ◌∷◌, map}
use mathlib.Core.Path.{◌∙◌, ◌≡◌, ap, refl}
use native.Mathlib.Numerals.{add-one}
use native.Mathlib.Omega.{arith}
use lib.ListN.{drop, get_or, length, length-append, take}
use lib.Seq.{length-sets, take_all}
use Rattle.lists.proofs.Laws.{length_split}
use Rattle.lists.proofs.Sets.{Put, flat_next, put_then}
use Rattle.lists.proofs.Split.{Walk, walk_fits, walk_next, walk_part, walk_start}
use Rattle.lists.specs.Lists.{flat, split, sum}

module _ {ℓ} {A : Type ℓ} (f : A → List ℕ) where
  -- a part of the elements has no longer text than all
  part_short : (k : ℕ) (xs : List A) → length (flat (map f (take k xs))) ≤ length (flat (map f xs))
  unfolding flat
  part_short zero xs = omega arith
  part_short (suc k) [] = omega arith
  part_short (suc k) (x ∷ xs) = omega (arith, part_short k xs, length-append (f x) (flat (map f (take k xs))), length-append (f x) (flat (map f xs)))

  -- the texts of k elements are written, and the next begins at place `end`
  pub record Putting (l : List ℕ) (at : ℕ) (xs : List A) (out : List ℕ) (end k : ℕ) : Type ℓ where
    pub low : k ≤ length xs
    pub room : at + length (flat (map f xs)) ≤ length l
    pub long : length out ≡ length l
    pub so_far : Put l at (flat (map f (take k xs))) out end

  pub putting_start : (l : List ℕ) (at : ℕ) (xs : List A) → at + length (flat (map f xs)) ≤ length l → Putting l at xs l at 0
  unfolding flat
  putting_start l at xs h = record { low = omega arith; room = h; long = refl; so_far = (refl, omega arith) }

  module _ {l : List ℕ} {at : ℕ} {xs : List A} {out : List ℕ} {end k : ℕ} (s : Putting l at xs out end k) where
    -- the next text, that of x, finds room
    module _ (d : A) {x : A} (h : k < length xs) (is : get_or xs k d ≡ x) where
      pub putting_room : end + length (f x) ≤ length out
      putting_room =
          omega (
            arith,
            ap length (flat_next f xs k d h),
            length-append (flat (map f (take k xs))) (f (get_or xs k d)),
            ap (λ (y : A). length (f y)) is,
            part_short (suc k) xs,
            s.so_far.1,
            s.room,
            s.long,
          )

      pub putting_next : (out' : List ℕ) (end' : ℕ) → Put out end (f x) out' end' → Putting l at xs out' end' (k + 1)
      putting_next out' end' p =
          record {
            low = omega arith;
            room = s.room;
            long = ap length p.0 ∙ length-sets out end (f x) ∙ s.long;
            so_far = rw (add-one, flat_next f xs k d h, is) (put_then l at (flat (map f (take k xs))) (f x) out out' end end' s.so_far p);
          }

    pub putting_all : length xs ≤ k → Put l at (flat (map f xs)) out end
    putting_all h = rw (take_all k xs h) at s.so_far

-- the texts of k parts, each given by f, are written, and the next part begins at place `start` of the items
module _ (f : List ℕ → List ℕ) where
  pub record Lining (l : List ℕ) (at : ℕ) (items lens out : List ℕ) (end start k : ℕ) : Type 0 where
    pub summed : sum lens ≡ length items
    pub walk : Walk lens k start
    pub putting : Putting f l at (split lens items) out end k

  pub lining_start : (l : List ℕ) (at : ℕ) (items lens : List ℕ) → sum lens ≡ length items → at + length (flat (map f (split lens items))) ≤ length l
      → Lining l at items lens l at 0 0
  lining_start l at items lens e h = record { summed = e; walk = walk_start lens; putting = putting_start f l at (split lens items) h }

  module _ {l : List ℕ} {at : ℕ} {items lens out : List ℕ} {end start k : ℕ} (s : Lining l at items lens out end start k) where
    module _ {n : ℕ} (h : k < length lens) (is : n ≡ get_or lens k 0) where
      pub lining_fits : start + n ≤ length items
      lining_fits = omega (arith, walk_fits lens k start n s.walk h is, s.summed)

      inside : k < length (split lens items)
      inside = omega (arith, length_split lens items)

      pub lining_room : end + length (f (take (start + n - start) (drop start items))) ≤ length out
      lining_room = putting_room f s.putting [] inside (walk_part lens k start n s.walk h is items)

      pub lining_next : (out' : List ℕ) (end' : ℕ) → Put out end (f (take (start + n - start) (drop start items))) out' end'
          → Lining l at items lens out' end' (start + n) (k + 1)
      lining_next out' end' p =
          record {
            summed = s.summed;
            walk = walk_next lens k start n s.walk h is;
            putting = putting_next f s.putting [] inside (walk_part lens k start n s.walk h is items) out' end' p;
          }

    pub lining_all : length lens ≤ k → Put l at (flat (map f (split lens items))) out end
    lining_all h = putting_all f s.putting (omega (arith, length_split lens items))
