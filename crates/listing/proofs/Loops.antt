-- The loops that write the columns, and where the faces begin.
use Prim.Native.Nat.{◌*◌, ◌+◌, ◌-◌, ◌<◌, ◌≤◌, suc, ℕ}
use mathlib.Core.Bool.{false, true}
use mathlib.Core.List.{List, [], ◌∷◌, map, reverse, reverse-cons}
use mathlib.Core.Logic.{⊎_elim}
use mathlib.Core.Path.{◌∙◌, ◌≡◌, ap, refl, sym}
use native.Mathlib.Nat.{mul-suc, not-suc-le-zero}
use native.Mathlib.Numerals.{add-one}
use native.Mathlib.Omega.{arith}
use lib.Dec.{ltb}
use lib.ListN.{get_or-append, get_or-map, drop, get_or, length, length-drop, length-replicate, length-reverse, length-take, replicate, set, take}
use lib.Seq.{get_or-append_seam, get_or-take, length-sets, length-take-le, sets, sets-eq, take-add, take_all, take-take}
use borrow.Author.Tests.{ltb-false, ltb-true}
use Rattle.edge.specs.Uses.{turned}
use Rattle.listing.proofs.Laws.{shown_first, turned_keeps, turned_long}
use Rattle.listing.specs.Parts.{face_start, turned_uses}
use Rattle.lists.proofs.Laws.{Filling, cases, drop_replicate, filling_long, filling_next, filling_padded, filling_start, length_split, sum_append, sum_take_drop}
use Rattle.lists.proofs.Sets.{flat_next, sets_next, sets_then}
use Rattle.lists.proofs.Split.{Walk, walk_fits, walk_next, walk_part, walk_start}
use Rattle.lists.specs.Lists.{flat, padded, split, sum, tabulate}

abbrev turned_wire : List ℕ → List ℕ
turned_wire us = map turned (reverse us)

-- element i from the back
pub get_d_reverse : (xs : List ℕ) (i : ℕ) → i < length xs → get_or (reverse xs) i 0 ≡ get_or xs (length xs - 1 - i) 0
get_d_reverse [] i h = absurd (not-suc-le-zero h)
get_d_reverse (x ∷ xs) i h =
    rw (reverse-cons x xs)
    (⊎_elim
    (λ (b : ltb i (length xs) ≡ true).
    let l : i < length xs = ltb-true i (length xs) b in
    let e : suc (length xs) - 1 - i ≡ suc (length xs - 1 - i) = omega (arith, l) in
    rw (e, get_or-append (reverse xs) (x ∷ []) 0 i (omega (arith, l, length-reverse xs))) (get_d_reverse xs i l))
    (λ (b : ltb i (length xs) ≡ false).
    let j : i ≡ length (reverse xs) = omega (arith, ltb-false i (length xs) b, length-reverse xs) in
    let e : suc (length xs) - 1 - i ≡ 0 = omega (arith, j, length-reverse xs) in
    rw (e, j) (get_or-append_seam (reverse xs) x [] 0))
    (cases (ltb i (length xs))))

-- one more use of a wire turned
pub turning_one : (l : List ℕ) (at : ℕ) (us : List ℕ) (i v : ℕ) (out : List ℕ) → i < length us → v ≡ turned (get_or us (length us - 1 - i) 0)
    → out ≡ sets l at (take i (map turned (reverse us))) → set out (at + i) v ≡ sets l at (take (i + 1) (map turned (reverse us)))
turning_one l at us i v out h e o =
    let f : v ≡ get_or (turned_wire us) i (turned 0) = e ∙ ap turned (sym (get_d_reverse us i h)) ∙ sym (get_or-map turned (reverse us) i 0) in
    rw (o, f) (sets_next l at (turned_wire us) i (turned 0) (omega (arith, turned_keeps us)))

-- the wires turned one after the other: k are written, the next begins at place `at`
pub record Turning (wires uses out : List ℕ) (k at : ℕ) : Type 0 where
  pub walk : Walk wires k at
  pub few : length uses ≤ 4096
  pub summed : sum wires ≡ length uses
  pub is : out ≡ sets (replicate 4096 0) 0 (flat (map turned_wire (take k (split wires uses))))

pub turning_start : (wires uses out : List ℕ) → length uses ≤ 4096 → sum wires ≡ length uses → out ≡ replicate 4096 0 → Turning wires uses out 0 0
unfolding flat
turning_start wires uses out h e z = record { walk = walk_start wires; few = h; summed = e; is = z }

module _ {wires uses out : List ℕ} {k at : ℕ} (s : Turning wires uses out k at) where
  pub turning_long : length out ≡ 4096
  turning_long = ap length s.is ∙ length-sets (replicate 4096 0) 0 (flat (map turned_wire (take k (split wires uses)))) ∙ length-replicate {A = ℕ} 4096 0

  module _ {n : ℕ} (h : k < length wires) (is : n ≡ get_or wires k 0) where
    pub turning_fits : at + n ≤ length uses
    turning_fits = omega (arith, walk_fits wires k at n s.walk h is, s.summed)

    -- the wire, as the code takes it, finds room
    pub turning_room : at + length (take (at + n - at) (drop at uses)) ≤ length out
    turning_room = omega (arith, length-take (at + n - at) (drop at uses), length-drop at uses, turning_fits, turning_long, s.few)

    pub turning_next : (out' : List ℕ) → out' ≡ sets out at (map turned (reverse (take (at + n - at) (drop at uses)))) → Turning wires uses out' (k + 1) (at + n)
    turning_next out' e =
        let done = flat (map turned_wire (take k (split wires uses))) in
        let long : at ≡ length done = s.walk.here ∙ sym (shown_first turned_wire turned_keeps wires uses k (omega (arith, s.summed))) in
        let part = walk_part wires k at n s.walk h is uses in
        let more = flat_next turned_wire (split wires uses) k [] (omega (arith, length_split wires uses)) in
        record {
          walk = walk_next wires k at n s.walk h is;
          few = s.few;
          summed = s.summed;
          is = rw (add-one, more) (sets_then (replicate 4096 0) 0 done (turned_wire (get_or (split wires uses) k [])) at (omega (arith, long)) s.is (rw part e));
        }

  pub turning_all : length wires ≤ k → out ≡ padded 4096 0 (turned_uses wires uses)
  turning_all h =
      let all = turned_uses wires uses in
      let every : take k (split wires uses) ≡ split wires uses = take_all k (split wires uses) (omega (arith, length_split wires uses)) in
      let room : 0 + length all ≤ length (replicate {A = ℕ} 4096 0) =
      omega (arith, turned_long wires uses s.summed, s.few, length-replicate {A = ℕ} 4096 0) in
      let from_zero : 0 + length all ≡ length all = omega arith in
      s.is ∙ rw every (sets-eq all (replicate 4096 0) 0 room ∙ rw (from_zero, drop_replicate {A = ℕ} (length all) 4096 0))

-- a sum of numbers below 65,536
pub sum_small : (xs : List ℕ) → ((k : ℕ) → get_or xs k 0 < 65536) → sum xs ≤ 65536 * length xs
unfolding sum
sum_small [] h = omega arith
sum_small (x ∷ xs) h = omega (arith, h 0, sum_small xs (λ k. h (suc k)), mul-suc 65536 (length xs))

-- the faces passed: k of them have `at` wires, and the next begins at place `start`
pub record Starting (wires counts out : List ℕ) (k at start : ℕ) : Type 0 where
  pub few : length counts ≤ 256
  pub summed : sum counts ≡ length wires
  pub walk : Walk counts k at
  pub here : start ≡ sum (take at wires)
  pub filling : Filling (face_start counts wires) (replicate 257 0) out k

pub starting_start : (wires counts out : List ℕ) → length counts ≤ 256 → sum counts ≡ length wires → out ≡ replicate 257 0 → Starting wires counts out 0 0 0
unfolding sum
starting_start wires counts out h e z = record {
  few = h;
  summed = e;
  walk = walk_start counts;
  here = refl;
  filling = rw z (filling_start (face_start counts wires) (replicate 257 0));
}

module _ {wires counts out : List ℕ} {k at start : ℕ} (s : Starting wires counts out k at start) where
  pub starting_long : length out ≡ 257
  starting_long = filling_long (face_start counts wires) (replicate 257 0) out k s.filling ∙ length-replicate {A = ℕ} 257 0

  written : k < 257 → Filling (face_start counts wires) (replicate 257 0) (set out k start) (k + 1)
  written h =
      filling_next (face_start counts wires) 0 (replicate 257 0) out k start s.filling (omega (arith, length-replicate {A = ℕ} 257 0))
      (s.here ∙ ap (λ (w : ℕ). sum (take w wires)) s.walk.here)

  module _ {m : ℕ} (h : k < length counts) (is : m ≡ get_or counts k 0) where
    pub starting_fits : at + m ≤ length wires
    starting_fits = omega (arith, walk_fits counts k at m s.walk h is, s.summed)

    -- the face's wires, as the code takes them
    pub starting_part : length (take (at + m - at) (drop at wires)) ≤ length wires
    starting_part = omega (arith, length-take (at + m - at) (drop at wires), length-drop at wires, starting_fits)

    module _ {t : ℕ} (e : t ≡ sum (take (at + m - at) (drop at wires))) where
      after_face : start + t ≡ sum (take (at + m) wires)
      after_face =
          let z : at + m - at ≡ m = omega arith in
          let f : t ≡ sum (take m (drop at wires)) = rw z at e in
          rw (take-add at m wires) (omega (arith, sum_append (take at wires) (take m (drop at wires)), s.here))

      pub starting_low : start + t ≤ sum wires
      starting_low = omega (arith, after_face, sum_take_drop (at + m) wires)

      pub starting_next : Starting wires counts (set out k start) (k + 1) (at + m) (start + t)
      starting_next = record {
        few = s.few;
        summed = s.summed;
        walk = walk_next counts k at m s.walk h is;
        here = after_face;
        filling = written (omega (arith, s.few));
      }

  pub starting_all : length counts ≤ k → set out (length counts) start ≡ padded 257 0 (tabulate (suc (length counts)) (face_start counts wires))
  starting_all h =
      let e : k ≡ length counts = omega (arith, s.walk.low) in
      filling_padded (face_start counts wires) 0 257 (set out (length counts) start) (suc (length counts)) (rw (e, add-one) at (written (omega (arith, s.few))))
