-- The trees after the links of the uses and of the wires, and the answer that they give.
use Prim.Native.Nat.{◌-◌, ◌<◌, suc, ℕ}
use mathlib.Core.Bool.{Bool}
use mathlib.Core.List.{List, [], ◌++◌, ◌∷◌, map, map-map}
use mathlib.Core.Path.{◌∙◌, ◌≡◌, ap, refl}
use native.Mathlib.Omega.{arith}
use lib.ListN.{drop, get_or, length, length-drop, length-map, length-take, replicate, take}
use lib.Seq.{take-append_seam}
use Rattle.lists.proofs.Parts.{flat_split, map_drop}
use Rattle.lists.proofs.Laws.{length_split, map_take, sum_next, sum_take_drop}
use Rattle.lists.proofs.Split.{get_d_split}
use Rattle.lists.specs.Lists.{flat, padded, split, sum}
use Rattle.edge.specs.Uses.{back_of, front_of}
use Rattle.groups.proofs.All.{Pairs}
use Rattle.groups.proofs.Alike.{Under, member_at, of_flat_map}
use Rattle.groups.proofs.Laws.{grouped_begin, grouped_links, grouped_more}
use Rattle.groups.proofs.Meaning.{of_each}
use Rattle.groups.proofs.Rooting.{one_root_is}
use Rattle.groups.specs.Forest.{Grouped, joined_all, one_root, started, trees}
use Rattle.groups.specs.Groups.{Inside, Link, links, one_group}
use Rattle.shell.specs.Connected.{connected_of, first_points}
use Rattle.connected.proofs.Loops.{below_part, ended_pairs, inside_neighbours}
use Rattle.connected.proofs.Theorem.{Placed, connected_apart, under_firsts}
use Rattle.connected.specs.Wired.{Started, Linkable, Wired, neighbours}

-- ---- lists
module _ {A : Type 0} where
  -- the list without what pads it
  unpadded : (m : ℕ) (d : A) (xs out : List A) (n : ℕ) → out ≡ padded m d xs → length xs ≡ n → take n out ≡ xs
  unpadded m d xs out n e l = rw (e, ← l) (take-append_seam xs (replicate (m - length xs) d))

module _ {A B : Type 0} (f : A → B) where
  split_map : (ns : List ℕ) (xs : List A) → split ns (map f xs) ≡ map (map f) (split ns xs)
  unfolding split
  split_map [] xs = refl
  split_map (n ∷ ns) xs = rw (← map_take f n xs, ← map_drop f n xs, split_map ns (drop n xs))

-- ---- the trees of `linked`, call by call
module _ {n : ℕ} {uses fronts backs firsts counts : List ℕ} (l : Linkable n uses fronts backs firsts counts) where
  abbrev fs : List ℕ
  fs = map (front_of fronts backs) uses

  abbrev bs : List ℕ
  bs = map (back_of fronts backs) uses

  pairs : Pairs n fs bs
  pairs = ended_pairs l.ended

  abbrev face_neighbours : List Link
  face_neighbours = flat (map neighbours (split counts firsts))

  inside_parts : Inside n face_neighbours
  inside_parts k m =
      let r = of_flat_map neighbours (split counts firsts) m in
      of_each (λ (ps : List ℕ). Inside n (neighbours ps)) [] (split counts firsts)
      (λ i h. rw (get_d_split counts firsts i) (inside_neighbours n (take (get_or counts i 0) (drop (sum (take i counts)) firsts)) (below_part n firsts (sum (take i counts)) (get_or counts i 0) l.starts)))
      r.0 r.1 k r.2

  pub tree_start : (ps ss : List ℕ) {ps' ss' : List ℕ} → (ps' ≡ (started n ps ss).parents) × (ss' ≡ (started n ps ss).sizes) → Grouped n [] ps' ss'
  tree_start ps ss e = grouped_begin n ps ss (omega (arith, l.few)) e

  pub tree_uses : {ps ss ps' ss' : List ℕ} → Grouped n [] ps ss
      → (ps' ≡ (joined_all (trees ps ss) (links (map (front_of fronts backs) uses) (map (back_of fronts backs) uses))).parents) × (ss' ≡ (joined_all (trees ps ss) (links (map (front_of fronts backs) uses) (map (back_of fronts backs) uses))).sizes)
      → Grouped n (links (map (front_of fronts backs) uses) (map (back_of fronts backs) uses)) ps' ss'
  tree_uses g e =
      grouped_links n fs bs g
      (of_each (λ (x : ℕ). x < n) 0 fs (λ k h. (pairs.1 k h).0))
      (of_each (λ (x : ℕ). x < n) 0 bs (λ k h. (pairs.1 k (omega (arith, pairs.0))).1))
      refl e

  pub tree_faces : {ps ss ps' ss' : List ℕ} → Grouped n (links (map (front_of fronts backs) uses) (map (back_of fronts backs) uses)) ps ss
      → (ps' ≡ (joined_all (trees ps ss) (flat (map neighbours (split counts firsts)))).parents) × (ss' ≡ (joined_all (trees ps ss) (flat (map neighbours (split counts firsts)))).sizes)
      → Grouped n (links (map (front_of fronts backs) uses) (map (back_of fronts backs) uses) ++ flat (map neighbours (split counts firsts))) ps' ss'
  tree_faces g e = grouped_more n face_neighbours g inside_parts refl e

  pub tree_answer : {ps ss : List ℕ} → Grouped n (links (map (front_of fronts backs) uses) (map (back_of fronts backs) uses) ++ flat (map neighbours (split counts firsts))) ps ss
      → one_root ps (map (front_of fronts backs) uses) ≡ one_group n (links (map (front_of fronts backs) uses) (map (back_of fronts backs) uses) ++ flat (map neighbours (split counts firsts))) (map (front_of fronts backs) uses)
  tree_answer {ps} {ss} g = one_root_is n (links (map (front_of fronts backs) uses) (map (back_of fronts backs) uses) ++ face_neighbours) ps ss g fs (λ k h. (pairs.1 k h).0)

-- ---- what `connected_of` calls ask, and its answer
module _ {uses lens counts fronts backs : List ℕ} {points : ℕ} (w : Wired uses lens counts fronts backs points) where
  abbrev front : ℕ → ℕ
  front = front_of fronts backs

  abbrev back : ℕ → ℕ
  back = back_of fronts backs

  abbrev wires : List (List ℕ)
  wires = split lens uses

  abbrev faces : List (List (List ℕ))
  faces = split counts wires

  pub wired_fronts : Started uses fronts backs
  wired_fronts = record {
    few = w.few;
    each = λ k h. record { front = w.edges k h; back = omega (arith, w.edges k h, w.paired); low = omega (arith, w.starts k h, w.low) };
  }

  flat_faces : flat faces ≡ wires
  flat_faces = flat_split counts wires (omega (arith, w.counted, length_split lens uses))

  flat_wires : flat wires ≡ uses
  flat_wires = flat_split lens uses w.cut.summed

  -- wire k has uses
  wire_long : (k : ℕ) → k < length wires → 0 < length (get_or wires k [])
  wire_long k h =
      let i : k < length lens = omega (arith, length_split lens uses) in
      let at = sum (take k lens) in
      rw (get_d_split lens uses k)
      (omega (arith, length-take (get_or lens k 0) (drop at uses), length-drop at uses, w.cut.some k i, w.cut.summed, sum_next lens k, sum_take_drop (suc k) lens))

  placed : Placed front back points faces
  placed = record {
    some = rw flat_faces (of_each (λ (us : List ℕ). 0 < length us) [] wires wire_long);
    below = rw (flat_faces, flat_wires) (of_each (λ (u : ℕ). (front u < points) × (back u < points)) 0 uses (λ k h. (w.starts k h, w.ends k h)));
  }

  under_firsts_of : Under points (first_points front back wires)
  under_firsts_of = under_firsts front back points faces placed wires (λ us m. rw flat_faces m)

  -- the part of the array that is lent
  pub firsts_taken : {out : List ℕ} → out ≡ padded 2048 0 (first_points front back (split lens uses)) → take (length lens - 0) out ≡ first_points front back (split lens uses)
  firsts_taken {out} e =
      unpadded 2048 0 (first_points front back wires) out (length lens - 0) e (omega (arith, length-map wires (λ (us : List ℕ). front (get_or us 0 0)), length_split lens uses))

  module _ {firsts : List ℕ} (o : firsts ≡ first_points front back wires) where
    pub wired_linkable : Linkable points uses fronts backs firsts counts
    wired_linkable = rw o record {
      few = w.low;
      ended = record { each = wired_fronts.each; starts = w.starts; ends = w.ends };
      counted = omega (arith, w.counted, length-map wires (λ (us : List ℕ). front (get_or us 0 0)), length_split lens uses);
      starts = λ k h. under_firsts_of (get_or (first_points front back wires) k 0) (member_at 0 (first_points front back wires) k h);
    }

    pub wired_answer : {r : Bool} → r ≡ one_group points (links (map front uses) (map back uses) ++ flat (map neighbours (split counts firsts))) (map front uses)
        → r ≡ connected_of front back points (split counts (split lens uses))
    wired_answer e =
        let first : List ℕ → ℕ = λ (us : List ℕ). front (get_or us 0 0) in
        let m : flat (map neighbours (split counts firsts)) ≡ flat (map (λ (w : List (List ℕ)). neighbours (first_points front back w)) faces) =
        rw (o, split_map first counts wires) (ap flat (map-map neighbours (map first) faces)) in
        e ∙ rw m (rw (flat_faces, flat_wires) at (connected_apart front back points faces placed))
