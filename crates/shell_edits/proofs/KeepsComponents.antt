-- Lists of halved uses share an edge exactly if the lists of the uses do, so they make the same components.
use Prim.Native.Nat.{◌+◌, ◌<◌, ◌≤◌, ℕ}
use mathlib.Core.Bool.{Bool, ◌&&◌, and_assoc, and-true, false, not, true}
use mathlib.Core.List.{List, [], ◌++◌, ◌∷◌, map, map-append, map-map}
use mathlib.Core.Path.{◌∙◌, ◌≡◌, ap, refl, sym}
use native.Mathlib.Omega.{arith}
use lib.Dec.{eqb, ltb}
use lib.ListN.{get_or-map, get_or, length, length-map}
use Rattle.curve.specs.declared.Parameter.{Parameter}
use Rattle.edge.specs.Uses.{edge_number}
use Rattle.groups.specs.Groups.{link}
use Rattle.lists.proofs.Count.{All, all_at, all_map, all_only, all_weaker}
use Rattle.lists.proofs.Marks.{AllBelow}
use Rattle.lists.proofs.Parts.{all_flat, map_same, only_same}
use Rattle.lists.specs.Lists.{disjoint, flat, has, numbers, once, only}
use Rattle.pattern.specs.Checks.{content_faults, outlines}
use Rattle.pattern.specs.Contents.{Content}
use Rattle.shell.proofs.Level.{IsUse}
use Rattle.shell.specs.Components.{components, components_of, has_wires, pair_links, share_edge, shell_pairs}
use Rattle.shell.specs.Conditions.{uses_of}
use Rattle.shell.specs.Openings.{back_in, front_in}
use Rattle.shell.specs.Shells.{face_number, listings_of, shown_wire, shown_wires}
use Rattle.shell_edits.proofs.Cut.{has_counts, has_edge}
use Rattle.shell_edits.proofs.KeepsCondition.{halves_uses}
use Rattle.shell_edits.proofs.KeepsShell.{Apart, Clear, cut_ends, listings_shown}
use Rattle.shell_edits.proofs.KeepsUses.{by_kind, flat_made}
use Rattle.shell_edits.specs.Edits.{cut_content, cut_faults}
use Rattle.shell_edits.specs.Keeps.{halve, halved}
use Rattle.shell_edits.specs.Theorems.{some_there_and_back}

disjoint_parts : (xs ys zs : List ℕ) → disjoint (xs ++ ys) zs ≡ (disjoint xs zs && disjoint ys zs)
unfolding disjoint
disjoint_parts [] ys zs = refl
disjoint_parts (x ∷ xs) ys zs = rw (disjoint_parts xs ys zs) (sym (and_assoc (not (has x zs)) (disjoint xs zs) (disjoint ys zs)))

-- what holds of every element holds of each once
all_once : (P : ℕ → Type 0) (xs : List ℕ) → All P xs → All P (once xs)
unfolding once
all_once P [] h = tt
all_once P (x ∷ xs) h = (h.0, all_only P (λ (y : ℕ). not (eqb x y)) (once xs) (all_once P xs h.1))

module _ (e a : ℕ) (inside : e < a) (few : a + 2 ≤ 32768) where
  module _ (vs : List ℕ) (hv : All (IsUse a) vs) where
    -- a half is met exactly if the edge is
    edge_met : (u : ℕ) → IsUse a u → All (λ (v : ℕ). has_edge (edge_number v) (halved e a vs) ≡ has_edge (edge_number u) vs) (halve e a u)
    unfolding uses_of
    edge_met u t =
        all_weaker (λ (v : ℕ). uses_of (halved e a vs) (edge_number v) ≡ uses_of vs (edge_number u)) (λ (v : ℕ). has_edge (edge_number v) (halved e a vs) ≡ has_edge (edge_number u) vs)
        (λ v z. has_counts edge_number (edge_number v) (halved e a vs) ∙ ap (ltb 0) z ∙ sym (has_counts edge_number (edge_number u) vs))
        (halve e a u) (halves_uses e a inside few vs hv u t)

    halves_apart : (u : ℕ) → u < 65536 → (b : Bool) → All (λ (v : ℕ). has_edge (edge_number v) (halved e a vs) ≡ b) (halve e a u)
        → disjoint (map edge_number (halve e a u)) (map edge_number (halved e a vs)) ≡ not b
    unfolding disjoint
    halves_apart u low b =
        by_kind e a inside few (λ (w : ℕ) (hs : List ℕ). All (λ (v : ℕ). has_edge (edge_number v) (halved e a vs) ≡ b) hs → disjoint (map edge_number hs) (map edge_number (halved e a vs)) ≡ not b) u low
        (λ is h. rw h.0 (and-true (not b)))
        (λ h. rw (h.0, h.1.0) (twice b))
        (λ h. rw (h.0, h.1.0) (twice b))
      where
        twice : (d : Bool) → (not d && (not d && true)) ≡ not d
        twice true = refl
        twice false = refl

    disjoint_halved : (us : List ℕ) → All (IsUse a) us → disjoint (map edge_number (halved e a us)) (map edge_number (halved e a vs)) ≡ disjoint (map edge_number us) (map edge_number vs)
    unfolding disjoint flat
    disjoint_halved [] h = refl
    disjoint_halved (u ∷ us) h =
        let zs : List ℕ = map edge_number (halved e a vs) in
        ap (λ (xs : List ℕ). disjoint xs zs) (map-append edge_number (halve e a u) (halved e a us))
        ∙ disjoint_parts (map edge_number (halve e a u)) (map edge_number (halved e a us)) zs
        ∙ (rw (halves_apart u h.0.0 (has_edge (edge_number u) vs) (edge_met u h.0), disjoint_halved us h.1))

  -- parts of a shell, as lists of uses
  module _ (parts : List (List ℕ)) (h : All (All (IsUse a)) parts) where
    abbrev after : List (List ℕ)
    after = map (halved e a) parts

    share_halved : (i j : ℕ) → share_edge (get_or after i []) (get_or after j []) ≡ share_edge (get_or parts i []) (get_or parts j [])
    unfolding flat
    share_halved i j =
        let x : get_or after i [] ≡ halved e a (get_or parts i []) = get_or-map (halved e a) parts i [] in
        let y : get_or after j [] ≡ halved e a (get_or parts j []) = get_or-map (halved e a) parts j [] in
        let are-uses : (k : ℕ) → All (IsUse a) (get_or parts k []) = all_at (All (IsUse a)) [] tt parts h in
        rw (x, y) (ap not (disjoint_halved (get_or parts j []) (are-uses j) (get_or parts i []) (are-uses i)))

    links_halved : pair_links after ≡ pair_links parts
    unfolding pair_links
    links_halved =
        ap (λ (m : ℕ). flat (map (λ (i : ℕ). map (link i) (only (λ (j : ℕ). share_edge (get_or after i []) (get_or after j [])) (numbers m))) (numbers m))) (length-map parts (halved e a))
        ∙ (λ k. flat (map (λ (i : ℕ). map (link i) (only (λ (j : ℕ). share_halved i j k) (numbers (length parts)))) (numbers (length parts))))

    components_halved : (pairs : List ℕ) → components_of pairs (map (halved e a) parts) ≡ components_of pairs parts
    unfolding components_of
    components_halved pairs = rw (length-map parts (halved e a), links_halved)

-- ---- a cut that is not refused, where no wire of the shell has the edge there and back
module _ (c : Content) (ok : content_faults c ≡ []) (n e p : ℕ) (at : Parameter) (cut : cut_faults c n e p at ≡ []) (small : AllBelow 65536 c.uses)
    (one_way : some_there_and_back c n e ≡ false) where
  abbrev d : Content
  d = cut_content c n e p at

  abbrev a : ℕ
  a = length c.edges

  -- the uses that a listing shows, before and after
  abbrev part : ℕ → List ℕ
  part l = flat (shown_wires (outlines c) l)

  abbrev part_after : ℕ → List ℕ
  part_after l = flat (shown_wires (outlines d) l)

  abbrev IsClear : List ℕ → Type 0
  IsClear = Clear a p (length c.points) (front_in c) (back_in c)

  abbrev Shown : ℕ → Type 0
  Shown l = All IsClear (shown_wires (outlines c) l) × (shown_wires (outlines d) l ≡ map (halved e a) (shown_wires (outlines c) l))

  shown : All Shown (listings_of c n)
  shown = listings_shown c ok n e p at cut small one_way

  same_wires : (l : ℕ) → Shown l → has_wires (outlines d) l ≡ has_wires (outlines c) l
  same_wires l h =
      let face = get_or (outlines c) (face_number l) [] in
      let face' = get_or (outlines d) (face_number l) [] in
      let long : length face' ≡ length face = omega (
        arith,
        length-map face' (shown_wire l),
        ap length h.1,
        length-map (shown_wires (outlines c) l) (halved e a),
        length-map face (shown_wire l),
      ) in
      ap (ltb 0) long

  same_pairs : shell_pairs d n ≡ shell_pairs c n
  same_pairs =
      ap once (only_same (has_wires (outlines d)) (has_wires (outlines c)) (listings_of c n)
      (all_weaker Shown (λ (l : ℕ). has_wires (outlines d) l ≡ has_wires (outlines c) l) same_wires (listings_of c n) shown))

  pairs_shown : All Shown (shell_pairs c n)
  pairs_shown = all_once Shown (only (has_wires (outlines c)) (listings_of c n)) (all_only Shown (has_wires (outlines c)) (listings_of c n) shown)

  part_uses_lem : (l : ℕ) → Shown l → All (IsUse a) (part l)
  part_uses_lem l h =
      all_flat (IsUse a) (shown_wires (outlines c) l)
      (all_weaker IsClear (All (IsUse a))
      (λ us t. all_weaker (Apart a p (length c.points) (front_in c) (back_in c)) (IsUse a) (λ u k. (k.low, k.named)) us t.1) (shown_wires (outlines c) l) h.0)

  parts_halved : map part_after (shell_pairs c n) ≡ map (halved e a) (map part (shell_pairs c n))
  parts_halved =
      map_same part_after (λ (l : ℕ). halved e a (part l)) (shell_pairs c n)
      (all_weaker Shown (λ (l : ℕ). part_after l ≡ halved e a (part l)) (λ l h. ap flat h.1 ∙ flat_made (halve e a) (shown_wires (outlines c) l)) (shell_pairs c n) pairs_shown)
      ∙ sym (map-map (halved e a) part (shell_pairs c n))

  pub components_kept : components (cut_content c n e p at) n ≡ components c n
  components_kept =
      let t = cut_ends c ok n e p at cut in
      ap (λ (pairs : List ℕ). components_of pairs (map part_after pairs)) same_pairs
      ∙ ap (components_of (shell_pairs c n)) parts_halved
      ∙ components_halved e a t.inside t.few (map part (shell_pairs c n)) (all_map Shown (All (IsUse a)) part part_uses_lem (shell_pairs c n) pairs_shown) (shell_pairs c n)
