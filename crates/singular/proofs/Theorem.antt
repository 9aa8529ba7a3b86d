-- The singular points depend only on which wires there are: a wire listed twice, or at another place, changes nothing, nor does an edge that no wire uses.
use Prim.Native.Nat.{◌*◌, ◌<◌, ◌≤◌, ℕ}
use mathlib.Core.Bool.{not}
use mathlib.Core.List.{List, Memᴰ, map}
use mathlib.Core.Path.{◌∙◌, ◌≡◌, ap}
use native.Mathlib.Omega.{arith}
use lib.ListN.{get_or}
use Rattle.edge.specs.Uses.{edge_number}
use Rattle.groups.proofs.Alike.{Within, in_flat, member_at, of_flat_map, one_group_alike, one_group_larger, within_flat, within_flat_map}
use Rattle.groups.proofs.Laws.{inside_links}
use Rattle.groups.proofs.Meaning.{of_each}
use Rattle.groups.specs.Groups.{Inside, one_group}
use Rattle.lists.proofs.Parts.{all_place, map_same}
use Rattle.lists.proofs.Count.{All, all_each, all_weaker}
use Rattle.lists.specs.Lists.{flat}
use Rattle.shell.proofs.SameEnds.{Same}
use Rattle.shell.specs.Singular.{corners, ends_at, ends_of, is_singular, last_end, singular_of}
use Rattle.singular.proofs.Ends.{Member, Named, all_lasts, all_nexts}
use Rattle.singular.proofs.Lists.{only_alike}
use Rattle.singular.proofs.Singular.{ends_at_below}
use Rattle.singular.specs.Ends.{next_ends}

-- of all, and of each
each : (P : ℕ → Type 0) (xs : List ℕ) → All P xs → (x : ℕ) → Memᴰ x xs → P x
each P xs h = of_each P 0 xs (all_place P 0 xs h)

all : (P : ℕ → Type 0) (xs : List ℕ) → ((x : ℕ) → Memᴰ x xs → P x) → All P xs
all P xs h = all_each P 0 xs (λ k l. h (get_or xs k 0) (member_at 0 xs k l))

corners_inside : (edges : ℕ) (wires : List (List ℕ)) → All (Named edges) (flat wires) → Inside (2 * edges) (flat (map corners wires))
unfolding corners
corners_inside edges wires h l m =
    let r = of_flat_map corners wires m in
    let us = r.0 in
    let named : All (Named edges) us = all (Named edges) us (λ u o. each (Named edges) (flat wires) h u (in_flat wires r.1 o)) in
    inside_links (2 * edges) (map last_end us) (next_ends us)
    (each (Member edges) (map last_end us) (all_lasts edges us named))
    (each (Member edges) (next_ends us) (all_nexts edges us named))
    l r.2

within_ends : (front back : ℕ → ℕ) (q : ℕ) {us vs : List ℕ} → Within us vs → Within (ends_at front back q us) (ends_at front back q vs)
unfolding ends_at
within_ends front back q w = within_flat_map (ends_of front back q) w

-- wires with the same members have the same singular points
pub singular_alike : (front back : ℕ → ℕ) (edges points : ℕ) (wires wires' : List (List ℕ)) → All (λ (u : ℕ). edge_number u < edges) (flat wires)
    → Within wires wires' → Within wires' wires → singular_of front back edges points wires ≡ singular_of front back edges points wires'
unfolding singular_of
singular_alike front back edges points wires wires' h to from =
    let named' : All (Named edges) (flat wires') =
    all (Named edges) (flat wires') (λ u m. each (Named edges) (flat wires) h u (within_flat from u m)) in
    only_alike (is_singular front back edges wires) (is_singular front back edges wires') points
    (λ q l. let at = ends_at front back q (flat wires) in
    ap not
    (one_group_alike (2 * edges) (flat (map corners wires)) (flat (map corners wires')) at (ends_at front back q (flat wires'))
    (corners_inside edges wires h)
    (corners_inside edges wires' named')
    (each (Member edges) at (ends_at_below front back edges q (flat wires) h))
    (within_ends front back q (within_flat to))
    (within_ends front back q (within_flat from))
    (within_flat_map corners to)
    (within_flat_map corners from)))

ends_same : (front back front' back' : ℕ → ℕ) (q : ℕ) (us : List ℕ) → All (Same front back front' back') us → ends_at front' back' q us ≡ ends_at front back q us
unfolding ends_at
ends_same front back front' back' q us h =
    ap flat (map_same (ends_of front' back' q) (ends_of front back q) us
    (all_weaker (Same front back front' back') (λ (u : ℕ). ends_of front' back' q u ≡ ends_of front back q u) (λ u s. rw (s.0, s.1)) us h))

-- edges that no wire uses change nothing
pub singular_more : (front back front' back' : ℕ → ℕ) (edges more points : ℕ) (wires : List (List ℕ)) → edges ≤ more → All (λ (u : ℕ). edge_number u < edges) (flat wires)
    → All (Same front back front' back') (flat wires) → singular_of front' back' more points wires ≡ singular_of front back edges points wires
unfolding singular_of
singular_more front back front' back' edges more points wires l h s =
    only_alike (is_singular front' back' more wires) (is_singular front back edges wires) points
    (λ q k. let at = ends_at front back q (flat wires) in
    ap not
    (ap (one_group (2 * more) (flat (map corners wires))) (ends_same front back front' back' q (flat wires) s)
    ∙ one_group_larger (2 * edges) (2 * more) (flat (map corners wires)) at (omega (arith, l)) (corners_inside edges wires h)
    (each (Member edges) at (ends_at_below front back edges q (flat wires) h))))
