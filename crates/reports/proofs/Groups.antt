-- The groups that the columns of the pairs give are those of the shell.
use Prim.Native.Nat.{◌+◌, ◌-◌, ◌<◌, ◌≤◌, suc, ℕ}
use mathlib.Core.Bool.{false}
use mathlib.Core.List.{List, [], ◌∷◌, map, map-map}
use mathlib.Core.Path.{◌∙◌, ◌≡◌, ap, refl, sym}
use native.Mathlib.Omega.{arith}
use lib.ListN.{drop, get_or, length, length-append, length-map, length-replicate, length-take, replicate, take}
use lib.Seq.{get_or-drop, get_or-take, sets, take-append_seam}
use Rattle.columns.proofs.Shells.{first_is, firsts_long, listings_are, listings_inside, records_fine, shell_named, start_is, starts_long, turned_full}
use Rattle.columns.specs.Columns.{columns_in, first_use, first_wire}
use Rattle.columns.specs.Sound.{Sound}
use Rattle.components.proofs.Roots.{components_few, components_long}
use Rattle.components.specs.Pairs.{Paired}
use Rattle.connected.proofs.Theorem.{Placed as Placed·faces, connected_alike}
use Rattle.connected.specs.Wired.{Wired}
use Rattle.edge.specs.Edges.{back_number, front_number}
use Rattle.edge.specs.Uses.{back_of, edge_number, front_of}
use Rattle.face.specs.Faces.{wire_count}
use Rattle.groups.proofs.Alike.{within_flat_map, within_map}
use Rattle.groups.proofs.Members.{all_member, in_once, of_once}
use Rattle.listing.proofs.Laws.{Placed, starts_inside, starts_rise}
use Rattle.listing.specs.Parts.{part_at}
use Rattle.lists.proofs.Parts.{all_place, length_only, split_flat}
use Rattle.lists.proofs.Count.{All, all_flat_map, all_map, all_weaker}
use Rattle.lists.proofs.Laws.{length_tabulate, sum_next, sum_take_drop}
use Rattle.lists.specs.Lists.{flat, numbers, only, padded, split, sum}
use Rattle.pairs.proofs.Columns.{lens_room, showing_few, uses_room}
use Rattle.pairs.specs.declared.Pairs.{Pairs}
use Rattle.pairs.specs.Pairs.{Rows, Showing, lens_at, pairs_in, pairs_of}
use Rattle.pattern.proofs.Counts.{edges_counted, faces_counted, points_counted, uses_counted, wires_counted}
use Rattle.pattern.proofs.Named.{faces_summed, wires_summed}
use Rattle.pattern.specs.Checks.{outlines}
use Rattle.pattern.specs.Contents.{Pattern, content}
use Rattle.reports.proofs.Alike.{flat_only, no_wires}
use Rattle.reports.proofs.Faces.{Held, flat_lengths, flat_uses, held_parts, held_wires, pair_lens, pair_parts, pair_faces, pairs_are, pairs_named}
use Rattle.reports.proofs.Ready.{Some, listing_some, listings_placed, use_back_lem, use_edge, use_front_lem}
use Rattle.reports.specs.Figures.{Counted, Figured, Grouped, pair_groups, pair_singular, pair_wires}
use Rattle.reports.specs.declared.GroupCounts.{GroupCounts}
use Rattle.shell.specs.Components.{components, components_of, has_wires, shell_pairs}
use Rattle.shell.specs.Connected.{connected, connected_of, face_links}
use Rattle.shell.specs.Shells.{face_number, listings_of, shell_faces, shell_wires, shown_wires}
use Rattle.shell.specs.Singular.{is_singular, singular_of, singular_points}
use Rattle.shell.specs.Openings.{back_in, front_in}
use Rattle.groups.specs.Groups.{links}
use Rattle.singular.proofs.Theorem.{singular_alike}
use Rattle.singular.specs.Ends.{Cornered}

-- listings of so many faces that have their uses and their wires in columns
abbrev pub Shown : List ℕ → List ℕ → List ℕ → List ℕ → List ℕ → List ℕ → ℕ → Type 0
Shown listings uses turned starts wires firsts faces =
    (length listings ≤ 512) × (faces ≤ 256)
    × ((k : ℕ) → k < length listings → face_number (get_or listings k 0) < faces)
    × ((k : ℕ) → k < length listings → get_or listings k 0 < 65536)
    × Rows uses turned starts faces 4096
    × Rows wires wires firsts faces 1024

pub showing_of : {listings uses turned starts wires firsts : List ℕ} {faces : ℕ} → Shown listings uses turned starts wires firsts faces → Showing listings uses turned starts wires firsts
showing_of {faces = faces} w = record { few = w.0; faces = faces; low = w.1; named = w.2; small = w.3; shown = w.4; wired = w.5 }

pub sum_lengths : {A : Type 0} (xss : List (List A)) → sum (map length xss) ≡ length (flat xss)
unfolding sum flat
sum_lengths [] = refl
sum_lengths (xs ∷ xss) = omega (arith, length-append xs (flat xss), sum_lengths xss)

lengths_mapped : {A : Type 0} (xss : List (List (List A))) → map (λ (ys : List (List A)). length (map length ys)) xss ≡ map length xss
lengths_mapped [] = refl
lengths_mapped (ys ∷ xss) = rw (length-map ys length, lengths_mapped xss)

-- a list that an array begins with ends inside it
pub first_in_lem : (m : ℕ) (xs ys : List ℕ) (k : ℕ) → ys ≡ padded m 0 xs → k ≡ length xs → k ≤ length ys
first_in_lem m xs ys k e h = omega (arith, ap length e, h, length-append xs (replicate (m - length xs) 0))

module _ (p : Pattern) (s : Sound p) where
  abbrev fs : List ℕ
  fs = map front_number (content p).edges

  abbrev bs : List ℕ
  bs = map back_number (content p).edges

  edges_long : length fs ≡ length (content p).edges
  edges_long = length-map (content p).edges front_number

  edges_few : length (content p).edges ≤ 1024
  edges_few = omega (arith, edges_counted p s.limits s.full, s.limits.edges)

  points_few : length (content p).points ≤ 2048
  points_few = omega (arith, points_counted p s.limits s.full, s.limits.points)

  -- the parts of the faces follow each other
  uses_rows : Rows p.uses (columns_in p).turned (columns_in p).starts (get_or p.counts 4 0) 4096
  uses_rows =
      let counts = map wire_count (content p).faces in
      let end = start_is p s (get_or p.counts 4 0) (omega arith) in
      let inside : first_use p (get_or p.counts 4 0) ≤ get_or p.counts 2 0 =
      omega (arith, starts_inside counts (content p).wires (content p).uses (wires_summed (content p) (records_fine p s)) (get_or p.counts 4 0), uses_counted p s.limits s.full) in
      record {
        begun = omega (arith, s.limits.faces, starts_long p s);
        rises = λ f h. rw (start_is p s f (omega arith), start_is p s (suc f) (omega arith)) (starts_rise counts (content p).wires f);
        short = omega (arith, end, inside, s.limits.uses);
        along = omega (arith, end, inside, s.limits.uses, s.full.uses);
        back = omega (arith, end, inside, s.limits.uses, turned_full p s);
      }

  wires_rows : Rows p.wires p.wires (columns_in p).firsts (get_or p.counts 4 0) 1024
  wires_rows =
      let counts = map wire_count (content p).faces in
      let end = first_is p s (get_or p.counts 4 0) (omega arith) in
      let inside : first_wire p (get_or p.counts 4 0) ≤ get_or p.counts 3 0 =
      omega (arith, sum_take_drop (get_or p.counts 4 0) counts, faces_summed (content p) (records_fine p s), wires_counted p s.limits s.full) in
      record {
        begun = omega (arith, s.limits.faces, firsts_long p s);
        rises = λ f h. rw (first_is p s f (omega arith), first_is p s (suc f) (omega arith)) (omega (arith, sum_next counts f));
        short = omega (arith, end, inside, s.limits.wires);
        along = omega (arith, end, inside, s.limits.wires, s.full.wires);
        back = omega (arith, end, inside, s.limits.wires, s.full.wires);
      }

  module _ (n : ℕ) (here : n < get_or p.counts 5 0) where
    abbrev ls : List ℕ
    ls = listings_of (content p) n

    abbrev first : ℕ
    first = get_or (columns_in p).places n 0

    abbrev end : ℕ
    end = get_or (columns_in p).places (suc n) 0

    listings_few : length (listings_of (content p) n) ≤ 512
    listings_few =
        let i = listings_inside p s n here in
        rw (← listings_are p s n here) (omega (arith, length-take (end - first) (drop first p.listings), i.1))

    listing_small : (k : ℕ) → k < length (listings_of (content p) n) → get_or (listings_of (content p) n) k 0 < 65536
    listing_small k h =
        let e = listings_are p s n here in
        let l : k < length (take (end - first) (drop first p.listings)) = rw e h in
        let b : k < end - first = omega (arith, l, length-take (end - first) (drop first p.listings)) in
        rw (← e, get_or-take (end - first) (drop first p.listings) k 0 b, get_or-drop first p.listings k 0) (s.listings (first + k))

    pub shown : Shown (listings_of (content p) n) p.uses (columns_in p).turned (columns_in p).starts p.wires (columns_in p).firsts (get_or p.counts 4 0)
    shown = (
      listings_few,
      s.limits.faces,
      λ k h.
          let m = all_place (λ (l : ℕ). face_number l < length (content p).faces) 0 (listings_of (content p) n) (shell_named p s n) k h in
          omega (arith, m, faces_counted p s.limits s.full),
      listing_small,
      uses_rows,
      wires_rows,
    )

    showing : Showing (listings_of (content p) n) p.uses (columns_in p).turned (columns_in p).starts p.wires (columns_in p).firsts
    showing = showing_of shown

    abbrev P : List ℕ
    P = shell_pairs (content p) n

    abbrev F : List (List (List ℕ))
    F = pair_faces p s n

    all_placed : All (Placed (content p)) (flat (flat F))
    all_placed = rw (← flat_uses F, map-map flat (shown_wires (outlines (content p))) P) (listings_placed p s P (pairs_named p s n))

    all_some : All Some (flat F)
    all_some = all_flat_map Some (shown_wires (outlines (content p))) (listing_some p s) P

    -- the arrays that hold the pairs
    module _ (g : Pairs) (e : g ≡ pairs_of (listings_of (content p) n) p.uses (columns_in p).turned (columns_in p).starts p.wires (columns_in p).firsts) where
      same : pairs_in (listings_of (content p) n) (columns_in p).firsts ≡ P
      same = pairs_are p s n

      number_is : g.number ≡ length P
      unfolding pairs_of
      number_is = ap (λ (r : Pairs). r.number) e ∙ ap length same

      wires_is : g.wires ≡ length (map length (flat F))
      unfolding pairs_of
      wires_is = ap (λ (r : Pairs). r.wires) e ∙ rw (same, pair_lens p s n, flat_lengths F)

      uses_is : g.uses ≡ length (flat (flat F))
      unfolding pairs_of
      uses_is = ap (λ (r : Pairs). r.uses) e ∙ rw (same, pair_parts p s n, flat_uses F)

      pairs_hold : g.pairs ≡ padded 512 0 P
      unfolding pairs_of
      pairs_hold = ap (λ (r : Pairs). r.pairs) e ∙ rw same

      counts_hold : g.counts ≡ padded 512 0 (map length F)
      unfolding pairs_of
      counts_hold =
          ap (λ (r : Pairs). r.counts) e
          ∙ rw (same, ← map-map length (lens_at p.wires (columns_in p).firsts) P, pair_lens p s n, map-map length (map length) F, lengths_mapped F)

      spans_hold : g.spans ≡ padded 512 0 (map (λ (wires : List (List ℕ)). length (flat wires)) F)
      unfolding pairs_of
      spans_hold =
          ap (λ (r : Pairs). r.spans) e
          ∙ rw (same, ← map-map length (part_at p.uses (columns_in p).turned (columns_in p).starts) P, pair_parts p s n, map-map length flat F)

      lens_hold : g.lens ≡ padded 2048 0 (map length (flat F))
      unfolding pairs_of
      lens_hold = ap (λ (r : Pairs). r.lens) e ∙ rw (same, pair_lens p s n, flat_lengths F)

      shown_hold : g.shown ≡ padded 8192 0 (flat (flat F))
      unfolding pairs_of
      shown_hold = ap (λ (r : Pairs). r.shown) e ∙ rw (same, pair_parts p s n, flat_uses F)

      -- of each the first numbers
      pairs_first : take g.number g.pairs ≡ P
      pairs_first = rw (number_is, pairs_hold) (take-append_seam P (replicate (512 - length P) 0))

      held : Held F (take g.number g.counts) (take g.number g.spans) (take g.wires g.lens) (take g.uses g.shown)
      held =
          let spans = map (λ (wires : List (List ℕ)). length (flat wires)) F in
          let k : length P ≡ length (map length F) = sym (length-map F length ∙ length-map P (shown_wires (outlines (content p)))) in
          let m : length P ≡ length spans = sym (length-map F (λ (wires : List (List ℕ)). length (flat wires)) ∙ length-map P (shown_wires (outlines (content p)))) in
          record {
            counts_are = rw (number_is, counts_hold, k) (take-append_seam (map length F) (replicate (512 - length (map length F)) 0));
            spans_are = rw (number_is, spans_hold, m) (take-append_seam spans (replicate (512 - length spans) 0));
            lens_are = rw (wires_is, lens_hold) (take-append_seam (map length (flat F)) (replicate (2048 - length (map length (flat F))) 0));
            uses_are = rw (uses_is, shown_hold) (take-append_seam (flat (flat F)) (replicate (8192 - length (flat (flat F))) 0));
          }

      pairs_few : length P ≤ 512
      pairs_few = rw (← same) (showing_few showing)

      wires_few : length (map length (flat F)) ≤ 2048
      wires_few = rw (← flat_lengths F, ← pair_lens p s n, ← same) (lens_room showing)

      uses_few : length (flat (flat F)) ≤ 8192
      uses_few = rw (← flat_uses F, ← pair_parts p s n, ← same) (uses_room showing)

      alike : length bs ≡ length fs
      alike = length-map (content p).edges back_number ∙ sym edges_long

      edge_named : (k : ℕ) → k < length (flat (flat F)) → edge_number (get_or (flat (flat F)) k 0) < length fs
      edge_named k h = rw edges_long (use_edge p s (flat (flat F)) all_placed k h)

      summed : sum (map length (flat F)) ≡ length (flat (flat F))
      summed = sum_lengths (flat F)

      some_uses : (k : ℕ) → k < length (map length (flat F)) → 0 < get_or (map length (flat F)) k 0
      some_uses k h = all_place (λ (m : ℕ). 0 < m) 0 (map length (flat F)) (all_map Some (λ (m : ℕ). 0 < m) length (λ us o. o) (flat F) all_some) k h

      faces_wired : Wired (flat (flat F)) (map length (flat F)) (map length F) fs bs (length (content p).points)
      faces_wired = record {
        cut = record { few = wires_few; summed = summed; some = some_uses };
        counted = sum_lengths F ∙ sym (length-map (flat F) length);
        few = uses_few;
        low = points_few;
        paired = alike;
        edges = edge_named;
        starts = use_front_lem p s (flat (flat F)) all_placed;
        ends = use_back_lem p s (flat (flat F)) all_placed;
      }

      abbrev spans_of : List ℕ
      spans_of = map (λ (wires : List (List ℕ)). length (flat wires)) F

      spans_long : length spans_of ≡ length P
      spans_long = length-map F (λ (wires : List (List ℕ)). length (flat wires)) ∙ length-map P (shown_wires (outlines (content p)))

      faces_paired : (out sizes : List ℕ) → 512 ≤ length out → 512 ≤ length sizes → Paired P spans_of (flat (flat F)) (length fs) out sizes
      faces_paired out sizes room₁ room₂ = record {
        alike = spans_long;
        shown = record {
          few = omega (arith, spans_long, pairs_few);
          summed = ap sum (sym (map-map length flat F)) ∙ sum_lengths (map flat F) ∙ ap length (flat_uses F);
          short = uses_few;
          low = omega (arith, edges_long, edges_few);
          within = edge_named;
        };
        members = omega (arith, pairs_few);
        groups = omega (arith, pairs_few);
      }

      faces_cornered : (found : List ℕ) → 2048 ≤ length found → Cornered (flat (flat F)) (map length (flat F)) fs bs (length (content p).points) found
      faces_cornered found room = record {
        wired = record { summed = summed; few_uses = uses_few; few_edges = omega (arith, edges_long, edges_few); edge = edge_named };
        alike = alike;
        few_points = points_few;
        room = omega (arith, points_few);
        front = use_front_lem p s (flat (flat F)) all_placed;
        back = use_back_lem p s (flat (flat F)) all_placed;
      }

      pub figured : (out sizes found : List ℕ) → 512 ≤ length out → 512 ≤ length sizes → 2048 ≤ length found → Figured g fs bs (length (content p).points) out sizes found
      figured out sizes found x y z = record {
        pairs = first_in_lem 512 P g.pairs g.number pairs_hold number_is;
        counts = first_in_lem 512 (map length F) g.counts g.number counts_hold (number_is ∙ sym (length-map F length ∙ length-map P (shown_wires (outlines (content p)))));
        spans = first_in_lem 512 spans_of g.spans g.number spans_hold (number_is ∙ sym spans_long);
        lens = first_in_lem 2048 (map length (flat F)) g.lens g.wires lens_hold wires_is;
        shown = first_in_lem 8192 (flat (flat F)) g.shown g.uses shown_hold uses_is;
        wired = rw (held.uses_are, held.lens_are, held.counts_are) faces_wired;
        paired = rw (pairs_first, held.spans_are, held.uses_are) (faces_paired out sizes x y);
        cornered = rw (held.uses_are, held.lens_are) (faces_cornered found z);
      }

      -- ---- what is found
      abbrev front : ℕ → ℕ
      front = front_of fs bs

      abbrev back : ℕ → ℕ
      back = back_of fs bs

      abbrev points : ℕ
      points = length (content p).points

      -- the listings of faces with wires
      abbrev ws : List ℕ
      ws = only (has_wires (outlines (content p))) ls

      abbrev W : List (List (List ℕ))
      W = map (shown_wires (outlines (content p))) ws

      placed_faces : Placed·faces front back points F
      placed_faces = record {
        some = all_member Some (flat F) all_some;
        below = λ u m. let o = all_member (Placed (content p)) (flat (flat F)) all_placed u m in (o.1, o.2);
      }

      -- a face without wires has no links and no uses
      bare_links : (l : ℕ) → has_wires (outlines (content p)) l ≡ false → face_links front back (shown_wires (outlines (content p)) l) ≡ []
      unfolding face_links links flat
      bare_links l h = rw (no_wires (outlines (content p)) l h)

      bare_uses : (l : ℕ) → has_wires (outlines (content p)) l ≡ false → flat (shown_wires (outlines (content p)) l) ≡ []
      unfolding flat
      bare_uses l h = rw (no_wires (outlines (content p)) l h)

      flat_wires : (us : List ℕ) → flat (flat (map (shown_wires (outlines (content p))) us)) ≡ flat (map (λ (l : ℕ). flat (shown_wires (outlines (content p)) l)) us)
      flat_wires us = sym (flat_uses (map (shown_wires (outlines (content p))) us)) ∙ ap flat (map-map flat (shown_wires (outlines (content p))) us)

      dropped : connected_of front back points W ≡ connected_of front back points (shell_faces (content p) n)
      unfolding connected_of
      dropped =
          rw (
            map-map (face_links front back) (shown_wires (outlines (content p))) ws,
            map-map (face_links front back) (shown_wires (outlines (content p))) ls,
            flat_wires ws,
            flat_wires ls,
            flat_only (has_wires (outlines (content p))) (λ (l : ℕ). face_links front back (shown_wires (outlines (content p)) l)) bare_links ls,
            flat_only (has_wires (outlines (content p))) (λ (l : ℕ). flat (shown_wires (outlines (content p)) l)) bare_uses ls,
          )

      connected_is : connected_of front back points F ≡ connected (content p) n
      connected_is =
          connected_alike front back points F W placed_faces
          (within_map (shown_wires (outlines (content p))) (of_once ws)) (within_map (shown_wires (outlines (content p))) (in_once ws))
          ∙ dropped

      named_edges : All (λ (u : ℕ). edge_number u < length fs) (flat (flat F))
      named_edges = all_weaker (Placed (content p)) (λ (u : ℕ). edge_number u < length fs) (λ u o. rw edges_long o.0.1) (flat (flat F)) all_placed

      singular_is : singular_of front back (length fs) points (flat F) ≡ singular_points (content p) n
      unfolding shell_wires
      singular_is =
          singular_alike front back (length fs) points (flat F) (flat W) named_edges
          (within_flat_map (shown_wires (outlines (content p))) (of_once ws)) (within_flat_map (shown_wires (outlines (content p))) (in_once ws))
          ∙ rw (edges_long, flat_only (has_wires (outlines (content p))) (shown_wires (outlines (content p))) (no_wires (outlines (content p))) ls)

      components_is : components_of P (map flat F) ≡ components (content p) n
      components_is = rw (map-map flat (shown_wires (outlines (content p))) P)

      abbrev room : Paired P spans_of (flat (flat F)) (length fs) (replicate 512 0) (replicate 512 0)
      room = faces_paired (replicate 512 0) (replicate 512 0) (omega (arith, length-replicate {A = ℕ} 512 0)) (omega (arith, length-replicate {A = ℕ} 512 0))

      groups_long : length (flat (components_of P (split spans_of (flat (flat F))))) ≡ length P
      groups_long = components_long spans_of (flat (flat F)) (length fs) room.shown P (replicate 512 0) (replicate 512 0) room

      groups_few : length (components_of P (split spans_of (flat (flat F)))) ≤ length P
      groups_few = components_few spans_of (flat (flat F)) (length fs) room.shown P (replicate 512 0) (replicate 512 0) room

      held_now : Held F (map length F) spans_of (map length (flat F)) (flat (flat F))
      held_now = record { counts_are = refl; spans_are = refl; lens_are = refl; uses_are = refl }

      singular_few : length (singular_points (content p) n) ≤ 2048
      unfolding singular_of
      singular_few =
          omega (arith, length_only (is_singular (front_in (content p)) (back_in (content p)) (length (content p).edges) (shell_wires (content p) n)) (numbers points), length_tabulate points (λ (k : ℕ). k), points_few)

      parts_are : components_of P (split spans_of (flat (flat F))) ≡ components (content p) n
      parts_are = rw (held_parts held_now) components_is

      groups_are : pair_groups g ≡ components (content p) n
      groups_are = rw (pairs_first, held.spans_are, held.uses_are) parts_are

      corners_are : pair_singular g fs bs points ≡ singular_points (content p) n
      corners_are = rw (held.uses_are, held.lens_are, held_wires held_now) singular_is

      linked_are : connected_of front back points (split (take g.number g.counts) (pair_wires g)) ≡ connected (content p) n
      linked_are = rw (held.uses_are, held.lens_are, held.counts_are, held_wires held_now, split_flat F) connected_is

      pub members_are : length (flat (components (content p) n)) ≡ length P
      members_are = rw (← parts_are) groups_long

      pub groups_found : {out₀ sizes₀ found₀ out sizes found : List ℕ} {r : GroupCounts} → Counted g fs bs points out₀ sizes₀ found₀ out sizes found r
          → Grouped (content p) n out₀ sizes₀ found₀ out sizes found r
      groups_found {out₀} {sizes₀} {found₀} {out} {sizes} {found} {r} c = record {
        counts = λ i. record {
          connected = (c.connected ∙ linked_are) i;
          components = (c.components ∙ ap length groups_are) i;
          members = (c.members ∙ number_is ∙ sym members_are) i;
          singular = (c.singular ∙ ap length corners_are) i;
        };
        pairs = c.pairs ∙ ap (λ (cs : List (List ℕ)). sets out₀ 0 (flat cs)) groups_are;
        lengths = c.lengths ∙ ap (λ (cs : List (List ℕ)). sets sizes₀ 0 (map length cs)) groups_are;
        points = c.corners ∙ ap (sets found₀ 0) corners_are;
      }

-- ---- how many there are of each
module _ (p : Pattern) (s : Sound p) (n : ℕ) (here : n < get_or p.counts 5 0) where
  abbrev own : Pairs
  own = pairs_of (listings_of (content p) n) p.uses (columns_in p).turned (columns_in p).starts p.wires (columns_in p).firsts

  pub pairs_bound : length (flat (components (content p) n)) ≤ 512
  pairs_bound = omega (arith, members_are p s n here own refl, pairs_few p s n here own refl)

  pub components_bound : length (components (content p) n) ≤ 512
  components_bound = rw (← parts_are p s n here own refl) (omega (arith, groups_few p s n here own refl, pairs_few p s n here own refl))

  pub singular_bound : length (singular_points (content p) n) ≤ 2048
  singular_bound = singular_few p s n here own refl
