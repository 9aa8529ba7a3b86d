-- The columns are those of a sound pattern: what the functions ask of them, and what they find.
use Prim.Native.Nat.{◌+◌, ◌-◌, ◌<◌, ◌≤◌, ℕ}
use mathlib.Core.List.{List, [], map}
use mathlib.Core.Logic.{∥∥₁_elim}
use mathlib.Core.Path.{◌∙◌, ◌≡◌, ap, sym}
use native.Mathlib.Bridge.{le_prop}
use native.Mathlib.Nat.{ℕ_set}
use native.Mathlib.Numerals.{add-one}
use native.Mathlib.Omega.{arith}
use lib.Ieee.{Float}
use lib.ListN.{drop, get_or, length, length-drop, length-map, length-take, take}
use Rattle.std.proofs.lemmas.List.{nil_from_length}
use Rattle.columns.proofs.Shells.{listings_are, listings_inside}
use Rattle.columns.specs.Columns.{Columns, Made, columns_in, lent}
use Rattle.columns.specs.Sound.{Faultless, OfTables, Sound}
use Rattle.edge.specs.Edges.{back_number, front_number}
use Rattle.listing.specs.Parts.{between}
use Rattle.lists.proofs.Laws.{map_take}
use Rattle.pairs.specs.declared.Pairs.{Pairs}
use Rattle.pairs.specs.Pairs.{Showing, pairs_of}
use Rattle.pattern.proofs.Counts.{points_counted}
use Rattle.pattern.proofs.Passed.{pattern_passed}
use Rattle.pattern.specs.Checks.{count_faults}
use Rattle.pattern.specs.Contents.{Pattern, content}
use Rattle.shell.specs.Shells.{listings_of}
use Rattle.store.specs.Store.{count_table, held, listing_table, use_table, wire_table}
use Rattle.reports.proofs.Groups.{Shown, figured, groups_found, shown, showing_of}
use Rattle.reports.specs.Figures.{Counted, Figured, Grouped}
use Rattle.reports.specs.InHand.{listings_in}
use Rattle.reports.specs.declared.GroupCounts.{GroupCounts}
use Rattle.store.specs.Columns.{back_table, front_table}

module _ (k : Columns) (n : ℕ) (p : Pattern) (s : Sound p) (e : k ≡ columns_in p) (here : n < get_or p.counts 5 0) where
  pub in_places : (get_or k.places n 0 ≤ get_or k.places (n + 1) 0) × (get_or k.places (n + 1) 0 ≤ length k.listings)
  in_places = rw (e, add-one) (let i = listings_inside p s n here in (i.0, omega (arith, i.1, s.full.listings)))

  pub fronts_are : take k.edges k.fronts ≡ map front_number (content p).edges
  fronts_are = rw e (sym (map_take front_number (get_or p.counts 1 0) p.edges))

  pub backs_are : take k.edges k.backs ≡ map back_number (content p).edges
  backs_are = rw e (sym (map_take back_number (get_or p.counts 1 0) p.edges))

  pub points_are : k.points ≡ length (content p).points
  points_are = rw e (sym (points_counted p s.limits s.full))

  pub edges_inside : (k.edges ≤ length k.fronts) × (k.edges ≤ length k.backs)
  edges_inside =
      rw e (
        omega (arith, length-map p.edges front_number, s.limits.edges, s.full.edges),
        omega (arith, length-map p.edges back_number, s.limits.edges, s.full.edges),
      )

  pub k_shown : Shown (listings_in k n) k.uses k.turned k.starts k.wires k.firsts (get_or p.counts 4 0)
  k_shown = rw (e, add-one, listings_are p s n here) (shown p s n here)

  module _ (g : Pairs) (f : g ≡ pairs_of (listings_in k n) k.uses k.turned k.starts k.wires k.firsts) where
    pairs_of_lem : g ≡ pairs_of (between p.listings (get_or (columns_in p).places n 0) (get_or (columns_in p).places (n + 1) 0)) p.uses (columns_in p).turned (columns_in p).starts p.wires (columns_in p).firsts
    pairs_of_lem = rw e at f

    pub k_figured : (out sizes found : List ℕ) → 512 ≤ length out → 512 ≤ length sizes → 2048 ≤ length found
        → Figured g (take k.edges k.fronts) (take k.edges k.backs) k.points out sizes found
    k_figured out sizes found x y z =
        rw (fronts_are, backs_are, points_are)
        (figured p s n here g (rw (add-one, listings_are p s n here) at pairs_of_lem) out sizes found x y z)

    pub k_groups : {out₀ sizes₀ found₀ out sizes found : List ℕ} {r : GroupCounts}
        → Counted g (take k.edges k.fronts) (take k.edges k.backs) k.points out₀ sizes₀ found₀ out sizes found r
        → Grouped (content p) n out₀ sizes₀ found₀ out sizes found r
    k_groups h = groups_found p s n here g (rw (add-one, listings_are p s n here) at pairs_of_lem) (rw (fronts_are, backs_are, points_are) at h)

-- ---- the same from the tables
module _ {t turned starts firsts places : List ℕ} (m : Made t turned starts firsts places) where
  abbrev K : Columns
  K = lent t turned starts firsts places

  -- a fact that has one proof at most, from a pattern without fault that has these tables
  pub by_pattern : {A : Type 0} → IsProp A → ((spans : List Float) → Sound (held t spans) → K ≡ columns_in (held t spans) → A) → A
  by_pattern one f = ∥∥₁_elim m.faultless one (λ (w : Faultless t). let k = m.all w.spans w.ok in f w.spans k.0 k.1)

  module _ {n : ℕ} (here : n < get_or (count_table t) 5 0) where
    -- where the listings of a shell stand
    pub shell_inside : n < 16
    shell_inside = by_pattern (hlevel le_prop) (λ spans s e. omega (arith, here, s.limits.shells))

    pub shell_listed : (get_or places n 0 ≤ get_or places (n + 1) 0) × (get_or places (n + 1) 0 ≤ length (listing_table t))
    shell_listed = by_pattern (hlevel le_prop) (λ spans s e. in_places K n _ s e here)

    pub listings_few : length (listing_table t) ≡ 512
    listings_few = by_pattern (hlevel ℕ_set) (λ spans s e. s.full.listings)

    pub counts_fit : count_faults (count_table t) ≡ []
    counts_fit = nil_from_length (count_faults (count_table t)) (by_pattern (hlevel ℕ_set) (λ spans s e. ap length (pattern_passed (held t spans) s.ok).counts))

    pub edges_fit : (get_or (count_table t) 1 0 ≤ length (front_table t)) × (get_or (count_table t) 1 0 ≤ length (back_table t))
    edges_fit = by_pattern (hlevel le_prop) (λ spans s e. edges_inside K n _ s e here)

    -- how many they are
    pub listings_count : OfTables t (λ p. get_or places (n + 1) 0 - get_or places n 0 ≡ length (listings_of (content p) n))
    listings_count spans ok =
        let p = held t spans in
        let s = (m.all spans ok).0 in
        let e = (m.all spans ok).1 in
        let i = in_places K n p s e here in
        let same : listings_in K n ≡ listings_of (content p) n = ap (λ (c : Columns). listings_in c n) e ∙ rw add-one (listings_are p s n here) in
        omega (arith, i.0, i.1, ap length same, length-take (get_or places (n + 1) 0 - get_or places n 0) (drop (get_or places n 0) (listing_table t)), length-drop (get_or places n 0) (listing_table t))

    -- its pairs and their groups
    pub lent_showing : Showing (listings_in K n) (use_table t) turned starts (wire_table t) firsts
    lent_showing =
        let w : Shown (listings_in K n) (use_table t) turned starts (wire_table t) firsts (get_or (count_table t) 4 0) = by_pattern (hlevel le_prop) (λ spans s e. k_shown K n _ s e here) in
        showing_of w

    module _ (g : Pairs) (f : g ≡ pairs_of (listings_in K n) (use_table t) turned starts (wire_table t) firsts) where
      pub lent_figured : (out sizes found : List ℕ) → 512 ≤ length out → 512 ≤ length sizes → 2048 ≤ length found
          → Figured g (take (get_or (count_table t) 1 0) (front_table t)) (take (get_or (count_table t) 1 0) (back_table t)) (get_or (count_table t) 0 0) out sizes found
      lent_figured out sizes found x y z = by_pattern (hlevel (le_prop, ℕ_set)) (λ spans s e. k_figured K n _ s e here g f out sizes found x y z)

      pub lent_groups : {out₀ sizes₀ found₀ out sizes found : List ℕ} {r : GroupCounts}
          → Counted g (take (get_or (count_table t) 1 0) (front_table t)) (take (get_or (count_table t) 1 0) (back_table t)) (get_or (count_table t) 0 0) out₀ sizes₀ found₀ out sizes found r
          → OfTables t (λ p. Grouped (content p) n out₀ sizes₀ found₀ out sizes found r)
      lent_groups h spans ok = let k = m.all spans ok in k_groups K n _ k.0 k.1 here g f h
