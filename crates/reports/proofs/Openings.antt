-- The tally, the condition and the walk of a shell of a sound pattern, from its columns.
use Prim.Native.Nat.{◌%◌, ◌*◌, ◌-◌, ◌<◌, ◌≤◌, ℕ}
use mathlib.Core.Bool.{Bool-set}
use mathlib.Core.List.{List, [], map}
use mathlib.Core.Path.{◌∙◌, ◌≡◌, ap, refl, sym}
use native.Mathlib.Bridge.{le_prop}
use native.Mathlib.Nat.{ℕ_set}
use native.Mathlib.Numerals.{add-one}
use native.Mathlib.Omega.{arith}
use lib.ListN.{get_or, length, length-append, length-map, length-replicate, replicate, take}
use Rattle.columns.proofs.Shells.{content_fine, listings_are, uses_small}
use Rattle.columns.specs.Columns.{Columns, Made, columns_in, lent}
use Rattle.columns.specs.Sound.{OfTables, Sound}
use Rattle.condition.proofs.Laws.{tallied_none, tallied_part}
use Rattle.condition.proofs.Theorem.{tally_condition}
use Rattle.condition.specs.Tallies.{Tallied, condition_in, inserted_all, odds_in, state_of}
use Rattle.condition.specs.declared.Condition.{Condition}
use Rattle.condition.specs.declared.Tally.{Tally}
use Rattle.edge.specs.Edges.{back_number, front_number}
use Rattle.edge.specs.Uses.{back_of, front_of}
use Rattle.extract.proofs.Free.{tally_free}
use Rattle.extract.specs.Listings.{AllTally, AllWalk, Extractable, Written, no_uses, nowhere}
use Rattle.listing.proofs.Laws.{Placed}
use Rattle.lists.proofs.Count.{All, all_weaker}
use Rattle.lists.specs.Lists.{flat, tabulate}
use Rattle.openings.specs.declared.Walked.{Walked}
use Rattle.pattern.proofs.Counts.{edges_counted, points_counted}
use Rattle.pattern.specs.Contents.{Pattern, content}
use Rattle.reports.proofs.Columned.{backs_are, by_pattern, fronts_are, points_are}
use Rattle.reports.proofs.Ready.{all_tally, all_walk, shell_placed, use_front_lem, uses_are}
use Rattle.reports.proofs.Closed.{closed_walk}
use Rattle.reports.specs.Figures.{Opened}
use Rattle.reports.specs.InHand.{listings_in, uses_in}
use Rattle.shell.proofs.Level.{IsUse}
use Rattle.shell.proofs.Theorem.{promised}
use Rattle.shell.specs.Conditions.{condition}
use Rattle.shell.specs.Openings.{Walk, shell_walk, walk_of}
use Rattle.shell.specs.Shells.{shell_uses}
use Rattle.store.specs.Columns.{back_table, front_table}
use Rattle.store.specs.Store.{count_table, use_table}

-- a condition is its number
condition_is : (w : Condition) (i : ℕ) → w.0 ≡ i → w ≡ record { 0 = i }
condition_is w i e = ap (λ (j : ℕ). record { 0 = j }) e

module _ (k : Columns) (n : ℕ) (p : Pattern) (s : Sound p) (e : k ≡ columns_in p) (here : n < get_or p.counts 5 0) where
  abbrev us : List ℕ
  us = shell_uses (content p) n

  pub k_uses : uses_in k n ≡ shell_uses (content p) n
  k_uses = rw (e, add-one, listings_are p s n here) (uses_are p s n)

  pub k_tally : AllTally k.uses k.turned k.starts (listings_in k n)
  k_tally = rw (e, add-one, listings_are p s n here) (all_tally p s n)

  pub k_walk : AllWalk k.uses k.turned k.starts (take k.edges k.fronts) (take k.edges k.backs) (listings_in k n)
  k_walk = rw (fronts_are k n p s e here, backs_are k n p s e here, e, add-one, listings_are p s n here) (all_walk p s n)

  edges_are : k.edges ≡ length (content p).edges
  edges_are = rw e (sym (edges_counted p s.limits s.full))

  pub edges_few : k.edges ≤ 1024
  edges_few = rw e s.limits.edges

  named : All (IsUse k.edges) us
  named = all_weaker (Placed (content p)) (IsUse k.edges) (λ u h. (h.0.0, omega (arith, h.0.1, edges_are))) us (shell_placed p s n)

  module _ (t : Tally) (made : t ≡ inserted_all no_uses (uses_in k n)) where
    made_of : t ≡ inserted_all no_uses us
    made_of = made ∙ ap (inserted_all no_uses) k_uses

    odds_long : 1024 ≤ length (odds_in t k.edges)
    odds_long =
        let f : ℕ → ℕ = λ (i : ℕ). 16 * (state_of t i % 2) in
        let m = 1024 - length (tabulate k.edges f) in
        omega (arith, length-append (tabulate k.edges f) (replicate m 0), length-replicate {A = ℕ} m 0)

    wide : All (IsUse 1024) us
    wide = all_weaker (IsUse k.edges) (IsUse 1024) (λ u i. (i.0, omega (arith, i.1, edges_few))) us named

    tallied : Tallied us t
    tallied = rw made_of (tallied_part [] us no_uses (tallied_none no_uses refl refl) wide)

    pub k_extractable : (odd out lens : List ℕ) → odd ≡ odds_in t k.edges → 2048 ≤ length out → 2048 ≤ length lens
        → Extractable (uses_in k n) odd (take k.edges k.fronts) (take k.edges k.backs) k.points out lens
    k_extractable odd out lens o a b =
        let fs = map front_number (content p).edges in
        let bs = map back_number (content p).edges in
        rw (k_uses, fronts_are k n p s e here, backs_are k n p s e here, points_are k n p s e here, o) (record {
          alike = length-map (content p).edges back_number ∙ sym (length-map (content p).edges front_number);
          edges = omega (arith, length-map (content p).edges front_number, edges_are, edges_few);
          tallied = omega (arith, length-map (content p).edges front_number, edges_are, edges_few, odds_long);
          places = omega (arith, points_counted p s.limits s.full, s.limits.points);
          inside = use_front_lem p s us (shell_placed p s n);
          free = λ i l. tally_free us t k.edges made_of named edges_few i l;
          uses = a;
          lengths = b;
        })

    pub k_condition : condition_in t k.edges ≡ condition us
    k_condition = tally_condition us t k.edges tallied named edges_few

    abbrev front : ℕ → ℕ
    front = front_of (take k.edges k.fronts) (take k.edges k.backs)

    abbrev back : ℕ → ℕ
    back = back_of (take k.edges k.fronts) (take k.edges k.backs)

    -- the walk, from the columns
    abbrev walked : Walk
    walked = walk_of front back k.points (uses_in k n)

    pub k_closed : (w : Condition) → w.0 ≡ condition_in t k.edges → w.0 ≡ 3 → (out₀ lens₀ : List ℕ)
        → Written walked out₀ lens₀ out₀ lens₀ nowhere
    unfolding flat
    k_closed w is closed out₀ lens₀ =
        rw (closed_walk front back k.points (uses_in k n) (ap condition k_uses ∙ sym k_condition ∙ sym is ∙ closed))
        (record { uses = refl; lengths = refl; place = refl; number = refl; asked = refl; few = (omega arith, omega arith, omega arith) })

    module _ (w : Condition) (is : w.0 ≡ condition_in t k.edges) {out₀ lens₀ out lens : List ℕ} {r : Walked} (h : Written walked out₀ lens₀ out lens r) where
      walk_is : Written (shell_walk (content p) n) out₀ lens₀ out lens r
      walk_is = rw (k_uses, fronts_are k n p s e here, backs_are k n p s e here, points_are k n p s e here) at h

      pub k_openings : Opened (content p) n out₀ lens₀ out lens (record { condition = w; openings = r.openings; used = r.at; lookups = r.lookups })
      k_openings = record {
        counts = rw (condition_is w _ (is ∙ k_condition), walk_is.number, walk_is.place, walk_is.asked);
        uses = walk_is.uses;
        lengths = walk_is.lengths;
        promised = promised (content p) (content_fine p s) (uses_small p s) n;
      }

-- ---- the same from the tables
module _ {t turned starts firsts places : List ℕ} (m : Made t turned starts firsts places) {n : ℕ} (here : n < get_or (count_table t) 5 0) where
  abbrev K : Columns
  K = lent t turned starts firsts places

  abbrev fronts : List ℕ
  fronts = take (get_or (count_table t) 1 0) (front_table t)

  abbrev backs : List ℕ
  backs = take (get_or (count_table t) 1 0) (back_table t)

  pub tally_asked : AllTally (use_table t) turned starts (listings_in K n)
  tally_asked = by_pattern m (hlevel le_prop) (λ spans s e. k_tally K n _ s e here)

  pub few_edges : get_or (count_table t) 1 0 ≤ 1024
  few_edges = by_pattern m (hlevel le_prop) (λ spans s e. edges_few K n _ s e here)

  pub walk_asked : AllWalk (use_table t) turned starts fronts backs (listings_in K n)
  walk_asked = by_pattern m (hlevel (le_prop, ℕ_set)) (λ spans s e. k_walk K n _ s e here)

  module _ (r : Tally) (made : r ≡ inserted_all no_uses (uses_in K n)) where
    pub condition_found : OfTables t (λ p. condition_in r (get_or (count_table t) 1 0) ≡ condition (shell_uses (content p) n))
    condition_found spans ok = let k = m.all spans ok in k_condition K n _ k.0 k.1 here r made

    pub lent_extractable : (odd out lens : List ℕ) → odd ≡ odds_in r (get_or (count_table t) 1 0) → 2048 ≤ length out → 2048 ≤ length lens
        → Extractable (uses_in K n) odd fronts backs (get_or (count_table t) 0 0) out lens
    lent_extractable odd out lens o x y = by_pattern m (hlevel (le_prop, ℕ_set, Bool-set)) (λ spans s e. k_extractable K n _ s e here r made odd out lens o x y)

    module _ (w : Condition) (is : w.0 ≡ condition_in r (get_or (count_table t) 1 0)) where
      pub lent_openings : {out₀ lens₀ out lens : List ℕ} {o : Walked}
          → Written (walk_of (front_of fronts backs) (back_of fronts backs) (get_or (count_table t) 0 0) (uses_in K n)) out₀ lens₀ out lens o
          → OfTables t (λ p. Opened (content p) n out₀ lens₀ out lens (record { condition = w; openings = o.openings; used = o.at; lookups = o.lookups }))
      lent_openings h spans ok = let k = m.all spans ok in k_openings K n _ k.0 k.1 here r made w is h

      pub lent_closed : w.0 ≡ 3 → (out₀ lens₀ : List ℕ)
          → OfTables t (λ p. Opened (content p) n out₀ lens₀ out₀ lens₀ (record { condition = w; openings = 0; used = 0; lookups = 0 }))
      lent_closed closed out₀ lens₀ spans ok = let k = m.all spans ok in k_openings K n _ k.0 k.1 here r made w is (k_closed K n _ k.0 k.1 here r made w is closed out₀ lens₀)
