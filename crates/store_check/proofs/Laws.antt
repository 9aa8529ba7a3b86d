-- The checks on the store are those of the pattern that it holds.
use Rattle.std.specs.Prelude.{Err, Ok}
use Prim.Native.Nat.{ℕ, ◌+◌, ◌<◌, ◌≤◌}
use mathlib.Core.List.{List, [], map}
use mathlib.Core.Path.{◌≡◌, ◌∙◌, ap, sym}
use native.Mathlib.Omega.{arith}
use lib.Ieee.{Float}
use lib.ListN.{get_or, length, take}
use Rattle.edge.proofs.Laws.{no_edge}
use Rattle.edge.specs.Edges.{back_number, front_number}
use Rattle.edge.specs.declared.Edge.{Edge}
use Rattle.errors.proofs.Laws.{Passed, accepted_none, taken_all, taken_next, taken_stop}
use Rattle.errors.specs.Faults.{each, first}
use Rattle.errors.specs.declared.Refusal.{Refusal}
use Rattle.lists.proofs.Flat.{get_d_tabulate}
use Rattle.lists.proofs.Laws.{length_tabulate}
use Rattle.lists.specs.Lists.{tabulate}
use Rattle.pattern.proofs.Columns.{checkable, content_columns}
use Rattle.pattern.proofs.Counts.{Limited, limited}
use Rattle.pattern.proofs.Edges.{edge_faults_lem, edge_refused}
use Rattle.pattern.specs.Checks.{content_faults, count_faults, edge_faults}
use Rattle.pattern.specs.Contents.{Pattern, content}
use Rattle.store.proofs.Parts.{part_long}
use Rattle.store.proofs.View.{held_backs, held_fronts, held_full, held_seven, held_wire_counts}
use Rattle.store.specs.Store.{count_table, edge_in, held, listing_table, shell_table, use_table, wire_table}
use Rattle.pattern.specs.Columns.{Checkable, column_faults}
use Rattle.store.specs.Columns.{back_table, counted, face_table, front_table}

-- ---- a loop over the first n edges

module _ (t : List ℕ) (spans : List Float) (points n k : ℕ) (few : n ≤ 1024) (s : Passed (edge_faults points) no_edge (take n (tabulate 1024 (edge_in t spans))) 0 k) where
  abbrev all : List Edge
  all = tabulate 1024 (edge_in t spans)

  fit : n ≤ length all
  fit = omega (arith, few, length_tabulate 1024 (edge_in t spans))

  module _ (h : k < n) (x : Edge) (is : x ≡ edge_in t spans k) where
    same : x ≡ get_or all k no_edge
    same = is ∙ sym (get_d_tabulate 1024 (edge_in t spans) k no_edge (omega arith))

    pub edges_next : first (edge_faults points k x) ≡ Ok tt → Passed (edge_faults points) no_edge (take n all) 0 (k + 1)
    edges_next a = taken_next (edge_faults points) no_edge all n fit k s h (rw same at a)

    pub edges_stop : (r : Refusal) → first (edge_faults points k x) ≡ Err r → Err r ≡ first (each (edge_faults points) 0 (take n all))
    edges_stop r a = sym (taken_stop (edge_faults points) no_edge all n fit k s h r (rw same at a))

  pub edges_all : n ≤ k → Ok tt ≡ first (each (edge_faults points) 0 (take n all))
  edges_all h = ap first (sym (taken_all (edge_faults points) no_edge all n fit k s h))

-- ---- the records

module _ (t : List ℕ) (spans : List Float) (long : length t ≡ 12312) (ok : count_faults (count_table t) ≡ []) where
  abbrev P : Pattern
  P = held t spans

  pub held_limits : Limited P.counts
  held_limits = limited P.counts (held_seven t spans long) ok

  pub edges_wrong : (r : Refusal) → first (edge_faults_lem P) ≡ Err r → Err r ≡ first (content_faults (content P))
  edges_wrong r h = sym (edge_refused P held_limits (held_full t spans long) r h)

  module _ (right : first (edge_faults_lem P) ≡ Ok tt) where
    abbrev front : take (get_or P.counts 1 0) (front_table t) ≡ take (get_or P.counts 1 0) (map front_number P.edges)
    front = ap (take (get_or P.counts 1 0)) (held_fronts t spans long)

    abbrev back : take (get_or P.counts 1 0) (back_table t) ≡ take (get_or P.counts 1 0) (map back_number P.edges)
    back = ap (take (get_or P.counts 1 0)) (held_backs t spans long)

    pub held_checkable : Checkable (counted 1 front_table t) (counted 1 back_table t) (counted 3 wire_table t) (counted 4 face_table t) (counted 5 shell_table t)
    held_checkable =
        checkable P held_limits (held_full t spans long) (accepted_none (edge_faults_lem P) right) (front_table t) (back_table t) (face_table t) front back (held_wire_counts t spans long) (part_long t 8 1024 (omega arith)) (part_long t 1032 1024 (omega arith))

    pub held_checked : first (column_faults (take (get_or (count_table t) 1 0) (front_table t)) (take (get_or (count_table t) 1 0) (back_table t)) (take (get_or (count_table t) 2 0) (use_table t)) (take (get_or (count_table t) 3 0) (wire_table t)) (take (get_or (count_table t) 4 0) (face_table t)) (take (get_or (count_table t) 5 0) (shell_table t)) (take (get_or (count_table t) 6 0) (listing_table t)))
        ≡ first (content_faults (content P))
    held_checked =
        content_columns P held_limits (held_full t spans long) (accepted_none (edge_faults_lem P) right) (front_table t) (back_table t) (face_table t) front back (held_wire_counts t spans long) (part_long t 8 1024 (omega arith)) (part_long t 1032 1024 (omega arith))
