-- A pattern after an edit: what its storage holds, and the answer, case by case.
use Rattle.errors.specs.declared.CallError.TheVariants.{Refused, Unread}
use Rattle.std.specs.Prelude.{Err, Ok}
use native.Mathlib.Omega.{arith}
use Prim.Native.Nat.{◌+◌, ◌<◌, ℕ}
use lib.Ieee.{Float}
use lib.ListN.{get_or, length, set}
use mathlib.Core.List.{[], List, ◌∷◌}
use mathlib.Core.Path.{ap, sym, ◌∙◌, ◌≡◌}
use Rattle.edge.proofs.Laws.{no_edge}
use Rattle.edge.specs.Uses.{edge_number}
use Rattle.edge.specs.declared.Edge.{Edge}
use Rattle.edge.specs.declared.EdgeID.{EdgeID}
use Rattle.edit_answers.specs.Answers.{judged}
use Rattle.edit_answers.specs.declared.EditError.{EditError}
use Rattle.errors.specs.Faults.{first}
use Rattle.errors.specs.declared.Refusal.{Refusal}
use Rattle.lists.proofs.Flat.{get_d_tabulate}
use Rattle.lists.specs.Lists.{tabulate}
use Rattle.pattern.proofs.Counts.{edges_counted, uses_counted, wires_counted}
use Rattle.pattern.specs.Checks.{pattern_faults}
use Rattle.pattern.specs.Contents.{Content, Pattern, content, stored_in}
use Rattle.shell_edits.proofs.Storage.{seven_are}
use Rattle.shell_edits.specs.Answers.{join_answer, next_edge, pattern_after}
use Rattle.shell_edits.specs.Edits.{edge_of, edited}
use Rattle.shell_wires.proofs.Facts.{Fine, stored_edited, uses_kept, wires_kept}
use Rattle.store.specs.Store.{count_table, edge_in, held}
use Rattle.concat.proofs.Judged.{edge_read}
use Rattle.concat.specs.Joins.{appended, joint}
use Rattle.store.specs.Columns.{with_counts, with_edges}

-- ---- which answer comes first
module _ {ℓ} {A : Type ℓ} (es : List EditError) (refused : Refusal → A) (not : EditError → A) (done : A) where
  judged_refused : (fs : List Refusal) {f : Refusal} → first fs ≡ Err f → refused f ≡ judged fs es refused not done
  judged_refused [] h = cc
  judged_refused (g ∷ fs) {f} h = let e : f ≡ g = cc in ap refused e

  module _ (fs : List Refusal) (ok : fs ≡ []) where
    judged_not : (d : Edge) {e : EditError} → joint es d ≡ Err e → not e ≡ judged fs es refused not done
    judged_not d h = rw ok (go es h)
      where
        go : (es : List EditError) {e : EditError} → joint es d ≡ Err e → not e ≡ judged [] es refused not done
        go [] h = cc
        go (g ∷ es) {e} h = let k : e ≡ g = cc in ap not k

    judged_done : es ≡ [] → done ≡ judged fs es refused not done
    judged_done h = rw (ok, h)

pub joint_whole : (es : List EditError) (d : Edge) {k : Edge} → joint es d ≡ Ok k → k ≡ d
joint_whole [] d h = cc
joint_whole (e ∷ es) d h = cc

-- the answer of an edit that makes one edge, and the pattern then
module _ (p : Pattern) (es : List EditError) (c : Content) where
  pub join_refused : {f : Refusal} → first (pattern_faults p) ≡ Err f → (Err (Unread f) ≡ join_answer p es) × (p ≡ pattern_after p es c)
  join_refused h = (
    judged_refused es (λ x. Err (Unread x)) (λ x. Err (Refused x)) (Ok (next_edge p 0)) (pattern_faults p) h,
    judged_refused es (λ (f : Refusal). p) (λ (e : EditError). p) (stored_in p c) (pattern_faults p) h,
  )

  module _ (ok : pattern_faults p ≡ []) where
    pub join_not : (d : Edge) {e : EditError} → joint es d ≡ Err e → (Err (Refused e) ≡ join_answer p es) × (p ≡ pattern_after p es c)
    join_not d h = (
      judged_not es (λ x. Err (Unread x)) (λ x. Err (Refused x)) (Ok (next_edge p 0)) (pattern_faults p) ok d h,
      judged_not es (λ (f : Refusal). p) (λ (e : EditError). p) (stored_in p c) (pattern_faults p) ok d h,
    )

    pub join_done : es ≡ [] → (Ok (next_edge p 0) ≡ join_answer p es) × (stored_in p c ≡ pattern_after p es c)
    join_done h = (
      judged_done es (λ x. Err (Unread x)) (λ x. Err (Refused x)) (Ok (next_edge p 0)) (pattern_faults p) ok h,
      judged_done es (λ (f : Refusal). p) (λ (e : EditError). p) (stored_in p c) (pattern_faults p) ok h,
    )

-- ---- what the storage holds: one more edge
module _ (p : Pattern) (s : Fine p) where
  second : (ns : List ℕ) (a : ℕ) → length ns ≡ 7 → set (set (set ns 1 a) 2 (get_or ns 2 0)) 3 (get_or ns 3 0) ≡ set ns 1 a
  second ns a l =
      ap (λ (ms : List ℕ). set (set (set ms 1 a) 2 (get_or ns 2 0)) 3 (get_or ns 3 0)) (sym (seven_are ns l)) ∙ ap (λ (ms : List ℕ). set ms 1 a) (seven_are ns l)

  pub stored_appended : (d : Edge) → appended p d ≡ stored_in p (edited (content p) (d ∷ []) (content p).uses (content p).wires)
  stored_appended d =
      sym (
      stored_edited p s (d ∷ []) (content p).uses (content p).wires
      ∙ rw (uses_counted p s.limits s.full, wires_counted p s.limits s.full, second p.counts (get_or p.counts 1 0 + 1) s.seven, uses_kept p s, wires_kept p s)
      )

  pub next_is : {a : EdgeID} → a.0 ≡ get_or p.counts 1 0 → a ≡ next_edge p 0
  next_is {a} h =
      let e : a.0 ≡ length (content p).edges + 0 = omega (arith, edges_counted p s.limits s.full) in
      let id : ℕ → EdgeID = λ (k : ℕ). record { 0 = k } in
      ap id e

-- an edge stored after the others, then their count
pub append_view : (p q r : Pattern) (n : ℕ) (d : Edge) → n ≡ get_or p.counts 1 0 → q ≡ with_edges p (set p.edges n d) → r ≡ with_counts q (set q.counts 1 (n + 1)) → r ≡ appended p d
append_view p q r n d en eq er = er ∙ rw (eq, en)

-- the edge of a use, as the code reads it
pub held_edge_of : (t : List ℕ) (spans : List Float) → Fine (held t spans) → (u i : ℕ) → i ≡ edge_number u → edge_number u < get_or (count_table t) 1 0 → edge_in t spans i ≡ edge_of (content (held t spans)) u
held_edge_of t spans s u i e h =
    let n = get_or (count_table t) 1 0 in
    let es = tabulate 1024 (edge_in t spans) in
    let room : edge_number u < 1024 = omega (arith, s.limits.edges) in
    rw e (sym (get_d_tabulate 1024 (edge_in t spans) (edge_number u) no_edge room) ∙ edge_read es n (edge_number u) (omega (arith, s.limits.edges, s.full.edges)) h)
