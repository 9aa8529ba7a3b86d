-- Each way out; the lists are those of a pattern without fault.
use Prim.Native.Nat.{ℕ}
use mathlib.Core.Path.{◌∙◌, ap, refl, sym}
use native.Mathlib.Omega.{arith}
use Rattle.remove_vertex_corners.specs.declared.Corner.{Corner}
use Rattle.remove_vertex_corners.specs.Endings.{ending_of}
use Rattle.remove_vertex_corners.specs.declared.Ending.{Ending}
use Rattle.pattern.specs.Contents.{Pattern, content}
use Rattle.remove_vertex.proofs.Removals.{is_shared, many_wires, near_are, no_point, no_shell, no_wire, positive}
use Rattle.remove_vertex.proofs.Stored.{endings_inside, pair_matched, shells_are}
use Rattle.remove_vertex.specs.Removals.{corner_in}
use Rattle.shell_edits.specs.Edits.{ending_wires, last_wire}
use Rattle.shell_wires.specs.declared.Marks.{Marks}
use Rattle.remove_vertex.proofs.find_pair.Goals as goal

abbrev ending_in : Pattern → ℕ → ℕ → Ending
ending_in p n v = ending_of (ending_wires (content p) n v)

abbrev last_in : Pattern → ℕ → ℕ → Corner
last_in p n v = corner_in (content p) v (last_wire (ending_wires (content p) n v))

pub returns-then-n-lists-clause-value : goal.returns-then-n-lists-clause-value
returns-then-n-lists-clause-value c = λ p l q. no_shell (content p) _ _ _ _ (sym q) (shells_are p l) (last_in p _ _) (ending_in p _ _) c.if-n-lists.true

pub returns-then-n-lists-clause-of_edges : goal.returns-then-n-lists-clause-of_edges
returns-then-n-lists-clause-of_edges c = refl

pub returns-then-from-points-clause-value : goal.returns-then-from-points-clause-value
returns-then-from-points-clause-value c = λ p l q. no_point (content p) _ _ _ _ (sym q) (shells_are p l) (last_in p _ _) (ending_in p _ _) (omega (arith, c.if-from-points.true, c.from.ensures))

pub returns-then-from-points-clause-of_edges : goal.returns-then-from-points-clause-of_edges
returns-then-from-points-clause-of_edges c = refl

pub mark_wires-marks-requires-clause-listed : goal.mark_wires-marks-requires-clause-listed
mark_wires-marks-requires-clause-listed c = (c.requires.0, c.requires.1.listed)

pub returns-then-marks-clause-value : goal.returns-then-marks-clause-value
returns-then-marks-clause-value c = λ p l q. is_shared (content p) _ _ _ _ (sym q) (shells_are p l) (last_in p _ _) (ending_in p _ _) (omega (arith, c.if-n-lists.false)) (omega (arith, c.if-from-points.false, c.from.ensures)) (sym (ap (λ (m : Marks). m.shared) (c.mark_wires-marks.ensures p l.listed)) ∙ c.if-marks.true)

pub returns-then-marks-clause-of_edges : goal.returns-then-marks-clause-of_edges
returns-then-marks-clause-of_edges c = refl

pub returns-then-e-eq0-clause-value : goal.returns-then-e-eq0-clause-value
returns-then-e-eq0-clause-value c = λ p l q. no_wire (content p) _ _ _ _ (sym q) (shells_are p l) (last_in p _ _) (ending_in p _ _) (omega (arith, c.if-n-lists.false)) (omega (arith, c.if-from-points.false, c.from.ensures)) (sym (ap (λ (m : Marks). m.shared) (c.mark_wires-marks.ensures p l.listed)) ∙ c.if-marks.false) _ (c.ending_at-e.ensures p l) c.if-e-eq0.true

pub returns-then-e-eq0-clause-of_edges : goal.returns-then-e-eq0-clause-of_edges
returns-then-e-eq0-clause-of_edges c = refl

pub returns-then-e-gt2-clause-value : goal.returns-then-e-gt2-clause-value
returns-then-e-gt2-clause-value c = λ p l q. many_wires (content p) _ _ _ _ (sym q) (shells_are p l) (last_in p _ _) (ending_in p _ _) (omega (arith, c.if-n-lists.false)) (omega (arith, c.if-from-points.false, c.from.ensures)) (sym (ap (λ (m : Marks). m.shared) (c.mark_wires-marks.ensures p l.listed)) ∙ c.if-marks.false) _ (c.ending_at-e.ensures p l) c.if-e-gt2.true

pub returns-then-e-gt2-clause-of_edges : goal.returns-then-e-gt2-clause-of_edges
returns-then-e-gt2-clause-of_edges c = refl

pub match_pair-requires-clause-first_bound : goal.match_pair-requires-clause-first_bound
match_pair-requires-clause-first_bound c = let pre = c.requires in
    endings_inside pre.0 pre.1 _ _ (c.ending_at-e.ensures pre.0 pre.1) (positive _ c.if-e-eq0.false)

pub returns-clause-value : goal.returns-clause-value
returns-clause-value c = let args = c.args in
    λ p l q. let near = near_are (content p) _ _ _ _ (sym q) (shells_are p l) (last_in p args.n args.v.0) (ending_in p args.n args.v.0) (omega (arith, c.if-n-lists.false)) (omega (arith, c.if-from-points.false, c.from.ensures)) (sym (ap (λ (m : Marks). m.shared) (c.mark_wires-marks.ensures p l.listed)) ∙ c.if-marks.false) _ (c.ending_at-e.ensures p l) (positive _ c.if-e-eq0.false) (omega (arith, c.if-e-gt2.false)) in
    pair_matched p l _ _ _ _ (c.ending_at-e.ensures p l) near c.match_pair.ensures.value

pub returns-clause-of_edges : goal.returns-clause-of_edges
returns-clause-of_edges c = let args = c.args in
    c.match_pair.ensures.of_edges
