-- The lines in turn, up to the one with the record.
use mathlib.Core.Path.{◌≡◌}
use lib.ListN.{length}
use Rattle.draft_text.proofs.Turns.{Finding}
use Rattle.draft_text.proofs.line_with.Given as goal

abbrev pub invariant-loop-line : goal.invariant-loop-line
invariant-loop-line l = (length l.values ≡ length l.initial.values) × Finding l.text l.b l.r l.left l.number l.before

abbrev pub decreases-loop-line : goal.decreases-loop-line
decreases-loop-line l = length l.left
