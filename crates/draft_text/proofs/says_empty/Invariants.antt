-- The lines in turn, up to one that says so.
use mathlib.Core.Path.{◌≡◌}
use lib.ListN.{length}
use Rattle.draft_text.specs.TextPattern.{said}
use Rattle.text.specs.Text.{lines}
use Rattle.draft_text.proofs.says_empty.Given as goal

abbrev pub invariant-loop-line : goal.invariant-loop-line
invariant-loop-line l = said (lines l.text) ≡ said (lines l.left)

abbrev pub decreases-loop-line : goal.decreases-loop-line
decreases-loop-line l = length l.left
