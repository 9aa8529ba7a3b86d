-- After i words their values are written, and the words of the rest of the line are left.
use lib.ListN.{length}
use Rattle.forms.proofs.Values.{Reading}
use Rattle.text.specs.Text.{words}
use Rattle.forms.proofs.put_values.Given as goal

abbrev pub invariant-loop-word : goal.invariant-loop-word
invariant-loop-word l = Reading l.kinds l.rest (words l.line) l.initial.out l.out l.i (words l.left)

abbrev pub decreases-loop-word : goal.decreases-loop-word
decreases-loop-word l = length l.left
