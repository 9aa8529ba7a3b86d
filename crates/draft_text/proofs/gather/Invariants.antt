use Rattle.pattern.specs.Contents.{content}
use Rattle.store.specs.Store.{count_table, held}
use Rattle.draft_text.proofs.Turns.{Gathering}
use lib.ListN.{length}
use mathlib.Core.Path.{◌≡◌}
use Rattle.draft_text.proofs.gather.Given as goal

abbrev pub invariant-loop-line : goal.invariant-loop-line
invariant-loop-line l = (length l.values ≡ length l.initial.values) × Gathering l.text (content (held l.initial.t l.initial.spans)) l.left l.number (count_table l.t) (content (held l.t l.spans))

abbrev pub decreases-loop-line : goal.decreases-loop-line
decreases-loop-line l = length l.left
