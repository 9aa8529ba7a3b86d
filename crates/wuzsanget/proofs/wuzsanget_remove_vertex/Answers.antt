-- The answer of the edit of a file, at the point's number as one of 16 bits.
use mathlib.Core.Path.{◌∙◌, ap}
use Rattle.file_remove.specs.FileRemove.{file_remove}
use Rattle.wuzsanget.proofs.wuzsanget_remove_vertex.Goals as goal

pub returns-clause-value : goal.returns-clause-value
returns-clause-value c = c.file_remove.ensures.value ∙ ap (λ i. file_remove c.args.file.now c.args.shell i c.args.out.now) c.named.ensures
