use Rattle.std.proofs.Common.{rules}
use mathlib.Core.Path.{◌∙◌}
use Rattle.pattern.specs.Contents.{Pattern}
use Rattle.answers.proofs.Read.{after_on, value_on}
use Rattle.store_write.specs.Writing.{written, written_bytes}
use Rattle.file_reports.proofs.rewrite_file.Goals as goal

pub returns-clause-value : goal.returns-clause-value
returns-clause-value c = value_on c.args.file.now c.on_file.ensures (λ (p : Pattern). written p c.args.out.now) (λ p e es h. rw h) (λ t z r o k. search (◌∙◌) parts 12)

pub returns-clause-out_after : goal.returns-clause-out_after
returns-clause-out_after c = after_on c.args.file.now c.on_file.ensures (λ (p : Pattern). written_bytes p c.args.out.now) (λ f. f.0) (λ p e es h. rw h) (λ same. search rules) (λ t z r o k. (search parts 12, search (◌∙◌) parts 12))
