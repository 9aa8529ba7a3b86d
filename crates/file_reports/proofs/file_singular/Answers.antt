use Rattle.std.proofs.Common.{rules}
use mathlib.Core.Path.{◌∙◌}
use Rattle.pattern.specs.Contents.{Pattern}
use Prim.Native.Nat.{ℕ}
use mathlib.Core.List.{List}
use mathlib.Core.Path.{refl}
use Rattle.answers.proofs.Read.{list_on, value_on}
use Rattle.group_calls.specs.GroupCalls.{singular_answer, singular_out}
use Rattle.file_reports.proofs.file_singular.Goals as goal

pub returns-clause-value : goal.returns-clause-value
returns-clause-value c = value_on c.args.file.now c.on_file.ensures (λ (p : Pattern). singular_answer p c.args.n) (λ p e es h. rw h) (λ t z r o k. search (◌∙◌) parts 12)

pub returns-clause-out_after : goal.returns-clause-out_after
returns-clause-out_after c = list_on (λ (ns : List ℕ). ns) refl c.args.file.now c.args.out.now c.on_file.ensures (λ (p : Pattern). singular_out p c.args.n) (λ p e es h. rw h) (λ f. f.1) refl (λ same. search rules) (λ t z r o k. (search parts 12, search (◌∙◌) parts 12))
