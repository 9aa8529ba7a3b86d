use Rattle.std.proofs.Common.{rules}
use mathlib.Core.Path.{◌∙◌}
use Rattle.pattern.specs.Contents.{Pattern}
use mathlib.Core.List.{map}
use mathlib.Core.Path.{refl}
use lib.ListN.{length}
use Rattle.answers.proofs.Read.{flat_none, list_on, value_on}
use Rattle.lists.specs.Lists.{flat}
use Rattle.file_reports.proofs.Laws.{kept_on}
use Rattle.shell_calls.specs.ShellCalls.{openings_answer, openings_out}
use Rattle.file_reports.proofs.file_openings.Goals as goal

pub returns-clause-value : goal.returns-clause-value
returns-clause-value c = value_on c.args.file.now c.on_file.ensures (λ (p : Pattern). openings_answer p c.args.n) (λ p e es h. rw h) (λ t z r o k. search (◌∙◌) parts 12)

pub returns-clause-out_after : goal.returns-clause-out_after
returns-clause-out_after c = list_on flat flat_none c.args.file.now c.args.out.now c.on_file.ensures (λ (p : Pattern). openings_out p c.args.n) (λ p e es h. rw h) (λ f. f.1) refl (λ same. search rules) (λ t z r o k. (search parts 12, search (◌∙◌) parts 12))

pub returns-clause-lens_after : goal.returns-clause-lens_after
returns-clause-lens_after c = list_on (map length) refl c.args.file.now c.args.lens.now c.on_file.ensures (λ (p : Pattern). openings_out p c.args.n) (λ p e es h. rw h) (λ f. f.2) refl (λ same. search rules) (λ t z r o k. (search parts 12, search (◌∙◌) parts 12))

pub returns-clause-file_promised : goal.returns-clause-file_promised
returns-clause-file_promised c = kept_on c.args.file.now c.args.n c.on_file.ensures (λ t z r o k. search parts 12)
