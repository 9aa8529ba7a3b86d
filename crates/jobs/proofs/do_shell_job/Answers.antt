-- A refusal, or what is new.
use mathlib.Core.Path.{ap}
use Rattle.answers.specs.declared.Answer.{Answer}
use Rattle.jobs.proofs.Texts.{shell_done, shell_refused, text_as}
use Rattle.jobs.proofs.do_shell_job.Goals as goal

pub returns-then-made-ne0-clause-text_after : goal.returns-then-made-ne0-clause-text_after
returns-then-made-ne0-clause-text_after c = text_as (shell_refused _ _ _ c.shell_job-made.ensures.value c.if-made-ne0.true) _ _ _ (c.put_refused.ensures.0, c.put_refused.ensures.1)

pub returns-then-made-ne0-clause-out_after : goal.returns-then-made-ne0-clause-out_after
returns-then-made-ne0-clause-out_after c = (c.shell_job-made.ensures.out_after, ap (λ (a : Answer). a.third) c.shell_job-made.ensures.value)

pub returns-clause-text_after : goal.returns-clause-text_after
returns-clause-text_after c = text_as (shell_done _ _ _ c.shell_job-made.ensures.value c.if-made-ne0.false) _ _ _ c.put_new.ensures

pub returns-clause-out_after : goal.returns-clause-out_after
returns-clause-out_after c = (c.shell_job-made.ensures.out_after, ap (λ (a : Answer). a.third) c.shell_job-made.ensures.value)
