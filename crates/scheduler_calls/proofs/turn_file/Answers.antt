-- The list has room; what stands past the longest file stays.
use mathlib.Core.List.{List, ◌++◌}
use mathlib.Core.Path.{◌∙◌, ◌≡◌, ap, sym}
use native.Mathlib.Omega.{arith}
use Prim.Native.Nat.{ℕ}
use lib.ListN.{drop, length}
use borrow.Author.Tests.{le-leb}
use Rattle.std.specs.Prelude.{Option, None, Some}
use Rattle.answers.specs.declared.Answer.{Answer}
use Rattle.scheduler.specs.declared.Job.{Job}
use Rattle.scheduler_calls.specs.SchedulerCalls.{TurnKept, turn_values}
use Rattle.scheduler_calls.specs.declared.SchedulerAnswer.{SchedulerAnswer}
use Rattle.scheduler_calls.proofs.turn_file.Goals as goal

-- a state of 0 says that nobody was served
kept : (a : Option (ℕ × Job × Answer)) (r : SchedulerAnswer) (before after : List ℕ) → r ≡ turn_values a → TurnKept a before after → r.state ≡ 0 → after ≡ before
kept None r before after e k z = k
kept (Some (d, j, x)) r before after e k z =
    let one : 1 ≡ 0 = sym (ap (λ (s : SchedulerAnswer). s.state) e) ∙ z in absurd (omega (arith, one))

pub returns-clause-out_after : goal.returns-clause-out_after
returns-clause-out_after c =
    let e = le-leb 41048 (length c.args.out.now) c.if-out-lt-LONGEST.false in
    let v = c.serve_next.ensures.value in (
      rw e (ap (λ (x : List ℕ). x ++ drop 41048 c.args.out.now) c.serve_next.ensures.out_after),
      kept _ _ _ _ v.0 v.2,
    )
