-- The checks first; then the number of shells.
use Rattle.errors.specs.declared.CallError.TheVariants.{Unread}
use Rattle.std.specs.Prelude.{Err}
use native.Mathlib.Omega.{arith}
use Prim.Native.Nat.{◌-◌}
use lib.ListN.{length, get_or}
use mathlib.Core.Path.{◌≡◌}
use mathlib.Core.List.{[]}
use mathlib.Core.Path.{◌∙◌, sym}
use Rattle.calls.proofs.Answers.{presence_none, presence_refused, presence_there, shells_held}
use Rattle.errors.proofs.Laws.{accepted_none, handed_on}
use Rattle.pattern.specs.Checks.{pattern_faults}
use Rattle.pattern.specs.Contents.{Pattern, content}
use Rattle.store.specs.Store.{held}
use Rattle.calls.proofs.find_shell.Goals as goal

pub returns-in_err-check : goal.returns-in_err-check
returns-in_err-check c =
    handed_on _ _ c.from_residual.ensures.1 ∙ (let pattern : Pattern = held c.args.t.now c.args.spans.now in
    let p = pattern in
    presence_refused (pattern_faults p) (content p) _ _ (sym c.check.ensures ∙ c.in_err-check.was))

pub returns-then-n-counts : goal.returns-then-n-counts
returns-then-n-counts c = let pattern : Pattern = held c.args.t.now c.args.spans.now in
    let passed : pattern_faults (pattern) ≡ [] = accepted_none _ (sym c.check.ensures ∙ c.in_ok-check.was) in
    let shells : length (content (pattern)).shells ≡ get_or c.counts_in-counts.result 5 0 = rw c.counts_in-counts.ensures (shells_held c.args.t.now c.args.spans.now c.tables_known.ensures (passed)) in
    presence_none _ (passed) _ _ (omega (arith, c.if-n-counts.true, shells))

pub returns : goal.returns
returns c = let pattern : Pattern = held c.args.t.now c.args.spans.now in
    let passed : pattern_faults (pattern) ≡ [] = accepted_none _ (sym c.check.ensures ∙ c.in_ok-check.was) in
    let shells : length (content (pattern)).shells ≡ get_or c.counts_in-counts.result 5 0 = rw c.counts_in-counts.ensures (shells_held c.args.t.now c.args.spans.now c.tables_known.ensures (passed)) in
    presence_there _ (passed) _ _ (omega (arith, c.if-n-counts.false, shells))
