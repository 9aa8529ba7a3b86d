use native.Mathlib.Omega.{arith}
use lib.ListN.{length}
use mathlib.Core.Path.{◌∙◌, ◌≡◌, sym}
use Rattle.text.proofs.Words.{scan_all, scan_next, scan_start, scan_stop}
use Rattle.text.specs.Text.{is_blank}
use borrow.Author.Rules.{rules}
use Rattle.text.proofs.word_end.Goals as goal

pub loop-i-init : goal.loop-i-init
loop-i-init c = scan_start is_blank _ _ (search rules)

pub loop-i-preserved : goal.loop-i-preserved
loop-i-preserved c = scan_next is_blank c.loop-i.invariant c.loop-i-test.true (sym c.is_blank.ensures ∙ c.if-is_blank.false)

pub returns : goal.returns
returns c = let e : c.loop-i.i ≡ length c.args.line.now = omega arith in rw e at (scan_all is_blank c.loop-i.invariant c.loop-i-test.false)

pub returns-then-is_blank : goal.returns-then-is_blank
returns-then-is_blank c = scan_stop is_blank c.loop-i.invariant c.loop-i-test.true (sym c.is_blank.ensures ∙ c.if-is_blank.true)
