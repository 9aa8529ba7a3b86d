use mathlib.Core.Path.{◌∙◌, ◌≡◌, sym}
use native.Mathlib.Omega.{arith}
use lib.ListN.{length}
use Rattle.mesh_words.proofs.Ending.{end_at, end_near, end_not, within_table}
use borrow.Author.Rules.{rules}
use Rattle.mesh_words.proofs.Reader.end_corner.Goals as goal

pub returns-then-n-gt11 : goal.returns-then-n-gt11
returns-then-n-gt11 c st f at = absurd (omega (arith, within_table f at, c.if-n-gt11.true))

pub slice_bounds-corner_of-end : goal.slice_bounds-corner_of-end
slice_bounds-corner_of-end c = let long : length c.args.self.word ≡ 11 = search rules in omega arith

pub returns-in-Err : goal.returns-in-Err
returns-in-Err c st f at = end_not f at (sym c.corner_of-named.ensures ∙ c.in-Err.is)

pub returns-in-Ok : goal.returns-in-Ok
returns-in-Ok c st f at = let e = sym c.corner_of-named.ensures ∙ c.in-Ok.is in
    rw (end_at f at e) (c.corner.ensures st _ f at (λ few. c.saturated.ensures ∙ end_near f at e few))
