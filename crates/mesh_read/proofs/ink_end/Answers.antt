use mathlib.Core.Path.{◌∙◌, ◌≡◌}
use native.Mathlib.Omega.{arith}
use lib.ListN.{drop, length-drop}
use borrow.Author.Rules.{rules}
use borrow.Author.Tests.{tests}
use Rattle.std.proofs.lemmas.Iterator.Search.{position_from_yields_List}
use Rattle.std.proofs.lemmas.Iterator.{YieldsList-from_slice}
use Rattle.std.specs.List.{position}
use Rattle.text.proofs.Words.{found_at, found_none, rest_is}
use Rattle.mesh_read.specs.Runs.{is_break}
use Rattle.mesh_read.proofs.ink_end.Goals as goal
use Rattle.mesh_read.proofs.ink_end.Goals.{After-position}

-- where the search ends
place : (c : After-position) → c.position.result ≡ position is_break (drop c.args.from c.args.text.now)
place c =
    position_from_yields_List is_break _ _ _ c.position.ensures.ran (YieldsList-from_slice _ (c.iter.ensures.rest ∙ rest_is c.args.from c.args.text.now)) (λ x b q k. search (rules, tests))

pub returns-in-Some : goal.returns-in-Some
returns-in-Some c =
    omega (arith, found_at is_break (drop c.args.from c.args.text.now) (place (goal.at.returns-in-Some c).After-position) c.in-Some.is, length-drop c.args.from c.args.text.now)

pub returns-in-None : goal.returns-in-None
returns-in-None c =
    omega (arith, found_none is_break (drop c.args.from c.args.text.now) (place (goal.at.returns-in-None c).After-position) c.in-None.is, length-drop c.args.from c.args.text.now)
