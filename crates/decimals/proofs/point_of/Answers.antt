use Rattle.std.proofs.Common.{◌≡◌, ◌∙◌, length, arith}
use Rattle.std.proofs.lemmas.Iterator.Search.{position_from_yields_List}
use Rattle.std.proofs.lemmas.Iterator.{YieldsList-from_slice}
use borrow.Author.Rules.{rules}
use borrow.Author.Tests.{tests}
use Rattle.decimals.proofs.Point.{placed}
use Rattle.decimals.specs.Decimals.{is_point}
use Rattle.text.proofs.Words.{before_le}
use Rattle.text.specs.Text.{before}
use Rattle.decimals.proofs.point_of.Goals as goal

pub returns : goal.returns
returns c =
    let word = c.args.word.now in
    let at : c.unwrap_or.result ≡ length (before is_point word) =
    c.unwrap_or.ensures
    ∙ placed is_point word (position_from_yields_List is_point _ _ c.position.result c.position.ensures.ran (YieldsList-from_slice word c.iter.ensures.rest) (λ x b q k. search (rules, tests))) in
    (at, omega (arith, at, before_le is_point word))
