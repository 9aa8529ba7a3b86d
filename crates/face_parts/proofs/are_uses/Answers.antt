use mathlib.Core.Path.{◌∙◌}
use lib.Dec.{ltb}
use borrow.Author.Rules.{rules}
use borrow.Author.Tests.{tests}
use Rattle.std.proofs.lemmas.Iterator.Search.{all_from_yields_List}
use Rattle.std.proofs.lemmas.Iterator.{YieldsList-from_slice}
use Rattle.edge.specs.Uses.{edge_number}
use Rattle.face_parts.proofs.Laws.{all_counted}
use Rattle.face_parts.proofs.are_uses.Goals as goal

pub returns : goal.returns
returns c =
    all_from_yields_List (λ u. ltb (edge_number u) c.args.edges) _ _ _ c.all.ensures.ran (YieldsList-from_slice c.args.wire.now c.iter.ensures.rest) (λ x b q k. search (rules, tests))
    ∙ all_counted (λ u. ltb (edge_number u) c.args.edges) c.args.wire.now
