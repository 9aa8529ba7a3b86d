-- Each number is read as what it was made of.
use mathlib.Core.Path.{◌∙◌, ap}
use Rattle.mesh_state.proofs.Laws.{eleven, same}
use Rattle.mesh_words.proofs.Places.{place_back}
use Rattle.mesh_words.specs.Following.{place_in}
use borrow.Author.Rules.{rules}
use Rattle.mesh_state.proofs.numbers_of.Goals as goal

pub returns : goal.returns
returns c = let r = c.args.r in
    same r (ap place_in c.place_number.ensures ∙ place_back r.place) (search rules) (search rules) (search rules) (search rules)
    (eleven r.word (search rules) (search rules) (search rules) (search rules) (search rules) (search rules) (search rules) (search rules) (search rules) (search rules) (search rules) (search rules))
