use mathlib.Core.Path.{◌∙◌, ap, sym}
use Rattle.mesh_words.proofs.Ending.{end_key, end_none}
use Rattle.mesh_words.proofs.Places.{place_is}
use Rattle.mesh_words.specs.Following.{place_number}
use Rattle.mesh_words.proofs.Reader.end_word.Goals as goal

pub returns-in-Key : goal.returns-in-Key
returns-in-Key c st f = let at = sym f.place ∙ ap place_number c.in-Key.is in
    rw (end_key st at) (c.key.ensures st c.args.spans.now _ f at)

pub returns-in-Word : goal.returns-in-Word
returns-in-Word c st f = c.end_corner.ensures st f (sym f.place ∙ ap place_number c.in-Word.is)

pub returns-in_default : goal.returns-in_default
returns-in_default c st f = rw (end_none st (λ e. c.in_default.not-Key (place_is (f.place ∙ e))) (λ e. c.in_default.not-Word (place_is (f.place ∙ e)))) f
