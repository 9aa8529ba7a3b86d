use mathlib.Core.Path.{◌∙◌, ap, sym}
use native.Mathlib.Omega.{arith}
use Rattle.mesh_words.proofs.Places.{place_is}
use Rattle.mesh_words.proofs.Spelling.{ink_first, ink_later, ink_word}
use Rattle.mesh_words.specs.Following.{place_number}
use Rattle.mesh_words.proofs.Reader.ink.Goals as goal

pub returns-in-Start : goal.returns-in-Start
returns-in-Start c st p index f = let at = sym f.place ∙ ap place_number c.in-Start.is in
    rw (ink_first c.args.b st at) (c.begin.ensures st p index f (omega (arith, at)) (omega arith) (λ h. omega (arith, at)))

pub returns-in-Between : goal.returns-in-Between
returns-in-Between c st p index f = let at = sym f.place ∙ ap place_number c.in-Between.is in
    rw (ink_word c.args.b st at) (c.begin-in-Between.ensures st p index f (omega (arith, at)) (omega arith) (λ h. omega (arith, at)))

pub returns-in_default : goal.returns-in_default
returns-in_default c st p index f = rw (ink_later c.args.b st (λ e. c.in_default.not-Start (place_is (f.place ∙ e))) (λ e. c.in_default.not-Between (place_is (f.place ∙ e))))
    (c.spell.ensures st p index f)
