-- The names in turn.
use Rattle.std.proofs.Common.{◌≡◌, ◌∙◌, ℕ, true, eqb, ap}
use borrow.Author.Tests.{ne_eqb}
use Rattle.text.specs.Tokens.{name, name_after}
use Rattle.console.specs.Help.{help_named}
use Rattle.console.proofs.is_help.Goals as goal

named_long : (n : ℕ) → n ≡ 0x12d2d68656c70 → true ≡ help_named n
unfolding help_named name name_after
named_long n e = rw e

named_short : (n : ℕ) → (n ≡ 0x12d2d68656c70 → ⊥) → eqb n 0x12d68 ≡ help_named n
unfolding help_named name name_after
named_short n h = rw (ne_eqb n 0x12d2d68656c70 h)

pub returns-then-name-eq331148024966256 : goal.returns-then-name-eq331148024966256
returns-then-name-eq331148024966256 c = named_long _ c.if-name-eq331148024966256.true ∙ ap help_named c.name_of-name.ensures

pub returns : goal.returns
returns c = named_short _ c.if-name-eq331148024966256.false ∙ ap help_named c.name_of-name.ensures
