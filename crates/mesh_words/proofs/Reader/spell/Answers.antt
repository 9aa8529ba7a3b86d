-- A byte after a slash, the slash, a byte past the table, and one more in it.
use Rattle.mesh_words.proofs.Spelling.{spell_past, spell_slash}
use Rattle.mesh_words.proofs.Reader.spell.Goals as goal

pub returns-then-self : goal.returns-then-self
returns-then-self c st p index f = spell_past c.args.b f c.if-self.true

pub returns-then-b-eq47 : goal.returns-then-b-eq47
returns-then-b-eq47 c st p index f = spell_slash c.args.b f c.if-self.false c.in-Word.is c.if-b-eq47.true
