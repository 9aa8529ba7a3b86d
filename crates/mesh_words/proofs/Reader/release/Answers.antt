use mathlib.Core.Bool.{false}
use Rattle.mesh_words.proofs.Spelling.{held_back, release_held, release_none}
use Rattle.mesh_words.proofs.Reader.release.Goals as goal

pub returns-then-self : goal.returns-then-self
returns-then-self c st p index f going = rw (release_held f going c.if-self.true) (c.ink.ensures _ p index (held_back f going false))

pub returns : goal.returns
returns c st p index f going = rw (release_none f going c.if-self.false) f
