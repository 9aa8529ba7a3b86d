use Rattle.mesh_words.proofs.Spelling.{begun}
use Rattle.mesh_words.proofs.Reader.begin.Goals as goal

pub returns : goal.returns
returns c st p index f going known low = c.spell.ensures _ p index (begun f going c.args.place known low)
