-- No byte, and the bytes of a word.
use Rattle.std.proofs.Common.{rules}
use Rattle.mesh_read.proofs.Runs.{stops_held, stops_ink}
use Rattle.mesh_read.proofs.run_end.Goals as goal

pub returns-then-held : goal.returns-then-held
returns-then-held c = rw (stops_held c.if-held.true _) (search rules)

pub returns : goal.returns
returns c = rw (stops_ink c.if-held.false _) c.ink_end.ensures
