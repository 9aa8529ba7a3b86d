-- A word after its slash, the slash, a byte more, and the last.
use Rattle.mesh_words.proofs.Runs.{Run}
use Rattle.mesh_words.proofs.Reader.spell_all.Given as goal

abbrev pub invariant-loop-b : goal.invariant-loop-b
invariant-loop-b l = Run l.initial.self l.bytes l.self l.word l.n l.b-index
