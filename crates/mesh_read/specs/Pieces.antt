-- A reader with its tables has read these bytes of a mesh. To a caller it may be any relation: a new reader has read nothing, a step reads its piece, and at the end the answer is that for all bytes that were read.
use Rattle.std.specs.Prelude.{ℕ, List}
use Rattle.mesh.specs.Reading.{reading}
use Rattle.mesh_words.specs.Following.{Follows}
use Rattle.mesh_words.specs.declared.Reader.{Reader}
use Rattle.pattern.specs.Contents.{Pattern}

abbrev pub HasRead : List ℕ → Reader → Pattern → List ℕ → Type 0
HasRead s r p index = Follows (reading s) r p index
