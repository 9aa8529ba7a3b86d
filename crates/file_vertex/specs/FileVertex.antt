-- The adding of a point on a pattern file: what is answered, and the lent slice afterwards, which takes the edited file (FORMAT 4.5, 6.2).
use Rattle.std.specs.Prelude.{ℕ, List}
use Rattle.answers.specs.Read.{after_read, edited_bytes, when_read}
use Rattle.answers.specs.Values.{vertex_values}
use Rattle.answers.specs.declared.Answer.{Answer}
use Rattle.pattern.specs.Contents.{Pattern}
use Rattle.shell_edits.specs.Answers.{after_vertex, vertex_answer}
use Rattle.store_read.specs.Loading.{check_of, pattern_of}
use Rattle.store_write.specs.Writing.{written}

-- ---- a pattern that was read

abbrev pub vertex_file : Pattern → ℕ → List ℕ → Answer
vertex_file p label out = vertex_values (vertex_answer p label) (written (after_vertex p label) out)

abbrev pub vertex_file_bytes : Pattern → ℕ → List ℕ → List ℕ
vertex_file_bytes p label out = edited_bytes (vertex_answer p label) (after_vertex p label) out

-- ---- a file, given by its bytes

abbrev pub file_vertex : List ℕ → ℕ → List ℕ → Answer
file_vertex s label out = when_read (check_of s) (vertex_file (pattern_of s) label out)

abbrev pub file_vertex_bytes : List ℕ → ℕ → List ℕ → List ℕ
file_vertex_bytes s label out = after_read (check_of s) out (vertex_file_bytes (pattern_of s) label out)
