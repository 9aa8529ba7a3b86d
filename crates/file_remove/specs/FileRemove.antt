-- The removal of a point on a pattern file: what is answered, and the lent slice afterwards, which takes the edited file (FORMAT 4.3, 6.2).
use Rattle.std.specs.Prelude.{ℕ, List}
use Rattle.answers.specs.Values.{join_values}
use Rattle.answers.specs.declared.Answer.{Answer}
use Rattle.answers.specs.Read.{after_read, edited_bytes, when_read}
use Rattle.shell_edits.specs.Answers.{after_remove, remove_answer}
use Rattle.store_read.specs.Loading.{check_of, pattern_of}
use Rattle.store_write.specs.Writing.{written}
use Rattle.pattern.specs.Contents.{Pattern}

-- ---- a pattern that was read

abbrev pub remove_file : Pattern → ℕ → ℕ → List ℕ → Answer
remove_file p n v out = join_values (remove_answer p n v) (written (after_remove p n v) out)

abbrev pub remove_file_bytes : Pattern → ℕ → ℕ → List ℕ → List ℕ
remove_file_bytes p n v out = edited_bytes (remove_answer p n v) (after_remove p n v) out

-- ---- a file, given by its bytes

abbrev pub file_remove : List ℕ → ℕ → ℕ → List ℕ → Answer
file_remove s n v out = when_read (check_of s) (remove_file (pattern_of s) n v out)

abbrev pub file_remove_bytes : List ℕ → ℕ → ℕ → List ℕ → List ℕ
file_remove_bytes s n v out = after_read (check_of s) out (remove_file_bytes (pattern_of s) n v out)
