-- The joining of two uses on a pattern file: what is answered, and the lent slice afterwards, which takes the edited file (FORMAT 4.4, 6.2).
use Rattle.std.specs.Prelude.{ℕ, List}
use Rattle.answers.specs.Values.{join_values}
use Rattle.answers.specs.declared.Answer.{Answer}
use Rattle.answers.specs.Read.{after_read, edited_bytes, when_read}
use Rattle.shell_edits.specs.Answers.{after_concat, concat_answer}
use Rattle.store_read.specs.Loading.{check_of, pattern_of}
use Rattle.store_write.specs.Writing.{written}
use Rattle.pattern.specs.Contents.{Pattern}

-- ---- a pattern that was read

abbrev pub concat_file : Pattern → ℕ → ℕ → List ℕ → Answer
concat_file p u v out = join_values (concat_answer p u v) (written (after_concat p u v) out)

abbrev pub concat_file_bytes : Pattern → ℕ → ℕ → List ℕ → List ℕ
concat_file_bytes p u v out = edited_bytes (concat_answer p u v) (after_concat p u v) out

-- ---- a file, given by its bytes

abbrev pub file_concat : List ℕ → ℕ → ℕ → List ℕ → Answer
file_concat s u v out = when_read (check_of s) (concat_file (pattern_of s) u v out)

abbrev pub file_concat_bytes : List ℕ → ℕ → ℕ → List ℕ → List ℕ
file_concat_bytes s u v out = after_read (check_of s) out (concat_file_bytes (pattern_of s) u v out)
