-- The cut of an edge on a pattern file: what is answered, and the lent slice afterwards, which takes the edited file (FORMAT 4.2, 6.2).
use Rattle.std.specs.Prelude.{ℕ, List}
use Rattle.answers.specs.Read.{after_read, edited_bytes, when_read}
use Rattle.answers.specs.Values.{cut_values}
use Rattle.answers.specs.declared.Answer.{Answer}
use Rattle.curve.specs.Curves.{parameter_of}
use Rattle.curve.specs.declared.Parameter.{Parameter}
use Rattle.shell_edits.specs.Answers.{after_cut, cut_answer}
use Rattle.store_read.specs.Loading.{check_of, pattern_of}
use Rattle.store_write.specs.Writing.{written}
use Rattle.pattern.specs.Contents.{Pattern}

-- ---- a pattern that was read

abbrev pub cut_file : Pattern → ℕ → ℕ → ℕ → Parameter → List ℕ → Answer
cut_file p n e v at out = cut_values (cut_answer p n e v at) (written (after_cut p n e v at) out)

abbrev pub cut_file_bytes : Pattern → ℕ → ℕ → ℕ → Parameter → List ℕ → List ℕ
cut_file_bytes p n e v at out = edited_bytes (cut_answer p n e v at) (after_cut p n e v at) out

-- ---- a file, given by its bytes

abbrev pub file_cut : List ℕ → ℕ → ℕ → ℕ → ℕ → List ℕ → Answer
file_cut s n e v bits out = when_read (check_of s) (cut_file (pattern_of s) n e v (parameter_of bits) out)

abbrev pub file_cut_bytes : List ℕ → ℕ → ℕ → ℕ → ℕ → List ℕ → List ℕ
file_cut_bytes s n e v bits out = after_read (check_of s) out (cut_file_bytes (pattern_of s) n e v (parameter_of bits) out)
