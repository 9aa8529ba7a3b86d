-- Reading, writing and each report on a pattern file, given by its bytes: what is answered, what is written (FORMAT 1.8, 3, 6.2).
use Rattle.std.specs.Prelude.{ℕ, ◌<◌, List, [], ◌≡◌, length}
use Rattle.answers.specs.Values.{check_values, figure_values, place_values, solid_values, written_values}
use Rattle.answers.specs.declared.Answer.{Answer}
use Rattle.group_calls.specs.GroupCalls.{components_answer, components_out, connected_answer, singular_answer, singular_out}
use Rattle.shell_calls.specs.ShellCalls.{condition_answer, openings_answer, openings_out}
use Rattle.pattern.specs.Contents.{counts_of}
use Rattle.pattern.specs.Outlines.{wire_place}
use Rattle.pattern_file.specs.File.{file_content, file_faults}
use Rattle.shell.specs.OpeningsHold.{OpeningsPromised}
use Rattle.store_read.specs.Loading.{check_of, pattern_of}
use Rattle.solid_calls.specs.Solids.{solid_answer}
use Rattle.store_write.specs.Writing.{written, written_bytes}
use Rattle.answers.specs.Read.{after_read, if_read, when_read}

abbrev pub file_check : List ℕ → Answer
file_check s = check_values (check_of s)

-- how many records each body has
abbrev pub file_counts_out : List ℕ → List ℕ
file_counts_out s = if_read (check_of s) (counts_of (file_content s))

abbrev pub file_outline : List ℕ → ℕ → Answer
file_outline s w = when_read (check_of s) (place_values (wire_place (pattern_of s) w))

-- the file written anew to the slice `out`, and the slice after it
abbrev pub file_written : List ℕ → List ℕ → Answer
file_written s out = when_read (check_of s) (written_values (written (pattern_of s) out))

abbrev pub file_written_bytes : List ℕ → List ℕ → List ℕ
file_written_bytes s out = after_read (check_of s) out (written_bytes (pattern_of s) out)

abbrev pub file_condition : List ℕ → ℕ → Answer
file_condition s n = when_read (check_of s) (figure_values (condition_answer (pattern_of s) n))

abbrev pub file_openings : List ℕ → ℕ → Answer
file_openings s n = when_read (check_of s) (figure_values (openings_answer (pattern_of s) n))

abbrev pub file_openings_out : List ℕ → ℕ → List (List ℕ)
file_openings_out s n = if_read (check_of s) (openings_out (pattern_of s) n)

-- what is promised of the openings of shell n of an accepted file; demand 3
abbrev pub FilePromised : List ℕ → ℕ → Type 0
FilePromised s n = file_faults s ≡ [] → n < length (file_content s).shells → OpeningsPromised (file_content s) n

abbrev pub file_connected : List ℕ → ℕ → Answer
file_connected s n = when_read (check_of s) (figure_values (connected_answer (pattern_of s) n))

abbrev pub file_components : List ℕ → ℕ → Answer
file_components s n = when_read (check_of s) (figure_values (components_answer (pattern_of s) n))

abbrev pub file_components_out : List ℕ → ℕ → List (List ℕ)
file_components_out s n = if_read (check_of s) (components_out (pattern_of s) n)

abbrev pub file_singular : List ℕ → ℕ → Answer
file_singular s n = when_read (check_of s) (figure_values (singular_answer (pattern_of s) n))

abbrev pub file_singular_out : List ℕ → ℕ → List ℕ
file_singular_out s n = if_read (check_of s) (singular_out (pattern_of s) n)

abbrev pub file_solid : List ℕ → Answer
file_solid s = when_read (check_of s) (solid_values (solid_answer (pattern_of s)))
