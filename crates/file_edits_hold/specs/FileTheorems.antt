-- What the theorems on the edits of a file speak of (FORMAT 4, 6.2).
use Rattle.std.specs.Prelude.{ℕ, ◌<◌, ◌≤◌, List, [], ◌≡◌, get_or, length, take}
use Rattle.edit_answers.specs.declared.EditError.{EditError}
use Rattle.pattern.specs.Contents.{Content}
use Rattle.pattern_file.specs.File.{file_bytes, file_content, file_faults}
use Rattle.shell_edits.specs.Theorems.{first_number}

-- the first n numbers of a slice are bytes, a file that the reading checks accept, and its content is c
pub record FileOf (c : Content) (n : ℕ) (out : List ℕ) : Type 0 where
  pub inside : n ≤ length out
  pub bytes : (k : ℕ) → get_or (take n out) k 0 < 256
  pub accepted : file_faults (take n out) ≡ []
  pub holds : file_content (take n out) ≡ c

-- the file is accepted, and the edit, with these refusals, is refused with 17: a table would pass its limit
abbrev pub TooFull : List ℕ → List EditError → Type 0
TooFull s es = (file_faults s ≡ []) × (first_number es ≡ 17)

-- the file is accepted, the edit is not refused, and the edited file, with content c, is longer than the slice
abbrev pub TooShort : List ℕ → List EditError → Content → List ℕ → Type 0
TooShort s es c out = (file_faults s ≡ []) × (es ≡ []) × (length out < length (file_bytes c))
