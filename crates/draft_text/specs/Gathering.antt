-- The lines of a text in turn. Cited by inner contracts.
use Rattle.std.specs.Prelude.{◌≤◌, ℕ, List, [], ◌∷◌, ◌≡◌, Result, Ok, Err, length, take}
use Rattle.draft_forms.specs.LineForms.{line_kind, line_values}
use Rattle.draft_parts.specs.Parts.{needed_words}
use Rattle.draft_text.specs.TextPattern.{by_kind, next_number, word_faults}
use Rattle.draft_text.specs.declared.DraftError.{DraftError}
use Rattle.draft_text.specs.declared.Fault.{Fault}

-- the answer for a line: its first fault
abbrev pub first_wrong : List Fault → Result Unit Fault
first_wrong [] = Ok tt
first_wrong (f ∷ fs) = Err f

-- what is wrong with a line before the limits
unfoldable pub read_faults : List ℕ → List (List ℕ) → List Fault
read_faults counts ws =
    let k = line_kind ws in
    by_kind k (word_faults k (next_number k counts) ws)

-- the first n values, read from a line that has the words it needs
pub record Read (ws : List (List ℕ)) (n : ℕ) (values : List ℕ) : Type 0 where
  pub few : n ≤ length values
  pub are : take n values ≡ line_values ws
  pub needed : needed_words (line_kind ws) ≤ length (line_values ws)

-- the answer where the lines have this one
abbrev pub stopped : Result Unit DraftError → Result ℕ DraftError → Result ℕ DraftError
stopped (Ok x) m = m
stopped (Err e) m = Err e
