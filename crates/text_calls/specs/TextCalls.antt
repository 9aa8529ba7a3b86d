-- The answer of a text in numbers, and with the length of the sentence that says what is wrong (FORMAT 6.2).
use Rattle.std.specs.Prelude.{ℕ, [], ◌∷◌, Result, get_or, length}
use Rattle.answers.specs.Values.{answer}
use Rattle.answers.specs.declared.Answer.{Answer}
use Rattle.draft_faults.specs.FaultLines.{made_text}
use Rattle.draft_text.specs.TextPattern.{made_reply}
use Rattle.draft_text.specs.declared.DraftError.{DraftError}
use Rattle.errors.specs.Numbers.{Reply}

-- a third value: how long the sentence is
abbrev pub with_length : Reply → ℕ → Reply
with_length r n = record { outcome = r.outcome; number = r.number; values = get_or r.values 0 0 ∷ get_or r.values 1 0 ∷ n ∷ [] }

abbrev pub draft_answer : Result ℕ DraftError → Answer
draft_answer m = answer (with_length (made_reply m) (length (made_text m)))
