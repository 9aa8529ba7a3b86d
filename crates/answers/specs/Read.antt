-- A call on a pattern file: the reading checks answer first; then the call on the pattern (FORMAT 6.2).
use Rattle.std.specs.Prelude.{ℕ, List, [], Result, Ok, Err}
use Rattle.answers.specs.Values.{unread}
use Rattle.answers.specs.declared.Answer.{Answer}
use Rattle.edit_answers.specs.declared.EditError.{EditError}
use Rattle.errors.specs.declared.CallError.{CallError}
use Rattle.errors.specs.declared.Refusal.{Refusal}
use Rattle.pattern.specs.Contents.{Pattern}
use Rattle.store_write.specs.Writing.{written_bytes}

abbrev pub when_read : Result Unit Refusal → Answer → Answer
when_read (Ok x) a = a
when_read (Err f) a = unread f

-- what is written: nothing if the file is refused
abbrev pub if_read {ℓ} : {A : Type ℓ} → Result Unit Refusal → List A → List A
if_read (Ok x) xs = xs
if_read (Err f) xs = []

-- a lent list afterwards: as it was if the file is refused
abbrev pub after_read {ℓ} : {A : Type ℓ} → Result Unit Refusal → A → A → A
after_read (Ok x) before after = after
after_read (Err f) before after = before

-- the slice after an edit of a shell that gave pattern q: its file, if the edit was not refused
abbrev pub edited_bytes : {T : Type 0} → Result T (CallError EditError) → Pattern → List ℕ → List ℕ
edited_bytes (Ok x) q out = written_bytes q out
edited_bytes (Err e) q out = out
