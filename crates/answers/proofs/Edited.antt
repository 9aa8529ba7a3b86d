-- An edit of a shell, on a file.
use Rattle.errors.specs.Numbers.{call_reply}
use Rattle.errors.specs.declared.CallError.{CallError}
use Rattle.errors.specs.declared.CallError.TheVariants.{Refused, Unread}
use Rattle.std.specs.Prelude.{Err, Ok, Result}
use Rattle.store_write.specs.declared.NoSpace.{NoSpace}
use Prim.Native.Nat.{ℕ}
use mathlib.Core.List.{[], List, ◌∷◌}
use mathlib.Core.Path.{ap, refl, ◌∙◌, ◌≡◌}
use Rattle.answers.proofs.Read.{after_loaded, when_loaded}
use Rattle.answers.specs.Read.{after_read, edited_bytes, when_read}
use Rattle.answers.specs.Values.{answer, with_file}
use Rattle.answers.specs.declared.Answer.{Answer}
use Rattle.edit_answers.specs.Answers.{answer_of, edit_reply}
use Rattle.edit_answers.specs.declared.EditError.{EditError}
use Rattle.errors.specs.Faults.{first}
use Rattle.errors.specs.declared.Refusal.{Refusal}
use Rattle.pattern.specs.Checks.{pattern_faults}
use Rattle.pattern.specs.Contents.{Pattern, content}
use Rattle.pattern_file.specs.File.{file_bytes, table_faults}
use Rattle.store_read.proofs.Fresh.{blank}
use Rattle.store_read.specs.Loading.{check_of, loaded, pattern_of}
use Rattle.store_write.specs.Writing.{write_answer, write_bytes, written, written_reply}

judged_fine : {T : Type 0} (fs : List Refusal) (es : List EditError) (a b : T) → answer_of fs es b ≡ Ok a → fs ≡ []
judged_fine [] es a b h = refl
judged_fine (f ∷ fs) es a b h = cc

-- an edit that was done was done to a pattern without fault
pub edited_fine : {T : Type 0} (fs : List Refusal) (es : List EditError) (b : T) {j : Result T (CallError EditError)} {a : T} → answer_of fs es b ≡ j → j ≡ Ok a → fs ≡ []
edited_fine fs es b {j} {a} e h = judged_fine fs es a b (e ∙ h)

module _ {T : Type 0} (values : T → List ℕ) where
  abbrev edited : Result T (CallError EditError) → Result ℕ (CallError NoSpace) → Answer
  edited j w = answer (with_file (call_reply values edit_reply j) (written_reply w))

  -- refused, the answer is told without a file
  alone : (x : CallError EditError) (w : Result ℕ (CallError NoSpace)) → answer (call_reply values edit_reply (Err x)) ≡ edited (Err x) w
  alone (Unread f) w = refl
  alone (Refused e) w = refl

  -- the answer of the edit told, and the file written, in each case
  module _ (j : Result T (CallError EditError)) (q : Pattern) (out : List ℕ) where
    abbrev Told : Answer → List ℕ → Type 0
    Told r bs = (r ≡ edited j (written q out)) × (bs ≡ edited_bytes j q out)

    pub told_done : {r : Answer} {a : T} {w : Result ℕ (CallError NoSpace)} {bs : List ℕ} → j ≡ Ok a → pattern_faults q ≡ [] → r ≡ edited j w
        → w ≡ write_answer [] (file_bytes (content q)) out → bs ≡ write_bytes [] (file_bytes (content q)) out → Told r bs
    told_done e ok is file bytes = (is ∙ rw ok (ap (edited j) file), rw (e, ok) bytes)

    pub told_refused : {r : Answer} {x : CallError EditError} → j ≡ Err x → r ≡ answer (call_reply values edit_reply j) → Told r out
    told_refused {x = x} e is = (is ∙ rw e (alone x (written q out)), rw e)

  -- an edit of a file that was read into a store of zeros, which then held q
  module _ (s : List ℕ) (q : Pattern) (done : q ≡ loaded blank s) (right : first (table_faults s) ≡ Ok tt) (faults : Pattern → List EditError) (gives : Pattern → T) (after : Pattern → Pattern) (out : List ℕ) where
    abbrev edit : Pattern → Result T (CallError EditError)
    edit p = answer_of (pattern_faults p) (faults p) (gives p)

    pub file_edited : {j : Result T (CallError EditError)} {r : Pattern} {a : Answer} {bs : List ℕ} → j ≡ edit q → r ≡ after q → (a ≡ edited j (written r out)) × (bs ≡ edited_bytes j r out)
        → (a ≡ when_read (check_of s) (edited (edit (pattern_of s)) (written (after (pattern_of s)) out))) × (bs ≡ after_read (check_of s) out (edited_bytes (edit (pattern_of s)) (after (pattern_of s)) out))
    file_edited ej er told = (
      when_loaded s q done right (λ (p : Pattern). edited (edit p) (written (after p) out)) (λ p f fs h. rw h) (told.0 ∙ (λ i. edited (ej i) (written (er i) out))),
      after_loaded s q done right out (λ (p : Pattern). edited_bytes (edit p) (after p) out) (λ p f fs h. rw h) (told.1 ∙ (λ i. edited_bytes (ej i) (er i) out)),
    )
