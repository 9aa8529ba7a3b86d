-- The answer for a text, and the list afterwards.
use Rattle.draft_text.specs.declared.DraftError.{DraftError}
use Rattle.draft_text.specs.declared.DraftError.TheVariants.{At, Marked, NotEmpty, Nothing, TooLong}
use Rattle.errors.specs.declared.CallError.{CallError}
use Rattle.std.specs.Prelude.{Err, Ok, Result}
use Rattle.store_write.specs.declared.NoSpace.{NoSpace}
use Prim.Native.Nat.{◌<◌, ◌≤◌, ℕ}
use mathlib.Core.Bool.{Bool, beq, false, not, true, true≢false}
use mathlib.Core.List.{List, [], ◌++◌, ◌∷◌}
use mathlib.Core.Path.{◌∙◌, ◌≡◌, ap, refl, sym}
use native.Mathlib.Omega.{arith}
use lib.Ieee.{Float}
use lib.ListN.{drop, length}
use borrow.Author.Tests.{le-leb, le-ltb, lt-ltb}
use Rattle.errors.proofs.Laws.{accepted_none, none_both}
use Rattle.errors.specs.Faults.{first}
use Rattle.errors.specs.Numbers.{body, record_number}
use Rattle.errors.specs.declared.Refusal.{Refusal}
use Rattle.draft_parts.specs.Parts.{bare, nothing}
use Rattle.lists.specs.Lists.{pick}
use Rattle.pattern.specs.Checks.{content_faults, count_faults, pattern_faults}
use Rattle.pattern.specs.Contents.{Content, content, counts_of}
use Rattle.pattern_file.proofs.Places.{end_le, end_limit}
use Rattle.pattern_file.specs.File.{file_bytes, start_of}
use Rattle.store.proofs.View.{held_full, held_seven}
use Rattle.store.specs.Store.{count_table, held}
use Rattle.store_write.proofs.Parts.{counts_same, upto_length}
use Rattle.text.specs.Text.{lines}
use Rattle.draft_text.specs.Gathering.{stopped}
use Rattle.draft_text.specs.TextPattern.{agreed, checked, first_made, has_mark, line_with, made, made_in, said, text_content, text_faults, text_file}
use Rattle.draft_text.specs.declared.Fault.TheVariants.{Refused}
use Rattle.store_write.specs.Writing.{write_answer, write_bytes}

-- the answer of the reading checks
abbrev pub judged : List ℕ → Result ℕ DraftError
judged text = checked (content_faults (text_content text)) text (text_file text)

-- and before it whether the text says that the pattern is empty
abbrev pub told : List ℕ → Result ℕ DraftError
told text = agreed (bare (counts_of (text_content text))) (said (lines text)) (judged text)

module _ (text out : List ℕ) where
  abbrev pub Done : Result ℕ DraftError → List ℕ → Type 0
  Done m out' = (m ≡ made text) × (out' ≡ made_in (made text) (text_file text) out)

  done : (m : Result ℕ DraftError) (out' : List ℕ) → made text ≡ m → out' ≡ made_in m (text_file text) out → Done m out'
  done m out' e w = (sym e, rw e w)

  pub making_long : 262144 < length text → Done (Err TooLong) out
  unfolding made
  making_long h = done (Err TooLong) out (rw (lt-ltb 262144 (length text) h)) refl

  pub making_marked : length text ≤ 262144 → true ≡ has_mark text → Done (Err Marked) out
  unfolding made
  making_marked low h = done (Err Marked) out (rw (le-ltb 262144 (length text) low, ← h)) refl

  -- the answer of the lines
  module _ (low : length text ≤ 262144) (unmarked : false ≡ has_mark text) (check : Result Unit DraftError) (lines-say : (m : Result ℕ DraftError) → first_made (text_faults nothing 1 (lines text)) m ≡ stopped check m) where
    made_is : made text ≡ stopped check (told text)
    unfolding made
    made_is = rw (le-ltb 262144 (length text) low, ← unmarked) (lines-say (told text))

    pub making_wrong : (e : DraftError) {a : Result ℕ DraftError} → a ≡ Err e → check ≡ Err e → Done a out
    making_wrong e {a} i h = done a out (made_is ∙ rw (h, i)) (rw i)

    pub made_right : check ≡ Ok tt → made text ≡ told text
    made_right e = made_is ∙ rw e

-- what the code knows when no line is wrong, with the answer that it is to give
pub record Filed (text t : List ℕ) (spans : List Float) (answer : Result ℕ DraftError) : Type 0 where
  pub is : made text ≡ answer
  pub long : length t ≡ 12312
  pub few : count_faults (count_table t) ≡ []
  pub same : content (held t spans) ≡ text_content text

-- whether the text says that the pattern is empty, and whether it is: as the code compares them
differ : (b s : Bool) (m : Result ℕ DraftError) → not (beq b s) ≡ true → agreed b s m ≡ pick b (Err Nothing) (Err NotEmpty)
differ true true m h = absurd (true≢false (sym h))
differ true false m h = refl
differ false true m h = refl
differ false false m h = absurd (true≢false (sym h))

same : (b s : Bool) (m : Result ℕ DraftError) → not (beq b s) ≡ false → agreed b s m ≡ m
same true true m h = refl
same true false m h = absurd (true≢false h)
same false true m h = absurd (true≢false h)
same false false m h = refl

module _ {text t : List ℕ} {spans : List Float} (d : Filed text t spans (told text)) (ns : List ℕ) (counted : ns ≡ count_table t) (b : Bool) (is_bare : b ≡ bare ns) (s : Bool) (is_said : s ≡ said (lines text)) where
  told_is : made text ≡ agreed b s (judged text)
  told_is =
      let counts = counts_same (held t spans) (held_full t spans d.long) (held_seven t spans d.long) d.few in
      let e : b ≡ bare (counts_of (text_content text)) = is_bare ∙ ap bare (counted ∙ sym counts) ∙ ap (λ (c : Content). bare (counts_of c)) d.same in
      rw (e, is_said) d.is

  pub making_differ : (out : List ℕ) → not (beq b s) ≡ true → (m : Result ℕ DraftError) → pick b (Err Nothing) (Err NotEmpty) ≡ m → out ≡ made_in m (text_file text) out → Done text out m out
  making_differ out h m e w = done text out m out (told_is ∙ differ b s (judged text) h ∙ e) w

  pub filed_on : not (beq b s) ≡ false → Filed text t spans (judged text)
  filed_on h = record { is = told_is ∙ same b s (judged text) h; long = d.long; few = d.few; same = d.same }

module _ {text t : List ℕ} {spans : List Float} (d : Filed text t spans (judged text)) where
  abbrev file : List ℕ
  file = file_bytes (content (held t spans))

  -- no file is longer than the longest
  file_short : length file ≤ 41048
  file_short =
      let counts = counts_same (held t spans) (held_full t spans d.long) (held_seven t spans d.long) d.few in
      omega (arith, upto_length (content (held t spans)) 7, ap (λ (ns : List ℕ). start_of ns 7) counts, end_le (count_table t) d.few (held_seven t spans d.long), end_limit)

  module _ (accepted : Ok tt ≡ first (content_faults (content (held t spans)))) where
    pub no_faults : pattern_faults (held t spans) ≡ []
    no_faults = none_both (count_faults (count_table t)) (content_faults (content (held t spans))) d.few (accepted_none (content_faults (content (held t spans))) (sym accepted))

    module _ (out : List ℕ) (room : length out ≡ 41048) where
      -- it fits
      pub fits : (w : Result ℕ (CallError NoSpace)) → w ≡ write_answer [] file out → w ≡ Ok (length file)
      fits w wrote = wrote ∙ rw (le-leb (length file) (length out) (omega (arith, file_short)))

      pub making_good : (a : Result ℕ DraftError) (out' : List ℕ) → a ≡ Ok (length file) → out' ≡ write_bytes [] file out → Done text out a out'
      making_good a out' i b =
          let none : content_faults (text_content text) ≡ [] = ap content_faults (sym d.same) ∙ accepted_none (content_faults (content (held t spans))) (sym accepted) in
          let long : length (text_file text) ≡ length file = ap (λ (c : Content). length (file_bytes c)) (sym d.same) in
          done text out a out' (d.is ∙ rw (none, long, i))
          (rw i (b ∙ rw (le-leb (length file) (length out) (omega (arith, file_short))) (ap (λ (c : Content). file_bytes c ++ drop (length (file_bytes c)) out) d.same)))

  pub making_bad : (out : List ℕ) (f : Refusal) (b r at : ℕ) → Err f ≡ first (content_faults (content (held t spans))) → b ≡ body f → r ≡ record_number f
      → at ≡ line_with b r 1 (lines text) → Done text out (Err (At at (Refused f))) out
  making_bad out f b r at e eb er w = done text out (Err (At at (Refused f))) out (d.is ∙ found (content_faults (text_content text)) (e ∙ ap (λ (c : Content). first (content_faults c)) d.same)) refl
    where
      found : (fs : List Refusal) → Err f ≡ first fs → checked fs text (text_file text) ≡ Err (At at (Refused f))
      found [] q = absurd (let z : ◌≡◌ {A = ℕ} 0 1 = cc in omega arith)
      found (g ∷ fs) q = let s : f ≡ g = cc in rw (w, eb, er, s)
