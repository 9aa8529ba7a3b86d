-- Which text each branch writes.
use Rattle.draft_text.specs.declared.DraftError.{DraftError}
use Rattle.draft_text.specs.declared.DraftError.TheVariants.{At}
use Rattle.std.specs.Prelude.{Err, Ok, Result}
use Prim.Native.Nat.{◌+◌, ◌≤◌, ℕ}
use mathlib.Core.List.{List, ◌++◌}
use mathlib.Core.Path.{◌∙◌, ◌≡◌, ap, refl}
use native.Mathlib.Omega.{arith}
use lib.ListN.{length}
use lib.Seq.{sets}
use Rattle.lists.proofs.Sets.{Put}
use Rattle.draft_forms.specs.declared.LineKind.{LineKind}
use Rattle.draft_forms.specs.declared.LineKind.TheVariants.{Comment, Edge, Empty, Face, Point, Shell, Unknown}
use Rattle.draft_faults.specs.FaultLines.{error_text, fault_text, line_form, line_word, made_text, meaning}
use Rattle.errors.specs.Numbers.{number}
use Rattle.errors.specs.declared.Refusal.{Refusal}
use Rattle.errors.specs.declared.Refusal.TheVariants.{Unnamed}
use Rattle.output.specs.Text.{ascii, decimal, digits, field}
use Rattle.draft_text.specs.declared.Fault.{Fault}
use Rattle.draft_text.specs.declared.Fault.TheVariants.{Number, Refused, Word}

-- a text that is another by its definition, and how long it may be
pub put_short : (l : List ℕ) (at m : ℕ) {xs ys : List ℕ} (out : List ℕ) (end : ℕ) → ys ≡ xs → Put l at xs out end → length xs ≤ m
    → (out ≡ sets l at ys) × (end ≡ at + length ys) × (end ≤ at + m)
put_short l at m out end e p h = rw e (p.0, p.1, omega (arith, p.1))

-- what is wrong: a word, a number, or a refusal
word_known : (k : LineKind) (w : ℕ) → (k ≡ Unknown → ⊥) → fault_text (Word k w) ≡ field ": word " w ++ ascii " of " ++ line_form k
word_known Point w h = refl
word_known Edge w h = refl
word_known Face w h = refl
word_known Shell w h = refl
word_known Comment w h = refl
word_known Empty w h = refl
word_known Unknown w h = absurd (h refl)

pub word_is : {f : Fault} (k : LineKind) (w : ℕ) → f ≡ Word k w → (k ≡ Unknown → ⊥) → fault_text f ≡ field ": word " w ++ ascii " of " ++ line_form k
word_is k w e h = ap fault_text e ∙ word_known k w h

pub number_is : {f : Fault} (k : LineKind) (n : ℕ) → f ≡ Number k n → fault_text f ≡ line_word k ++ decimal n ++ ascii " is expected\n"
number_is k n e = rw e

pub refused_is : {f : Fault} (r : Refusal) (n : ℕ) → f ≡ Refused r → n ≡ number r → fault_text f ≡ field ": refused " n ++ meaning n
refused_is r n e h = rw (e, h)

-- nothing, or the line
pub none_is : {m : Result ℕ DraftError} (n : ℕ) (l : List ℕ) → m ≡ Ok n → (l ≡ sets l 0 (made_text m)) × (0 ≡ length (made_text m))
unfolding made_text
none_is n l e = rw e (refl, refl)

pub error_is : {m : Result ℕ DraftError} {e d : DraftError} → m ≡ Err e → e ≡ d → made_text m ≡ error_text d
unfolding made_text
error_is i h = rw (i, h)

-- examples
word_of : made_text (Err (At 3 (Word Point 4))) ≡ ascii "line 3: word 4 of point NUMBER label LABEL\n"
unfolding made_text line_form field decimal digits
word_of = refl

number_of : made_text (Err (At 5 (Number Point 3))) ≡ ascii "line 5: point 3 is expected\n"
unfolding made_text line_word field decimal digits
number_of = refl

refused_of : made_text (Err (At 12 (Refused (Unnamed 2 7)))) ≡ ascii "line 12: refused 3: a number that names nothing\n"
unfolding made_text meaning field decimal digits
refused_of = refl
