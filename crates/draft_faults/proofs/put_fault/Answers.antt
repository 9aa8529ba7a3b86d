-- A word of a line with the form of the line, a number, or a refusal with its meaning; each number has at most 20 digits.
use Prim.Native.Nat.{◌≤◌, ℕ}
use mathlib.Core.List.{List, ◌++◌}
use mathlib.Core.Path.{◌∙◌, ap, sym}
use native.Mathlib.Omega.{arith}
use lib.ListN.{length, length-append}
use Rattle.draft_forms.specs.declared.LineKind.{LineKind}
use Rattle.draft_faults.proofs.Laws.{number_is, put_short, refused_is, word_is}
use Rattle.draft_faults.specs.FaultLines.{fault_text}
use Rattle.lists.proofs.Sets.{put_then}
use Rattle.output.proofs.Laws.{decimal_20}
use Rattle.output.specs.Text.{ascii, decimal, field}
use Rattle.draft_text.specs.declared.Fault.TheVariants.{Word}
use Rattle.draft_faults.proofs.put_fault.Goals as goal

pub returns-in-Unknown : goal.returns-in-Unknown
returns-in-Unknown c = let args = c.args in
    put_short args.out.now args.at 160 _ _ (ap fault_text (c.in-Word.is ∙ ap (λ (k : LineKind). Word k c.in-Word.w) c.in-Unknown.is)) c.put_text.ensures (omega arith)

pub put_field-end-requires : goal.put_field-end-requires
put_field-end-requires c = let short : length (decimal c.in-Word.w) ≤ 20 = decimal_20 c.in-Word.w (omega arith) in
    omega (arith, short)

pub put_text-end-requires : goal.put_text-end-requires
put_text-end-requires c = let short : length (decimal c.in-Word.w) ≤ 20 = decimal_20 c.in-Word.w (omega arith) in
    omega (arith, short)

pub put_text-requires-in-Word : goal.put_text-requires-in-Word
put_text-requires-in-Word c = let short : length (decimal c.in-Word.w) ≤ 20 = decimal_20 c.in-Word.w (omega arith) in
    omega (arith, short, c.form_of.ensures.1)

pub put_field-end-requires-in-Number : goal.put_field-end-requires-in-Number
put_field-end-requires-in-Number c = let expected : length (decimal c.in-Number.n) ≤ 20 = decimal_20 c.in-Number.n (omega arith) in
    omega (arith, c.word_of.ensures.1, expected, length-append c.word_of.result.now (decimal c.in-Number.n))

pub put_text-requires-in-Number : goal.put_text-requires-in-Number
put_text-requires-in-Number c = let expected : length (decimal c.in-Number.n) ≤ 20 = decimal_20 c.in-Number.n (omega arith) in
    omega (arith, c.word_of.ensures.1, expected, c.put_field-end-in-Number.ensures.1, c.put_field-end-in-Number.auto, length-append c.word_of.result.now (decimal c.in-Number.n))

pub put_field-end-requires-in-Refused : goal.put_field-end-requires-in-Refused
put_field-end-requires-in-Refused c = omega (arith, decimal_20 c.number-n.result (omega arith))

pub put_text-requires-in-Refused : goal.put_text-requires-in-Refused
put_text-requires-in-Refused c = omega (arith, decimal_20 c.number-n.result (omega arith), c.meaning.ensures.1)

pub returns-in_default : goal.returns-in_default
unfolding field
returns-in_default c = let short : length (decimal c.in-Word.w) ≤ 20 = decimal_20 c.in-Word.w (omega arith) in
    let args = c.args in
    let x = ascii ": word " ++ decimal c.in-Word.w in
    let form = c.form_of.result.now in
    let p = put_then args.out.now args.at x (ascii " of ") _ _ _ _ c.put_field-end.ensures c.put_text-end.ensures in
    let q = put_then args.out.now args.at (x ++ ascii " of ") form _ _ _ _ p c.put_text-in-Word.ensures in
    put_short args.out.now args.at 160 _ _ (word_is c.in-Word.kind c.in-Word.w c.in-Word.is c.in_default.not-Unknown ∙ ap (λ (t : List ℕ). x ++ ascii " of " ++ t) (sym c.form_of.ensures.0)) q (omega (arith, q.1, short, c.form_of.ensures.1))

pub returns-in-Number : goal.returns-in-Number
returns-in-Number c = let expected : length (decimal c.in-Number.n) ≤ 20 = decimal_20 c.in-Number.n (omega arith) in
    let args = c.args in
    let n = c.in-Number.n in
    let word = c.word_of.result.now in
    let q = put_then args.out.now args.at (word ++ decimal n) (ascii " is expected\n") _ _ _ _ c.put_field-end-in-Number.ensures c.put_text-in-Number.ensures in
    put_short args.out.now args.at 160 _ _ (number_is c.in-Number.kind n c.in-Number.is ∙ ap (λ (t : List ℕ). t ++ decimal n ++ ascii " is expected\n") (sym c.word_of.ensures.0)) q (omega (arith, q.1, expected, c.word_of.ensures.1, length-append word (decimal n), length-append (word ++ decimal n) (ascii " is expected\n")))

pub returns-in-Refused : goal.returns-in-Refused
unfolding field
returns-in-Refused c = let args = c.args in
    let q = put_then args.out.now args.at (ascii ": refused " ++ decimal c.number-n.result) c.meaning.result.now _ _ _ _ c.put_field-end-in-Refused.ensures c.put_text-in-Refused.ensures in
    put_short args.out.now args.at 160 _ _ (refused_is c.in-Refused.r c.number-n.result c.in-Refused.is c.number-n.ensures ∙ ap (λ (t : List ℕ). field ": refused " c.number-n.result ++ t) (sym c.meaning.ensures.0)) q (omega (arith, q.1, decimal_20 c.number-n.result (omega arith), c.meaning.ensures.1))
