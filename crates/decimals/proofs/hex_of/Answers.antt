use Rattle.std.proofs.Common.{◌≡◌, ◌∙◌, ◌-◌, length, get_or, drop, take, sym, arith, length-drop, eq-eqb, ne_eqb}
use Rattle.decimals.proofs.Hex.{digit_none, digit_some}
use Rattle.decimals.proofs.Numerals.{parsing_all, parsing_next, parsing_room, parsing_stop, sixteens}
use Rattle.text.proofs.Words.{rest_is}
use Rattle.decimals.proofs.hex_of.Goals as goal

pub returns-then-word-ne18 : goal.returns-then-word-ne18
returns-then-word-ne18 c = rw (ne_eqb (length _) 18 c.if-word-ne18.true)

pub loop-b-init : goal.loop-b-init
loop-b-init c =
    let word = c.args.word.now in
    let l : length (drop 2 word) ≡ 16 = omega (arith, length-drop 2 word) in
    record { low = omega arith; same = rw (rest_is 2 word, eq-eqb (length word) 18 c.if-word-ne18.false); room = rw (rest_is 2 word, l) (omega arith) }

pub returns-in_err-n : goal.returns-in_err-n
returns-in_err-n c = c.from_residual.ensures ∙ parsing_stop sixteens _ _ _ _ _ c.loop-b.invariant c.loop-b-test.true (digit_none (get_or (take (length c.args.word.now - 2) (drop 2 c.args.word.now)) c.loop-b.b-index 0) (sym c.hex_digit.ensures ∙ c.in_err-n.was))

pub overflow_mul-n : goal.overflow_mul-n
overflow_mul-n c = omega (arith, parsing_room sixteens _ _ _ _ _ c.loop-b.invariant c.loop-b-test.true)

pub overflow_add-n : goal.overflow_add-n
overflow_add-n c =
    let b = get_or (take (length c.args.word.now - 2) (drop 2 c.args.word.now)) c.loop-b.b-index 0 in
    let d = digit_some b (sym c.hex_digit.ensures ∙ c.in_ok-n.was) in
    omega (arith, parsing_room sixteens _ _ _ _ _ c.loop-b.invariant c.loop-b-test.true, d.1, sixteens.small b d.0)

pub loop-b-preserved : goal.loop-b-preserved
loop-b-preserved c =
    let d = digit_some (get_or (take (length c.args.word.now - 2) (drop 2 c.args.word.now)) c.loop-b.b-index 0) (sym c.hex_digit.ensures ∙ c.in_ok-n.was) in
    rw d.1 (parsing_next sixteens _ _ _ _ _ c.loop-b.invariant c.loop-b-test.true d.0)

pub returns : goal.returns
returns c = parsing_all sixteens _ _ _ _ _ c.loop-b.invariant c.loop-b-test.false
