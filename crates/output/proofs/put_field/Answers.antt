-- The text, then the number.
use native.Mathlib.Omega.{arith}
use lib.ListN.{length-append}
use Rattle.lists.proofs.Sets.{put_then}
use Rattle.output.specs.Text.{decimal}
use Rattle.output.proofs.put_field.Goals as goal

pub put_text-number-requires : goal.put_text-number-requires
put_text-number-requires c = let args = c.args in omega (arith, length-append args.text.now (decimal args.n))

pub returns : goal.returns
returns c = let args = c.args in
    put_then args.out.now _ args.text.now (decimal _) _ _ _ _ c.put_text-number.ensures c.put_decimal.ensures
