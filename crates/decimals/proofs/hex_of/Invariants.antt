-- The loop reads the 16 digits after 0x.
use Rattle.decimals.proofs.Numerals.{Parsing, sixteens}
use Rattle.decimals.specs.Decimals.{hex}
use Rattle.decimals.proofs.hex_of.Given as goal

abbrev pub invariant-loop-b : goal.invariant-loop-b
invariant-loop-b l = Parsing sixteens (hex l.word) 18446744073709551616 l.b-items l.n l.b-index
