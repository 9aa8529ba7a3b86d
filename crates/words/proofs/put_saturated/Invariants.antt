-- The loop writes value after value.
use mathlib.Core.List.{map}
use mathlib.Core.Path.{◌≡◌}
use lib.ListN.{take}
use lib.Seq.{sets}
use Rattle.words.specs.Words.{short}
use Rattle.words.proofs.put_saturated.Given as goal

abbrev pub invariant-loop-i : goal.invariant-loop-i
invariant-loop-i l = l.out ≡ sets l.initial.out l.at (map short (take l.i l.ns))
