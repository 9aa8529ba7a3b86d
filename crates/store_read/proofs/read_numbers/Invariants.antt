use Prim.Native.Nat.{ℕ, ◌+◌, ◌*◌}
use mathlib.Core.Path.{◌≡◌}
use lib.Seq.{sets}
use Rattle.lists.specs.Lists.{tabulate}
use Rattle.words.specs.Words.{le16}
use Rattle.store_read.proofs.read_numbers.Given as goal

abbrev pub invariant-loop-k : goal.invariant-loop-k
invariant-loop-k l = l.t ≡ sets l.initial.t l.to (tabulate l.k (λ (j : ℕ). le16 l.s (l.at + 2 * j)))
