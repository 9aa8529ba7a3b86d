-- The forest is that of the uses' links.
use Prim.Native.Nat.{ℕ}
use mathlib.Core.Path.{◌∙◌, ap}
use mathlib.Core.List.{List}
use native.Mathlib.Omega.{arith}
use lib.ListN.{length}
use lib.Seq.{sets}
use Rattle.components.specs.Pairs.{roots_of}
use Rattle.components.proofs.put_keys.Goals as goal

pub overflow_add-edges : goal.overflow_add-edges
overflow_add-edges c = omega (arith, c.requires.0.few, c.requires.0.low)

pub start-requires : goal.start-requires
start-requires c = omega (arith, c.requires.0.few, c.requires.0.low)

pub link_uses-requires : goal.link_uses-requires
link_uses-requires c = (c.requires.0, c.start.ensures.count_after)

pub put_roots-requires : goal.put_roots-requires
put_roots-requires c = (omega (arith, c.link_uses.ensures.2, c.start.ensures.count_after), c.requires.1)

pub returns : goal.returns
returns c = let args = c.args in
    c.put_roots.ensures
    ∙ ap (λ (ps : List ℕ). sets args.keys.now 0 (roots_of ps args.edges (length args.spans.now))) (rw (c.start.ensures.parents_after, c.start.ensures.sizes_after, c.new-groups.ensures.parents, c.new-groups.ensures.sizes) at c.link_uses.ensures.0)
