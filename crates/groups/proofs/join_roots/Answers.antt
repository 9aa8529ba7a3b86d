-- The roots are what the two finds answer; each way out is one case of the definition.
use mathlib.Core.Path.{◌∙◌, ap, sym}
use native.Mathlib.Omega.{arith}
use Rattle.groups.proofs.Joining.{ready_back, ready_under, rooted_less, rooted_more, rooted_one}
use Rattle.groups.specs.Forest.{Trees, root_of}
use Rattle.groups.proofs.join_roots.Goals as goal

pub returns-then-a-b : goal.returns-then-a-b
returns-then-a-b c = let args = c.args in
    let e = rooted_one _ _ (root_of args.parents.now args.i) (root_of args.parents.now args.j) (sym c.find-a.ensures ∙ c.if-a-b.true ∙ c.find-b.ensures) in
    record { parents_after = sym (ap (λ (t : Trees). t.parents) e); sizes_after = sym (ap (λ (t : Trees). t.sizes) e) }

pub put_under-requires : goal.put_under-requires
put_under-requires c = let p = ready_under _ _ _ _ _ _ (ready_back _ _ _ _ c.requires) c.find-b.ensures c.find-a.ensures (λ e. c.if-a-b.false (sym e)) in record { a_bound = p.0; a_in_bounds = p.1.0; b_bound = p.1.1 }

pub put_under-requires-else-sizes-a : goal.put_under-requires-else-sizes-a
put_under-requires-else-sizes-a c = let p = ready_under _ _ _ _ _ _ c.requires c.find-a.ensures c.find-b.ensures c.if-a-b.false in record { a_bound = p.0; a_in_bounds = p.1.0; b_bound = p.1.1 }

pub returns-then-sizes-a : goal.returns-then-sizes-a
returns-then-sizes-a c = record { parents_after = rw (← c.find-b.ensures, ← c.find-a.ensures, rooted_less _ _ _ _ c.if-a-b.false c.if-sizes-a.true) c.put_under.ensures.parents_after; sizes_after = rw (← c.find-b.ensures, ← c.find-a.ensures, rooted_less _ _ _ _ c.if-a-b.false c.if-sizes-a.true) c.put_under.ensures.sizes_after }

pub returns-else-sizes-a : goal.returns-else-sizes-a
returns-else-sizes-a c = let args = c.args in
    let find = c.find-a in
    let find2 = c.find-b in
    record { parents_after = rw (← find2.ensures, ← find.ensures, rooted_more args.parents.now args.sizes.now find.result find2.result c.if-a-b.false (omega (arith, c.if-sizes-a.false))) c.put_under-else-sizes-a.ensures.parents_after; sizes_after = rw (← find2.ensures, ← find.ensures, rooted_more args.parents.now args.sizes.now find.result find2.result c.if-a-b.false (omega (arith, c.if-sizes-a.false))) c.put_under-else-sizes-a.ensures.sizes_after }
