-- The points where several roots are met are the singular ones.
use mathlib.Core.Path.{◌∙◌, refl}
use native.Mathlib.Omega.{arith}
use Rattle.singular.proofs.Singular.{ends_joined, noteable, singular_marked, singular_none}
use Rattle.singular.proofs.singular_of.Goals as goal

pub start-requires : goal.start-requires
start-requires c = omega (arith, c.requires.wired.few_edges)

pub join_wires-requires : goal.join_wires-requires
join_wires-requires c = (c.start.ensures.count_after, c.requires.wired)

pub several_roots-requires-clause-by_index : goal.several_roots-requires-clause-by_index
several_roots-requires-clause-by_index c = rw (c.join_wires.ensures.2 ∙ c.start.ensures.count_after) (noteable _ _ _ _ _ _ c.requires)

pub several_roots-requires-clause-several_value : goal.several_roots-requires-clause-several_value
several_roots-requires-clause-several_value c = refl

pub returns-then-not-several_roots-clause-out_after : goal.returns-then-not-several_roots-clause-out_after
returns-then-not-several_roots-clause-out_after c = let joined = ends_joined _ _ _ c.requires.wired (rw c.new-groups.ensures.parents at c.start.ensures.parents_after, rw c.new-groups.ensures.sizes at c.start.ensures.sizes_after) c.join_wires.ensures.0 in
    rw (singular_none _ _ _ _ _ _ c.requires joined c.several_roots.ensures.several_after (c.several_roots.ensures.several_after_2 (c.if-not-several_roots.true))) (refl, refl)

pub returns-clause-out_after : goal.returns-clause-out_after
returns-clause-out_after c = let joined = ends_joined _ _ _ c.requires.wired (rw c.new-groups.ensures.parents at c.start.ensures.parents_after, rw c.new-groups.ensures.sizes at c.start.ensures.sizes_after) c.join_wires.ensures.0 in
    let e = singular_marked _ _ _ _ _ _ c.requires joined c.several_roots.ensures.several_after in
    rw (← e) c.put_points.ensures.out_after
