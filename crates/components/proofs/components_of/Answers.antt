-- The groups by keys are the components.
use native.Mathlib.Omega.{arith}
use Rattle.components.proofs.Roots.{components_few, components_long, key_components, keys_keyed, keys_part, keys_room}
use Rattle.components.proofs.components_of.Goals as goal

pair : {A B : Type 0} → A → B → A × B
pair a b = (a, b)

pub group_first-requires : goal.group_first-requires
group_first-requires c = let pre = c.requires in
    (keys_room _ _ _ pre.shown _ _ _ pre _ c.put_keys.ensures, rw (keys_part _ _ _ pre.shown _ _ _ pre _ c.put_keys.ensures) (keys_keyed _ _ _ pre.shown _ _ _ pre))

pub returns-clause-out_after : goal.returns-clause-out_after
returns-clause-out_after c = let pre = c.requires in
    let z = rw (keys_part _ _ _ pre.shown _ _ _ pre _ c.put_keys.ensures, key_components _ _ _ pre.shown _) at (pair c.group_first.ensures.out_after (pair c.group_first.ensures.lens_after c.group_first.ensures.value)) in z.0

pub returns-clause-lens_after : goal.returns-clause-lens_after
returns-clause-lens_after c = let pre = c.requires in
    let z = rw (keys_part _ _ _ pre.shown _ _ _ pre _ c.put_keys.ensures, key_components _ _ _ pre.shown _) at (pair c.group_first.ensures.out_after (pair c.group_first.ensures.lens_after c.group_first.ensures.value)) in z.1.0

pub returns-clause-value : goal.returns-clause-value
returns-clause-value c = let pre = c.requires in
    let z = rw (keys_part _ _ _ pre.shown _ _ _ pre _ c.put_keys.ensures, key_components _ _ _ pre.shown _) at (pair c.group_first.ensures.out_after (pair c.group_first.ensures.lens_after c.group_first.ensures.value)) in z.1.1

pub returns-clause-uses_len : goal.returns-clause-uses_len
returns-clause-uses_len c = let pre = c.requires in
    let z = rw (keys_part _ _ _ pre.shown _ _ _ pre _ c.put_keys.ensures, key_components _ _ _ pre.shown _) at (pair c.group_first.ensures.out_after (pair c.group_first.ensures.lens_after c.group_first.ensures.value)) in (components_long _ _ _ pre.shown _ _ _ pre, omega (arith, z.1.1, components_few _ _ _ pre.shown _ _ _ pre))
