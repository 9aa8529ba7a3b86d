-- The part is as many keys as there are names.
use lib.ListN.{length}
use Rattle.components.proofs.Loops.{first_part}
use Rattle.components.proofs.group_first.Goals as goal

pair : {A B : Type 0} → A → B → A × B
pair a b = (a, b)

pub groups_by-requires : goal.groups_by-requires
groups_by-requires c = rw (first_part (length _) _) c.requires.1

pub returns-clause-out_after : goal.returns-clause-out_after
returns-clause-out_after c = let z = rw (first_part (length _) _) at (pair c.groups_by.ensures.out_after (pair c.groups_by.ensures.lens_after (pair c.groups_by.ensures.value c.groups_by.ensures.keys_len))) in z.0

pub returns-clause-lens_after : goal.returns-clause-lens_after
returns-clause-lens_after c = let z = rw (first_part (length _) _) at (pair c.groups_by.ensures.out_after (pair c.groups_by.ensures.lens_after (pair c.groups_by.ensures.value c.groups_by.ensures.keys_len))) in z.1.0

pub returns-clause-value : goal.returns-clause-value
returns-clause-value c = let z = rw (first_part (length _) _) at (pair c.groups_by.ensures.out_after (pair c.groups_by.ensures.lens_after (pair c.groups_by.ensures.value c.groups_by.ensures.keys_len))) in z.1.1.0
