-- The threads are those that the groups are written from.
use native.Mathlib.Omega.{arith}
use Rattle.sequence.proofs.Loops.{fresh, key_groups_few, key_groups_long}
use borrow.Author.Rules.{rules}
use Rattle.sequence.proofs.groups_by.Goals as goal

pub thread-requires : goal.thread-requires
thread-requires c = fresh _ _ _ _ c.requires

pub put_groups-requires : goal.put_groups-requires
put_groups-requires c = let thread = c.thread in
    (c.requires, (search rules, (search rules, (thread.ensures.heads, thread.ensures.nexts))))

pub returns-clause-out_after : goal.returns-clause-out_after
returns-clause-out_after c = let args = c.args in
    let put-groups = c.put_groups in
    put-groups.ensures.out_after

pub returns-clause-lens_after : goal.returns-clause-lens_after
returns-clause-lens_after c = let args = c.args in
    let put-groups = c.put_groups in
    put-groups.ensures.lens_after

pub returns-clause-value : goal.returns-clause-value
returns-clause-value c = let args = c.args in
    let put-groups = c.put_groups in
    put-groups.ensures.value

pub returns-clause-keys_len : goal.returns-clause-keys_len
returns-clause-keys_len c = let args = c.args in
    let put-groups = c.put_groups in
    (key_groups_long args.names.now args.keys.now, omega (arith, put-groups.ensures.value, key_groups_few args.names.now args.keys.now))
