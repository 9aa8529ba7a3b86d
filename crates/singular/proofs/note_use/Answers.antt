-- The two ends, one after the other.
use mathlib.Core.Path.{◌∙◌, ap}
use native.Mathlib.Omega.{arith}
use Rattle.groups.specs.Forest.{root_of}
use Rattle.singular.proofs.Noting.{two_ends}
use Rattle.singular.proofs.note_use.Goals as goal

pub root-first-requires : goal.root-first-requires
root-first-requires c = rw (c.from.ensures ∙ c.first_end.ensures) c.requires.first

pub overflow_cast-first : goal.overflow_cast-first
overflow_cast-first c = omega (arith, c.root-first.ensures.low, c.args.groups.now.forest.few)

pub root-last-requires : goal.root-last-requires
root-last-requires c = rw (c.from-2.ensures ∙ c.last_end.ensures) c.requires.last

pub overflow_cast-last : goal.overflow_cast-last
overflow_cast-last c = omega (arith, c.root-last.ensures.low, c.args.groups.now.forest.few)

pub returns-clause-roots_after : goal.returns-clause-roots_after
returns-clause-roots_after c = let args = c.args in
    let p = two_ends _ _ args.groups.now.parents _ _ _ _
    (c.root-first.ensures.value ∙ ap (root_of args.groups.now.parents) (c.from.ensures ∙ c.first_end.ensures))
    (c.root-last.ensures.value ∙ ap (root_of args.groups.now.parents) (c.from-2.ensures ∙ c.last_end.ensures))
    c.front_of.ensures
    c.back_of.ensures
    (c.note-front.ensures.roots_after, (c.note-front.ensures.several_after, c.note-front.ensures.unmarked))
    (c.note.ensures.roots_after, (c.note.ensures.several_after, c.note.ensures.unmarked)) in p.0

pub returns-clause-several_after : goal.returns-clause-several_after
returns-clause-several_after c = let args = c.args in
    let p = two_ends _ _ args.groups.now.parents _ _ _ _
    (c.root-first.ensures.value ∙ ap (root_of args.groups.now.parents) (c.from.ensures ∙ c.first_end.ensures))
    (c.root-last.ensures.value ∙ ap (root_of args.groups.now.parents) (c.from-2.ensures ∙ c.last_end.ensures))
    c.front_of.ensures
    c.back_of.ensures
    (c.note-front.ensures.roots_after, (c.note-front.ensures.several_after, c.note-front.ensures.unmarked))
    (c.note.ensures.roots_after, (c.note.ensures.several_after, c.note.ensures.unmarked)) in p.1.0

pub returns-clause-unmarked : goal.returns-clause-unmarked
returns-clause-unmarked c = let args = c.args in
    let p = two_ends _ _ args.groups.now.parents _ _ _ _
    (c.root-first.ensures.value ∙ ap (root_of args.groups.now.parents) (c.from.ensures ∙ c.first_end.ensures))
    (c.root-last.ensures.value ∙ ap (root_of args.groups.now.parents) (c.from-2.ensures ∙ c.last_end.ensures))
    c.front_of.ensures
    c.back_of.ensures
    (c.note-front.ensures.roots_after, (c.note-front.ensures.several_after, c.note-front.ensures.unmarked))
    (c.note.ensures.roots_after, (c.note.ensures.several_after, c.note.ensures.unmarked)) in p.1.1
