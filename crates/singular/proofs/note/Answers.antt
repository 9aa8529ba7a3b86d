-- The first root at the point, the same one, or another.
use mathlib.Core.Path.{refl}
use Rattle.singular.proofs.Noting.{noted_first, noted_other, noted_same}
use Rattle.singular.proofs.note.Goals as goal

pub returns-then-first-clause-roots_after : goal.returns-then-first-clause-roots_after
returns-then-first-clause-roots_after c = let args = c.args in
    let e = noted_first args.roots.now args.several.now args.p args.r c.if-first.true in
    rw e refl

pub returns-then-first-clause-several_after : goal.returns-then-first-clause-several_after
returns-then-first-clause-several_after c = let args = c.args in
    let e = noted_first args.roots.now args.several.now args.p args.r c.if-first.true in
    rw e refl

pub returns-then-first-r-clause-roots_after : goal.returns-then-first-r-clause-roots_after
returns-then-first-r-clause-roots_after c = let args = c.args in
    let e = noted_other args.roots.now args.several.now args.p args.r c.if-first.false c.if-first-r.true in
    rw e refl

pub returns-then-first-r-clause-several_after : goal.returns-then-first-r-clause-several_after
returns-then-first-r-clause-several_after c = let args = c.args in
    let e = noted_other args.roots.now args.several.now args.p args.r c.if-first.false c.if-first-r.true in
    rw e refl

pub returns-clause-roots_after : goal.returns-clause-roots_after
returns-clause-roots_after c = let args = c.args in
    let e = noted_same args.roots.now args.several.now args.p args.r c.if-first.false c.if-first-r.false in
    rw e refl

pub returns-clause-several_after : goal.returns-clause-several_after
returns-clause-several_after c = let args = c.args in
    let e = noted_same args.roots.now args.several.now args.p args.r c.if-first.false c.if-first-r.false in
    rw e refl
