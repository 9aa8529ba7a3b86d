-- The rule, then the room, then what is written.
use mathlib.Core.Path.{◌∙◌, sym}
use native.Mathlib.Omega.{arith}
use Rattle.cut_face_results.proofs.Results.{two_broken, two_few, two_long, two_written}
use Rattle.cut_face_results.proofs.write_two.Goals as goal

-- a record from the pairs that a law gives
split3 : {A B C R : Type 0} → (A → B → C → R) → A × (B × C) → R
split3 f p = f p.0 p.1.0 p.1.1

pub returns-then-not-keep_rule : goal.returns-then-not-keep_rule
returns-then-not-keep_rule c = let w = c.args.first.now in
    split3 (λ x y z. record { value = x; uses_after = y; lens_after = z }) (two_broken w.ends.fronts.now w.ends.backs.now w.uses.now c.args.second.now.uses.now c.args.uses.now c.args.lens.now (rw c.requires.same_ends at (sym c.if-not-keep_rule.true ∙ c.keep_rule.ensures)))

pub returns-then-uses-n : goal.returns-then-uses-n
returns-then-uses-n c = let w = c.args.first.now in
    split3 (λ x y z. record { value = x; uses_after = y; lens_after = z }) (two_long w.ends.fronts.now w.ends.backs.now w.uses.now c.args.second.now.uses.now c.args.uses.now c.args.lens.now (rw c.requires.same_ends at (sym c.if-not-keep_rule.false ∙ c.keep_rule.ensures)) c.if-uses-n.true)

pub returns-then-lens-lt2 : goal.returns-then-lens-lt2
returns-then-lens-lt2 c = let w = c.args.first.now in
    split3 (λ x y z. record { value = x; uses_after = y; lens_after = z }) (two_few w.ends.fronts.now w.ends.backs.now w.uses.now c.args.second.now.uses.now c.args.uses.now c.args.lens.now (rw c.requires.same_ends at (sym c.if-not-keep_rule.false ∙ c.keep_rule.ensures)) (omega arith) c.if-lens-lt2.true)

pub returns : goal.returns
returns c = let w = c.args.first.now in
    split3 (λ x y z. record { value = x; uses_after = y; lens_after = z }) (two_written w.ends.fronts.now w.ends.backs.now w.uses.now c.args.second.now.uses.now c.args.uses.now c.args.lens.now (rw c.requires.same_ends at (sym c.if-not-keep_rule.false ∙ c.keep_rule.ensures)) (omega arith) (omega arith) _ _ c.copy_to.ensures c.copy_to-2.ensures)
