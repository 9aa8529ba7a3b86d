-- A wire that is too long breaks the rule; else the two results are judged and written.
use Prim.Native.Nat.{◌*◌, ◌+◌, ◌-◌, ℕ}
use mathlib.Core.Path.{◌≡◌}
use native.Mathlib.Omega.{arith}
use lib.ListN.{drop, length, replicate, take}
use Rattle.cut_face_results.proofs.Few.{first_uses, long_breaks, named_of, second_uses}
use Rattle.cut_face_results.proofs.Results.{after_long, first_made, second_made}
use Rattle.cut_face_results.specs.Results.{cut_after}
use Rattle.face_edits.specs.FaceEdits.{first_of, second_of}
use Rattle.cut_face_results.proofs.Cutting.cut_after.Goals as goal
use Rattle.cut_face_results.proofs.Cutting.cut_after.Goals.{After-put_two}

-- a record from the pairs that a law gives
split3 : {A B C R : Type 0} → (A → B → C → R) → A × (B × C) → R
split3 f p = f p.0 p.1.0 p.1.1

-- the two results stand in the array
first : (c : After-put_two) → take (c.args.k + length c.args.self.now.wire.now) c.put_two.new.out ≡ first_of c.args.self.now.outline.now c.args.k c.args.self.now.wire.now
first c = first_made _ _ (replicate {A = ℕ} 8192 0) _ c.requires (omega arith) _ c.put_two.ensures

second : (c : After-put_two) → let n = c.args.k + length c.args.self.now.wire.now in
    take (length c.args.self.now.outline.now + 2 * length c.args.self.now.wire.now - n) (drop n c.put_two.new.out) ≡ second_of c.args.self.now.outline.now c.args.k c.args.self.now.wire.now
second c = second_made _ _ (replicate {A = ℕ} 8192 0) _ c.requires (omega arith) _ c.put_two.ensures

pub returns-then-m-gt2048 : goal.returns-then-m-gt2048
returns-then-m-gt2048 c =
    split3 (λ x y z. record { value = x; uses_after = y; lens_after = z }) (after_long _ _ _ _ _ _ _ (long_breaks _ _ _ _ _ c.args.self.now.point_ends c.args.self.now.outline_edges c.args.self.now.wire_edges (omega arith)))

pub invariant_of-first : goal.invariant_of-first
invariant_of-first c = record {
  named = rw (first (goal.at.invariant_of-first c).After-put_two) (named_of _ _ _ c.args.self.now.point_ends (first_uses _ _ _ c.args.self.now.outline_edges c.args.self.now.wire_edges _));
}

pub invariant_of-second : goal.invariant_of-second
invariant_of-second c = record {
  named = rw (second (goal.at.invariant_of-second c).After-put_two) (named_of _ _ _ c.args.self.now.point_ends (second_uses _ _ _ c.args.self.now.outline_edges c.args.self.now.wire_edges _));
}

pub returns-clause-value : goal.returns-clause-value
unfolding cut_after
returns-clause-value c = let at = (goal.at.returns-clause-value c).After-put_two in
    rw (first at, second at) at c.write_two.ensures.value

pub returns-clause-uses_after : goal.returns-clause-uses_after
unfolding cut_after
returns-clause-uses_after c = let at = (goal.at.returns-clause-uses_after c).After-put_two in
    rw (first at, second at) at c.write_two.ensures.uses_after

pub returns-clause-lens_after : goal.returns-clause-lens_after
unfolding cut_after
returns-clause-lens_after c = let at = (goal.at.returns-clause-lens_after c).After-put_two in
    rw (first at, second at) at c.write_two.ensures.lens_after
