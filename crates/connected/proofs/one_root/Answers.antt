use Rattle.std.proofs.Common.{ℕ, ◌≡◌, ◌+◌, ◌-◌, ◌<◌, ◌∙◌, List, ap, length, take, drop, get_or, length-take}
use Rattle.std.proofs.lemmas.List.{get_or-take}
use Rattle.std.proofs.lemmas.Grind.{get_or_after_one}
use native.Mathlib.Omega.{arith}
use Rattle.connected.proofs.Loops.{roots_end, roots_next, roots_none, roots_start, roots_stop}
use Rattle.connected.proofs.one_root.Goals as goal
use Rattle.connected.proofs.one_root.Goals.{In-loop-u}

-- where this turn's use is
place : (xs : List ℕ) (k : ℕ) → k < length (take (length xs - 1) (drop 1 xs))
    → (k + 1 < length xs) × (get_or (take (length xs - 1) (drop 1 xs)) k 0 ≡ get_or xs (k + 1) 0)
place xs k h =
    let l : k < length xs - 1 = omega (arith, length-take (length xs - 1) (drop 1 xs)) in
    let e : 1 + k ≡ k + 1 = omega arith in
    (omega arith, get_or-take (length xs - 1) (drop 1 xs) k 0 l ∙ get_or_after_one xs k 0 ∙ ap (λ n. get_or xs n 0) e)

here : (c : In-loop-u) → (c.loop-u.u-index + 1 < length c.args.uses.now)
    × (get_or (take (length c.args.uses.now - 1) (drop 1 c.args.uses.now)) c.loop-u.u-index 0 ≡ get_or c.args.uses.now (c.loop-u.u-index + 1) 0)
here c = place c.args.uses.now c.loop-u.u-index c.loop-u-test.true

pub returns-then-uses-eq0 : goal.returns-then-uses-eq0
returns-then-uses-eq0 c = roots_none _ _ c.args.uses.now c.if-uses-eq0.true

pub root_of-root-requires : goal.root_of-root-requires
root_of-root-requires c = (c.requires.each 0 (omega arith), c.requires.starts 0 (omega arith))

pub loop-u-init : goal.loop-u-init
loop-u-init c = roots_start _ _ _ (omega arith) c.root_of-root.ensures

pub root_of-requires : goal.root_of-requires
root_of-requires c = let h = here (goal.at.root_of-requires c).In-loop-u in rw h.1 (c.requires.each _ h.0, c.requires.starts _ h.0)

pub returns-then-root_of-root : goal.returns-then-root_of-root
returns-then-root_of-root c = let h = here (goal.at.returns-then-root_of-root c).In-loop-u in roots_stop _ _ _ c.loop-u.invariant h.0 (rw h.1 at c.root_of.ensures) c.if-root_of-root.true

pub loop-u-preserved : goal.loop-u-preserved
loop-u-preserved c = let h = here (goal.at.loop-u-preserved c).In-loop-u in roots_next _ _ _ c.loop-u.invariant h.0 (rw h.1 at c.root_of.ensures) c.if-root_of-root.false

pub returns : goal.returns
returns c = roots_end _ _ _ c.loop-u.invariant (omega arith)
