use Rattle.std.proofs.Common.{◌≡◌, ℕ, ◌<◌, min, length, get_or, arith, length-append}
use Rattle.std.proofs.lemmas.Slice.Zip.{zip_end, zip_turn}
use Rattle.groups.proofs.All.{joins_end, joins_next, joins_start}
use Rattle.groups.proofs.Laws.{ready}
use Rattle.groups.proofs.join_all.Goals as goal
use Rattle.groups.proofs.join_all.Goals.{In-None, In-Some}

-- the pair of this turn
turn : (c : In-Some) → let k = length c.loop-i.yielded in (k < length c.args.a.now) × (k < length c.args.b.now)
    × ((d : ℕ) → c.in-Some.field-0-0.now ≡ get_or c.args.a.now k d) × ((d : ℕ) → c.in-Some.field-0-1.now ≡ get_or c.args.b.now k d)
turn c = zip_turn _ _ _ _ _ c.next.new.self _ (cc) (cc) c.loop-i.yielded_by _ c.in-Some.is c.next.ensures.steps

over : (c : In-None) → length c.loop-i.yielded ≡ min (length c.args.a.now) (length c.args.b.now)
over c = zip_end _ _ _ _ _ c.next.new.self _ (cc) (cc) c.loop-i.yielded_by c.in-None.is c.next.ensures.steps

pub loop-i-init : goal.loop-i-init
loop-i-init c = joins_start _ _ _ _ _ c.requires.forest

pub join-requires : goal.join-requires
join-requires c =
    let t = turn (goal.at.join-requires c).In-Some in
    let h = c.requires.b_len.1 _ t.0 in
    ready _ _ _ c.loop-i.invariant.forest _ _ (omega (arith, h.0, t.2 0)) (omega (arith, h.1, t.3 0))

pub loop-i-preserved : goal.loop-i-preserved
loop-i-preserved c =
    let t = turn (goal.at.loop-i-preserved c).In-Some in
    let joined = c.join.ensures in
    simp length-append (joins_next _ _ _ _ _ _ _ _ c.requires.b_len c.loop-i.invariant t.0 (rw (← t.2 0, ← t.3 0) (joined.parents_after, joined.sizes_after)))

pub returns : goal.returns
returns c =
    let p = joins_end _ _ _ _ _ _ _ _ c.requires.b_len c.loop-i.invariant (omega (arith, over c, c.requires.b_len.0)) in record { parents_after = p.0; sizes_after = p.1 }
