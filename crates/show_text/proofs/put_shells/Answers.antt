use native.Mathlib.Omega.{arith}
use Prim.Native.Nat.{◌+◌, ◌<◌, ◌≤◌}
use mathlib.Core.Path.{◌≡◌, sym}
use lib.ListN.{length, take}
use Rattle.show_text.proofs.Shells.{shell_fits, shell_next, shell_room, shelling_all, shelling_start, shells_long}
use Rattle.show_text.proofs.put_shells.Goals as goal
use Rattle.show_text.proofs.put_shells.Goals.{After-from-m, After-shells_in-shells, In-loop-k}

long : (c : After-shells_in-shells) → length (take c.args.n c.shells_in-shells.result.now) ≡ c.args.n
long c =
    shells_long c.tables_known.ensures c.requires.0 c.shells_in-shells.ensures

there : (c : In-loop-k) → c.loop-k.k < c.args.n
there c =
    omega (arith, shells_long c.tables_known.ensures c.requires.0 c.shells_in-shells.ensures)

fits : (c : After-from-m) → (c.loop-k.first + c.from-m.result ≤ length c.listings_in-listings.result.now) × (c.loop-k.first + c.from-m.result ≤ 512)
fits c =
    let k : c.loop-k.k < c.args.n = omega (arith, shells_long c.tables_known.ensures c.requires.0 c.shells_in-shells.ensures) in
    let f = shell_fits c.tables_known.ensures c.requires.0 c.loop-k.invariant c.shells_in-shells.ensures c.listings_in-listings.ensures k c.from-m.ensures in
    (f.0, f.2)

pub loop-k-init : goal.loop-k-init
loop-k-init c =
    shelling_start _ _ _ _

pub slice_bounds-count-items-end : goal.slice_bounds-count-items-end
slice_bounds-count-items-end c =
    sym (long (goal.at.slice_bounds-count-items-end c).After-shells_in-shells)

pub offset_bounds-count-items-k : goal.offset_bounds-count-items-k
offset_bounds-count-items-k c =
    omega (arith, c.requires.0.few, there (goal.at.offset_bounds-count-items-k c).In-loop-k)

pub overflow_add-first : goal.overflow_add-first
overflow_add-first c =
    omega (arith, (fits (goal.at.overflow_add-first c).After-from-m))

pub offset_bounds-listings-first : goal.offset_bounds-listings-first
offset_bounds-listings-first c =
    omega (arith, (fits (goal.at.offset_bounds-listings-first c).After-from-m))

pub slice_bounds-put_shell-end : goal.slice_bounds-put_shell-end
slice_bounds-put_shell-end c =
    (fits (goal.at.slice_bounds-put_shell-end c).After-from-m).0

pub put_shell-end-requires : goal.put_shell-end-requires
put_shell-end-requires c =
    let k = there (goal.at.put_shell-end-requires c).In-loop-k in
    (omega (arith, c.requires.0.few, k), shell_room c.tables_known.ensures c.requires.0 c.loop-k.invariant c.shells_in-shells.ensures c.listings_in-listings.ensures k c.from-m.ensures c.requires.1)

pub overflow_add-first-in-loop-k : goal.overflow_add-first-in-loop-k
overflow_add-first-in-loop-k c =
    omega (arith, (fits (goal.at.overflow_add-first-in-loop-k c).After-from-m))

pub loop-k-preserved : goal.loop-k-preserved
loop-k-preserved c =
    shell_next c.tables_known.ensures c.requires.0 c.loop-k.invariant c.shells_in-shells.ensures c.listings_in-listings.ensures (there (goal.at.loop-k-preserved c).In-loop-k) c.from-m.ensures _ _ (c.put_shell-end.ensures.0, c.put_shell-end.ensures.1) c.put_shell-end.ensures.2

pub shape_of-out : goal.shape_of-out
shape_of-out c =
    c.loop-k.invariant.listing.long

pub returns : goal.returns
returns c =
    shelling_all c.tables_known.ensures c.requires.0 c.loop-k.invariant (omega (arith, long (goal.at.returns c).After-shells_in-shells))
