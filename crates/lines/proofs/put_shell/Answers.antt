-- The three parts, one after the other; there is room for each.
use Prim.Native.Nat.{◌≤◌}
use mathlib.Core.List.{◌++◌}
use mathlib.Core.Path.{◌∙◌, sym}
use native.Mathlib.Omega.{arith}
use lib.ListN.{length}
use Rattle.lists.proofs.Sets.{put_then}
use Rattle.lines.proofs.Bounds.{parts_short, shell_is}
use Rattle.lines.proofs.Steps.{put_as}
use Rattle.lines.specs.Parts.{component_lines, head_lines, opening_lines}
use Rattle.lines.proofs.put_shell.Goals as goal

pub put_openings-components-requires : goal.put_openings-components-requires
put_openings-components-requires c = let short : (length (head_lines c.args.n c.args.condition.0 c.args.connected) ≤ 43)
    × (length (opening_lines c.args.lens.now c.args.uses.now c.args.lookups) ≤ 30736)
    × (length (component_lines c.args.plens.now c.args.pairs.now c.args.points.now) ≤ 39424) = parts_short c.args.condition.0 c.args.connected c.requires (λ k. omega (arith, c.type_inv.points k)) in
    let pre = c.requires in
    let s = short in (pre.all_uses, omega (arith, pre.room, c.put_head-openings.ensures.1, c.put_head-openings.auto.out))

pub put_components-requires : goal.put_components-requires
put_components-requires c = let short : (length (head_lines c.args.n c.args.condition.0 c.args.connected) ≤ 43)
    × (length (opening_lines c.args.lens.now c.args.uses.now c.args.lookups) ≤ 30736)
    × (length (component_lines c.args.plens.now c.args.pairs.now c.args.points.now) ≤ 39424) = parts_short c.args.condition.0 c.args.connected c.requires (λ k. omega (arith, c.type_inv.points k)) in
    let pre = c.requires in
    let s = short in (pre.all_pairs, omega (arith, pre.room, c.put_head-openings.ensures.1, c.put_head-openings.auto.out, c.put_openings-components.ensures.1, c.put_openings-components.auto.out))

pub shape_of-out : goal.shape_of-out
shape_of-out c = c.put_components.auto.out ∙ c.put_openings-components.auto.out ∙ c.put_head-openings.auto.out

pub returns : goal.returns
returns c = let short : (length (head_lines c.args.n c.args.condition.0 c.args.connected) ≤ 43)
    × (length (opening_lines c.args.lens.now c.args.uses.now c.args.lookups) ≤ 30736)
    × (length (component_lines c.args.plens.now c.args.pairs.now c.args.points.now) ≤ 39424) = parts_short c.args.condition.0 c.args.connected c.requires (λ k. omega (arith, c.type_inv.points k)) in
    let args = c.args in
    let s = short in
    let x = head_lines args.n args.condition.0 args.connected in
    let y = opening_lines args.lens.now args.uses.now args.lookups in
    let z = component_lines args.plens.now args.pairs.now args.points.now in
    let p = put_then args.out.now args.at x y _ _ _ _ c.put_head-openings.ensures c.put_openings-components.ensures in
    let q = put_then args.out.now args.at (x ++ y) z _ _ _ _ p c.put_components.ensures in
    let e = shell_is args.n args.condition.0 args.connected args.lens.now args.uses.now args.lookups args.plens.now args.pairs.now args.points.now in
    let r = put_as args.out.now args.at _ _ (sym e) q in
    (r.0, r.1, omega (arith, c.put_head-openings.ensures.1, c.put_openings-components.ensures.1, c.put_components.ensures.1))
