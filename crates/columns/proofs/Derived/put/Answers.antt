-- The tables are those of a pattern without fault, so that each column can be made.
use mathlib.Core.Path.{ap}
use native.Mathlib.Omega.{arith}
use Rattle.columns.proofs.Made.{counts_fine, firsts_ready, made, places_ready, starts_ready, turned_ready}
use Rattle.columns.specs.declared.Derived.{Derived}
use Rattle.store.proofs.Parts.{part_long}
use Rattle.columns.proofs.Derived.put.Goals as goal

pub short_known-requires : goal.short_known-requires
short_known-requires c = rw c.uses_in.ensures (omega (arith, part_long c.args.t.now 2056 4096 (omega (arith, c.tables_known.ensures))))

pub short_known-requires-2 : goal.short_known-requires-2
short_known-requires-2 c = rw c.listings_in.ensures (omega (arith, part_long c.args.t.now 7704 512 (omega (arith, c.tables_known.ensures))))

pub lists_in-lists-requires : goal.lists_in-lists-requires
lists_in-lists-requires c = counts_fine c.args.t.now c.tables_known.ensures c.requires.faultless

pub put_turned_uses-requires : goal.put_turned_uses-requires
put_turned_uses-requires c = let r = turned_ready c.args.t.now c.tables_known.ensures c.requires.faultless in
    let l = c.lists_in-lists.ensures in
    rw (l.uses, l.wires) (r.0, r.1, r.2, ap (λ (d : Derived). d.turned) c.requires.self_underived)

pub put_face_starts-requires : goal.put_face_starts-requires
put_face_starts-requires c = let r = starts_ready c.args.t.now c.tables_known.ensures c.requires.faultless in
    let l = c.lists_in-lists.ensures in
    rw (l.wires, l.faces) (r.0, r.1, r.2, ap (λ (d : Derived). d.starts) c.requires.self_underived)

pub put_firsts-requires : goal.put_firsts-requires
put_firsts-requires c = rw c.lists_in-lists.ensures.faces (firsts_ready c.args.t.now c.tables_known.ensures c.requires.faultless, ap (λ (d : Derived). d.firsts) c.requires.self_underived)

pub put_firsts-requires-2 : goal.put_firsts-requires-2
put_firsts-requires-2 c = rw c.lists_in-lists.ensures.shells (places_ready c.args.t.now c.tables_known.ensures c.requires.faultless, ap (λ (d : Derived). d.places) c.requires.self_underived)

pub returns : goal.returns
returns c = let l = c.lists_in-lists.ensures in
    made c.args.t.now c.tables_known.ensures c.requires.faultless _ _ _ _
    (rw c.uses_in.ensures at c.short_known.ensures)
    (rw c.listings_in.ensures at c.short_known-2.ensures)
    (rw (l.uses, l.wires) at c.put_turned_uses.ensures)
    (rw (l.wires, l.faces) at c.put_face_starts.ensures)
    (rw l.faces at c.put_firsts.ensures)
    (rw l.shells at c.put_firsts-2.ensures)
