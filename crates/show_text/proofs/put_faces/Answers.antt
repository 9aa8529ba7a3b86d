use native.Mathlib.Omega.{arith}
use Prim.Native.Nat.{◌+◌, ◌-◌, ◌≤◌, ℕ}
use lib.ListN.{drop, length, take}
use mathlib.Core.Path.{◌∙◌, ◌≡◌, ap}
use mathlib.Core.List.{List}
use Rattle.face.specs.declared.Face.{Face}
use Rattle.store.specs.Store.{face_in}
use Rattle.show_text.proofs.Faces.{face_next, face_ready, face_uses, face_wires_lem, facing_all, facing_start}
use Rattle.show_text.proofs.put_faces.Goals as goal
use Rattle.show_text.proofs.put_faces.Goals.{After-from, After-sum_of-m}

-- the number of wires of face k
read : (c : After-from) → c.from.result ≡ (face_in c.args.t.now c.loop-k.k).wires
read c =
    c.from.ensures ∙ ap (λ (f : Face). f.wires) c.face_in-face.ensures

abbrev lens : After-from → List ℕ
lens c = take (c.loop-k.wire + c.from.result - c.loop-k.wire) (drop c.loop-k.wire c.wires_in-wires.result.now)

fits : (c : After-from) → (c.loop-k.wire + c.from.result ≤ length c.wires_in-wires.result.now) × (length (lens c) ≡ c.from.result) × (c.loop-k.wire + c.from.result ≤ 1024)
fits c =
    face_wires_lem c.tables_known.ensures c.requires.0 c.loop-k.invariant c.uses_in-uses.ensures c.wires_in-wires.ensures (omega arith) (read c)

fits_uses : (c : After-sum_of-m) → (c.loop-k.first + c.sum_of-m.result ≤ length c.uses_in-uses.result.now) × (c.loop-k.first + c.sum_of-m.result ≤ 4096)
fits_uses c =
    let read : c.from.result ≡ (face_in c.args.t.now c.loop-k.k).wires = c.from.ensures ∙ ap (λ (f : Face). f.wires) c.face_in-face.ensures in
    let f = face_uses c.tables_known.ensures c.requires.0 c.loop-k.invariant c.uses_in-uses.ensures c.wires_in-wires.ensures (omega arith) read c.sum_of-m.ensures in
    (f.0, f.2)

pub loop-k-init : goal.loop-k-init
loop-k-init c =
    facing_start _ _ _ _

pub face_in-face-requires : goal.face_in-face-requires
face_in-face-requires c =
    omega (arith, c.requires.0.few)

pub overflow_add-last : goal.overflow_add-last
overflow_add-last c =
    omega (arith, (fits (goal.at.overflow_add-last c).After-from))

pub offset_bounds-wires-wire : goal.offset_bounds-wires-wire
offset_bounds-wires-wire c =
    omega (arith, (fits (goal.at.offset_bounds-wires-wire c).After-from))

pub slice_bounds-lens-end : goal.slice_bounds-lens-end
slice_bounds-lens-end c =
    (fits (goal.at.slice_bounds-lens-end c).After-from).0

pub sum_of-m-requires : goal.sum_of-m-requires
sum_of-m-requires c =
    omega (arith, fits (goal.at.sum_of-m-requires c).After-from)

pub overflow_add-first : goal.overflow_add-first
overflow_add-first c =
    omega (arith, (fits_uses (goal.at.overflow_add-first c).After-sum_of-m))

pub offset_bounds-uses-first : goal.offset_bounds-uses-first
offset_bounds-uses-first c =
    omega (arith, (fits_uses (goal.at.offset_bounds-uses-first c).After-sum_of-m))

pub slice_bounds-put_face-end : goal.slice_bounds-put_face-end
slice_bounds-put_face-end c =
    (fits_uses (goal.at.slice_bounds-put_face-end c).After-sum_of-m).0

pub put_face-end-requires : goal.put_face-end-requires
put_face-end-requires c =
    let f = face_ready c.tables_known.ensures c.requires.0 c.loop-k.invariant c.uses_in-uses.ensures c.wires_in-wires.ensures (omega arith) (read (goal.at.put_face-end-requires c).After-from) c.sum_of-m.ensures c.requires.1 in
    (f.0, omega (arith, c.requires.0.few), f.1)

pub overflow_add-first-in-loop-k : goal.overflow_add-first-in-loop-k
overflow_add-first-in-loop-k c =
    omega (arith, (fits_uses (goal.at.overflow_add-first-in-loop-k c).After-sum_of-m))

pub loop-k-preserved : goal.loop-k-preserved
loop-k-preserved c =
    face_next c.tables_known.ensures c.requires.0 c.loop-k.invariant c.uses_in-uses.ensures c.wires_in-wires.ensures (omega arith) (read (goal.at.loop-k-preserved c).After-from) c.sum_of-m.ensures (ap (λ (f : Face). f.surface) c.face_in-face.ensures) _ _ (c.put_face-end.ensures.0, c.put_face-end.ensures.1) c.put_face-end.ensures.2

pub shape_of-out : goal.shape_of-out
shape_of-out c =
    c.loop-k.invariant.listing.long

pub returns : goal.returns
returns c =
    let e = facing_all c.tables_known.ensures c.requires.0 c.loop-k.invariant c.loop-k-test.false in
    (e.0.0, e.0.1, e.1)
