-- Past a limit nothing is stored; else the edge is found, or made.
use native.Mathlib.Omega.{arith}
use borrow.Author.Rules.{rules}
use Rattle.mesh_draw.proofs.Sides.{kept_found, kept_full, kept_made, kept_many, kept_over}
use Rattle.mesh_draw.proofs.add_side.Goals as goal

pub returns-then-f-gt2048 : goal.returns-then-f-gt2048
returns-then-f-gt2048 c = λ m us k.
    let args = c.args in
    kept_many args.t.now args.spans.now args.p args.q k c.if-f-gt2048.true

pub returns-then-n-gt1024 : goal.returns-then-n-gt1024
returns-then-n-gt1024 c = λ m us k.
    let args = c.args in
    kept_over args.t.now args.spans.now args.p args.q k c.if-f-gt2048.false c.if-n-gt1024.true

pub returns-in-Some : goal.returns-in-Some
returns-in-Some c = λ m us k.
    let args = c.args in
    kept_found args.t.now args.spans.now args.p args.q k c.if-f-gt2048.false c.if-n-gt1024.false
    c.find_edge.ensures.value c.in-Some.is (c.use_edge.ensures m us args.index.now k)

pub returns-then-n-eq1024 : goal.returns-then-n-eq1024
returns-then-n-eq1024 c = λ m us k.
    let args = c.args in
    kept_full args.t.now args.spans.now args.p args.q k c.if-f-gt2048.false c.if-n-gt1024.false
    c.find_edge.ensures.value (search rules) c.if-n-eq1024.true

pub returns : goal.returns
returns c = λ m us k.
    let args = c.args in
    kept_made args.t.now args.spans.now args.p args.q k c.if-f-gt2048.false c.if-n-gt1024.false
    c.find_edge.ensures.value (search rules) c.store_edge.new.t c.store_edge.new.spans (omega arith) c.unit_edge.ensures
    c.store_edge.ensures c.note_edge.ensures c.use_edge-2.ensures
