use Rattle.std.proofs.Common.{◌<◌, ap, sym, ◌∙◌, arith, ne_eqb}
use Rattle.mesh.specs.Reading.{State, release}
use Rattle.mesh_words.proofs.Places.{going_low, place_is, stopped_high}
use Rattle.mesh_words.specs.Following.{Follows, place_number}
use Rattle.store.specs.Store.{held}
use Rattle.mesh_read.proofs.Pieces.{Inner, byte_feed, byte_ink, byte_refused, byte_rest, byte_return, byte_space, byte_tab, follows_held}
use Rattle.mesh_read.proofs.byte.Goals as goal
use Rattle.mesh_read.proofs.byte.Goals.{After-release-r}

-- after the carriage return that was held back
released : (c : After-release-r) → (st : State)
    → let args = c.args in
    let p = held args.t.now args.spans.now in
    Follows st args.from p args.index.now → Inner args.b st × Follows (release st) c.release-r.result p args.index.now
released c =
    λ st f. let going : st.place < 30 = omega (arith, f.place, going_low c.args.from.place c.fault.ensures c.in_default.not-Some) in
    (record { going = going; no_feed = c.if-b-eq10.false; no_rest = λ e. c.in_default-place.not-Rest (place_is (f.place ∙ e)) }, c.release-r.ensures st _ _ f going)

pub returns-in-Some : goal.returns-in-Some
returns-in-Some c =
    λ st f. rw (byte_refused c.args.b st (omega (arith, f.place, stopped_high c.args.from.place c.fault.ensures c.in-Some.is))) f

pub returns-then-b-eq10 : goal.returns-then-b-eq10
returns-then-b-eq10 c =
    λ st f. rw (byte_feed _ st (omega (arith, f.place, going_low c.args.from.place c.fault.ensures c.in_default.not-Some)) c.if-b-eq10.true) (c.end_line.ensures st f)

pub returns-in-Rest : goal.returns-in-Rest
returns-in-Rest c =
    λ st f. rw (byte_rest _ st (ne_eqb _ 10 c.if-b-eq10.false) (sym f.place ∙ ap place_number c.in-Rest.is)) f

pub returns-then-b-eq13 : goal.returns-then-b-eq13
returns-then-b-eq13 c =
    λ st f. let g = (released (goal.at.returns-then-b-eq13 c).After-release-r) st f in rw (byte_return g.0 c.if-b-eq13.true) (follows_held g.1)

pub returns-then-b-eq32 : goal.returns-then-b-eq32
returns-then-b-eq32 c =
    λ st f.
    let g = (released (goal.at.returns-then-b-eq32 c).After-release-r) st f in
    rw (byte_space g.0 c.if-b-eq13.false c.if-b-eq32.true) (c.end_word.ensures (release st) g.1)

pub returns-then-b-eq9 : goal.returns-then-b-eq9
returns-then-b-eq9 c =
    λ st f.
    let g = (released (goal.at.returns-then-b-eq9 c).After-release-r) st f in
    rw (byte_tab g.0 c.if-b-eq13.false c.if-b-eq9.true) (c.end_word-then-b-eq9.ensures (release st) g.1)

pub returns : goal.returns
returns c =
    λ st f.
    let g = (released (goal.at.returns c).After-release-r) st f in
    rw (byte_ink g.0 c.if-b-eq13.false c.if-b-eq32.false c.if-b-eq9.false) (c.ink.ensures (release st) _ _ g.1)
