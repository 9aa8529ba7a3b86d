use mathlib.Core.Path.{◌∙◌, ◌≡◌, sym}
use lib.ListN.{get_or}
use Rattle.mesh_words.proofs.Runs.{inks_past, run_all, run_next, run_over, run_slash, run_start}
use borrow.Author.Rules.{rules}
use Rattle.mesh_words.proofs.Reader.spell_all.Goals as goal
use Rattle.mesh_words.proofs.Reader.spell_all.Goals.{in-Word+else-b-eq47, in_default, then-n-lt11, else-n-lt11}
use Rattle.mesh_words.specs.declared.Place.TheVariants.{Word}

pub returns-then-self : goal.returns-then-self
returns-then-self c st p index f start gap = inks_past _ f (record { no_start = start; no_gap = gap }) c.if-self.true

pub loop-b-init : goal.loop-b-init
loop-b-init c = run_start _ _ c.if-self.false (search rules)

pub returns-then-b-eq47 : goal.returns-then-b-eq47
returns-then-b-eq47 c st p index f start gap = let u = c.loop-b.invariant in
    run_slash u c.loop-b-test.true (u.place ∙ c.in-Word.is) c.if-b-eq47.true st p index f (record { no_start = start; no_gap = gap })

pub returns : goal.returns
returns c st p index f start gap = run_all c.loop-b.invariant c.loop-b-test.false st p index f (record { no_start = start; no_gap = gap })

pub loop-b-preserved : goal.loop-b-preserved
loop-b-preserved c =
    let plain : c.loop-b.self.place ≡ Word → get_or c.args.bytes.now c.loop-b.b-index 0 ≡ 47 → ⊥ = λ at is.
    elim c.match-place.branch [
      | in-Word+else-b-eq47 w ↦ w.if-b-eq47.false is
      | in_default w ↦ w.in_default.not-Word (sym c.loop-b.invariant.place ∙ at)
    ] in
    let u = c.loop-b.invariant in
    let h = c.loop-b-test.true in
    elim c.if-n-lt11.branch [
      | then-n-lt11 w ↦ rw (w.word-is, w.n-is) (run_next u h plain w.if-n-lt11.true)
      | else-n-lt11 w ↦ rw (w.word-is, w.n-is) (run_over u h plain w.if-n-lt11.false)
    ]
