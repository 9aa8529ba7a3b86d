use mathlib.Core.Path.{◌∙◌, ◌≡◌, ap}
use native.Mathlib.Omega.{arith}
use lib.ListN.{get_or}
use Rattle.mesh.specs.Mesh.{backward, forward}
use Rattle.text.specs.Tokens.{number}
use Rattle.mesh_corners.proofs.Laws.{empty_plain, numbered_minus, numbered_plain, rest_whole}
use Rattle.mesh_corners.proofs.corner_of.Goals as goal
use Rattle.mesh_corners.proofs.corner_of.Goals.{else-n-gt0-via-then-n-gt0+else-word-eq45, else-n-gt0-via-else-n-gt0}

pub returns-then-word-eq45 : goal.returns-then-word-eq45
returns-then-word-eq45 c = numbered_minus _ c.args.word.now c.if-word-eq45.true (c.backward_of.ensures ∙ ap (backward _) (c.number_of.ensures ∙ ap number (rest_whole c.args.word.now)))

pub returns : goal.returns
returns c =
    let plain : get_or c.args.word.now 0 0 ≡ 45 → ⊥ = elim c.else-n-gt0.branch [
      | else-n-gt0-via-then-n-gt0+else-word-eq45 w ↦ w.if-word-eq45.false
      | else-n-gt0-via-else-n-gt0 w ↦ empty_plain c.args.word.now (omega (arith, w.if-n-gt0.false))
    ] in
    numbered_plain _ c.args.word.now plain (c.forward_of.ensures ∙ ap (forward _) c.number_of-2.ensures)
