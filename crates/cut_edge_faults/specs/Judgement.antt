-- The refusals of a cut that come after 3, from what the code finds of the shell.
use Rattle.edge.specs.declared.Curve.{Curve}
use Rattle.std.specs.Prelude.{◌+◌, ℕ, Bool, List, [], ◌∷◌, ltb, Err, None, Ok, Option, Result, Some}
use Rattle.edit_answers.specs.declared.EditError.{EditError}
use Rattle.edit_answers.specs.declared.EditError.TheVariants.{CurveRefuses}
use Rattle.shell_edits.specs.Edits.{later_faults}

-- a face is shared, the point is met, so many wires have the edge, what the curve gives, how many edges and uses there are
abbrev pub found_faults : Bool → Bool → ℕ → Option (Curve × Curve) → ℕ → ℕ → List EditError
found_faults shared met cuts halves edges uses = later_faults shared met (ltb 0 cuts) halves (edges + 2) (uses + cuts)

-- the first refusal; without one, the halves
abbrev pub judgement : List EditError → Option (Curve × Curve) → Result (Curve × Curve) EditError
judgement (e ∷ es) halves = Err e
judgement [] (Some both) = Ok both
judgement [] None = Err CurveRefuses
