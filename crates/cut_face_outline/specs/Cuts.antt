-- The cut of an outline, as the code makes it: on lists of uses, with the ends of the edges in two columns.
use Rattle.std.specs.Prelude.{ℕ, List, [], ◌∷◌, map}
use Rattle.lists.specs.Lists.{has, pick}
use Rattle.edge.specs.Uses.{back_of}
use Rattle.edit_answers.specs.declared.FaceEditError.TheVariants.{EndsNotOnWire}
use Rattle.face_edits.specs.FaceEdits.{first_point, outline_cut_faults, to_front, two_cuts}
use Rattle.cut_face_results.specs.Results.{Cut, cut_after, outcome}

module _ (fronts backs : List ℕ) where
  -- an outline that begins at the wire's back, cut where it comes to the wire's front; 19 where it does not
  unfoldable pub cut_along : List ℕ → List ℕ → ℕ → ℕ → Cut
  cut_along along us m n =
      pick (has (first_point fronts backs us) (map (back_of fronts backs) along)) (cut_after fronts backs along (to_front fronts backs along us) us m n) (outcome (EndsNotOnWire ∷ []) [])

  -- an outline cut by a wire
  unfoldable pub cut_outline : List ℕ → List ℕ → ℕ → ℕ → Cut
  cut_outline os us m n = outcome (outline_cut_faults fronts backs os us m n) (two_cuts fronts backs os us)
