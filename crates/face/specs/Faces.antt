-- The face, a piece of the garment, and the face rule (Face::try_new): FORMAT 2.3.
use Rattle.std.specs.Prelude.{ℕ, suc, ◌+◌, List, [], ◌∷◌, ◌++◌, map, length}
use Rattle.lists.specs.Lists.{disjoint, unless}
use Rattle.errors.specs.declared.Refusal.{Refusal}
use Rattle.errors.specs.declared.Refusal.TheVariants.{Wire}
use Rattle.errors.specs.declared.WireError.TheVariants.{NotSimpleWire}
use Rattle.errors.specs.Faults.{each}
use Rattle.wire.specs.Wires.{points, wire_faults}
use Rattle.face.specs.declared.Face.{Face}

-- how many wires a face has
abbrev pub wire_count : Face → ℕ
wire_count f = f.wires

module _ (fronts backs : List ℕ) where
  -- the faults of wire number w
  abbrev pub outline_faults : ℕ → List ℕ → List Refusal
  outline_faults w us = map (Wire w) (wire_faults fronts backs us)

  -- 8 at each wire that shares a point with an earlier one; `earlier` has their points
  unfoldable pub shared_faults : List ℕ → ℕ → List (List ℕ) → List Refusal
  shared_faults earlier w [] = []
  shared_faults earlier w (us ∷ wires) =
      unless (disjoint (points fronts backs us) earlier) (Wire w NotSimpleWire) ++ shared_faults (earlier ++ points fronts backs us) (suc w) wires

  -- each wire in turn; then no two wires share a point
  abbrev pub face_faults : ℕ → List (List ℕ) → List Refusal
  face_faults w wires = each outline_faults w wires ++ shared_faults [] w wires

  -- face by face; the first wire of the first face has number w
  unfoldable pub face_rule : ℕ → List (List (List ℕ)) → List Refusal
  face_rule w [] = []
  face_rule w (wires ∷ faces) = face_faults w wires ++ face_rule (w + length wires) faces
