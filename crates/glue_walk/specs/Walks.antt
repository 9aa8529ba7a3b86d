-- What the walk of a glue needs and leaves: the uses of the faces, the kept uses in an array, the chained outlines.
use Rattle.std.specs.Prelude.{◌+◌, ◌<◌, ◌≤◌, suc, ℕ, Bool, false, true, List, [], ◌∷◌, map, ◌≡◌, get_or, length, Option, None, Some}
use Rattle.std.proofs.lemmas.List.Edits.{sets}
use Rattle.edge.specs.Uses.{back_of, edge_number, front_of}
use Rattle.face_edits.specs.FaceEdits.{backs_in, fronts_in, meet}
use Rattle.lists.specs.Lists.{flat}
use Rattle.openings.specs.Slots.{Holding, kept_in}
use Rattle.pattern.specs.Contents.{Content}
use Rattle.shell.specs.Openings.{Kept, back_in, chain, front_in}
use Rattle.glue_walk.specs.declared.Chained.{Chained}

-- ---- uses

-- a use of an edge that has both ends among so many points
pub record Fits (fronts backs : List ℕ) (points u : ℕ) : Type 0 where
  pub edge : edge_number u < length fronts
  pub front : front_of fronts backs u < points
  pub back : back_of fronts backs u < points

-- the columns of ends; with 1,024 edges no use is 65,535
pub record EndColumns (fronts backs : List ℕ) : Type 0 where
  pub alike : length backs ≡ length fronts
  pub few : length fronts ≤ 1024

-- a part whose uses can be kept
pub record PartFits (fronts backs : List ℕ) (points : ℕ) (part : List ℕ) : Type 0 where
  pub ends : EndColumns fronts backs
  pub each : (k : ℕ) → k < length part → Fits fronts backs points (get_or part k 0)

-- a pattern whose edges have these ends
pub record Columns (c : Content) (fronts backs : List ℕ) : Type 0 where
  pub begin : fronts_in c ≡ fronts
  pub end : backs_in c ≡ backs

-- ---- keeping, meeting, chaining

-- what is kept after a use that could be met, or 21
abbrev pub met_as : Bool → Kept → Option Kept
met_as true kept = Some kept
met_as false kept = None

-- what is kept after the second face's uses, or up to the first of them that cannot be met
abbrev pub kept_up_to : Option Kept → Kept → (Kept → Kept) → Kept
kept_up_to None kept next = kept
kept_up_to (Some met) kept next = next met

unfoldable pub kept_met : Content → List ℕ → Kept → Kept
kept_met c [] kept = kept
kept_met c (u ∷ us) kept = kept_up_to (meet c u (get_or kept (back_in c u) None) kept) kept (kept_met c us)

-- the outline from point p, if a use is kept there, and what is kept after it
pub record Outline : Type 0 where
  pub wires : List (List ℕ)
  pub kept : Kept

abbrev pub outline_at : (ℕ → ℕ) → (ℕ → ℕ) → Option ℕ → ℕ → Kept → Outline
outline_at front back None p kept = record { wires = []; kept = kept }
outline_at front back (Some u) p kept = let r = chain front back (suc (length kept)) p kept 0 in record { wires = r.opening ∷ []; kept = r.kept }

-- what is kept after the outlines from these points
unfoldable pub kept_chained : Content → List ℕ → Kept → Kept
kept_chained c [] kept = kept
kept_chained c (p ∷ ps) kept = kept_chained c ps (outline_at (front_in c) (back_in c) (get_or kept p None) p kept).kept

abbrev pub nothing : Chained
nothing = record { uses = 0; wires = 0 }

-- the arrays have room for all that is kept
pub record Room (fronts backs kept out lens : List ℕ) (w : Chained) : Type 0 where
  pub holding : Holding fronts backs kept
  pub points : length kept ≤ 2048
  pub space : w.uses + kept_in kept ≤ length out
  pub places : w.wires + kept_in kept ≤ length lens

-- these wires have been written: their uses one after the other, and their lengths
pub record Laid (ws : List (List ℕ)) (out₀ lens₀ : List ℕ) (before : Chained) (out lens : List ℕ) (after : Chained) : Type 0 where
  pub written : out ≡ sets out₀ before.uses (flat ws)
  pub lengths : lens ≡ sets lens₀ before.wires (map length ws)
  pub place : after.uses ≡ before.uses + length (flat ws)
  pub number : after.wires ≡ before.wires + length ws
