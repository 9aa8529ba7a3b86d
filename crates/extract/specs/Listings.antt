-- The listings of a shell: when their uses can be tallied and walked along, and what the walk leaves.
use Rattle.std.specs.Prelude.{ℕ, ◌<◌, ◌≤◌, List, map, ◌≡◌, get_or, length, replicate}
use Rattle.std.proofs.lemmas.List.Edits.{sets}
use Rattle.lists.specs.Lists.{flat}
use Rattle.edge.specs.Uses.{front_of}
use Rattle.wire.specs.Named.{Named}
use Rattle.shell.specs.Openings.{Walk, is_free}
use Rattle.condition.specs.declared.Tally.{Tally}
use Rattle.listing.specs.Parts.{Shows, part_at}
use Rattle.openings.specs.declared.Walked.{Walked}
use Rattle.openings.specs.Passes.{is_odd}
use Rattle.edge.specs.Below.{EdgesBelow}

-- the tally before the first use
abbrev pub no_uses : Tally
no_uses = record { states = replicate 256 0; worst = 3 }

-- before a walk: nothing written, nothing asked
abbrev pub nowhere : Walked
nowhere = record { at = 0; openings = 0; lookups = 0 }

-- a listing whose uses can be tallied
pub record Tallies (uses turned starts : List ℕ) (l : ℕ) : Type 0 where
  pub shows : Shows uses turned starts l
  pub edges : EdgesBelow 1024 (part_at uses turned starts l)

-- a listing whose uses can be walked along: each names an edge, and begins and ends at one of 2,048 points
pub record Walks (uses turned starts fronts backs : List ℕ) (l : ℕ) : Type 0 where
  pub shows : Shows uses turned starts l
  pub begins : Named fronts backs (part_at uses turned starts l)
  pub ends : Named backs fronts (part_at uses turned starts l)

abbrev pub AllTally : List ℕ → List ℕ → List ℕ → List ℕ → Type 0
AllTally uses turned starts ls = (k : ℕ) → k < length ls → Tallies uses turned starts (get_or ls k 0)

abbrev pub AllWalk : List ℕ → List ℕ → List ℕ → List ℕ → List ℕ → List ℕ → Type 0
AllWalk uses turned starts fronts backs ls = (k : ℕ) → k < length ls → Walks uses turned starts fronts backs (get_or ls k 0)

-- a shell with the uses us whose openings can be walked: the uses begin at its points, and `odd` says which are free
pub record Extractable (us odd fronts backs : List ℕ) (points : ℕ) (out lens : List ℕ) : Type 0 where
  pub alike : length backs ≡ length fronts
  pub edges : length fronts ≤ 1024
  pub tallied : length fronts ≤ length odd
  pub places : points ≤ 2048
  pub inside : (k : ℕ) → k < length us → front_of fronts backs (get_or us k 0) < points
  pub free : (k : ℕ) → k < length us → is_odd odd (get_or us k 0) ≡ is_free us (get_or us k 0)
  pub uses : 2048 ≤ length out
  pub lengths : 2048 ≤ length lens

-- what the walk w leaves in the two lent lists
pub record Written (w : Walk) (out₀ lens₀ out lens : List ℕ) (r : Walked) : Type 0 where
  pub uses : out ≡ sets out₀ 0 (flat w.openings)
  pub lengths : lens ≡ sets lens₀ 0 (map length w.openings)
  pub place : r.at ≡ length (flat w.openings)
  pub number : r.openings ≡ length w.openings
  pub asked : r.lookups ≡ w.lookups
  pub few : (r.at ≤ 2048) × (r.openings ≤ 2048) × (r.lookups ≤ 1000000)
