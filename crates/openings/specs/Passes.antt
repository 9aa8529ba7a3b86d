-- What one start and one pass leave in the arrays.
use Rattle.std.specs.Prelude.{ℕ, ◌+◌, ◌*◌, ◌/◌, ◌%◌, ◌≤◌, Bool, List, map, ◌≡◌, eqb, get_or, length}
use Rattle.std.proofs.lemmas.List.Edits.{sets}
use Rattle.lists.specs.Lists.{flat}
use Rattle.edge.specs.Uses.{edge_number}
use Rattle.shell.specs.Openings.{Found, Walk}
use Rattle.wire.specs.Named.{Named}
use Rattle.openings.specs.declared.Step.{Step}
use Rattle.openings.specs.declared.Walked.{Walked}
use Rattle.openings.specs.Slots.{Holding, kept_in, slots}

-- the tally's code: 16 says that the edge has an odd number of uses
abbrev pub is_odd : List ℕ → ℕ → Bool
is_odd odd u = eqb (get_or odd (edge_number u) 0 / 16 % 2) 1

-- a part whose uses can be kept: each names an edge that has a tally and begins and ends at one of 2,048 points; with 1,024 edges none is 65,535
pub record Keepable (fronts backs odd part kept : List ℕ) : Type 0 where
  pub begins : Named fronts backs part
  pub ends : Named backs fronts part
  pub edges : length fronts ≤ 1024
  pub tallied : length fronts ≤ length odd
  pub points : length kept ≡ 2048
  pub holding : Holding fronts backs kept

-- one start that finds f: the uses written from `at` on, and what is kept after it
pub record Followed (f : Found) (fronts backs kept₀ out₀ : List ℕ) (at lookups : ℕ) (kept out : List ℕ) (r : Step) : Type 0 where
  pub written : out ≡ sets out₀ at f.opening
  pub place : r.at ≡ at + length f.opening
  pub asked : r.lookups ≡ f.lookups
  pub left : slots kept ≡ f.kept
  -- each kept use that is gone was found, each found is a lookup, and one more finds nothing
  pub all : length f.opening + kept_in kept ≡ kept_in kept₀
  pub total : r.lookups ≡ lookups + length f.opening + 1
  pub holding : Holding fronts backs kept

-- before a pass and after it: the arrays have room for all that is kept
pub record Ready (fronts backs kept out lens : List ℕ) (w : Walked) : Type 0 where
  pub holding : Holding fronts backs kept
  pub points : length kept ≡ 2048
  pub uses : w.at + kept_in kept ≤ length out
  pub parts : w.openings + kept_in kept ≤ length lens
  pub few : w.lookups + 2 * kept_in kept ≤ 1000000

-- a pass w: the uses of its openings one after the other, the openings' lengths, and the places after them
pub record Passed (w : Walk) (out₀ lens₀ : List ℕ) (before : Walked) (kept out lens : List ℕ) (after : Walked) : Type 0 where
  pub written : out ≡ sets out₀ before.at (flat w.openings)
  pub lengths : lens ≡ sets lens₀ before.openings (map length w.openings)
  pub place : after.at ≡ before.at + length (flat w.openings)
  pub number : after.openings ≡ before.openings + length w.openings
  pub asked : after.lookups ≡ w.lookups
  pub left : slots kept ≡ w.kept
