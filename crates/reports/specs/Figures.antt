-- The figures of a shell: its condition and openings, its groups; what is written of them.
use Rattle.std.specs.Prelude.{ℕ, ◌≤◌, List, map, ◌≡◌, length, take}
use Rattle.std.proofs.lemmas.List.Edits.{sets}
use Rattle.lists.specs.Lists.{flat, split}
use Rattle.edge.specs.Uses.{back_of, front_of}
use Rattle.components.specs.Pairs.{Paired}
use Rattle.connected.specs.Wired.{Wired}
use Rattle.singular.specs.Ends.{Cornered}
use Rattle.pairs.specs.declared.Pairs.{Pairs}
use Rattle.pattern.specs.Contents.{Content}
use Rattle.reports.specs.declared.GroupCounts.{GroupCounts}
use Rattle.reports.specs.declared.OpeningCounts.{OpeningCounts}
use Rattle.shell.specs.Components.{components, components_of}
use Rattle.shell.specs.Conditions.{condition}
use Rattle.shell.specs.Connected.{connected, connected_of}
use Rattle.shell.specs.Openings.{shell_walk}
use Rattle.shell.specs.OpeningsHold.{OpeningsPromised}
use Rattle.shell.specs.Shells.{shell_uses}
use Rattle.shell.specs.Singular.{singular_of, singular_points}

abbrev pub opening_counts : Content → ℕ → OpeningCounts
opening_counts c n = record {
  condition = record { 0 = condition (shell_uses c n) };
  openings = length (shell_walk c n).openings;
  used = length (flat (shell_walk c n).openings);
  lookups = (shell_walk c n).lookups;
}

abbrev pub group_counts : Content → ℕ → GroupCounts
group_counts c n = record {
  connected = connected c n;
  components = length (components c n);
  members = length (flat (components c n));
  singular = length (singular_points c n);
}

-- the openings of shell n are written to two lists
pub record Opened (c : Content) (n : ℕ) (out₀ lens₀ out lens : List ℕ) (r : OpeningCounts) : Type 0 where
  pub counts : r ≡ opening_counts c n
  pub uses : out ≡ sets out₀ 0 (flat (shell_walk c n).openings)
  pub lengths : lens ≡ sets lens₀ 0 (map length (shell_walk c n).openings)
  pub promised : OpeningsPromised c n

-- the components and the singular points of shell n are written to three lists
pub record Grouped (c : Content) (n : ℕ) (out₀ sizes₀ found₀ out sizes found : List ℕ) (r : GroupCounts) : Type 0 where
  pub counts : r ≡ group_counts c n
  pub pairs : out ≡ sets out₀ 0 (flat (components c n))
  pub lengths : sizes ≡ sets sizes₀ 0 (map length (components c n))
  pub points : found ≡ sets found₀ 0 (singular_points c n)

-- ---- the groups from the columns of the pairs

abbrev pub pair_wires : Pairs → List (List ℕ)
pair_wires g = split (take g.wires g.lens) (take g.uses g.shown)

abbrev pub pair_groups : Pairs → List (List ℕ)
pair_groups g = components_of (take g.number g.pairs) (split (take g.number g.spans) (take g.uses g.shown))

abbrev pub pair_singular : Pairs → List ℕ → List ℕ → ℕ → List ℕ
pair_singular g fronts backs points = singular_of (front_of fronts backs) (back_of fronts backs) (length fronts) points (pair_wires g)

-- columns of pairs that the reports on groups can work on, with room for what they write
pub record Figured (g : Pairs) (fronts backs : List ℕ) (points : ℕ) (out sizes found : List ℕ) : Type 0 where
  pub pairs : g.number ≤ length g.pairs
  pub counts : g.number ≤ length g.counts
  pub spans : g.number ≤ length g.spans
  pub lens : g.wires ≤ length g.lens
  pub shown : g.uses ≤ length g.shown
  pub wired : Wired (take g.uses g.shown) (take g.wires g.lens) (take g.number g.counts) fronts backs points
  pub paired : Paired (take g.number g.pairs) (take g.number g.spans) (take g.uses g.shown) (length fronts) out sizes
  pub cornered : Cornered (take g.uses g.shown) (take g.wires g.lens) fronts backs points found

-- what they count and write
pub record Counted (g : Pairs) (fronts backs : List ℕ) (points : ℕ) (out₀ sizes₀ found₀ out sizes found : List ℕ) (r : GroupCounts) : Type 0 where
  pub connected : r.connected ≡ connected_of (front_of fronts backs) (back_of fronts backs) points (split (take g.number g.counts) (pair_wires g))
  pub components : r.components ≡ length (pair_groups g)
  pub members : r.members ≡ g.number
  pub singular : r.singular ≡ length (pair_singular g fronts backs points)
  pub pairs : out ≡ sets out₀ 0 (flat (pair_groups g))
  pub lengths : sizes ≡ sets sizes₀ 0 (map length (pair_groups g))
  pub corners : found ≡ sets found₀ 0 (pair_singular g fronts backs points)
