-- Pairs and edges as members of one forest: edge e is member e, pair k is member `edges` + k, and a pair is linked with each edge that it uses.
use Rattle.std.specs.Prelude.{◌+◌, ◌<◌, ◌≤◌, suc, ℕ, List, [], ◌++◌, ◌∷◌, map, ◌≡◌, get_or, length, replicate}
use Rattle.edge.specs.Uses.{edge_number}
use Rattle.groups.specs.Forest.{Trees, joined_all, root_of, started}
use Rattle.groups.specs.Groups.{Link, links}
use Rattle.lists.specs.Lists.{sum, tabulate}

-- the member of each use's pair, from member b on
unfoldable pub owners : ℕ → List ℕ → List ℕ
owners b [] = []
owners b (n ∷ ns) = replicate n b ++ owners (suc b) ns

-- each use links its edge with its pair
abbrev pub use_links : ℕ → List ℕ → List ℕ → List Link
use_links edges spans uses = links (map edge_number uses) (owners edges spans)

-- each use of a part links its edge with the member
abbrev pub member_links : ℕ → List ℕ → List Link
member_links member part = links (map edge_number part) (replicate (length part) member)

-- the uses are of edges among n members
abbrev pub Within : ℕ → List ℕ → Type 0
Within n us = (k : ℕ) → k < length us → edge_number (get_or us k 0) < n

-- the forest of these links
abbrev pub use_trees : ℕ → List ℕ → List ℕ → List ℕ → List ℕ → Trees
use_trees edges spans uses parents sizes = joined_all (started (edges + length spans) parents sizes) (use_links edges spans uses)

-- the roots of n members, from member `first` on
abbrev pub roots_of : List ℕ → ℕ → ℕ → List ℕ
roots_of parents first n = tabulate n (λ (k : ℕ). root_of parents (first + k))

-- the root of each pair
abbrev pub pair_roots : ℕ → List ℕ → List ℕ → List ℕ
pair_roots edges spans uses = roots_of (use_trees edges spans uses (replicate 2048 0) (replicate 2048 0)).parents edges (length spans)

-- at most 512 pairs, the number of uses that each shows, and these uses one after the other, of at most 1,024 edges
pub record Linkable (spans uses : List ℕ) (edges : ℕ) : Type 0 where
  pub few : length spans ≤ 512
  pub summed : sum spans ≡ length uses
  pub short : length uses ≤ 8192
  pub low : edges ≤ 1024
  pub within : (k : ℕ) → k < length uses → edge_number (get_or uses k 0) < edges

-- the same with the pairs, and room for the components
pub record Paired (pairs spans uses : List ℕ) (edges : ℕ) (out lens : List ℕ) : Type 0 where
  pub alike : length spans ≡ length pairs
  pub shown : Linkable spans uses edges
  pub members : length pairs ≤ length out
  pub groups : length pairs ≤ length lens
