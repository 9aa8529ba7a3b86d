-- Connected, components and singular points are what document 01 says in terms of chains.
use Prim.Native.Nat.{ℕ}
use mathlib.Core.List.{[]}
use mathlib.Core.Path.{◌≡◌}
use Rattle.lists.proofs.Marks.{AllBelow}
use Rattle.pattern.specs.Checks.{content_faults}
use Rattle.pattern.specs.Contents.{Content}
use Rattle.shell.proofs.Components.{components_are}
use Rattle.shell.proofs.Connected.{connected_is}
use Rattle.shell.proofs.Singular.{singular_is}
use Rattle.shell.specs.Meaning.{ComponentsMean, ConnectedMeans, SingularMean}

-- a shell is connected exactly if chains of uses and of neighbouring wires join all points of its uses
pub connected_means : (c : Content) → content_faults c ≡ [] → (n : ℕ) → ConnectedMeans c n
connected_means c ok n = connected_is c ok n

-- the components are the pairs that chains of shared edges join, by first listing
pub components_mean : (c : Content) (n : ℕ) → ComponentsMean c n
components_mean c n = components_are c n

-- the singular points are those where neighbours on wires do not join all edges
pub singular_means : (c : Content) → content_faults c ≡ [] → AllBelow 65536 c.uses → (n : ℕ) → SingularMean c n
singular_means c ok small n = singular_is c ok small n
