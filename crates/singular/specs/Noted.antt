-- The roots met at each point, as the code notes them: the first one, 65,535 where there is none, and whether there is another.
use Rattle.std.specs.Prelude.{◌<◌, ℕ, Bool, false, true, List, [], ◌∷◌, ◌≡◌, eqb, get_or, length, replicate, set}
use Rattle.edge.specs.Uses.{back_of, edge_number, front_of}
use Rattle.groups.specs.Forest.{root_of}
use Rattle.lists.specs.Lists.{pick}
use Rattle.shell.specs.Singular.{first_end, last_end}

-- for each point: the first root, and whether there are several
pub record Noted : Type 0 where
  pub roots : List ℕ
  pub several : List Bool

abbrev pub notes : List ℕ → List Bool → Noted
notes roots several = record { roots = roots; several = several }

-- whether point p is marked
abbrev pub marked : List Bool → ℕ → Bool
marked marks p = get_or marks p false

-- root r is met at point p
unfoldable pub noted : List ℕ → List Bool → ℕ → ℕ → Noted
noted roots several p r =
    pick (eqb (get_or roots p 0) 65535) (notes (set roots p r) several)
    (pick (eqb (get_or roots p 0) r) (notes roots several) (notes roots (set several p true)))

-- where no point is marked after, none was marked before, and the marks are the same
abbrev pub Unmarked : Bool → List Bool → Bool → List Bool → Type 0
Unmarked any several any' several' = any' ≡ false → (any ≡ false) × (several' ≡ several)

abbrev pub also_noted : Noted → ℕ → ℕ → Noted
also_noted s p r = noted s.roots s.several p r

-- nothing is noted at 2,048 points
abbrev pub none_noted : Noted
none_noted = notes (replicate 2048 65535) (replicate 2048 false)

module _ (fronts backs parents : List ℕ) where
  -- a use has its edge at its front, and at its back
  abbrev pub use_noted : Noted → ℕ → Noted
  use_noted s u =
      also_noted (also_noted s (front_of fronts backs u) (root_of parents (first_end u))) (back_of fronts backs u) (root_of parents (last_end u))

  unfoldable pub uses_noted : Noted → List ℕ → Noted
  uses_noted s [] = s
  uses_noted s (u ∷ us) = uses_noted (use_noted s u) us

-- the use names an edge and has two of 2,048 points, and its two ends are among `count` members
pub record Noteable (fronts backs : List ℕ) (count u : ℕ) : Type 0 where
  pub edge : edge_number u < length fronts
  pub other : edge_number u < length backs
  pub front : front_of fronts backs u < 2048
  pub back : back_of fronts backs u < 2048
  pub first : first_end u < count
  pub last : last_end u < count
