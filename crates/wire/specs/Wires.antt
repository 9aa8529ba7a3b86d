-- The wire, an outline: uses in sequence (FORMAT 1.6), and what the face rule asks of one (FORMAT 2.3). `fronts` and `backs` have the ends of the edges.
use Rattle.std.specs.Prelude.{ℕ, ◌+◌, Bool, true, ◌&&◌, List, [], ◌∷◌, ◌++◌, map, eqb, leb, ltb, drop, length, take, None, Option, Some}
use Rattle.lists.specs.Lists.{no_dup, pick, unless}
use Rattle.errors.specs.declared.WireError.{WireError}
use Rattle.errors.specs.declared.WireError.TheVariants.{EmptyWire, NotClosedWire, NotSimpleWire}
use Rattle.errors.specs.Numbers.{Reply, done}
use Rattle.edge.specs.Uses.{edge_number, front_of, back_of}

module _ (fronts backs : List ℕ) where
  -- from point p, each use from where the one before ended, to point q
  unfoldable pub runs : ℕ → List ℕ → ℕ → Bool
  runs p [] q = eqb p q
  runs p (u ∷ us) q = eqb p (front_of fronts backs u) && runs (back_of fronts backs u) us q

  -- closed: each use's back is the next one's front, and the last one's the first one's
  unfoldable pub closed : List ℕ → Bool
  closed [] = true
  closed (u ∷ us) = runs (back_of fronts backs u) us (front_of fronts backs u)

  -- the points that a wire meets: the fronts of its uses
  abbrev pub points : List ℕ → List ℕ
  points us = map (front_of fronts backs) us

  -- it has a use (6), is closed (7), meets no point twice (8)
  abbrev pub wire_faults : List ℕ → List WireError
  wire_faults us = unless (ltb 0 (length us)) EmptyWire ++ unless (closed us) NotClosedWire ++ unless (no_dup (points us)) NotSimpleWire

-- number and values of a search: the place, or none
abbrev pub found_reply : Option ℕ → Reply
found_reply (Some i) = done (i ∷ [])
found_reply None = done []

-- the place of the first use of edge e; the first use of the list has place i
unfoldable pub find_from : ℕ → ℕ → List ℕ → Option ℕ
find_from i e [] = None
find_from i e (u ∷ us) = pick (eqb (edge_number u) e) (Some i) (find_from (i + 1) e us)

module _ (fronts backs : List ℕ) where
  -- the place of the first use that ends at point p; the first use of the list has place i
  unfoldable pub end_from : ℕ → ℕ → List ℕ → Option ℕ
  end_from i p [] = None
  end_from i p (u ∷ us) = pick (eqb (back_of fronts backs u) p) (Some i) (end_from (i + 1) p us)

-- the part of the use list that begins at `start`, or the empty part where it would pass the end
abbrev pub outline_of : List ℕ → ℕ → ℕ → List ℕ
outline_of us start n = pick (leb (start + n) (length us)) (take n (drop start us)) []
