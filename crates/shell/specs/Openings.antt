-- The openings of a shell (extract_boundaries): the walk along its free uses (FORMAT 3.4).
use Rattle.std.specs.Prelude.{ℕ, zero, suc, ◌+◌, ◌%◌, Bool, List, [], ◌∷◌, map, eqb, get_or, length, replicate, set, Option, None, Some}
use Rattle.lists.specs.Lists.{only}
use Rattle.edge.specs.Edges.{back_number, front_number}
use Rattle.edge.specs.Uses.{back_of, edge_number, front_of}
use Rattle.pattern.specs.Contents.{Content}
use Rattle.shell.specs.Conditions.{uses_of}
use Rattle.shell.specs.Shells.{shell_uses}

-- a use is free if its edge has an odd number of uses
abbrev pub is_free : List ℕ → ℕ → Bool
is_free us u = eqb (uses_of us (edge_number u) % 2) 1

unfoldable pub free_uses : List ℕ → List ℕ
free_uses us = only (is_free us) us

-- the kept uses: for each point one, or none
abbrev pub Kept : Type 0
Kept = List (Option ℕ)

-- a lookup takes the kept uses and the count so far and hands back its answer, the uses still kept and the count one higher
pub record Looked : Type 0 where
  pub answer : Option ℕ
  pub kept : Kept
  pub lookups : ℕ

abbrev pub look_up : ℕ → Kept → ℕ → Looked
look_up p kept n = record { answer = get_or kept p None; kept = set kept p None; lookups = n + 1 }

-- what one start finds, in sequence, with the uses still kept and the count
pub record Found : Type 0 where
  pub opening : List ℕ
  pub kept : Kept
  pub lookups : ℕ

-- the openings, with the uses still kept and the last count
pub record Walk : Type 0 where
  pub openings : List (List ℕ)
  pub kept : Kept
  pub lookups : ℕ

module _ (front back : ℕ → ℕ) where
  -- for each point keep the last free use whose front it is
  unfoldable pub keep : List ℕ → Kept → Kept
  keep [] kept = kept
  keep (u ∷ us) kept = keep us (set kept (front u) (Some u))

  -- a lookup that found nothing ends an opening; one that found a use goes on at its back
  abbrev pub follow : Looked → Option ℕ → (ℕ → Found) → Found
  follow l None next = record { opening = []; kept = l.kept; lookups = l.lookups }
  follow l (Some u) next = let r = next (back u) in record { opening = u ∷ r.opening; kept = r.kept; lookups = r.lookups }

  -- look up at p, then at the back of what is found, and so on, at most d times
  unfoldable pub chain : ℕ → ℕ → Kept → ℕ → Found
  chain zero p kept n = record { opening = []; kept = kept; lookups = n }
  chain (suc d) p kept n = let l = look_up p kept n in follow l l.answer (λ (q : ℕ). chain d q l.kept l.lookups)

  -- the first point, among the fronts of the uses, that has one kept
  abbrev pub start_at : Option ℕ → ℕ → Option ℕ → Option ℕ
  start_at None p rest = rest
  start_at (Some u) p rest = Some p

  unfoldable pub first_start : List ℕ → Kept → Option ℕ
  first_start [] kept = None
  first_start (u ∷ us) kept = start_at (get_or kept (front u) None) (front u) (first_start us kept)

  -- an opening from each start, until none is kept, at most d; each kept use is looked up once, so `length kept` and one more lookups end every chain
  abbrev pub begin : Option ℕ → Kept → ℕ → (Found → Walk) → Walk
  begin None kept n rest = record { openings = []; kept = kept; lookups = n }
  begin (Some p) kept n rest =
      let r = chain (suc (length kept)) p kept n in
      let w = rest r in
      record { openings = r.opening ∷ w.openings; kept = w.kept; lookups = w.lookups }

  unfoldable pub walk : ℕ → List ℕ → Kept → ℕ → Walk
  walk zero us kept n = record { openings = []; kept = kept; lookups = n }
  walk (suc d) us kept n = begin (first_start us kept) kept n (λ (r : Found). walk d us r.kept r.lookups)

-- the walk of a shell with these uses, over so many points; the count begins at 0
abbrev pub walk_of : (ℕ → ℕ) → (ℕ → ℕ) → ℕ → List ℕ → Walk
walk_of front back points us = walk front back points us (keep front back (free_uses us) (replicate points None)) 0

-- the ends of a use of a pattern
abbrev pub front_in : Content → ℕ → ℕ
front_in c = front_of (map front_number c.edges) (map back_number c.edges)

abbrev pub back_in : Content → ℕ → ℕ
back_in c = back_of (map front_number c.edges) (map back_number c.edges)

abbrev pub shell_walk : Content → ℕ → Walk
shell_walk c n = walk_of (front_in c) (back_in c) (length c.points) (shell_uses c n)
