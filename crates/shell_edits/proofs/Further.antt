-- One point more, where no use begins or ends: the walk finds what it found, and the point is not singular.
use Rattle.std.specs.Prelude.{Option, None, Some}
use Prim.Native.Nat.{◌+◌, ◌<◌, suc, zero, ℕ}
use mathlib.Core.List.{List, [], ◌++◌, ◌∷◌, append-nil}
use mathlib.Core.Path.{◌∙◌, ◌≡◌, ap, refl, sym}
use native.Mathlib.Omega.{arith}
use lib.ListN.{get_or, length, length-append, length-replicate, length-set, replicate, set}
use borrow.Author.Tests.{ne_eqb}
use Rattle.groups.specs.Groups.{one_group}
use Rattle.lists.proofs.Count.{All, all_only, all_weaker}
use Rattle.lists.proofs.Laws.{tabulate_suc}
use Rattle.lists.proofs.Parts.{only_append, only_none}
use Rattle.lists.specs.Lists.{flat, numbers, only}
use Rattle.shell.proofs.Held.{held, held_le, held_long}
use Rattle.shell.proofs.Pass.{pass_of_kept}
use Rattle.shell.specs.OnePass.{begin_at, pass}
use Rattle.shell.specs.Openings.{Found, Kept, Looked, Walk, chain, follow, free_uses, is_free, keep, look_up, walk_of}
use Rattle.shell.specs.Singular.{ends_at, is_singular, singular_of}

-- ---- the kept uses, with a place more, where none is kept

abbrev one : Kept
one = None ∷ []

get_further : (kept : Kept) (p : ℕ) → get_or (kept ++ one) p None ≡ get_or kept p None
get_further [] zero = refl
get_further [] (suc p) = refl
get_further (o ∷ kept) zero = refl
get_further (o ∷ kept) (suc p) = get_further kept p

taken_further : (kept : Kept) (p : ℕ) → set (kept ++ one) p None ≡ set kept p None ++ one
taken_further [] zero = refl
taken_further [] (suc p) = refl
taken_further (o ∷ kept) zero = refl
taken_further (o ∷ kept) (suc p) = ap (λ (r : Kept). o ∷ r) (taken_further kept p)

put_further : (kept : Kept) (p u : ℕ) → p < length kept → set (kept ++ one) p (Some u) ≡ set kept p (Some u) ++ one
put_further [] p u h = absurd (omega arith)
put_further (o ∷ kept) zero u h = refl
put_further (o ∷ kept) (suc p) u h = ap (λ (r : Kept). o ∷ r) (put_further kept p u (omega arith))

empty_further : (m : ℕ) → replicate (suc m) None ≡ replicate m None ++ one
empty_further zero = refl
empty_further (suc m) = ap (λ (r : Kept). None ∷ r) (empty_further m)

-- what was found, with that place
abbrev found : Found → Found
found f = record { opening = f.opening; kept = f.kept ++ one; lookups = f.lookups }

abbrev walked : Walk → Walk
walked w = record { openings = w.openings; kept = w.kept ++ one; lookups = w.lookups }

module _ (front back : ℕ → ℕ) where
  keep_further : (us : List ℕ) (kept : Kept) → All (λ (u : ℕ). front u < length kept) us → keep front back us (kept ++ one) ≡ keep front back us kept ++ one
  unfolding keep
  keep_further [] kept h = refl
  keep_further (u ∷ us) kept h =
      let put = set kept (front u) (Some u) in
      let rest = all_weaker (λ (v : ℕ). front v < length kept) (λ (v : ℕ). front v < length put) (λ v l. rw (length-set kept (front u) (Some u)) l) us h.1 in
      ap (keep front back us) (put_further kept (front u) u h.0) ∙ keep_further us put rest

  chain_further : (d p : ℕ) (kept : Kept) (n : ℕ) → chain front back d p (kept ++ one) n ≡ found (chain front back d p kept n)
  unfolding chain
  chain_further zero p kept n = refl
  chain_further (suc d) p kept n =
      rw (get_further kept p, taken_further kept p) (go (get_or kept p None) (λ q. chain_further d q (set kept p None) (n + 1)))
    where
      looked : Kept → Looked
      looked k = record { answer = get_or kept p None; kept = k; lookups = n + 1 }

      next : Kept → ℕ → Found
      next k q = chain front back d q k (n + 1)

      go : (o : Option ℕ) → ((q : ℕ) → next (set kept p None ++ one) q ≡ found (next (set kept p None) q))
          → follow front back (looked (set kept p None ++ one)) o (next (set kept p None ++ one)) ≡ found (follow front back (looked (set kept p None)) o (next (set kept p None)))
      go None more = refl
      go (Some u) more = ap (λ (f : Found). record { opening = u ∷ f.opening; kept = f.kept; lookups = f.lookups }) (more (back u))

  -- a chain with a lookup to spare ends as it did
  chain_enough : (d p : ℕ) (kept : Kept) (n : ℕ) → length (held kept) < d → chain front back (suc d) p kept n ≡ chain front back d p kept n
  unfolding chain
  chain_enough zero p kept n h = absurd (omega arith)
  chain_enough (suc d) p kept n h = go (get_or kept p None) refl (λ q l. chain_enough d q (set kept p None) (n + 1) l)
    where
      next : ℕ → ℕ → Found
      next e q = chain front back e q (set kept p None) (n + 1)

      go : (o : Option ℕ) → get_or kept p None ≡ o → ((q : ℕ) → length (held (set kept p None)) < d → next (suc d) q ≡ next d q)
          → follow front back (look_up p kept n) o (next (suc d)) ≡ follow front back (look_up p kept n) o (next d)
      go None e more = refl
      go (Some u) e more = ap (λ (f : Found). record { opening = u ∷ f.opening; kept = f.kept; lookups = f.lookups }) (more (back u) (omega (arith, held_long kept p u e)))

  pass_further : (us : List ℕ) (kept : Kept) (n : ℕ) → pass front back us (kept ++ one) n ≡ walked (pass front back us kept n)
  unfolding pass
  pass_further [] kept n = refl
  pass_further (u ∷ us) kept n = rw (get_further kept (front u)) (go (get_or kept (front u) None) (λ k m. pass_further us k m))
    where
      rest : Kept → ℕ → Walk
      rest k m = pass front back us k m

      also : Found → Walk → Walk
      also f w = record { openings = f.opening ∷ w.openings; kept = w.kept; lookups = w.lookups }

      from : ℕ → Kept → Found
      from d k = chain front back (suc d) (front u) k n

      more_places : from (length (kept ++ one)) (kept ++ one) ≡ found (from (length kept) kept)
      more_places =
          let long : length (kept ++ one) ≡ suc (length kept) = omega (arith, length-append kept one) in
          ap (λ (d : ℕ). from d (kept ++ one)) long
          ∙ chain_further (suc (suc (length kept))) (front u) kept n
          ∙ ap found (chain_enough (suc (length kept)) (front u) kept n (omega (arith, held_le kept)))

      go : (o : Option ℕ) → ((k : Kept) (m : ℕ) → rest (k ++ one) m ≡ walked (rest k m))
          → begin_at front back o (front u) (kept ++ one) n rest ≡ walked (begin_at front back o (front u) kept n rest)
      go None more = more kept n
      go (Some v) more =
          let r = from (length kept) kept in
          ap (λ (f : Found). also f (rest f.kept f.lookups)) more_places ∙ ap (also r) (more r.kept r.lookups)

  -- the walk over uses that begin at points, with a point more
  pub walk_further : (points : ℕ) (us : List ℕ) → All (λ (u : ℕ). front u < points) us → walk_of front back (suc points) us ≡ walked (walk_of front back points us)
  unfolding free_uses
  walk_further points us h =
      let free = free_uses us in
      let empty : Kept = replicate points None in
      let long : length empty ≡ points = length-replicate points None in
      let begin : All (λ (u : ℕ). front u < length empty) free =
      all_weaker (λ (u : ℕ). front u < points) (λ (u : ℕ). front u < length empty) (λ u l. rw long l) free (all_only (λ (u : ℕ). front u < points) (is_free us) us h) in
      pass_of_kept front back (suc points) us free
      ∙ ap (λ (k : Kept). pass front back us (keep front back free k) 0) (empty_further points)
      ∙ ap (λ (k : Kept). pass front back us k 0) (keep_further free empty begin)
      ∙ pass_further us (keep front back free empty) 0
      ∙ ap walked (sym (pass_of_kept front back points us free))

  -- ---- the singular points

  abbrev Apart : ℕ → ℕ → Type 0
  Apart q u = (front u ≡ q → ⊥) × (back u ≡ q → ⊥)

  no_ends : (q : ℕ) (us : List ℕ) → All (Apart q) us → ends_at front back q us ≡ []
  unfolding ends_at flat
  no_ends q [] h = refl
  no_ends q (u ∷ us) h = rw (ne_eqb (front u) q h.0.0, ne_eqb (back u) q h.0.1) (no_ends q us h.1)

  pub singular_further : (edges points : ℕ) (wires : List (List ℕ)) → All (λ (u : ℕ). (front u < points) × (back u < points)) (flat wires)
      → singular_of front back edges (suc points) wires ≡ singular_of front back edges points wires
  unfolding singular_of one_group
  singular_further edges points wires h =
      let q = is_singular front back edges wires in
      let apart = all_weaker (λ (u : ℕ). (front u < points) × (back u < points)) (Apart points) (λ u l. ((λ e. omega (arith, l.0, e)), (λ e. omega (arith, l.1, e)))) (flat wires) h in
      ap (only q) (tabulate_suc points (λ (k : ℕ). k))
      ∙ only_append q (numbers points) (points ∷ [])
      ∙ ap (λ (r : List ℕ). only q (numbers points) ++ r) (only_none q (points ∷ []) (rw (no_ends points (flat wires) apart), tt))
      ∙ append-nil (only q (numbers points))
