-- The walk until none is kept is one pass over the uses.
use Rattle.std.specs.Prelude.{Option, None, Some}
use Prim.Native.Nat.{◌≤◌, suc, zero, ℕ}
use mathlib.Core.List.{List, [], ◌∷◌}
use mathlib.Core.Path.{◌∙◌, ◌≡◌, ap, refl}
use native.Mathlib.Omega.{arith}
use lib.ListN.{get_or, length, length-replicate, length-set, replicate, set}
use Rattle.shell.proofs.Held.{chain_less, chain_takes, get_same, held, held_le, held_long}
use Rattle.shell.specs.OnePass.{begin_at, pass}
use Rattle.shell.specs.Openings.{Found, Kept, Walk, begin, chain, first_start, keep, walk}

-- an opening before those of a walk
abbrev also : List ℕ → Walk → Walk
also o w = record { openings = o ∷ w.openings; kept = w.kept; lookups = w.lookups }

module _ (front back : ℕ → ℕ) where
  -- a use whose front has none kept is passed over
  skip : (d u : ℕ) (us : List ℕ) (kept : Kept) (n : ℕ) → get_or kept (front u) None ≡ None → walk front back d (u ∷ us) kept n ≡ walk front back d us kept n
  unfolding walk first_start
  skip zero u us kept n e = refl
  skip (suc d) u us kept n e = rw e (go (first_start front back us kept) (λ k m f. skip d u us k m f))
    where
      go : (o : Option ℕ) → ((k : Kept) (m : ℕ) → get_or k (front u) None ≡ None → walk front back d (u ∷ us) k m ≡ walk front back d us k m)
          → begin front back o kept n (λ (r : Found). walk front back d (u ∷ us) r.kept r.lookups)
          ≡ begin front back o kept n (λ (r : Found). walk front back d us r.kept r.lookups)
      go None more = refl
      go (Some p) more =
          let r = chain front back (suc (length kept)) p kept n in
          ap (also r.opening) (more r.kept r.lookups ((chain_less front back (suc (length kept)) p kept n).bare (front u) e))

  -- a use whose front has one kept begins an opening
  start : (d u : ℕ) (us : List ℕ) (kept : Kept) (n v : ℕ) → get_or kept (front u) None ≡ Some v
      → walk front back (suc d) (u ∷ us) kept n
      ≡ (let r = chain front back (suc (length kept)) (front u) kept n in also r.opening (walk front back d (u ∷ us) r.kept r.lookups))
  unfolding walk first_start
  start d u us kept n v e = rw e

  held_walk : (us : List ℕ) (d : ℕ) (kept : Kept) (n : ℕ) → length (held kept) ≤ d → walk front back d us kept n ≡ pass front back us kept n
  unfolding walk first_start pass
  held_walk [] zero kept n h = refl
  held_walk [] (suc d) kept n h = refl
  held_walk (u ∷ us) d kept n h = go (get_or kept (front u) None) d h refl (λ e k m l. held_walk us e k m l)
    where
      go : (o : Option ℕ) (d : ℕ) → length (held kept) ≤ d → get_or kept (front u) None ≡ o
          → ((e : ℕ) (k : Kept) (m : ℕ) → length (held k) ≤ e → walk front back e us k m ≡ pass front back us k m)
          → walk front back d (u ∷ us) kept n ≡ begin_at front back o (front u) kept n (λ (k : Kept) (m : ℕ). pass front back us k m)
      go None d h e more = skip d u us kept n e ∙ more d kept n h
      go (Some v) zero h e more = absurd (omega (arith, held_long kept (front u) v e))
      go (Some v) (suc d) h e more =
          let r = chain front back (suc (length kept)) (front u) kept n in
          let t = chain_takes front back (length kept) (front u) kept n in
          start d u us kept n v e
          ∙ ap (also r.opening)
          (skip d u us r.kept r.lookups (t.bare (front u) (get_same kept (front u)))
          ∙ more d r.kept r.lookups (omega (arith, t.few, held_long kept (front u) v e)))

  -- each start takes at least one of the kept uses, so as many starts as places are enough
  pub pass_is_walk : (d : ℕ) (us : List ℕ) (kept : Kept) (n : ℕ) → length kept ≤ d → walk front back d us kept n ≡ pass front back us kept n
  pass_is_walk d us kept n h = held_walk us d kept n (omega (arith, held_le kept))

  length_keep : (us : List ℕ) (kept : Kept) → length (keep front back us kept) ≡ length kept
  unfolding keep
  length_keep [] kept = refl
  length_keep (u ∷ us) kept = length_keep us (set kept (front u) (Some u)) ∙ length-set kept (front u) (Some u)

  -- with a place for each of m points, and some uses kept there
  pub pass_of_kept : (m : ℕ) (us some_uses : List ℕ)
      → (let kept = keep front back some_uses (replicate m None) in walk front back m us kept 0 ≡ pass front back us kept 0)
  pass_of_kept m us some_uses =
      pass_is_walk m us (keep front back some_uses (replicate m None)) 0 (omega (arith, length_keep some_uses (replicate m None), length-replicate {A = Option ℕ} m None))
