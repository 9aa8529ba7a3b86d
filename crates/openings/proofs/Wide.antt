-- More places than points change nothing: the walk over the 2,048 places of the array is the walk over the points of the pattern.
use Rattle.std.specs.Prelude.{Option, None, Some}
use Prim.Native.Nat.{ℕ, suc, zero, ◌+◌, ◌-◌, ◌<◌, ◌≤◌}
use mathlib.Core.List.{List, [], ◌∷◌, ◌++◌}
use mathlib.Core.Path.{◌∙◌, ◌≡◌, ap, refl}
use native.Mathlib.Nat.{le_of_suc-le-suc}
use native.Mathlib.Omega.{arith}
use lib.ListN.{get_or, length, length-append, length-replicate, length-set, replicate, set}
use Rattle.lists.proofs.Parts.{only_same}
use Rattle.lists.specs.Lists.{only}
use Rattle.lists.proofs.Count.{All, all_only}
use Rattle.edge.specs.Uses.{back_of, front_of}
use Rattle.shell.specs.Openings.{Found, Kept, Walk, chain, follow, free_uses, is_free, keep, look_up, walk_of}
use Rattle.shell.specs.OnePass.{begin_at, pass}
use Rattle.shell.proofs.Held.{held, held_le, held_long}
use Rattle.shell.proofs.Pass.{pass_is_walk}
use Rattle.openings.specs.Slots.{Holding, slots}
use Rattle.openings.specs.Passes.{Ready, is_odd}
use Rattle.openings.proofs.Slots.{kept_le, slots_bare}

-- m places more, where none is kept
abbrev pub wide : ℕ → Kept → Kept
wide m kept = kept ++ replicate m None

abbrev pub wide_walk : ℕ → Walk → Walk
wide_walk m w = record { openings = w.openings; kept = wide m w.kept; lookups = w.lookups }

get_bare : (m p : ℕ) → get_or {A = Option ℕ} (replicate m None) p None ≡ None
get_bare zero p = refl
get_bare (suc m) zero = refl
get_bare (suc m) (suc p) = get_bare m p

set_bare : (m p : ℕ) → set {A = Option ℕ} (replicate m None) p None ≡ replicate m None
set_bare zero p = refl
set_bare (suc m) zero = refl
set_bare (suc m) (suc p) = ap (λ (r : Kept). None ∷ r) (set_bare m p)

module _ (m : ℕ) where
  get_wide : (kept : Kept) (p : ℕ) → get_or (wide m kept) p None ≡ get_or kept p None
  get_wide [] p = get_bare m p
  get_wide (o ∷ kept) zero = refl
  get_wide (o ∷ kept) (suc p) = get_wide kept p

  set_wide : (kept : Kept) (p : ℕ) → set (wide m kept) p None ≡ wide m (set kept p None)
  set_wide [] p = set_bare m p
  set_wide (o ∷ kept) zero = refl
  set_wide (o ∷ kept) (suc p) = ap (λ (r : Kept). o ∷ r) (set_wide kept p)

  put_wide : (kept : Kept) (p : ℕ) (a : Option ℕ) → p < length kept → set (wide m kept) p a ≡ wide m (set kept p a)
  put_wide [] p a h = absurd (omega arith)
  put_wide (o ∷ kept) zero a h = refl
  put_wide (o ∷ kept) (suc p) a h = ap (λ (r : Kept). o ∷ r) (put_wide kept p a (le_of_suc-le-suc h))

abbrev wide_found : ℕ → Found → Found
wide_found m r = record { opening = r.opening; kept = wide m r.kept; lookups = r.lookups }

module _ (front back : ℕ → ℕ) where
  chain_wide : (m d p : ℕ) (kept : Kept) (n : ℕ) → chain front back d p (wide m kept) n ≡ wide_found m (chain front back d p kept n)
  unfolding chain
  chain_wide m zero p kept n = refl
  chain_wide m (suc d) p kept n = rw (get_wide m kept p, set_wide m kept p) (go (get_or kept p None) (λ q. chain_wide m d q (set kept p None) (n + 1)))
    where
      go : (o : Option ℕ) → ((q : ℕ) → chain front back d q (wide m (set kept p None)) (n + 1) ≡ wide_found m (chain front back d q (set kept p None) (n + 1)))
          → follow front back (record { answer = o; kept = wide m (set kept p None); lookups = n + 1 }) o (λ (q : ℕ). chain front back d q (wide m (set kept p None)) (n + 1))
          ≡ wide_found m (follow front back (look_up p kept n) o (λ (q : ℕ). chain front back d q (set kept p None) (n + 1)))
      go None more = refl
      go (Some u) more = rw (more (back u))

  -- as many lookups as uses are kept, and one more, are enough
  chain_enough : (d e p : ℕ) (kept : Kept) (n : ℕ) → length (held kept) < d → length (held kept) < e → chain front back d p kept n ≡ chain front back e p kept n
  unfolding chain
  chain_enough zero e p kept n h k = absurd (omega arith)
  chain_enough (suc d) zero p kept n h k = absurd (omega arith)
  chain_enough (suc d) (suc e) p kept n h k = go (get_or kept p None) refl (λ q x y. chain_enough d e q (set kept p None) (n + 1) x y)
    where
      go : (o : Option ℕ) → get_or kept p None ≡ o
          → ((q : ℕ) → length (held (set kept p None)) < d → length (held (set kept p None)) < e → chain front back d q (set kept p None) (n + 1) ≡ chain front back e q (set kept p None) (n + 1))
          → follow front back (look_up p kept n) o (λ (q : ℕ). chain front back d q (set kept p None) (n + 1))
          ≡ follow front back (look_up p kept n) o (λ (q : ℕ). chain front back e q (set kept p None) (n + 1))
      go None z more = refl
      go (Some u) z more = let l = held_long kept p u z in rw (more (back u) (omega (arith, l)) (omega (arith, l)))

  start_wide : (m p : ℕ) (kept : Kept) (n : ℕ) → chain front back (suc (length (wide m kept))) p (wide m kept) n ≡ wide_found m (chain front back (suc (length kept)) p kept n)
  start_wide m p kept n =
      let l = held_le kept in
      chain_wide m (suc (length (wide m kept))) p kept n
      ∙ ap (wide_found m) (chain_enough (suc (length (wide m kept))) (suc (length kept)) p kept n (omega (arith, l, length-append kept (replicate m None))) (omega (arith, l)))

  pub pass_wide : (m : ℕ) (us : List ℕ) (kept : Kept) (n : ℕ) → pass front back us (wide m kept) n ≡ wide_walk m (pass front back us kept n)
  unfolding pass
  pass_wide m [] kept n = refl
  pass_wide m (u ∷ us) kept n = rw (get_wide m kept (front u)) (go (get_or kept (front u) None) (λ k j. pass_wide m us k j))
    where
      go : (o : Option ℕ) → ((k : Kept) (j : ℕ) → pass front back us (wide m k) j ≡ wide_walk m (pass front back us k j))
          → begin_at front back o (front u) (wide m kept) n (λ (k : Kept) (j : ℕ). pass front back us k j)
          ≡ wide_walk m (begin_at front back o (front u) kept n (λ (k : Kept) (j : ℕ). pass front back us k j))
      go None more = more kept n
      go (Some v) more =
          let r = chain front back (suc (length kept)) (front u) kept n in
          rw (start_wide m (front u) kept n, more r.kept r.lookups)

  keep_wide : (m : ℕ) (us : List ℕ) (kept : Kept) → All (λ (u : ℕ). front u < length kept) us → keep front back us (wide m kept) ≡ wide m (keep front back us kept)
  unfolding keep
  keep_wide m [] kept h = refl
  keep_wide m (u ∷ us) kept h =
      rw (put_wide m kept (front u) (Some u) h.0)
      (keep_wide m us (set kept (front u) (Some u)) (rw (length-set kept (front u) (Some u)) h.1))

  length_keep : (us : List ℕ) (kept : Kept) → length (keep front back us kept) ≡ length kept
  unfolding keep
  length_keep [] kept = refl
  length_keep (u ∷ us) kept = length_keep us (set kept (front u) (Some u)) ∙ length-set kept (front u) (Some u)

  -- so the walk over the points is one pass over more places
  pub walk_wide : (points m : ℕ) (us : List ℕ) → All (λ (u : ℕ). front u < points) us
      → pass front back us (keep front back (free_uses us) (replicate (points + m) None)) 0 ≡ wide_walk m (walk_of front back points us)
  unfolding free_uses
  walk_wide points m us h =
      let bare : Kept = replicate points None in
      let free = only (is_free us) us in
      let l : length bare ≡ points = length-replicate {A = Option ℕ} points None in
      let k : All (λ (u : ℕ). front u < length bare) free = rw l (all_only (λ (u : ℕ). front u < points) (is_free us) us h) in
      let n : length (keep front back free bare) ≤ points = rw (length_keep free bare, l) (omega arith) in
      rw (add_replicate points m, keep_wide m free bare k, pass_wide m us (keep front back free bare) 0, pass_is_walk front back points us (keep front back free bare) 0 n)
    where
      add_replicate : (a b : ℕ) → replicate {A = Option ℕ} (a + b) None ≡ wide b (replicate a None)
      add_replicate zero b = let e : 0 + b ≡ b = omega arith in rw e
      add_replicate (suc a) b = let e : suc a + b ≡ suc (a + b) = omega arith in rw (e, add_replicate a b)

-- the arrays: where the odd edges are those of the free uses and all parts were kept, the pass over all parts is the walk of the shell
pub walk_on_arrays : (fronts backs odd us kept : List ℕ) (points : ℕ) → points ≤ 2048 → All (λ (u : ℕ). front_of fronts backs u < points) us
    → All (λ (u : ℕ). is_odd odd u ≡ is_free us u) us
    → slots kept ≡ keep (front_of fronts backs) (back_of fronts backs) (only (is_odd odd) us) (slots (replicate 2048 65535))
    → pass (front_of fronts backs) (back_of fronts backs) us (slots kept) 0 ≡ wide_walk (2048 - points) (walk_of (front_of fronts backs) (back_of fronts backs) points us)
unfolding free_uses
walk_on_arrays fronts backs odd us kept points l h o e =
    let z : points + (2048 - points) ≡ 2048 = omega arith in
    rw (e, only_same (is_odd odd) (is_free us) us o, slots_bare 2048)
    (rw z at (walk_wide (front_of fronts backs) (back_of fronts backs) points (2048 - points) us h))

-- room at the start of a shell
pub ready_first : (fronts backs kept out lens : List ℕ) → Holding fronts backs kept → length kept ≡ 2048 → 2048 ≤ length out → 2048 ≤ length lens
    → Ready fronts backs kept out lens (record { at = 0; openings = 0; lookups = 0 })
ready_first fronts backs kept out lens h e o l = record {
  holding = h;
  points = e;
  uses = omega (arith, kept_le kept);
  parts = omega (arith, kept_le kept);
  few = omega (arith, kept_le kept);
}
