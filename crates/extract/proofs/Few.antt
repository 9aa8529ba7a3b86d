-- A pass finds no more uses than are kept, and no more openings.
use Rattle.std.specs.Prelude.{Option, None, Some}
use Prim.Native.Nat.{ℕ, suc, zero, ◌+◌, ◌≤◌}
use mathlib.Core.List.{List, [], ◌∷◌}
use mathlib.Core.Path.{◌≡◌, refl}
use native.Mathlib.Omega.{arith}
use lib.ListN.{get_or, length, length-append, set}
use Rattle.lists.specs.Lists.{flat}
use Rattle.shell.specs.Openings.{Kept, Walk, chain, follow, look_up}
use Rattle.shell.specs.OnePass.{begin_at, pass}
use Rattle.shell.proofs.Held.{chain_takes, held, held_long, less_set}

module _ (front back : ℕ → ℕ) where
  chain_few : (d p : ℕ) (kept : Kept) (n : ℕ) → (let r = chain front back d p kept n in length r.opening + length (held r.kept) ≤ length (held kept))
  unfolding chain
  chain_few zero p kept n = omega arith
  chain_few (suc d) p kept n = go (get_or kept p None) refl (λ q. chain_few d q (set kept p None) (n + 1))
    where
      go : (o : Option ℕ) → get_or kept p None ≡ o
          → ((q : ℕ) → (let r = chain front back d q (set kept p None) (n + 1) in length r.opening + length (held r.kept) ≤ length (held (set kept p None))))
          → (let r = follow front back (look_up p kept n) o (λ (q : ℕ). chain front back d q (set kept p None) (n + 1)) in length r.opening + length (held r.kept) ≤ length (held kept))
      go None e more = omega (arith, (less_set kept p).few)
      go (Some u) e more = omega (arith, held_long kept p u e, more (back u))

  -- what is found and what is still kept were kept
  abbrev Few : Kept → Walk → Type 0
  Few kept w = (length (flat w.openings) + length (held w.kept) ≤ length (held kept)) × (length w.openings + length (held w.kept) ≤ length (held kept))

  pub pass_few : (us : List ℕ) (kept : Kept) (n : ℕ) → Few kept (pass front back us kept n)
  unfolding pass flat
  pass_few [] kept n = (omega arith, omega arith)
  pass_few (u ∷ us) kept n = go (get_or kept (front u) None) refl (λ k m. pass_few us k m)
    where
      go : (o : Option ℕ) → get_or kept (front u) None ≡ o → ((k : Kept) (m : ℕ) → Few k (pass front back us k m))
          → Few kept (begin_at front back o (front u) kept n (λ (k : Kept) (m : ℕ). pass front back us k m))
      go None e more = more kept n
      go (Some v) e more =
          let r = chain front back (suc (length kept)) (front u) kept n in
          let w = pass front back us r.kept r.lookups in
          let h = more r.kept r.lookups in
          let t = (chain_takes front back (length kept) (front u) kept n).few in (
            omega (arith, chain_few (suc (length kept)) (front u) kept n, h.0, length-append r.opening (flat w.openings)),
            omega (arith, h.1, t, held_long kept (front u) v e),
          )
