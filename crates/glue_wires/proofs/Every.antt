-- A claim of each kept use is one of each chained use.
use Rattle.lists.proofs.Options.{none-ne-some, some-injective}
use Rattle.std.specs.Prelude.{Option, None, Some}
use Prim.Native.Nat.{◌%◌, ◌+◌, ◌≤◌, suc, zero, ℕ}
use mathlib.Core.Bool.{Bool, false, true}
use mathlib.Core.List.{List, [], ◌∷◌}
use mathlib.Core.Path.{◌≡◌, refl}
use native.Mathlib.Omega.{arith}
use lib.Dec.{eqb}
use lib.ListN.{get_or, length, replicate, set}
use Rattle.face_edits.specs.FaceEdits.{and_then, chain_at, chained, meet, meet_all}
use Rattle.lists.proofs.Count.{All, all_append, all_each}
use Rattle.lists.proofs.Parts.{all_place}
use Rattle.lists.specs.Lists.{flat, pick}
use Rattle.pattern.specs.Contents.{Content}
use Rattle.shell.specs.Openings.{Found, Kept, back_in, chain, follow, front_in, keep, look_up}
use Rattle.wire.specs.Named.{Named}
use Rattle.glue_walk.specs.Walks.{EndColumns, Fits, PartFits}

module _ (P : ℕ → Type 0) where
  abbrev pub Every : Kept → Type 0
  Every kept = (p u : ℕ) → get_or kept p None ≡ Some u → P u

  pub every_bare : (n : ℕ) → Every (replicate n None)
  every_bare zero p u e = absurd (none-ne-some u e)
  every_bare (suc n) zero u e = absurd (none-ne-some u e)
  every_bare (suc n) (suc p) u e = every_bare n p u e

  every_set : (kept : Kept) (p : ℕ) (o : Option ℕ) → ((u : ℕ) → o ≡ Some u → P u) → Every kept → Every (set kept p o)
  every_set [] p o f h r u e = h r u e
  every_set (x ∷ kept) zero o f h zero u e = f u e
  every_set (x ∷ kept) zero o f h (suc r) u e = h (suc r) u e
  every_set (x ∷ kept) (suc p) o f h zero u e = h zero u e
  every_set (x ∷ kept) (suc p) o f h (suc r) u e = every_set kept p o f (λ s v z. h (suc s) v z) r u e

  every_out : (kept : Kept) (p : ℕ) → Every kept → Every (set kept p None)
  every_out kept p h = every_set kept p None (λ u e. absurd (none-ne-some u e)) h

  every_in : (kept : Kept) (p u : ℕ) → P u → Every kept → Every (set kept p (Some u))
  every_in kept p u f h = every_set kept p (Some u) (λ v e. rw (← some-injective u v e) f) h

  pub keep_every : (front back : ℕ → ℕ) (us : List ℕ) (kept : Kept) → All P us → Every kept → Every (keep front back us kept)
  unfolding keep
  keep_every front back [] kept a h = h
  keep_every front back (u ∷ us) kept a h = keep_every front back us (set kept (front u) (Some u)) a.1 (every_in kept (front u) u a.0 h)

  module _ (c : Content) where
    every_met : (u : ℕ) (o : Option ℕ) (kept kept' : Kept) → P u → Every kept → meet c u o kept ≡ Some kept' → Every kept'
    every_met u None kept kept' f h e = rw (← some-injective (set kept (front_in c u) (Some u)) kept' e) (every_in kept (front_in c u) u f h)
    every_met u (Some v) kept kept' f h e = go (eqb (back_in c v) (front_in c u)) (eqb (u % 32768) (v % 32768)) e
      where
        go : (a b : Bool) → pick a (pick b (Some (set kept (back_in c u) None)) None) (Some (set kept (front_in c u) (Some u))) ≡ Some kept' → Every kept'
        go true true e = rw (← some-injective (set kept (back_in c u) None) kept' e) (every_out kept (back_in c u) h)
        go true false e = absurd (none-ne-some kept' e)
        go false b e = rw (← some-injective (set kept (front_in c u) (Some u)) kept' e) (every_in kept (front_in c u) u f h)

    pub meet_every : (us : List ℕ) (kept kept' : Kept) → All P us → Every kept → meet_all c us kept ≡ Some kept' → Every kept'
    unfolding meet_all
    meet_every [] kept kept' a h e = rw (← some-injective kept kept' e) h
    meet_every (u ∷ us) kept kept' a h e = go (meet c u (get_or kept (back_in c u) None) kept) refl e (λ k g z. meet_every us k kept' a.1 g z)
      where
        go : (o : Option Kept) → meet c u (get_or kept (back_in c u) None) kept ≡ o → and_then o (meet_all c us) ≡ Some kept'
            → ((k : Kept) → Every k → meet_all c us k ≡ Some kept' → Every kept') → Every kept'
        go None m e more = absurd (none-ne-some kept' e)
        go (Some k) m e more = more k (every_met u (get_or kept (back_in c u) None) kept k a.0 h m) e

  module _ (front back : ℕ → ℕ) where
    chain_every : (d p : ℕ) (kept : Kept) (n : ℕ) → Every kept → All P (chain front back d p kept n).opening × Every (chain front back d p kept n).kept
    unfolding chain
    chain_every zero p kept n h = (tt, h)
    chain_every (suc d) p kept n h = go (get_or kept p None) refl (λ q. chain_every d q (set kept p None) (n + 1) (every_out kept p h))
      where
        next : ℕ → Found
        next q = chain front back d q (set kept p None) (n + 1)

        go : (o : Option ℕ) → get_or kept p None ≡ o → ((q : ℕ) → All P (next q).opening × Every (next q).kept)
            → All P (follow front back (look_up p kept n) o next).opening × Every (follow front back (look_up p kept n) o next).kept
        go None e more = (tt, every_out kept p h)
        go (Some u) e more = ((h p u e, (more (back u)).0), (more (back u)).1)

  pub chained_every : (c : Content) (ps : List ℕ) (kept : Kept) → Every kept → All P (flat (chained c ps kept))
  unfolding chained flat
  chained_every c [] kept h = tt
  chained_every c (p ∷ ps) kept h = go (get_or kept p None) (λ k g. chained_every c ps k g)
    where
      go : (o : Option ℕ) → ((k : Kept) → Every k → All P (flat (chained c ps k))) → All P (flat (chain_at c o p kept (chained c ps)))
      go None more = more kept h
      go (Some u) more =
          let r = chain (front_in c) (back_in c) (suc (length kept)) p kept 0 in
          let e = chain_every (front_in c) (back_in c) (suc (length kept)) p kept 0 h in
          all_append P r.opening (flat (chained c ps r.kept)) e.0 (more r.kept e.1)

module _ (fronts backs : List ℕ) (points : ℕ) where
  pub all_within : (part : List ℕ) → PartFits fronts backs points part → All (Fits fronts backs points) part
  all_within part g = all_each (Fits fronts backs points) 0 part g.each

  pub named : (us : List ℕ) → EndColumns fronts backs → points ≤ 2048 → All (Fits fronts backs points) us → Named fronts backs us
  named us e l a = record {
    alike = e.alike;
    edge = λ k h. (all_place (Fits fronts backs points) 0 us a k h).edge;
    point = λ k h. omega (arith, (all_place (Fits fronts backs points) 0 us a k h).front);
  }
