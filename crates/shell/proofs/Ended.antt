-- Every walk goes on until none is kept, and looks up once for each use that it finds and once for each opening.
use Rattle.std.specs.Prelude.{Option, None, Some}
use Prim.Native.Nat.{◌+◌, ◌<◌, ◌≤◌, suc, zero, ℕ}
use mathlib.Core.Bool.{Bool, false, true}
use mathlib.Core.List.{List, [], ◌∷◌}
use mathlib.Core.Logic.{⊎_elim}
use mathlib.Core.Path.{◌∙◌, ◌≡◌, refl, sym}
use native.Mathlib.Omega.{arith}
use lib.Dec.{eqb, ltb}
use lib.ListN.{get_or, length, length-append, replicate, set}
use lib.Seq.{get_or-set_other}
use borrow.Author.Tests.{eqb-false, eqb-true, ltb-false, ltb-true}
use Rattle.lists.proofs.Alike.{bit_none}
use Rattle.lists.proofs.Count.{All, bit}
use Rattle.lists.proofs.Laws.{cases}
use Rattle.lists.specs.Lists.{count, flat}
use Rattle.shell.proofs.Held.{chain_takes, get_empty, get_same, held, held_le, held_long, less_set, less_trans}
use Rattle.shell.proofs.Pass.{pass_of_kept}
use Rattle.shell.specs.OnePass.{begin_at, pass}
use Rattle.shell.specs.Openings.{Found, Kept, Walk, chain, follow, keep, look_up, walk}

module _ (front back : ℕ → ℕ) where
  -- each lookup that finds a use leaves one less, so the last one finds nothing
  pub chain_asked : (d p : ℕ) (kept : Kept) (n : ℕ) → length (held kept) < d
      → (let r = chain front back d p kept n in r.lookups ≡ n + length r.opening + 1)
  unfolding chain
  chain_asked zero p kept n l = absurd (omega arith)
  chain_asked (suc d) p kept n l = go (get_or kept p None) refl (λ q h. chain_asked d q (set kept p None) (n + 1) h)
    where
      next : ℕ → Found
      next q = chain front back d q (set kept p None) (n + 1)

      go : (o : Option ℕ) → get_or kept p None ≡ o
          → ((q : ℕ) → length (held (set kept p None)) < d → (next q).lookups ≡ n + 1 + length (next q).opening + 1)
          → (let r = follow front back (look_up p kept n) o next in r.lookups ≡ n + length r.opening + 1)
      go None e more = omega arith
      go (Some u) e more = omega (arith, more (back u) (omega (arith, held_long kept p u e)))

  pub record Ends (us : List ℕ) (kept : Kept) (n : ℕ) (w : Walk) : Type 0 where
    pub asked : w.lookups ≡ n + length (flat w.openings) + length w.openings
    pub bare : (p : ℕ) → get_or kept p None ≡ None → get_or w.kept p None ≡ None
    pub behind : All (λ (u : ℕ). get_or w.kept (front u) None ≡ None) us

  pub pass_ends : (us : List ℕ) (kept : Kept) (n : ℕ) → Ends us kept n (pass front back us kept n)
  unfolding pass flat
  pass_ends [] kept n = record { asked = omega arith; bare = λ p e. e; behind = tt }
  pass_ends (u ∷ us) kept n = go (get_or kept (front u) None) refl (λ k m. pass_ends us k m)
    where
      rest : Kept → ℕ → Walk
      rest k m = pass front back us k m

      go : (o : Option ℕ) → get_or kept (front u) None ≡ o → ((k : Kept) (m : ℕ) → Ends us k m (rest k m))
          → Ends (u ∷ us) kept n (begin_at front back o (front u) kept n rest)
      go None e more =
          let w = more kept n in
          record { asked = w.asked; bare = w.bare; behind = (w.bare (front u) e, w.behind) }
      go (Some v) e more =
          let r = chain front back (suc (length kept)) (front u) kept n in
          let t = chain_takes front back (length kept) (front u) kept n in
          let l = less_trans (less_set kept (front u)) t in
          let w = more r.kept r.lookups in record {
            asked = omega (arith, chain_asked (suc (length kept)) (front u) kept n (omega (arith, held_le kept)), w.asked, length-append r.opening (flat (rest r.kept r.lookups).openings));
            bare = λ p f. w.bare p (l.bare p f);
            behind = (w.bare (front u) (t.bare (front u) (get_same kept (front u))), w.behind);
          }

  -- what holds of every front of the uses holds of a point where one begins
  begins : (P : ℕ → Type 0) (us : List ℕ) → All (λ (u : ℕ). P (front u)) us → (p : ℕ) → 0 < count (λ (u : ℕ). eqb (front u) p) us → P p
  unfolding count
  begins P [] h p l = absurd (omega arith)
  begins P (u ∷ us) h p l =
      ⊎_elim
      (λ (e : eqb (front u) p ≡ true). rw (eqb-true (front u) p e) at h.0)
      (λ (e : eqb (front u) p ≡ false). begins P us h.1 p (omega (arith, l, bit_none (front u) p e)))
      (cases (eqb (front u) p))

  -- where none begins, none is kept
  keep_bare : (us : List ℕ) (kept : Kept) (p : ℕ) → get_or kept p None ≡ None → count (λ (u : ℕ). eqb (front u) p) us ≡ 0 → get_or (keep front back us kept) p None ≡ None
  unfolding keep count
  keep_bare [] kept p e h = e
  keep_bare (u ∷ us) kept p e h =
      ⊎_elim
      (λ (f : eqb (front u) p ≡ true). let one : bit (eqb (front u) p) ≡ 1 = rw f in absurd (omega (arith, h, one)))
      (λ (f : eqb (front u) p ≡ false).
      keep_bare us (set kept (front u) (Some u)) p (get_or-set_other kept (front u) p (Some u) None (λ g. eqb-false (front u) p f (sym g)) ∙ e) (omega (arith, h, bit_none (front u) p f)))
      (cases (eqb (front u) p))

  -- the walk over uses us, with some of them kept
  pub walk_ends : (m : ℕ) (us free : List ℕ) → ((q : ℕ → Bool) → count q free ≤ count q us)
      → (let w = walk front back m us (keep front back free (replicate m None)) 0 in
      ((p : ℕ) → get_or w.kept p None ≡ None) × (w.lookups ≡ length (flat w.openings) + length w.openings))
  walk_ends m us free part =
      let kept = keep front back free (replicate m None) in
      let s = pass_ends us kept 0 in
      let w = pass front back us kept 0 in
      let ended : (p : ℕ) → get_or w.kept p None ≡ None = λ p.
      let here : ℕ → Bool = λ (u : ℕ). eqb (front u) p in
      ⊎_elim
      (λ (e : ltb 0 (count here us) ≡ true). begins (λ (r : ℕ). get_or w.kept r None ≡ None) us s.behind p (ltb-true 0 (count here us) e))
      (λ (e : ltb 0 (count here us) ≡ false).
      s.bare p (keep_bare free (replicate m None) p (get_empty m p) (omega (arith, part here, ltb-false 0 (count here us) e))))
      (cases (ltb 0 (count here us))) in
      rw (pass_of_kept front back m us free) (ended, omega (arith, s.asked))
