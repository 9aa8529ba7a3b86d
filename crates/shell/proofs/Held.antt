-- The uses that are kept, and what lookups leave of them.
use Rattle.lists.proofs.Options.{none-ne-some, some-injective, some-ne-none}
use Rattle.std.specs.Prelude.{Option, None, Some}
use Prim.Native.Nat.{◌+◌, ◌<◌, ◌≤◌, suc, zero, ℕ}
use mathlib.Core.Bool.{Bool, false, true}
use mathlib.Core.List.{List, [], ◌∷◌}
use mathlib.Core.Logic.{⊎_elim}
use mathlib.Core.Path.{◌≡◌, refl, sym}
use native.Mathlib.Omega.{arith}
use lib.Dec.{eqb}
use lib.ListN.{get_or, length, replicate, set}
use lib.Seq.{get_or-set_other, set-get_or}
use borrow.Author.Tests.{eqb-false, eqb-true}
use Rattle.lists.proofs.Count.{bit, count_length}
use Rattle.lists.proofs.Laws.{cases}
use Rattle.lists.specs.Lists.{count, pick}
use Rattle.shell.specs.Openings.{Kept, chain, follow, look_up}

-- all that are kept, point by point
unfoldable pub held : Kept → List ℕ
held [] = []
held (None ∷ kept) = held kept
held (Some u ∷ kept) = u ∷ held kept

-- how many are kept at one place
abbrev pub there : Option ℕ → ℕ
there None = 0
there (Some u) = 1

pub there_none : (o : Option ℕ) → there o ≡ 0 → o ≡ None
there_none None h = refl
there_none (Some u) h = absurd (omega arith)

-- a kept use taken out
pub held_out : (q : ℕ → Bool) (kept : Kept) (p u : ℕ) → get_or kept p None ≡ Some u → count q (held kept) ≡ bit (q u) + count q (held (set kept p None))
unfolding count held
held_out q [] p u e = absurd (none-ne-some u e)
held_out q (None ∷ kept) zero u e = absurd (none-ne-some u e)
held_out q (Some v ∷ kept) zero u e = rw (some-injective v u e)
held_out q (None ∷ kept) (suc p) u e = held_out q kept p u e
held_out q (Some v ∷ kept) (suc p) u e = omega (arith, held_out q kept p u e)

-- a use put where none is kept
pub held_in : (q : ℕ → Bool) (kept : Kept) (p u : ℕ) → get_or kept p None ≡ None → p < length kept → count q (held (set kept p (Some u))) ≡ bit (q u) + count q (held kept)
unfolding count held
held_in q [] p u e l = absurd (omega arith)
held_in q (None ∷ kept) zero u e l = refl
held_in q (Some v ∷ kept) zero u e l = absurd (some-ne-none v e)
held_in q (None ∷ kept) (suc p) u e l = held_in q kept p u e (omega arith)
held_in q (Some v ∷ kept) (suc p) u e l = omega (arith, held_in q kept p u e (omega arith))

pub held_le : (kept : Kept) → length (held kept) ≤ length kept
unfolding held
held_le [] = omega arith
held_le (None ∷ kept) = omega (arith, held_le kept)
held_le (Some u ∷ kept) = omega (arith, held_le kept)

-- none at any place, so none at all
pub held_none : (q : ℕ → Bool) (kept : Kept) → ((p : ℕ) → get_or kept p None ≡ None) → count q (held kept) ≡ 0
unfolding count held
held_none q [] h = refl
held_none q (None ∷ kept) h = held_none q kept (λ p. h (suc p))
held_none q (Some u ∷ kept) h = absurd (some-ne-none u (h 0))

pub held_long : (kept : Kept) (p u : ℕ) → get_or kept p None ≡ Some u → length (held kept) ≡ 1 + length (held (set kept p None))
held_long kept p u e =
    omega (arith, held_out (λ (v : ℕ). true) kept p u e, count_length (held kept), count_length (held (set kept p None)))

-- where none was ever kept
pub get_empty : (m p : ℕ) → get_or {A = Option ℕ} (replicate m None) p None ≡ None
get_empty zero p = refl
get_empty (suc m) zero = refl
get_empty (suc m) (suc p) = get_empty m p

pub get_same : (kept : Kept) (p : ℕ) → get_or (set kept p None) p None ≡ None
get_same [] p = refl
get_same (o ∷ kept) zero = refl
get_same (o ∷ kept) (suc p) = get_same kept p

pub get_out : (kept : Kept) (p r : ℕ) → get_or (set kept p None) r None ≡ pick (eqb p r) None (get_or kept r None)
get_out kept p r =
    ⊎_elim
    (λ (e : eqb p r ≡ true). rw (e, ← eqb-true p r e) (get_same kept p))
    (λ (e : eqb p r ≡ false). rw e (get_or-set_other kept p r None None (λ f. eqb-false p r e (sym f))))
    (cases (eqb p r))

-- what a lookup at p leaves at r, and took there
pub there_out : (kept : Kept) (p r u : ℕ) → get_or kept p None ≡ Some u → there (get_or (set kept p None) r None) + bit (eqb p r) ≡ there (get_or kept r None)
there_out kept p r u e =
    ⊎_elim
    (λ (f : eqb p r ≡ true). let h : get_or kept r None ≡ Some u = rw (eqb-true p r f) at e in rw (get_out kept p r, f, h))
    (λ (f : eqb p r ≡ false). rw (get_out kept p r, f) (omega arith))
    (cases (eqb p r))

-- lookups only take
pub record Less (kept kept' : Kept) : Type 0 where
  pub bare : (p : ℕ) → get_or kept p None ≡ None → get_or kept' p None ≡ None
  pub few : length (held kept') ≤ length (held kept)

less_refl : (kept : Kept) → Less kept kept
less_refl kept = record { bare = λ p e. e; few = omega arith }

pub less_trans : {a b c : Kept} → Less a b → Less b c → Less a c
less_trans s t = record { bare = λ p e. t.bare p (s.bare p e); few = omega (arith, s.few, t.few) }

pub less_set : (kept : Kept) (p : ℕ) → Less kept (set kept p None)
less_set kept p = record {
  bare = λ r e. rw (get_out kept p r, e) (either (eqb p r));
  few = few (get_or kept p None) refl;
}
  where
    either : (b : Bool) → pick {A = Option ℕ} b None None ≡ None
    either true = refl
    either false = refl

    few : (o : Option ℕ) → get_or kept p None ≡ o → length (held (set kept p None)) ≤ length (held kept)
    few None e =
        let same : set kept p None ≡ kept = rw e at (set-get_or kept p None) in
        rw same (omega arith)
    few (Some u) e = omega (arith, held_long kept p u e)

module _ (front back : ℕ → ℕ) where
  pub chain_less : (d p : ℕ) (kept : Kept) (n : ℕ) → Less kept (chain front back d p kept n).kept
  unfolding chain
  chain_less zero p kept n = less_refl kept
  chain_less (suc d) p kept n = go (get_or kept p None) (λ q. chain_less d q (set kept p None) (n + 1))
    where
      go : (o : Option ℕ) → ((q : ℕ) → Less (set kept p None) (chain front back d q (set kept p None) (n + 1)).kept)
          → Less kept (follow front back (look_up p kept n) o (λ (q : ℕ). chain front back d q (set kept p None) (n + 1))).kept
      go None more = less_set kept p
      go (Some u) more = less_trans (less_set kept p) (more (back u))

  -- its first lookup takes what is kept at p
  pub chain_takes : (d p : ℕ) (kept : Kept) (n : ℕ) → Less (set kept p None) (chain front back (suc d) p kept n).kept
  unfolding chain
  chain_takes d p kept n = go (get_or kept p None)
    where
      go : (o : Option ℕ) → Less (set kept p None) (follow front back (look_up p kept n) o (λ (q : ℕ). chain front back d q (set kept p None) (n + 1))).kept
      go None = less_refl (set kept p None)
      go (Some u) = chain_less d (back u) (set kept p None) (n + 1)
