-- A chain of lookups ends where it began, and what it found and left is what was kept.
use Rattle.lists.proofs.Options.{none-ne-some}
use Rattle.std.specs.Prelude.{Option, None, Some}
use Prim.Native.Nat.{◌+◌, ◌<◌, suc, zero, ℕ}
use mathlib.Core.Bool.{Bool, false, true}
use mathlib.Core.List.{List, [], ◌∷◌}
use mathlib.Core.Path.{◌∙◌, ◌≡◌, ap, refl, sym}
use native.Mathlib.Omega.{arith}
use lib.Dec.{eqb}
use lib.ListN.{get_or, length, set}
use lib.Seq.{set-get_or}
use borrow.Author.Tests.{eq-eqb, eqb-true}
use Rattle.edge.specs.Uses.{back_of, front_of}
use Rattle.lists.proofs.Alike.{bit_one, bit_true}
use Rattle.lists.proofs.Count.{bit, count_cons}
use Rattle.lists.specs.Lists.{count, pick}
use Rattle.shell.proofs.Held.{get_out, held, held_long, held_out, there, there_out}
use Rattle.shell.proofs.Level.{Level}
use Rattle.shell.specs.Openings.{Found, Kept, chain, follow, look_up}
use Rattle.wire.specs.Wires.{runs}

module _ (fronts backs : List ℕ) where
  abbrev pub from : ℕ → ℕ → Bool
  from p u = eqb (front_of fronts backs u) p

  abbrev pub to : ℕ → ℕ → Bool
  to p u = eqb (back_of fronts backs u) p

  -- each kept use stands at its front; as many are kept at a point as begin there
  pub record Good (kept : Kept) : Type 0 where
    pub placed : (p u : ℕ) → get_or kept p None ≡ Some u → front_of fronts backs u ≡ p
    pub fit : (p : ℕ) → count (from p) (held kept) ≡ there (get_or kept p None)

  good_out : (kept : Kept) (p u : ℕ) → get_or kept p None ≡ Some u → Good kept → Good (set kept p None)
  good_out kept p u e g = record {
    placed = λ r v h. go r v (eqb p r) (sym (get_out kept p r) ∙ h);
    fit = λ r.
        let same : bit (from r u) ≡ bit (eqb p r) = ap (λ (x : ℕ). bit (eqb x r)) (g.placed p u e) in
        omega (arith, held_out (from r) kept p u e, there_out kept p r u e, same, g.fit r);
  }
    where
      go : (r v : ℕ) (b : Bool) → pick b None (get_or kept r None) ≡ Some v → front_of fronts backs v ≡ r
      go r v true h = absurd (none-ne-some v h)
      go r v false h = g.placed r v h

  -- a chain that began at a has come to b
  abbrev Coming : ℕ → ℕ → Kept → Type 0
  Coming a b kept = (p : ℕ) → count (from p) (held kept) + bit (eqb a p) ≡ count (to p) (held kept) + bit (eqb b p)

  -- what it finds from there on
  pub record Chained (a b : ℕ) (kept : Kept) (n : ℕ) (r : Found) : Type 0 where
    pub goes : runs fronts backs b r.opening a ≡ true
    pub same : (q : ℕ → Bool) → count q r.opening + count q (held r.kept) ≡ count q (held kept)
    pub good : Good r.kept
    pub level : Level fronts backs (held r.kept)

  -- where none is kept it is back where it began
  ends : (kept : Kept) (n a b : ℕ) → Good kept → get_or kept b None ≡ None → Coming a b kept → Chained a b kept n (record { opening = []; kept = kept; lookups = n + 1 })
  unfolding runs count
  ends kept n a b g e h =
      let none_here : count (from b) (held kept) ≡ 0 = g.fit b ∙ ap there e in
      let here : a ≡ b = eqb-true a b (bit_true (eqb a b) (omega (arith, none_here, h b, bit_one b b refl))) in record {
        goes = eq-eqb b a (sym here);
        same = λ q. omega arith;
        good = g;
        level = λ p. let z : bit (eqb a p) ≡ bit (eqb b p) = ap (λ (x : ℕ). bit (eqb x p)) here in omega (arith, h p, z);
      }

  runs_on : (a b u : ℕ) (us : List ℕ) → front_of fronts backs u ≡ b → runs fronts backs (back_of fronts backs u) us a ≡ true → runs fronts backs b (u ∷ us) a ≡ true
  unfolding runs
  runs_on a b u us at h = rw (eq-eqb b (front_of fronts backs u) (sym at)) h

  pub chain_ok : (d a b : ℕ) (kept : Kept) (n : ℕ) → Good kept → length (held kept) < d → Coming a b kept
      → Chained a b kept n (chain (front_of fronts backs) (back_of fronts backs) d b kept n)
  unfolding chain
  chain_ok zero a b kept n g l h = absurd (omega arith)
  chain_ok (suc d) a b kept n g l h = go (get_or kept b None) refl (λ p g' l' h'. chain_ok d a p (set kept b None) (n + 1) g' l' h')
    where
      next : ℕ → Found
      next p = chain (front_of fronts backs) (back_of fronts backs) d p (set kept b None) (n + 1)

      found : (u : ℕ) → get_or kept b None ≡ Some u → front_of fronts backs u ≡ b → Chained a (back_of fronts backs u) (set kept b None) (n + 1) (next (back_of fronts backs u))
          → Chained a b kept n (follow (front_of fronts backs) (back_of fronts backs) (look_up b kept n) (Some u) next)
      found u e at r = record {
        goes = runs_on a b u (next (back_of fronts backs u)).opening at r.goes;
        same = λ q. omega (arith, count_cons q u (next (back_of fronts backs u)).opening, r.same q, held_out q kept b u e);
        good = r.good;
        level = r.level;
      }

      go : (o : Option ℕ) → get_or kept b None ≡ o
          → ((p : ℕ) → Good (set kept b None) → length (held (set kept b None)) < d → Coming a p (set kept b None) → Chained a p (set kept b None) (n + 1) (next p))
          → Chained a b kept n (follow (front_of fronts backs) (back_of fronts backs) (look_up b kept n) o next)
      go None e more =
          let same : set kept b None ≡ kept = rw e at (set-get_or kept b None) in
          rw same (ends kept n a b g e h)
      go (Some u) e more =
          let at : front_of fronts backs u ≡ b = g.placed b u e in
          let r = more (back_of fronts backs u) (good_out kept b u e g) (omega (arith, l, held_long kept b u e)) (λ p.
          let z : bit (from p u) ≡ bit (eqb b p) = ap (λ (x : ℕ). bit (eqb x p)) at in
          omega (arith, h p, held_out (from p) kept b u e, held_out (to p) kept b u e, z)) in
          found u e at r
