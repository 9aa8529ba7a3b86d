-- The pass over the uses: its openings are closed, and hold every kept use once.
use Rattle.std.specs.Prelude.{Option, None, Some}
use Prim.Native.Nat.{◌+◌, ◌<◌, suc, ℕ}
use mathlib.Core.Bool.{Bool, true}
use mathlib.Core.List.{List, [], ◌∷◌}
use mathlib.Core.Path.{◌≡◌, refl}
use native.Mathlib.Omega.{arith}
use lib.Dec.{eqb}
use lib.ListN.{get_or, length, set}
use borrow.Author.Tests.{eqb-true}
use Rattle.edge.specs.Uses.{back_of, front_of}
use Rattle.lists.proofs.Count.{All, count_append, count_length}
use Rattle.lists.proofs.Laws.{left_true, right_true}
use Rattle.lists.specs.Lists.{count, flat}
use Rattle.shell.proofs.Chain.{Chained, Good, chain_ok}
use Rattle.shell.proofs.Held.{Less, chain_takes, held, held_le, held_long}
use Rattle.shell.proofs.Level.{Level}
use Rattle.shell.specs.OnePass.{begin_at, pass}
use Rattle.shell.specs.Openings.{Found, Kept, Walk, chain}
use Rattle.wire.specs.Wires.{closed, runs}

module _ (fronts backs : List ℕ) where
  abbrev pub Ring : List ℕ → Type 0
  Ring us = (0 < length us) × (closed fronts backs us ≡ true)

  pub record Passed (us : List ℕ) (kept : Kept) (n : ℕ) (w : Walk) : Type 0 where
    pub rings : All Ring w.openings
    pub same : (q : ℕ → Bool) → count q (flat w.openings) + count q (held w.kept) ≡ count q (held kept)
    pub good : Good fronts backs w.kept

  ring : (p : ℕ) (us : List ℕ) → runs fronts backs p us p ≡ true → 0 < length us → closed fronts backs us ≡ true
  unfolding runs closed
  ring p [] h l = absurd (omega arith)
  ring p (u ∷ us) h l =
      let here = eqb-true p (front_of fronts backs u) (left_true (eqb p (front_of fronts backs u)) (runs fronts backs (back_of fronts backs u) us p) h) in
      rw here at (right_true (eqb p (front_of fronts backs u)) (runs fronts backs (back_of fronts backs u) us p) h)

  -- a chain that starts where a use is kept finds some
  finds : (kept : Kept) (p v n : ℕ) (r : Found) → get_or kept p None ≡ Some v → Chained fronts backs p p kept n r → Less (set kept p None) r.kept → 0 < length r.opening
  finds kept p v n r e c t =
      omega (
        arith,
        c.same (λ (u : ℕ). true),
        count_length r.opening,
        count_length (held r.kept),
        count_length (held kept),
        t.few,
        held_long kept p v e,
      )

  pub pass_ok : (us : List ℕ) (kept : Kept) (n : ℕ) → Good fronts backs kept → Level fronts backs (held kept)
      → Passed us kept n (pass (front_of fronts backs) (back_of fronts backs) us kept n)
  unfolding pass flat count
  pass_ok [] kept n g h = record { rings = tt; same = λ q. omega arith; good = g }
  pass_ok (u ∷ us) kept n g h = go (get_or kept (front_of fronts backs u) None) refl (λ k m g' h'. pass_ok us k m g' h')
    where
      rest : Kept → ℕ → Walk
      rest k m = pass (front_of fronts backs) (back_of fronts backs) us k m

      go : (o : Option ℕ) → get_or kept (front_of fronts backs u) None ≡ o
          → ((k : Kept) (m : ℕ) → Good fronts backs k → Level fronts backs (held k) → Passed us k m (rest k m))
          → Passed (u ∷ us) kept n (begin_at (front_of fronts backs) (back_of fronts backs) o (front_of fronts backs u) kept n rest)
      go None e more = let w = more kept n g h in record { rings = w.rings; same = w.same; good = w.good }
      go (Some v) e more =
          let at = front_of fronts backs u in
          let r = chain (front_of fronts backs) (back_of fronts backs) (suc (length kept)) at kept n in
          let c = chain_ok fronts backs (suc (length kept)) at at kept n g (omega (arith, held_le kept)) (λ q. omega (arith, h q)) in
          let t = chain_takes (front_of fronts backs) (back_of fronts backs) (length kept) at kept n in
          let some_found = finds kept at v n r e c t in
          let w = more r.kept r.lookups c.good c.level in
          let os = (rest r.kept r.lookups).openings in record {
            rings = ((some_found, ring at r.opening c.goes some_found), w.rings);
            same = λ q. omega (arith, c.same q, w.same q, count_append q r.opening (flat os));
            good = w.good;
          }
