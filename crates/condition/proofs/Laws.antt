-- The tally after each use is that of the uses so far.
use Prim.Native.Nat.{◌%◌, ◌+◌, ◌/◌, ◌<◌, min, ℕ}
use mathlib.Core.Bool.{false, true}
use mathlib.Core.List.{List, [], ◌++◌, ◌∷◌, append_assoc, append-nil}
use mathlib.Core.Logic.{⊎_elim}
use mathlib.Core.Path.{◌∙◌, ◌≡◌, ap, sym}
use native.Mathlib.Omega.{arith}
use lib.Dec.{eqb, leb}
use lib.ListN.{get_or, get_or-replicate, length, length-replicate, length-set, replicate, set}
use lib.Seq.{get_or-set_other, get_or-set_same}
use borrow.Author.Tests.{eq-eqb, eqb-false, eqb-true, leb-false, leb-true, ne_eqb}
use Rattle.condition.proofs.Digits.{digit_none, digit_other, digit_same}
use Rattle.condition.proofs.Least.{least_ge, least_lower, least_top}
use Rattle.condition.proofs.States.{state_along, state_back, worst_along, worst_back}
use Rattle.condition.specs.Tallies.{StateFor, Tallied, digit, edge_worst, inserted, inserted_all, next_state, state_of, use_condition, way_of, with_digit}
use Rattle.condition.specs.declared.Tally.{Tally}
use Rattle.edge.specs.Uses.{edge_number}
use Rattle.lists.proofs.Count.{All, bit, count_append}
use Rattle.lists.proofs.Laws.{cases}
use Rattle.lists.specs.Lists.{count}
use Rattle.shell.proofs.Level.{IsUse}
use Rattle.shell.specs.Conditions.{alike_to}

alike_snoc : (us : List ℕ) (u v : ℕ) → alike_to (us ++ (u ∷ [])) v ≡ alike_to us v + bit (eqb v u)
unfolding alike_to count
alike_snoc us u v = omega (arith, count_append (eqb v) us (u ∷ []))

alike_one : (us : List ℕ) (u v : ℕ) → v ≡ u → alike_to (us ++ (u ∷ [])) v ≡ alike_to us v + 1
alike_one us u v h = rw (alike_snoc us u v, eq-eqb v u h)

alike_other : (us : List ℕ) (u v : ℕ) → (v ≡ u → ⊥) → alike_to (us ++ (u ∷ [])) v ≡ alike_to us v
alike_other us u v h = rw (alike_snoc us u v, ne_eqb v u h) (omega arith)

-- what the code's parts make is the tally after the use
pub inserted_is : (t : Tally) (u e s made worst next byte : ℕ) → e ≡ edge_number u → s ≡ state_of t e → made ≡ use_condition (way_of u) s → worst ≡ min t.worst made
    → next ≡ next_state (way_of u) s → byte ≡ with_digit (get_or t.states (e / 4) 0) (e % 4) next
    → (let r : Tally = record { states = set t.states (e / 4) byte; worst = worst } in r ≡ inserted t u)
inserted_is t u e s made worst next byte i p q j k w = rw (w, k, j, q, p, i)

-- no uses
pub tallied_none : (t : Tally) → t.states ≡ replicate 256 0 → t.worst ≡ 3 → Tallied [] t
unfolding alike_to count
tallied_none t h w = record {
  long = ap length h ∙ length-replicate {A = ℕ} 256 0;
  state = λ e l.
      let z : state_of t e ≡ 0 = rw (h, get_or-replicate {A = ℕ} 256 (e / 4) 0 0 (omega arith)) (digit_none (e % 4) (omega arith)) in
      rw z (record { few = omega arith; odd = omega arith; none = λ p. omega arith; once = λ p. absurd (omega arith); more = λ p. absurd (omega arith) });
  worst = omega (arith, w, least_top (λ (e : ℕ). edge_worst 0 0) 1024, least_ge (λ (e : ℕ). edge_worst 0 0) 3 1024 (omega arith) (λ k l. omega arith));
}

module _ (us : List ℕ) (t : Tally) (u : ℕ) (s : Tallied us t) (small : u < 65536) (below : edge_number u < 1024) where
  abbrev place : ℕ
  place = edge_number u

  abbrev byte : ℕ
  byte = with_digit (get_or t.states (place / 4) 0) (place % 4) (next_state (way_of u) (state_of t place))

  -- one use more of the edge that is used
  abbrev More : ℕ → ℕ → Type 0
  More f b = StateFor f b (next_state (way_of u) (state_of t place)) × (edge_worst f b ≡ min (edge_worst (alike_to us place) (alike_to us (32768 + place))) (use_condition (way_of u) (state_of t place)))

  used : More (alike_to (us ++ (u ∷ [])) place) (alike_to (us ++ (u ∷ [])) (32768 + place))
  used =
      ⊎_elim
      (λ (r : leb 32768 u ≡ true).
      let m = leb-true 32768 u r in
      let w : way_of u ≡ 3 = omega arith in
      rw (w, alike_other us u place (λ q. omega arith), alike_one us u (32768 + place) (omega arith)) (
        state_back (alike_to us place) (alike_to us (32768 + place)) (state_of t place) (s.state place below),
        worst_back (alike_to us place) (alike_to us (32768 + place)) (state_of t place) (s.state place below),
      ))
      (λ (r : leb 32768 u ≡ false).
      let m = leb-false 32768 u r in
      let w : way_of u ≡ 1 = omega arith in
      rw (w, alike_one us u place (omega arith), alike_other us u (32768 + place) (λ q. omega arith)) (
        state_along (alike_to us place) (alike_to us (32768 + place)) (state_of t place) (s.state place below),
        worst_along (alike_to us place) (alike_to us (32768 + place)) (state_of t place) (s.state place below),
      ))
      (cases (leb 32768 u))

  -- the state of the edge that is used, and of another
  state_here : state_of (inserted t u) place ≡ next_state (way_of u) (state_of t place)
  state_here =
      rw (get_or-set_same t.states (place / 4) byte 0 (omega (arith, s.long)))
      (digit_same (get_or t.states (place / 4) 0) (next_state (way_of u) (state_of t place)) used.0.few (place % 4) (omega arith))

  module _ (e : ℕ) (low : e < 1024) (not : e ≡ place → ⊥) where
    state_other : state_of (inserted t u) e ≡ state_of t e
    state_other =
        ⊎_elim
        (λ (r : eqb (e / 4) (place / 4) ≡ true).
        let p = eqb-true (e / 4) (place / 4) r in
        rw (p, get_or-set_same t.states (place / 4) byte 0 (omega (arith, s.long)))
        (digit_other (get_or t.states (place / 4) 0) (next_state (way_of u) (state_of t place)) used.0.few (place % 4) (e % 4) (omega arith) (omega arith) (λ q. not (omega arith))))
        (λ (r : eqb (e / 4) (place / 4) ≡ false).
        ap (λ (b : ℕ). digit b (e % 4)) (get_or-set_other t.states (place / 4) (e / 4) byte 0 (eqb-false (e / 4) (place / 4) r)))
        (cases (eqb (e / 4) (place / 4)))

    along_other : alike_to (us ++ (u ∷ [])) e ≡ alike_to us e
    along_other = alike_other us u e (λ q. not (omega arith))

    back_other : alike_to (us ++ (u ∷ [])) (32768 + e) ≡ alike_to us (32768 + e)
    back_other = alike_other us u (32768 + e) (λ q. not (omega arith))

  pub tallied_next : Tallied (us ++ (u ∷ [])) (inserted t u)
  tallied_next = record {
    long = length-set t.states (place / 4) byte ∙ s.long;
    state = λ e l.
        ⊎_elim
        (λ (q : eqb e place ≡ true). let p = eqb-true e place q in rw (p, state_here) used.0)
        (λ (q : eqb e place ≡ false).
        let n = eqb-false e place q in
        rw (state_other e l n, along_other e l n, back_other e l n) (s.state e l))
        (cases (eqb e place));
    worst =
        rw s.worst
        (sym (least_lower (λ (e : ℕ). edge_worst (alike_to us e) (alike_to us (32768 + e))) (λ (e : ℕ). edge_worst (alike_to (us ++ (u ∷ [])) e) (alike_to (us ++ (u ∷ [])) (32768 + e)))
        1024 place (use_condition (way_of u) (state_of t place)) below used.1 (λ e l n. rw (along_other e l n, back_other e l n))));
  }

-- the uses of a part after those that the tally has
pub tallied_part : (us part : List ℕ) (t : Tally) → Tallied us t → All (IsUse 1024) part → Tallied (us ++ part) (inserted_all t part)
unfolding inserted_all
tallied_part us [] t s h = rw (append-nil us) s
tallied_part us (u ∷ part) t s h =
    rw (append_assoc us (u ∷ []) part) at
    (tallied_part (us ++ (u ∷ [])) part (inserted t u) (tallied_next us t u s h.0.0 h.0.1) h.1)
