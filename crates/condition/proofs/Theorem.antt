-- The tally's answer is document 01's sentence on the condition, for any list of uses.
use Prim.Native.Nat.{◌%◌, ◌*◌, ◌+◌, ◌-◌, ◌/◌, ◌<◌, ◌≤◌, suc, zero, ℕ}
use mathlib.Core.Bool.{Bool, false, true}
use mathlib.Core.List.{List, [], ◌∷◌}
use mathlib.Core.Logic.{⊎_elim}
use mathlib.Core.Path.{◌≡◌, refl, sym}
use native.Mathlib.Omega.{arith}
use lib.Dec.{eqb, leb, ltb}
use lib.ListN.{get_or-append, get_or, length, replicate}
use borrow.Author.Tests.{eqb-false, eqb-true, leb-false, leb-true, ltb-false, ltb-true}
use Rattle.condition.proofs.Least.{least_ge, least_le, least_top}
use Rattle.condition.proofs.States.{twice_along, twice_back, worst_few, worst_none, worst_three}
use Rattle.condition.specs.Tallies.{Tallied, condition_in, edge_worst, odds_in, state_of}
use Rattle.condition.specs.declared.Tally.{Tally}
use Rattle.edge.specs.Uses.{edge_number}
use Rattle.lists.proofs.Alike.{bit_one, count_passes}
use Rattle.lists.proofs.Count.{All}
use Rattle.lists.proofs.Flat.{get_d_tabulate}
use Rattle.lists.proofs.Laws.{cases, length_tabulate}
use Rattle.lists.specs.Lists.{count, tabulate}
use Rattle.shell.proofs.Level.{IsUse, uses_low}
use Rattle.shell.proofs.Turned.{both_ways, edge_uses}
use Rattle.shell.specs.Conditions.{alike_to, condition, uses_of}

-- a number of the list that passes the test
record Some (q : ℕ → Bool) (us : List ℕ) : Type 0 where
  it : ℕ
  passes : q it ≡ true
  stands : 0 < count (eqb it) us

some : (q : ℕ → Bool) (us : List ℕ) → 0 < count q us → Some q us
unfolding count
some q [] h = absurd (omega arith)
some q (u ∷ us) h =
    ⊎_elim
    (λ (r : q u ≡ true). record { it = u; passes = r; stands = omega (arith, bit_one u u refl) })
    (λ (r : q u ≡ false).
    let s = some q us (omega (arith, rw r at h)) in
    record { it = s.it; passes = s.passes; stands = omega (arith, s.stands) })
    (cases (q u))

none : (q : ℕ → Bool) (us : List ℕ) → count q us ≡ 0 → (u : ℕ) → 0 < count (eqb u) us → q u ≡ false
none q us h u s = ⊎_elim (λ (r : q u ≡ true). absurd (omega (arith, count_passes q u r us))) (λ (r : q u ≡ false). r) (cases (q u))

all_stands : (P : ℕ → Type 0) (us : List ℕ) → All P us → (u : ℕ) → 0 < count (eqb u) us → P u
unfolding count
all_stands P [] h u s = absurd (omega arith)
all_stands P (v ∷ us) h u s =
    ⊎_elim
    (λ (r : eqb u v ≡ true). rw (eqb-true u v r) h.0)
    (λ (r : eqb u v ≡ false). all_stands P us h.1 u (omega (arith, rw r at s)))
    (cases (eqb u v))

-- the uses of an edge are those along and those reversed
edge_both : (us : List ℕ) → All (λ (u : ℕ). u < 65536) us → (e : ℕ) → e < 1024 → uses_of us e ≡ alike_to us e + alike_to us (32768 + e)
unfolding alike_to
edge_both us h e l =
    let c : e + 32768 ≡ 32768 + e = omega arith in
    rw c at (edge_uses us h e (omega arith))

-- what `odd_of` writes of an edge is odd exactly if the number of its uses is
pub tally_odd : (us : List ℕ) (t : Tally) (n e : ℕ) → Tallied us t → e < n → n ≤ 1024 → All (λ (u : ℕ). u < 65536) us
    → get_or (odds_in t n) e 0 / 16 % 2 ≡ uses_of us e % 2
tally_odd us t n e s l room h =
    let f : ℕ → ℕ = λ (k : ℕ). 16 * (state_of t k % 2) in
    let p = get_or-append (tabulate n f) (replicate (1024 - length (tabulate n f)) 0) 0 e (omega (arith, length_tabulate n f)) in
    omega (arith, p, get_d_tabulate n f e 0 l, (s.state e (omega arith)).odd, edge_both us h e (omega arith))

module _ (us : List ℕ) (t : Tally) (n : ℕ) (s : Tallied us t) (uses : All (IsUse n) us) (room : n ≤ 1024) where
  both : (e : ℕ) → e < 1024 → uses_of us e ≡ alike_to us e + alike_to us (32768 + e)
  both e l = edge_both us (uses_low n us uses) e l

  -- what an edge makes of the condition, and whether its uses are odd: the answer is at most each, and not below what all reach
  abbrev worst : ℕ → ℕ
  worst e = edge_worst (alike_to us e) (alike_to us (32768 + e))

  abbrev closed : ℕ → ℕ
  closed e = 3 - state_of t e % 2

  low : (e : ℕ) → e < 1024 → condition_in t n ≤ worst e
  low e l = omega (arith, s.worst, least_le worst 1024 e l)

  low_odd : (e : ℕ) → e < n → condition_in t n ≤ 3 - (alike_to us e + alike_to us (32768 + e)) % 2
  low_odd e l = omega (arith, least_le closed n e l, (s.state e (omega arith)).odd)

  high : (m : ℕ) → m ≤ 3 → ((e : ℕ) → e < 1024 → m ≤ worst e) → ((e : ℕ) → e < n → m ≤ 3 - (alike_to us e + alike_to us (32768 + e)) % 2) → m ≤ condition_in t n
  high m b h k =
      omega (arith, s.worst, least_ge worst m 1024 b h, least_ge closed m n b (λ e l. omega (arith, k e l, (s.state e (omega arith)).odd)))

  -- a use of the list
  module _ (u : ℕ) (stands : 0 < count (eqb u) us) where
    is_use : IsUse n u
    is_use = all_stands (IsUse n) us uses u stands

    used : 1 ≤ uses_of us (edge_number u)
    used = omega (arith, both_ways us (uses_low n us uses) u is_use.0)

  -- some edge has three or more
  three_uses : 0 < count (λ (u : ℕ). leb 3 (uses_of us (edge_number u))) us → condition_in t n ≡ 0
  three_uses h =
      let m = some (λ (u : ℕ). leb 3 (uses_of us (edge_number u))) us h in
      let e = edge_number m.it in
      let l : e < 1024 = omega (arith, (is_use m.it m.stands).1) in
      let z = worst_three (alike_to us e) (alike_to us (32768 + e)) (omega (arith, both e l, leb-true 3 (uses_of us e) m.passes)) in
      omega (arith, low e l, z)

  -- a use of an edge that has uses
  user : (e : ℕ) → 0 < uses_of us e → Some (λ (u : ℕ). eqb (edge_number u) e) us
  unfolding uses_of
  user e h = some (λ (u : ℕ). eqb (edge_number u) e) us h

  -- what holds of the edges of the uses, in numbers, holds of every edge with uses
  every : (q : ℕ → Bool) → count (λ (u : ℕ). q (uses_of us (edge_number u))) us ≡ 0 → (e : ℕ) → 0 < uses_of us e → q (uses_of us e) ≡ false
  every q z e h =
      let m = user e h in
      let p = eqb-true (edge_number m.it) e m.passes in
      rw p at (none (λ (u : ℕ). q (uses_of us (edge_number u))) us z m.it m.stands)

  module _ (z : count (λ (u : ℕ). leb 3 (uses_of us (edge_number u))) us ≡ 0) where
    few : (e : ℕ) → e < 1024 → alike_to us e + alike_to us (32768 + e) < 3
    few e l =
        ⊎_elim
        (λ (r : ltb 0 (uses_of us e) ≡ true). omega (arith, both e l, leb-false 3 (uses_of us e) (every (leb 3) z e (ltb-true 0 (uses_of us e) r))))
        (λ (r : ltb 0 (uses_of us e) ≡ false). omega (arith, both e l, ltb-false 0 (uses_of us e) r))
        (cases (ltb 0 (uses_of us e)))

    -- two uses alike
    two_alike : 0 < count (λ (u : ℕ). leb 2 (alike_to us u)) us → condition_in t n ≡ 1
    two_alike h =
        let m = some (λ (u : ℕ). leb 2 (alike_to us u)) us h in
        let u = m.it in
        let e = edge_number u in
        let i = is_use u m.stands in
        let l : e < 1024 = omega (arith, i.1) in
        let twice = leb-true 2 (alike_to us u) m.passes in
        let least = high 1 (omega arith) (λ k l. worst_few (alike_to us k) (alike_to us (32768 + k)) (few k l)) (λ k l. omega arith) in
        ⊎_elim
        (λ (r : leb 32768 u ≡ true).
        let p : u ≡ 32768 + e = omega (arith, i.0, leb-true 32768 u r) in
        omega (arith, least, low e l, twice_back (alike_to us e) (alike_to us (32768 + e)) (few e l) (rw p at twice)))
        (λ (r : leb 32768 u ≡ false).
        let p : u ≡ e = omega (arith, leb-false 32768 u r) in
        omega (arith, least, low e l, twice_along (alike_to us e) (alike_to us (32768 + e)) (few e l) (rw p at twice)))
        (cases (leb 32768 u))

  module _ (y : count (λ (u : ℕ). leb 2 (alike_to us u)) us ≡ 0) where
    single : (u : ℕ) → alike_to us u < 2
    unfolding alike_to
    single u =
        ⊎_elim
        (λ (r : ltb 0 (alike_to us u) ≡ true).
        leb-false 2 (alike_to us u) (none (λ (v : ℕ). leb 2 (alike_to us v)) us y u (ltb-true 0 (alike_to us u) r)))
        (λ (r : ltb 0 (alike_to us u) ≡ false). omega (arith, ltb-false 0 (alike_to us u) r))
        (cases (ltb 0 (alike_to us u)))

    fine : (e : ℕ) → worst e ≡ 3
    fine e = worst_none (alike_to us e) (alike_to us (32768 + e)) (single e) (single (32768 + e))

    -- every used edge has two
    module _ (h : count (λ (u : ℕ). ltb (uses_of us (edge_number u)) 2) us ≡ 0) where
      even : (e : ℕ) → e < n → 3 ≤ 3 - (alike_to us e + alike_to us (32768 + e)) % 2
      even e l =
          ⊎_elim
          (λ (r : ltb 0 (uses_of us e) ≡ true).
          omega (arith, both e (omega arith), single e, single (32768 + e), ltb-false (uses_of us e) 2 (every (λ (k : ℕ). ltb k 2) h e (ltb-true 0 (uses_of us e) r))))
          (λ (r : ltb 0 (uses_of us e) ≡ false). omega (arith, both e (omega arith), ltb-false 0 (uses_of us e) r))
          (cases (ltb 0 (uses_of us e)))

      paired : condition_in t n ≡ 3
      paired = omega (arith, high 3 (omega arith) (λ e l. omega (arith, fine e)) even, least_top closed n)

    -- some used edge has one
    alone : 0 < count (λ (u : ℕ). ltb (uses_of us (edge_number u)) 2) us → condition_in t n ≡ 2
    alone h =
        let m = some (λ (u : ℕ). ltb (uses_of us (edge_number u)) 2) us h in
        let e = edge_number m.it in
        let l = (is_use m.it m.stands).1 in
        let p : alike_to us e + alike_to us (32768 + e) ≡ 1 = omega (arith, both e (omega arith), ltb-true (uses_of us e) 2 m.passes, used m.it m.stands) in
        omega (arith, p, low_odd e l, high 2 (omega arith) (λ k l. omega (arith, fine k)) (λ k l. omega arith))

  pub tally_condition : condition_in t n ≡ condition us
  unfolding condition
  tally_condition =
      let p = count (λ (u : ℕ). leb 3 (uses_of us (edge_number u))) us in
      let q = count (λ (u : ℕ). leb 2 (alike_to us u)) us in
      let r = count (λ (u : ℕ). ltb (uses_of us (edge_number u)) 2) us in
      ⊎_elim
      (λ (a : ltb 0 p ≡ true). rw a (three_uses (ltb-true 0 p a)))
      (λ (a : ltb 0 p ≡ false).
      ⊎_elim
      (λ (b : ltb 0 q ≡ true). rw (a, b) (two_alike (omega (arith, ltb-false 0 p a)) (ltb-true 0 q b)))
      (λ (b : ltb 0 q ≡ false).
      let y : q ≡ 0 = omega (arith, ltb-false 0 q b) in
      ⊎_elim
      (λ (c : eqb 0 r ≡ true). rw (a, b, c) (paired y (sym (eqb-true 0 r c))))
      (λ (c : eqb 0 r ≡ false). rw (a, b, c) (alone y (positive r (eqb-false 0 r c))))
      (cases (eqb 0 r)))
      (cases (ltb 0 q)))
      (cases (ltb 0 p))
    where
      positive : (k : ℕ) → (0 ≡ k → ⊥) → 0 < k
      positive zero h = absurd (h refl)
      positive (suc k) h = omega arith
