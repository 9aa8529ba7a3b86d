-- The fewest places that read back.
use Rattle.std.proofs.Common.{◌≡◌, ℕ, zero, suc, ◌+◌, ◌-◌, ◌%◌, ◌<◌, ◌≤◌, true, false, ◌&&◌, eqb, ltb, leb, sym, ◌∙◌, ⊎_elim, add-one, arith, ltb-true, le-ltb, lt-ltb, eqb-true, le-leb, leb-true}
use mathlib.Core.Bool.{and-false}
use borrow.Author.Tests.{lt-leb}
use Rattle.decimals.specs.Decimals.{is_negative, nearest_bits, places_from, reads_back, scaled}
use Rattle.lists.proofs.Laws.{cases, left_true, right_true}

module _ (bits k : ℕ) where
  pub too_large : 0x412e848000000000 < bits % 0x8000000000000000 → false ≡ reads_back bits k
  unfolding reads_back
  too_large h = rw (lt-leb (bits % 0x8000000000000000) 0x412e848000000000 h)

  pub too_long : (m : ℕ) → m ≡ scaled bits k → 1000000000000000 ≤ m → false ≡ reads_back bits k
  unfolding reads_back
  too_long m e h =
      let g : 1000000000000000 ≤ scaled bits k = rw e at h in
      rw (le-ltb (scaled bits k) 1000000000000000 g, and-false (leb (bits % 0x8000000000000000) 0x412e848000000000))

  pub compared : (m r : ℕ) → bits % 0x8000000000000000 ≤ 0x412e848000000000 → m ≡ scaled bits k → m < 1000000000000000
      → r ≡ nearest_bits (is_negative bits) m k → eqb r bits ≡ reads_back bits k
  unfolding reads_back
  compared m r h e l n =
      let g : scaled bits k < 1000000000000000 = rw e at l in
      rw (n, e, le-leb (bits % 0x8000000000000000) 0x412e848000000000 h, lt-ltb (scaled bits k) 1000000000000000 g)

  -- what is known where the decimal reads back
  pub record Back : Type 0 where
    pub small : bits % 0x8000000000000000 ≤ 0x412e848000000000
    pub short : scaled bits k < 1000000000000000
    pub same : nearest_bits (is_negative bits) (scaled bits k) k ≡ bits

  pub back_of_lem : reads_back bits k ≡ true → Back
  unfolding reads_back
  back_of_lem h =
      let a = leb (bits % 0x8000000000000000) 0x412e848000000000 in
      let b = ltb (scaled bits k) 1000000000000000 in
      let c = eqb (nearest_bits (is_negative bits) (scaled bits k) k) bits in
      let g = left_true (a && b) c h in
      record {
        small = leb-true (bits % 0x8000000000000000) 0x412e848000000000 (left_true a b g);
        short = ltb-true (scaled bits k) 1000000000000000 (right_true a b g);
        same = eqb-true (nearest_bits (is_negative bits) (scaled bits k) k) bits (right_true (a && b) c h);
      }

-- the loop has passed k places
abbrev pub Passed : ℕ → ℕ → Type 0
Passed bits k = (k ≤ 10) × (places_from bits 10 0 ≡ places_from bits (10 - k) k)

module _ (bits k : ℕ) (p : Passed bits k) where
  pub passed_next : k < 10 → reads_back bits k ≡ false → Passed bits (k + 1)
  unfolding places_from
  passed_next h e =
      let s : 10 - k ≡ suc (10 - (k + 1)) = omega arith in
      (omega arith, p.1 ∙ rw (s, e, add-one k))

  pub passed_here : k < 10 → reads_back bits k ≡ true → k ≡ places_from bits 10 0
  unfolding places_from
  passed_here h e =
      let s : 10 - k ≡ suc (10 - (k + 1)) = omega arith in
      sym (p.1 ∙ rw (s, e))

  pub passed_all : 10 ≤ k → 10 ≡ places_from bits 10 0
  unfolding places_from
  passed_all h =
      let s : 10 - k ≡ 0 = omega arith in
      let z : k ≡ 10 = omega arith in
      sym (p.1 ∙ rw s z)

-- fewer places than the tries go to read back
pub found_back : (bits d k : ℕ) → places_from bits d k < k + d → reads_back bits (places_from bits d k) ≡ true
unfolding places_from
found_back bits zero k h = absurd (omega arith)
found_back bits (suc d) k h =
    ⊎_elim
    (λ (e : reads_back bits k ≡ true). rw e e)
    (λ (e : reads_back bits k ≡ false). let g : places_from bits d (suc k) < k + suc d = rw e at h in rw e (found_back bits d (suc k) (omega arith)))
    (cases (reads_back bits k))

pub found : (bits k : ℕ) → k ≡ places_from bits 10 0 → k < 10 → Back bits k
found bits k e h = back_of_lem bits k (rw e (found_back bits 10 0 (rw e at h)))
