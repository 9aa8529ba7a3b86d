-- A Closed shell has no openings: every used edge has two uses, so none of them is free.
use Rattle.std.specs.Prelude.{None}
use Prim.Native.Nat.{◌%◌, suc, zero, ℕ}
use mathlib.Core.Bool.{Bool, false, true}
use mathlib.Core.List.{List, [], ◌∷◌}
use mathlib.Core.Path.{◌≡◌, refl, sym}
use native.Mathlib.Omega.{arith}
use lib.Dec.{eqb, leb, ltb}
use lib.ListN.{get_or, replicate}
use borrow.Author.Tests.{eqb-true, leb-false, ltb-false, ne_eqb}
use Rattle.edge.specs.Uses.{edge_number}
use Rattle.lists.proofs.Count.{all_each}
use Rattle.lists.proofs.Parts.{all_place, none_counted, only_none}
use Rattle.lists.specs.Lists.{count, pick}
use Rattle.shell.proofs.Held.{get_empty}
use Rattle.shell.specs.Conditions.{alike_to, condition, uses_of}
use Rattle.shell.specs.Openings.{Kept, first_start, free_uses, is_free, keep, walk, walk_of}

closed_picked : (a b c : Bool) → pick {A = ℕ} a 0 (pick b 1 (pick c 3 2)) ≡ 3 → (a ≡ false) × (c ≡ true)
closed_picked true b c h = absurd (omega arith)
closed_picked false true c h = absurd (omega arith)
closed_picked false false true h = (refl, refl)
closed_picked false false false h = absurd (omega arith)

-- no use is free
closed_free : (us : List ℕ) → condition us ≡ 3 → free_uses us ≡ []
unfolding condition free_uses
closed_free us h =
    let more : ℕ → Bool = λ (u : ℕ). leb 3 (uses_of us (edge_number u)) in
    let less : ℕ → Bool = λ (u : ℕ). ltb (uses_of us (edge_number u)) 2 in
    let s = closed_picked (ltb 0 (count more us)) (ltb 0 (count (λ (u : ℕ). leb 2 (alike_to us u)) us)) (eqb 0 (count less us)) h in
    let few = none_counted more us (omega (arith, ltb-false 0 (count more us) s.0)) in
    let two = none_counted less us (sym (eqb-true 0 (count less us) s.1)) in
    only_none (is_free us) us
    (all_each (λ (u : ℕ). is_free us u ≡ false) 0 us
    (λ k l.
    let u = get_or us k 0 in
    let n = uses_of us (edge_number u) in
    let high = leb-false 3 n (all_place (λ (v : ℕ). more v ≡ false) 0 us few k l) in
    let low = ltb-false n 2 (all_place (λ (v : ℕ). less v ≡ false) 0 us two k l) in
    ne_eqb (n % 2) 1 (λ e. omega (arith, high, low, e))))

module _ (front back : ℕ → ℕ) where
  -- where nothing is kept
  first_bare : (us : List ℕ) (kept : Kept) → ((p : ℕ) → get_or kept p None ≡ None) → first_start front back us kept ≡ None
  unfolding first_start
  first_bare [] kept h = refl
  first_bare (u ∷ us) kept h = rw (h (front u)) (first_bare us kept h)

  walk_bare : (d : ℕ) (us : List ℕ) (kept : Kept) (n : ℕ) → ((p : ℕ) → get_or kept p None ≡ None) → walk front back d us kept n ≡ record { openings = []; kept = kept; lookups = n }
  unfolding walk
  walk_bare zero us kept n h = refl
  walk_bare (suc d) us kept n h = rw (first_bare us kept h)

  pub closed_walk : (points : ℕ) (us : List ℕ) → condition us ≡ 3 → walk_of front back points us ≡ record { openings = []; kept = replicate points None; lookups = 0 }
  unfolding keep
  closed_walk points us h = rw (closed_free us h) (walk_bare points us (replicate points None) 0 (get_empty points))
