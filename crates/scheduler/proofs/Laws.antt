-- What the round finds.
use Prim.Native.Nat.{ℕ, zero, suc, ◌+◌, ◌-◌, ◌%◌, ◌<◌}
use mathlib.Core.List.{List}
use mathlib.Core.Path.{◌∙◌, ◌≡◌, ap, refl, subst}
use native.Mathlib.Omega.{arith}
use lib.ListN.{get_or}
use Rattle.std.specs.Prelude.{None, Option, Some}
use Rattle.scheduler.specs.Scheduler.{empty_slot, first_waiting, waiting_there}
use Rattle.scheduler.specs.declared.Job.{Job}
use Rattle.scheduler.specs.declared.Slot.{Slot}

-- ---- the round: slot e after d is looked at, as the first of n

module _ (slots : List Slot) (n d e : ℕ) (some : 0 < n) (is : e ≡ (d + 1) % 8) where
  last_but : first_waiting slots (suc (n - 1)) d ≡ first_waiting slots n d
  last_but = ap (λ (m : ℕ). first_waiting slots m d) (omega arith)

  pub passed : (get_or slots e empty_slot).waiting ≡ None → first_waiting slots (n - 1) e ≡ first_waiting slots n d
  unfolding first_waiting
  passed w =
      let step : first_waiting slots (n - 1) e ≡ first_waiting slots (suc (n - 1)) d = rw (← is, w) refl in
      step ∙ last_but

  pub found : {k : ℕ} {j : Job} → (get_or slots e empty_slot).waiting ≡ Some (k, j) → Some (e, k, j) ≡ first_waiting slots n d
  unfolding first_waiting
  found {k} {j} w =
      let step : Some (e, k, j) ≡ first_waiting slots (suc (n - 1)) d = rw (← is, w) refl in
      step ∙ last_but

pub looked_at_all : (slots : List Slot) (n d : ℕ) → n ≡ 0 → None ≡ first_waiting slots n d
unfolding first_waiting
looked_at_all slots n d e = rw e

-- ---- whose turn it is

abbrev Below : Option (ℕ × ℕ × Job) → Type 0
Below None = Unit
Below (Some (d, k, j)) = d < 8

below_there : (w : Option (ℕ × Job)) (e : ℕ) (rest : Option (ℕ × ℕ × Job)) → e < 8 → Below rest → Below (waiting_there w e rest)
below_there None e rest h later = later
below_there (Some (l, i)) e rest h later = h

all_below : (slots : List Slot) (n e : ℕ) → Below (first_waiting slots n e)
unfolding first_waiting
all_below slots zero e = tt
all_below slots (suc n) e = below_there (get_or slots ((e + 1) % 8) empty_slot).waiting ((e + 1) % 8) (first_waiting slots n ((e + 1) % 8)) (omega arith) (all_below slots n ((e + 1) % 8))

pub next_below : (slots : List Slot) (n e : ℕ) {d k : ℕ} {j : Job} → first_waiting slots n e ≡ Some (d, k, j) → d < 8
next_below slots n e q = subst Below q (all_below slots n e)
