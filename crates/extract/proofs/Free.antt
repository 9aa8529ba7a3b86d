-- The tally of the uses says which of them are free.
use Prim.Native.Nat.{ℕ, ◌<◌, ◌≤◌}
use mathlib.Core.List.{List, [], ◌∷◌}
use mathlib.Core.Path.{◌≡◌, ap, refl}
use native.Mathlib.Omega.{arith}
use lib.Dec.{eqb}
use lib.ListN.{get_or, length}
use Rattle.lists.proofs.Count.{All, all_at, all_weaker}
use Rattle.edge.specs.Uses.{edge_number}
use Rattle.shell.specs.Openings.{is_free}
use Rattle.shell.proofs.Level.{IsUse, uses_low}
use Rattle.condition.specs.declared.Tally.{Tally}
use Rattle.condition.specs.Tallies.{Tallied, inserted_all, odds_in}
use Rattle.condition.proofs.Laws.{tallied_none, tallied_part}
use Rattle.condition.proofs.Theorem.{tally_odd}
use Rattle.openings.specs.Passes.{is_odd}
use Rattle.extract.specs.Listings.{no_uses}

some_edge : (n : ℕ) (us : List ℕ) → All (IsUse n) us → 0 < length us → 0 < n
some_edge n [] h l = absurd (omega arith)
some_edge n (u ∷ us) h l = omega (arith, h.0.1)

-- what `openings_of` asks of the numbers that `odd_of` gives of the tally of `tally_listings`
pub tally_free : (us : List ℕ) (t : Tally) (n : ℕ) → t ≡ inserted_all no_uses us → All (IsUse n) us → n ≤ 1024 → (k : ℕ) → k < length us
    → is_odd (odds_in t n) (get_or us k 0) ≡ is_free us (get_or us k 0)
tally_free us t n e h room k l =
    let wide = all_weaker (IsUse n) (IsUse 1024) (λ u i. (i.0, omega (arith, i.1))) us h in
    let s : Tallied us t = rw e (tallied_part [] us no_uses (tallied_none no_uses refl refl) wide) in
    let edge = (all_at (IsUse n) 0 (omega arith, omega (arith, some_edge n us h (omega arith))) us h k).1 in
    ap (λ (i : ℕ). eqb i 1) (tally_odd us t n (edge_number (get_or us k 0)) s edge room (uses_low n us h))
