use Rattle.std.proofs.Common.{◌≡◌, ℕ, zero, suc, ◌≤◌, length, take, drop, replicate, List, [], ◌∷◌, ◌++◌, arith, refl, ap, append-nil, length-take}
use Rattle.std.proofs.Math.ListN.{drop_of_length-le}
use Rattle.lists.proofs.Laws.{Filling, filling_next, filling_start}
use Rattle.lists.specs.Lists.{tabulate}
use Rattle.groups.proofs.start.Goals as goal

-- the first n filled, with the rest
filled : (f : ℕ → ℕ) (n i : ℕ) (xs out : List ℕ) → n ≤ length xs → Filling f (take n xs) out i → length (take n xs) ≤ i
    → out ++ drop n xs ≡ tabulate n f ++ drop n xs
filled f n i xs out h s e =
    let is : i ≡ n = omega (arith, length-take n xs, s.low) in
    let none : drop i (take n xs) ≡ [] = drop_of_length-le (take n xs) e in
    rw (s.is, none, append-nil, is) refl

tabulate_same : (n v : ℕ) → replicate n v ≡ tabulate n (λ (k : ℕ). v)
unfolding tabulate
tabulate_same zero v = refl
tabulate_same (suc n) v = ap (λ (r : List ℕ). v ∷ r) (tabulate_same n v)

pub loop-i-init : goal.loop-i-init
loop-i-init c = filling_start _ _

pub loop-i-preserved : goal.loop-i-preserved
loop-i-preserved c = filling_next (λ (k : ℕ). k) 0 _ _ _ _ c.loop-i.invariant (omega arith) refl

pub returns : goal.returns
returns c = let args = c.args in record {
  parents_after = filled _ _ _ _ _ c.requires.1.0 c.loop-i.invariant c.loop-i-test.false;
  sizes_after =
      let long : length (take args.n args.sizes.now) ≡ args.n = omega (arith, length-take args.n args.sizes.now) in
      rw (c.fill.ensures.after (λ y e. e), long, tabulate_same args.n 1) refl;
}
