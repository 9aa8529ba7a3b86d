-- The uses that are not free cancel: as many free uses begin as end at every point.
use Prim.Native.Nat.{◌%◌, ◌+◌, ◌<◌, ◌≤◌, suc, zero, ℕ}
use mathlib.Core.Bool.{Bool, false, not, true}
use mathlib.Core.List.{List, [], map}
use mathlib.Core.Logic.{⊎_elim}
use mathlib.Core.Path.{◌∙◌, ◌≡◌, refl, sym}
use native.Mathlib.Omega.{arith}
use lib.Dec.{eqb, leb, ltb}
use lib.ListN.{length}
use borrow.Author.Tests.{eqb-false, leb-false, ltb-false, ltb-true, ne_eqb}
use Rattle.edge.specs.Edges.{back_number, front_number}
use Rattle.edge.specs.Uses.{back_of, edge_number, front_of, turned}
use Rattle.lists.proofs.Alike.{count_alike, count_both, count_passes}
use Rattle.lists.proofs.Count.{All, all_only, all_weaker, count_halves, count_map, count_none, count_only, count_same}
use Rattle.lists.proofs.Laws.{cases}
use Rattle.lists.proofs.Marks.{AllBelow}
use Rattle.lists.specs.Lists.{count, only, pick}
use Rattle.pattern.specs.Checks.{content_faults}
use Rattle.pattern.specs.Contents.{Content}
use Rattle.shell.proofs.Level.{Level, shell_fine, uses_low}
use Rattle.shell.proofs.Turned.{both_ways, turned_count, turned_edge, turned_eqb, turned_low}
use Rattle.shell.specs.Conditions.{alike_to, condition, uses_of}
use Rattle.shell.specs.Openings.{back_in, free_uses, front_in, is_free}
use Rattle.shell.specs.Shells.{shell_uses}

-- Oriented or Closed: no use stands twice
pub once_each : (us : List ℕ) → 2 ≤ condition us → (u : ℕ) → count (eqb u) us ≤ 1
unfolding condition alike_to
once_each us h u =
    let q : ℕ → Bool = λ (v : ℕ). leb 2 (count (eqb v) us) in
    let none = ltb-false 0 (count q us) (second (ltb 0 (count (λ (v : ℕ). leb 3 (uses_of us (edge_number v))) us)) (ltb 0 (count q us)) _ h) in
    ⊎_elim
    (λ (e : leb 2 (count (eqb u) us) ≡ true). omega (arith, none, count_passes q u e us))
    (λ (e : leb 2 (count (eqb u) us) ≡ false). omega (arith, leb-false 2 (count (eqb u) us) e))
    (cases (leb 2 (count (eqb u) us)))
  where
    second : (a b : Bool) (x : ℕ) → 2 ≤ pick a 0 (pick b 1 x) → b ≡ false
    second true b x h = absurd (omega arith)
    second false true x h = absurd (omega arith)
    second false false x h = refl

even_pair : (a b n : ℕ) → n ≡ a + b → a ≤ 1 → b ≤ 1 → (n % 2 ≡ 1 → ⊥) → a ≡ b
even_pair zero zero n e x y odd = refl
even_pair zero (suc b) n e x y odd = absurd (odd (omega arith))
even_pair (suc a) zero n e x y odd = absurd (odd (omega arith))
even_pair (suc a) (suc b) n e x y odd = omega arith

-- the uses of a shell that is Oriented or Closed
module _ (us : List ℕ) (low : All (λ (u : ℕ). u < 65536) us) (once : (u : ℕ) → count (eqb u) us ≤ 1) where
  -- those that are not free
  abbrev bound : List ℕ
  bound = only (λ (u : ℕ). not (is_free us u)) us

  bound_low : All (λ (u : ℕ). u < 65536) bound
  bound_low = all_only (λ (u : ℕ). u < 65536) (λ (u : ℕ). not (is_free us u)) us low

  bound_count : (u : ℕ) → count (eqb u) bound ≡ pick (not (is_free us u)) (count (eqb u) us) 0
  bound_count u = count_only (eqb u) (λ (v : ℕ). not (is_free us v)) us ∙ count_both (λ (v : ℕ). not (is_free us v)) u us

  -- each comes with its turned one
  paired : (u : ℕ) → u < 65536 → count (eqb (turned u)) bound ≡ count (eqb u) bound
  paired u l =
      rw (bound_count (turned u), bound_count u, turned_edge u l) (go (is_free us u) (λ e. eqb-false (uses_of us (edge_number u) % 2) 1 e))
    where
      go : (b : Bool) → (b ≡ false → uses_of us (edge_number u) % 2 ≡ 1 → ⊥) → pick (not b) (count (eqb (turned u)) us) 0 ≡ pick (not b) (count (eqb u) us) 0
      go true odd = refl
      go false odd =
          sym (even_pair (count (eqb u) us) (count (eqb (turned u)) us) (uses_of us (edge_number u)) (both_ways us low u l) (once u) (once (turned u)) (odd refl))

  -- so turning them all changes nothing
  turned_same : (x : ℕ) → count (eqb x) (map turned bound) ≡ count (eqb x) bound
  turned_same x =
      count_map (eqb x) turned bound
      ∙ ⊎_elim
      (λ (e : ltb x 65536 ≡ true).
      let l = ltb-true x 65536 e in
      count_same (λ (u : ℕ). eqb x (turned u)) (eqb (turned x)) bound
      (all_weaker (λ (u : ℕ). u < 65536) (λ (u : ℕ). eqb x (turned u) ≡ eqb (turned x) u) (λ u h. turned_eqb x u l h) bound bound_low)
      ∙ paired x l)
      (λ (e : ltb x 65536 ≡ false).
      let l = ltb-false x 65536 e in
      count_none (λ (u : ℕ). eqb x (turned u)) bound
      (all_weaker (λ (u : ℕ). u < 65536) (λ (u : ℕ). eqb x (turned u) ≡ false)
      (λ u h. ne_eqb x (turned u) (λ f. omega (arith, f, turned_low u h, l))) bound bound_low)
      ∙ sym (count_none (eqb x) bound (all_weaker (λ (u : ℕ). u < 65536) (λ (u : ℕ). eqb x u ≡ false) (λ u h. ne_eqb x u (λ f. omega (arith, f, h, l))) bound bound_low)))
      (cases (ltb x 65536))

  pub free_level : (fronts backs : List ℕ) → Level fronts backs us → Level fronts backs (free_uses us)
  unfolding free_uses
  free_level fronts backs level p =
      let from : ℕ → Bool = λ (u : ℕ). eqb (front_of fronts backs u) p in
      let to : ℕ → Bool = λ (u : ℕ). eqb (back_of fronts backs u) p in
      omega (
        arith,
        level p,
        count_halves from (is_free us) us,
        count_halves to (is_free us) us,
        count_only from (is_free us) us,
        count_only to (is_free us) us,
        count_only from (λ (u : ℕ). not (is_free us u)) us,
        count_only to (λ (u : ℕ). not (is_free us u)) us,
        count_alike (map turned bound) bound turned_same from,
        turned_count fronts backs p bound bound_low,
      )

-- as many free uses begin as end at every point
pub balanced : (c : Content) → content_faults c ≡ [] → AllBelow 65536 c.uses → (n : ℕ) → 2 ≤ condition (shell_uses c n) → (p : ℕ)
    → count (λ (u : ℕ). eqb (front_in c u) p) (free_uses (shell_uses c n)) ≡ count (λ (u : ℕ). eqb (back_in c u) p) (free_uses (shell_uses c n))
balanced c ok small n good =
    let f = shell_fine c ok small n in
    free_level (shell_uses c n) (uses_low (length c.edges) (shell_uses c n) f.named) (once_each (shell_uses c n) good)
    (map front_number c.edges) (map back_number c.edges) f.level
