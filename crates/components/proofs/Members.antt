-- The members of the lists that links are made of.
use Prim.Native.Nat.{◌+◌, ◌<◌, suc, zero, ℕ}
use mathlib.Core.List.{List, Memᴰ, [], ◌++◌, ◌∷◌, map, map-append}
use mathlib.Core.Logic.{⊎_elim}
use mathlib.Core.Path.{◌∙◌, ◌≡◌, ap, refl, sym}
use native.Mathlib.Nat.{le_of_suc-le-suc, not-suc-le-zero}
use native.Mathlib.Omega.{arith}
use lib.ListN.{drop, length, length-drop, length-map, length-replicate, replicate, take, take-append-drop}
use lib.Seq.{length-take-le}
use Rattle.components.specs.Pairs.{owners, use_links}
use Rattle.edge.specs.Uses.{edge_number}
use Rattle.groups.specs.Groups.{Link, link, links}
use Rattle.lists.proofs.Count.{All}
use Rattle.lists.specs.Lists.{split, sum}
use Rattle.shell.proofs.Components.{edges_of}

-- ---- the links of the code: each use links its edge with its pair
unfoldable edge_links : ℕ → List (List ℕ) → List Link
edge_links b [] = []
edge_links b (us ∷ parts) = map (λ (x : ℕ). link x b) (map edge_number us) ++ edge_links (suc b) parts

pub links_append : (xs xs' ys ys' : List ℕ) → length xs ≡ length ys → links (xs ++ xs') (ys ++ ys') ≡ links xs ys ++ links xs' ys'
unfolding links
links_append [] xs' [] ys' e = refl
links_append [] xs' (y ∷ ys) ys' e = absurd (omega arith)
links_append (x ∷ xs) xs' [] ys' e = absurd (omega arith)
links_append (x ∷ xs) xs' (y ∷ ys) ys' e = ap (λ (r : List Link). link x y ∷ r) (links_append xs xs' ys ys' (omega arith))

links_one : (xs : List ℕ) (n b : ℕ) → length xs ≡ n → links xs (replicate n b) ≡ map (λ (x : ℕ). link x b) xs
unfolding links
links_one [] n b e = refl
links_one (x ∷ xs) zero b e = absurd (omega arith)
links_one (x ∷ xs) (suc n) b e = ap (λ (r : List Link). link x b ∷ r) (links_one xs n b (omega arith))

use_links_lem : (b : ℕ) (spans uses : List ℕ) → sum spans ≡ length uses → links (map edge_number uses) (owners b spans) ≡ edge_links b (split spans uses)
unfolding owners edge_links links split sum
use_links_lem b [] [] e = refl
use_links_lem b [] (u ∷ us) e = absurd (omega arith)
use_links_lem b (n ∷ ns) uses e =
    let here = map edge_number (take n uses) in
    let long : length here ≡ n = length-map (take n uses) edge_number ∙ length-take-le n uses (omega arith) in
    let cut : map edge_number uses ≡ here ++ map edge_number (drop n uses) =
    sym (ap (map edge_number) (take-append-drop n uses)) ∙ map-append edge_number (take n uses) (drop n uses) in
    ap (λ (r : List ℕ). links r (replicate n b ++ owners (suc b) ns)) cut
    ∙ links_append here (map edge_number (drop n uses)) (replicate n b) (owners (suc b) ns) (omega (arith, long, length-replicate {A = ℕ} n b))
    ∙ (λ t. links_one here n b long t ++ use_links_lem (suc b) ns (drop n uses) (omega (arith, length-drop n uses)) t)

of_edge_links : (b : ℕ) (parts : List (List ℕ)) (l : Link) → Memᴰ l (edge_links b parts)
    → (k : ℕ) × (k < length parts) × (l.b ≡ b + k) × Memᴰ l.a (edges_of parts k)
unfolding edge_links
of_edge_links b [] l m = absurd (mathlib.Core.List.Memᴰ.not-nil m)
of_edge_links b (us ∷ parts) l m =
    let f : ℕ → Link = λ (x : ℕ). link x b in
    let es = map edge_number us in
    ⊎_elim
    (λ (o : Memᴰ l (map f es)). let r = mathlib.Core.List.Memᴰ.of_map f es o in
    (0, omega arith, sym (ap (λ (k : Link). k.b) r.2) ∙ omega arith, rw (ap (λ (k : Link). k.a) r.2) at r.1))
    (λ (o : Memᴰ l (edge_links (suc b) parts)). let r = of_edge_links (suc b) parts l o in
    (suc r.0, omega (arith, r.1), omega (arith, r.2), r.3))
    (mathlib.Core.List.Memᴰ.append_cases (map f es) m)

in_edge_links : (b : ℕ) (parts : List (List ℕ)) (k x : ℕ) → k < length parts → Memᴰ x (edges_of parts k) → Memᴰ (link x (b + k)) (edge_links b parts)
unfolding edge_links
in_edge_links b [] k x h m = absurd (not-suc-le-zero h)
in_edge_links b (us ∷ parts) zero x h m =
    let z : b + 0 ≡ b = omega arith in
    rw z (mathlib.Core.List.Memᴰ.append_left (edge_links (suc b) parts) (mathlib.Core.List.Memᴰ.map (λ (y : ℕ). link y b) m))
in_edge_links b (us ∷ parts) (suc k) x h m =
    let z : b + suc k ≡ suc b + k = omega arith in
    rw z (mathlib.Core.List.Memᴰ.append_right (map (λ (y : ℕ). link y b) (map edge_number us)) (in_edge_links (suc b) parts k x (le_of_suc-le-suc h) m))

module _ (b : ℕ) (spans uses : List ℕ) (e : sum spans ≡ length uses) where
  pub of_use_links : (l : Link) → Memᴰ l (use_links b spans uses)
      → (k : ℕ) × (k < length (split spans uses)) × (l.b ≡ b + k) × Memᴰ l.a (edges_of (split spans uses) k)
  of_use_links l m = of_edge_links b (split spans uses) l (rw (use_links_lem b spans uses e) at m)

  pub in_use_links : (k x : ℕ) → k < length (split spans uses) → Memᴰ x (edges_of (split spans uses) k) → Memᴰ (link x (b + k)) (use_links b spans uses)
  in_use_links k x h m = rw (use_links_lem b spans uses e) (in_edge_links b (split spans uses) k x h m)

-- what holds of one holds of all its copies
pub all_replicate : (P : ℕ → Type 0) (n v : ℕ) → P v → All P (replicate n v)
all_replicate P zero v h = tt
all_replicate P (suc n) v h = (h, all_replicate P n v h)
