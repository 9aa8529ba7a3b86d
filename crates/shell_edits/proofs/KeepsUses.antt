-- Laws of halved uses: by cases, in one wire, in a wire turned, and in all wires of a shell.
use Prim.Native.Nat.{◌+◌, ◌<◌, ◌≤◌, ℕ}
use mathlib.Core.Bool.{Bool, ◌||◌, false, true, true≢false}
use mathlib.Core.List.{List, [], ◌++◌, ◌∷◌, map, map-append, reverse, reverse-append, reverse-cons}
use mathlib.Core.Logic.{⊎_elim}
use mathlib.Core.Path.{◌∙◌, ◌≡◌, ap, refl, sym}
use native.Mathlib.Omega.{arith}
use lib.Dec.{eqb, leb}
use borrow.Author.Tests.{eq-eqb, eqb-true, le-leb, leb-false, leb-true, lt-leb}
use Rattle.edge.specs.Uses.{edge_number, turned}
use Rattle.lists.proofs.Count.{All, all_weaker}
use Rattle.lists.proofs.Laws.{cases, eqb_sym, flat_append, has_append}
use Rattle.lists.proofs.Parts.{flat_one}
use Rattle.lists.specs.Lists.{flat, has, pick}
use Rattle.shell.proofs.Turned.{turned_edge}
use Rattle.shell.specs.Shells.{shown_wire}
use Rattle.shell_edits.proofs.Cut.{cut_first, has_edge}
use Rattle.shell_edits.specs.Edits.{halves_of}
use Rattle.shell_edits.specs.Keeps.{halve, halved}

-- ---- lists

-- all made by f, of lists that stand one after the other
pub flat_made : {A B : Type 0} (f : A → List B) (xss : List (List A)) → flat (map (λ (xs : List A). flat (map f xs)) xss) ≡ flat (map f (flat xss))
unfolding flat
flat_made f [] = refl
flat_made f (xs ∷ xss) = rw (flat_made f xss, map-append f xs (flat xss)) (sym (flat_append (map f xs) (map f (flat xss))))

pub flat_map : {A B : Type 0} (f : A → B) (xss : List (List A)) → flat (map (map f) xss) ≡ map f (flat xss)
unfolding flat
flat_map f [] = refl
flat_map f (xs ∷ xss) = rw (flat_map f xss, map-append f xs (flat xss))

-- a claim of every element of two lists
all_parted : {A : Type 0} (P : A → Type 0) (xs ys : List A) → All P (xs ++ ys) → All P xs × All P ys
all_parted P [] ys h = (tt, h)
all_parted P (x ∷ xs) ys h = let r = all_parted P xs ys h.1 in ((h.0, r.0), r.1)

-- and of all that f makes
pub all_made : {A B : Type 0} (P : B → Type 0) (f : A → List B) (xs : List A) → All P (flat (map f xs)) → All (λ (x : A). All P (f x)) xs
unfolding flat
all_made P f [] h = tt
all_made P f (x ∷ xs) h = let r = all_parted P (f x) (flat (map f xs)) h in (r.0, all_made P f xs r.1)

-- two claims of every element
pub all_both {ℓ} : {A : Type ℓ} (P Q : A → Type 0) (xs : List A) → All P xs → All Q xs → All (λ (x : A). P x × Q x) xs
all_both P Q [] h k = tt
all_both P Q (x ∷ xs) h k = ((h.0, k.0), all_both P Q xs h.1 k.1)

-- what f makes of a list in reverse order with every use turned, where f makes that of each use
reverse_made : (f : ℕ → List ℕ) (us : List ℕ) → All (λ (u : ℕ). f (turned u) ≡ map turned (reverse (f u))) us
    → map turned (reverse (flat (map f us))) ≡ flat (map f (map turned (reverse us)))
unfolding flat
reverse_made f [] h = refl
reverse_made f (u ∷ us) h =
    let made = flat (map f us) in
    let shown : List ℕ = map turned (reverse us) in
    let left : map turned (reverse (f u ++ made)) ≡ flat (map f shown) ++ f (turned u) =
    ap (map turned) (reverse-append (f u) made)
    ∙ map-append turned (reverse made) (reverse (f u))
    ∙ rw (reverse_made f us h.1, h.0) in
    let right : flat (map f (map turned (reverse (u ∷ us)))) ≡ flat (map f shown) ++ f (turned u) =
    ap (λ (r : List ℕ). flat (map f (map turned r))) (reverse-cons u us)
    ∙ ap (λ (r : List ℕ). flat (map f r)) (map-append turned (reverse us) (u ∷ []))
    ∙ ap flat (map-append f shown (turned u ∷ []))
    ∙ flat_append (map f shown) (f (turned u) ∷ [])
    ∙ ap (λ (r : List ℕ). flat (map f shown) ++ r) (flat_one (f (turned u))) in
    left ∙ sym right

-- ---- edge e, and its halves a and a + 1
module _ (e a : ℕ) where
  -- without a use of the edge nothing changes
  halved_none : (us : List ℕ) → has_edge e us ≡ false → halved e a us ≡ us
  unfolding has flat
  halved_none [] h = refl
  halved_none (u ∷ us) h =
      ⊎_elim
      (λ (is : eqb e (edge_number u) ≡ true). let no : true ≡ false = rw is at h in absurd (true≢false no))
      (λ (is : eqb e (edge_number u) ≡ false). let rest : has_edge e us ≡ false = rw is at h in rw (eqb_sym (edge_number u) e, is, halved_none us rest))
      (cases (eqb e (edge_number u)))

  -- the wire with its first use of the edge cut, if the edge is then in it no more
  pub cut_halved : (us : List ℕ) → has_edge e (cut_first e a us) ≡ false → cut_first e a us ≡ halved e a us
  unfolding cut_first has flat
  cut_halved [] h = refl
  cut_halved (u ∷ us) h =
      ⊎_elim
      (λ (is : eqb (edge_number u) e ≡ true).
      let parted : has_edge e (halves_of a u ++ us) ≡ false = rw is at h in
      rw (is, halved_none us (second (has_edge e (halves_of a u)) (has_edge e us) (sym (has_append e (map edge_number (halves_of a u)) (map edge_number us)) ∙ ap (has e) (sym (map-append edge_number (halves_of a u) us)) ∙ parted))))
      (λ (is : eqb (edge_number u) e ≡ false).
      let rest : has_edge e (cut_first e a us) ≡ false = rw (is, eqb_sym e (edge_number u), is) at h in
      rw (is, cut_halved us rest))
      (cases (eqb (edge_number u) e))
    where
      second : (x y : Bool) → (x || y) ≡ false → y ≡ false
      second true y h = absurd (true≢false h)
      second false y h = h

  module _ (inside : e < a) (few : a + 2 ≤ 32768) where
    -- a use that is not of the edge; the edge's use; its use reversed
    pub by_kind : (P : ℕ → List ℕ → Type 0) (u : ℕ) → u < 65536 → (eqb (edge_number u) e ≡ false → P u (u ∷ [])) → P e (a ∷ (a + 1) ∷ [])
        → P (e + 32768) ((a + 1 + 32768) ∷ (a + 32768) ∷ []) → P u (halve e a u)
    by_kind P u low other plain reversed =
        ⊎_elim
        (λ (is : eqb (edge_number u) e ≡ true).
        let of = eqb-true (edge_number u) e is in
        ⊎_elim
        (λ (r : leb 32768 u ≡ true).
        let z : u ≡ e + 32768 = omega (arith, of, leb-true 32768 u r) in
        let x : turned (a + 1) ≡ a + 1 + 32768 = rw (lt-leb 32768 (a + 1) (omega arith)) in
        let y : turned a ≡ a + 32768 = rw (lt-leb 32768 a (omega arith)) in
        rw (is, r, x, y, z) reversed)
        (λ (r : leb 32768 u ≡ false). let z : u ≡ e = omega (arith, of, leb-false 32768 u r) in rw (is, r, z) plain)
        (cases (leb 32768 u)))
        (λ (is : eqb (edge_number u) e ≡ false). rw is (other is))
        (cases (eqb (edge_number u) e))

    -- turned, the halves are those of the use turned
    halve_turned : (u : ℕ) → u < 65536 → halve e a (turned u) ≡ map turned (reverse (halve e a u))
    halve_turned u low =
        by_kind (λ (v : ℕ) (hs : List ℕ). halve e a (turned v) ≡ map turned (reverse hs)) u low
        (λ is. let same : eqb (edge_number (turned u)) e ≡ false = ap (λ (k : ℕ). eqb k e) (turned_edge u low) ∙ is in rw same)
        (let x : turned e ≡ e + 32768 = rw (lt-leb 32768 e (omega arith)) in
        let is : eqb (edge_number (e + 32768)) e ≡ true = eq-eqb (edge_number (e + 32768)) e (omega arith) in
        rw (x, is, le-leb 32768 (e + 32768) (omega arith)))
        (let x : turned (e + 32768) ≡ e = rw (le-leb 32768 (e + 32768) (omega arith)) (omega arith) in
        let is : eqb (edge_number e) e ≡ true = eq-eqb (edge_number e) e (omega arith) in
        let y : turned (a + 32768) ≡ a = rw (le-leb 32768 (a + 32768) (omega arith)) (omega arith) in
        let w : turned (a + 1 + 32768) ≡ a + 1 = rw (le-leb 32768 (a + 1 + 32768) (omega arith)) (omega arith) in
        rw (x, is, lt-leb 32768 e (omega arith), y, w))

    -- so the wire that a listing shows is halved as the wire is
    pub shown_halved : (l : ℕ) (us : List ℕ) → All (λ (u : ℕ). u < 65536) us → shown_wire l (halved e a us) ≡ halved e a (shown_wire l us)
    shown_halved l us low = go (leb 32768 l)
      where
        go : (b : Bool) → pick b (map turned (reverse (halved e a us))) (halved e a us) ≡ halved e a (pick b (map turned (reverse us)) us)
        go true = reverse_made (halve e a) us (all_weaker (λ (u : ℕ). u < 65536) (λ (u : ℕ). halve e a (turned u) ≡ map turned (reverse (halve e a u))) halve_turned us low)
        go false = refl
