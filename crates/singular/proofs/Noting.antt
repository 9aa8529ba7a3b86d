-- What is noted at a point: the root of the first member there, and whether another has another root.
use Prim.Native.Nat.{◌+◌, ◌<◌, ◌≤◌, ℕ}
use mathlib.Core.Bool.{Bool, ◌&&◌, and_assoc, and-false, and-true, false, not, true}
use mathlib.Core.List.{List, [], ◌++◌, ◌∷◌, append_assoc, append-nil}
use mathlib.Core.Logic.{⊎_elim}
use mathlib.Core.Path.{◌∙◌, ◌≡◌, ap, refl, sym}
use native.Mathlib.Numerals.{add-one}
use native.Mathlib.Omega.{arith}
use lib.Dec.{eqb}
use lib.ListN.{drop, drop_of_length-le, get_or, get_or-replicate, length, length-replicate, length-set, replicate, set}
use lib.Seq.{drop-cons, get_or-set_other, get_or-set_same}
use borrow.Author.Tests.{eq-eqb, eqb-false, eqb-true, ne_eqb}
use Rattle.edge.specs.Uses.{back_of, front_of}
use Rattle.groups.specs.Forest.{has_root, one_root, root_of}
use Rattle.groups.specs.Groups.{every}
use Rattle.lists.proofs.Count.{All}
use Rattle.lists.proofs.Laws.{cases}
use Rattle.lists.specs.Lists.{flat, pick}
use Rattle.shell.specs.Singular.{ends_at, first_end, last_end}
use Rattle.singular.specs.Noted.{Noted, Unmarked, also_noted, none_noted, noted, notes, use_noted, uses_noted}

-- ---- one root at one point, by cases
module _ (roots : List ℕ) (several : List Bool) (p r : ℕ) where
  pub noted_first : get_or roots p 0 ≡ 65535 → noted roots several p r ≡ record { roots = set roots p r; several = several }
  unfolding noted
  noted_first e = rw (eq-eqb (get_or roots p 0) 65535 e)

  pub noted_same : (get_or roots p 0 ≡ 65535 → ⊥) → get_or roots p 0 ≡ r → noted roots several p r ≡ record { roots = roots; several = several }
  unfolding noted
  noted_same n e = rw (ne_eqb (get_or roots p 0) 65535 n, eq-eqb (get_or roots p 0) r e)

  pub noted_other : (get_or roots p 0 ≡ 65535 → ⊥) → (get_or roots p 0 ≡ r → ⊥) → noted roots several p r ≡ record { roots = roots; several = set several p true }
  unfolding noted
  noted_other n e = rw (ne_eqb (get_or roots p 0) 65535 n, ne_eqb (get_or roots p 0) r e)

  noted_by : (P : Noted → Type 0) → (get_or roots p 0 ≡ 65535 → P (record { roots = set roots p r; several = several }))
      → ((get_or roots p 0 ≡ 65535 → ⊥) → get_or roots p 0 ≡ r → P (record { roots = roots; several = several }))
      → ((get_or roots p 0 ≡ 65535 → ⊥) → (get_or roots p 0 ≡ r → ⊥) → P (record { roots = roots; several = set several p true }))
      → P (noted roots several p r)
  noted_by P f g h =
      ⊎_elim
      (λ e. let o = eqb-true (get_or roots p 0) 65535 e in rw (noted_first o) (f o))
      (λ e. let o = eqb-false (get_or roots p 0) 65535 e in
      ⊎_elim
      (λ t. let l = eqb-true (get_or roots p 0) r t in rw (noted_same o l) (g o l))
      (λ t. let l = eqb-false (get_or roots p 0) r t in rw (noted_other o l) (h o l))
      (cases (eqb (get_or roots p 0) r)))
      (cases (eqb (get_or roots p 0) 65535))

-- ---- the members met at point q
abbrev first_root : List ℕ → List ℕ → ℕ
first_root ps [] = 65535
first_root ps (m ∷ ms) = root_of ps m

every_append : (q : ℕ → Bool) (xs ys : List ℕ) → every q (xs ++ ys) ≡ (every q xs && every q ys)
unfolding every
every_append q [] ys = refl
every_append q (x ∷ xs) ys = rw (every_append q xs ys) (sym (and_assoc (q x) (every q xs) (every q ys)))

module _ (ps : List ℕ) (x m : ℕ) (xs : List ℕ) where
  abbrev old : Bool
  old = every (has_root ps (root_of ps x)) xs

  more : one_root ps ((x ∷ xs) ++ (m ∷ [])) ≡ (old && (has_root ps (root_of ps x) m && true))
  unfolding one_root every
  more = every_append (has_root ps (root_of ps x)) xs (m ∷ [])

  more_same : root_of ps x ≡ root_of ps m → one_root ps ((x ∷ xs) ++ (m ∷ [])) ≡ one_root ps (x ∷ xs)
  unfolding one_root
  more_same e = more ∙ rw (eq-eqb (root_of ps x) (root_of ps m) e, and-true old)

  more_other : (root_of ps x ≡ root_of ps m → ⊥) → one_root ps ((x ∷ xs) ++ (m ∷ [])) ≡ false
  more_other n = more ∙ rw (ne_eqb (root_of ps x) (root_of ps m) n, and-false old)

-- at point q: the first root there and whether there are several, of the members ms
pub record NotedAt (ps : List ℕ) (q : ℕ) (ms : List ℕ) (s : Noted) : Type 0 where
  pub long : q < length s.roots
  pub wide : q < length s.several
  pub low : first_root ps ms ≡ 65535 → length ms ≡ 0
  pub first : get_or s.roots q 0 ≡ first_root ps ms
  pub says : get_or s.several q false ≡ not (one_root ps ms)

-- nothing
pub noted_none : (ps : List ℕ) (q : ℕ) → q < 2048 → NotedAt ps q [] none_noted
unfolding one_root
noted_none ps q h = record {
  long = omega (arith, length-replicate {A = ℕ} 2048 65535);
  wide = omega (arith, length-replicate 2048 false);
  low = λ e. refl;
  first = get_or-replicate {A = ℕ} 2048 q 65535 0 h;
  says = get_or-replicate 2048 q false false h;
}

module _ (ps : List ℕ) (q : ℕ) where
  -- another point
  noted_past : (ms : List ℕ) (s : Noted) (p r : ℕ) → (q ≡ p → ⊥) → NotedAt ps q ms s → NotedAt ps q ms (also_noted s p r)
  noted_past ms s p r n h =
      noted_by s.roots s.several p r (NotedAt ps q ms)
      (λ e. record {
        long = omega (arith, h.long, length-set s.roots p r);
        wide = h.wide;
        low = h.low;
        first = get_or-set_other s.roots p q r 0 n ∙ h.first;
        says = h.says;
      })
      (λ e l. h)
      (λ e l. record {
        long = h.long;
        wide = omega (arith, h.wide, length-set s.several p true);
        low = h.low;
        first = h.first;
        says = get_or-set_other s.several p q true false n ∙ h.says;
      })

  module _ (m : ℕ) (below : root_of ps m < 65535) where
    -- one more member there
    noted_here : (ms : List ℕ) (s : Noted) → NotedAt ps q ms s → NotedAt ps q (ms ++ (m ∷ [])) (also_noted s q (root_of ps m))
    unfolding one_root every
    noted_here [] s h =
        rw (noted_first s.roots s.several q (root_of ps m) h.first)
        (record {
          long = omega (arith, h.long, length-set s.roots q (root_of ps m));
          wide = h.wide;
          low = λ e. absurd (omega (arith, e));
          first = get_or-set_same s.roots q (root_of ps m) 0 h.long;
          says = h.says;
        })
    noted_here (x ∷ xs) s h =
        noted_by s.roots s.several q (root_of ps m) (NotedAt ps q (x ∷ (xs ++ (m ∷ []))))
        (λ e. absurd (omega (arith, h.low (sym h.first ∙ e))))
        (λ e l. record {
          long = h.long;
          wide = h.wide;
          low = λ o. absurd (e (h.first ∙ o));
          first = h.first;
          says = h.says ∙ ap not (sym (more_same ps x m xs (sym h.first ∙ l)));
        })
        (λ e l. record {
          long = h.long;
          wide = omega (arith, h.wide, length-set s.several q true);
          low = λ o. absurd (e (h.first ∙ o));
          first = h.first;
          says = get_or-set_same s.several q true false h.wide ∙ ap not (sym (more_other ps x m xs (λ o. l (h.first ∙ o))));
        })

    -- at any point
    noted_next : (ms : List ℕ) (s : Noted) (p : ℕ) → NotedAt ps q ms s
        → NotedAt ps q (ms ++ pick (eqb p q) (m ∷ []) []) (also_noted s p (root_of ps m))
    noted_next ms s p h =
        ⊎_elim
        (λ (e : eqb p q ≡ true). rw (e, eqb-true p q e) (noted_here ms s h))
        (λ (e : eqb p q ≡ false). rw (e, append-nil ms) (noted_past ms s p (root_of ps m) (λ o. eqb-false p q e (sym o)) h))
        (cases (eqb p q))

-- ---- the uses
-- the roots of the use's two ends are below the number that stands for none
abbrev pub Rooted : List ℕ → ℕ → Type 0
Rooted ps u = (root_of ps (first_end u) < 65535) × (root_of ps (last_end u) < 65535)

module _ (fronts backs ps : List ℕ) (q : ℕ) where
  pub noted_uses : (us ms : List ℕ) (s : Noted) → All (Rooted ps) us → NotedAt ps q ms s
      → NotedAt ps q (ms ++ ends_at (front_of fronts backs) (back_of fronts backs) q us) (uses_noted fronts backs ps s us)
  unfolding uses_noted ends_at flat
  noted_uses [] ms s a h = rw (append-nil ms) h
  noted_uses (u ∷ us) ms s a h =
      let x = pick (eqb (front_of fronts backs u) q) (first_end u ∷ []) [] in
      let y = pick (eqb (back_of fronts backs u) q) (last_end u ∷ []) [] in
      let one = noted_next ps q (first_end u) a.0.0 ms s (front_of fronts backs u) h in
      let two = noted_next ps q (last_end u) a.0.1 (ms ++ x) (also_noted s (front_of fronts backs u) (root_of ps (first_end u))) (back_of fronts backs u) one in
      rw (append_assoc ms x y, append_assoc ms (x ++ y) (ends_at (front_of fronts backs) (back_of fronts backs) q us)) at
      (noted_uses us ((ms ++ x) ++ y) (use_noted fronts backs ps s u) a.1 two)

-- the two ends of a use, one after the other
pub two_ends : (fronts backs ps roots : List ℕ) (several : List Bool) (any : Bool) (u : ℕ) {f l p q : ℕ} {roots₁ roots₂ : List ℕ} {several₁ several₂ : List Bool} {any₁ any₂ : Bool}
    → f ≡ root_of ps (first_end u) → l ≡ root_of ps (last_end u) → p ≡ front_of fronts backs u → q ≡ back_of fronts backs u
    → (roots₁ ≡ (noted roots several p f).roots) × ((several₁ ≡ (noted roots several p f).several) × Unmarked any several any₁ several₁)
    → (roots₂ ≡ (noted roots₁ several₁ q l).roots) × ((several₂ ≡ (noted roots₁ several₁ q l).several) × Unmarked any₁ several₁ any₂ several₂)
    → (roots₂ ≡ (use_noted fronts backs ps (notes roots several) u).roots) × ((several₂ ≡ (use_noted fronts backs ps (notes roots several) u).several) × Unmarked any several any₂ several₂)
two_ends fronts backs ps roots several any u ef el ep eq n₁ n₂ = (
  rw (n₂.0, n₁.0, n₁.1.0, ef, el, ep, eq),
  (rw (n₂.1.0, n₁.0, n₁.1.0, ef, el, ep, eq), λ o. let y = n₂.1.1 o in let x = n₁.1.1 y.0 in (x.0, y.1 ∙ x.1)),
)

-- ---- the loop over the uses: i are noted, and `any` says whether a point is marked
pub record Noting (fronts backs ps uses roots : List ℕ) (several : List Bool) (any : Bool) (i : ℕ) : Type 0 where
  pub low : i ≤ length uses
  pub is : uses_noted fronts backs ps none_noted uses ≡ uses_noted fronts backs ps (notes roots several) (drop i uses)
  pub none : any ≡ false → several ≡ replicate 2048 false

module _ (fronts backs ps uses : List ℕ) where
  pub noting_start : {several : List Bool} → several ≡ replicate 2048 false → Noting fronts backs ps uses none_noted.roots several false 0
  noting_start e = record { low = omega arith; is = rw e refl; none = λ o. e }

  module _ {roots : List ℕ} {several : List Bool} {any : Bool} {i : ℕ} (s : Noting fronts backs ps uses roots several any i) where
    pub noting_next : {roots' : List ℕ} {several' : List Bool} {any' : Bool} → i < length uses
        → (roots' ≡ (use_noted fronts backs ps (notes roots several) (get_or uses i 0)).roots)
        × ((several' ≡ (use_noted fronts backs ps (notes roots several) (get_or uses i 0)).several) × Unmarked any several any' several')
        → Noting fronts backs ps uses roots' several' any' (i + 1)
    unfolding uses_noted
    noting_next h n = record {
      low = omega arith;
      is = s.is ∙ rw (n.0, n.1.0, add-one i, drop-cons {A = ℕ} uses i 0 h);
      none = λ o. let x = n.1.1 o in x.1 ∙ s.none x.0;
    }

    pub noting_all : length uses ≤ i → (several ≡ (uses_noted fronts backs ps none_noted uses).several) × (any ≡ false → several ≡ replicate 2048 false)
    unfolding uses_noted
    noting_all h =
        let e : uses_noted fronts backs ps none_noted uses ≡ notes roots several = s.is ∙ rw (drop_of_length-le uses h) in
        (sym (ap (λ (t : Noted). t.several) e), s.none)
