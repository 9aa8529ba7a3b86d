-- Members have the same label exactly if a chain of links joins them. For labels given by any function that a link changes in the same way.
use Prim.Native.Nat.{◌<◌, suc, zero, ℕ}
use mathlib.Core.Bool.{Bool, false, true, true≢false}
use mathlib.Core.List.{List, Memᴰ, [], ◌++◌, ◌∷◌, append_assoc, append-nil, map}
use mathlib.Core.Logic.{◌⊎◌, inl, inr, ⊎_elim}
use mathlib.Core.Path.{◌∙◌, ◌≡◌, ap, refl, sym}
use native.Mathlib.Nat.{le_of_suc-le-suc, not-suc-le-zero}
use native.Mathlib.Omega.{arith}
use lib.Dec.{eqb}
use lib.ListN.{get_or, length, length-map}
use borrow.Author.Tests.{eq-eqb, eqb-true}
use Rattle.groups.specs.Groups.{Inside, Link, Linked, Means, against, along, every, here, labelled, labels, merged, one_group, renamed, same_group}
use Rattle.lists.proofs.Flat.{get_d_tabulate}
use Rattle.lists.proofs.Laws.{cases, left_true, length_tabulate, right_true}
use Rattle.lists.specs.Lists.{tabulate}

-- what holds at each place of a list holds of each that stands in it
pub of_each : {A : Type 0} (P : A → Type 0) (d : A) (xs : List A) → ((k : ℕ) → k < length xs → P (get_or xs k d)) → (x : A) → Memᴰ x xs → P x
of_each P d [] h x m = absurd (mathlib.Core.List.Memᴰ.not-nil m)
of_each P d (y ∷ ys) h x m =
    let rest = of_each P d ys (λ k l. h (suc k) (omega arith)) x in
    ⊎_elim (λ (e : x ≡ y). rw e (h 0 (omega arith))) rest (mathlib.Core.List.Memᴰ.cases_cons m)

module _ {L : List Link} where
  pub chain : {x y z : ℕ} → Linked L x y → Linked L y z → Linked L x z
  chain here q = q
  chain (along l m p) q = along l m (chain p q)
  chain (against l m p) q = against l m (chain p q)

  pub back : {x y : ℕ} → Linked L x y → Linked L y x
  back here = here
  back (along l m p) = chain (back p) (against l m here)
  back (against l m p) = chain (back p) (along l m here)

  pub more : (M : List Link) {x y : ℕ} → Linked L x y → Linked (L ++ M) x y
  more M here = here
  more M (along l m p) = along l (mathlib.Core.List.Memᴰ.append_left M m) (more M p)
  more M (against l m p) = against l (mathlib.Core.List.Memᴰ.append_left M m) (more M p)

-- f' makes the groups of p and q one, and leaves the others
pub record Merges (n : ℕ) (f f' : ℕ → ℕ) (p q : ℕ) : Type 0 where
  pub kept : (x y : ℕ) → x < n → y < n → f x ≡ f y → f' x ≡ f' y
  pub met : f' p ≡ f' q
  pub only : (x y : ℕ) → x < n → y < n → f' x ≡ f' y → (f x ≡ f y) ⊎ (((f x ≡ f p) ⊎ (f x ≡ f q)) × ((f y ≡ f p) ⊎ (f y ≡ f q)))

module _ (n : ℕ) (L : List Link) (f f' : ℕ → ℕ) (k : Link) (ha : k.a < n) (hb : k.b < n) (m : Means n L f) (r : Merges n f f' k.a k.b) where
  -- every link joins members of one value
  link_same : (l : Link) → Memᴰ l (L ++ (k ∷ [])) → ((l.a < n) × (l.b < n)) × (f' l.a ≡ f' l.b)
  link_same l h =
      ⊎_elim
      (λ (o : Memᴰ l L). let i = m.inside l o in
      (i, r.kept l.a l.b i.0 i.1 (m.same l.a l.b i.0 i.1 (along l o here))))
      (λ (o : Memᴰ l (k ∷ [])). let e : l ≡ k = mathlib.Core.List.Memᴰ.eq_of_singleton o in rw e ((ha, hb), r.met))
      (mathlib.Core.List.Memᴰ.append_cases L h)

  linked_same : {x y : ℕ} → Linked (L ++ (k ∷ [])) x y → f' x ≡ f' y
  linked_same here = refl
  linked_same (along l h p) = (link_same l h).1 ∙ linked_same p
  linked_same (against l h p) = sym (link_same l h).1 ∙ linked_same p

  to_end : (x : ℕ) → x < n → (f x ≡ f k.a) ⊎ (f x ≡ f k.b) → Linked (L ++ (k ∷ [])) x k.a
  to_end x h o =
      ⊎_elim
      (λ e. more (k ∷ []) (m.linked x k.a h ha e))
      (λ e. chain (more (k ∷ []) (m.linked x k.b h hb e)) (against k (mathlib.Core.List.Memᴰ.append_right L (mathlib.Core.List.Memᴰ.head refl)) here))
      o

  -- one more link
  pub means_next : Means n (L ++ (k ∷ [])) f'
  means_next = record {
    inside = λ l h. (link_same l h).0;
    linked = λ i j hi hj e. ⊎_elim
        (λ o. more (k ∷ []) (m.linked i j hi hj o))
        (λ o. chain (to_end i hi o.0) (back (to_end j hj o.1)))
        (r.only i j hi hj e);
    same = λ i j hi hj p. linked_same p;
  }

pub means_none : (n : ℕ) (f : ℕ → ℕ) → ((i : ℕ) → i < n → f i ≡ i) → Means n [] f
means_none n f h = record {
  inside = λ l o. absurd (mathlib.Core.List.Memᴰ.not-nil o);
  linked = λ i j hi hj e. let o : i ≡ j = sym (h i hi) ∙ e ∙ h j hj in rw o here;
  same = λ i j hi hj p. ap f (equal p);
}
  where
    equal : {x y : ℕ} → Linked [] x y → x ≡ y
    equal here = refl
    equal (along l o p) = absurd (mathlib.Core.List.Memᴰ.not-nil o)
    equal (against l o p) = absurd (mathlib.Core.List.Memᴰ.not-nil o)

renamed_cases : (s b u : ℕ) → ((u ≡ s) × (renamed s b u ≡ b)) ⊎ (renamed s b u ≡ u)
renamed_cases s b u =
    ⊎_elim (λ (e : eqb u s ≡ true). inl (eqb-true u s e, rw e)) (λ (e : eqb u s ≡ false). inr (rw e)) (cases (eqb u s))

pub renamed_from : (s b : ℕ) → renamed s b s ≡ b
renamed_from s b = rw (eq-eqb s s refl)

renamed_to : (s b : ℕ) → renamed s b b ≡ b
renamed_to s b = ⊎_elim (λ e. e.1) (λ e. e) (renamed_cases s b b)

-- the value of q is renamed to that of p
pub merges_renamed : (n : ℕ) (f f' : ℕ → ℕ) (p q : ℕ) → p < n → q < n → ((x : ℕ) → x < n → f' x ≡ renamed (f q) (f p) (f x)) → Merges n f f' p q
merges_renamed n f f' p q hp hq h = record {
  kept = λ x y hx hy e. rw (h x hx, h y hy, e);
  met = rw (h p hp, h q hq, renamed_to (f q) (f p), renamed_from (f q) (f p));
  only = λ x y hx hy e. go x y (sym (h x hx) ∙ e ∙ h y hy) (renamed_cases (f q) (f p) (f x)) (renamed_cases (f q) (f p) (f y));
}
  where
    go : (x y : ℕ) → renamed (f q) (f p) (f x) ≡ renamed (f q) (f p) (f y)
        → ((f x ≡ f q) × (renamed (f q) (f p) (f x) ≡ f p)) ⊎ (renamed (f q) (f p) (f x) ≡ f x)
        → ((f y ≡ f q) × (renamed (f q) (f p) (f y) ≡ f p)) ⊎ (renamed (f q) (f p) (f y) ≡ f y)
        → (f x ≡ f y) ⊎ (((f x ≡ f p) ⊎ (f x ≡ f q)) × ((f y ≡ f p) ⊎ (f y ≡ f q)))
    go x y e (inl s) (inl t) = inl (s.0 ∙ sym t.0)
    go x y e (inl s) (inr t) = inr (inr s.0, inl (sym t ∙ sym e ∙ s.1))
    go x y e (inr s) (inl t) = inr (inl (sym s ∙ e ∙ t.1), inr t.0)
    go x y e (inr s) (inr t) = inl (sym s ∙ e ∙ t)

pub merges_sym : (n : ℕ) (f f' : ℕ → ℕ) (p q : ℕ) → Merges n f f' p q → Merges n f f' q p
merges_sym n f f' p q r = record {
  kept = r.kept;
  met = sym r.met;
  only = λ x y hx hy e. ⊎_elim (λ o. inl o) (λ o. inr (swap o.0, swap o.1)) (r.only x y hx hy e);
}
  where
    swap : {A B : Type 0} → A ⊎ B → B ⊎ A
    swap (inl u) = inr u
    swap (inr u) = inl u

pub merges_none : (n : ℕ) (f : ℕ → ℕ) (p q : ℕ) → f p ≡ f q → Merges n f f p q
merges_none n f p q e = record { kept = λ x y hx hy o. o; met = e; only = λ x y hx hy o. inl o }

-- ---- the labels
get_d_map : (g : ℕ → ℕ) (ls : List ℕ) (i : ℕ) → i < length ls → get_or (map g ls) i 0 ≡ g (get_or ls i 0)
get_d_map g [] i h = absurd (not-suc-le-zero h)
get_d_map g (l ∷ ls) zero h = refl
get_d_map g (l ∷ ls) (suc i) h = get_d_map g ls i (le_of_suc-le-suc h)

labelled_means : (n : ℕ) (L M : List Link) (ls : List ℕ) → length ls ≡ n → Inside n (L ++ M) → Means n L (λ (i : ℕ). get_or ls i 0)
    → Means n (L ++ M) (λ (i : ℕ). get_or (labelled ls M) i 0)
unfolding labelled
labelled_means n L [] ls e i m = rw (append-nil L) m
labelled_means n L (k ∷ M) ls e i m =
    let h = i k (mathlib.Core.List.Memᴰ.append_right L (mathlib.Core.List.Memᴰ.head refl)) in
    let f : ℕ → ℕ = λ (x : ℕ). get_or ls x 0 in
    let f' : ℕ → ℕ = λ (x : ℕ). get_or (merged ls k) x 0 in
    rw (append_assoc L (k ∷ []) M) at
    (labelled_means n (L ++ (k ∷ [])) M (merged ls k) (length-map ls (renamed (f k.b) (f k.a)) ∙ e) (rw (append_assoc L (k ∷ []) M) i)
    (means_next n L f f' k h.0 h.1 m
    (merges_renamed n f f' k.a k.b h.0 h.1 (λ x hx. get_d_map (renamed (f k.b) (f k.a)) ls x (rw e hx)))))

pub labels_mean : (n : ℕ) (L : List Link) → Inside n L → Means n L (λ (i : ℕ). get_or (labels n L) i 0)
labels_mean n L i =
    labelled_means n [] L (tabulate n (λ (k : ℕ). k)) (length_tabulate n (λ (k : ℕ). k)) i
    (means_none n (λ (i : ℕ). get_or (tabulate n (λ (k : ℕ). k)) i 0) (λ i h. get_d_tabulate n (λ (k : ℕ). k) i 0 h))

-- in the same group exactly if linked
module _ (n : ℕ) (L : List Link) (inside : Inside n L) (i j : ℕ) (hi : i < n) (hj : j < n) where
  pub same_linked : same_group n L i j ≡ true → Linked L i j
  same_linked e = (labels_mean n L inside).linked i j hi hj (eqb-true (get_or (labels n L) i 0) (get_or (labels n L) j 0) e)

  pub linked_same_group : Linked L i j → same_group n L i j ≡ true
  linked_same_group p = eq-eqb (get_or (labels n L) i 0) (get_or (labels n L) j 0) ((labels_mean n L inside).same i j hi hj p)

every_says : (q : ℕ → Bool) (ps : List ℕ) → every q ps ≡ true → (x : ℕ) → Memᴰ x ps → q x ≡ true
unfolding every
every_says q [] h x m = absurd (mathlib.Core.List.Memᴰ.not-nil m)
every_says q (p ∷ ps) h x m =
    let rest = every_says q ps (right_true (q p) (every q ps) h) x in
    ⊎_elim (λ (e : x ≡ p). rw e (left_true (q p) (every q ps) h)) rest (mathlib.Core.List.Memᴰ.cases_cons m)

says_every : (q : ℕ → Bool) (ps : List ℕ) → ((x : ℕ) → Memᴰ x ps → q x ≡ true) → every q ps ≡ true
unfolding every
says_every q [] h = refl
says_every q (p ∷ ps) h = rw (h p (mathlib.Core.List.Memᴰ.head refl), says_every q ps (λ x m. h x (mathlib.Core.List.Memᴰ.tail m)))

every_fails : (q : ℕ → Bool) (ps : List ℕ) → every q ps ≡ false → (x : ℕ) × Memᴰ x ps × (q x ≡ false)
unfolding every
every_fails q [] h = absurd (true≢false h)
every_fails q (p ∷ ps) h =
    ⊎_elim
    (λ (t : q p ≡ true). let r = every_fails q ps (rw t at h) in (r.0, mathlib.Core.List.Memᴰ.tail r.1, r.2))
    (λ (t : q p ≡ false). (p, mathlib.Core.List.Memᴰ.head refl, t))
    (cases (q p))

-- in one group exactly if every two are linked
module _ (n : ℕ) (L : List Link) (inside : Inside n L) where
  pub one_group_linked : (ps : List ℕ) → ((x : ℕ) → Memᴰ x ps → x < n) → one_group n L ps ≡ true
      → (x y : ℕ) → Memᴰ x ps → Memᴰ y ps → Linked L x y
  unfolding one_group
  one_group_linked [] below h x y mx my = absurd (mathlib.Core.List.Memᴰ.not-nil mx)
  one_group_linked (p ∷ ps) below h x y mx my = chain (back (first x mx)) (first y my)
    where
      first : (z : ℕ) → Memᴰ z (p ∷ ps) → Linked L p z
      first z m =
          ⊎_elim
          (λ (e : z ≡ p). rw e here)
          (λ o. same_linked n L inside p z (below p (mathlib.Core.List.Memᴰ.head refl)) (below z m) (every_says (same_group n L p) ps h z o))
          (mathlib.Core.List.Memᴰ.cases_cons m)

  pub linked_one_group : (ps : List ℕ) → ((x : ℕ) → Memᴰ x ps → x < n)
      → ((x y : ℕ) → Memᴰ x ps → Memᴰ y ps → Linked L x y) → one_group n L ps ≡ true
  unfolding one_group
  linked_one_group [] below h = refl
  linked_one_group (p ∷ ps) below h =
      let o = mathlib.Core.List.Memᴰ.head refl in
      says_every (same_group n L p) ps
      (λ x m. linked_same_group n L inside p x (below p o) (below x (mathlib.Core.List.Memᴰ.tail m)) (h p x o (mathlib.Core.List.Memᴰ.tail m)))

  -- in several groups: two are not linked
  pub several_groups : (ps : List ℕ) → ((x : ℕ) → Memᴰ x ps → x < n) → one_group n L ps ≡ false
      → (x : ℕ) × (y : ℕ) × Memᴰ x ps × Memᴰ y ps × (Linked L x y → ⊥)
  unfolding one_group
  several_groups [] below h = absurd (true≢false h)
  several_groups (p ∷ ps) below h =
      let r = every_fails (same_group n L p) ps h in
      let o = mathlib.Core.List.Memᴰ.head refl in (
        p,
        r.0,
        o,
        mathlib.Core.List.Memᴰ.tail r.1,
        λ q.
            true≢false (sym (linked_same_group n L inside p r.0 (below p o) (below r.0 (mathlib.Core.List.Memᴰ.tail r.1)) q) ∙ r.2),
      )
