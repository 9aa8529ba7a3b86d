-- Groups of two kinds of members: where the links of each go over into chains of the other, both are one group or neither is.
use Prim.Native.Nat.{ℕ}
use mathlib.Core.Bool.{Bool, false, true, true≢false}
use mathlib.Core.List.{List, Memᴰ, [], ◌∷◌}
use mathlib.Core.Logic.{⊎_elim}
use mathlib.Core.Path.{◌≡◌, refl, sym}
use Rattle.groups.proofs.Alike.{Under}
use Rattle.groups.proofs.Meaning.{back, chain, linked_one_group, one_group_linked}
use Rattle.groups.specs.Groups.{Inside, Link, Linked, against, along, here, link, links, one_group}
use Rattle.lists.proofs.Count.{All}

-- what holds of every element holds of each that stands in the list
pub all_member {ℓ} : {A : Type ℓ} (P : A → Type 0) (xs : List A) → All P xs → (x : A) → Memᴰ x xs → P x
all_member P [] h x m = absurd (mathlib.Core.List.Memᴰ.not-nil m)
all_member P (y ∷ ys) h x m = ⊎_elim (λ (e : x ≡ y). rw e h.0) (λ (o : Memᴰ x ys). all_member P ys h.1 x o) (mathlib.Core.List.Memᴰ.cases_cons m)

-- the ends of a link stand in the lists that it is of
pub of_links : (xs ys : List ℕ) (l : Link) → Memᴰ l (links xs ys) → Memᴰ l.a xs × Memᴰ l.b ys
unfolding links
of_links [] ys l m = absurd (mathlib.Core.List.Memᴰ.not-nil m)
of_links (x ∷ xs) [] l m = absurd (mathlib.Core.List.Memᴰ.not-nil m)
of_links (x ∷ xs) (y ∷ ys) l m =
    ⊎_elim
    (λ (e : l ≡ link x y). rw e (mathlib.Core.List.Memᴰ.head refl, mathlib.Core.List.Memᴰ.head refl))
    (λ (o : Memᴰ l (links xs ys)). let r = of_links xs ys l o in (mathlib.Core.List.Memᴰ.tail r.0, mathlib.Core.List.Memᴰ.tail r.1))
    (mathlib.Core.List.Memᴰ.cases_cons m)

-- a member x of the first is h x in the second; every link of the first is then a chain of the second
abbrev pub Carries : (ℕ → ℕ) → List Link → List Link → Type 0
Carries h L L' = (l : Link) → Memᴰ l L → Linked L' (h l.a) (h l.b)

carried : {L L' : List Link} (h : ℕ → ℕ) → Carries h L L' → {x y : ℕ} → Linked L x y → Linked L' (h x) (h y)
carried h c here = here
carried h c (along l m p) = chain (c l m) (carried h c p)
carried h c (against l m p) = chain (back (c l m)) (carried h c p)

-- every one of ps' is linked with one that comes from ps
abbrev pub Meets : (ℕ → ℕ) → List ℕ → List Link → List ℕ → Type 0
Meets h ps L' ps' = (y : ℕ) → Memᴰ y ps' → (x : ℕ) × Memᴰ x ps × Linked L' (h x) y

-- links between n members, and some of the members
pub record Side (n : ℕ) (L : List Link) (ps : List ℕ) : Type 0 where
  pub inside : Inside n L
  pub under : Under n ps

one_group_goes : (n n' : ℕ) (L L' : List Link) (ps ps' : List ℕ) → Side n L ps → Side n' L' ps' → (h : ℕ → ℕ) → Carries h L L' → Meets h ps L' ps'
    → one_group n L ps ≡ true → one_group n' L' ps' ≡ true
one_group_goes n n' L L' ps ps' s s' h c m e =
    linked_one_group n' L' s'.inside ps' s'.under
    (λ y z my mz.
    let r = m y my in
    let q = m z mz in
    chain (back r.2) (chain (carried h c (one_group_linked n L s.inside ps s.under e r.0 q.0 r.1 q.1)) q.2))

both_ways : (b b' : Bool) → (b ≡ true → b' ≡ true) → (b' ≡ true → b ≡ true) → b ≡ b'
both_ways true b' f g = sym (f refl)
both_ways false true f g = absurd (true≢false (sym (g refl)))
both_ways false false f g = refl

pub one_group_kept : (n n' : ℕ) (L L' : List Link) (ps ps' : List ℕ) → Side n L ps → Side n' L' ps' → (h g : ℕ → ℕ)
    → Carries h L L' → Carries g L' L → Meets h ps L' ps' → Meets g ps' L ps → one_group n L ps ≡ one_group n' L' ps'
one_group_kept n n' L L' ps ps' s s' h g c c' m m' =
    both_ways (one_group n L ps) (one_group n' L' ps') (one_group_goes n n' L L' ps ps' s s' h c m) (one_group_goes n' n L' L ps' ps s' s g c' m')
