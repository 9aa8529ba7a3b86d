-- The two results of a cut: what is stored, and the answers case by case.
use Prim.Native.Nat.{◌*◌, ◌+◌, ◌-◌, ◌<◌, ◌≤◌, ℕ}
use mathlib.Core.Bool.{◌&&◌, false, true}
use mathlib.Core.List.{List, [], ◌++◌, ◌∷◌, append_assoc, append-nil, map, reverse}
use mathlib.Core.Path.{◌∙◌, ◌≡◌, ap, refl}
use native.Mathlib.Nat.{sub-zero}
use native.Mathlib.Omega.{arith}
use lib.Dec.{leb}
use lib.ListN.{drop, length, length-append, length-drop, set, take}
use lib.Seq.{drop_at, length-take-le, sets, sets-eq, take_all, take_at}
use borrow.Author.Tests.{le-leb, lt-leb}
use Rattle.cut_face_results.specs.Results.{Cut, cut_after, cut_two, keeps, outcome}
use Rattle.edge.specs.Uses.{turned}
use Rattle.edit_answers.specs.declared.FaceEditError.{FaceEditError}
use Rattle.edit_answers.specs.declared.FaceEditError.TheVariants.{FaceRule, NoSpace}
use Rattle.face_edits.specs.FaceEdits.{first_of, keeps_rule, second_of}
use Rattle.listing.proofs.Laws.{turned_keeps}
use Rattle.lists.proofs.Sets.{sets_then}
use Rattle.lists.specs.Lists.{flat}
use Rattle.std.specs.Prelude.{Err, Ok, Result}

-- ---- what is stored
module _ (along us out : List ℕ) (k : ℕ) (h : k ≤ length along) where
  first_long : length (first_of along k us) ≡ k + length us
  unfolding first_of
  first_long = omega (arith, length-append (take k along) us, length-take-le k along h)

  second_long : length (second_of along k us) ≡ length along - k + length us
  unfolding second_of
  second_long = omega (arith, length-append (drop k along) (map turned (reverse us)), length-drop k along, turned_keeps us)

  pub both_long : length (first_of along k us ++ second_of along k us) ≡ length along + 2 * length us
  both_long = omega (arith, length-append (first_of along k us) (second_of along k us), first_long, second_long)

  module _ {out₁ out₂ out₃ out₄ : List ℕ} (e₁ : out₁ ≡ sets out 0 (take (k - 0) along)) (e₂ : out₂ ≡ sets out₁ k us)
      (e₃ : out₃ ≡ sets out₂ (k + length us) (take (length along - k) (drop k along)))
      (e₄ : out₄ ≡ sets out₃ (length along + length us) (map turned (reverse us))) where
    pub two_stored : out₄ ≡ sets out 0 (first_of along k us ++ second_of along k us)
    unfolding first_of second_of
    two_stored =
        let rest = drop k along in
        let l : length rest ≡ length along - k = length-drop k along in
        let t : length (take k along) ≡ k = length-take-le k along h in
        let s₂ = sets_then out 0 (take k along) us k (omega (arith, t)) (e₁ ∙ rw (sub-zero k)) e₂ in
        let f = length-append (take k along) us in
        let s₃ = sets_then out 0 (take k along ++ us) rest (k + length us) (omega (arith, f, t)) s₂ (e₃ ∙ ap (sets out₂ (k + length us)) (take_all (length along - k) rest (omega (arith, l)))) in
        let g = length-append (take k along ++ us) rest in
        let s₄ = sets_then out 0 (take k along ++ us ++ rest) (map turned (reverse us)) (length along + length us) (omega (arith, f, g, t, l)) s₃ e₄ in
        s₄ ∙ ap (sets out 0) (append_assoc (take k along ++ us) rest (map turned (reverse us)))

-- the parts of a list that is stored at the start of another
module _ (l xs : List ℕ) (h : length xs ≤ length l) where
  stored_is : sets l 0 xs ≡ xs ++ drop (length xs) l
  stored_is = let z : 0 + length xs ≡ length xs = omega arith in sets-eq xs l 0 (omega arith) ∙ rw z

  pub stored_all : (n : ℕ) → length xs ≡ n → take n (sets l 0 xs) ≡ xs
  stored_all n e = rw stored_is (take_at xs (drop (length xs) l) n e)

module _ (l xs ys : List ℕ) (h : length (xs ++ ys) ≤ length l) (n m : ℕ) (e : length xs ≡ n) (f : length ys ≡ m) where
  two_stored_is : sets l 0 (xs ++ ys) ≡ xs ++ (ys ++ drop (length (xs ++ ys)) l)
  two_stored_is = stored_is l (xs ++ ys) h ∙ append_assoc xs ys (drop (length (xs ++ ys)) l)

  stored_first : take n (sets l 0 (xs ++ ys)) ≡ xs
  stored_first = rw two_stored_is (take_at xs (ys ++ drop (length (xs ++ ys)) l) n e)

  stored_second : take m (drop n (sets l 0 (xs ++ ys))) ≡ ys
  stored_second =
      let d : drop n (xs ++ (ys ++ drop (length (xs ++ ys)) l)) ≡ ys ++ drop (length (xs ++ ys)) l = drop_at xs (ys ++ drop (length (xs ++ ys)) l) n e in
      rw (two_stored_is, d) (take_at ys (drop (length (xs ++ ys)) l) m f)

-- ---- the answer, and what the lent lists hold then
abbrev pub Owes : Cut → Result (ℕ × ℕ) FaceEditError → List ℕ → List ℕ → List ℕ → List ℕ → Type 0
Owes c r uses uses' lens lens' = (r ≡ c.answer) × ((uses' ≡ sets uses 0 (flat c.out)) × (lens' ≡ sets lens 0 (map length c.out)))

module _ (fronts backs : List ℕ) where
  module _ (first second uses lens : List ℕ) where
    abbrev two : Cut
    two = cut_two fronts backs first second (length uses) (length lens)

    flat_is : flat (first ∷ second ∷ []) ≡ first ++ second
    unfolding flat
    flat_is = rw (append-nil second) refl

    flat_long : length (flat (first ∷ second ∷ [])) ≡ length first + length second
    flat_long = ap length flat_is ∙ length-append first second

    pub two_broken : false ≡ (keeps fronts backs first && keeps fronts backs second) → Owes two (Err FaceRule) uses uses lens lens
    unfolding cut_two outcome flat
    two_broken e = rw (← e) (refl, (refl, refl))

    module _ (e : true ≡ (keeps fronts backs first && keeps fronts backs second)) where
      pub two_long : length uses < length first + length second → Owes two (Err NoSpace) uses uses lens lens
      unfolding cut_two outcome flat
      two_long l = rw (← e, lt-leb (length (flat (first ∷ second ∷ []))) (length uses) (omega (arith, flat_long, l))) (refl, (refl, refl))

      module _ (g : length first + length second ≤ length uses) where
        fit : leb (length (flat (first ∷ second ∷ []))) (length uses) ≡ true
        fit = le-leb (length (flat (first ∷ second ∷ []))) (length uses) (omega (arith, flat_long, g))

        pub two_few : length lens < 2 → Owes two (Err NoSpace) uses uses lens lens
        unfolding cut_two outcome flat
        two_few l = rw (← e, fit, lt-leb 2 (length lens) l) (refl, (refl, refl))

        pub two_written : 2 ≤ length lens → (uses₁ uses₂ : List ℕ) → uses₁ ≡ sets uses 0 first → uses₂ ≡ sets uses₁ (length first) second
            → Owes two (Ok (length first + length second, 2)) uses uses₂ lens (set (set lens 0 (length first)) 1 (length second))
        unfolding cut_two outcome
        two_written l uses₁ uses₂ u v = rw (← e, fit, le-leb 2 (length lens) l, flat_long, flat_is) (refl, (sets_then uses 0 first second (length first) (omega arith) u v, refl))

  -- ---- an outline that begins at the wire's back
  module _ (along us uses lens : List ℕ) where
    pub after_long : (k : ℕ) → keeps_rule fronts backs (first_of along k us ∷ []) ≡ false
        → Owes (cut_after fronts backs along k us (length uses) (length lens)) (Err FaceRule) uses uses lens lens
    unfolding cut_after cut_two outcome flat
    after_long k e = rw e (refl, (refl, refl))

-- ---- the results as they stand in an array
module _ (along us l : List ℕ) (k : ℕ) (h : k ≤ length along) (g : length along + 2 * length us ≤ length l) (both : List ℕ)
    (e : both ≡ sets l 0 (first_of along k us ++ second_of along k us)) where
  fits : length (first_of along k us ++ second_of along k us) ≤ length l
  fits = omega (arith, both_long along us l k h)

  pub first_made : take (k + length us) both ≡ first_of along k us
  first_made =
      let m = length along + 2 * length us - (k + length us) in
      rw e (stored_first l (first_of along k us) (second_of along k us) fits (k + length us) m (first_long along us l k h) (omega (arith, second_long along us l k h)))

  pub second_made : take (length along + 2 * length us - (k + length us)) (drop (k + length us) both) ≡ second_of along k us
  second_made =
      let m = length along + 2 * length us - (k + length us) in
      rw e (stored_second l (first_of along k us) (second_of along k us) fits (k + length us) m (first_long along us l k h) (omega (arith, second_long along us l k h)))
