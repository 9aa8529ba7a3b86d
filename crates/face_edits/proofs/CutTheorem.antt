-- The two results of a cut keep the face rule; with the wire there and back they have the uses of the outline, which is the two parts one after the other, rotated.
use Prim.Native.Nat.{◌*◌, ◌+◌, ◌-◌, ◌<◌, suc, ℕ}
use mathlib.Core.Bool.{Bool, ◌&&◌, ◌||◌, or_comm, true}
use mathlib.Core.List.{List, [], ◌++◌, ◌∷◌, append-nil, map, map-append, reverse}
use mathlib.Core.Path.{◌∙◌, ◌≡◌, ap, refl, sym}
use native.Mathlib.Omega.{arith}
use lib.Dec.{eqb, ltb}
use lib.ListN.{drop, get_or, length, length-append, length-map, length-reverse, take, take-append-drop}
use lib.Seq.{get_or-take, length-take-le}
use Rattle.edge.specs.Uses.{back_of, front_of, turned}
use Rattle.edit_answers.specs.declared.FaceEditError.TheVariants.{EndsNotOnWire, FaceRule, NoSpace, NotOneWire, Unnamed}
use Rattle.errors.proofs.Laws.{none_left, none_right, unless_passes}
use Rattle.face_edits.specs.FaceEdits.{are_uses, backs_in, boundaries, cut_face_faults, ends_on, first_cut, first_of, first_point, fits, from_back, from_place, fronts_in, is_face, keeps_rule, last_point, outline_cut_faults, outline_of, second_cut, second_of, to_front, two_faults}
use Rattle.lists.proofs.Count.{count_append}
use Rattle.lists.proofs.Laws.{has_append, left_true, right_true}
use Rattle.lists.specs.Lists.{count, flat, has, unless}
use Rattle.pattern.specs.Contents.{Content}
use Rattle.shell_edits.proofs.Remove.{place}
use Rattle.shell_edits.specs.Edits.{place_in}
use Rattle.wire.specs.Wires.{end_from}

-- a list rotated has the same elements
module _ {ℓ} {A : Type ℓ} (i : ℕ) (xs : List A) where
  pub count_begun : (q : A → Bool) → count q (drop i xs ++ take i xs) ≡ count q xs
  count_begun q =
      omega (arith, count_append q (drop i xs) (take i xs), count_append q (take i xs) (drop i xs), ap (count q) (take-append-drop i xs))

  pub length_begun : length (drop i xs ++ take i xs) ≡ length xs
  length_begun =
      omega (arith, length-append (drop i xs) (take i xs), length-append (take i xs) (drop i xs), ap length (take-append-drop i xs))

pub has_begun : (p : ℕ) (f : ℕ → ℕ) (i : ℕ) (os : List ℕ) → has p (map f (drop i os ++ take i os)) ≡ has p (map f os)
has_begun p f i os =
    let a = has p (map f (take i os)) in
    let b = has p (map f (drop i os)) in
    let e : has p (map f os) ≡ (a || b) =
    ap (λ (l : List ℕ). has p (map f l)) (sym (take-append-drop i os)) ∙ ap (has p) (map-append f (take i os) (drop i os)) ∙ has_append p (map f (take i os)) (map f (drop i os)) in
    ap (has p) (map-append f (drop i os) (take i os)) ∙ has_append p (map f (drop i os)) (map f (take i os)) ∙ or_comm b a ∙ sym e

-- a face with one wire has its uses
pub flat_only {ℓ} : {A : Type ℓ} (ws : List (List A)) → length ws ≡ 1 → flat ws ≡ get_or ws 0 []
unfolding flat
flat_only [] h = absurd (omega arith)
flat_only (w ∷ []) h = append-nil w
flat_only (w ∷ v ∷ ws) h = absurd (omega arith)

-- an outline cut in two results, each a part of it and the wire. The parts are the outline from place `at` on, where it begins at the wire's back; the first ends at the wire's front
pub record Parts (fronts backs os us first second : List ℕ) : Type 0 where
  pub part : List ℕ
  pub rest : List ℕ
  pub first_is : first ≡ part ++ us
  pub second_is : second ≡ rest ++ map turned (reverse us)
  pub at : ℕ
  pub inside : at < length os
  pub turns : part ++ rest ≡ from_place at os
  pub begins : front_of fronts backs (get_or os at 0) ≡ last_point fronts backs us
  pub some : 0 < length part
  pub ends : back_of fronts backs (get_or part (length part - 1) 0) ≡ first_point fronts backs us

module _ (fs bs os us : List ℕ) where
  abbrev along : List ℕ
  along = from_back fs bs os us

  abbrev n : ℕ
  n = to_front fs bs along us

  turned_long : length (map turned (reverse us)) ≡ length us
  turned_long = length-map (reverse us) turned ∙ length-reverse us

  pub uses_kept : (q : ℕ → Bool) → count q (first_cut fs bs os us) + count q (second_cut fs bs os us) ≡ count q os + (count q us + count q (map turned (reverse us)))
  unfolding first_of second_of
  uses_kept q =
      omega (
        arith,
        count_append q (take n along) us,
        count_append q (drop n along) (map turned (reverse us)),
        count_append q (take n along) (drop n along),
        ap (count q) (take-append-drop n along),
        count_begun (place_in (end_from bs fs 0 (last_point fs bs us) os)) os q,
      )

  pub lengths_kept : length (first_cut fs bs os us) + length (second_cut fs bs os us) ≡ length os + 2 * length us
  unfolding first_of second_of
  lengths_kept =
      omega (
        arith,
        length-append (take n along) us,
        length-append (drop n along) (map turned (reverse us)),
        length-append (take n along) (drop n along),
        ap length (take-append-drop n along),
        length_begun (place_in (end_from bs fs 0 (last_point fs bs us) os)) os,
        turned_long,
      )

  pub parts : ends_on fs bs os us ≡ true → Parts fs bs os us (first_cut fs bs os us) (second_cut fs bs os us)
  unfolding first_of second_of
  parts h =
      let last = has (last_point fs bs us) (map (front_of fs bs) os) in
      let first = has (first_point fs bs us) (map (back_of fs bs) os) in
      let both = left_true (ltb 0 (length us) && last) first h in
      let a = place bs fs (last_point fs bs us) 0 os (right_true (ltb 0 (length us)) last both) in
      let i : ℕ = place_in (end_from bs fs 0 (last_point fs bs us) os) in
      let ei : i ≡ a.at = ap place_in a.found ∙ omega arith in
      let b = place fs bs (first_point fs bs us) 0 along (has_begun (first_point fs bs us) (back_of fs bs) i os ∙ right_true (ltb 0 (length us) && last) first h) in
      let en : n ≡ suc b.at = ap suc (ap place_in b.found ∙ omega arith) in
      let long : length (take n along) ≡ n = length-take-le n along (omega (arith, b.inside, en)) in
      let l : length (take n along) - 1 ≡ b.at = omega (arith, long, en) in
      record {
        part = take n along;
        rest = drop n along;
        first_is = refl;
        second_is = refl;
        at = i;
        inside = omega (arith, ei, a.inside);
        turns = take-append-drop n along;
        begins = ap (λ (k : ℕ). front_of fs bs (get_or os k 0)) ei ∙ a.ends;
        some = omega (arith, long, en);
        ends = ap (λ (k : ℕ). back_of fs bs (get_or (take n along) k 0)) l ∙ ap (back_of fs bs) (get_or-take n along b.at 0 (omega (arith, en))) ∙ b.ends;
      }

-- a cut that is not refused
module _ (c : Content) (f : ℕ) (us : List ℕ) (m k : ℕ) (ok : cut_face_faults c f us m k ≡ []) where
  abbrev fronts : List ℕ
  fronts = fronts_in c

  abbrev backs : List ℕ
  backs = backs_in c

  abbrev outline : List ℕ
  outline = outline_of c f

  abbrev first : List ℕ
  first = first_cut fronts backs outline us

  abbrev second : List ℕ
  second = second_cut fronts backs outline us

  abbrev rule : Bool
  rule = keeps_rule fronts backs (first ∷ []) && keeps_rule fronts backs (second ∷ [])

  passed : outline_cut_faults fronts backs outline us m k ≡ []
  passed = none_right (unless (is_face c f && are_uses c us) Unnamed ++ unless (eqb (length (boundaries c f)) 1) NotOneWire) (outline_cut_faults fronts backs outline us m k) ok

  ends_on_lem : ends_on fronts backs outline us ≡ true
  ends_on_lem = unless_passes (ends_on fronts backs outline us) EndsNotOnWire (none_left (unless (ends_on fronts backs outline us) EndsNotOnWire) (two_faults fronts backs first second m k) passed)

  both_rule : rule ≡ true
  both_rule =
      unless_passes rule FaceRule
      (none_left (unless rule FaceRule) (unless (fits (first ∷ second ∷ []) m k) NoSpace) (none_right (unless (ends_on fronts backs outline us) EndsNotOnWire) (two_faults fronts backs first second m k) passed))

  -- both results keep the face rule
  pub cut_kept : (keeps_rule fronts backs (first ∷ []) ≡ true) × (keeps_rule fronts backs (second ∷ []) ≡ true)
  cut_kept = (left_true (keeps_rule fronts backs (first ∷ [])) (keeps_rule fronts backs (second ∷ [])) both_rule, right_true (keeps_rule fronts backs (first ∷ [])) (keeps_rule fronts backs (second ∷ [])) both_rule)

  -- with the wire there and back they have the uses of the outline
  pub cut_uses : length first + length second ≡ length outline + 2 * length us
  cut_uses = lengths_kept fronts backs outline us

  pub cut_same : (q : ℕ → Bool) → count q first + count q second ≡ count q outline + (count q us + count q (map turned (reverse us)))
  cut_same q = uses_kept fronts backs outline us q

  -- the outline is the two parts one after the other, rotated
  pub cut_parts : Parts fronts backs outline us first second
  cut_parts = parts fronts backs outline us ends_on_lem
