-- A place and its number.
use Rattle.std.specs.Prelude.{None, Option, Some}
use Prim.Native.Nat.{◌<◌, ◌≤◌, ℕ}
use mathlib.Core.Bool.{Bool, Bool-set, false, true, true≢false}
use mathlib.Core.Logic.{⊎_elim}
use mathlib.Core.Path.{◌∙◌, ◌≡◌, ap, refl, sym}
use native.Mathlib.Omega.{arith}
use lib.Dec.{eqb, leb}
use borrow.Author.Tests.{eqb-false, eqb-true, le-leb, leb-false, leb-true, lt-leb}
use Rattle.lists.proofs.Laws.{cases}
use Rattle.lists.specs.Lists.{pick}
use Rattle.mesh.specs.Mesh.{fault_number}
use Rattle.mesh.specs.Reading.{fault_at}
use Rattle.mesh.specs.declared.LineFault.{LineFault}
use Rattle.mesh.specs.declared.LineFault.TheVariants.{NotGiven, NotNumber, TooFew}
use Rattle.mesh_words.specs.Following.{known_place, place_by, place_fault, place_in, place_number}
use Rattle.mesh_words.specs.Places.{is_place}
use Rattle.mesh_words.specs.declared.Place.{Place}
use Rattle.mesh_words.specs.declared.Place.TheVariants.{Between, Key, Other, Refused, Rest, Start, Word}

-- ---- a number that no place has

module _ (n : ℕ) (none : is_place n ≡ false) where
  other_by : (b : Bool) (e : is_place n ≡ b) → b ≡ false → place_by n b e ≡ Other (record { number = n; other = none })
  other_by true e h = absurd (true≢false h)
  other_by false e h = ap (λ (d : is_place n ≡ false). Other (record { number = n; other = d })) (Bool-set (is_place n) false e none)

-- ---- from a place to its number and back

pub place_back : (k : Place) → place_in (place_number k) ≡ k
place_back Start = refl
place_back Key = refl
place_back Rest = refl
place_back Between = refl
place_back Word = refl
place_back (Refused NotNumber) = refl
place_back (Refused NotGiven) = refl
place_back (Refused TooFew) = refl
place_back (Other k) = other_by k.number k.other (is_place k.number) refl k.other

pub place_is : {k : Place} {n : ℕ} → place_number k ≡ n → k ≡ place_in n
place_is {k} e = sym (place_back k) ∙ ap place_in e

-- ---- from a number to its place and back

picked : {A : Type 0} (number : A → ℕ) (n k : ℕ) {x y : A} → number x ≡ k → (eqb n k ≡ false → number y ≡ n) → number (pick (eqb n k) x y) ≡ n
picked number n k at past =
    ⊎_elim
    (λ (e : eqb n k ≡ true). rw e (at ∙ sym (eqb-true n k e)))
    (λ (e : eqb n k ≡ false). rw e (past e))
    (cases (eqb n k))

known_back : (n : ℕ) → is_place n ≡ true → place_number (known_place n) ≡ n
known_back n is =
    picked place_number n 0 refl (λ e0.
    picked place_number n 1 refl (λ e1.
    picked place_number n 2 refl (λ e2.
    picked place_number n 3 refl (λ e3.
    picked place_number n 4 refl (λ e4.
    picked fault_number n 30 refl (λ e30.
    picked fault_number n 31 refl (λ e31.
    let past : leb n 4 ≡ false = lt-leb n 4 (omega (arith, eqb-false n 0 e0, eqb-false n 1 e1, eqb-false n 2 e2, eqb-false n 3 e3, eqb-false n 4 e4)) in
    let last : eqb n 32 ≡ true = rw (past, e30, e31) at is in
    sym (eqb-true n 32 last))))))))

back_by : (n : ℕ) (b : Bool) (e : is_place n ≡ b) → place_number (place_by n b e) ≡ n
back_by n true e = known_back n e
back_by n false e = refl

pub number_back : (n : ℕ) → place_number (place_in n) ≡ n
number_back n = back_by n (is_place n) refl

-- ---- once refused

pub fault_high : (f : LineFault) → 30 ≤ fault_number f
fault_high NotNumber = omega arith
fault_high NotGiven = omega arith
fault_high TooFew = omega arith

pub refused_fault : (f : LineFault) → place_fault (Refused f) ≡ Some f
refused_fault NotNumber = refl
refused_fault NotGiven = refl
refused_fault TooFew = refl

-- as a reader is told of it
module _ (k : Place) {told : Option LineFault} (is : told ≡ place_fault k) where
  pub going_low : ((f : LineFault) → told ≡ Some f → ⊥) → place_number k < 30
  going_low none =
      ⊎_elim
      (λ (h : leb 30 (place_number k) ≡ true). absurd (none (fault_at (place_number k)) (is ∙ rw h)))
      (λ (h : leb 30 (place_number k) ≡ false). leb-false 30 (place_number k) h)
      (cases (leb 30 (place_number k)))

  module _ {f : LineFault} (e : told ≡ Some f) where
    pub stopped_high : 30 ≤ place_number k
    stopped_high =
        ⊎_elim
        (λ (h : leb 30 (place_number k) ≡ true). leb-true 30 (place_number k) h)
        (λ (h : leb 30 (place_number k) ≡ false). let never : ◌≡◌ {A = Option LineFault} (Some f) None = sym e ∙ is ∙ rw h in let z : ◌≡◌ {A = ℕ} 0 1 = cc in absurd (omega arith))
        (cases (leb 30 (place_number k)))

    pub stopped_at : f ≡ fault_at (place_number k)
    stopped_at = let same : ◌≡◌ {A = Option LineFault} (Some f) (Some (fault_at (place_number k))) = sym e ∙ is ∙ rw (le-leb 30 (place_number k) stopped_high) in cc
