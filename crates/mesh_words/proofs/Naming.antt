-- What a word names, told from its first eleven bytes and from at most 999,999,999 points.
use Rattle.std.specs.Prelude.{Err, None, Ok, Option, Result, Some}
use Prim.Native.Nat.{◌-◌, ◌<◌, ◌≤◌, min, ℕ}
use mathlib.Core.Bool.{Bool, ◌&&◌, false, true}
use mathlib.Core.List.{List}
use mathlib.Core.Logic.{⊎_elim}
use mathlib.Core.Path.{◌∙◌, ◌≡◌, refl, sym}
use native.Mathlib.Omega.{arith}
use lib.Dec.{eqb, leb}
use lib.ListN.{drop, get_or, length, length-drop, length-take, take}
use lib.Seq.{take_all}
use borrow.Author.Tests.{le-leb, leb-false, leb-true, lt-leb}
use Rattle.lists.proofs.Laws.{cases, left_true, right_true}
use Rattle.lists.specs.Lists.{pick}
use Rattle.mesh.specs.Mesh.{backward, corner_faults, forward, numbered, point_of}
use Rattle.mesh.specs.declared.LineFault.{LineFault}
use Rattle.mesh.specs.declared.LineFault.TheVariants.{NotGiven, NotNumber}
use Rattle.text.proofs.Numbers.{number_below, number_long}
use Rattle.text.specs.Tokens.{number}
use Rattle.words.specs.Words.{short}

-- ---- the first eleven bytes

numbered_long : (g : ℕ) (w : List ℕ) → 10 < length w → numbered g w ≡ Err NotNumber
unfolding numbered
numbered_long g w h =
    rw (number_long w (omega arith), number_long (drop 1 w) (simp length-drop (omega arith)))
    (⊎_elim (λ (e : eqb (get_or w 0 0) 45 ≡ true). rw e) (λ (e : eqb (get_or w 0 0) 45 ≡ false). rw e) (cases (eqb (get_or w 0 0) 45)))

pub numbered_first : (g : ℕ) (w : List ℕ) → numbered g (take 11 w) ≡ numbered g w
numbered_first g w =
    ⊎_elim
    (λ (h : leb (length w) 11 ≡ true). rw (take_all 11 w (leb-true (length w) 11 h)))
    (λ (h : leb (length w) 11 ≡ false).
    let l = leb-false (length w) 11 h in
    numbered_long g (take 11 w) (omega (arith, length-take 11 w)) ∙ sym (numbered_long g w (omega arith)))
    (cases (leb (length w) 11))

-- ---- at most 999,999,999 points: the same fault, or a point

module _ (g : ℕ) where
  leb_limit : (k : ℕ) → k < 1000000000 → leb k (min g 999999999) ≡ leb k g
  leb_limit k b =
      ⊎_elim
      (λ (h : leb k g ≡ true). let l = leb-true k g h in le-leb k (min g 999999999) (omega arith) ∙ sym h)
      (λ (h : leb k g ≡ false). let l = leb-false k g h in lt-leb k (min g 999999999) (omega arith) ∙ sym h)
      (cases (leb k g))

  faults_either : (b : Bool) (p q : ℕ) (f : LineFault) → corner_faults (pick b (Ok p) (Err f)) ≡ corner_faults (pick b (Ok q) (Err f))
  faults_either true p q f = refl
  faults_either false p q f = refl

  forward_faults : (t : Option ℕ) → ((k : ℕ) → t ≡ Some k → k < 1000000000) → corner_faults (forward (min g 999999999) t) ≡ corner_faults (forward g t)
  forward_faults None below = refl
  forward_faults (Some k) below = rw (leb_limit k (below k refl))

  backward_faults : (t : Option ℕ) → ((k : ℕ) → t ≡ Some k → k < 1000000000) → corner_faults (backward (min g 999999999) t) ≡ corner_faults (backward g t)
  backward_faults None below = refl
  backward_faults (Some k) below = rw (leb_limit k (below k refl)) (faults_either (leb 1 k && leb k g) (min g 999999999 - k) (g - k) NotGiven)

  numbered_faults : (w : List ℕ) → corner_faults (numbered (min g 999999999) w) ≡ corner_faults (numbered g w)
  unfolding numbered
  numbered_faults w =
      ⊎_elim
      (λ (h : eqb (get_or w 0 0) 45 ≡ true). rw h (backward_faults (number (drop 1 w)) (number_below (drop 1 w))))
      (λ (h : eqb (get_or w 0 0) 45 ≡ false). rw h (forward_faults (number w) (number_below w)))
      (cases (eqb (get_or w 0 0) 45))

-- ---- a point that is named is given

picked : (b : Bool) (p q : ℕ) (f : LineFault) → pick b (Ok p) (Err f) ≡ Ok q → (b ≡ true) × (p ≡ q)
picked true p q f e = (refl, cc)
picked false p q f e = absurd (let z : ◌≡◌ {A = ℕ} 0 1 = cc in omega arith)

module _ (g p : ℕ) where
  forward_below : (t : Option ℕ) → forward g t ≡ Ok p → p < g
  forward_below None e = absurd (let z : ◌≡◌ {A = ℕ} 0 1 = cc in omega arith)
  forward_below (Some k) e =
      let at = picked (leb 1 k && leb k g) (k - 1) p NotGiven e in
      let some = leb-true 1 k (left_true (leb 1 k) (leb k g) at.0) in
      let given = leb-true k g (right_true (leb 1 k) (leb k g) at.0) in
      omega (arith, at.1)

  backward_below : (t : Option ℕ) → backward g t ≡ Ok p → p < g
  backward_below None e = absurd (let z : ◌≡◌ {A = ℕ} 0 1 = cc in omega arith)
  backward_below (Some k) e =
      let at = picked (leb 1 k && leb k g) (g - k) p NotGiven e in
      let some = leb-true 1 k (left_true (leb 1 k) (leb k g) at.0) in
      let given = leb-true k g (right_true (leb 1 k) (leb k g) at.0) in
      omega (arith, at.1)

  numbered_below : (w : List ℕ) → numbered g w ≡ Ok p → p < g
  unfolding numbered
  numbered_below w e =
      ⊎_elim
      (λ (h : eqb (get_or w 0 0) 45 ≡ true). backward_below (number (drop 1 w)) (rw h at e))
      (λ (h : eqb (get_or w 0 0) 45 ≡ false). forward_below (number w) (rw h at e))
      (cases (eqb (get_or w 0 0) 45))

-- ---- what follows of the word's corner

not_same : (c d : Result ℕ LineFault) (f : LineFault) → corner_faults c ≡ corner_faults d → c ≡ Err f → d ≡ Err f
not_same (Ok p) d f e h = absurd (let z : ◌≡◌ {A = ℕ} 0 1 = cc in omega arith)
not_same (Err f) (Ok q) f' e h = absurd (let z : ◌≡◌ {A = ℕ} 0 1 = cc in omega arith)
not_same (Err f) (Err f') f'' e h = cc

at_same : (c d : Result ℕ LineFault) (p : ℕ) → corner_faults c ≡ corner_faults d → c ≡ Ok p → d ≡ Ok (point_of d)
at_same (Err f) d p e h = absurd (let z : ◌≡◌ {A = ℕ} 0 1 = cc in omega arith)
at_same (Ok p) (Ok q) p' e h = refl
at_same (Ok p) (Err f) p' e h = absurd (let z : ◌≡◌ {A = ℕ} 0 1 = cc in omega arith)

module _ (g : ℕ) (w : List ℕ) where
  pub named_not : (f : LineFault) → numbered (min g 999999999) w ≡ Err f → numbered g w ≡ Err f
  named_not f e = not_same (numbered (min g 999999999) w) (numbered g w) f (numbered_faults g w) e

  module _ (p : ℕ) (e : numbered (min g 999999999) w ≡ Ok p) where
    pub named_at : numbered g w ≡ Ok (point_of (numbered g w))
    named_at = at_same (numbered (min g 999999999) w) (numbered g w) p (numbered_faults g w) e

    pub named_near : g ≤ 2048 → short p ≡ point_of (numbered g w)
    named_near few =
        let m : min g 999999999 ≡ g = omega arith in
        let is : numbered g w ≡ Ok p = rw m at e in
        rw is (omega (arith, numbered_below g p w is))
