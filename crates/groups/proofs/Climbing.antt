-- The way up from a member: it ends at a root, after few steps, and how it changes where a root goes under another.
use Prim.Native.Nat.{◌*◌, ◌+◌, ◌<◌, ◌^◌, ◌≤◌, suc, zero, ℕ}
use mathlib.Core.Bool.{false, true}
use mathlib.Core.List.{List}
use mathlib.Core.Logic.{⊎_elim}
use mathlib.Core.Path.{◌∙◌, ◌≡◌, ap, refl, sym}
use native.Mathlib.Nat.{mul_assoc, mul-le-mul_left, pow-suc}
use native.Mathlib.Omega.{arith}
use lib.Dec.{eqb}
use lib.ListN.{get_or, length, length-set, set}
use lib.Seq.{get_or-set_other, get_or-set_same}
use borrow.Author.Tests.{eq-eqb, eqb-false, eqb-true, ne_eqb}
use Rattle.groups.proofs.Meaning.{renamed_from}
use Rattle.groups.specs.Forest.{Climbs, Forest, Root, climb, root_of}
use Rattle.groups.specs.Groups.{renamed}
use Rattle.lists.proofs.Laws.{cases}
use Rattle.lists.specs.Lists.{pick}

pub climb_root : (k : ℕ) (ps : List ℕ) (r : ℕ) → Root ps r → climb k ps r ≡ r
unfolding climb
climb_root zero ps r h = refl
climb_root (suc k) ps r h = ap (climb k ps) h ∙ climb_root k ps r h

pub climb_suc : (k : ℕ) (ps : List ℕ) (i : ℕ) → climb (suc k) ps i ≡ get_or ps (climb k ps i) 0
unfolding climb
climb_suc zero ps i = refl
climb_suc (suc k) ps i = climb_suc k ps (get_or ps i 0)

climb_add : (k m : ℕ) (ps : List ℕ) (i : ℕ) → climb (k + m) ps i ≡ climb m ps (climb k ps i)
unfolding climb
climb_add zero m ps i = let e : 0 + m ≡ m = omega arith in rw e
climb_add (suc k) m ps i = let e : suc k + m ≡ suc (k + m) = omega arith in rw e (climb_add k m ps (get_or ps i 0))

-- two ways up that end at roots end at the same
pub same_root : (k m : ℕ) (ps : List ℕ) (i : ℕ) → Root ps (climb k ps i) → Root ps (climb m ps i) → climb k ps i ≡ climb m ps i
same_root k m ps i h o =
    let e : k + m ≡ m + k = omega arith in
    sym (climb_root m ps (climb k ps i) h) ∙ sym (climb_add k m ps i) ∙ rw e (climb_add m k ps i) ∙ climb_root k ps (climb m ps i) o

lt_pow : (k : ℕ) → k < 2 ^ k
lt_pow zero = omega arith
lt_pow (suc k) = omega (arith, pow-suc 2 k, lt_pow k)

module _ (n : ℕ) (ps ss : List ℕ) (f : Forest n ps ss) where
  pub climb_below : (k i : ℕ) → i < n → climb k ps i < n
  unfolding climb
  climb_below zero i h = h
  climb_below (suc k) i h = climb_below k (get_or ps i 0) (f.below i h)

  comes : (k i : ℕ) → i < n → n < 2 ^ suc k * get_or ss i 0 → Root ps (climb k ps i)
  unfolding climb
  comes zero i h l =
      ⊎_elim
      (λ e. eqb-true (get_or ps i 0) i e)
      (λ e. absurd (omega (arith, l, f.grows i h (eqb-false (get_or ps i 0) i e), f.cap (get_or ps i 0) (f.below i h))))
      (cases (eqb (get_or ps i 0) i))
  comes (suc k) i h l =
      ⊎_elim
      (λ (e : eqb (get_or ps i 0) i ≡ true). let r : Root ps i = eqb-true (get_or ps i 0) i e in
      rw (climb_root (suc k) ps i r) r)
      (λ (e : eqb (get_or ps i 0) i ≡ false). comes k (get_or ps i 0) (f.below i h)
      (omega (
        arith,
        rw (pow-suc 2 (suc k), mul_assoc (2 ^ suc k) 2 (get_or ss i 0)) at l,
        mul-le-mul_left (2 ^ suc k) (f.grows i h (eqb-false (get_or ps i 0) i e)),
      )))
      (cases (eqb (get_or ps i 0) i))

  -- k steps are enough where there are fewer members than 2 to the k + 1
  pub root_soon : (k i : ℕ) → n < 2 ^ suc k → i < n → Root ps (climb k ps i)
  root_soon k i l h = comes k i h (omega (arith, mul-le-mul_left (2 ^ suc k) (f.some i h)))

  pub root_top : (i : ℕ) → i < n → Root ps (root_of ps i)
  root_top i h = root_soon (length ps) i (omega (arith, lt_pow (length ps), pow-suc 2 (length ps), f.long)) h

  pub root_below : (i : ℕ) → i < n → root_of ps i < n
  root_below i h = climb_below (length ps) i h

  -- of at most 2,048 members each is at most 11 steps below its root
  pub root_near : n ≤ 2048 → (i : ℕ) → i < n → climb 11 ps i ≡ root_of ps i
  root_near l i h = same_root 11 (length ps) ps i (root_soon 11 i (omega arith) h) (root_top i h)

  pub climbs : (i : ℕ) → i < n → Climbs ps i
  climbs i h = record { inside = λ k. omega (arith, climb_below k i h, f.long); top = root_top i h }

-- the steps from i to its root, of the first k
unfoldable pub steps : ℕ → List ℕ → ℕ → ℕ
steps zero ps i = 0
steps (suc k) ps i = pick (eqb (get_or ps i 0) i) 0 (suc (steps k ps (get_or ps i 0)))

steps_more : (k : ℕ) (ps : List ℕ) (i : ℕ) → Root ps (climb k ps i) → steps (suc k) ps i ≡ steps k ps i
unfolding steps climb
steps_more zero ps i h = rw (eq-eqb (get_or ps i 0) i h)
steps_more (suc k) ps i h = ap (λ (m : ℕ). pick (eqb (get_or ps i 0) i) 0 (suc m)) (steps_more k ps (get_or ps i 0) h)

steps_up : (k : ℕ) (ps : List ℕ) (i : ℕ) → Root ps (climb k ps i) → (Root ps i → ⊥) → steps k ps (get_or ps i 0) < steps k ps i
unfolding steps climb
steps_up zero ps i h o = absurd (o h)
steps_up (suc k) ps i h o = rw (ne_eqb (get_or ps i 0) i o, steps_more k ps (get_or ps i 0) h) (omega arith)

-- here, and one step up
module _ (ps : List ℕ) (i : ℕ) (c : Climbs ps i) where
  pub climbs_in : i < length ps
  unfolding climb
  climbs_in = c.inside 0

  pub root_up : root_of ps (get_or ps i 0) ≡ root_of ps i
  unfolding climb
  root_up = climb_suc (length ps) ps i ∙ c.top

  pub climbs_up : Climbs ps (get_or ps i 0)
  unfolding climb
  climbs_up = record { inside = λ k. c.inside (suc k); top = rw root_up c.top }

  pub steps_fall : (Root ps i → ⊥) → steps (length ps) ps (get_or ps i 0) < steps (length ps) ps i
  steps_fall o = steps_up (length ps) ps i c.top o

-- two with the same parent have the same root
pub same_parent : (ps : List ℕ) (i j : ℕ) → Climbs ps i → Climbs ps j → get_or ps i 0 ≡ get_or ps j 0 → root_of ps i ≡ root_of ps j
same_parent ps i j c d e = sym (root_up ps i c) ∙ ap (root_of ps) e ∙ root_up ps j d

-- root b goes under root a
module _ (ps : List ℕ) (a b : ℕ) (hb : b < length ps) (ra : Root ps a) (rb : Root ps b) (ne : a ≡ b → ⊥) where
  moved : (k x : ℕ) → Root ps (climb k ps x) → climb (suc k) (set ps b a) x ≡ renamed b a (climb k ps x)
  unfolding climb
  moved zero x h =
      ⊎_elim
      (λ (e : eqb x b ≡ true). rw (e, eqb-true x b e) (get_or-set_same ps b a 0 hb))
      (λ (e : eqb x b ≡ false). rw (e, get_or-set_other ps b x a 0 (eqb-false x b e)) h)
      (cases (eqb x b))
  moved (suc k) x h =
      ⊎_elim
      (λ (e : eqb x b ≡ true). let xb : x ≡ b = eqb-true x b e in
      ap (climb (suc (suc k)) (set ps b a)) xb
      ∙ ap (climb (suc k) (set ps b a)) (get_or-set_same ps b a 0 hb)
      ∙ climb_root (suc k) (set ps b a) a (get_or-set_other ps b a a 0 ne ∙ ra)
      ∙ sym (ap (renamed b a) (ap (climb (suc k) ps) xb ∙ climb_root (suc k) ps b rb) ∙ renamed_from b a))
      (λ (e : eqb x b ≡ false). ap (climb (suc k) (set ps b a)) (get_or-set_other ps b x a 0 (eqb-false x b e)) ∙ moved k (get_or ps x 0) h)
      (cases (eqb x b))

  pub root_moved : (x : ℕ) → Root ps (root_of ps x) → Root (set ps b a) (root_of (set ps b a) x)
      → root_of (set ps b a) x ≡ renamed b a (root_of ps x)
  root_moved x h o =
      sym (climb_suc (length (set ps b a)) (set ps b a) x ∙ o)
      ∙ ap (λ (m : ℕ). climb (suc m) (set ps b a) x) (length-set ps b a)
      ∙ moved (length ps) x h
