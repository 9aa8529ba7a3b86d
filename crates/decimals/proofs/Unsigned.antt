-- A decimal without a sign, by where its point stands.
use Rattle.std.specs.Prelude.{None, Option, Some}
use Rattle.std.proofs.Common.{◌≡◌, ℕ, suc, ◌+◌, ◌-◌, ◌*◌, ◌^◌, ◌<◌, ◌≤◌, Bool, true, false, ◌||◌, eqb, List, ◌++◌, length, take, drop, sym, refl, ◌∙◌, ⊎_elim, mul-le-mul_right, add-one, arith, length-append, length-drop, length-take, take_all, pow-add, eq-eqb, ne_eqb, eqb-true, le-leb}
use borrow.Author.Tests.{lt-leb}
use Rattle.decimals.proofs.Numerals.{after_append, all_append, tens, token}
use Rattle.decimals.proofs.Point.{before_take}
use Rattle.decimals.proofs.Rounding.{ten_most}
use Rattle.decimals.specs.Decimals.{is_point, nearest_bits, plain, unsigned}
use Rattle.lists.proofs.Laws.{cases}
use Rattle.lists.specs.Lists.{pick}
use Rattle.text.specs.Text.{before}
use Rattle.text.specs.Tokens.{all_digits, value_after}

-- the digits ds, after those of a number that was read, over 10^k
abbrev pub behind : Bool → ℕ → Option ℕ → List ℕ → Option ℕ
behind s k None ds = None
behind s k (Some m) ds = pick (all_digits ds) (Some (nearest_bits s (value_after m ds) k)) None

-- the same from the number that was read
pub behind_value : (s : Bool) (k m : ℕ) (ds : List ℕ) (d : ℕ) → Some d ≡ token tens m ds → (Some (nearest_bits s d k)) ≡ behind s k (Some m) ds
behind_value s k m ds d h =
    ⊎_elim
    (λ (e : all_digits ds ≡ true). let g : Some d ≡ (Some (value_after m ds)) = rw e at h in let f : d ≡ value_after m ds = cc in rw (e, f))
    (λ (e : all_digits ds ≡ false). let g : Some d ≡ None = rw e at h in cc)
    (cases (all_digits ds))

pub behind_not : (s : Bool) (k m : ℕ) (ds : List ℕ) → None ≡ token tens m ds → None ≡ behind s k (Some m) ds
behind_not s k m ds h =
    ⊎_elim
    (λ (e : all_digits ds ≡ true). let g : None ≡ (Some (value_after m ds)) = rw e at h in cc)
    (λ (e : all_digits ds ≡ false). rw e)
    (cases (all_digits ds))

plain_short : (s : Bool) (ds : List ℕ) (k : ℕ) → length ds ≤ 15 → plain s ds k ≡ behind s k (Some 0) ds
plain_short s ds k h = rw (le-leb (length ds) 15 h)

plain_long : (s : Bool) (ds : List ℕ) (k : ℕ) → 15 < length ds → plain s ds k ≡ None
plain_long s ds k h = rw (lt-leb (length ds) 15 h)

behind_append : (s : Bool) (k : ℕ) (ds es : List ℕ) → behind s k (Some 0) (ds ++ es) ≡ behind s k (token tens 0 ds) es
behind_append s k ds es =
    ⊎_elim
    (λ (e : all_digits ds ≡ true). rw (all_append tens ds es, e, after_append tens 0 ds es))
    (λ (e : all_digits ds ≡ false). rw (all_append tens ds es, e))
    (cases (all_digits ds))

none : (b : Bool) → pick {A = Option ℕ} b None None ≡ None
none true = refl
none false = refl

abbrev whole : List ℕ → List ℕ
whole w = before is_point w

abbrev places : List ℕ → List ℕ
places w = drop (suc (length (whole w))) w

-- room for b digits after a of them
pub room_after : (m a b : ℕ) → m + 1 ≤ 1 * 10 ^ a → a + b ≤ 15 → (m + 1) * 10 ^ b ≤ 1000000000000000
room_after m a b h l = omega (arith, mul-le-mul_right (10 ^ b) h, pow-add 10 a b, ten_most (a + b) l)

-- the two parts of a word of at most 16 bytes, as the code takes them
pub parts_short : (w : List ℕ) (p : ℕ) → p < length w → length w ≤ 16 → length (take p w) + length (take (length w - (p + 1)) (drop (p + 1) w)) ≤ 15
parts_short w p h l =
    let first : length (take p w) ≤ p = omega (arith, length-take p w) in
    let rest : length (take (length w - (p + 1)) (drop (p + 1) w)) ≤ length w - (p + 1) = omega (arith, length-take (length w - (p + 1)) (drop (p + 1) w)) in
    omega arith

-- point is where the point stands in the word w
module _ (s : Bool) (w : List ℕ) (point : ℕ) (at : point ≡ length (whole w)) where
  parts : length (whole w ++ places w) ≡ point + (length w - suc point)
  parts = rw at (omega (arith, length-append (whole w) (places w), length-drop (suc (length (whole w))) w))

  pub none_before : point ≡ 0 → None ≡ unsigned s w
  none_before h =
      ⊎_elim
      (λ (e : eqb (length (whole w)) (length w) ≡ true). rw (e, eq-eqb (length w) 0 (omega (arith, eqb-true (length (whole w)) (length w) e))))
      (λ (e : eqb (length (whole w)) (length w) ≡ false). rw (e, eq-eqb (length (whole w)) 0 (omega arith)))
      (cases (eqb (length (whole w)) (length w)))

  pub too_long : 16 < length w → None ≡ unsigned s w
  too_long l =
      ⊎_elim
      (λ (e : eqb (length (whole w)) (length w) ≡ true).
      rw (e, plain_long s w 0 (omega arith), none (eqb (length w) 0)))
      (λ (e : eqb (length (whole w)) (length w) ≡ false).
      rw (e, plain_long s (whole w ++ places w) (length (places w)) (omega (arith, parts)), none (eqb (length (whole w)) 0 || eqb (length (places w)) 0)))
      (cases (eqb (length (whole w)) (length w)))

  module _ (h : point ≡ length w) (some : point ≡ 0 → ⊥) where
    no_point : unsigned s w ≡ plain s w 0
    no_point = rw (eq-eqb (length (whole w)) (length w) (omega arith), ne_eqb (length w) 0 (λ z. some (omega arith)))

    pub no_point_long : 15 < length w → None ≡ unsigned s w
    no_point_long l = sym (no_point ∙ plain_long s w 0 l)

    pub no_point_is : length w ≤ 15 → behind s 0 (Some 0) w ≡ unsigned s w
    no_point_is l = sym (no_point ∙ plain_short s w 0 l)

  module _ (h : point < length w) (some : point ≡ 0 → ⊥) where
    split : unsigned s w ≡ pick (eqb (length (places w)) 0) None (plain s (whole w ++ places w) (length (places w)))
    split = rw (ne_eqb (length (whole w)) (length w) (λ z. omega arith), ne_eqb (length (whole w)) 0 (λ z. some (omega arith)))

    pub none_behind : point + 1 ≡ length w → None ≡ unsigned s w
    none_behind e = sym (split ∙ rw (eq-eqb (length (places w)) 0 (omega (arith, length-drop (suc (length (whole w))) w))))

    pub one_point_is : (point + 1 ≡ length w → ⊥) → length w ≤ 16 → (t : Option ℕ) → t ≡ token tens 0 (take point w)
        → behind s (length w - (point + 1)) t (take (length w - (point + 1)) (drop (point + 1) w)) ≡ unsigned s w
    one_point_is e l t is =
        let some-behind : length (places w) ≡ 0 → ⊥ = λ z. e (omega (arith, length-drop (suc (length (whole w))) w)) in
        let count : length w - (point + 1) ≡ length (places w) = omega (arith, length-drop (suc (length (whole w))) w) in
        let first : take point w ≡ whole w = rw at (sym (before_take is_point w)) in
        let rest : take (length w - (point + 1)) (drop (point + 1) w) ≡ places w = take_all (length w - (point + 1)) (drop (point + 1) w) (omega (arith, length-drop (point + 1) w)) ∙ rw (add-one point, at) in
        rw (is, first, rest, count)
        (sym
        (split
        ∙ rw (ne_eqb (length (places w)) 0 some-behind, plain_short s (whole w ++ places w) (length (places w)) (omega (arith, parts)))
        (behind_append s (length (places w)) (whole w) (places w))))
