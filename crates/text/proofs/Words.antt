-- Laws of the bytes before the first that passes a test, of the words of a line and of the lines of a text.
use Prim.Native.Nat.{◌*◌, ◌+◌, ◌-◌, ◌<◌, ◌≤◌, min, suc, ℕ}
use mathlib.Core.Bool.{Bool, false, true, true≢false}
use mathlib.Core.List.{List, [], ◌∷◌, map}
use mathlib.Core.Logic.{⊎_elim}
use mathlib.Core.Path.{◌∙◌, ◌≡◌, ap, refl, sym}
use native.Mathlib.Nat.{add-zero}
use native.Mathlib.Omega.{arith}
use lib.ListN.{drop_of_length-le, drop, get_or, length, length-drop, length-take, take}
use native.Mathlib.Numerals.{add-one}
use lib.Seq.{drop-cons, drop-drop, drop-length, get_or-drop, take_all, take-length}
use lib.Dec.{eqb, ltb}
use borrow.Author.Tests.{eq-eqb, ltb-false, ltb-true, ne_eqb, not-true}
use Rattle.std.specs.List.{position, position_or_len}
use Rattle.std.specs.declared.option.Option.{Option}
use Rattle.std.specs.declared.option.Option.TheVariants.{None, Some}
use Rattle.lists.proofs.Laws.{cases}
use Rattle.text.specs.Text.{before, fed, front, is_blank, is_feed, is_ink, lines, parted, trimmed, words}

-- ---- before

module _ (q : ℕ → Bool) where
  pub before_here : (b : ℕ) (s : List ℕ) → q b ≡ true → before q (b ∷ s) ≡ []
  unfolding before
  before_here b s h = rw h

  pub before_past : (b : ℕ) (s : List ℕ) → q b ≡ false → before q (b ∷ s) ≡ b ∷ before q s
  unfolding before
  before_past b s h = rw h

  pub before_le : (s : List ℕ) → length (before q s) ≤ length s
  unfolding before
  before_le [] = omega arith
  before_le (b ∷ s) = ⊎_elim (λ (h : q b ≡ true). rw h (omega arith)) (λ (h : q b ≡ false). rw h (omega (arith, before_le s))) (cases (q b))

  pub take_before : (s : List ℕ) → take (length (before q s)) s ≡ before q s
  unfolding before
  take_before [] = refl
  take_before (b ∷ s) = ⊎_elim (λ (h : q b ≡ true). rw h) (λ (h : q b ≡ false). rw (h, take_before s)) (cases (q b))

  -- the first byte after them passes the test
  pub after_passes : (s : List ℕ) (d : ℕ) → length (before q s) < length s → q (get_or s (length (before q s)) d) ≡ true
  after_passes [] d l = absurd (omega arith)
  after_passes (b ∷ s) d l =
      ⊎_elim
      (λ (h : q b ≡ true). rw (before_here b s h) h)
      (λ (h : q b ≡ false). rw (before_past b s h) (after_passes s d (omega (arith, ap length (before_past b s h)))))
      (cases (q b))

  -- a loop that goes on from `from` to the first byte that passes the test
  pub record Scan (s : List ℕ) (from i : ℕ) : Type 0 where
    pub low : i ≤ length s
    pub left : from + length (before q (drop from s)) ≡ i + length (before q (drop i s))

  pub scan_start : (s : List ℕ) (from : ℕ) → from ≤ length s → Scan s from from
  scan_start s from h = record { low = h; left = refl }

  module _ {s : List ℕ} {from i : ℕ} (c : Scan s from i) where
    pub scan_next : i < length s → q (get_or s i 0) ≡ false → Scan s from (i + 1)
    scan_next h p =
        let e : length (before q (drop i s)) ≡ suc (length (before q (drop (suc i) s))) =
        ap (λ (r : List ℕ). length (before q r)) (drop-cons s i 0 h) ∙ ap length (before_past (get_or s i 0) (drop (suc i) s) p) in
        record { low = omega arith; left = c.left ∙ rw add-one (omega arith) }

    pub scan_stop : i < length s → q (get_or s i 0) ≡ true → (i ≡ from + length (before q (drop from s))) × (i ≤ length s)
    scan_stop h p =
        let e : length (before q (drop i s)) ≡ 0 =
        ap (λ (r : List ℕ). length (before q r)) (drop-cons s i 0 h) ∙ ap length (before_here (get_or s i 0) (drop (suc i) s) p) in
        (omega (arith, c.left), c.low)

    pub scan_all : length s ≤ i → (i ≡ from + length (before q (drop from s))) × (i ≤ length s)
    scan_all h =
        let e : length (before q (drop i s)) ≤ length (drop i s) = before_le (drop i s) in
        let z : length (drop i s) ≡ 0 = ap length (drop_of_length-le s h) in
        (omega (arith, c.left), c.low)

  -- what a search for the first byte that passes the test finds
  place_is : (s : List ℕ) → position_or_len q s ≡ length (before q s)
  unfolding before
  place_is [] = refl
  place_is (b ∷ s) = ⊎_elim (λ (h : q b ≡ true). rw h) (λ (h : q b ≡ false). rw (h, place_is s) (omega arith)) (cases (q b))

  module _ (s : List ℕ) {r : Option ℕ} (is : r ≡ position q s) where
    pub found_at : {n : ℕ} → r ≡ Some n → (n ≡ length (before q s)) × (n < length s)
    found_at {n} h =
        let p = position_or_len q s in
        ⊎_elim
        (λ (t : ltb p (length s) ≡ true).
        let e : Some p ≡ Some n = rw t at (sym is ∙ h) in
        let z : p ≡ n = cc in
        (omega (arith, place_is s), omega (arith, ltb-true p (length s) t)))
        (λ (t : ltb p (length s) ≡ false). let e : None ≡ Some n = rw t at (sym is ∙ h) in absurd (cc))
        (cases (ltb p (length s)))

    pub found_none : r ≡ None → length s ≡ length (before q s)
    found_none h =
        let p = position_or_len q s in
        ⊎_elim
        (λ (t : ltb p (length s) ≡ true). let e : Some p ≡ None = rw t at (sym is ∙ h) in absurd (cc))
        (λ (t : ltb p (length s) ≡ false). omega (arith, ltb-false p (length s) t, place_is s, before_le s))
        (cases (ltb p (length s)))

-- the bytes from a place on, as the code takes them
pub rest_is : (from : ℕ) (s : List ℕ) → take (length s - from) (drop from s) ≡ drop from s
rest_is from s = take_all (length s - from) (drop from s) (omega (arith, length-drop from s))

-- ---- words

pub words_nil : words [] ≡ []
unfolding words
words_nil = refl

words_blank : (b : ℕ) (s : List ℕ) → is_blank b ≡ true → words (b ∷ s) ≡ words s
unfolding words
words_blank b s h = rw h

-- the blanks before the first word
pub words_skip : (s : List ℕ) → words s ≡ words (drop (length (before is_ink s)) s)
unfolding before
words_skip [] = refl
words_skip (b ∷ s) =
    ⊎_elim
    (λ (h : is_blank b ≡ true). words_blank b s h ∙ rw (h, words_skip s))
    (λ (h : is_blank b ≡ false). rw h)
    (cases (is_blank b))

-- only blanks
pub words_none : (s : List ℕ) → length (before is_ink s) ≡ length s → words s ≡ []
words_none s e = words_skip s ∙ ap words (rw e (drop-length s)) ∙ words_nil

-- a byte of a word, where the word ends, and where it goes on
words_end : (b : ℕ) (s : List ℕ) → is_blank b ≡ false → parted s ≡ true → words (b ∷ s) ≡ (b ∷ []) ∷ words s
unfolding words
words_end b s h k = rw (h, k)

words_on : (b : ℕ) (s : List ℕ) → is_blank b ≡ false → parted s ≡ false → words (b ∷ s) ≡ front b (words s)
unfolding words
words_on b s h k = rw (h, k)

words_ink : (b : ℕ) (s : List ℕ) → is_blank b ≡ false → words (b ∷ s) ≡ (b ∷ before is_blank s) ∷ words (drop (length (before is_blank s)) s)
unfolding before
words_ink b [] h = words_end b [] h refl
words_ink b (c ∷ s) h =
    ⊎_elim
    (λ (k : is_blank c ≡ true). words_end b (c ∷ s) h k ∙ rw k)
    (λ (k : is_blank c ≡ false). words_on b (c ∷ s) h k ∙ rw (words_ink c s k, k))
    (cases (is_blank c))

-- the first word and the rest of the line, where t begins with a word
words_of : (t : List ℕ) → 0 < length t → is_blank (get_or t 0 0) ≡ false
    → (words t ≡ before is_blank t ∷ words (drop (length (before is_blank t)) t)) × (0 < length (before is_blank t))
words_of [] l h = absurd (omega arith)
words_of (b ∷ s) l h = rw (before_past is_blank b s h) (words_ink b s h, omega arith)

-- the first word of a line that has one
pub words_next : (s : List ℕ)
    → (let t = drop (length (before is_ink s)) s in
    0 < length t → (words s ≡ before is_blank t ∷ words (drop (length (before is_blank t)) t)) × (0 < length (before is_blank t)))
words_next s l =
    let n = length (before is_ink s) in
    let ink : is_ink (get_or s n 0) ≡ true = after_passes is_ink s 0 (omega (arith, length-drop n s)) in
    let e : get_or (drop n s) 0 0 ≡ get_or s n 0 = get_or-drop n s 0 0 ∙ rw add-zero in
    let w = words_of (drop n s) l (rw e (not-true (is_blank (get_or s n 0)) ink)) in
    (words_skip s ∙ w.0, w.1)

-- the same from a place of the line on: where the next word begins and ends
module _ (line : List ℕ) (at start : ℕ) (begins : start ≡ at + length (before is_ink (drop at line))) where
  pub word_none : start ≡ length line → words (drop at line) ≡ []
  word_none h = words_none (drop at line) (omega (arith, length-drop at line))

  pub word_at : (end : ℕ) → start < length line → end ≡ start + length (before is_blank (drop start line))
      → (words (drop at line) ≡ take (end - start) (drop start line) ∷ words (drop end line)) × (start < end)
  word_at end l ends =
      let n = length (before is_ink (drop at line)) in
      let m = length (before is_blank (drop start line)) in
      let e : drop n (drop at line) ≡ drop start line = drop-drop n at line ∙ rw begins in
      let w = words_next (drop at line) (rw e (omega (arith, length-drop start line))) in
      let v : (words (drop at line) ≡ before is_blank (drop start line) ∷ words (drop m (drop start line))) × (0 < m) = rw e at w in
      let d : end - start ≡ m = omega arith in
      (v.0 ∙ rw (d, take_before is_blank (drop start line), ends, drop-drop m start line), omega (arith, v.1))

front_few : (b n : ℕ) (ss : List (List ℕ)) → 2 * length ss ≤ n + 1 → 2 * length (front b ss) ≤ suc n + 1
front_few b n [] h = omega arith
front_few b n (s ∷ ss) h = omega arith

-- two bytes for each word, but for the last
few : (s : List ℕ) → (2 * length (words s) ≤ length s + 1) × (parted s ≡ true → 2 * length (words s) ≤ length s)
few [] = rw words_nil (omega arith, λ h. omega arith)
few (b ∷ s) =
    ⊎_elim
    (λ (h : is_blank b ≡ true). rw (words_blank b s h) (omega (arith, (few s).0), λ _. omega (arith, (few s).0)))
    (λ (h : is_blank b ≡ false). (
      ⊎_elim
          (λ (k : parted s ≡ true). rw (words_end b s h k) (omega (arith, (few s).1 k)))
          (λ (k : parted s ≡ false). rw (words_on b s h k) (front_few b (length s) (words s) (few s).0))
          (cases (parted s)),
      λ (k : is_blank b ≡ true). absurd (true≢false (sym k ∙ h)),
    ))
    (cases (is_blank b))

pub words_few : (s : List ℕ) → 2 * length (words s) ≤ length s + 1
words_few s = (few s).0

-- ---- lines

pub fed_nil : fed [] ≡ []
unfolding fed
fed_nil = refl

fed_feed : (b : ℕ) (s : List ℕ) → is_feed b ≡ true → fed (b ∷ s) ≡ [] ∷ fed s
unfolding fed
fed_feed b s h = rw h

fed_on : (b : ℕ) (s : List ℕ) → is_feed b ≡ false → fed (b ∷ s) ≡ front b (fed s)
unfolding fed
fed_on b s h = rw h

-- the first line of a text that has one
pub fed_next : (s : List ℕ) → 0 < length s → fed s ≡ before is_feed s ∷ fed (drop (suc (length (before is_feed s))) s)
unfolding before
fed_next [] l = absurd (omega arith)
fed_next (b ∷ []) l =
    ⊎_elim
    (λ (h : is_feed b ≡ true). fed_feed b [] h ∙ rw (before_here is_feed b [] h))
    (λ (h : is_feed b ≡ false). fed_on b [] h ∙ rw (before_past is_feed b [] h, fed_nil))
    (cases (is_feed b))
fed_next (b ∷ c ∷ s) l =
    ⊎_elim
    (λ (h : is_feed b ≡ true). fed_feed b (c ∷ s) h ∙ rw (before_here is_feed b (c ∷ s) h))
    (λ (h : is_feed b ≡ false). fed_on b (c ∷ s) h ∙ rw (before_past is_feed b (c ∷ s) h, fed_next (c ∷ s) (omega arith)))
    (cases (is_feed b))

-- the same from a place of the text on: where its line ends
pub line_at : (text : List ℕ) (from end : ℕ) → from < length text → end ≡ from + length (before is_feed (drop from text))
    → fed (drop from text) ≡ take (end - from) (drop from text) ∷ fed (drop (end + 1) text)
line_at text from end l ends =
    let m = length (before is_feed (drop from text)) in
    let d : end - from ≡ m = omega arith in
    let n : end + 1 ≡ from + suc m = omega arith in
    fed_next (drop from text) (omega (arith, length-drop from text)) ∙ rw (d, take_before is_feed (drop from text), n, drop-drop (suc m) from text)

-- a carriage return at the end
pub trimmed_le : (s : List ℕ) → length (trimmed s) ≤ length s
trimmed_le s =
    ⊎_elim
    (λ (b : eqb (get_or s (length s - 1) 0) 13 ≡ true). rw b (omega (arith, length-take (length s - 1) s)))
    (λ (b : eqb (get_or s (length s - 1) 0) 13 ≡ false). rw b (omega arith))
    (cases (eqb (get_or s (length s - 1) 0) 13))

-- the first line of a text, as the code takes it, and the rest
module _ (text : List ℕ) (end next : ℕ) (some : 0 < length text) (ends : end ≡ length (before is_feed text)) (goes : next ≡ min (length text) (end + 1)) where
  rest_on : drop (end + 1) text ≡ drop next text
  rest_on =
      ⊎_elim
      (λ (b : ltb end (length text) ≡ true). let e : next ≡ end + 1 = omega (arith, ltb-true end (length text) b) in rw e)
      (λ (b : ltb end (length text) ≡ false).
      let l = ltb-false end (length text) b in
      let e : length text ≤ next = omega arith in
      let g : length text ≤ end + 1 = omega arith in drop_of_length-le text g ∙ sym (drop_of_length-le text e))
      (cases (ltb end (length text)))

  pub next_lines : (line : List ℕ) → line ≡ trimmed (take end text) → (lines text ≡ line ∷ lines (drop next text)) × (length line ≤ length text) × (length (drop next text) < length text)
  next_lines line is =
      let z : end - 0 ≡ end = omega arith in
      let e = line_at text 0 end some (omega arith) in
      (ap (map trimmed) e ∙ rw (z, rest_on, is), rw is (omega (arith, trimmed_le (take end text), length-take end text)), omega (arith, length-drop next text))

pub lines_nil : (text : List ℕ) → length text ≡ 0 → lines text ≡ []
lines_nil [] h = ap (map trimmed) fed_nil
lines_nil (b ∷ text) h = absurd (omega arith)
