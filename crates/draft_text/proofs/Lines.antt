-- What is wrong with a line, found in turn.
use Rattle.std.specs.Prelude.{Err, None, Ok, Option, Result, Some}
use Prim.Native.Nat.{◌*◌, ◌+◌, ◌-◌, ◌<◌, ◌≤◌, suc, ℕ}
use mathlib.Core.Bool.{Bool, and-false, false, true}
use mathlib.Core.List.{List, [], ◌∷◌, map}
use mathlib.Core.Logic.{⊎_elim}
use mathlib.Core.Path.{◌∙◌, ◌≡◌, ap, refl, sym}
use native.Mathlib.Omega.{arith}
use lib.Dec.{eqb, leb}
use lib.ListN.{get_or-eq_default, drop, get_or, length, length-drop, take}
use lib.Seq.{get_or-take, sets}
use borrow.Author.Tests.{eq-eqb, eqb-false, eqb-true, le-leb, lt-leb, ne_eqb}
use Rattle.forms.specs.Forms.{also, said, values}
use Rattle.forms.specs.declared.WordKind.{WordKind}
use Rattle.draft_forms.specs.LineForms.{further_kind, line_kind, line_values, word_kinds}
use Rattle.draft_forms.specs.declared.LineKind.{LineKind}
use Rattle.draft_forms.specs.declared.LineKind.TheVariants.{Comment, Edge, Empty, Face, Point, Shell, Unknown}
use Rattle.draft_parts.specs.Parts.{needed_words}
use Rattle.lists.proofs.Flat.{get_d_any}
use Rattle.lists.proofs.Laws.{cases}
use Rattle.lists.proofs.Sets.{take_sets}
use Rattle.text.proofs.Words.{words_few}
use Rattle.text.specs.Text.{words}
use Rattle.draft_text.specs.Gathering.{Read, first_wrong, read_faults}
use Rattle.draft_text.specs.TextPattern.{by_kind, next_number, word_faults}
use Rattle.draft_text.specs.declared.Fault.{Fault}
use Rattle.draft_text.specs.declared.Fault.TheVariants.{Number, Word}

pub wrong_right {ℓ} : {A : Type ℓ} {E : Type 0} (f : E) → ◌≡◌ {A = Result Unit E} (Err f) (Ok tt) → A
wrong_right f e = absurd (let z : ◌≡◌ {A = ℕ} 0 1 = cc in omega arith)

-- ---- the values of a line

also_few : (vs : List ℕ) (n : ℕ) (t : Option ℕ) → length vs ≤ n → length (also t vs) ≤ suc n
also_few vs n None h = omega arith
also_few vs n (Some v) h = omega arith

values_few : (kinds : List WordKind) (rest : Option WordKind) (i : ℕ) (ws : List (List ℕ)) → length (values kinds rest i ws) ≤ length ws
unfolding values
values_few kinds rest i [] = omega arith
values_few kinds rest i (w ∷ ws) = also_few (values kinds rest (suc i) ws) (length ws) (said (get_or (map Some kinds) i rest) w) (values_few kinds rest (suc i) ws)

-- what the code knows after it matched a line of kind k
pub record Matching (ws : List (List ℕ)) (k : LineKind) (n : ℕ) (all : Bool) (out : List ℕ) : Type 0 where
  pub kind : k ≡ line_kind ws
  pub few : n ≤ length out
  pub many : n ≡ length (line_values ws)
  pub are : take n out ≡ line_values ws
  pub whole : all ≡ eqb (length (line_values ws)) (length (drop 1 ws))

module _ (line after l out : List ℕ) (k : LineKind) (n : ℕ) (all : Bool) (kind : k ≡ line_kind (words line)) (rest : words after ≡ drop 1 (words line))
    (short : length after ≤ length line) (room : length line ≤ 2 * length l) (long : length out ≡ length l) where
  pub matching : (let vs = values (word_kinds k) (further_kind k) 0 (words after) in
      (out ≡ sets l 0 vs) × ((n ≡ length vs) × (all ≡ eqb (length vs) (length (words after))))) → Matching (words line) k n all out
  matching m =
      let vs = values (word_kinds k) (further_kind k) 0 (words after) in
      let e : vs ≡ line_values (words line) = rw (rest, kind) in
      let fit : length vs ≤ length l = omega (arith, values_few (word_kinds k) (further_kind k) 0 (words after), words_few after) in
      record {
        kind = kind;
        few = omega (arith, m.1.0);
        many = m.1.0 ∙ ap length e;
        are = ap (take n) m.0 ∙ take_sets l vs n (sym m.1.0) (omega (arith, m.1.0)) ∙ e;
        whole = m.1.1 ∙ rw (e, rest);
      }

-- the first values as the code takes them
pub sliced : (n : ℕ) (l vs : List ℕ) → take n l ≡ vs → take (n - 0) (drop 0 l) ≡ vs
sliced n l vs e = let z : n - 0 ≡ n = omega arith in rw z e

-- ---- its words, in turn

abbrev pub Answered : List ℕ → List (List ℕ) → LineKind → ℕ → Result Unit Fault → List ℕ → Type 0
Answered counts ws k n check out =
    ((k ≡ line_kind ws) × (check ≡ first_wrong (read_faults counts ws))) × (check ≡ Ok tt → (k ≡ Comment → ⊥) → Read ws n out)

module _ (counts : List ℕ) (ws : List (List ℕ)) (k : LineKind) (out : List ℕ) (kind : k ≡ line_kind ws) where
  pub read_comment : k ≡ Comment → Answered counts ws k 0 (Ok tt) out
  unfolding read_faults
  read_comment h = ((kind, rw (sym kind ∙ h)), λ _ n. absurd (n h))

  pub read_unknown : k ≡ Unknown → Answered counts ws k 0 (Err (Word k 1)) out
  unfolding read_faults
  read_unknown h = ((kind, rw (sym kind ∙ h, h)), wrong_right (Word k 1))

by_words : (k : LineKind) (fs : List Fault) → (k ≡ Comment → ⊥) → (k ≡ Unknown → ⊥) → by_kind k fs ≡ fs
by_words Point fs a b = refl
by_words Edge fs a b = refl
by_words Face fs a b = refl
by_words Shell fs a b = refl
by_words Comment fs a b = absurd (a refl)
by_words Empty fs a b = refl
by_words Unknown fs a b = absurd (b refl)

full : (ws : List (List ℕ)) → (line_kind ws ≡ Comment → ⊥) → 0 < length ws
full [] h = absurd (h refl)
full (w ∷ ws) h = omega arith

module _ {ws : List (List ℕ)} {k : LineKind} {n : ℕ} {all : Bool} {out : List ℕ} (m : Matching ws k n all out) (counts : List ℕ) (other : k ≡ Comment → ⊥) (known : k ≡ Unknown → ⊥) where
  of_words : read_faults counts ws ≡ word_faults k (next_number k counts) ws
  unfolding read_faults
  of_words = rw (← m.kind, by_words k (word_faults k (next_number k counts) ws) other known)

  some : 0 < length ws
  some = full ws (λ e. other (m.kind ∙ e))

  value : 0 < n → get_or (line_values ws) 0 (next_number k counts) ≡ get_or out 0 0
  value h =
      get_d_any (line_values ws) 0 (next_number k counts) 0 (omega (arith, m.many))
      ∙ ap (λ (s : List ℕ). get_or s 0 0) (sym m.are)
      ∙ get_or-take n out 0 0 h

  whole_test : eqb (suc (length (line_values ws))) (length ws) ≡ all
  whole_test =
      let a = length (line_values ws) in
      let b = length (drop 1 ws) in
      let e : length ws ≡ suc b = omega (arith, some, length-drop 1 ws) in
      ⊎_elim
      (λ (h : eqb a b ≡ true). eq-eqb (suc a) (length ws) (omega (arith, eqb-true a b h)) ∙ sym (m.whole ∙ h))
      (λ (h : eqb a b ≡ false). ne_eqb (suc a) (length ws) (λ (q : suc a ≡ length ws). eqb-false a b h (omega arith)) ∙ sym (m.whole ∙ h))
      (cases (eqb a b))

  pub read_number : (next : ℕ) → next ≡ next_number k counts → 0 < n → (get_or out 0 0 ≡ next → ⊥) → Answered counts ws k n (Err (Number k next)) out
  unfolding word_faults
  read_number next e h d =
      let test : eqb (get_or (line_values ws) 0 (next_number k counts)) (next_number k counts) ≡ false = rw (value h) (ne_eqb (get_or out 0 0) (next_number k counts) (λ q. d (q ∙ sym e))) in
      ((m.kind, rw (of_words, test) (ap (λ (j : ℕ). Err (Number k j)) e)), wrong_right (Number k next))

  -- the number is the next, or there is none
  abbrev pub Next : Type 0
  Next = eqb (get_or (line_values ws) 0 (next_number k counts)) (next_number k counts) ≡ true

  pub next_none : n ≤ 0 → Next
  next_none h =
      let d = next_number k counts in
      eq-eqb (get_or (line_values ws) 0 d) d (get_or-eq_default (line_values ws) d (omega (arith, m.many)))

  pub next_same : 0 < n → get_or out 0 0 ≡ next_number k counts → Next
  next_same h e = rw (value h) (eq-eqb (get_or out 0 0) (next_number k counts) e)

  module _ (next : Next) where
    pub read_part : all ≡ false → Answered counts ws k n (Err (Word k (n + 2))) out
    unfolding word_faults
    read_part h = ((m.kind, rw (of_words, next, whole_test, h, m.many)), wrong_right (Word k (n + 2)))

    pub read_few : n < needed_words k → Answered counts ws k n (Err (Word k (n + 2))) out
    unfolding word_faults
    read_few h =
        let t : leb (needed_words k) (length (line_values ws)) ≡ false = lt-leb (needed_words k) (length (line_values ws)) (omega (arith, m.many)) in
        ((m.kind, rw (of_words, next, t, and-false (eqb (suc (length (line_values ws))) (length ws)), m.many)), wrong_right (Word k (n + 2)))

    pub read_right : all ≡ true → needed_words k ≤ n → Answered counts ws k n (Ok tt) out
    unfolding word_faults
    read_right h l =
        let t : leb (needed_words k) (length (line_values ws)) ≡ true = le-leb (needed_words k) (length (line_values ws)) (omega (arith, m.many)) in
        let e : needed_words k ≡ needed_words (line_kind ws) = ap needed_words m.kind in (
          (m.kind, rw (of_words, next, whole_test, h, t)),
          λ _ _. record { few = m.few; are = m.are; needed = omega (arith, m.many) },
        )
