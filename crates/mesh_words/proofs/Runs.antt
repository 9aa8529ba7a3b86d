-- The bytes of a word in one run: a reader follows them.
use Prim.Native.Nat.{◌+◌, ◌-◌, ◌<◌, ◌≤◌, ℕ}
use mathlib.Core.Bool.{◌&&◌, ◌||◌, false, true}
use mathlib.Core.List.{List, [], ◌++◌, ◌∷◌}
use mathlib.Core.Logic.{⊎_elim}
use mathlib.Core.Path.{◌∙◌, ◌≡◌, ap, refl, sym}
use native.Mathlib.Numerals.{add-one}
use native.Mathlib.Omega.{arith}
use lib.Dec.{eqb}
use lib.ListN.{drop, get_or, length, length-set, set, take, take-append-drop}
use lib.Seq.{take_all, take-suc}
use borrow.Author.Tests.{eqb-false, eqb-true}
use Rattle.lists.proofs.Laws.{cases}
use Rattle.mesh.specs.Mesh.{is_slash}
use Rattle.mesh.specs.Reading.{State, ink, moved, spell, spelled}
use Rattle.mesh_words.proofs.Spelling.{ink_first, ink_later, ink_word, spell_next, spell_over, spell_past, spell_slash, worded}
use Rattle.mesh_words.proofs.Places.{place_is}
use Rattle.mesh_words.specs.Following.{Follows, inks}
use Rattle.mesh_words.specs.declared.Place.TheVariants.{Between, Start, Word}
use Rattle.mesh_words.specs.declared.Reader.{Reader}
use Rattle.pattern.specs.Contents.{Pattern}

pub inks_append : (a b : List ℕ) (st : State) → inks (a ++ b) st ≡ inks b (inks a st)
unfolding inks
inks_append [] b st = refl
inks_append (c ∷ a) b st = inks_append a b (ink c st)

-- one byte more
inks_next : (bytes : List ℕ) (i : ℕ) → i < length bytes → (st : State) → inks (take (i + 1) bytes) st ≡ ink (get_or bytes i 0) (inks (take i bytes) st)
unfolding inks
inks_next bytes i h st = rw (add-one i, take-suc bytes i 0 h, inks_append (take i bytes) (get_or bytes i 0 ∷ []) st)

pub inks_none : (bytes : List ℕ) → length bytes ≡ 0 → (st : State) → inks bytes st ≡ st
unfolding inks
inks_none [] h st = refl
inks_none (b ∷ s) h st = absurd (omega arith)

pub inks_first : (bytes : List ℕ) → 0 < length bytes → (st : State) → inks bytes st ≡ inks (take (length bytes - 1) (drop 1 bytes)) (ink (get_or bytes 0 0) st)
unfolding inks
inks_first [] h st = absurd (omega arith)
inks_first (b ∷ s) h st = rw (take_all (length (b ∷ s) - 1) s (omega arith))

-- ---- after its first byte

spell_kept : (b : ℕ) (st : State) → ((spell b st).place ≡ st.place) × ((spell b st).held ≡ st.held)
spell_kept b st =
    let q = st.slashed || (eqb st.place 4 && is_slash b) in
    ⊎_elim (λ (h : q ≡ true). rw h (refl, refl)) (λ (h : q ≡ false). rw h (refl, refl)) (cases q)

-- the place is one in a word
pub record Inked (b : ℕ) (st : State) : Type 0 where
  pub no_start : (ink b st).place ≡ 0 → ⊥
  pub no_gap : (ink b st).place ≡ 3 → ⊥
  pub no_rest : (st.place ≡ 2 → ⊥) → (ink b st).place ≡ 2 → ⊥
  pub going : st.place < 30 → (ink b st).place < 30
  pub held : (ink b st).held ≡ st.held

-- as x is spelled on
inked_as : (b : ℕ) (st x : State) → ink b st ≡ spell b x → (x.place ≡ 0 → ⊥) → (x.place ≡ 3 → ⊥) → ((st.place ≡ 2 → ⊥) → x.place ≡ 2 → ⊥)
    → (st.place < 30 → x.place < 30) → x.held ≡ st.held → Inked b st
inked_as b st x e start gap rest going held =
    let k = spell_kept b x in
    let p : (ink b st).place ≡ x.place = ap (λ (s : State). s.place) e ∙ k.0 in
    record {
      no_start = λ z. start (sym p ∙ z);
      no_gap = λ z. gap (sym p ∙ z);
      no_rest = λ h z. rest h (sym p ∙ z);
      going = λ h. rw p (going h);
      held = ap (λ (s : State). s.held) e ∙ k.1 ∙ held;
    }

pub ink_kept : (b : ℕ) (st : State) → Inked b st
ink_kept b st =
    ⊎_elim
    (λ (h : eqb st.place 0 ≡ true).
    inked_as b st (spelled [] false (moved 1 st)) (ink_first b st (eqb-true st.place 0 h)) (λ z. omega arith) (λ z. omega arith) (λ n z. omega arith) (λ g. omega arith) refl)
    (λ (h : eqb st.place 0 ≡ false).
    ⊎_elim
    (λ (k : eqb st.place 3 ≡ true).
    inked_as b st (spelled [] false (moved 4 st)) (ink_word b st (eqb-true st.place 3 k)) (λ z. omega arith) (λ z. omega arith) (λ n z. omega arith) (λ g. omega arith) refl)
    (λ (k : eqb st.place 3 ≡ false).
    let start = eqb-false st.place 0 h in
    let gap = eqb-false st.place 3 k in
    inked_as b st st (ink_later b st start gap) start gap (λ n. n) (λ g. g) refl)
    (cases (eqb st.place 3)))
    (cases (eqb st.place 0))

-- in a word
pub record Within (r : Reader) : Type 0 where
  pub no_start : r.place ≡ Start → ⊥
  pub no_gap : r.place ≡ Between → ⊥

module _ (b : ℕ) {st : State} {r : Reader} {p : Pattern} {index : List ℕ} (f : Follows st r p index) (w : Within r) where
  pub inked : (r' : Reader) → Follows (spell b st) r' p index → Follows (ink b st) r' p index
  inked r' g = rw (ink_later b st (λ e. w.no_start (place_is (f.place ∙ e))) (λ e. w.no_gap (place_is (f.place ∙ e)))) g

-- after a slash nothing changes
pub inks_past : (s : List ℕ) {st : State} {r : Reader} {p : Pattern} {index : List ℕ} → Follows st r p index → Within r → r.slashed ≡ true → Follows (inks s st) r p index
unfolding inks
inks_past [] f w h = f
inks_past (b ∷ s) {st} {r} f w h = inks_past s (inked b f w r (spell_past b f h)) w h

-- ---- a run up to i, with the word's table beside the reader

pub record Run (from : Reader) (bytes : List ℕ) (r : Reader) (word : List ℕ) (n i : ℕ) : Type 0 where
  pub low : i ≤ length bytes
  pub long : length word ≡ 11
  pub unslashed : r.slashed ≡ false
  pub place : r.place ≡ from.place
  pub follows : (st : State) (p : Pattern) (index : List ℕ) → Follows st from p index → Within from → Follows (inks (take i bytes) st) (worded word n r.slashed r) p index

pub run_start : (r : Reader) (bytes : List ℕ) → r.slashed ≡ false → length r.word ≡ 11 → Run r bytes r r.word r.length 0
unfolding inks
run_start r bytes h l = record { low = omega arith; long = l; unslashed = h; place = refl; follows = λ st p index f w. f }

module _ {from : Reader} {bytes : List ℕ} {r : Reader} {word : List ℕ} {n i : ℕ} (u : Run from bytes r word n i) where
  within : Within from → Within r
  within w = record { no_start = λ e. w.no_start (sym u.place ∙ e); no_gap = λ e. w.no_gap (sym u.place ∙ e) }

  module _ (h : i < length bytes) where
    -- a byte more
    step : (w' : List ℕ) (n' : ℕ)
        → ((st : State) (p : Pattern) (index : List ℕ) → Follows st (worded word n r.slashed r) p index → Follows (spell (get_or bytes i 0) st) (worded w' n' r.slashed r) p index)
        → (st : State) (p : Pattern) (index : List ℕ) → Follows st from p index → Within from → Follows (inks (take (i + 1) bytes) st) (worded w' n' r.slashed r) p index
    step w' n' go st p index f w =
        let g = u.follows st p index f w in
        let v : Within (worded word n r.slashed r) = record { no_start = (within w).no_start; no_gap = (within w).no_gap } in
        rw (inks_next bytes i h st) (inked (get_or bytes i 0) g v (worded w' n' r.slashed r) (go (inks (take i bytes) st) p index g))

    module _ (plain : r.place ≡ Word → get_or bytes i 0 ≡ 47 → ⊥) where
      pub run_next : n < 11 → Run from bytes r (set word n (get_or bytes i 0)) (n + 1) (i + 1)
      run_next l = record {
        low = omega arith;
        long = length-set word n (get_or bytes i 0) ∙ u.long;
        unslashed = u.unslashed;
        place = u.place;
        follows = step (set word n (get_or bytes i 0)) (n + 1) (λ st p index g. spell_next (get_or bytes i 0) g u.unslashed plain l u.long);
      }

      pub run_over : 11 ≤ n → Run from bytes r word n (i + 1)
      run_over l = record {
        low = omega arith;
        long = u.long;
        unslashed = u.unslashed;
        place = u.place;
        follows = step word n (λ st p index g. spell_over (get_or bytes i 0) g u.unslashed plain l);
      }

    -- its slash: the rest is passed over
    pub run_slash : r.place ≡ Word → get_or bytes i 0 ≡ 47 → (st : State) (p : Pattern) (index : List ℕ) → Follows st from p index → Within from → Follows (inks bytes st) (worded word n true r) p index
    run_slash at is st p index f w =
        let g = u.follows st p index f w in
        let b = get_or bytes i 0 in
        let v : Within (worded word n r.slashed r) = record { no_start = (within w).no_start; no_gap = (within w).no_gap } in
        let v' : Within (worded word n true r) = record { no_start = (within w).no_start; no_gap = (within w).no_gap } in
        let slash = inked b g v (worded word n true r) (spell_slash b g u.unslashed at is) in
        let parts = sym (take-append-drop (i + 1) bytes) in
        let all : inks bytes st ≡ inks (drop (i + 1) bytes) (ink b (inks (take i bytes) st)) =
        ap (λ (l : List ℕ). inks l st) parts ∙ inks_append (take (i + 1) bytes) (drop (i + 1) bytes) st ∙ ap (inks (drop (i + 1) bytes)) (inks_next bytes i h st) in
        rw all (inks_past (drop (i + 1) bytes) slash v' refl)

  pub run_all : length bytes ≤ i → (st : State) (p : Pattern) (index : List ℕ) → Follows st from p index → Within from → Follows (inks bytes st) (worded word n r.slashed r) p index
  run_all h st p index f w = rw (take_all i bytes h) at (u.follows st p index f w)
