-- Bytes that are read alike: up to the first that stops them.
use Rattle.std.proofs.Common.{◌≡◌, ℕ, ◌+◌, ◌-◌, ◌<◌, ◌≤◌, Bool, true, false, List, [], ◌∷◌, ◌++◌, length, take, drop, sym, refl, ap, ◌∙◌, ⊎_elim, true≢false, arith, take-append-drop, take-add}
use Rattle.lists.proofs.Laws.{cases}
use Rattle.mesh.proofs.Theorem.{pieces}
use Rattle.mesh.specs.Reading.{State, byte, ink, read_bytes, release}
use Rattle.mesh_words.proofs.Runs.{ink_kept}
use Rattle.mesh_words.proofs.Places.{place_is}
use Rattle.mesh_words.specs.Following.{Follows, inks, place_number}
use Rattle.mesh_words.specs.declared.Place.TheVariants.{Rest}
use Rattle.mesh_words.specs.declared.Reader.{Reader}
use Rattle.pattern.specs.Contents.{Pattern}
use Rattle.text.proofs.Words.{before_past, take_before}
use Rattle.text.specs.Text.{before}
use Rattle.mesh_read.proofs.Pieces.{Inner, Stepping, byte_ink, byte_refused}
use Rattle.mesh_read.specs.Runs.{is_break, stops}

-- ---- which bytes stop them

before_same : (q q' : ℕ → Bool) → ((b : ℕ) → q b ≡ q' b) → (s : List ℕ) → before q s ≡ before q' s
unfolding before
before_same q q' e [] = refl
before_same q q' e (b ∷ s) = rw (e b, before_same q q' e s)

before_none : (s : List ℕ) → before (λ (b : ℕ). true) s ≡ []
unfolding before
before_none [] = refl
before_none (b ∷ s) = refl

pub stops_held : {held : Bool} → held ≡ true → (s : List ℕ) → before (stops held) s ≡ []
stops_held {held} h s = before_same (stops held) (λ (b : ℕ). true) (λ b. rw h) s ∙ before_none s

pub stops_ink : {held : Bool} → held ≡ false → (s : List ℕ) → before (stops held) s ≡ before is_break s
stops_ink {held} h s = before_same (stops held) is_break (λ b. rw h) s

-- ---- the bytes of a word

module _ (b : ℕ) (st : State) (going : st.place < 30) (other : st.place ≡ 2 → ⊥) (free : st.held ≡ false) (no : is_break b ≡ false) where
  byte_inked : byte b st ≡ ink b st
  unfolding release
  byte_inked =
      let at : Inner b st = record { going = going; no_feed = λ e. true≢false (rw e at no); no_rest = other } in
      byte_ink at (λ e. true≢false (rw e at no)) (λ e. true≢false (rw e at no)) (λ e. true≢false (rw e at no)) ∙ rw free

read_inks : (s : List ℕ) (st : State) → st.place < 30 → (st.place ≡ 2 → ⊥) → st.held ≡ false → read_bytes (before is_break s) st ≡ inks (before is_break s) st
unfolding before read_bytes inks
read_inks [] st going other free = refl
read_inks (b ∷ s) st going other free =
    ⊎_elim
    (λ (h : is_break b ≡ true). rw h)
    (λ (h : is_break b ≡ false).
    let k = ink_kept b st in
    let e = before_past is_break b s h in
    ap (λ (l : List ℕ). read_bytes l st) e ∙ ap (read_bytes (before is_break s)) (byte_inked b st going other free h)
    ∙ read_inks s (ink b st) (k.going going) (k.no_rest other) (k.held ∙ free) ∙ sym (ap (λ (l : List ℕ). inks l st) e))
    (cases (is_break b))

-- ---- a run of a piece

module _ {st : State} {r : Reader} {p : Pattern} {index : List ℕ} (g : Follows st r p index) (going : place_number r.place < 30) (other : place_number r.place ≡ 2 → ⊥) (s : List ℕ) where
  run_read : let run = before (stops r.held) s in read_bytes run st ≡ inks run st
  unfolding read_bytes inks
  run_read =
      let h = (g.going (omega (arith, g.place))).held in
      ⊎_elim
      (λ (e : r.held ≡ true). rw (stops_held e s))
      (λ (e : r.held ≡ false). rw (stops_ink e s) (read_inks s st (omega (arith, g.place)) (λ z. other (g.place ∙ z)) (sym h ∙ e)))
      (cases r.held)

refused_stays : (s : List ℕ) (st : State) → 30 ≤ st.place → read_bytes s st ≡ st
unfolding read_bytes
refused_stays [] st h = refl
refused_stays (b ∷ s) st h = rw (byte_refused b st h) (refused_stays s st h)

module _ {piece : List ℕ} {from : Reader} {p₀ : Pattern} {index₀ : List ℕ} {i : ℕ} {r : Reader} {p : Pattern} {index : List ℕ} (s : Stepping piece from p₀ index₀ i r p index) where
  pub stepping_run : (j : ℕ) (r' : Reader) → place_number r.place < 30 → (r.place ≡ Rest → ⊥) → j ≡ i + length (before (stops r.held) (drop i piece)) → j ≤ length piece
      → ((st : State) (p : Pattern) (index : List ℕ) → Follows st r p index → Follows (inks (take (j - i) (drop i piece)) st) r' p index)
      → Stepping piece from p₀ index₀ j r' p index
  stepping_run j r' going other is h go =
      let run = before (stops r.held) (drop i piece) in
      record {
        low = h;
        follows = λ st f.
            let g = s.follows st f in
            let all : take (length run) (drop i piece) ≡ run = take_before (stops r.held) (drop i piece) in
            let cut : take (j - i) (drop i piece) ≡ run = let l : j - i ≡ length run = omega arith in rw l all in
            let parts : take j piece ≡ take i piece ++ run = rw is (take-add i (length run) piece ∙ ap (λ (l : List ℕ). take i piece ++ l) all) in
            rw (parts, pieces (take i piece) run st, run_read g going (λ e. other (place_is e)) (drop i piece)) (rw cut at (go (read_bytes (take i piece) st) p index g));
      }

  -- once refused nothing changes
  pub stepping_refused : 30 ≤ place_number r.place → (st : State) → Follows st from p₀ index₀ → Follows (read_bytes piece st) r p index
  stepping_refused h st f =
      let g = s.follows st f in
      let all : read_bytes piece st ≡ read_bytes (take i piece) st =
      ap (λ (l : List ℕ). read_bytes l st) (sym (take-append-drop i piece)) ∙ pieces (take i piece) (drop i piece) st ∙ refused_stays (drop i piece) (read_bytes (take i piece) st) (omega (arith, g.place)) in
      rw all g
