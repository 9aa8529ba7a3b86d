-- The bytes of a piece in turn.
use Rattle.std.proofs.Common.{◌≡◌, ℕ, ◌+◌, ◌<◌, ◌≤◌, true, false, eqb, leb, List, [], ◌∷◌, ◌++◌, length, get_or, take, drop, sym, refl, ap, ◌∙◌, ⊎_elim, add-one, arith, take_all, take-suc, take-add, eq-eqb, ne_eqb, le-leb, leb-false, leb-true}
use mathlib.Core.Bool.{or-true}
use borrow.Author.Tests.{lt-leb}
use Rattle.lists.proofs.Laws.{cases}
use Rattle.lists.specs.Lists.{pick}
use Rattle.mesh.proofs.Theorem.{pieces}
use Rattle.mesh.specs.Mesh.{no_mesh}
use Rattle.mesh.specs.Reading.{State, byte, end_line, end_word, holding, ink, next_line, read_bytes, reading, release, start}
use Rattle.mesh_read.specs.Pieces.{HasRead}
use Rattle.mesh_words.specs.Following.{Follows, place_number}
use Rattle.mesh_words.specs.declared.Place.TheVariants.{Rest}
use Rattle.mesh_words.specs.declared.Reader.{Reader}
use Rattle.pattern.specs.Contents.{Pattern}
use Rattle.text.proofs.Words.{before_past, take_before}
use Rattle.text.specs.Text.{before, is_blank, is_feed}

-- ---- the state after a byte

module _ (b : ℕ) (st : State) where
  pub byte_refused : 30 ≤ st.place → byte b st ≡ st
  unfolding byte
  byte_refused h = rw (le-leb 30 st.place h)

  pub byte_feed : st.place < 30 → b ≡ 10 → byte b st ≡ end_line st
  unfolding byte
  byte_feed going e = rw (lt-leb 30 st.place going, eq-eqb b 10 e)

  pub byte_rest : is_feed b ≡ false → st.place ≡ 2 → byte b st ≡ st
  unfolding byte
  byte_rest no_feed e = rw (lt-leb 30 st.place (omega arith), no_feed, eq-eqb st.place 2 e)

-- no line feed, and not passed over
pub record Inner (b : ℕ) (st : State) : Type 0 where
  pub going : st.place < 30
  pub no_feed : b ≡ 10 → ⊥
  pub no_rest : st.place ≡ 2 → ⊥

module _ {b : ℕ} {st : State} (at : Inner b st) where
  byte_inner : byte b st ≡ pick (eqb b 13) (holding true (release st)) (pick (is_blank b) (end_word (release st)) (ink b (release st)))
  unfolding byte
  byte_inner = rw (lt-leb 30 st.place at.going, ne_eqb b 10 at.no_feed, ne_eqb st.place 2 at.no_rest)

  pub byte_return : b ≡ 13 → byte b st ≡ holding true (release st)
  byte_return e = byte_inner ∙ rw (eq-eqb b 13 e)

  module _ (no_return : b ≡ 13 → ⊥) where
    pub byte_space : b ≡ 32 → byte b st ≡ end_word (release st)
    byte_space e = byte_inner ∙ rw (ne_eqb b 13 no_return, eq-eqb b 32 e)

    pub byte_tab : b ≡ 9 → byte b st ≡ end_word (release st)
    byte_tab e = byte_inner ∙ rw (ne_eqb b 13 no_return, eq-eqb b 9 e, or-true (eqb b 32))

    pub byte_ink : (b ≡ 32 → ⊥) → (b ≡ 9 → ⊥) → byte b st ≡ ink b (release st)
    byte_ink s t = byte_inner ∙ rw (ne_eqb b 13 no_return, ne_eqb b 32 s, ne_eqb b 9 t)

-- a carriage return is held back
pub follows_held : {st : State} {r : Reader} {p : Pattern} {index : List ℕ} → Follows st r p index
    → Follows (holding true st) (record { line = r.line; place = r.place; held = true; word = r.word; length = r.length; slashed = r.slashed; corners = r.corners; first = r.first; last = r.last; filled = r.filled }) p index
follows_held f = record {
  line = f.line;
  place = f.place;
  going = λ h.
      let g = f.going h in
      record {
        known = g.known;
        held = refl;
        slashed = g.slashed;
        long = g.long;
        word = g.word;
        corners = g.corners;
        ends = λ n s. record { first = (g.ends n s).first; last = (g.ends n s).last };
        begun = g.begun;
        idle = g.idle;
        kept = g.kept;
      };
}

-- ---- the bytes before a line feed are passed over

rest_passed : (s : List ℕ) (st : State) → st.place ≡ 2 → read_bytes (before is_feed s) st ≡ st
unfolding before read_bytes
rest_passed [] st e = refl
rest_passed (b ∷ s) st e =
    ⊎_elim
    (λ (h : is_feed b ≡ true). rw h)
    (λ (h : is_feed b ≡ false). ap (λ (l : List ℕ). read_bytes l st) (before_past is_feed b s h) ∙ ap (read_bytes (before is_feed s)) (byte_rest b st h e) ∙ rest_passed s st e)
    (cases (is_feed b))

-- ---- a piece up to i

pub record Stepping (piece : List ℕ) (from : Reader) (p₀ : Pattern) (index₀ : List ℕ) (i : ℕ) (r : Reader) (p : Pattern) (index : List ℕ) : Type 0 where
  pub low : i ≤ length piece
  pub follows : (st : State) → Follows st from p₀ index₀ → Follows (read_bytes (take i piece) st) r p index

pub stepping_start : (piece : List ℕ) (r : Reader) (p : Pattern) (index : List ℕ) → Stepping piece r p index 0 r p index
unfolding read_bytes
stepping_start piece r p index = record { low = omega arith; follows = λ st f. f }

module _ {piece : List ℕ} {from : Reader} {p₀ : Pattern} {index₀ : List ℕ} {i : ℕ} {r : Reader} {p : Pattern} {index : List ℕ} (s : Stepping piece from p₀ index₀ i r p index) where
  -- what is passed over
  pub stepping_past : (j : ℕ) → r.place ≡ Rest → j ≡ i + length (before is_feed (drop i piece)) → j ≤ length piece → Stepping piece from p₀ index₀ j r p index
  stepping_past j e is h =
      record {
        low = h;
        follows = λ st f.
            let g = s.follows st f in
            let parts : take j piece ≡ take i piece ++ before is_feed (drop i piece) =
            rw is (take-add i (length (before is_feed (drop i piece))) piece ∙ ap (λ (l : List ℕ). take i piece ++ l) (take_before is_feed (drop i piece))) in
            rw (parts, pieces (take i piece) (before is_feed (drop i piece)) st, rest_passed (drop i piece) (read_bytes (take i piece) st) (sym g.place ∙ ap place_number e)) g;
      }

  pub stepping_next : (r' : Reader) (p' : Pattern) (index' : List ℕ) → i < length piece
      → ((st : State) → Follows st r p index → Follows (byte (get_or piece i 0) st) r' p' index') → Stepping piece from p₀ index₀ (i + 1) r' p' index'
  unfolding read_bytes
  stepping_next r' p' index' h go =
      record {
        low = omega arith;
        follows = λ st f. rw (add-one i, take-suc piece i 0 h, pieces (take i piece) (get_or piece i 0 ∷ []) st) (go (read_bytes (take i piece) st) (s.follows st f));
      }

  pub stepping_all : length piece ≤ i → (st : State) → Follows st from p₀ index₀ → Follows (read_bytes piece st) r p index
  stepping_all h st f = rw (take_all i piece h) at (s.follows st f)

-- ---- all bytes so far

module _ {from r : Reader} {p₀ p : Pattern} {index₀ index : List ℕ} (piece : List ℕ) where
  pub read_more : ((st : State) → Follows st from p₀ index₀ → Follows (read_bytes piece st) r p index) → (s : List ℕ) → HasRead s from p₀ index₀ → HasRead (s ++ piece) r p index
  read_more step s w = rw (pieces s piece (start 1 no_mesh)) (step (reading s) w)

refused_ends : (st : State) → 30 ≤ st.place → end_line st ≡ st
unfolding end_line next_line end_word
refused_ends st h = rw (ne_eqb st.place 1 (λ e. omega arith), ne_eqb st.place 4 (λ e. omega arith), le-leb 30 st.place h)

-- the end of a mesh is that of its last line
pub line_read : (s : List ℕ) → reading (s ++ (10 ∷ [])) ≡ end_line (reading s)
unfolding read_bytes
line_read s =
    let st = reading s in
    pieces s (10 ∷ []) (start 1 no_mesh)
    ∙ ⊎_elim
    (λ (h : leb 30 st.place ≡ true). let l = leb-true 30 st.place h in byte_refused 10 st l ∙ sym (refused_ends st l))
    (λ (h : leb 30 st.place ≡ false). byte_feed 10 st (leb-false 30 st.place h) refl)
    (cases (leb 30 st.place))
