-- The end of a line.
use Rattle.mesh.specs.declared.LineFault.{LineFault}
use Rattle.std.specs.Prelude.{Err, Ok, Result}
use Rattle.std.proofs.Common.{◌≡◌, ℕ, suc, ◌%◌, ◌<◌, ◌≤◌, true, false, eqb, leb, List, [], ◌∷◌, ◌++◌, length, refl, sym, ap, ◌∙◌, ⊎_elim, arith, eq-eqb, ne_eqb, le-leb, leb-false, leb-true}
use borrow.Author.Tests.{eqb-false, lt-leb}
use Rattle.lists.proofs.Laws.{cases}
use Rattle.mesh.specs.Mesh.{Mesh, letter, numbered, side_use, with_side}
use Rattle.mesh.specs.Reading.{State, close_face, cornered, end_line, end_word, keyed, next_line, start}
use Rattle.mesh.specs.declared.LineFault.TheVariants.{NotGiven, NotNumber, TooFew}
use Rattle.mesh_draw.proofs.Points.{points_alone}
use Rattle.mesh_draw.specs.Kept.{Kept, with_edges, with_wire}
use Rattle.mesh_draw.specs.declared.Filled.{Filled}
use Rattle.mesh_words.proofs.Places.{place_is}
use Rattle.mesh_words.specs.Following.{Follows, Reads, place_number}
use Rattle.mesh_words.specs.declared.Place.TheVariants.{Between}
use Rattle.mesh_words.specs.declared.Reader.{Reader}
use Rattle.pattern.specs.Contents.{Pattern}

-- ---- a face is closed

pub kept_closed : {st : State} {r : Reader} {p : Pattern} {index : List ℕ} → Reads st r p index → 0 < st.face.corners → (f : Filled) (q : Pattern) (index' : List ℕ)
    → let es = st.mesh.edges in
    Kept (with_wire (with_edges st.mesh (with_side es r.last r.first)) (st.face.uses ++ (side_use es r.last r.first ∷ []))) [] f q index'
    → Kept (close_face st) [] f q index'
unfolding close_face
kept_closed {st} g some f q index' k =
    ⊎_elim
    (λ (h : leb (length st.mesh.points) 2048 ≡ true). let e = g.ends (leb-true (length st.mesh.points) 2048 h) some in rw (e.last, e.first) at k)
    (λ (h : leb (length st.mesh.points) 2048 ≡ false). points_alone _ (close_face st) (leb-false (length st.mesh.points) 2048 h) refl k)
    (cases (leb (length st.mesh.points) 2048))

-- ---- no word goes on after its end

module _ (st : State) where
  cornered_place : (k : Result ℕ LineFault) → (cornered k st).place ≡ 4 → ⊥
  cornered_place (Ok p) e = omega arith
  cornered_place (Err NotNumber) e = omega arith
  cornered_place (Err NotGiven) e = omega arith
  cornered_place (Err TooFew) e = omega arith

  keyed_place : (keyed st).place ≡ 4 → ⊥
  unfolding keyed
  keyed_place =
      ⊎_elim
      (λ (v : letter 118 st.word ≡ true). rw v (λ e. omega arith))
      (λ (v : letter 118 st.word ≡ false).
      ⊎_elim
      (λ (f : letter 102 st.word ≡ true). rw (v, f) (λ e. omega arith))
      (λ (f : letter 102 st.word ≡ false). rw (v, f) (λ e. omega arith))
      (cases (letter 102 st.word)))
      (cases (letter 118 st.word))

  ended_place : (end_word st).place ≡ 4 → ⊥
  unfolding end_word
  ended_place =
      ⊎_elim
      (λ (k : eqb st.place 1 ≡ true). rw k keyed_place)
      (λ (k : eqb st.place 1 ≡ false).
      ⊎_elim
      (λ (l : eqb st.place 4 ≡ true). rw (k, l) (cornered_place (numbered (length st.mesh.points) st.word)))
      (λ (l : eqb st.place 4 ≡ false). rw (k, l) (eqb-false st.place 4 l))
      (cases (eqb st.place 4)))
      (cases (eqb st.place 1))

-- ---- after the last word

module _ (st : State) {r : Reader} {p : Pattern} {index : List ℕ} (g : Follows (end_word st) r p index) where
  abbrev last : State
  last = end_word st

  pub line_refused : 30 ≤ place_number r.place → Follows (end_line st) r p index
  unfolding end_line next_line
  line_refused h = rw (le-leb 30 last.place (omega arith)) g

  module _ (h : place_number r.place < 30) (r' : Reader) where
    pub line_plain : (r.place ≡ Between → ⊥)
        → ((n : ℕ) (m : Mesh) (q : Pattern) (index' : List ℕ) → r.line ≡ n % 18446744073709551616 → Kept m [] r.filled q index' → Follows (start (suc n) m) r' q index')
        → Follows (end_line st) r' p index
    unfolding end_line next_line
    line_plain n go =
        let k = g.going (omega arith) in
        let other : last.place ≡ 3 → ⊥ = λ e. n (place_is (g.place ∙ e)) in
        let none : last.face.uses ≡ [] = k.begun (k.idle (omega (arith, other, ended_place st))) in
        rw (lt-leb 30 last.place (omega arith), ne_eqb last.place 3 other) (go last.line last.mesh p index g.line (rw none at k.kept))

    module _ (e : r.place ≡ Between) (q : Pattern) (index' : List ℕ) where
      pub line_few : r.corners < 3 → r'.line ≡ r.line → place_number r'.place ≡ 32 → Follows (end_line st) r' q index'
      unfolding end_line next_line
      line_few few l d =
          let k = g.going (omega arith) in
          rw (lt-leb 30 last.place (omega arith), eq-eqb last.place 3 (sym g.place ∙ ap place_number e), lt-leb 3 last.face.corners (omega (arith, k.corners)))
          record { line = l ∙ g.line; place = d; going = λ n. absurd (omega arith) }

      pub line_closed : 3 ≤ r.corners
          → (Follows last r p index → last.place < 30 → 0 < last.face.corners → Follows (start (suc last.line) (close_face last)) r' q index')
          → Follows (end_line st) r' q index'
      unfolding end_line next_line
      line_closed some go =
          let k = g.going (omega arith) in
          let three : 3 ≤ last.face.corners = omega (arith, k.corners) in
          rw (lt-leb 30 last.place (omega arith), eq-eqb last.place 3 (sym g.place ∙ ap place_number e), le-leb 3 last.face.corners three) (go g (omega arith) (omega arith))
