-- No byte yet; the end of a word: a reader follows them.
use Rattle.std.specs.Prelude.{Err, Ok, Result}
use Prim.Native.Nat.{◌+◌, ◌-◌, ◌<◌, ◌≤◌, min, ℕ}
use mathlib.Core.Bool.{false, true}
use mathlib.Core.List.{List, [], ◌++◌, ◌∷◌}
use mathlib.Core.Logic.{⊎_elim}
use mathlib.Core.Path.{◌∙◌, ◌≡◌, ap, refl, sym}
use native.Mathlib.Omega.{arith}
use lib.Dec.{eqb, leb}
use lib.ListN.{get_or, length, take}
use lib.Seq.{get_or-take}
use borrow.Author.Tests.{eq-eqb, leb-false, leb-true, ne_eqb}
use Rattle.lists.proofs.Laws.{cases}
use Rattle.lists.specs.Lists.{flat}
use Rattle.mesh.specs.Mesh.{Mesh, letter, no_mesh, numbered, point_of, side_use, with_point, with_side}
use Rattle.mesh.specs.Reading.{State, corner_at, cornered, end_word, keyed, moved, side_to}
use Rattle.mesh.specs.declared.LineFault.{LineFault}
use Rattle.mesh_draw.proofs.Points.{points_alone}
use Rattle.mesh_draw.proofs.Tables.{tabled_whole}
use Rattle.mesh_draw.specs.Kept.{Kept, with_edges}
use Rattle.mesh_draw.specs.declared.Filled.{Filled}
use Rattle.mesh_edges.specs.Index.{Indexed}
use Rattle.mesh_words.proofs.Naming.{named_at, named_near, named_not, numbered_first}
use Rattle.mesh_words.proofs.Places.{fault_high}
use Rattle.mesh_words.proofs.Spelling.{facing, placed, reads_drawn, reads_moved}
use Rattle.mesh_words.specs.Following.{Follows, Reads}
use Rattle.mesh_words.specs.declared.Place.TheVariants.{Between, Refused, Rest}
use Rattle.mesh_words.specs.declared.Reader.{Reader}
use Rattle.pattern.specs.Contents.{Pattern}
use Rattle.words.specs.Words.{short}

-- ---- before the first byte

module _ (p : Pattern) (index : List ℕ) (none : Indexed [] index) (f : Filled) where
  pub kept_none : (f.points ≡ 0) × (f.edges ≡ 0) × (f.uses ≡ 0) × (f.begun ≡ 0) × (f.faces ≡ 0) → Kept no_mesh [] f p index
  unfolding flat
  kept_none e = record {
    points = omega arith;
    labels = refl;
    edges = λ few. record {
      count = omega arith;
      sides = λ fewer. record {
        edges = refl;
        indexed = none;
        used = omega arith;
        uses = refl;
        faces = omega arith;
        wires = λ fewest. record { begun = omega arith; table = refl };
      };
    };
  }

-- ---- the first word of a line

module _ {st : State} {r : Reader} {p : Pattern} {index : List ℕ} (f : Follows st r p index) (at : st.place ≡ 1) where
  reads : Reads st r p index
  reads = f.going (omega arith)

  idle : st.face.corners ≡ 0
  idle = reads.idle (omega arith)

  letter_long : (r.length ≡ 1 → ⊥) → (b : ℕ) → letter b st.word ≡ false
  letter_long h b = rw (ne_eqb (length st.word) 1 (λ e. h (omega (arith, reads.long))))

  letter_one : r.length ≡ 1 → (b : ℕ) → letter b st.word ≡ eqb (get_or r.word 0 0) b
  letter_one h b =
      let one : length st.word ≡ 1 = omega (arith, reads.long) in
      let is : take 1 r.word ≡ st.word = rw one at (tabled_whole 11 r.word st.word (omega arith) reads.word) in
      rw (one, ← is, get_or-take 1 r.word 0 0 (omega arith))

  key_rest : (letter 118 st.word ≡ false) → (letter 102 st.word ≡ false) → Follows (keyed st) (placed Rest r) p index
  unfolding keyed
  key_rest v k = rw (v, k) (record { line = f.line; place = refl; going = λ l. reads_moved reads Rest 2 (omega arith) (λ b. idle) })

  pub key_long : (r.length ≡ 1 → ⊥) → Follows (keyed st) (placed Rest r) p index
  key_long h = key_rest (letter_long h 118) (letter_long h 102)

  module _ (one : r.length ≡ 1) where
    pub key_other : (get_or r.word 0 0 ≡ 118 → ⊥) → (get_or r.word 0 0 ≡ 102 → ⊥) → Follows (keyed st) (placed Rest r) p index
    key_other v k = key_rest (letter_one one 118 ∙ ne_eqb (get_or r.word 0 0) 118 v) (letter_one one 102 ∙ ne_eqb (get_or r.word 0 0) 102 k)

    pub key_face : get_or r.word 0 0 ≡ 102 → Follows (keyed st) (placed Between r) p index
    unfolding keyed
    key_face h =
        rw (letter_one one 118, letter_one one 102, h)
        (record {
          line = f.line;
          place = refl;
          going = λ l. reads_drawn reads (omega arith) (reads.corners ∙ rw idle) (λ few some. absurd (omega arith)) (λ e. refl) (λ b. refl) (rw (reads.begun idle) at reads.kept);
        })

    pub key_point : get_or r.word 0 0 ≡ 118 → {p' : Pattern} {filled : Filled}
        → (Kept st.mesh st.face.uses r.filled p index → Kept (with_point st.mesh st.line) st.face.uses filled p' index)
        → Follows (keyed st) (facing Rest r.corners r.first r.last filled r) p' index
    unfolding keyed
    key_point h more =
        rw (letter_one one 118, h)
        (record {
          line = f.line;
          place = refl;
          going = λ l. reads_drawn reads (omega arith) reads.corners (λ few some. absurd (omega (arith, idle))) reads.begun (λ b. idle) (more reads.kept);
        })

-- ---- a point of a face

module _ (m : Mesh) (us : List ℕ) (f : Filled) (p : Pattern) (index : List ℕ) where
  abbrev SideKept : ℕ → ℕ → Type 0
  SideKept a b = Kept (with_edges m (with_side m.edges a b)) (us ++ (side_use m.edges a b ∷ [])) f p index

  -- which points they are counts only where the points are within their limit
  side_kept : {a b a' b' : ℕ} → (length m.points ≤ 2048 → a ≡ a') → (length m.points ≤ 2048 → b ≡ b') → SideKept a b → SideKept a' b'
  side_kept from to k =
      ⊎_elim
      (λ (h : leb (length m.points) 2048 ≡ true). let few = leb-true (length m.points) 2048 h in rw (← from few, ← to few) k)
      (λ (h : leb (length m.points) 2048 ≡ false).
      points_alone _ _ (leb-false (length m.points) 2048 h) refl k)
      (cases (leb (length m.points) 2048))

module _ {st : State} {r : Reader} {p : Pattern} {index : List ℕ} (f : Follows st r p index) (at : st.place ≡ 4) {a q : ℕ}
    (same : length st.mesh.points ≤ 2048 → a ≡ q) where
  within : Reads st r p index
  within = f.going (omega arith)

  pub corner_first : r.corners ≡ 0 → Follows (moved 3 (corner_at q st)) (facing Between 1 a a r.filled r) p index
  unfolding corner_at
  corner_first h =
      let none : st.face.corners ≡ 0 = omega (arith, within.corners) in
      rw (eq-eqb st.face.corners 0 none)
      (record {
        line = f.line;
        place = refl;
        going = λ l. reads_drawn within (omega arith) refl (λ few some. (same few, same few)) (λ e. refl) (λ b. absurd (omega arith)) (rw (within.begun none) at within.kept);
      })

  pub corner_next : (r.corners ≡ 0 → ⊥) → {n : ℕ} → n ≡ min (r.corners + 1) 3 → {p' : Pattern} {index' : List ℕ} {filled : Filled}
      → (Kept st.mesh st.face.uses r.filled p index → SideKept st.mesh st.face.uses filled p' index' r.last a)
      → Follows (moved 3 (corner_at q st)) (facing Between n r.first a filled r) p' index'
  unfolding corner_at side_to
  corner_next h is {p'} {index'} {filled} more =
      let some : 0 < st.face.corners = omega (arith, within.corners, h) in
      rw (ne_eqb st.face.corners 0 (λ e. omega arith))
      (record {
        line = f.line;
        place = refl;
        going = λ l.
            reads_drawn within (omega arith) (omega (arith, within.corners)) (λ few any. ((within.ends few some).first, same few)) (λ e. absurd (omega arith)) (λ b. absurd (omega arith))
            (side_kept st.mesh st.face.uses filled p' index' (λ few. (within.ends few some).last) same (more within.kept));
      })

-- ---- the end of a word

module _ (st : State) where
  pub end_key : st.place ≡ 1 → end_word st ≡ keyed st
  unfolding end_word
  end_key h = rw h

  end_corner : st.place ≡ 4 → end_word st ≡ cornered (numbered (length st.mesh.points) st.word) st
  unfolding end_word
  end_corner h = rw h

  pub end_none : (st.place ≡ 1 → ⊥) → (st.place ≡ 4 → ⊥) → end_word st ≡ st
  unfolding end_word
  end_none h k = rw (ne_eqb st.place 1 h, ne_eqb st.place 4 k)

module _ {st : State} {r : Reader} {p : Pattern} {index : List ℕ} (f : Follows st r p index) (at : st.place ≡ 4) where
  -- what it names, and what the reader is told of it
  abbrev Named : Result ℕ LineFault
  Named = numbered (length st.mesh.points) st.word

  abbrev Told : Result ℕ LineFault
  Told = numbered r.filled.points (take (r.length - 0) r.word)

  pub within_table : r.length ≤ 11
  within_table = omega (arith, (f.going (omega arith)).long)

  told : Told ≡ numbered (min (length st.mesh.points) 999999999) st.word
  told =
      let g = f.going (omega arith) in
      let n : r.length - 0 ≡ min (length st.word) 11 = omega (arith, g.long) in
      rw (g.kept.points, n, g.word) (numbered_first (min (length st.mesh.points) 999999999) st.word)

  pub end_not : {fault : LineFault} → Told ≡ Err fault → Follows (end_word st) (placed (Refused fault) r) p index
  end_not {fault} e =
      rw (end_corner st at, named_not (length st.mesh.points) st.word fault (sym told ∙ e))
      (record { line = f.line; place = refl; going = λ l. absurd (omega (arith, fault_high fault)) })

  module _ {a : ℕ} (e : Told ≡ Ok a) where
    pub end_at : end_word st ≡ moved 3 (corner_at (point_of Named) st)
    end_at = end_corner st at ∙ ap (λ (c : Result ℕ LineFault). cornered c st) (named_at (length st.mesh.points) st.word a (sym told ∙ e))

    pub end_near : length st.mesh.points ≤ 2048 → short a ≡ point_of Named
    end_near = named_near (length st.mesh.points) st.word a (sym told ∙ e)
