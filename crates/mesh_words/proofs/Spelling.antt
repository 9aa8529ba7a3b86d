-- The bytes of a word: a reader follows them.
use Prim.Native.Nat.{◌+◌, ◌<◌, ◌≤◌, min, ℕ}
use mathlib.Core.Bool.{Bool, ◌&&◌, ◌||◌, false, true}
use mathlib.Core.List.{List, [], ◌++◌, ◌∷◌}
use mathlib.Core.Logic.{⊎_elim}
use mathlib.Core.Path.{◌∙◌, ◌≡◌, ap, refl, sym}
use native.Mathlib.Omega.{arith}
use lib.Dec.{eqb, ltb}
use lib.ListN.{length, length-append, set}
use borrow.Author.Tests.{eq-eqb, eqb-true, ltb-false, ltb-true, ne_eqb}
use Rattle.lists.proofs.Laws.{cases}
use Rattle.mesh.specs.Mesh.{Mesh, is_slash}
use Rattle.mesh.specs.Reading.{Drawing, State, drawn, holding, ink, moved, release, spell, spelled}
use Rattle.mesh_draw.proofs.Tables.{tabled_next, tabled_over}
use Rattle.mesh_draw.specs.Kept.{Kept, Tabled}
use Rattle.mesh_draw.specs.declared.Filled.{Filled}
use Rattle.mesh_words.proofs.Places.{place_is}
use Rattle.mesh_words.specs.Following.{Follows, Reads, place_number}
use Rattle.mesh_words.specs.declared.Place.{Place}
use Rattle.mesh_words.specs.declared.Place.TheVariants.{Word}
use Rattle.mesh_words.specs.declared.Reader.{Reader}
use Rattle.pattern.specs.Contents.{Pattern}

-- ---- a reader with another word; at another place, with another face

abbrev written : Bool → List ℕ → ℕ → Bool → Reader → Reader
written h w n s r = record { line = r.line; place = r.place; held = h; word = w; length = n; slashed = s; corners = r.corners; first = r.first; last = r.last; filled = r.filled }

abbrev pub worded : List ℕ → ℕ → Bool → Reader → Reader
worded w n s r = written r.held w n s r

abbrev pub facing : Place → ℕ → ℕ → ℕ → Filled → Reader → Reader
facing k n a b f r = record { line = r.line; place = k; held = r.held; word = r.word; length = r.length; slashed = r.slashed; corners = n; first = a; last = b; filled = f }

abbrev pub placed : Place → Reader → Reader
placed k r = facing k r.corners r.first r.last r.filled r

module _ {st : State} {r : Reader} {p : Pattern} {index : List ℕ} (g : Reads st r p index) where
  reads_written : {h h' s s' : Bool} {table w : List ℕ} {n : ℕ} → h ≡ h' → s ≡ s' → n ≡ min (length w) 11 → Tabled 11 table w
      → Reads (holding h' (spelled w s' st)) (written h table n s r) p index
  reads_written held slashed long word = record {
    known = g.known;
    held = held;
    slashed = slashed;
    long = long;
    word = word;
    corners = g.corners;
    ends = λ few some. let e = g.ends few some in record { first = e.first; last = e.last };
    begun = g.begun;
    idle = g.idle;
    kept = g.kept;
  }

  pub reads_drawn : {k n a b : ℕ} {at : Place} {f : Filled} {m : Mesh} {d : Drawing} {p' : Pattern} {index' : List ℕ} → k < 5 → n ≡ min d.corners 3
      → (length m.points ≤ 2048 → 0 < d.corners → (a ≡ d.first) × (b ≡ d.last)) → (d.corners ≡ 0 → d.uses ≡ [])
      → (k < 3 → d.corners ≡ 0) → Kept m d.uses f p' index' → Reads (moved k (drawn m d st)) (facing at n a b f r) p' index'
  reads_drawn known corners ends begun idle kept = record {
    known = known;
    held = g.held;
    slashed = g.slashed;
    long = g.long;
    word = g.word;
    corners = corners;
    ends = λ few some. let e = ends few some in record { first = e.0; last = e.1 };
    begun = begun;
    idle = idle;
    kept = kept;
  }

  pub reads_moved : (at : Place) (k : ℕ) → k < 5 → (k < 3 → st.face.corners ≡ 0) → Reads (moved k st) (placed at r) p index
  reads_moved at k known idle = reads_drawn known g.corners (λ few some. let e = g.ends few some in (e.first, e.last)) g.begun idle g.kept

-- ---- a byte

not_slash : (k b : ℕ) → (k ≡ 4 → b ≡ 47 → ⊥) → (eqb k 4 && is_slash b) ≡ false
not_slash k b h =
    ⊎_elim
    (λ (e : eqb k 4 ≡ true). rw (e, ne_eqb b 47 (h (eqb-true k 4 e))))
    (λ (e : eqb k 4 ≡ false). rw e)
    (cases (eqb k 4))

module _ (b : ℕ) {st : State} {r : Reader} {p : Pattern} {index : List ℕ} (f : Follows st r p index) where
  abbrev Spells : Reader → Type 0
  Spells r' = Follows (spell b st) r' p index

  -- once refused, only line and place count
  spell_refused : (w : List ℕ) (n : ℕ) (s : Bool) → 30 ≤ st.place → Spells (worded w n s r)
  spell_refused w n s h =
      let out : (v : List ℕ) (t : Bool) → Follows (spelled v t st) (worded w n s r) p index = λ v t. record { line = f.line; place = f.place; going = λ l. absurd (omega arith) } in
      ⊎_elim
      (λ (e : (st.slashed || (eqb st.place 4 && is_slash b)) ≡ true). rw e (out st.word true))
      (λ (e : (st.slashed || (eqb st.place 4 && is_slash b)) ≡ false). rw e (out (st.word ++ (b ∷ [])) false))
      (cases (st.slashed || (eqb st.place 4 && is_slash b)))

  spell_going : (w : List ℕ) (n : ℕ) (s : Bool) → (Reads st r p index → Spells (worded w n s r)) → Spells (worded w n s r)
  spell_going w n s go =
      ⊎_elim
      (λ (h : ltb st.place 30 ≡ true). go (f.going (ltb-true st.place 30 h)))
      (λ (h : ltb st.place 30 ≡ false). spell_refused w n s (ltb-false st.place 30 h))
      (cases (ltb st.place 30))

  pub spell_past : r.slashed ≡ true → Spells r
  spell_past h =
      spell_going r.word r.length r.slashed (λ g.
      rw (sym g.slashed ∙ h) (record { line = f.line; place = f.place; going = λ l. reads_written g g.held h g.long g.word }))

  module _ (unslashed : r.slashed ≡ false) where
    pub spell_slash : r.place ≡ Word → b ≡ 47 → Spells (worded r.word r.length true r)
    spell_slash at is =
        spell_going r.word r.length true (λ g.
        rw (sym g.slashed ∙ unslashed, eq-eqb st.place 4 (sym f.place ∙ ap place_number at), eq-eqb b 47 is)
        (record { line = f.line; place = f.place; going = λ l. reads_written g g.held refl g.long g.word }))

    module _ (plain : r.place ≡ Word → b ≡ 47 → ⊥) where
      spell_more : (w : List ℕ) (n : ℕ) → (Reads st r p index → (n ≡ min (length (st.word ++ (b ∷ []))) 11) × Tabled 11 w (st.word ++ (b ∷ []))) → Spells (worded w n r.slashed r)
      spell_more w n more =
          spell_going w n r.slashed (λ g.
          rw (sym g.slashed ∙ unslashed, not_slash st.place b (λ e. plain (place_is (f.place ∙ e))))
          (record { line = f.line; place = f.place; going = λ l. let m = more g in reads_written g g.held unslashed m.0 m.1 }))

      pub spell_over : 11 ≤ r.length → Spells r
      spell_over h = spell_more r.word r.length (λ g.
          let l : 11 ≤ length st.word = omega (arith, g.long) in
          (omega (arith, g.long, length-append st.word (b ∷ [])), tabled_over 11 r.word st.word (b ∷ []) l g.word))

      pub spell_next : r.length < 11 → length r.word ≡ 11 → Spells (worded (set r.word r.length b) (r.length + 1) r.slashed r)
      spell_next h long = spell_more (set r.word r.length b) (r.length + 1) (λ g.
          let e : r.length ≡ length st.word = omega (arith, g.long) in
          (omega (arith, g.long, length-append st.word (b ∷ [])), rw e (tabled_next 11 r.word st.word b long (omega (arith, g.long)) g.word)))

-- ---- the first byte of a word, at another place

module _ {st : State} {r : Reader} {p : Pattern} {index : List ℕ} (f : Follows st r p index) (going : st.place < 30) where
  pub begun : (at : Place) → let k = place_number at in k < 5 → (k < 3 → st.place < 3) → Follows (spelled [] false (moved k st)) (worded r.word 0 false (placed at r)) p index
  begun at known h = let g = f.going going in record { line = f.line; place = refl; going = λ l. reads_written (reads_moved g at _ known (λ b. g.idle (h b))) g.held refl refl refl }

module _ (b : ℕ) (st : State) where
  pub ink_first : st.place ≡ 0 → ink b st ≡ spell b (spelled [] false (moved 1 st))
  unfolding ink
  ink_first h = rw h

  pub ink_word : st.place ≡ 3 → ink b st ≡ spell b (spelled [] false (moved 4 st))
  unfolding ink
  ink_word h = rw h

  pub ink_later : (st.place ≡ 0 → ⊥) → (st.place ≡ 3 → ⊥) → ink b st ≡ spell b st
  unfolding ink
  ink_later h k = rw (ne_eqb st.place 0 h, ne_eqb st.place 3 k)

-- ---- a carriage return that was held back

module _ {st : State} {r : Reader} {p : Pattern} {index : List ℕ} (f : Follows st r p index) (going : st.place < 30) where
  pub held_back : (h : Bool) → Follows (holding h st) (written h r.word r.length r.slashed r) p index
  held_back h = let g = f.going going in record { line = f.line; place = f.place; going = λ l. reads_written g refl g.slashed g.long g.word }

  pub release_held : r.held ≡ true → release st ≡ ink 13 (holding false st)
  unfolding release
  release_held h = rw (sym (f.going going).held ∙ h)

  pub release_none : r.held ≡ false → release st ≡ st
  unfolding release
  release_none h = rw (sym (f.going going).held ∙ h)
