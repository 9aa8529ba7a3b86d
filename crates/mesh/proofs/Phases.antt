-- The places of a line while its bytes are read, and what comes of the line from each of them.
use Rattle.std.specs.Prelude.{Err, Ok, Result}
use Prim.Native.Nat.{◌+◌, suc, ℕ}
use mathlib.Core.Bool.{Bool, ◌||◌, and-false, false, true}
use mathlib.Core.List.{List, [], ◌++◌, ◌∷◌, append_assoc, map}
use mathlib.Core.Logic.{⊎_elim}
use mathlib.Core.Path.{◌∙◌, ◌≡◌, ap, refl}
use native.Mathlib.Nat.{zero-add}
use native.Mathlib.Omega.{arith}
use lib.Dec.{eqb, leb}
use lib.ListN.{get_or, length}
use borrow.Author.Tests.{eqb-true, ne_eqb}
use Rattle.lists.proofs.Count.{All, all_append}
use Rattle.lists.proofs.Laws.{cases, right_true}
use Rattle.lists.specs.Lists.{flat, pick, unless}
use Rattle.text.specs.Text.{words}
use Rattle.mesh.specs.Mesh.{Mesh, corner, corner_faults, fault_number, is_slash, letter, line_faults, line_mesh, numbered, point_of, side, sides, with_face, with_point}
use Rattle.mesh.specs.Reading.{Drawing, State, corner_at, drawn, end_word, holding, ink, keyed, moved, no_drawing, side_to, spelled, start, with_sides}
use Rattle.mesh.specs.declared.LineFault.{LineFault}
use Rattle.mesh.specs.declared.LineFault.TheVariants.{NotGiven, NotNumber, TooFew}
use Rattle.mesh.proofs.Words.{Break, Ink, Spelled, spelled_all, spelled_next, spelled_none, words_break, words_word}

-- ---- what comes of a line

abbrev pub result : List LineFault → Mesh → Result Mesh LineFault
result [] m = Ok m
result (f ∷ fs) m = Err f

abbrev pub line_result : ℕ → Mesh → List (List ℕ) → Result Mesh LineFault
line_result n m ws = result (line_faults (length m.points) ws) (line_mesh n m ws)

-- the mesh once the face goes on to these points
abbrev pub face_mesh : Mesh → Drawing → List ℕ → Mesh
face_mesh m d ps =
    let e = sides (record { edges = m.edges; uses = d.uses }) d.last (ps ++ (d.first ∷ [])) in
    pick (eqb d.corners 0) (with_face m ps) (record { points = m.points; edges = e.edges; wires = m.wires ++ (e.uses ∷ []) })

-- the rest of an `f` has these words
abbrev pub face_result : Mesh → Drawing → List (List ℕ) → Result Mesh LineFault
face_result m d ws =
    let given = length m.points in
    result
    (flat (map (λ (w : List ℕ). corner_faults (corner given w)) ws) ++ unless (leb 3 (d.corners + length ws)) TooFew)
    (face_mesh m d (map (λ (w : List ℕ). point_of (corner given w)) ws))

-- ---- the places, each with the mesh so far and what else the state holds

pub data Phase : Type 0 where
  idle : Mesh → Phase
  -- in the first word, whose bytes so far are these
  key : Mesh → (b : ℕ) (w : List ℕ) → All Ink (b ∷ w) → Phase
  -- the rest of the line is passed over
  past : Mesh → List ℕ → Phase
  -- between the words of an `f`, and in one of them, with the part up to a slash
  face : Mesh → Drawing → List ℕ → Bool → Phase
  within : Mesh → Drawing → (b : ℕ) (w v : List ℕ) (slashed : Bool) → All Ink (b ∷ w) → Spelled (b ∷ w) v slashed → Phase
  stopped : LineFault → Mesh → Drawing → List ℕ → Bool → Phase

-- the state of each, with no carriage return held back
abbrev pub shape : ℕ → Phase → State
shape n (idle m) = start n m
shape n (key m b w i) = spelled (b ∷ w) false (moved 1 (start n m))
shape n (past m w) = spelled w false (moved 2 (start n m))
shape n (face m d w s) = drawn m d (spelled w s (moved 3 (start n m)))
shape n (within m d b w v s i e) = drawn m d (spelled v s (moved 4 (start n m)))
shape n (stopped f m d w s) = drawn m d (spelled w s (moved (fault_number f) (start n m)))

abbrev pub state : ℕ → Bool → Phase → State
state n h p = holding h (shape n p)

-- what comes of the line if these bytes are left of it
abbrev pub ahead : ℕ → Phase → List ℕ → Result Mesh LineFault
ahead n (idle m) u = line_result n m (words u)
ahead n (key m b w i) u = line_result n m (words (b ∷ (w ++ u)))
ahead n (past m w) u = Ok m
ahead n (face m d w s) u = face_result m d (words u)
ahead n (within m d b w v s i e) u = face_result m d (words (b ∷ (w ++ u)))
ahead n (stopped f m d w s) u = Err f

-- a byte of a word can follow
abbrev pub Live : Phase → Type 0
Live (idle m) = Unit {0}
Live (key m b w i) = Unit {0}
Live (past m w) = ⊥
Live (face m d w s) = Unit {0}
Live (within m d b w v s i e) = Unit {0}
Live (stopped f m d w s) = ⊥

-- in no word
abbrev pub Settled : Phase → Type 0
Settled (idle m) = Unit {0}
Settled (key m b w i) = ⊥
Settled (past m w) = Unit {0}
Settled (face m d w s) = Unit {0}
Settled (within m d b w v s i e) = ⊥
Settled (stopped f m d w s) = Unit {0}

-- ---- a byte of a word

-- the place after it, from which the same comes of the line
pub record Inked (n : ℕ) (h : Bool) (b : ℕ) (p : Phase) : Type 0 where
  pub to : Phase
  pub live : Live to
  pub is : ink b (state n h p) ≡ state n h to
  pub same : (u : List ℕ) → ahead n p (b ∷ u) ≡ ahead n to u

spell_is : (slashed : Bool) (v : List ℕ) (b : ℕ) (st : State)
    → pick slashed (spelled v true st) (spelled (v ++ (b ∷ [])) false st) ≡ spelled (pick slashed v (v ++ (b ∷ []))) slashed st
spell_is true v b st = refl
spell_is false v b st = refl

pub inked : (n : ℕ) (h : Bool) (b : ℕ) (p : Phase) → Live p → Ink b → Inked n h b p
unfolding ink
inked n h b (idle m) l i = record { to = key m b [] (i, tt); live = tt; is = refl; same = λ u. refl }
inked n h b (key m c w k) l i = record {
  to = key m c (w ++ (b ∷ [])) (k.0, all_append Ink w (b ∷ []) k.1 (i, tt));
  live = tt;
  is = refl;
  same = λ u. rw (append_assoc w (b ∷ []) u);
}
inked n h b (past m w) l i = absurd l
inked n h b (face m d w s) l i = record {
  to = within m d b [] (pick (is_slash b) [] (b ∷ [])) (is_slash b) (i, tt) (spelled_next [] [] false b spelled_none);
  live = tt;
  is = spell_is (is_slash b) [] b (moved 4 (state n h (face m d w s)));
  same = λ u. refl;
}
inked n h b (within m d c w v s k e) l i = record {
  to = within m d c (w ++ (b ∷ [])) (pick (s || is_slash b) v (v ++ (b ∷ []))) (s || is_slash b) (k.0, all_append Ink w (b ∷ []) k.1 (i, tt)) (spelled_next (c ∷ w) v s b e);
  live = tt;
  is = spell_is (s || is_slash b) v b (state n h (within m d c w v s k e));
  same = λ u. rw (append_assoc w (b ∷ []) u);
}
inked n h b (stopped f m d w s) l i = absurd l

-- ---- the end of a word

-- the place after it, from which the same comes of the line
pub record Parted (n : ℕ) (h : Bool) (p : Phase) : Type 0 where
  pub to : Phase
  pub settled : Settled to
  pub is : end_word (state n h p) ≡ state n h to
  pub same : (v u : List ℕ) → Break v u → ahead n p v ≡ ahead n to u

-- no word is both keywords
letters : (w : List ℕ) → letter 118 w ≡ true → letter 102 w ≡ false
letters w h =
    let e : get_or w 0 0 ≡ 118 = eqb-true (get_or w 0 0) 118 (right_true (eqb (length w) 1) (eqb (get_or w 0 0) 118) h) in
    rw (e, and-false)

-- the words of an `f` begin
face_none : (m : Mesh) (ws : List (List ℕ)) (n : ℕ) (w : List ℕ) → letter 118 w ≡ false → letter 102 w ≡ true
    → line_result n m (w ∷ ws) ≡ face_result m no_drawing ws
unfolding line_faults line_mesh
face_none m ws n w k l = rw (k, l, zero-add)

parted_key : (n : ℕ) (h : Bool) (m : Mesh) (b : ℕ) (w : List ℕ) (i : All Ink (b ∷ w)) → Parted n h (key m b w i)
unfolding end_word keyed line_faults line_mesh
parted_key n h m b w i =
    ⊎_elim
    (λ (k : letter 118 (b ∷ w) ≡ true). record {
      to = past (with_point m n) (b ∷ w);
      settled = tt;
      is = rw k;
      same = λ v u e. rw (words_word b w i e, letters (b ∷ w) k, k);
    })
    (λ (k : letter 118 (b ∷ w) ≡ false).
    ⊎_elim
    (λ (l : letter 102 (b ∷ w) ≡ true). record {
      to = face m no_drawing (b ∷ w) false;
      settled = tt;
      is = rw (k, l);
      same = λ v u e. ap (line_result n m) (words_word b w i e) ∙ face_none m (words u) n (b ∷ w) k l;
    })
    (λ (l : letter 102 (b ∷ w) ≡ false). record {
      to = past m (b ∷ w);
      settled = tt;
      is = rw (k, l);
      same = λ v u e. rw (words_word b w i e, k, l);
    })
    (cases (letter 102 (b ∷ w))))
    (cases (letter 118 (b ∷ w)))

-- a word of an `f`
module _ (m : Mesh) (d : Drawing) (w : List ℕ) (ws : List (List ℕ)) where
  face_not : (f : LineFault) → corner (length m.points) w ≡ Err f → face_result m d (w ∷ ws) ≡ Err f
  unfolding flat
  face_not f e = rw e

  module _ (p : ℕ) (e : corner (length m.points) w ≡ Ok p) where
    face_first : eqb d.corners 0 ≡ true → face_result m d (w ∷ ws) ≡ face_result m (record { corners = 1; first = p; last = p; uses = [] }) ws
    unfolding flat sides
    face_first z =
        let c : d.corners ≡ 0 = eqb-true d.corners 0 z in
        let k : 0 + suc (length ws) ≡ 1 + length ws = omega arith in
        rw (e, c, k)

    face_next : eqb d.corners 0 ≡ false
        → (let t = side (record { edges = m.edges; uses = d.uses }) d.last p in
        face_result m d (w ∷ ws) ≡ face_result (with_sides m t) (record { corners = d.corners + 1; first = d.first; last = p; uses = t.uses }) ws)
    unfolding flat sides
    face_next z =
        let c : d.corners + suc (length ws) ≡ d.corners + 1 + length ws = omega arith in
        rw (e, z, c, ne_eqb (d.corners + 1) 0 (λ x. omega arith))

parted_within : (n : ℕ) (h : Bool) (m : Mesh) (d : Drawing) (b : ℕ) (w v : List ℕ) (s : Bool) (i : All Ink (b ∷ w)) (e : Spelled (b ∷ w) v s)
    → Parted n h (within m d b w v s i e)
unfolding end_word corner_at side_to
parted_within n h m d b w v s i e = at (numbered (length m.points) v) refl
  where
    at : (c : Result ℕ LineFault) → numbered (length m.points) v ≡ c → Parted n h (within m d b w v s i e)
    at (Err f) k =
        let is : corner (length m.points) (b ∷ w) ≡ Err f = ap (numbered (length m.points)) (spelled_all (b ∷ w) v s e) ∙ k in
        record {
          to = stopped f m d v s;
          settled = tt;
          is = rw k;
          same = λ y u x. ap (face_result m d) (words_word b w i x) ∙ face_not m d (b ∷ w) (words u) f is;
        }
    at (Ok p) k =
        let is : corner (length m.points) (b ∷ w) ≡ Ok p = ap (numbered (length m.points)) (spelled_all (b ∷ w) v s e) ∙ k in
        let t = side (record { edges = m.edges; uses = d.uses }) d.last p in
        ⊎_elim
        (λ (z : eqb d.corners 0 ≡ true). record {
          to = face m (record { corners = 1; first = p; last = p; uses = [] }) v s;
          settled = tt;
          is = rw (k, z);
          same = λ y u x. ap (face_result m d) (words_word b w i x) ∙ face_first m d (b ∷ w) (words u) p is z;
        })
        (λ (z : eqb d.corners 0 ≡ false). record {
          to = face (with_sides m t) (record { corners = d.corners + 1; first = d.first; last = p; uses = t.uses }) v s;
          settled = tt;
          is = rw (k, z);
          same = λ y u x. ap (face_result m d) (words_word b w i x) ∙ face_next m d (b ∷ w) (words u) p is z;
        })
        (cases (eqb d.corners 0))

pub fault_place : (f : LineFault) → (leb 30 (fault_number f) ≡ true) × (eqb (fault_number f) 1 ≡ false) × (eqb (fault_number f) 4 ≡ false)
fault_place NotNumber = (refl, refl, refl)
fault_place NotGiven = (refl, refl, refl)
fault_place TooFew = (refl, refl, refl)

pub parted : (n : ℕ) (h : Bool) (p : Phase) → Parted n h p
unfolding end_word
parted n h (idle m) = record { to = idle m; settled = tt; is = refl; same = λ v u x. ap (line_result n m) (words_break x) }
parted n h (key m b w i) = parted_key n h m b w i
parted n h (past m w) = record { to = past m w; settled = tt; is = refl; same = λ v u x. refl }
parted n h (face m d w s) = record { to = face m d w s; settled = tt; is = refl; same = λ v u x. ap (face_result m d) (words_break x) }
parted n h (within m d b w v s i e) = parted_within n h m d b w v s i e
parted n h (stopped f m d w s) = record { to = stopped f m d w s; settled = tt; is = rw ((fault_place f).1, (fault_place f).2); same = λ v u x. refl }
