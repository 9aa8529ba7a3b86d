-- The bytes of a mesh in turn: what is known after each of them. Cited by inner contracts.
use Rattle.std.specs.Prelude.{◌%◌, ◌+◌, suc, ℕ, Bool, ◌&&◌, ◌||◌, false, true, List, [], ◌++◌, ◌∷◌, eqb, leb, length, Err, Ok, Result}
use Rattle.errors.specs.declared.CallError.{CallError}
use Rattle.errors.specs.declared.CallError.TheVariants.{Refused}
use Rattle.lists.specs.Lists.{pick}
use Rattle.text.specs.Text.{is_blank, is_feed}
use Rattle.mesh.specs.Mesh.{Mesh, Sides, fault_number, is_slash, letter, no_mesh, numbered, side, with_point}
use Rattle.mesh.specs.declared.LineFault.{LineFault}
use Rattle.mesh.specs.declared.LineFault.TheVariants.{NotGiven, NotNumber, TooFew}
use Rattle.mesh.specs.declared.MeshError.{MeshError}
use Rattle.mesh.specs.declared.MeshError.TheVariants.{Line}

-- the face that is being read: how many points, the first and the last of them, the uses between them
pub record Drawing : Type 0 where
  pub corners : ℕ
  pub first : ℕ
  pub last : ℕ
  pub uses : List ℕ

abbrev pub no_drawing : Drawing
no_drawing = record { corners = 0; first = 0; last = 0; uses = [] }

-- places in a line: 0 before its first word, 1 in it, 2 in what is passed over, 3 between the words of an `f`, 4 in one of them; 30, 31, 32 once refused
pub record State : Type 0 where
  pub line : ℕ
  -- the edges of the face that is being read are in it
  pub mesh : Mesh
  pub place : ℕ
  -- a carriage return is held back
  pub held : Bool
  -- the word so far, up to its slash
  pub word : List ℕ
  pub slashed : Bool
  pub face : Drawing

abbrev pub start : ℕ → Mesh → State
start n m = record { line = n; mesh = m; place = 0; held = false; word = []; slashed = false; face = no_drawing }

abbrev pub moved : ℕ → State → State
moved k st = record { line = st.line; mesh = st.mesh; place = k; held = st.held; word = st.word; slashed = st.slashed; face = st.face }

abbrev pub holding : Bool → State → State
holding b st = record { line = st.line; mesh = st.mesh; place = st.place; held = b; word = st.word; slashed = st.slashed; face = st.face }

abbrev pub spelled : List ℕ → Bool → State → State
spelled w b st = record { line = st.line; mesh = st.mesh; place = st.place; held = st.held; word = w; slashed = b; face = st.face }

abbrev pub drawn : Mesh → Drawing → State → State
drawn m d st = record { line = st.line; mesh = m; place = st.place; held = st.held; word = st.word; slashed = st.slashed; face = d }

-- ---- a side of the face

abbrev pub with_sides : Mesh → Sides → Mesh
with_sides m d = record { points = m.points; edges = d.edges; wires = m.wires }

-- to point q
unfoldable pub side_to : ℕ → State → State
side_to q st =
    let d = side (record { edges = st.mesh.edges; uses = st.face.uses }) st.face.last q in
    drawn (with_sides st.mesh d) (record { corners = st.face.corners + 1; first = st.face.first; last = q; uses = d.uses }) st

unfoldable pub corner_at : ℕ → State → State
corner_at p st = pick (eqb st.face.corners 0) (drawn st.mesh (record { corners = 1; first = p; last = p; uses = [] }) st) (side_to p st)

-- the face is closed, and added
unfoldable pub close_face : State → Mesh
close_face st =
    let d = side (record { edges = st.mesh.edges; uses = st.face.uses }) st.face.last st.face.first in
    record { points = st.mesh.points; edges = d.edges; wires = st.mesh.wires ++ (d.uses ∷ []) }

-- ---- a word, a line ends

abbrev pub cornered : Result ℕ LineFault → State → State
cornered (Ok p) st = moved 3 (corner_at p st)
cornered (Err f) st = moved (fault_number f) st

unfoldable pub keyed : State → State
keyed st =
    pick (letter 118 st.word) (moved 2 (drawn (with_point st.mesh st.line) st.face st))
    (pick (letter 102 st.word) (moved 3 (drawn st.mesh no_drawing st)) (moved 2 st))

unfoldable pub end_word : State → State
end_word st = pick (eqb st.place 1) (keyed st) (pick (eqb st.place 4) (cornered (numbered (length st.mesh.points) st.word) st) st)

-- after the last word of a line
unfoldable pub next_line : State → State
next_line st =
    pick (leb 30 st.place) st
    (pick (eqb st.place 3)
    (pick (leb 3 st.face.corners) (start (suc st.line) (close_face st)) (moved 32 st))
    (start (suc st.line) st.mesh))

unfoldable pub end_line : State → State
end_line st = next_line (end_word st)

-- ---- a byte

abbrev pub spell : ℕ → State → State
spell b st =
    pick (st.slashed || (eqb st.place 4 && is_slash b)) (spelled st.word true st)
    (spelled (st.word ++ (b ∷ [])) false st)

-- a byte of a word: the first of it, or a later one
unfoldable pub ink : ℕ → State → State
ink b st =
    pick (eqb st.place 0) (spell b (spelled [] false (moved 1 st)))
    (pick (eqb st.place 3) (spell b (spelled [] false (moved 4 st))) (spell b st))

-- a carriage return that was held back is a byte of a word
unfoldable pub release : State → State
release st = pick st.held (ink 13 (holding false st)) st

unfoldable pub byte : ℕ → State → State
byte b st =
    pick (leb 30 st.place) st
    (pick (is_feed b) (end_line st)
    (pick (eqb st.place 2) st
    (pick (eqb b 13) (holding true (release st))
    (pick (is_blank b) (end_word (release st)) (ink b (release st))))))

unfoldable pub read_bytes : List ℕ → State → State
read_bytes [] st = st
read_bytes (b ∷ s) st = read_bytes s (byte b st)

-- ---- what came of it

-- the state after the bytes of a mesh
abbrev pub reading : List ℕ → State
reading s = read_bytes s (start 1 no_mesh)

abbrev pub fault_at : ℕ → LineFault
fault_at k = pick (eqb k 30) NotNumber (pick (eqb k 31) NotGiven TooFew)

-- the first fault of a line
abbrev pub refused_at : State → List (CallError MeshError)
refused_at st = pick (leb 30 st.place) (Refused (Line (fault_at st.place) (st.line % 18446744073709551616)) ∷ []) []
