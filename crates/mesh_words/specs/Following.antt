-- What a reader holds of the bytes of a mesh. Cited by inner contracts.
use Rattle.std.specs.Prelude.{◌%◌, ◌<◌, ◌≤◌, min, ℕ, Bool, false, true, List, [], ◌∷◌, None, Option, Some, ◌≡◌, refl, eqb, leb, length}
use Rattle.lists.specs.Lists.{pick}
use Rattle.mesh.specs.Mesh.{fault_number}
use Rattle.mesh.specs.Reading.{Drawing, State, fault_at, ink}
use Rattle.mesh.specs.declared.LineFault.{LineFault}
use Rattle.mesh_draw.specs.Kept.{Kept, Tabled}
use Rattle.pattern.specs.Contents.{Pattern}
use Rattle.mesh_words.specs.Places.{is_place}
use Rattle.mesh_words.specs.declared.Place.{Place}
use Rattle.mesh_words.specs.declared.Place.TheVariants.{Between, Key, Other, Refused, Rest, Start, Word}
use Rattle.mesh_words.specs.declared.Reader.{Reader}

-- the number of a place, as the bytes in turn have it
abbrev pub place_number : Place → ℕ
place_number Start = 0
place_number Key = 1
place_number Rest = 2
place_number Between = 3
place_number Word = 4
place_number (Refused f) = fault_number f
place_number (Other k) = k.number

-- the place that has a number
abbrev pub known_place : ℕ → Place
known_place n = pick (eqb n 0) Start (pick (eqb n 1) Key (pick (eqb n 2) Rest (pick (eqb n 3) Between (pick (eqb n 4) Word (Refused (fault_at n))))))

abbrev pub place_by : (n : ℕ) (b : Bool) → is_place n ≡ b → Place
place_by n true e = known_place n
place_by n false e = Other (record { number = n; other = e })

-- the place of a number, any number
abbrev pub place_in : ℕ → Place
place_in n = place_by n (is_place n) refl

-- what is wrong with the line, once the mesh is refused
abbrev pub place_fault : Place → Option LineFault
place_fault k =
    let n = place_number k in
    pick (leb 30 n) (Some (fault_at n)) None

-- the first and the last point of the face that is being read
pub record Ends (d : Drawing) (r : Reader) : Type 0 where
  pub first : r.first ≡ d.first
  pub last : r.last ≡ d.last

-- while nothing is refused
pub record Reads (st : State) (r : Reader) (p : Pattern) (index : List ℕ) : Type 0 where
  pub known : st.place < 5
  pub held : r.held ≡ st.held
  pub slashed : r.slashed ≡ st.slashed
  pub long : r.length ≡ min (length st.word) 11
  pub word : Tabled 11 r.word st.word
  pub corners : r.corners ≡ min st.face.corners 3
  pub ends : length st.mesh.points ≤ 2048 → 0 < st.face.corners → Ends st.face r
  pub begun : st.face.corners ≡ 0 → st.face.uses ≡ []
  pub idle : st.place < 3 → st.face.corners ≡ 0
  pub kept : Kept st.mesh st.face.uses r.filled p index

-- a reader with its tables has come to this state
pub record Follows (st : State) (r : Reader) (p : Pattern) (index : List ℕ) : Type 0 where
  pub line : r.line ≡ st.line % 18446744073709551616
  pub place : place_number r.place ≡ st.place
  pub going : st.place < 30 → Reads st r p index

-- the bytes of a word in turn
unfoldable pub inks : List ℕ → State → State
inks [] st = st
inks (b ∷ s) st = inks s (ink b st)
