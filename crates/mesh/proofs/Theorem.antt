-- The bytes of a mesh in turn: its first fault, and the mesh where there is none.
use Rattle.std.specs.Prelude.{Err, Ok, Result}
use Prim.Native.Nat.{◌%◌, ◌<◌, suc, ℕ}
use mathlib.Core.Bool.{Bool, false, true}
use mathlib.Core.List.{List, [], ◌++◌, ◌∷◌, map}
use mathlib.Core.Logic.{⊎_elim}
use mathlib.Core.Path.{◌∙◌, ◌≡◌, ap, refl, sym}
use native.Mathlib.Omega.{arith}
use lib.Dec.{eqb, leb}
use lib.ListN.{drop, length, take}
use borrow.Author.Tests.{leb-true}
use Rattle.errors.specs.declared.CallError.{CallError}
use Rattle.errors.specs.declared.CallError.TheVariants.{Refused}
use Rattle.lists.proofs.Laws.{cases}
use Rattle.lists.specs.Lists.{pick}
use Rattle.text.proofs.Words.{fed_next}
use Rattle.text.specs.Text.{before, fed, is_feed, lines, words}
use Rattle.mesh.specs.Mesh.{Mesh, fault_number, line_faults, line_mesh, lines_faults, lines_mesh, no_mesh}
use Rattle.mesh.specs.Reading.{State, byte, end_line, end_word, fault_at, next_line, no_drawing, read_bytes, reading, refused_at, start}
use Rattle.mesh.specs.declared.LineFault.{LineFault}
use Rattle.mesh.specs.declared.LineFault.TheVariants.{NotGiven, NotNumber, TooFew}
use Rattle.mesh.specs.declared.MeshError.{MeshError}
use Rattle.mesh.specs.declared.MeshError.TheVariants.{Line}
use Rattle.mesh.proofs.Bytes.{Ended, ahead_of, byte_read, ended, feed_read}
use Rattle.mesh.proofs.Bytes.Ended.{next, stop}
use Rattle.mesh.proofs.Phases.{Phase, fault_place, line_result, result, state}
use Rattle.mesh.proofs.Phases.Phase.{idle, stopped}

-- in pieces
pub pieces : (a b : List ℕ) (st : State) → read_bytes (a ++ b) st ≡ read_bytes b (read_bytes a st)
unfolding read_bytes
pieces [] b st = refl
pieces (c ∷ a) b st = pieces a b (byte c st)

-- ---- what comes of all lines

data Outcome : Type 0 where
  finished : Mesh → Outcome
  refused : LineFault → ℕ → Outcome

-- line n came to this, and the rest to that
abbrev onward : ℕ → Result Mesh LineFault → (Mesh → Outcome) → Outcome
onward n (Ok m) rest = rest m
onward n (Err f) rest = refused f n

outcome : ℕ → Mesh → List (List ℕ) → Outcome
outcome n m [] = finished m
outcome n m (l ∷ ls) = onward n (line_result n m (words l)) (λ (k : Mesh). outcome (suc n) k ls)

-- of a state
abbrev outcome_of : State → Outcome
outcome_of st = pick (leb 30 st.place) (refused (fault_at st.place) st.line) (finished st.mesh)

abbrev faults_of : Outcome → List (CallError MeshError)
faults_of (finished m) = []
faults_of (refused f n) = Refused (Line f (n % 18446744073709551616)) ∷ []

-- line n came to this, and s is left, of which the bytes up to a line feed are its
abbrev after : ℕ → Result Mesh LineFault → List ℕ → Outcome
after n r s = onward n r (λ (m : Mesh). outcome (suc n) m (lines (drop (suc (length (before is_feed s))) s)))

-- from the start of a line
lines_start : (n : ℕ) (m : Mesh) (s : List ℕ) → after n (ahead_of n false (idle m) (before is_feed s)) s ≡ outcome n m (lines s)
unfolding outcome before fed words line_faults line_mesh
lines_start n m [] = refl
lines_start n m (b ∷ s) = rw (fed_next (b ∷ s) (omega arith))

fault_is : (f : LineFault) → fault_at (fault_number f) ≡ f
fault_is NotNumber = refl
fault_is NotGiven = refl
fault_is TooFew = refl

read_end : (n : ℕ) (h : Bool) (st : State) (r : Result Mesh LineFault) → Ended n h st r → outcome_of st ≡ after n r []
unfolding outcome before fed
read_end n h st r (next m e k) = rw (e, k)
read_end n h st r (stop f m d w s e k) = rw (e, k, (fault_place f).0, fault_is f)

-- from any place
read : (s : List ℕ) (n : ℕ) (h : Bool) (p : Phase) → outcome_of (end_line (read_bytes s (state n h p))) ≡ after n (ahead_of n h p (before is_feed s)) s
unfolding read_bytes before
read [] n h p = read_end n h (end_line (state n h p)) (ahead_of n h p []) (ended n h p)
read (b ∷ s) n h p =
    ⊎_elim
    (λ (f : is_feed b ≡ true). rw (feed_read n h b p f, f) (line (read s) (end_line (state n h p)) (ahead_of n h p []) (ended n h p)))
    (λ (f : is_feed b ≡ false). let q = byte_read n h b p f in rw (q.is, f, q.same (before is_feed s)) (read s n q.held q.to))
    (cases (is_feed b))
  where
    -- after the line feed
    line : ((k : ℕ) (g : Bool) (q : Phase) → outcome_of (end_line (read_bytes s (state k g q))) ≡ after k (ahead_of k g q (before is_feed s)) s)
        → (st : State) (r : Result Mesh LineFault) → Ended n h st r → outcome_of (end_line (read_bytes s st)) ≡ onward n r (λ (m : Mesh). outcome (suc n) m (lines s))
    line ih st r (next m e k) = rw (e, k) (ih (suc n) false (idle m) ∙ lines_start (suc n) m s)
    line ih st r (stop f m d w v e k) = rw (e, k) (ih n h (stopped f m d w v))

read_all : (s : List ℕ) → outcome_of (end_line (reading s)) ≡ outcome 1 no_mesh (lines s)
read_all s = read s 1 false (idle no_mesh) ∙ lines_start 1 no_mesh s

-- ---- the first fault

first : (n : ℕ) (fs : List LineFault) (m : Mesh) (rest : Mesh → Outcome) (is : List (CallError MeshError)) → take 1 is ≡ faults_of (rest m)
    → take 1 (map (λ (f : LineFault). Refused (Line f (n % 18446744073709551616))) fs ++ is) ≡ faults_of (onward n (result fs m) rest)
first n [] m rest is e = e
first n (f ∷ fs) m rest is e = refl

first_of : (n : ℕ) (m : Mesh) (ls : List (List ℕ)) → take 1 (lines_faults n m ls) ≡ faults_of (outcome n m ls)
unfolding lines_faults outcome
first_of n m [] = refl
first_of n m (l ∷ ls) =
    let k = line_mesh n m (words l) in
    first n (line_faults (length m.points) (words l)) k (λ (o : Mesh). outcome (suc n) o ls) (lines_faults (suc n) k ls) (first_of (suc n) k ls)

state_faults : (st : State) → faults_of (outcome_of st) ≡ refused_at st
state_faults st = ⊎_elim (λ (h : leb 30 st.place ≡ true). rw h) (λ (h : leb 30 st.place ≡ false). rw h) (cases (leb 30 st.place))

pub first_fault : (s : List ℕ) → take 1 (lines_faults 1 no_mesh (lines s)) ≡ refused_at (end_line (reading s))
first_fault s = first_of 1 no_mesh (lines s) ∙ ap faults_of (sym (read_all s)) ∙ state_faults (end_line (reading s))

-- ---- no fault

none : (n : ℕ) (fs : List LineFault) (m last : Mesh) (rest : Mesh → Outcome) (is : List (CallError MeshError)) → (is ≡ [] → rest m ≡ finished last)
    → map (λ (f : LineFault). Refused (Line f (n % 18446744073709551616))) fs ++ is ≡ [] → onward n (result fs m) rest ≡ finished last
none n [] m last rest is go e = go e
none n (f ∷ fs) m last rest is go e = absurd (let z : ◌≡◌ {A = ℕ} 0 1 = cc in omega arith)

none_of : (n : ℕ) (m : Mesh) (ls : List (List ℕ)) → lines_faults n m ls ≡ [] → outcome n m ls ≡ finished (lines_mesh n m ls)
unfolding lines_faults lines_mesh outcome
none_of n m [] e = refl
none_of n m (l ∷ ls) e =
    let k = line_mesh n m (words l) in
    none n (line_faults (length m.points) (words l)) k (lines_mesh (suc n) k ls) (λ (o : Mesh). outcome (suc n) o ls) (lines_faults (suc n) k ls) (none_of (suc n) k ls) e

state_mesh : (st : State) (m : Mesh) → outcome_of st ≡ finished m → st.mesh ≡ m
state_mesh st m e = at (leb 30 st.place) e
  where
    at : (b : Bool) → pick b (refused (fault_at st.place) st.line) (finished st.mesh) ≡ finished m → st.mesh ≡ m
    at true e = absurd (let z : ◌≡◌ {A = ℕ} 0 1 = cc in omega arith)
    at false e = cc

pub mesh_read : (s : List ℕ) → lines_faults 1 no_mesh (lines s) ≡ [] → (end_line (reading s)).mesh ≡ lines_mesh 1 no_mesh (lines s)
mesh_read s e = state_mesh (end_line (reading s)) (lines_mesh 1 no_mesh (lines s)) (read_all s ∙ none_of 1 no_mesh (lines s) e)

-- ---- a line that is not refused leaves nothing over

next_start : (st : State) → (next_line st).place < 30 → next_line st ≡ start (next_line st).line (next_line st).mesh
unfolding next_line
next_start st =
    ⊎_elim
    (λ (k : leb 30 st.place ≡ true). rw k (λ (h : st.place < 30). absurd (omega (arith, leb-true 30 st.place k))))
    (λ (k : leb 30 st.place ≡ false).
    ⊎_elim
    (λ (l : eqb st.place 3 ≡ true).
    ⊎_elim
    (λ (c : leb 3 st.face.corners ≡ true). rw (k, l, c) (λ h. refl))
    (λ (c : leb 3 st.face.corners ≡ false). rw (k, l, c) (λ h. absurd (omega arith)))
    (cases (leb 3 st.face.corners)))
    (λ (l : eqb st.place 3 ≡ false). rw (k, l) (λ h. refl))
    (cases (eqb st.place 3)))
    (cases (leb 30 st.place))

pub ended_fresh : (st : State) → (end_line st).place < 30 → end_line st ≡ start (end_line st).line (end_line st).mesh
unfolding end_line
ended_fresh st h = next_start (end_word st) h

pub ended_start : (st : State) → (end_line st).place < 30 → (end_line st).place ≡ 0
ended_start st h = ap (λ (x : State). x.place) (ended_fresh st h)

pub ended_idle : (st : State) → (end_line st).place < 30 → (end_line st).face ≡ no_drawing
ended_idle st h = ap (λ (x : State). x.face) (ended_fresh st h)
