-- The answers of an import.
use Rattle.std.specs.Prelude.{Err, Ok, Result}
use Prim.Native.Nat.{◌<◌, ◌≤◌, ℕ}
use mathlib.Core.Bool.{Bool, false, true}
use mathlib.Core.List.{List, [], ◌++◌, ◌∷◌, map}
use mathlib.Core.Path.{◌∙◌, ◌≡◌, ap, refl, sym}
use native.Mathlib.Omega.{arith}
use lib.Dec.{leb}
use lib.ListN.{length, take}
use borrow.Author.Tests.{le-leb, lt-leb}
use Rattle.errors.proofs.Laws.{none_both, refused_first}
use Rattle.errors.specs.Faults.{first}
use Rattle.errors.specs.declared.CallError.{CallError}
use Rattle.errors.specs.declared.CallError.TheVariants.{Refused, Unread}
use Rattle.errors.specs.declared.Refusal.{Refusal}
use Rattle.lists.specs.Lists.{pick}
use Rattle.mesh.proofs.Theorem.{ended_idle, first_fault, mesh_read}
use Rattle.mesh.specs.Mesh.{Mesh, import_answer, import_bytes, imported, imported_in, lines_faults, lines_mesh, mesh_content, no_mesh}
use Rattle.mesh.specs.Reading.{Drawing, State, end_line, fault_at, reading}
use Rattle.mesh.specs.declared.MeshError.{MeshError}
use Rattle.mesh.specs.declared.MeshError.TheVariants.{Line, NoSpace as NoMeshSpace}
use Rattle.mesh.specs.declared.LineFault.{LineFault}
use Rattle.mesh_draw.specs.Kept.{Kept}
use Rattle.mesh_draw.specs.declared.Filled.{Filled}
use Rattle.mesh_words.specs.Following.{Follows, place_number}
use Rattle.mesh_words.specs.declared.Reader.{Reader}
use Rattle.pattern.proofs.Counts.{Full}
use Rattle.pattern.specs.Checks.{content_faults, count_faults}
use Rattle.pattern.specs.Contents.{Content, Pattern, content, counts_of}
use Rattle.pattern_file.specs.File.{file_bytes}
use Rattle.store_write.specs.Writing.{no_space, write_answer, write_bytes}
use Rattle.store_write.specs.declared.NoSpace.{NoSpace}
use Rattle.text.specs.Text.{lines}
use Rattle.mesh_file.proofs.Meshes.{first_same, mesh_few, rest_content, rest_kept}
use Rattle.mesh_file.specs.Judging.{Judged, answer_of, filled_counts, mesh_faults, with_rest}

-- ---- after the last line

refused : (fs : List Refusal) (r : Refusal) (file out : List ℕ) → first fs ≡ Err r → (Err (Unread r) ≡ import_answer (map Unread fs) file out) × (out ≡ import_bytes (map Unread fs) file out)
refused [] r file out h = (cc, cc)
refused (g ∷ fs) r file out h = let e : r ≡ g = cc in (rw e, refl)

fitting : (b : Bool) (n : ℕ) → answer_of (pick b (Ok n) (Err (Refused (no_space n)))) ≡ pick b (Ok n) (Err (Refused (NoMeshSpace n)))
fitting true n = refl
fitting false n = refl

-- the faults of the counts, and those of the records
abbrev many : Mesh → List Refusal
many m = count_faults (counts_of (mesh_content m))

abbrev bad : Mesh → List Refusal
bad m = content_faults (mesh_content m)

judged_refused : (m : Mesh) (out : List ℕ) (r : Refusal) {a : Result ℕ (CallError MeshError)} → a ≡ Err (Unread r) → first (many m ++ bad m) ≡ Err r → Judged m out a out
judged_refused m out r i h =
    let both = refused (many m ++ bad m) r (file_bytes (mesh_content m)) out h in
    record { answer = i ∙ both.0; bytes = both.1 }

module _ {m : Mesh} {f : Filled} {p : Pattern} {index : List ℕ} (k : Kept m [] f p index) (ns : List ℕ) (is : ns ≡ filled_counts f) (out : List ℕ) where
  -- a count is over its limit
  pub judged_many : (few : Result Unit Refusal) (r : Refusal) {a : Result ℕ (CallError MeshError)} → a ≡ Err (Unread r) → few ≡ first (count_faults ns) → few ≡ Err r → Judged m out a out
  judged_many few r i a b =
      judged_refused m out r i (refused_first (many m) (bad m) r (sym (first_same k) ∙ ap (λ (l : List ℕ). first (count_faults l)) (sym is) ∙ sym a ∙ b))

  module _ (full : Full p) (none : count_faults ns ≡ []) (q : Pattern) (e : q ≡ with_rest p ns) where
    few : count_faults (filled_counts f) ≡ []
    few = ap count_faults (sym is) ∙ none

    is_mesh : content q ≡ mesh_content m
    is_mesh = ap content (e ∙ ap (with_rest p) is) ∙ rest_content k few full

    kept : Kept m [] f q index
    kept = rw e (rest_kept k ns)

    -- a record is refused
    pub judged_bad : (checked : Result Unit Refusal) (r : Refusal) {a : Result ℕ (CallError MeshError)} → a ≡ Err (Unread r) → checked ≡ first (content_faults (content q)) → checked ≡ Err r → Judged m out a out × Kept m [] f q index
    judged_bad checked r i a b =
        (judged_refused m out r i (rw (mesh_few k few) (ap (λ (c : Content). first (content_faults c)) (sym is_mesh) ∙ sym a ∙ b)), kept)

    -- none is
    pub judged_good : content_faults (content q) ≡ [] → (out' : List ℕ) (r : Result ℕ (CallError MeshError)) (w : Result ℕ (CallError NoSpace)) → r ≡ answer_of w → w ≡ write_answer [] (file_bytes (content q)) out
        → out' ≡ write_bytes [] (file_bytes (content q)) out → Judged m out r out' × Kept m [] f q index
    judged_good ok out' r w i a b =
        let file = file_bytes (mesh_content m) in
        let fine : mesh_faults m ≡ [] = ap (map Unread) (none_both (many m) (bad m) (mesh_few k few) (ap content_faults (sym is_mesh) ∙ ok)) in
        let judged : Judged m out r out' = record {
          answer = rw (fine, i) (ap answer_of (a ∙ ap (λ (c : Content). write_answer [] (file_bytes c) out) is_mesh) ∙ fitting (leb (length file) (length out)) (length file));
          bytes = rw fine (b ∙ ap (λ (c : Content). write_bytes [] (file_bytes c) out) is_mesh);
        } in
        (judged, kept)

-- ---- all lines

faulty : (fs gs : List (CallError MeshError)) (f : CallError MeshError) (file out : List ℕ) → take 1 fs ≡ f ∷ [] → (Err f ≡ import_answer (fs ++ gs) file out) × (out ≡ import_bytes (fs ++ gs) file out)
faulty [] gs f file out h = (cc, cc)
faulty (g ∷ fs) gs f file out h = (cc, refl)

taken_none : (fs : List (CallError MeshError)) → take 1 fs ≡ [] → fs ≡ []
taken_none [] h = refl
taken_none (f ∷ fs) h = cc

module _ (s : List ℕ) {r : Reader} {p : Pattern} {index : List ℕ} (w : Follows (end_line (reading s)) r p index) where
  abbrev st : State
  st = end_line (reading s)

  -- a line is refused
  pub finished_bad : 30 ≤ place_number r.place → (f : LineFault) → f ≡ fault_at (place_number r.place) → {e : CallError MeshError} → e ≡ Refused (Line f r.line) → (out : List ℕ) → (Err e ≡ imported s out) × (out ≡ imported_in s out)
  finished_bad h f at is out =
      let stopped = le-leb 30 st.place (omega (arith, w.place)) in
      rw is (faulty (lines_faults 1 no_mesh (lines s)) _ (Refused (Line f r.line)) _ out (first_fault s ∙ rw (stopped, at, w.line, w.place)))

  -- none is
  module _ (h : place_number r.place < 30) where
    going : st.place < 30
    going = omega (arith, w.place)

    none : lines_faults 1 no_mesh (lines s) ≡ []
    none = taken_none _ (first_fault s ∙ rw (lt-leb 30 st.place going))

    idle : st.face.uses ≡ []
    idle = ap (λ (d : Drawing). d.uses) (ended_idle (reading s) going)

    pub finished_kept : Kept st.mesh [] r.filled p index
    finished_kept = rw idle at (w.going going).kept

    pub finished_good : (out : List ℕ) (a : Result ℕ (CallError MeshError)) (out' : List ℕ) → Judged st.mesh out a out' → (a ≡ imported s out) × (out' ≡ imported_in s out)
    finished_good out a out' j =
        let i : Judged (lines_mesh 1 no_mesh (lines s)) out a out' = rw (mesh_read s none) at j in
        rw none (i.answer, i.bytes)

    -- the same reader with other tables
    pub finished_follows : (q : Pattern) → Kept st.mesh [] r.filled q index → Follows st r q index
    finished_follows q k = record {
      line = w.line;
      place = w.place;
      going = λ g. let a = w.going g in record {
        known = a.known;
        held = a.held;
        slashed = a.slashed;
        long = a.long;
        word = a.word;
        corners = a.corners;
        ends = a.ends;
        begun = a.begun;
        idle = a.idle;
        kept = rw idle k;
      };
    }
