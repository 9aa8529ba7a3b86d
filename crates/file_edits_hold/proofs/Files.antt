-- The file of an edited pattern, as it is written to a slice that is long enough, and a file that is edited.
use Rattle.errors.specs.declared.CallError.{CallError}
use Rattle.errors.specs.declared.CallError.TheVariants.{Refused, Unread}
use Rattle.std.specs.Prelude.{Err, Ok, Result}
use Rattle.store_write.specs.declared.NoSpace.{NoSpace}
use Prim.Native.Nat.{◌%◌, ◌-◌, ◌/◌, ◌<◌, ◌≤◌, suc, ℕ}
use mathlib.Core.Bool.{Bool, false, true, true≢false}
use mathlib.Core.List.{List, [], ◌++◌, ◌∷◌, map}
use mathlib.Core.Logic.{◌⊎◌, inl, inr, ⊎_elim}
use mathlib.Core.Path.{◌∙◌, ◌≡◌, ap, refl, sym}
use native.Mathlib.Omega.{arith}
use lib.Dec.{leb}
use lib.Ieee.{binary64, to_bits}
use lib.ListN.{drop, get_or, length, length-append, length-replicate, replicate, take}
use lib.Seq.{take-append_seam}
use borrow.Author.Tests.{leb-false, lt-leb}
use Rattle.answers.specs.Read.{when_read}
use Rattle.answers.specs.Values.{answer, cut_values, join_values, refused, unread, vertex_values, with_file}
use Rattle.answers.specs.declared.Answer.{Answer}
use Rattle.edge.specs.declared.Edge.{Edge}
use Rattle.edge.specs.declared.EdgeID.{EdgeID}
use Rattle.edit_answers.specs.Answers.{answer_of, edit_number}
use Rattle.edit_answers.specs.declared.EditError.{EditError}
use Rattle.errors.proofs.Laws.{none_left, none_right}
use Rattle.errors.specs.Faults.{first}
use Rattle.errors.specs.Numbers.{done, number, wire_number}
use Rattle.errors.specs.declared.Refusal.{Refusal}
use Rattle.errors.specs.declared.Refusal.TheVariants.{Layout, Limit, SameVertex, Span, Unnamed, Wire}
use Rattle.errors.specs.declared.WireError.{WireError}
use Rattle.errors.specs.declared.WireError.TheVariants.{EmptyWire, NotClosedWire, NotSimpleWire}
use Rattle.face.specs.declared.Face.{Face}
use Rattle.file_edits_hold.specs.FileTheorems.{FileOf, TooFull, TooShort}
use Rattle.lists.proofs.Count.{All, all_append, all_at, all_flat_map}
use Rattle.lists.proofs.Parts.{all_flat}
use Rattle.lists.specs.Lists.{flat, padded, pick, tabulate}
use Rattle.pattern.proofs.Counts.{Full, limited}
use Rattle.pattern.proofs.Passed.{pattern_passed}
use Rattle.pattern.proofs.Stored.{stored_content}
use Rattle.pattern.specs.Checks.{content_faults, count_faults, pattern_faults}
use Rattle.pattern.specs.Contents.{Content, Pattern, content, counts_of, stored, stored_in, zero_edge, zero_face}
use Rattle.pattern_file.proofs.Fits.{Fits}
use Rattle.pattern_file.proofs.RoundTrip.{content_of_stored, read_of_written}
use Rattle.pattern_file.specs.File.{edge_bytes, face_bytes, file_bytes, file_content, file_faults, start_of, table_bytes, table_faults}
use Rattle.shell_edits.specs.Theorems.{first_number}
use Rattle.store_read.proofs.Fresh.{blank, fresh_faults}
use Rattle.store_read.specs.Loading.{loaded, pattern_of}
use Rattle.store_write.specs.Writing.{write_answer, write_bytes, written, written_bytes, written_reply, no_space}
use Rattle.vertex.specs.declared.VertexID.{VertexID}
use Rattle.words.specs.Words.{bytes16, bytes32, bytes64}

-- ---- what is written

abbrev Byte : ℕ → Type 0
Byte b = b < 256

two_bytes : (n : ℕ) → All Byte (bytes16 n)
two_bytes n = (omega arith, (omega arith, tt))

four_bytes : (n : ℕ) → All Byte (bytes32 n)
four_bytes n = all_append Byte (bytes16 (n % 65536)) (bytes16 (n / 65536)) (two_bytes (n % 65536)) (two_bytes (n / 65536))

eight_bytes : (n : ℕ) → All Byte (bytes64 n)
eight_bytes n = all_append Byte (bytes32 (n % 4294967296)) (bytes32 (n / 4294967296)) (four_bytes (n % 4294967296)) (four_bytes (n / 4294967296))

edge_bytes_lem : (e : Edge) → All Byte (edge_bytes e)
edge_bytes_lem e =
    let f = bytes16 e.front.0 in
    let b = bytes16 e.back.0 in
    let t = bytes64 (to_bits binary64 e.curve.t0) in
    let u = bytes64 (to_bits binary64 e.curve.t1) in
    all_append Byte (f ++ b ++ t) u (all_append Byte (f ++ b) t (all_append Byte f b (two_bytes e.front.0) (two_bytes e.back.0)) (eight_bytes (to_bits binary64 e.curve.t0))) (eight_bytes (to_bits binary64 e.curve.t1))

face_bytes_lem : (f : Face) → All Byte (face_bytes f)
face_bytes_lem f = all_append Byte (bytes16 f.wires) (bytes16 f.surface) (two_bytes f.wires) (two_bytes f.surface)

table_bytes_lem : (ns : List ℕ) → All Byte (table_bytes ns)
unfolding tabulate
table_bytes_lem ns = all_flat Byte (tabulate 7 entry) (one 0, (one 1, (one 2, (one 3, (one 4, (one 5, (one 6, tt)))))))
  where
    entry : ℕ → List ℕ
    entry b = bytes32 (start_of ns b) ++ bytes32 (get_or ns b 0)

    one : (b : ℕ) → All Byte (entry b)
    one b = all_append Byte (bytes32 (start_of ns b)) (bytes32 (get_or ns b 0)) (four_bytes (start_of ns b)) (four_bytes (get_or ns b 0))

-- a body after others
body {ℓ} : {A : Type ℓ} (before : List ℕ) (f : A → List ℕ) (xs : List A) → All Byte before → ((x : A) → All Byte (f x)) → All Byte (before ++ flat (map f xs))
body before f xs h g = all_append Byte before (flat (map f xs)) h (all_flat_map Byte f g xs)

-- the file of a content is bytes
file_bytes_lem : (c : Content) (k : ℕ) → get_or (file_bytes c) k 0 < 256
file_bytes_lem c k =
    let table = table_bytes (counts_of c) in
    let points = table ++ flat (map bytes32 c.points) in
    let edges = points ++ flat (map edge_bytes c.edges) in
    let uses = edges ++ flat (map bytes16 c.uses) in
    let wires = uses ++ flat (map bytes16 c.wires) in
    let faces = wires ++ flat (map face_bytes c.faces) in
    let shells = faces ++ flat (map bytes16 c.shells) in
    all_at Byte 0 (omega arith) (file_bytes c)
    (body shells bytes16 c.listings
    (body faces bytes16 c.shells
    (body wires face_bytes c.faces
    (body uses bytes16 c.wires
    (body edges bytes16 c.uses
    (body points edge_bytes c.edges (body table bytes32 c.points (table_bytes_lem (counts_of c)) four_bytes) edge_bytes_lem)
    two_bytes) two_bytes) face_bytes_lem) two_bytes) two_bytes)
    k

module _ (c : Content) (few : count_faults (counts_of c) ≡ []) (ok : content_faults c ≡ []) (fit : Fits c) (out : List ℕ) (n : ℕ) where
  abbrev file : List ℕ
  file = file_bytes c

  written_file : (bs : List ℕ) → write_answer [] file out ≡ Ok n → bs ≡ write_bytes [] file out → FileOf c n bs
  written_file bs h e = go (leb (length file) (length out)) h e
    where
      go : (b : Bool) → pick b (Ok (length file)) (Err (Refused (no_space (length file)))) ≡ Ok n → bs ≡ pick b (file ++ drop (length file) out) out → FileOf c n bs
      go true h e =
          let long : length file ≡ n = cc in
          let same : take n bs ≡ file = ap (take n) e ∙ rw (← long) (take-append_seam file (drop (length file) out)) in
          let back = read_of_written c few ok fit in
          record {
            inside = omega (arith, long, ap length e, length-append file (drop (length file) out));
            bytes = λ k. rw same (file_bytes_lem c k);
            accepted = ap file_faults same ∙ back.0;
            holds = ap file_content same ∙ back.1;
          }
      go false h e = let y : true ≡ false = cc in absurd (true≢false y)

-- an edit that put content c in the storage of p
module _ (p : Pattern) (full : Full p) (c : Content) (ok : pattern_faults (stored_in p c) ≡ []) where
  abbrev q : Pattern
  q = stored_in p c

  pub new_few : count_faults (counts_of c) ≡ []
  new_few = (pattern_passed q ok).counts

  new_content : content q ≡ c
  new_content = stored_content p full c new_few

  pub new_fine : content_faults c ≡ []
  new_fine = ap content_faults (sym new_content) ∙ (pattern_passed q ok).content

  new_answer : (out : List ℕ) → written q out ≡ write_answer [] (file_bytes c) out
  new_answer out = λ i. write_answer (ok i) (file_bytes (new_content i)) out

  edited_file : Fits c → (out : List ℕ) (n : ℕ) → written q out ≡ Ok n → FileOf c n (written_bytes q out)
  edited_file fit out n h =
      let bytes : write_bytes (pattern_faults q) (file_bytes (content q)) out ≡ write_bytes [] (file_bytes c) out = λ i. write_bytes (ok i) (file_bytes (new_content i)) out in
      written_file c new_few new_fine fit out n (written_bytes q out) (sym (new_answer out) ∙ h) bytes

-- ---- the storage of a file that was read

padded_long {ℓ} : {A : Type ℓ} (n : ℕ) (d : A) (xs : List A) → length xs ≤ n → length (padded n d xs) ≡ n
padded_long n d xs h = omega (arith, length-append xs (replicate (n - length xs) d), length-replicate (n - length xs) d)

pub stored_whole : (c : Content) → count_faults (counts_of c) ≡ [] → Full (stored c)
stored_whole c few =
    let l = limited (counts_of c) refl few in
    record {
      points = padded_long 2048 0 c.points l.points;
      edges = padded_long 1024 zero_edge c.edges l.edges;
      uses = padded_long 4096 0 c.uses l.uses;
      wires = padded_long 1024 0 c.wires l.wires;
      faces = padded_long 256 zero_face c.faces l.faces;
      shells = padded_long 16 0 c.shells l.shells;
      listings = padded_long 512 0 c.listings l.listings;
    }

-- the pattern of an accepted file has no fault
pub file_passes : (s : List ℕ) → file_faults s ≡ [] → pattern_faults (pattern_of s) ≡ []
file_passes s ok = fresh_faults s (loaded blank s) refl (ap first (none_left (table_faults s) (content_faults (file_content s)) ok)) ∙ ok

pub fits_same : (c d : Content) → c ≡ d → Fits c → Fits d
fits_same c d e fit = rw (← e) fit

-- the content of a file that was read
pub read_content : (s : List ℕ) → content (pattern_of s) ≡ file_content s
read_content s = content_of_stored (file_content s)

pub content_read : (s : List ℕ) → file_faults s ≡ [] → content_faults (file_content s) ≡ []
content_read s ok = none_right (table_faults s) (content_faults (file_content s)) ok

-- ---- what an edit of a file answers: x and y are the new numbers, fs the faults of the file, gs those of its pattern, es the edit's refusals, w the answer of writing

abbrev pub ended : ℕ → ℕ → List Refusal → List Refusal → List EditError → Result ℕ (CallError NoSpace) → Answer
ended x y (f ∷ fs) gs es w = unread f
ended x y [] (g ∷ gs) es w = unread g
ended x y [] [] (e ∷ es) w = refused (edit_number e) 0
ended x y [] [] [] w = answer (with_file (done (x ∷ y ∷ [])) (written_reply w))

pub cut_ended : (fs gs : List Refusal) (es : List EditError) (a b : EdgeID) (w : Result ℕ (CallError NoSpace)) → when_read (first fs) (cut_values (answer_of gs es (a, b)) w) ≡ ended a.0 b.0 fs gs es w
cut_ended (f ∷ fs) gs es a b w = refl
cut_ended [] (g ∷ gs) es a b w = refl
cut_ended [] [] (e ∷ es) a b w = refl
cut_ended [] [] [] a b w = refl

pub join_ended : (fs gs : List Refusal) (es : List EditError) (a : EdgeID) (w : Result ℕ (CallError NoSpace)) → when_read (first fs) (join_values (answer_of gs es a) w) ≡ ended a.0 0 fs gs es w
join_ended (f ∷ fs) gs es a w = refl
join_ended [] (g ∷ gs) es a w = refl
join_ended [] [] (e ∷ es) a w = refl
join_ended [] [] [] a w = refl

pub vertex_ended : (fs gs : List Refusal) (es : List EditError) (v : VertexID) (w : Result ℕ (CallError NoSpace)) → when_read (first fs) (vertex_values (answer_of gs es v) w) ≡ ended v.0 0 fs gs es w
vertex_ended (f ∷ fs) gs es v w = refl
vertex_ended [] (g ∷ gs) es v w = refl
vertex_ended [] [] (e ∷ es) v w = refl
vertex_ended [] [] [] v w = refl

-- done: nothing was wrong, the third value is the length of what was written, the others are the new numbers
done_ended : (x y : ℕ) (fs gs : List Refusal) (es : List EditError) (w : Result ℕ (CallError NoSpace)) → (ended x y fs gs es w).outcome ≡ 0
    → (fs ≡ []) × (es ≡ []) × (w ≡ (Ok (ended x y fs gs es w).third)) × ((ended x y fs gs es w).first ≡ x) × ((ended x y fs gs es w).second ≡ y)
done_ended x y (f ∷ fs) gs es w h = absurd (omega (arith, h))
done_ended x y [] (g ∷ gs) es w h = absurd (omega (arith, h))
done_ended x y [] [] (e ∷ es) w h = absurd (omega (arith, h))
done_ended x y [] [] [] (Ok n) h = (refl, refl, refl, refl, refl)
done_ended x y [] [] [] (Err (Unread f)) h = absurd (omega (arith, h))
done_ended x y [] [] [] (Err (Refused e)) h = absurd (omega (arith, h))

pub new_numbers : (a : Answer) (x y : ℕ) (fs gs : List Refusal) (es : List EditError) (w : Result ℕ (CallError NoSpace)) → a ≡ ended x y fs gs es w → a.outcome ≡ 0 → (a.first ≡ x) × (a.second ≡ y)
new_numbers a x y fs gs es w is h =
    let t = done_ended x y fs gs es w (ap (λ (b : Answer). b.outcome) (sym is) ∙ h) in
    (ap (λ (b : Answer). b.first) is ∙ t.3, ap (λ (b : Answer). b.second) is ∙ t.4)

-- the reading checks have numbers up to 8
wire_low : (e : WireError) → wire_number e ≤ 8
wire_low EmptyWire = omega arith
wire_low NotClosedWire = omega arith
wire_low NotSimpleWire = omega arith

number_low : (f : Refusal) → number f ≤ 8
number_low (Layout b) = omega arith
number_low (Limit b) = omega arith
number_low (Unnamed b k) = omega arith
number_low (Span k) = omega arith
number_low (SameVertex k) = omega arith
number_low (Wire k e) = wire_low e

-- 17: by the edit's own rule, or since there is no room for the file
seventeen : (x y : ℕ) (fs gs : List Refusal) (es : List EditError) (w : Result ℕ (CallError NoSpace)) → (ended x y fs gs es w).number ≡ 17
    → (fs ≡ []) × ((first_number es ≡ 17) ⊎ ((es ≡ []) × (w ≡ (Err (Refused (no_space (ended x y fs gs es w).first))))))
seventeen x y (f ∷ fs) gs es w h = absurd (omega (arith, h, number_low f))
seventeen x y [] (g ∷ gs) es w h = absurd (omega (arith, h, number_low g))
seventeen x y [] [] (e ∷ es) w h = (refl, inl h)
seventeen x y [] [] [] (Ok n) h = absurd (omega (arith, h))
seventeen x y [] [] [] (Err (Unread f)) h = absurd (omega (arith, h, number_low f))
seventeen x y [] [] [] (Err (Refused e)) h = (refl, inr (refl, refl))

pub refused_ended : (x y : ℕ) (fs gs : List Refusal) (es : List EditError) (w : Result ℕ (CallError NoSpace)) (k : ℕ) → fs ≡ [] → gs ≡ [] → first_number es ≡ suc k → ended x y fs gs es w ≡ refused (suc k) 0
refused_ended x y fs gs [] w k e f h = absurd (omega (arith, h))
refused_ended x y fs gs (z ∷ es) w k e f h = rw (e, f) (ap (λ (i : ℕ). refused i 0) h)

short_ended : (x y : ℕ) (fs gs : List Refusal) (es : List EditError) (w : Result ℕ (CallError NoSpace)) (n : ℕ) → fs ≡ [] → gs ≡ [] → es ≡ [] → w ≡ (Err (Refused (no_space n))) → ended x y fs gs es w ≡ refused 17 n
short_ended x y fs gs es w n e f g h = rw (e, f, g, h)

-- the answer of writing tells whether the file is longer than the slice
short_of : (file out : List ℕ) (n : ℕ) → write_answer [] file out ≡ (Err (Refused (no_space n))) → length out < length file
short_of file out n h = go (leb (length file) (length out)) refl h
  where
    go : (b : Bool) → leb (length file) (length out) ≡ b → pick b (Ok (length file)) (Err (Refused (no_space (length file)))) ≡ (Err (Refused (no_space n))) → length out < length file
    go true e h = let y : true ≡ false = cc in absurd (true≢false y)
    go false e h = leb-false (length file) (length out) e

of_short : (file out : List ℕ) → length out < length file → write_answer [] file out ≡ (Err (Refused (no_space (length file))))
of_short file out h = rw (lt-leb (length file) (length out) h)

-- ---- an edit of file s, with these refusals, that makes content `new`; what it answers, and the slice afterwards

-- not refused: the pattern afterwards
pub record Made (s out : List ℕ) (new : Content) (q : Pattern) (after : List ℕ) : Type 0 where
  pub stored_so : q ≡ stored_in (pattern_of s) new
  pub fine : pattern_faults (stored_in (pattern_of s) new) ≡ []
  pub fits : Fits new
  pub left : after ≡ written_bytes (stored_in (pattern_of s) new) out

pub record Edit (s out : List ℕ) (es : List EditError) (new : Content) (answer : Answer) (after : List ℕ) : Type 0 where
  pub x : ℕ
  pub y : ℕ
  pub q : Pattern
  pub told : answer ≡ ended x y (file_faults s) (pattern_faults (pattern_of s)) es (written q out)
  pub made : file_faults s ≡ [] → es ≡ [] → Made s out new q after

pub read_full : (s : List ℕ) → file_faults s ≡ [] → Full (pattern_of s)
read_full s ok = stored_whole (file_content s) (pattern_passed (pattern_of s) (file_passes s ok)).counts

module _ (s out : List ℕ) (es : List EditError) (new : Content) (answer : Answer) (after : List ℕ) (e : Edit s out es new answer after) where
  abbrev p : Pattern
  p = pattern_of s

  abbrev w : Result ℕ (CallError NoSpace)
  w = written e.q out

  written_so : file_faults s ≡ [] → es ≡ [] → w ≡ write_answer [] (file_bytes new) out
  written_so ok none = let m = e.made ok none in ap (λ (r : Pattern). written r out) m.stored_so ∙ new_answer p (read_full s ok) new m.fine out

  -- done: the bytes written are a file that the reading checks accept, with the edited content
  pub edit_file : answer.outcome ≡ 0 → FileOf new answer.third after
  edit_file done =
      let t = done_ended e.x e.y (file_faults s) (pattern_faults p) es w (ap (λ (a : Answer). a.outcome) (sym e.told) ∙ done) in
      let m = e.made t.0 t.1 in
      let long : written (stored_in p new) out ≡ (Ok answer.third) = ap (λ (r : Pattern). written r out) (sym m.stored_so) ∙ t.2 ∙ ap (λ (a : Answer). (Ok a.third)) (sym e.told) in
      rw m.left (edited_file p (read_full s t.0) new m.fine m.fits out answer.third long)

  pub edit_accepted : answer.outcome ≡ 0 → (file_faults s ≡ []) × (es ≡ [])
  edit_accepted done = let t = done_ended e.x e.y (file_faults s) (pattern_faults p) es w (ap (λ (a : Answer). a.outcome) (sym e.told) ∙ done) in (t.0, t.1)

  pub edit_refused : (k : ℕ) → file_faults s ≡ [] → first_number es ≡ suc k → answer ≡ refused (suc k) 0
  edit_refused k ok h = e.told ∙ refused_ended e.x e.y (file_faults s) (pattern_faults p) es w k ok (file_passes s ok) h

  pub edit_short : TooShort s es new out → answer ≡ refused 17 (length (file_bytes new))
  edit_short t =
      e.told ∙ short_ended e.x e.y (file_faults s) (pattern_faults p) es w (length (file_bytes new)) t.0 (file_passes s t.0) t.1 (written_so t.0 t.1 ∙ of_short (file_bytes new) out t.2)

  pub edit_17 : answer.number ≡ 17 → (TooFull s es × (answer ≡ refused 17 0)) ⊎ (TooShort s es new out × (answer ≡ refused 17 (length (file_bytes new))))
  edit_17 h =
      let t = seventeen e.x e.y (file_faults s) (pattern_faults p) es w (ap (λ (a : Answer). a.number) (sym e.told) ∙ h) in
      ⊎_elim
      (λ i. inl ((t.0, i), edit_refused 16 t.0 i))
      (λ j.
      let short : TooShort s es new out = (t.0, j.0, short_of (file_bytes new) out _ (sym (written_so t.0 j.0) ∙ j.1)) in
      inr (short, edit_short short))
      t.1
