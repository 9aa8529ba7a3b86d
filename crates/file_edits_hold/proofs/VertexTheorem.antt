-- A point added to a file: the file that is written is accepted, and holds the content with the point; when 17 is answered.
use Prim.Native.Nat.{ℕ}
use mathlib.Core.List.{List, []}
use mathlib.Core.Logic.{◌⊎◌}
use mathlib.Core.Path.{◌∙◌, ◌≡◌, ap, sym}
use native.Mathlib.Omega.{arith}
use lib.ListN.{length}
use Rattle.answers.specs.Read.{after_read, edited_bytes}
use Rattle.answers.specs.Values.{refused}
use Rattle.answers.specs.declared.Answer.{Answer}
use Rattle.edit_answers.specs.Answers.{answer_of, judged}
use Rattle.edit_answers.specs.declared.EditError.{EditError}
use Rattle.errors.specs.Faults.{first}
use Rattle.errors.specs.declared.Refusal.{Refusal}
use Rattle.file_edits_hold.proofs.Files.{Edit, edit_17, edit_accepted, edit_file, edit_refused, edit_short, ended, file_passes, fits_same, new_numbers, read_content, read_full, vertex_ended}
use Rattle.file_edits_hold.proofs.Fitting.{fits_vertex}
use Rattle.file_edits_hold.specs.FileTheorems.{FileOf, TooFull, TooShort}
use Rattle.file_vertex.specs.FileVertex.{file_vertex, file_vertex_bytes}
use Rattle.pattern.specs.Checks.{pattern_faults}
use Rattle.pattern.specs.Contents.{Content, Pattern, content, stored_in}
use Rattle.pattern_file.proofs.Fits.{Fits}
use Rattle.pattern_file.specs.File.{file_bytes, file_content, file_faults}
use Rattle.shell_edits.proofs.VertexTheorem.{vertex_allowed, vertex_pattern_accepted}
use Rattle.shell_edits.specs.Answers.{after_vertex}
use Rattle.shell_edits.specs.Edits.{vertex_content, vertex_faults}
use Rattle.show_text.proofs.FileText.{file_fits}
use Rattle.store_read.specs.Loading.{pattern_of}
use Rattle.store_write.specs.Writing.{written, written_bytes}
use Rattle.vertex.specs.declared.VertexID.{VertexID}
use Rattle.words.proofs.Laws.{Bytes}

module _ (s : List ℕ) (bytes : Bytes s) (label : ℕ) (out : List ℕ) where
  abbrev p : Pattern
  p = pattern_of s

  abbrev c : Content
  c = content p

  abbrev new : Content
  new = vertex_content c label

  -- the next number
  abbrev next : VertexID
  next = record { 0 = length c.points }

  abbrev answer : Answer
  answer = file_vertex s label out

  abbrev after : List ℕ
  after = file_vertex_bytes s label out

  -- not refused
  module _ (ok : file_faults s ≡ []) (adds : vertex_faults c label ≡ []) where
    stored_new : after_vertex p label ≡ stored_in p new
    stored_new = λ i. judged (file_passes s ok i) (adds i) (λ (f : Refusal). p) (λ (x : EditError). p) (stored_in p new)

    accepted : pattern_faults (stored_in p new) ≡ []
    accepted = ap pattern_faults (sym stored_new) ∙ vertex_pattern_accepted p (read_full s ok) label (file_passes s ok)

    new_fits : Fits new
    new_fits = fits_vertex c label (fits_same (file_content s) c (sym (read_content s)) (file_fits s bytes)) (vertex_allowed c label adds).labelled

    after_is : after ≡ written_bytes (stored_in p new) out
    after_is = λ i. after_read (first (ok i)) out (edited_bytes (answer_of (file_passes s ok i) (adds i) next) (stored_new i) out)

  abbrev faults : List EditError
  faults = vertex_faults (file_content s) label

  abbrev made : Content
  made = vertex_content (file_content s) label

  told : answer ≡ ended next.0 0 (file_faults s) (pattern_faults p) faults (written (after_vertex p label) out)
  told =
      let w = written (after_vertex p label) out in
      vertex_ended (file_faults s) (pattern_faults p) (vertex_faults c label) next w
      ∙ ap (λ (d : Content). ended next.0 0 (file_faults s) (pattern_faults p) (vertex_faults d label) w) (read_content s)

  its : Edit s out faults made answer after
  its =
      let same = read_content s in
      let to_made : new ≡ made = ap (λ (d : Content). vertex_content d label) same in
      record {
        x = next.0;
        y = 0;
        q = after_vertex p label;
        told = told;
        made = λ ok none.
            let adds : vertex_faults c label ≡ [] = ap (λ (d : Content). vertex_faults d label) same ∙ none in
            record {
              stored_so = stored_new ok adds ∙ ap (stored_in p) to_made;
              fine = ap (λ (d : Content). pattern_faults (stored_in p d)) (sym to_made) ∙ accepted ok adds;
              fits = fits_same new made to_made (new_fits ok adds);
              left = after_is ok adds ∙ ap (λ (d : Content). written_bytes (stored_in p d) out) to_made;
            };
      }

  -- done: the file was accepted
  pub vertex_file_read : answer.outcome ≡ 0 → file_faults s ≡ []
  vertex_file_read done = (edit_accepted s out faults made answer after its done).0

  -- the bytes written are a file that the reading checks accept, and its content is the content with the point
  pub vertex_file_lem : answer.outcome ≡ 0 → FileOf made answer.third after
  vertex_file_lem done = edit_file s out faults made answer after its done

  -- the new point has the next number
  pub vertex_file_number : answer.outcome ≡ 0 → answer.first ≡ length (file_content s).points
  vertex_file_number done =
      omega (arith, (new_numbers answer next.0 0 (file_faults s) (pattern_faults p) faults (written (after_vertex p label) out) told done).0, ap (λ (d : Content). length d.points) (read_content s))

  -- 17 is answered only if the points would pass their limit, with 0, or if the slice is too short, with the length that the edited file needs
  pub vertex_file_17 : answer.number ≡ 17 → (TooFull s faults × (answer ≡ refused 17 0)) ⊎ (TooShort s faults made out × (answer ≡ refused 17 (length (file_bytes made))))
  vertex_file_17 h = edit_17 s out faults made answer after its h

  -- and then it is
  pub vertex_file_full : TooFull s faults → answer ≡ refused 17 0
  vertex_file_full t = edit_refused s out faults made answer after its 16 t.0 t.1

  pub vertex_file_short : TooShort s faults made out → answer ≡ refused 17 (length (file_bytes made))
  vertex_file_short t = edit_short s out faults made answer after its t
