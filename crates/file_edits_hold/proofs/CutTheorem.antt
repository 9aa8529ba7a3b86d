-- The cut on a file: the file that it writes is accepted, and holds the cut content; the same cut of that file is answered 14; when it is answered 17.
use Prim.Native.Nat.{◌+◌, ◌<◌, ℕ}
use mathlib.Core.Bool.{◌&&◌, true}
use mathlib.Core.List.{List, [], map}
use mathlib.Core.Logic.{◌⊎◌}
use mathlib.Core.Path.{◌∙◌, ◌≡◌, ap, refl, sym}
use native.Mathlib.Omega.{arith}
use lib.Dec.{ltb}
use lib.ListN.{length, length-append, take}
use borrow.Author.Tests.{ltb-true}
use Rattle.answers.specs.Read.{after_read, edited_bytes}
use Rattle.answers.specs.Values.{refused}
use Rattle.answers.specs.declared.Answer.{Answer}
use Rattle.curve.specs.Curves.{cut_curve, parameter_of}
use Rattle.curve.specs.declared.Parameter.{Parameter}
use Rattle.edge.specs.Uses.{edge_number}
use Rattle.edge.specs.declared.EdgeID.{EdgeID}
use Rattle.edit_answers.specs.Answers.{answer_of, judged}
use Rattle.edit_answers.specs.declared.EditError.{EditError}
use Rattle.edit_answers.specs.declared.EditError.TheVariants.{Unnamed}
use Rattle.errors.proofs.Laws.{none_left, unless_passes}
use Rattle.errors.specs.Faults.{first}
use Rattle.errors.specs.declared.Refusal.{Refusal}
use Rattle.file_cut.specs.FileCut.{file_cut, file_cut_bytes}
use Rattle.file_edits_hold.proofs.Files.{Edit, content_read, cut_ended, edit_17, edit_accepted, edit_file, edit_refused, edit_short, ended, file_passes, fits_same, new_few, new_fine, new_numbers, read_content, read_full, refused_ended}
use Rattle.file_edits_hold.proofs.Fitting.{curve_fits, cut_wires_low, fits_edited, halves_fit}
use Rattle.file_edits_hold.specs.FileTheorems.{FileOf, TooFull, TooShort}
use Rattle.lists.proofs.Laws.{left_true, right_true}
use Rattle.lists.specs.Lists.{flat, has, unless}
use Rattle.pattern.proofs.Counts.{limited}
use Rattle.pattern.specs.Checks.{pattern_faults}
use Rattle.pattern.specs.Contents.{Content, Pattern, content, counts_of, stored_in}
use Rattle.pattern_file.proofs.Fits.{Fits}
use Rattle.pattern_file.specs.File.{file_bytes, file_content, file_faults}
use Rattle.shell.specs.Openings.{front_in}
use Rattle.shell_edits.proofs.CutTheorem.{cut_again, cut_pattern_accepted}
use Rattle.shell_edits.specs.Answers.{after_cut, next_edge}
use Rattle.shell_edits.specs.Edits.{cut_content, cut_faults, cut_wires, edge_at, later_faults, shares_face, uses_in}
use Rattle.shell_edits.specs.NewEdges.{half_edges}
use Rattle.shell_edits.specs.Theorems.{first_number}
use Rattle.show_text.proofs.FileText.{file_fits}
use Rattle.store_read.specs.Loading.{pattern_of}
use Rattle.store_write.specs.Writing.{written, written_bytes}
use Rattle.words.proofs.Laws.{Bytes}

-- the edge of a cut that is not refused
named : (c : Content) (n e v : ℕ) (at : Parameter) → cut_faults c n e v at ≡ [] → e < length c.edges
named c n e v at h =
    let a = ltb n (length c.shells) in
    let b = ltb e (length c.edges) in
    let d = ltb v (length c.points) in
    let all : (a && b && d) ≡ true =
    unless_passes (a && b && d) Unnamed
    (none_left (unless (a && b && d) Unnamed)
    (later_faults (shares_face c n) (has v (map (front_in c) (uses_in c n))) (has e (map edge_number (uses_in c n))) (cut_curve (edge_at c e).curve at) (length c.edges + 2) (length (flat (cut_wires c n e)))) h) in
    ltb-true e (length c.edges) (right_true a b (left_true (a && b) d all))

-- edge e of shell n of file s, cut at point v, where `bits` say; the edited file goes to slice `out`
told : (s : List ℕ) (n e v bits : ℕ) (out : List ℕ) → let p = pattern_of s in let at = parameter_of bits in
    file_cut s n e v bits out ≡ ended (next_edge p 0).0 (next_edge p 1).0 (file_faults s) (pattern_faults p) (cut_faults (file_content s) n e v at) (written (after_cut p n e v at) out)
told s n e v bits out =
    let p = pattern_of s in
    let at = parameter_of bits in
    let w = written (after_cut p n e v at) out in
    cut_ended (file_faults s) (pattern_faults p) (cut_faults (content p) n e v at) (next_edge p 0) (next_edge p 1) w
    ∙ ap (λ (d : Content). ended (next_edge p 0).0 (next_edge p 1).0 (file_faults s) (pattern_faults p) (cut_faults d n e v at) w) (read_content s)

module _ (s : List ℕ) (bytes : Bytes s) (n e v bits : ℕ) (out : List ℕ) where
  abbrev at : Parameter
  at = parameter_of bits

  abbrev p : Pattern
  p = pattern_of s

  abbrev c : Content
  c = content p

  abbrev new : Content
  new = cut_content c n e v at

  abbrev answer : Answer
  answer = file_cut s n e v bits out

  abbrev after : List ℕ
  after = file_cut_bytes s n e v bits out

  fit : Fits c
  fit = fits_same (file_content s) c (sym (read_content s)) (file_fits s bytes)

  -- not refused
  module _ (ok : file_faults s ≡ []) (cut : cut_faults c n e v at ≡ []) where
    passes : pattern_faults p ≡ []
    passes = file_passes s ok

    inside : e < length c.edges
    inside = named c n e v at cut

    stored_new : after_cut p n e v at ≡ stored_in p new
    stored_new = λ i. judged (passes i) (cut i) (λ (f : Refusal). p) (λ (x : EditError). p) (stored_in p new)

    accepted : pattern_faults (stored_in p new) ≡ []
    accepted = ap pattern_faults (sym stored_new) ∙ cut_pattern_accepted p n e v at passes (read_full s ok)

    few_edges : length c.edges + 1 < 32768
    few_edges = omega (arith, (limited (counts_of new) refl (new_few p (read_full s ok) new accepted)).edges, length-append c.edges (half_edges (edge_at c e) v (cut_curve (edge_at c e).curve at)))

    new_fits : Fits new
    new_fits =
        fits_edited c (half_edges (edge_at c e) v (cut_curve (edge_at c e).curve at)) (flat (cut_wires c n e)) (map length (cut_wires c n e)) fit (new_few p (read_full s ok) new accepted) (new_fine p (read_full s ok) new accepted)
        (halves_fit (edge_at c e) v bits (curve_fits c e fit inside)) (cut_wires_low c n e fit few_edges)

    after_is : after ≡ written_bytes (stored_in p new) out
    after_is = λ i. after_read (first (ok i)) out (edited_bytes {T = EdgeID × EdgeID} (answer_of (passes i) (cut i) (next_edge p 0, next_edge p 1)) (stored_new i) out)

  abbrev faults : List EditError
  faults = cut_faults (file_content s) n e v at

  abbrev made : Content
  made = cut_content (file_content s) n e v at

  its : Edit s out faults made answer after
  its =
      let same = read_content s in
      let to_made : new ≡ made = ap (λ (d : Content). cut_content d n e v at) same in
      record {
        x = (next_edge p 0).0;
        y = (next_edge p 1).0;
        q = after_cut p n e v at;
        told = told s n e v bits out;
        made = λ ok none.
            let cut : cut_faults c n e v at ≡ [] = ap (λ (d : Content). cut_faults d n e v at) same ∙ none in
            record {
              stored_so = stored_new ok cut ∙ ap (stored_in p) to_made;
              fine = ap (λ (d : Content). pattern_faults (stored_in p d)) (sym to_made) ∙ accepted ok cut;
              fits = fits_same new made to_made (new_fits ok cut);
              left = after_is ok cut ∙ ap (λ (d : Content). written_bytes (stored_in p d) out) to_made;
            };
      }

  -- done: the bytes written are a file that the reading checks accept, and its content is the cut content
  pub cut_file_lem : answer.outcome ≡ 0 → FileOf made answer.third after
  cut_file_lem done = edit_file s out faults made answer after its done

  -- the new edges have the next two numbers
  pub cut_file_numbers : answer.outcome ≡ 0 → (answer.first ≡ length (file_content s).edges) × (answer.second ≡ length (file_content s).edges + 1)
  cut_file_numbers done =
      let t = new_numbers answer (next_edge p 0).0 (next_edge p 1).0 (file_faults s) (pattern_faults p) faults (written (after_cut p n e v at) out) (told s n e v bits out) done in
      let long = ap (λ (d : Content). length d.edges) (read_content s) in
      (omega (arith, t.0, long), omega (arith, t.1, long))

  -- the same cut of that file, with any parameter, is answered 14
  pub cut_file_again : answer.outcome ≡ 0 → (bits' : ℕ) (out' : List ℕ) → file_cut (take answer.third after) n e v bits' out' ≡ refused 14 0
  cut_file_again done bits' out' =
      let t = edit_accepted s out faults made answer after its done in
      let f = cut_file_lem done in
      let file = take answer.third after in
      let q = pattern_of file in
      let at' = parameter_of bits' in
      let fine = content_read s t.0 in
      told file n e v bits' out'
      ∙ refused_ended (next_edge q 0).0 (next_edge q 1).0 (file_faults file) (pattern_faults q) (cut_faults (file_content file) n e v at') (written (after_cut q n e v at') out') 13 f.accepted (file_passes file f.accepted)
      (ap (λ (d : Content). first_number (cut_faults d n e v at')) f.holds ∙ cut_again (file_content s) n e v at fine t.1 at')

  -- 17 is answered only if a table would pass its limit, with 0, or if the slice is too short, with the length that the edited file needs
  pub cut_file_17 : answer.number ≡ 17 → (TooFull s faults × (answer ≡ refused 17 0)) ⊎ (TooShort s faults made out × (answer ≡ refused 17 (length (file_bytes made))))
  cut_file_17 h = edit_17 s out faults made answer after its h

  -- and then it is
  pub cut_file_full : TooFull s faults → answer ≡ refused 17 0
  cut_file_full t = edit_refused s out faults made answer after its 16 t.0 t.1

  pub cut_file_short : TooShort s faults made out → answer ≡ refused 17 (length (file_bytes made))
  cut_file_short t = edit_short s out faults made answer after its t
