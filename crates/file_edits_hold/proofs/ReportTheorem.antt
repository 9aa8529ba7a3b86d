-- What `report` prints of a file to which a point was added is what it printed before.
use Prim.Native.Nat.{ℕ}
use mathlib.Core.List.{List, [], ◌++◌, map}
use mathlib.Core.Path.{◌∙◌, ◌≡◌, sym}
use lib.ListN.{length, take}
use Rattle.file_edits_hold.proofs.Files.{content_read}
use Rattle.file_edits_hold.proofs.VertexTheorem.{vertex_file_lem, vertex_file_read}
use Rattle.file_vertex.specs.FileVertex.{file_vertex, file_vertex_bytes}
use Rattle.lists.specs.Lists.{flat, numbers}
use Rattle.pattern.specs.Checks.{content_faults}
use Rattle.pattern.specs.Contents.{Content}
use Rattle.pattern_file.specs.File.{file_content}
use Rattle.report_text.proofs.Kept.{report_kept}
use Rattle.report_text.specs.Report.{report_of, report_text, solid_text, text_for}
use Rattle.shell_edits.proofs.VertexTheorem.{vertex_keeps_solid, vertex_kept}
use Rattle.shell_edits.specs.Edits.{vertex_content}
use Rattle.words.proofs.Laws.{Bytes}

-- shell by shell, and the solid
text_kept : (c : Content) → content_faults c ≡ [] → (label : ℕ) → report_text (vertex_content c label) ≡ report_text c
unfolding report_text
text_kept c ok label = λ i.
    flat (map (λ (n : ℕ). report_kept c (vertex_content c label) n (vertex_kept c ok label n) i) (numbers (length c.shells))) ++ solid_text (vertex_keeps_solid c ok label i)

pub vertex_file_report : (s : List ℕ) → Bytes s → (label : ℕ) (out : List ℕ)
    → (let answer = file_vertex s label out in answer.outcome ≡ 0 → report_of (take answer.third (file_vertex_bytes s label out)) ≡ report_of s)
unfolding report_of
vertex_file_report s bytes label out done =
    let f = vertex_file_lem s bytes label out done in
    let ok = vertex_file_read s bytes label out done in
    (λ i. text_for (f.accepted i) (f.holds i)) ∙ text_kept (file_content s) (content_read s ok) label ∙ sym (λ i. text_for (ok i) (file_content s))
