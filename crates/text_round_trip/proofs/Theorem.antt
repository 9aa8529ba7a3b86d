-- Going there and back returns the pattern, and so the file: the text of an accepted pattern says that pattern, and the text of an accepted file makes that file.
use Prim.Native.Nat.{◌+◌, ◌<◌, ℕ}
use mathlib.Core.Bool.{false, true}
use mathlib.Core.List.{List, []}
use mathlib.Core.Logic.{⊎_elim}
use mathlib.Core.Path.{◌∙◌, ◌≡◌, ap, refl, subst, sym}
use native.Mathlib.Omega.{arith}
use lib.ListN.{get_or, length}
use borrow.Author.Tests.{eqb-true, le-ltb}
use Rattle.errors.proofs.Laws.{none_left, none_right}
use Rattle.errors.specs.Faults.{each}
use Rattle.errors.specs.declared.Refusal.{Refusal}
use Rattle.draft_forms.specs.LineForms.{kind_named}
use Rattle.draft_parts.specs.Parts.{bare, needed_words, nothing, parts_of}
use Rattle.face.specs.Faces.{face_rule}
use Rattle.forms.specs.Forms.{values}
use Rattle.lists.proofs.Laws.{cases}
use Rattle.lists.specs.Lists.{flat, split, sum, tabulate}
use Rattle.output.specs.Text.{ascii}
use Rattle.text.specs.Text.{fed, words}
use Rattle.text.specs.Tokens.{name, name_after}
use Rattle.pattern_table.proofs.Laws.{counts_of_content, table_counts}
use Rattle.pattern.specs.Checks.{content_faults, count_faults}
use Rattle.pattern.specs.Contents.{Content, counts_of}
use Rattle.pattern_file.proofs.Fits.{Fits}
use Rattle.pattern_file.proofs.RoundTrip.{written_of_read}
use Rattle.pattern_file.specs.File.{file_bytes, file_content, file_faults, table_faults}
use Rattle.show_text.proofs.FileText.{file_fits}
use Rattle.show_text.specs.PatternText.{file_text, pattern_text, record_lines, text_of}
use Rattle.draft_text.specs.TextPattern.{agreed, checked, gathered, line_faults, made, said, text_content, text_faults, text_file, word_faults}
use Rattle.std.specs.Prelude.{Ok}
use Rattle.text_round_trip.proofs.Text.{no_fault_lem, not_long, same_content, unmarked, unsaid}

-- the text says the pattern, and makes its file
abbrev pub Back : List ℕ → Content → Type 0
Back text c = (text_content text ≡ c) × (made text ≡ Ok (length (file_bytes c)))

empty_back : Back (ascii "empty\n") nothing
unfolding made text_faults line_faults word_faults gathered said fed words kind_named name name_after values parts_of needed_words each sum face_rule split
empty_back = (refl, refl)

-- an accepted pattern; every number is one of its record's width
module _ (c : Content) (few : count_faults (counts_of c) ≡ []) (ok : content_faults c ≡ []) (fit : Fits c) where
  records_back : bare (counts_of c) ≡ false → Back (record_lines c) c
  unfolding made
  records_back h =
      let text = record_lines c in
      let same = same_content c few ok fit in
      let lines-right : made text ≡ agreed (bare (counts_of (text_content text))) false (checked (content_faults (text_content text)) text (text_file text)) =
      rw (le-ltb 262144 (length text) (not_long c few ok fit), unmarked c few ok fit, no_fault_lem c few ok fit, unsaid c few ok fit) in
      (same, lines-right ∙ ap (λ (d : Content). agreed (bare (counts_of d)) false (checked (content_faults d) text (file_bytes d))) same ∙ rw (h, ok))

  -- without points, edges, faces and shells there are no records at all: no line makes the pattern
  no_lines : bare (counts_of c) ≡ true → record_lines c ≡ []
  unfolding flat tabulate
  no_lines h =
      let z = eqb-true (length c.points + length c.edges + length c.faces + length c.shells) 0 h in
      let a : length c.points ≡ 0 = omega arith in
      let b : length c.edges ≡ 0 = omega arith in
      let f : length c.faces ≡ 0 = omega arith in
      let s : length c.shells ≡ 0 = omega arith in
      rw (a, b, f, s)

  no_records : bare (counts_of c) ≡ true → nothing ≡ c
  unfolding gathered fed
  no_records h = ap text_content (sym (no_lines h)) ∙ same_content c few ok fit

  pub pattern_back : Back (pattern_text c) c
  unfolding pattern_text
  pattern_back =
      ⊎_elim
      (λ (h : bare (counts_of c) ≡ true). rw h (subst (Back (ascii "empty\n")) (no_records h) empty_back))
      (λ (h : bare (counts_of c) ≡ false). rw h (records_back h))
      (cases (bare (counts_of c)))

pub there_and_back : (s : List ℕ) → ((k : ℕ) → get_or s k 0 < 256) → file_faults s ≡ [] → (text_file (file_text s) ≡ s) × (made (file_text s) ≡ Ok (length s))
there_and_back s bytes ok =
    let c = file_content s in
    let few : count_faults (counts_of c) ≡ [] = ap count_faults (sym (counts_of_content s)) ∙ table_counts s (none_left (table_faults s) (content_faults c) ok) in
    let back = pattern_back c few (none_right (table_faults s) (content_faults c) ok) (file_fits s bytes) in
    let printed : file_text s ≡ pattern_text c = ap (λ (fs : List Refusal). text_of fs c) ok in
    let file = written_of_read s bytes ok in
    (ap text_file printed ∙ ap file_bytes back.0 ∙ file, ap made printed ∙ back.1 ∙ ap (λ (r : List ℕ). Ok (length r)) file)
