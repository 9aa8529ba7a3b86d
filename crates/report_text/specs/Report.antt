-- What `report` prints, for every file (FORMAT 3.1).
use Rattle.solid.specs.declared.SolidError.{SolidError}
use Rattle.std.specs.Prelude.{ℕ, List, [], ◌∷◌, ◌++◌, map, ◌≡◌, eqb, length, Result}
use Rattle.lists.specs.Lists.{flat, numbers}
use Rattle.errors.specs.declared.Refusal.{Refusal}
use Rattle.lines.specs.Lines.{Report, shell_lines, solid_line}
use Rattle.output.specs.Text.{refusal_line}
use Rattle.pattern.specs.Contents.{Content}
use Rattle.pattern_file.specs.File.{file_content, file_faults}
use Rattle.shell.specs.Components.{components}
use Rattle.shell.specs.Conditions.{condition}
use Rattle.shell.specs.Connected.{connected}
use Rattle.shell.specs.Openings.{shell_walk}
use Rattle.shell.specs.OpeningsHold.{OpeningsPromised}
use Rattle.shell.specs.Shells.{shell_uses}
use Rattle.shell.specs.Singular.{singular_points}
use Rattle.solid.specs.Solid.{solid_of, solid_reply, solid_shell}

abbrev pub shell_report : Content → ℕ → Report
shell_report c n = record {
  condition = condition (shell_uses c n);
  connected = connected c n;
  openings = (shell_walk c n).openings;
  lookups = (shell_walk c n).lookups;
  components = components c n;
  singular = singular_points c n;
}

-- the line of a solid's answer
abbrev pub solid_text : Result Unit SolidError → List ℕ
solid_text a = solid_line (eqb (solid_reply a).outcome 0) (solid_reply a).number (solid_shell a)

-- for each shell its lines; the last line is the solid's
unfoldable pub report_text : Content → List ℕ
report_text c = flat (map (λ (n : ℕ). shell_lines n (shell_report c n)) (numbers (length c.shells))) ++ solid_text (solid_of c)

-- a bad file prints its refusal
abbrev pub text_for : List Refusal → Content → List ℕ
text_for (f ∷ fs) c = refusal_line f
text_for [] c = report_text c

-- what is promised of the openings of every shell of an accepted file; demand 3
abbrev pub ReportPromised : List ℕ → Type 0
ReportPromised s = file_faults s ≡ [] → (n : ℕ) → OpeningsPromised (file_content s) n

-- the text of a file's bytes
unfoldable pub report_of : List ℕ → List ℕ
report_of s = text_for (file_faults s) (file_content s)
