-- The lines of a shell in the output.
use Rattle.std.specs.Prelude.{ℕ, ◌+◌, List, ◌≡◌, length}
use Rattle.std.proofs.lemmas.List.Edits.{sets}
use Rattle.lines.specs.Lines.{shell_lines}
use Rattle.pattern.specs.Contents.{Content}
use Rattle.report_text.specs.Report.{shell_report}
use Rattle.report_text.specs.declared.ShellText.{ShellText}
use Rattle.solid.specs.Solid.{shell_errors}
use Rattle.solid.specs.Sequence.{first_error}

-- the lines of shell n are written from `at` on
pub record Shelled (c : Content) (n : ℕ) (out₀ : List ℕ) (at : ℕ) (out : List ℕ) (r : ShellText) : Type 0 where
  pub written : out ≡ sets out₀ at (shell_lines n (shell_report c n))
  pub place : r.at ≡ at + length (shell_lines n (shell_report c n))
  pub wrong : r.check ≡ first_error (shell_errors c n)
