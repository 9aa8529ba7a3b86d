-- A shell that is the same in two patterns is reported alike.
use Prim.Native.Nat.{ℕ}
use mathlib.Core.Path.{◌≡◌}
use Rattle.lines.specs.Lines.{shell_lines}
use Rattle.pattern.specs.Contents.{Content}
use Rattle.report_text.specs.Report.{shell_report}
use Rattle.shell.specs.ShellKept.{ShellKept}

pub report_kept : (c d : Content) (m : ℕ) → ShellKept c d m → shell_lines m (shell_report d m) ≡ shell_lines m (shell_report c m)
report_kept c d m s =
    λ i. shell_lines m (record {
      condition = s.condition_kept i;
      connected = s.connected_kept i;
      openings = s.openings_kept i;
      lookups = s.lookups_kept i;
      components = s.components_kept i;
      singular = s.singular_kept i;
    })
