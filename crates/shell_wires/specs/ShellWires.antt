-- What the edits of a shell need of a stored pattern.
use Rattle.std.specs.Prelude.{ℕ, false, map, length}
use Rattle.lists.specs.Lists.{has, numbers, padded}
use Rattle.pattern.specs.Contents.{Pattern, content}
use Rattle.shell_edits.specs.Edits.{shares_face, wires_of}
use Rattle.shell_wires.specs.declared.Marks.{Marks}

-- whether a face of shell n is also listed in another, which wires the shell has
abbrev pub marks_of : Pattern → ℕ → Marks
marks_of p n = record {
  shared = shares_face (content p) n;
  wires = padded 1024 false (map (λ (w : ℕ). has w (wires_of (content p) n)) (numbers (length (content p).wires)));
}
