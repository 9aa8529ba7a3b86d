-- Worked by hand: outline 0+ 0-, a wire that has its edge there and back. The cut replaces the first use alone: the shell is Closed before it and Oriented after.
use mathlib.Core.List.{[], ◌∷◌}
use mathlib.Core.Path.{◌≡◌, refl}
use lib.Ieee.{binary64, le, lt, nan_bits, neg, of_bits, sub}
use Rattle.curve.specs.Curves.{parameter_of, refuses}
use Rattle.curve.specs.declared.Parameter.{Parameter}
use Rattle.edge.specs.Edges.{edge, in_range, is_span}
use Rattle.edge.specs.Uses.{front_of}
use Rattle.errors.specs.Faults.{each}
use Rattle.face.specs.Faces.{face_rule, shared_faults}
use Rattle.lists.specs.Lists.{count, disjoint, flat, has, no_dup, split, sum, tabulate}
use Rattle.pattern.specs.Checks.{content_faults}
use Rattle.pattern.specs.Contents.{Content}
use Rattle.shell.specs.Conditions.{alike_to, condition, uses_of}
use Rattle.shell.specs.Shells.{shell_uses, shell_wires}
use Rattle.shell_edits.specs.Edits.{cut_content, cut_faults, each_wire, listed_wires}
use Rattle.wire.specs.Wires.{closed, find_from, runs}

-- points 0, 1 and 2; edge 0 from 0 to 1, with the span 0 to 1
abbrev piece : Content
piece = record {
  points = 0 ∷ 0 ∷ 0 ∷ [];
  edges = edge (record { 0 = 0 }) (record { 0 = 1 }) (record { t0 = of_bits binary64 0; t1 = of_bits binary64 0x3ff0_0000_0000_0000 }) ∷ [];
  uses = 0 ∷ 32768 ∷ [];
  wires = 2 ∷ [];
  faces = record { wires = 1; surface = 0 } ∷ [];
  shells = 1 ∷ [];
  listings = 0 ∷ [];
}

-- 0.5
abbrev middle : Parameter
middle = parameter_of 0x3fe0_0000_0000_0000

piece_right : content_faults piece ≡ []
unfolding closed disjoint each face_rule front_of has in_range is_span le neg no_dup of_bits runs shared_faults split sum
piece_right = refl

cut_right : cut_faults piece 0 0 2 middle ≡ []
unfolding disjoint each_wire find_from flat front_of has listed_wires lt nan_bits of_bits refuses split sub tabulate
cut_right = refl

condition_right : condition (shell_uses piece 0) ≡ 3
unfolding alike_to condition count flat shell_wires split uses_of
condition_right = refl

condition_after : condition (shell_uses (cut_content piece 0 0 2 middle) 0) ≡ 2
unfolding alike_to condition count each_wire find_from flat has listed_wires shell_wires split tabulate uses_of
condition_after = refl
