-- The definitions give the answers of the table.
use mathlib.Core.List.{map}
use mathlib.Core.Path.{◌≡◌, refl}
use lib.Ieee.{add, le, lt, nan_bits, neg, of_bits, round, sub, to_bits}
use Rattle.curve.specs.Curves.{refuses}
use Rattle.edge.specs.Edges.{in_range, is_span}
use Rattle.edge.specs.Uses.{front_of}
use Rattle.errors.specs.Faults.{each}
use Rattle.face.specs.Faces.{face_rule, shared_faults}
use Rattle.groups.specs.Groups.{every, labelled, links, one_group}
use Rattle.lines.specs.Lines.{line, number_line, shell_lines, signed, solid_line}
use Rattle.lists.specs.Lists.{count, disjoint, flat, has, no_dup, once, only, split, sum, tabulate}
use Rattle.output.specs.Text.{decimal, digits, field}
use Rattle.pattern_file.specs.File.{body_lengths, start_of}
use Rattle.report_text.specs.Report.{report_of, report_text}
use Rattle.shell.specs.Components.{components_of, groups_of, pair_links}
use Rattle.shell.specs.Conditions.{alike_to, condition, uses_of}
use Rattle.shell.specs.Connected.{connected_of, face_links}
use Rattle.shell.specs.Openings.{chain, first_start, free_uses, keep, walk}
use Rattle.shell.specs.Shells.{shell_wires}
use Rattle.shell.specs.Singular.{corners, ends_at, singular_of}
use Rattle.shell_edits.specs.Edits.{each_wire, listed_wires}
use Rattle.solid.specs.Solid.{solid_errors}
use Rattle.wire.specs.Wires.{closed, find_from, runs}
use Rattle.worked.specs.Table.{Row, answer_to, table}

pub table_right : map (λ (r : Row). answer_to r.asked) table ≡ map (λ (r : Row). r.worked) table
unfolding alike_to body_lengths chain closed components_of condition connected_of corners count decimal digits disjoint each ends_at every face_links face_rule field first_start flat free_uses front_of groups_of has in_range is_span keep labelled line links no_dup number_line once one_group only pair_links report_of report_text runs shared_faults shell_lines shell_wires signed singular_of solid_errors solid_line split start_of sum tabulate uses_of walk add each_wire find_from le listed_wires lt nan_bits neg of_bits refuses round sub to_bits
table_right = refl
