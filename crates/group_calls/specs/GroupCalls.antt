-- The calls that ask for the groups of a shell of a pattern (FORMAT 3.5 to 3.7, 6.2).
use Rattle.calls.specs.declared.ShellFigure.{ShellFigure}
use Rattle.errors.specs.declared.CallError.{CallError}
use Rattle.errors.specs.declared.NotThere.{NotThere}
use Rattle.std.specs.Prelude.{ℕ, List, length, Result}
use Rattle.calls.specs.Calls.{if_there, presence, when_there}
use Rattle.calls.specs.declared.ShellFigure.TheVariants.{Components, Connected, Singular}
use Rattle.lists.specs.Lists.{flat}
use Rattle.pattern.specs.Contents.{Pattern, content}
use Rattle.shell.specs.Components.{components}
use Rattle.shell.specs.Connected.{connected}
use Rattle.shell.specs.Singular.{singular_points}

-- whether it is connected (is_connected)
abbrev pub connected_answer : Pattern → ℕ → Result ShellFigure (CallError NotThere)
connected_answer p n = when_there (presence p n) (Connected (connected (content p) n))

-- the components (connected_components): how many, their pairs
abbrev pub components_answer : Pattern → ℕ → Result ShellFigure (CallError NotThere)
components_answer p n = let cs = components (content p) n in when_there (presence p n) (Components (length cs) (length (flat cs)))

abbrev pub components_out : Pattern → ℕ → List (List ℕ)
components_out p n = if_there (presence p n) (components (content p) n)

-- the singular points (singular_vertices): how many
abbrev pub singular_answer : Pattern → ℕ → Result ShellFigure (CallError NotThere)
singular_answer p n = when_there (presence p n) (Singular (length (singular_points (content p) n)))

abbrev pub singular_out : Pattern → ℕ → List ℕ
singular_out p n = if_there (presence p n) (singular_points (content p) n)
