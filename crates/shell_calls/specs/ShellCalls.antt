-- The calls that ask for the condition and the openings of a shell of a pattern (FORMAT 3.3, 3.4, 6.2).
use Rattle.calls.specs.declared.ShellFigure.{ShellFigure}
use Rattle.errors.specs.declared.CallError.{CallError}
use Rattle.errors.specs.declared.NotThere.{NotThere}
use Rattle.std.specs.Prelude.{ℕ, List, ◌≡◌, length, Ok, Result}
use Rattle.calls.specs.Calls.{if_there, presence, when_there}
use Rattle.calls.specs.declared.ShellFigure.TheVariants.{Condition, Openings}
use Rattle.lists.specs.Lists.{flat}
use Rattle.pattern.specs.Contents.{Pattern, content}
use Rattle.shell.specs.Conditions.{condition}
use Rattle.shell.specs.Openings.{shell_walk}
use Rattle.shell.specs.OpeningsHold.{OpeningsPromised}
use Rattle.shell.specs.Shells.{shell_uses}

-- the condition (shell_condition)
abbrev pub condition_answer : Pattern → ℕ → Result ShellFigure (CallError NotThere)
condition_answer p n = when_there (presence p n) (Condition (record { 0 = condition (shell_uses (content p) n) }))

-- the openings (extract_boundaries): how many, their uses, the lookups
abbrev pub openings_answer : Pattern → ℕ → Result ShellFigure (CallError NotThere)
openings_answer p n = let w = shell_walk (content p) n in when_there (presence p n) (Openings (length w.openings) (length (flat w.openings)) w.lookups)

abbrev pub openings_out : Pattern → ℕ → List (List ℕ)
openings_out p n = if_there (presence p n) (shell_walk (content p) n).openings

-- what is promised of the openings of a shell that is there; demand 3
abbrev pub ShellPromised : Pattern → ℕ → Type 0
ShellPromised p n = presence p n ≡ Ok tt → OpeningsPromised (content p) n
