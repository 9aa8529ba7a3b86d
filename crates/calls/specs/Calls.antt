-- The calls on a shell of a pattern: the reading checks first, then 3 for a shell that does not exist (FORMAT 6.2).
use Rattle.std.specs.Prelude.{ℕ, List, [], ◌∷◌, Result, Ok, Err, ltb, length}
use Rattle.calls.specs.declared.ShellFigure.TheVariants.{Components, Condition, Connected, Openings, Singular}
use Rattle.calls.specs.declared.ShellFigure.{ShellFigure}
use Rattle.errors.specs.Numbers.{Reply, call_reply, not_there, not_there_reply}
use Rattle.errors.specs.declared.CallError.{CallError}
use Rattle.errors.specs.declared.CallError.TheVariants.{Refused, Unread}
use Rattle.errors.specs.declared.NotThere.{NotThere}
use Rattle.errors.specs.declared.Refusal.{Refusal}
use Rattle.lists.specs.Lists.{pick}
use Rattle.pattern.specs.Checks.{pattern_faults}
use Rattle.pattern.specs.Contents.{Content, Pattern, content}

abbrev pub presence_of : List Refusal → Content → ℕ → Result Unit (CallError NotThere)
presence_of (f ∷ fs) c n = Err (Unread f)
presence_of [] c n = pick (ltb n (length c.shells)) (Ok tt) (Err (Refused not_there))

abbrev pub presence : Pattern → ℕ → Result Unit (CallError NotThere)
presence p n = presence_of (pattern_faults p) (content p) n

-- the answer of a call: the figure if the shell is there
abbrev pub when_there : Result Unit (CallError NotThere) → ShellFigure → Result ShellFigure (CallError NotThere)
when_there (Ok x) g = Ok g
when_there (Err e) g = Err e

-- the values of a figure
abbrev pub figure_of : ShellFigure → List ℕ
figure_of (Condition w) = w.0 ∷ []
figure_of (Openings k m l) = k ∷ m ∷ l ∷ []
figure_of (Connected b) = pick b 1 0 ∷ []
figure_of (Components k m) = k ∷ m ∷ []
figure_of (Singular k) = k ∷ []

-- number and values: the figure's; 3 alone for a shell that does not exist
abbrev pub figure_reply : Result ShellFigure (CallError NotThere) → Reply
figure_reply r = call_reply figure_of not_there_reply r

-- what is written: nothing unless the shell is there
abbrev pub if_there {ℓ} : {A : Type ℓ} → Result Unit (CallError NotThere) → List A → List A
if_there (Ok x) xs = xs
if_there (Err e) xs = []
