-- The command line of the program `edit`: options, and the name of a file.
use Rattle.std.specs.Prelude.{ℕ, Bool, ◌||◌, false, true, List, [], ◌∷◌, eqb, get_or}
use Rattle.std.specs.Str.{bytes_eq}
use Rattle.lists.specs.Lists.{pick}
use Rattle.output.specs.Text.{ascii}
use Rattle.queue.specs.declared.Asked.{Asked}
use Rattle.queue.specs.declared.Asked.TheVariants.{File, Misused, Options, Usage}
use Rattle.queue.specs.declared.Word.{Word}
use Rattle.queue.specs.declared.Word.TheVariants.{Help, Name, Stop, Try, Unknown}

-- one that begins with `-` is an option, or unknown
unfoldable pub word_of : List ℕ → Word
word_of w =
    pick (bytes_eq w (ascii "--stop")) Stop
    (pick (bytes_eq w (ascii "--try")) Try
    (pick (bytes_eq w (ascii "--help") || bytes_eq w (ascii "-h")) Help
    (pick (eqb (get_or w 0 0) 45) Unknown Name)))

abbrev pub after_options : Bool → Bool → Word → Asked
after_options stop trial Stop = Options true trial
after_options stop trial Try = Options stop true
after_options stop trial Help = pick (stop || trial) Misused Usage
after_options stop trial Name = File stop trial
after_options stop trial Unknown = Misused

-- the name is the last word, and help the only one
abbrev pub next_asked : Asked → Word → Asked
next_asked (Options stop trial) w = after_options stop trial w
next_asked (File stop trial) w = Misused
next_asked Usage w = Misused
next_asked Misused w = Misused

abbrev pub asked_after : Asked → List (List ℕ) → Asked
asked_after a [] = a
asked_after a (w ∷ ws) = asked_after (next_asked a (word_of w)) ws

-- what the words after the program's name ask: run where it is a file, say the usage else
abbrev pub asked : List (List ℕ) → Asked
asked ws = asked_after (Options false false) ws
