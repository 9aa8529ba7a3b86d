-- Examples: command lines, and answers that are done or not.
use mathlib.Core.Bool.{false, true}
use mathlib.Core.List.{[], ◌∷◌}
use mathlib.Core.Path.{◌≡◌, refl}
use Rattle.output.specs.Text.{ascii}
use Rattle.text.specs.Tokens.{name, name_after}
use Rattle.queue.specs.Command.{asked, word_of}
use Rattle.queue.specs.Queue.{is_done}
use Rattle.queue.specs.declared.Asked.TheVariants.{File, Misused, Options, Usage}

asked_of : (asked [] ≡ Options false false)
    × (asked (ascii "coat" ∷ []) ≡ File false false)
    × (asked (ascii "--try" ∷ ascii "--stop" ∷ ascii "./-x" ∷ []) ≡ File true true)
    × (asked (ascii "--help" ∷ []) ≡ Usage)
    × (asked (ascii "-h" ∷ []) ≡ Usage)
    × (asked (ascii "--stop" ∷ ascii "--help" ∷ []) ≡ Misused)
    × (asked (ascii "--stop" ∷ []) ≡ Options true false)
    × (asked (ascii "coat" ∷ ascii "--stop" ∷ []) ≡ Misused)
    × (asked (ascii "-x" ∷ ascii "coat" ∷ []) ≡ Misused)
    × (asked ([] ∷ []) ≡ File false false)
unfolding word_of
asked_of = (refl, refl, refl, refl, refl, refl, refl, refl, refl, refl)

done_or_not : (is_done (ascii "done edge 50\n") ≡ true) × (is_done (ascii "done\n") ≡ true) × (is_done (ascii "donee 1\n") ≡ false) × (is_done (ascii "refused 14\n") ≡ false) × (is_done (ascii "done") ≡ false)
unfolding is_done name name_after
done_or_not = (refl, refl, refl, refl, refl)
