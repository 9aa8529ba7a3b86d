-- What a stop means, whatever the file, the lines and how each ends.
use Prim.Native.Nat.{ℕ}
use mathlib.Core.Bool.{Bool, ◌&&◌, false, not, true}
use mathlib.Core.List.{List, [], ◌∷◌}
use mathlib.Core.Logic.{⊎_elim}
use mathlib.Core.Path.{◌≡◌, refl}
use lib.ListN.{length}
use Rattle.lists.proofs.Laws.{cases}
use Rattle.output.specs.Text.{ascii}
use Rattle.text.specs.Tokens.{name, name_after}
use Rattle.queue.specs.Queue.{AllDone, AllSkipped, Line, Stops, answer_text, answers, file_at_end, is_done, ending_of, line_answer, line_file}
use Rattle.queue.specs.declared.Ending.TheVariants.{Done, Skipped}

skipped_not_done : is_done (ascii "skipped\n") ≡ false
unfolding is_done name name_after
skipped_not_done = refl

skipped_text : (t : List ℕ) → answer_text Skipped t ≡ ascii "skipped\n"
unfolding answer_text
skipped_text t = refl

module _ (trial known : Bool) where
  -- every line gets an answer
  pub one_each : (stop stopped : Bool) (s : List ℕ) (ls : List Line) → length (answers trial known stop stopped s ls) ≡ length ls
  unfolding answers
  one_each stop stopped s [] = refl
  one_each stop stopped s (l ∷ ls) = rw (one_each stop (stop && not (is_done (line_answer trial known stopped s l))) (line_file trial known stopped s l) ls)

  -- once stopped, each answer is `skipped`, and the file stays
  pub stopped_skips : (s : List ℕ) (ls : List Line) → AllSkipped (answers trial known true true s ls) × (file_at_end trial known true true s ls ≡ s)
  unfolding answers file_at_end AllSkipped
  stopped_skips s [] = (tt, refl)
  stopped_skips s (l ∷ ls) = rw (skipped_text _, skipped_not_done) ((refl, (stopped_skips s ls).0), (stopped_skips s ls).1)

  -- the queue stops after the first answer that is not done
  pub stops_once : (s : List ℕ) (ls : List Line) → Stops (answers trial known true false s ls)
  unfolding answers Stops
  stops_once s [] = tt
  stops_once s (l ∷ ls) =
      ⊎_elim
      (λ (d : is_done (line_answer trial known false s l) ≡ true). rw d (stops_once (line_file trial known false s l) ls))
      (λ (d : is_done (line_answer trial known false s l) ≡ false). rw d (stopped_skips (line_file trial known false s l) ls).0)
      (cases (is_done (line_answer trial known false s l)))

same_ending : (known stopped : Bool) (l : Line) → l.ending ≡ Done → ending_of true true stopped l ≡ ending_of false known stopped l
same_ending known true l e = refl
same_ending known false l e = rw e

-- where nothing fails, a queue that only tries answers as one on the file does
pub tries_alike : (known stop stopped : Bool) (s : List ℕ) (ls : List Line) → AllDone ls → answers true true stop stopped s ls ≡ answers false known stop stopped s ls
unfolding answers AllDone
tries_alike known stop stopped s [] d = refl
tries_alike known stop stopped s (l ∷ ls) d = rw (same_ending known stopped l d.0, tries_alike known stop (stop && not (is_done (line_answer false known stopped s l))) (line_file false known stopped s l) ls d.1)
