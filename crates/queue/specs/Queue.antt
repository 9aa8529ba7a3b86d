-- The queue of the program `edit`: the lines of its input, each with how it ends, give answers and a file.
use Rattle.std.specs.Prelude.{ℕ, Bool, ◌&&◌, ◌||◌, false, not, true, List, [], ◌∷◌, ◌++◌, ◌≡◌, eqb, leb, ltb, get_or, length, replicate, take, Option}
use Rattle.std.specs.Bool.{then_some}
use Rattle.jobs.specs.Jobs.{line_length, line_out, line_text}
use Rattle.lists.specs.Lists.{pick}
use Rattle.output.specs.Text.{ascii}
use Rattle.text.specs.Tokens.{name}
use Rattle.queue.specs.declared.Choice.{Choice}
use Rattle.queue.specs.declared.Choice.TheVariants.{Miss, Perform, Rehearse, Skip}
use Rattle.queue.specs.declared.Ending.{Ending}
use Rattle.queue.specs.declared.Ending.TheVariants.{Done, Kept, Skipped, Unread, Unsynced}

-- ---- one line

-- room for the longest file
abbrev pub room : List ℕ
room = replicate 41048 0

-- the first k bytes of `out` where there are any, else the file s
unfoldable pub edited : List ℕ → List ℕ → ℕ → List ℕ
edited s out k = pick (leb 1 k && leb k (length out)) (take k out) s

-- file s after the job of a line
unfoldable pub file_after : List ℕ → List ℕ → List ℕ
file_after l s = edited s (line_out l s room) (line_length l s room)

-- the length of that file, where the job edits one
abbrev pub edited_length : List ℕ → List ℕ → Option ℕ
edited_length l s = then_some (ltb 0 (line_length l s room)) (length (file_after l s))

-- what is done with a line: nothing where the queue is stopped; where it only tries, its job in memory if the file was read; else its job on the file
abbrev pub chosen : Bool → Bool → Bool → Choice
chosen stopped trial known = pick stopped Skip (pick trial (pick known Rehearse Miss) Perform)

-- how the line ends by that, where its job on the file would end as e
abbrev pub ending_by : Choice → Ending → Ending
ending_by Skip e = Skipped
ending_by Miss e = Unread
ending_by Rehearse e = Done
ending_by Perform e = e

-- the answer that is printed, from the job's text
unfoldable pub answer_text : Ending → List ℕ → List ℕ
answer_text Done t = t
answer_text Kept t = ascii "failed: the file keeps its old bytes\n"
answer_text Unsynced t = ascii "failed: the file has its new bytes, but its directory is not synced: " ++ t
answer_text Unread t = ascii "failed: the file cannot be read\n"
answer_text Skipped t = ascii "skipped\n"

-- `done`, and a space or a line feed after it
unfoldable pub is_done : List ℕ → Bool
is_done t = eqb (name (take 4 t)) (name (ascii "done")) && (eqb (get_or t 4 0) 32 || eqb (get_or t 4 0) 10)

-- ---- all lines

-- a line, and how its job ends where it is done on the file
pub record Line : Type 0 where
  pub bytes : List ℕ
  pub ending : Ending

abbrev pub is_replaced : Ending → Bool
is_replaced Done = true
is_replaced Kept = false
is_replaced Unsynced = true
is_replaced Unread = false
is_replaced Skipped = false

-- a queue that only tries or not, on a file that was read or not
module _ (trial known : Bool) where
  abbrev pub ending_of : Bool → Line → Ending
  ending_of stopped l = ending_by (chosen stopped trial known) l.ending

  abbrev pub line_answer : Bool → List ℕ → Line → List ℕ
  line_answer stopped s l = answer_text (ending_of stopped l) (line_text l.bytes s room)

  abbrev pub line_file : Bool → List ℕ → Line → List ℕ
  line_file stopped s l = pick (is_replaced (ending_of stopped l)) (file_after l.bytes s) s

  -- the answers to lines on file s, and the file after them: where it is to stop, the queue is stopped after an answer that is not done
  unfoldable pub answers : Bool → Bool → List ℕ → List Line → List (List ℕ)
  answers stop stopped s [] = []
  answers stop stopped s (l ∷ ls) = let t = line_answer stopped s l in t ∷ answers stop (stop && not (is_done t)) (line_file stopped s l) ls

  unfoldable pub file_at_end : Bool → Bool → List ℕ → List Line → List ℕ
  file_at_end stop stopped s [] = s
  file_at_end stop stopped s (l ∷ ls) = file_at_end stop (stop && not (is_done (line_answer stopped s l))) (line_file stopped s l) ls

-- each is `skipped`
unfoldable pub AllSkipped : List (List ℕ) → Type 0
AllSkipped [] = Unit
AllSkipped (t ∷ ts) = (t ≡ ascii "skipped\n") × AllSkipped ts

-- after the first that is not done, each is `skipped`
unfoldable pub Stops : List (List ℕ) → Type 0
Stops [] = Unit
Stops (t ∷ ts) = pick (is_done t) (Stops ts) (AllSkipped ts)

-- the file fails none of the jobs: each ends as its text says
unfoldable pub AllDone : List Line → Type 0
AllDone [] = Unit
AllDone (l ∷ ls) = (l.ending ≡ Done) × AllDone ls
