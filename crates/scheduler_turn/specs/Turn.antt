-- A turn of the scheduler: the next job that waits is done on a pattern file, and held with its answer (FORMAT 9.3).
use Rattle.std.specs.Prelude.{ℕ, List, Option, None, Some, replicate, set}
use Rattle.answers.specs.declared.Answer.{Answer}
use Rattle.file_cut.specs.FileCut.{file_cut, file_cut_bytes}
use Rattle.file_remove.specs.FileRemove.{file_remove, file_remove_bytes}
use Rattle.scheduler.specs.Scheduler.{next_job}
use Rattle.scheduler.specs.declared.Job.{Job}
use Rattle.scheduler.specs.declared.Job.TheVariants.{Cut, Remove}
use Rattle.scheduler.specs.declared.Scheduler.{Scheduler}
use Rattle.scheduler.specs.declared.Slot.{Slot}
use Rattle.words.specs.Words.{short}

-- room for the longest file
abbrev pub room : List ℕ
room = replicate 41048 0

-- the bits that the library's cut takes: nowhere as a NaN's
abbrev pub bits_of : Option ℕ → ℕ
bits_of (Some bits) = bits
bits_of None = 0x7ff8000000000000

-- ---- a job on file s, by the library's own edit; a number above 65,535 names nothing, as 65,535 does

abbrev pub job_answer : Job → List ℕ → Answer
job_answer (Cut n e v at) s = file_cut s n (short e) (short v) (bits_of at) room
job_answer (Remove n v) s = file_remove s n (short v) room

-- the lent slice afterwards, which takes the edited file
abbrev pub job_out : Job → List ℕ → List ℕ → List ℕ
job_out (Cut n e v at) s out = file_cut_bytes s n (short e) (short v) (bits_of at) out
job_out (Remove n v) s out = file_remove_bytes s n (short v) out

-- ---- a turn: with nobody waiting nothing changes

abbrev pub turn_answer_of : Option (ℕ × ℕ × Job) → List ℕ → Option (ℕ × Job × Answer)
turn_answer_of None s = None
turn_answer_of (Some (d, k, j)) s = Some (d, j, job_answer j s)

abbrev pub turn_out_of : Option (ℕ × ℕ × Job) → List ℕ → List ℕ → List ℕ
turn_out_of None s out = out
turn_out_of (Some (d, k, j)) s out = job_out j s out

-- slot d has nobody waiting, holds the job with its answer, and is the one that was served last
abbrev pub served_slot : ℕ → Job → Answer → Slot
served_slot k j a = record { waiting = None; held = Some (k, j, a) }

abbrev pub after_turn_of : Option (ℕ × ℕ × Job) → Scheduler → List ℕ → Scheduler
after_turn_of None c s = c
after_turn_of (Some (d, k, j)) c s = record { slots = set c.slots d (served_slot k j (job_answer j s)); last = d }

abbrev pub turn_answer : Scheduler → List ℕ → Option (ℕ × Job × Answer)
turn_answer c s = turn_answer_of (next_job c) s

abbrev pub turn_out : Scheduler → List ℕ → List ℕ → List ℕ
turn_out c s out = turn_out_of (next_job c) s out

abbrev pub after_turn : Scheduler → List ℕ → Scheduler
after_turn c s = after_turn_of (next_job c) c s
