-- A job's answer asks for the length of the lent slice alone.
use Prim.Native.Nat.{ℕ}
use mathlib.Core.List.{List, [], ◌∷◌}
use mathlib.Core.Path.{◌∙◌, ◌≡◌, ap, refl, sym}
use lib.ListN.{length, length-replicate}
use Rattle.std.specs.Prelude.{Option, Result}
use Rattle.answers.specs.Read.{when_read}
use Rattle.answers.specs.Values.{cut_values, join_values}
use Rattle.answers.specs.declared.Answer.{Answer}
use Rattle.curve.specs.Curves.{parameter_of}
use Rattle.errors.specs.declared.CallError.{CallError}
use Rattle.errors.specs.declared.Refusal.{Refusal}
use Rattle.file_cut.specs.FileCut.{file_cut, file_cut_bytes}
use Rattle.file_remove.specs.FileRemove.{file_remove, file_remove_bytes}
use Rattle.pattern.specs.Checks.{pattern_faults}
use Rattle.pattern.specs.Contents.{Pattern, content}
use Rattle.pattern_file.specs.File.{file_bytes}
use Rattle.scheduler.specs.declared.Job.{Job}
use Rattle.scheduler.specs.declared.Job.TheVariants.{Cut, Remove}
use Rattle.shell_edits.specs.Answers.{after_cut, after_remove, cut_answer, remove_answer}
use Rattle.store_read.specs.Loading.{check_of, pattern_of}
use Rattle.store_write.specs.Writing.{write_answer, written}
use Rattle.store_write.specs.declared.NoSpace.{NoSpace}
use Rattle.words.specs.Words.{short}
use Rattle.scheduler_turn.specs.Turn.{bits_of, job_answer, job_out, room}

by_length : (fs : List Refusal) (file out out' : List ℕ) → length out ≡ length out' → write_answer fs file out ≡ write_answer fs file out'
by_length [] file out out' h = rw h
by_length (f ∷ fs) file out out' h = refl

written_as : (out : List ℕ) → length out ≡ 41048 → (q : Pattern) → written q out ≡ written q room
written_as out h q = by_length (pattern_faults q) (file_bytes (content q)) out room (h ∙ sym (length-replicate {A = ℕ} 41048 0))

-- ---- a job on file s, its numbers as they are given to the edit

module _ (s out : List ℕ) (room_there : length out ≡ 41048) where
  cut_room : (n e v bits : ℕ) → file_cut s n e v bits out ≡ file_cut s n e v bits room
  cut_room n e v bits =
      let p = pattern_of s in
      let at = parameter_of bits in
      ap (λ (w : Result ℕ (CallError NoSpace)). when_read (check_of s) (cut_values (cut_answer p n e v at) w)) (written_as out room_there (after_cut p n e v at))

  removal_room : (n v : ℕ) → file_remove s n v out ≡ file_remove s n v room
  removal_room n v =
      let p = pattern_of s in
      ap (λ (w : Result ℕ (CallError NoSpace)). when_read (check_of s) (join_values (remove_answer p n v) w)) (written_as out room_there (after_remove p n v))

  module _ (j : Job) {r : Answer} {out' : List ℕ} where
    pub job_cut : {n e v e' v' bits : ℕ} {at : Option ℕ} → j ≡ Cut n e v at → e' ≡ short e → v' ≡ short v → bits ≡ bits_of at
        → (r ≡ file_cut s n e' v' bits out) × (out' ≡ file_cut_bytes s n e' v' bits out) → (r ≡ job_answer j s) × (out' ≡ job_out j s out)
    job_cut {n} {e} {v} {e'} {v'} {bits} {at} is se sv sb (p, q) = (
      p ∙ ap (λ (x : ℕ). file_cut s n x v' bits out) se ∙ ap (λ (x : ℕ). file_cut s n (short e) x bits out) sv
          ∙ ap (λ (x : ℕ). file_cut s n (short e) (short v) x out) sb ∙ cut_room n (short e) (short v) (bits_of at) ∙ sym (ap (λ (i : Job). job_answer i s) is),
      q ∙ ap (λ (x : ℕ). file_cut_bytes s n x v' bits out) se ∙ ap (λ (x : ℕ). file_cut_bytes s n (short e) x bits out) sv
          ∙ ap (λ (x : ℕ). file_cut_bytes s n (short e) (short v) x out) sb ∙ sym (ap (λ (i : Job). job_out i s out) is),
    )

    pub job_removal : {n v v' : ℕ} → j ≡ Remove n v → v' ≡ short v → (r ≡ file_remove s n v' out) × (out' ≡ file_remove_bytes s n v' out) → (r ≡ job_answer j s) × (out' ≡ job_out j s out)
    job_removal {n} {v} is sv (p, q) = (
      p ∙ ap (λ (x : ℕ). file_remove s n x out) sv ∙ removal_room n (short v) ∙ sym (ap (λ (i : Job). job_answer i s) is),
      q ∙ ap (λ (x : ℕ). file_remove_bytes s n x out) sv ∙ sym (ap (λ (i : Job). job_out i s out) is),
    )
