-- What the writer answers, and what the lent slice then holds (FORMAT 1.8, 6.2).
use Rattle.std.specs.Prelude.{ℕ, List, [], ◌++◌, ◌∷◌, Result, Ok, Err, leb, drop, length}
use Rattle.errors.specs.Numbers.{Reply, call_reply, refused}
use Rattle.errors.specs.declared.CallError.{CallError}
use Rattle.errors.specs.declared.CallError.TheVariants.{Refused, Unread}
use Rattle.errors.specs.declared.Refusal.{Refusal}
use Rattle.lists.specs.Lists.{pick}
use Rattle.pattern.specs.Checks.{pattern_faults}
use Rattle.pattern.specs.Contents.{Pattern, content}
use Rattle.pattern_file.specs.File.{file_bytes}
use Rattle.store_write.specs.declared.NoSpace.{NoSpace}

abbrev pub no_space : ℕ → NoSpace
no_space n = record { needed = n }

-- the reading checks first, then 17 with the length that the file needs
abbrev pub write_answer : List Refusal → List ℕ → List ℕ → Result ℕ (CallError NoSpace)
write_answer (f ∷ fs) file out = Err (Unread f)
write_answer [] file out = pick (leb (length file) (length out)) (Ok (length file)) (Err (Refused (no_space (length file))))

-- the slice keeps the rest, and everything if refused
abbrev pub write_bytes : List Refusal → List ℕ → List ℕ → List ℕ
write_bytes (f ∷ fs) file out = out
write_bytes [] file out = pick (leb (length file) (length out)) (file ++ drop (length file) out) out

abbrev pub written : Pattern → List ℕ → Result ℕ (CallError NoSpace)
written p out = write_answer (pattern_faults p) (file_bytes (content p)) out

abbrev pub written_bytes : Pattern → List ℕ → List ℕ
written_bytes p out = write_bytes (pattern_faults p) (file_bytes (content p)) out

-- number and values: the length of the file; 17 with the length that it needs
abbrev pub no_space_reply : NoSpace → Reply
no_space_reply e = refused 17 (e.needed ∷ [])

abbrev pub written_reply : Result ℕ (CallError NoSpace) → Reply
written_reply r = call_reply (λ n. n ∷ []) no_space_reply r
