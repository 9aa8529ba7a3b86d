-- The solid of a pattern in storage: the reading checks first, then each shell in turn (FORMAT 3.8, 6.2).
use Rattle.std.specs.Prelude.{List, [], ◌∷◌, Result, Ok, Err}
use Rattle.errors.specs.Numbers.{Reply, call_reply}
use Rattle.errors.specs.declared.CallError.{CallError}
use Rattle.errors.specs.declared.CallError.TheVariants.{Refused, Unread}
use Rattle.errors.specs.declared.Refusal.{Refusal}
use Rattle.pattern.specs.Checks.{pattern_faults}
use Rattle.pattern.specs.Contents.{Content, Pattern, content}
use Rattle.solid.specs.Solid.{solid_error_reply, solid_of}
use Rattle.solid.specs.declared.SolidError.{SolidError}

abbrev pub answered : Result Unit SolidError → Result Unit (CallError SolidError)
answered (Ok x) = Ok tt
answered (Err e) = Err (Refused e)

abbrev pub solid_answer_of : List Refusal → Content → Result Unit (CallError SolidError)
solid_answer_of (f ∷ fs) c = Err (Unread f)
solid_answer_of [] c = answered (solid_of c)

abbrev pub solid_answer : Pattern → Result Unit (CallError SolidError)
solid_answer p = solid_answer_of (pattern_faults p) (content p)

-- number and values
abbrev pub solid_answer_reply : Result Unit (CallError SolidError) → Reply
solid_answer_reply r = call_reply (λ x. []) solid_error_reply r
