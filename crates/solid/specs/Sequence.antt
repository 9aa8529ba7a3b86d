-- The first error of a shell; the shells one after the other, as the code goes through them. Cited by inner contracts.
use Rattle.std.specs.Prelude.{ℕ, List, [], ◌∷◌, Result, Ok, Err}
use Rattle.solid.specs.declared.ShellError.{ShellError}
use Rattle.solid.specs.declared.SolidError.{SolidError}

abbrev pub first_error : List ShellError → Result Unit ShellError
first_error [] = Ok tt
first_error (e ∷ es) = Err e

abbrev pub in_solid : ℕ → Result Unit ShellError → Result Unit SolidError
in_solid n (Ok x) = Ok tt
in_solid n (Err e) = Err (record { shell = n; reason = e })

abbrev pub and_then : Result Unit SolidError → Result Unit SolidError → Result Unit SolidError
and_then (Ok x) next = next
and_then (Err e) next = Err e
