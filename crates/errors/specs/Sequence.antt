-- The first of the faults of a wire, as the code answers it. Cited by inner contracts.
use Rattle.std.specs.Prelude.{List, [], ◌∷◌, Result, Ok, Err}
use Rattle.errors.specs.declared.WireError.{WireError}

abbrev pub first_of_wire : List WireError → Result Unit WireError
first_of_wire [] = Ok tt
first_of_wire (e ∷ es) = Err e
