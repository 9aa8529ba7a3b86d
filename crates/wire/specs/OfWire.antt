-- What contracts say of a wire, of which definitions take its uses and the ends of all edges as lists. Cited by inner contracts.
use Rattle.std.specs.Prelude.{ℕ, List}
use Rattle.wire.specs.declared.Wire.{Wire}

-- what a definition says of this wire
abbrev pub of_wire : {A : Type 0} → (List ℕ → List ℕ → List ℕ → A) → Wire → A
of_wire f wire = f wire.ends.fronts.now wire.ends.backs.now wire.uses.now
