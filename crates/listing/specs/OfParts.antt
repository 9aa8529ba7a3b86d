-- What contracts say of the parts that listings show, which definitions take as three lists. Cited by inner contracts.
use Rattle.std.specs.Prelude.{List, ℕ}
use Rattle.listing.specs.declared.Parts.{Parts}

-- what a definition says of these parts
abbrev pub of_parts {ℓ} : {A : Type ℓ} → (List ℕ → List ℕ → List ℕ → A) → Parts → A
of_parts f parts = f parts.along.now parts.back.now parts.starts.now
