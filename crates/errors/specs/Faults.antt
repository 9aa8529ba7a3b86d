-- Checks in sequence: the list of all faults, of which the first is the answer (FORMAT 2.1).
use Rattle.std.specs.Prelude.{ℕ, suc, List, [], ◌∷◌, ◌++◌, Result, Ok, Err}
use Rattle.errors.specs.declared.Refusal.{Refusal}

abbrev pub first : List Refusal → Result Unit Refusal
first [] = Ok tt
first (f ∷ fs) = Err f

-- the faults of each record, in sequence; the first record has number i
unfoldable pub each {ℓ} : {A : Type ℓ} → (ℕ → A → List Refusal) → ℕ → List A → List Refusal
each f i [] = []
each f i (x ∷ xs) = f i x ++ each f (suc i) xs
