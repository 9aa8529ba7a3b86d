-- The walk in one pass over the uses, as code runs it: what lies behind the pass has nothing kept.
use Rattle.std.specs.Prelude.{ℕ, suc, List, [], ◌∷◌, get_or, length, Option, None, Some}
use Rattle.shell.specs.Openings.{Kept, Walk, chain}

module _ (front back : ℕ → ℕ) where
  -- an opening from point p, if a use is kept there, then the rest
  abbrev pub begin_at : Option ℕ → ℕ → Kept → ℕ → (Kept → ℕ → Walk) → Walk
  begin_at None p kept n rest = rest kept n
  begin_at (Some u) p kept n rest =
      let r = chain front back (suc (length kept)) p kept n in
      let w = rest r.kept r.lookups in
      record { openings = r.opening ∷ w.openings; kept = w.kept; lookups = w.lookups }

  unfoldable pub pass : List ℕ → Kept → ℕ → Walk
  pass [] kept n = record { openings = []; kept = kept; lookups = n }
  pass (u ∷ us) kept n = begin_at (get_or kept (front u) None) (front u) kept n (λ (k : Kept) (m : ℕ). pass us k m)
