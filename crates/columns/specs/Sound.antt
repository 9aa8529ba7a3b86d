-- A pattern that passes the reading checks, with what its storage's types say: its tables are full, its numbers have 16 bits.
use Rattle.std.specs.Prelude.{ℕ, ◌<◌, List, [], ◌≡◌, Float, get_or}
use Rattle.pattern.specs.Checks.{pattern_faults}
use Rattle.pattern.proofs.Counts.{Full, Limited}
use Rattle.store.specs.Store.{held}
use Rattle.pattern.specs.Contents.{Pattern}

pub record Sound (p : Pattern) : Type 0 where
  pub ok : pattern_faults p ≡ []
  pub limits : Limited p.counts
  pub full : Full p
  pub uses : (k : ℕ) → get_or p.uses k 0 < 65536
  pub listings : (k : ℕ) → get_or p.listings k 0 < 65536

-- the tables are those of a pattern without fault
pub record Faultless (t : List ℕ) : Type 0 where
  pub spans : List Float
  pub ok : pattern_faults (held t spans) ≡ []

-- what holds of every pattern without fault that has these tables, whatever its spans
abbrev pub OfTables : List ℕ → (Pattern → Type 0) → Type 0
OfTables t P = (spans : List Float) → pattern_faults (held t spans) ≡ [] → P (held t spans)
