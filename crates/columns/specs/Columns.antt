-- The columns of a pattern: what the reports on its shells work on.
use Rattle.std.specs.Prelude.{ℕ, suc, List, map, ◌≡◌, get_or, take}
use Rattle.lists.specs.Lists.{padded, sum, tabulate}
use Rattle.edge.specs.Edges.{back_number, front_number}
use Rattle.face.specs.Faces.{wire_count}
use Rattle.listing.specs.Parts.{face_start, turned_uses}
use Rattle.pattern.specs.Contents.{Pattern, content}
use Rattle.store.specs.Store.{count_table, listing_table, use_table, wire_table}
use Rattle.columns.specs.Sound.{Faultless, OfTables, Sound}
use Rattle.store.specs.Columns.{back_table, front_table}

pub record Columns : Type 0 where
  pub points : ℕ
  pub edges : ℕ
  pub uses : List ℕ
  pub turned : List ℕ
  pub starts : List ℕ
  pub wires : List ℕ
  pub firsts : List ℕ
  pub fronts : List ℕ
  pub backs : List ℕ
  pub places : List ℕ
  pub listings : List ℕ

-- where the wires of face f begin; for the number of faces, where they end
abbrev pub first_wire : Pattern → ℕ → ℕ
first_wire p f = sum (take f (map wire_count (content p).faces))

-- where its uses begin
abbrev pub first_use : Pattern → ℕ → ℕ
first_use p = face_start (map wire_count (content p).faces) (content p).wires

-- where the listings of shell n begin; for the number of shells, where they end
abbrev pub first_listing : Pattern → ℕ → ℕ
first_listing p n = sum (take n (content p).shells)

abbrev pub columns_in : Pattern → Columns
columns_in p = record {
  points = get_or p.counts 0 0;
  edges = get_or p.counts 1 0;
  uses = p.uses;
  turned = padded 4096 0 (turned_uses (content p).wires (content p).uses);
  starts = padded 257 0 (tabulate (suc (get_or p.counts 4 0)) (first_use p));
  wires = p.wires;
  firsts = padded 257 0 (tabulate (suc (get_or p.counts 4 0)) (first_wire p));
  fronts = map front_number p.edges;
  backs = map back_number p.edges;
  places = padded 257 0 (tabulate (suc (get_or p.counts 5 0)) (first_listing p));
  listings = p.listings;
}

-- tables of a store, with columns that are derived of them
abbrev pub lent : List ℕ → List ℕ → List ℕ → List ℕ → List ℕ → Columns
lent t turned starts firsts places = record {
  points = get_or (count_table t) 0 0;
  edges = get_or (count_table t) 1 0;
  uses = use_table t;
  turned = turned;
  starts = starts;
  wires = wire_table t;
  firsts = firsts;
  fronts = front_table t;
  backs = back_table t;
  places = places;
  listings = listing_table t;
}

-- the tables are those of a pattern without fault, and these are its columns
pub record Made (t turned starts firsts places : List ℕ) : Type 0 where
  pub faultless : ∥ Faultless t ∥₁
  pub all : OfTables t (λ p. Sound p × (lent t turned starts firsts places ≡ columns_in p))
