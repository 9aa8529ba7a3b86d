-- A pattern: seven bodies, each a list of records (FORMAT 1.3). Its storage holds every limit in full.
use Rattle.std.specs.Prelude.{ℕ, List, [], ◌∷◌, get_or, length, take}
use Rattle.std.specs.Float.{binary64}
use Rattle.std.specs.Float.Ieee.{of_bits}
use Rattle.std.proofs.lemmas.List.Edits.{sets}
use Rattle.edge.specs.Edges.{edge}
use Rattle.edge.specs.declared.Edge.{Edge}
use Rattle.face.specs.declared.Face.{Face}
use Rattle.lists.specs.Lists.{padded}
use Rattle.pattern.specs.declared.Layout.{Layout}

-- how many bodies there are
abbrev pub bodies : ℕ
bodies = 7

-- the first offset of a file, and for each body the bytes of a record and the limit
abbrev pub layout : Layout
layout = record { first = 56; sizes = 4 ∷ 20 ∷ 2 ∷ 2 ∷ 4 ∷ 2 ∷ 2 ∷ []; limits = 2048 ∷ 1024 ∷ 4096 ∷ 1024 ∷ 256 ∷ 16 ∷ 512 ∷ [] }

abbrev pub limit : ℕ → ℕ
limit b = get_or layout.limits b 0

pub record Content : Type 0 where
  -- labels
  pub points : List ℕ
  pub edges : List Edge
  -- edge numbers, plus 32,768 if reversed
  pub uses : List ℕ
  -- how many uses, taken in sequence
  pub wires : List ℕ
  -- how many wires, taken in sequence; surface
  pub faces : List Face
  -- how many listings, taken in sequence
  pub shells : List ℕ
  -- face numbers, plus 32,768 if reversed
  pub listings : List ℕ

-- the number of records of each body, in body order
abbrev pub counts_of : Content → List ℕ
counts_of c = length c.points ∷ length c.edges ∷ length c.uses ∷ length c.wires ∷ length c.faces ∷ length c.shells ∷ length c.listings ∷ []

-- a pattern in storage: every table in full, and how many records of each count
pub record Pattern : Type 0 where
  pub counts : List ℕ
  pub points : List ℕ
  pub edges : List Edge
  pub uses : List ℕ
  pub wires : List ℕ
  pub faces : List Face
  pub shells : List ℕ
  pub listings : List ℕ

-- it means the first records of each body
abbrev pub content : Pattern → Content
content p = record {
  points = take (get_or p.counts 0 0) p.points;
  edges = take (get_or p.counts 1 0) p.edges;
  uses = take (get_or p.counts 2 0) p.uses;
  wires = take (get_or p.counts 3 0) p.wires;
  faces = take (get_or p.counts 4 0) p.faces;
  shells = take (get_or p.counts 5 0) p.shells;
  listings = take (get_or p.counts 6 0) p.listings;
}

-- what the reader leaves in places past a count: zeros
abbrev pub zero_edge : Edge
zero_edge = edge (record { 0 = 0 }) (record { 0 = 0 }) (record { t0 = of_bits binary64 0; t1 = of_bits binary64 0 })

abbrev pub zero_face : Face
zero_face = record { wires = 0; surface = 0 }

-- a content in storage that holds nothing else
abbrev pub stored : Content → Pattern
stored c = record {
  counts = counts_of c;
  points = padded (limit 0) 0 c.points;
  edges = padded (limit 1) zero_edge c.edges;
  uses = padded (limit 2) 0 c.uses;
  wires = padded (limit 3) 0 c.wires;
  faces = padded (limit 4) zero_face c.faces;
  shells = padded (limit 5) 0 c.shells;
  listings = padded (limit 6) 0 c.listings;
}

-- a content in the storage of p: places past a count keep what they held
abbrev pub stored_in : Pattern → Content → Pattern
stored_in p c = record {
  counts = counts_of c;
  points = sets p.points 0 c.points;
  edges = sets p.edges 0 c.edges;
  uses = sets p.uses 0 c.uses;
  wires = sets p.wires 0 c.wires;
  faces = sets p.faces 0 c.faces;
  shells = sets p.shells 0 c.shells;
  listings = sets p.listings 0 c.listings;
}
