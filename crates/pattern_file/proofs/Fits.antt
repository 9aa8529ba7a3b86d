-- Every number of a pattern is one of its record's width.
use Prim.Native.Nat.{◌<◌, ℕ}
use lib.Dec.{T}
use lib.Ieee.{binary64, fits}
use lib.ListN.{get_or, length}
use Rattle.edge.specs.declared.Edge.{Edge}
use Rattle.face.specs.declared.Face.{Face}
use Rattle.pattern.specs.Contents.{Content, zero_edge, zero_face}

pub record EdgeFits (e : Edge) : Type 0 where
  pub front : e.front.0 < 65536
  pub back : e.back.0 < 65536
  pub t0 : T (fits binary64 e.curve.t0)
  pub t1 : T (fits binary64 e.curve.t1)

pub record FaceFits (f : Face) : Type 0 where
  pub wires : f.wires < 65536
  pub surface : f.surface < 65536

pub record Fits (c : Content) : Type 0 where
  pub points : (k : ℕ) → k < length c.points → get_or c.points k 0 < 4294967296
  pub edges : (k : ℕ) → k < length c.edges → EdgeFits (get_or c.edges k zero_edge)
  pub uses : (k : ℕ) → k < length c.uses → get_or c.uses k 0 < 65536
  pub wires : (k : ℕ) → k < length c.wires → get_or c.wires k 0 < 65536
  pub faces : (k : ℕ) → k < length c.faces → FaceFits (get_or c.faces k zero_face)
  pub shells : (k : ℕ) → k < length c.shells → get_or c.shells k 0 < 65536
  pub listings : (k : ℕ) → k < length c.listings → get_or c.listings k 0 < 65536
