-- The edge record: two ends, which are point numbers, and the span of its curve (FORMAT 1.5).
use Rattle.std.specs.Prelude.{ℕ, Bool, ◌&&◌, Float}
use Rattle.std.specs.Float.{binary64}
use Rattle.std.specs.Float.Ieee.{of_bits, neg, le, lt}
use Rattle.vertex.specs.declared.VertexID.{VertexID}
use Rattle.edge.specs.declared.Curve.{Curve}
use Rattle.edge.specs.declared.Edge.{Edge}

-- the f64 1,000,000
abbrev pub million : Float
million = of_bits binary64 0x412e_8480_0000_0000

-- of magnitude at most 1,000,000; so no infinity, and no NaN, of which every comparison is false
unfoldable pub in_range : Float → Bool
in_range t = le (neg million) t && le t million

-- both ends in range, and t0 below t1
unfoldable pub is_span : Curve → Bool
is_span k = in_range k.t0 && in_range k.t1 && lt k.t0 k.t1

abbrev pub edge : VertexID → VertexID → Curve → Edge
edge v w k = record { front = v; back = w; curve = k }

abbrev pub front_number : Edge → ℕ
front_number e = e.front.0

abbrev pub back_number : Edge → ℕ
back_number e = e.back.0
