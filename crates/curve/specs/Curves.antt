-- Cutting a curve at a parameter, and joining two (the Rust's Edge::cut and Edge::concat): FORMAT 4.1, 4.2.
use Rattle.std.specs.Prelude.{ℕ, Bool, true, false, not, ◌||◌, Float, None, Option, Some}
use Rattle.std.specs.Float.{nan, inf, fin, binary64}
use Rattle.std.specs.Float.Ieee.{of_bits, nan_bits, add, sub, lt}
use Rattle.lists.specs.Lists.{pick}
use Rattle.edge.specs.Edges.{is_span}
use Rattle.edge.specs.declared.Curve.{Curve}
use Rattle.curve.specs.declared.Parameter.{Parameter}
use Rattle.curve.specs.declared.Parameter.TheVariants.{At, Nowhere}

-- TOLERANCE: the f64 0.000001
abbrev pub tolerance : Float
tolerance = of_bits binary64 0x3eb0_c6f7_a0b5_ed8d

abbrev pub finite : Float → Bool
finite nan = false
finite (inf s) = false
finite (fin s m e) = true

-- not finite, below t0 + 0.000001 or above t1 − 0.000001, each a rounded f64 sum (16)
unfoldable pub refuses : Curve → Float → Bool
refuses k t = not (finite t) || (lt t (add binary64 k.t0 tolerance) || lt (sub binary64 k.t1 tolerance) t)

-- the half at the front, and the half at the back: they split the span at the parameter
abbrev pub front_half : Curve → Float → Curve
front_half k t = record { t0 = k.t0; t1 = t }

abbrev pub back_half : Curve → Float → Curve
back_half k t = record { t0 = t; t1 = k.t1 }

abbrev pub cut_curve : Curve → Parameter → Option (Curve × Curve)
cut_curve k Nowhere = None
cut_curve k (At t) = pick (refuses k t) None (Some (front_half k t, back_half k t))

-- from a0 to b1 + (a1 − b0); two roundings
abbrev pub joined_span : Curve → Curve → Curve
joined_span a b = record { t0 = a.t0; t1 = add binary64 b.t1 (sub binary64 a.t1 b.t0) }

-- out of range or not above its start (26)
abbrev pub join_curves : Curve → Curve → Option Curve
join_curves a b = pick (is_span (joined_span a b)) (Some (joined_span a b)) None

-- a parameter as the bits of its f64; those of a NaN are as good as nowhere
abbrev pub parameter_of : ℕ → Parameter
parameter_of bits = pick (nan_bits binary64 bits) Nowhere (At (of_bits binary64 bits))
