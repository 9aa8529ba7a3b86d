-- The tests of the code, as the faults of the definitions.
use Rattle.std.specs.Prelude.{Err, Ok}
use Prim.Native.Nat.{◌%◌, ◌<◌, ◌≤◌, ℕ}
use mathlib.Core.Bool.{false, true}
use mathlib.Core.Path.{◌≡◌}
use lib.ListN.{get_or}
use borrow.Author.Tests.{eq-eqb, le-leb, le-ltb, lt-leb, lt-ltb, ne_eqb}
use Rattle.edge.specs.Edges.{back_number, front_number, is_span}
use Rattle.edge.specs.declared.Edge.{Edge}
use Rattle.errors.specs.Faults.{first}
use Rattle.errors.specs.declared.Refusal.TheVariants.{Limit, SameVertex, Span, Unnamed}
use Rattle.pattern.specs.Checks.{edge_faults, limit_faults, name_faults}
use Rattle.pattern.specs.Contents.{layout}

module _ (b n : ℕ) where
  pub over_limit : get_or layout.limits b 0 < n → first (limit_faults b n) ≡ (Err (Limit b))
  over_limit h = rw (lt-leb n (get_or layout.limits b 0) h)

  pub within_limit : n ≤ get_or layout.limits b 0 → first (limit_faults b n) ≡ Ok tt
  within_limit h = rw (le-leb n (get_or layout.limits b 0) h)

module _ (points k : ℕ) (e : Edge) where
  pub no_front : points ≤ front_number e → (Err (Unnamed 1 k)) ≡ first (edge_faults points k e)
  no_front h = rw (le-ltb (front_number e) points h)

  module _ (front : front_number e < points) where
    pub no_back : points ≤ back_number e → (Err (Unnamed 1 k)) ≡ first (edge_faults points k e)
    no_back h = rw (lt-ltb (front_number e) points front, le-ltb (back_number e) points h)

    module _ (back : back_number e < points) where
      pub same_vertex : front_number e ≡ back_number e → (Err (SameVertex k)) ≡ first (edge_faults points k e)
      same_vertex h = rw (lt-ltb (front_number e) points front, lt-ltb (back_number e) points back, eq-eqb (front_number e) (back_number e) h)

      module _ (ends : front_number e ≡ back_number e → ⊥) where
        pub no_span : is_span e.curve ≡ false → (Err (Span k)) ≡ first (edge_faults points k e)
        no_span h = rw (lt-ltb (front_number e) points front, lt-ltb (back_number e) points back, ne_eqb (front_number e) (back_number e) ends, h)

        pub good_edge : is_span e.curve ≡ true → Ok tt ≡ first (edge_faults points k e)
        good_edge h = rw (lt-ltb (front_number e) points front, lt-ltb (back_number e) points back, ne_eqb (front_number e) (back_number e) ends, h)

module _ (body n k x : ℕ) where
  pub no_name : n ≤ x % 32768 → first (name_faults body n k x) ≡ (Err (Unnamed body k))
  no_name h = rw (le-ltb (x % 32768) n h)

  pub a_name : x % 32768 < n → first (name_faults body n k x) ≡ Ok tt
  a_name h = rw (lt-ltb (x % 32768) n h)
