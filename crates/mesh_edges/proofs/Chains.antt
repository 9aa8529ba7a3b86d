-- A search in the index: the edges of one bucket, the latest first.
use Rattle.std.specs.Prelude.{None, Option, Some}
use Prim.Native.Nat.{◌+◌, ◌-◌, ◌<◌, ◌≤◌, ℕ}
use mathlib.Core.Bool.{Bool, ◌&&◌, ◌||◌, false, or_comm, true, true≢false}
use mathlib.Core.List.{List}
use mathlib.Core.Logic.{◌⊎◌, inl, inr, ⊎_elim}
use mathlib.Core.Path.{◌∙◌, ◌≡◌, ap, sym}
use native.Mathlib.Nat.{max_comm, min_comm}
use native.Mathlib.Omega.{arith}
use lib.Dec.{eqb, ltb}
use lib.Ieee.{Float}
use lib.ListN.{get_or, length, take}
use lib.Seq.{get_or-take, length-take-le}
use borrow.Author.Tests.{eqb-false, eqb-true, ltb-false, ltb-true}
use Rattle.edge.specs.Edges.{back_number, front_number}
use Rattle.edge.specs.declared.Edge.{Edge}
use Rattle.lists.proofs.Flat.{get_d_tabulate}
use Rattle.lists.proofs.Laws.{cases, left_true, length_tabulate, right_true}
use Rattle.lists.specs.Lists.{tabulate}
use Rattle.mesh.specs.Mesh.{joins}
use Rattle.mesh_edges.proofs.Places.{found_here, found_none, latest_fails, latest_le, latest_passes, place_here, place_none}
use Rattle.mesh_edges.specs.Index.{Indexed, bucket_at, bucket_of, found, latest}
use Rattle.pattern.specs.Contents.{zero_edge}
use Rattle.store.specs.Store.{edge_in, held}

-- ---- edges that join two points

abbrev Ends : ℕ → ℕ → Edge → Type 0
Ends p q e = ((front_number e ≡ p) × (back_number e ≡ q)) ⊎ ((front_number e ≡ q) × (back_number e ≡ p))

or_cases : (a b : Bool) → (a || b) ≡ true → (a ≡ true) ⊎ (b ≡ true)
or_cases true b h = inl h
or_cases false b h = inr h

both_equal : (a b c d : ℕ) → (eqb a b && eqb c d) ≡ true → (a ≡ b) × (c ≡ d)
both_equal a b c d h = (eqb-true a b (left_true (eqb a b) (eqb c d) h), eqb-true c d (right_true (eqb a b) (eqb c d) h))

joins_ends : (p q : ℕ) (e : Edge) → joins p q e ≡ true → Ends p q e
joins_ends p q e h =
    ⊎_elim
    (λ (o : (eqb (front_number e) p && eqb (back_number e) q) ≡ true). inl (both_equal (front_number e) p (back_number e) q o))
    (λ (o : (eqb (front_number e) q && eqb (back_number e) p) ≡ true). inr (both_equal (front_number e) q (back_number e) p o))
    (or_cases (eqb (front_number e) p && eqb (back_number e) q) (eqb (front_number e) q && eqb (back_number e) p) h)

joins_bucket : (p q : ℕ) (e : Edge) → joins p q e ≡ true → bucket_of (front_number e) (back_number e) ≡ bucket_of p q
joins_bucket p q e h =
    ⊎_elim
    (λ (o : (front_number e ≡ p) × (back_number e ≡ q)). rw (o.0, o.1))
    (λ (o : (front_number e ≡ q) × (back_number e ≡ p)). rw (o.0, o.1, min_comm q p, max_comm q p))
    (joins_ends p q e h)

-- two edges that join the same points join each other's
joins_both : (p q : ℕ) (a b : Edge) → joins p q a ≡ true → joins p q b ≡ true → joins (front_number b) (back_number b) a ≡ true
joins_both p q a b g h =
    ⊎_elim
    (λ (o : (front_number b ≡ p) × (back_number b ≡ q)). rw (o.0, o.1) g)
    (λ (o : (front_number b ≡ q) × (back_number b ≡ p)). rw (o.0, o.1, or_comm) g)
    (joins_ends p q b h)

-- ---- the search

-- c is 0 or one more than an edge of the bucket, and no edge from c on joins the points
pub record Sought (es : List Edge) (p q c : ℕ) : Type 0 where
  pub low : c ≤ length es
  pub past : (k : ℕ) → c ≤ k → k < length es → joins p q (get_or es k zero_edge) ≡ false
  pub in_bucket : 0 < c → bucket_at es (c - 1) ≡ bucket_of p q

module _ (es : List Edge) (index : List ℕ) (p q : ℕ) (known : Indexed es index) where
  abbrev At : ℕ → Edge
  At k = get_or es k zero_edge

  abbrev Test : ℕ → ℕ → Bool
  Test h k = eqb (bucket_at es k) h

  other_bucket : (h k : ℕ) → h ≡ bucket_of p q → Test h k ≡ false → joins p q (At k) ≡ false
  other_bucket h k o f =
      ⊎_elim
      (λ (e : joins p q (At k) ≡ true). absurd (eqb-false (bucket_at es k) h f (joins_bucket p q (At k) e ∙ sym o)))
      (λ (e : joins p q (At k) ≡ false). e)
      (cases (joins p q (At k)))

  -- the latest of the bucket
  latest_bucket : (h n : ℕ) → h ≡ bucket_of p q → 0 < latest (Test h) n → bucket_at es (latest (Test h) n - 1) ≡ bucket_of p q
  latest_bucket h n o b = eqb-true (bucket_at es (latest (Test h) n - 1)) h (latest_passes (Test h) n (latest (Test h) n - 1) (omega arith)) ∙ o

  pub sought_start : (h c : ℕ) → h ≡ bucket_of p q → h < 16384 → c ≡ get_or index h 0 → Sought es p q c
  sought_start h c o l e =
      rw (e, known.heads h l)
      (record {
        low = latest_le (Test h) (length es);
        past = λ k b m. other_bucket h k o (latest_fails (Test h) (length es) k b m);
        in_bucket = latest_bucket h (length es) o;
      })

  module _ (c : ℕ) (s : Sought es p q c) where
    -- an edge that joins the points is the first that does
    pub sought_found : 0 < c → joins p q (At (c - 1)) ≡ true → Some (c - 1) ≡ found (joins p q) es
    sought_found b j =
        found_here (joins p q) zero_edge es (c - 1) (sym (place_here (joins p q) zero_edge es (c - 1) (omega (arith, s.low)) j
        (λ k l.
        ⊎_elim
        (λ (e : joins p q (At k) ≡ true). absurd (true≢false (sym (joins_both p q (At k) (At (c - 1)) e j) ∙ known.apart k (c - 1) l (omega (arith, s.low)))))
        (λ (e : joins p q (At k) ≡ false). e)
        (cases (joins p q (At k))))))
        (omega (arith, s.low))

    pub sought_none : c ≤ 0 → None ≡ found (joins p q) es
    sought_none z = found_none (joins p q) zero_edge es (place_none (joins p q) zero_edge es (λ k l. s.past k (omega arith) l))

    module _ (c' : ℕ) (b : 0 < c) (next : c' ≡ get_or index (16384 + (c - 1)) 0) where
      earlier_is : c' ≡ latest (Test (bucket_at es (c - 1))) (c - 1)
      earlier_is = next ∙ known.earlier (c - 1) (omega (arith, s.low))

      pub sought_lower : c' ≤ c - 1
      sought_lower = omega (arith, earlier_is, latest_le (Test (bucket_at es (c - 1))) (c - 1))

      past_next : joins p q (At (c - 1)) ≡ false → (k : ℕ) → c' ≤ k → k < length es → joins p q (At k) ≡ false
      past_next j k m l =
          ⊎_elim
          (λ (o : eqb k (c - 1) ≡ true). rw (eqb-true k (c - 1) o) j)
          (λ (o : eqb k (c - 1) ≡ false).
          let ne = eqb-false k (c - 1) o in
          ⊎_elim
          (λ (e : ltb k (c - 1) ≡ true). other_bucket (bucket_at es (c - 1)) k (s.in_bucket b) (latest_fails (Test (bucket_at es (c - 1))) (c - 1) k (omega (arith, earlier_is)) (ltb-true k (c - 1) e)))
          (λ (e : ltb k (c - 1) ≡ false). s.past k (omega (arith, ltb-false k (c - 1) e)) l)
          (cases (ltb k (c - 1))))
          (cases (eqb k (c - 1)))

      pub sought_next : joins p q (At (c - 1)) ≡ false → Sought es p q c'
      sought_next j = record {
        low = omega (arith, sought_lower, s.low);
        past = past_next j;
        in_bucket = rw earlier_is (latest_bucket (bucket_at es (c - 1)) (c - 1) (s.in_bucket b));
      }

-- ---- the search among the first n edges of a pattern in storage

abbrev firsts : List ℕ → List Float → ℕ → List Edge
firsts t spans n = take n (held t spans).edges

abbrev pub Seeking : List ℕ → List Float → List ℕ → ℕ → ℕ → ℕ → ℕ → Type 0
Seeking t spans index n p q c = Indexed (firsts t spans n) index → Sought (firsts t spans n) p q c

abbrev Found : List ℕ → List Float → List ℕ → ℕ → ℕ → ℕ → Option ℕ → Type 0
Found t spans index n p q r = Indexed (firsts t spans n) index → r ≡ found (joins p q) (firsts t spans n)

module _ (t : List ℕ) (spans : List Float) (index : List ℕ) (n p q : ℕ) where
  pub seek_start : (h c : ℕ) → h ≡ bucket_of p q → h < 16384 → c ≡ get_or index h 0 → Seeking t spans index n p q c
  seek_start h c o l e known = sought_start (firsts t spans n) index p q known h c o l e

  module _ (room : n ≤ 1024) (c : ℕ) (seek : Seeking t spans index n p q c) where
    firsts_long : length (firsts t spans n) ≡ n
    firsts_long = length-take-le n (tabulate 1024 (edge_in t spans)) (omega (arith, length_tabulate 1024 (edge_in t spans)))

    pub seek_none : c ≤ 0 → Found t spans index n p q None
    seek_none z known = sought_none (firsts t spans n) index p q known c (seek known) z

    module _ (some : 0 < c) where
      -- the next is no lower
      pub seek_wrong : (c' : ℕ) → c' ≡ get_or index (16384 + (c - 1)) 0 → c - 1 < c' → Found t spans index n p q None
      seek_wrong c' e h known = absurd (omega (arith, sought_lower (firsts t spans n) index p q known c (seek known) c' some e))

      module _ (here : c - 1 < n) (x : Edge) (r : Bool) (is : x ≡ edge_in t spans (c - 1)) (tells : r ≡ joins p q x) where
        told : r ≡ joins p q (get_or (firsts t spans n) (c - 1) zero_edge)
        told =
            tells
            ∙ ap (joins p q)
            (is ∙ sym (get_or-take n (tabulate 1024 (edge_in t spans)) (c - 1) zero_edge here ∙ get_d_tabulate 1024 (edge_in t spans) (c - 1) zero_edge (omega arith)))

        pub seek_found : r ≡ true → Found t spans index n p q (Some (c - 1))
        seek_found j known = sought_found (firsts t spans n) index p q known c (seek known) some (sym told ∙ j)

        pub seek_next : r ≡ false → (c' : ℕ) → c' ≡ get_or index (16384 + (c - 1)) 0 → Seeking t spans index n p q c'
        seek_next j c' e known = sought_next (firsts t spans n) index p q known c (seek known) c' some e (sym told ∙ j)
