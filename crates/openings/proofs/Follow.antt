-- One start: the loop of lookups is the chain.
use Rattle.std.specs.Prelude.{None, Option, Some}
use Prim.Native.Nat.{◌+◌, ◌<◌, ◌≤◌, suc, zero, ℕ}
use mathlib.Core.List.{List, [], ◌++◌, ◌∷◌, append_assoc, append-nil}
use mathlib.Core.Path.{◌∙◌, ◌≡◌, ap, refl, sym}
use native.Mathlib.Omega.{arith}
use lib.ListN.{get_or, length, length-append, length-set, set}
use lib.Seq.{length-sets, sets}
use Rattle.edge.specs.Uses.{back_of, edge_number, front_of}
use Rattle.lists.proofs.Sets.{sets_append}
use Rattle.openings.proofs.Slots.{found_nothing, found_use, holding_out, kept_le, kept_out, kept_still, slot_none, slot_some, slots_get, slots_set}
use Rattle.openings.specs.Passes.{Followed}
use Rattle.openings.specs.Slots.{Holding, kept_in, slots}
use Rattle.openings.specs.declared.Step.{Step}
use Rattle.shell.specs.Openings.{Found, chain}

module _ (front back : ℕ → ℕ) (d p : ℕ) (kept : List ℕ) (n : ℕ) (h : p < length kept) where
  pub chain_none : get_or kept p 0 ≡ 65535 → chain front back (suc d) p (slots kept) n ≡ record { opening = []; kept = slots (set kept p 65535); lookups = n + 1 }
  unfolding chain
  chain_none e = rw (slots_get kept p h, slot_none (get_or kept p 0) e, slots_set kept p 65535)

  pub chain_some : (u : ℕ) → get_or kept p 0 ≡ u → (get_or kept p 0 ≡ 65535 → ⊥)
      → chain front back (suc d) p (slots kept) n
      ≡ (let r = chain front back d (back u) (slots (set kept p 65535)) (n + 1) in record { opening = u ∷ r.opening; kept = r.kept; lookups = r.lookups })
  unfolding chain
  chain_some u e ne = rw (slots_get kept p h, slot_some (get_or kept p 0) ne, slots_set kept p 65535, e)

-- what was found before
abbrev pub onto : List ℕ → Found → Found
onto us r = record { opening = us ++ r.opening; kept = r.kept; lookups = r.lookups }

-- before a lookup at q: `done` was found so far
pub record Going (f : Found) (fronts backs kept₀ out₀ : List ℕ) (at n₀ : ℕ) (kept out : List ℕ) (q m n : ℕ) : Type 0 where
  pub done : List ℕ
  pub more : ℕ
  pub same : f ≡ onto done (chain (front_of fronts backs) (back_of fronts backs) more q (slots kept) n)
  pub written : out ≡ sets out₀ at done
  pub place : m ≡ at + length done
  pub asked : n ≡ n₀ + length done
  pub all : length done + kept_in kept ≡ kept_in kept₀
  pub enough : kept_in kept < more
  pub holding : Holding fronts backs kept
  pub long : length kept ≡ length kept₀
  pub inside : q < length kept

module _ (fronts backs kept₀ out₀ : List ℕ) (at n₀ : ℕ) where
  abbrev pub start_of : ℕ → Found
  start_of p = chain (front_of fronts backs) (back_of fronts backs) (suc (length kept₀)) p (slots kept₀) n₀

  pub going_start : (p : ℕ) → p < length kept₀ → Holding fronts backs kept₀ → Going (start_of p) fronts backs kept₀ out₀ at n₀ kept₀ out₀ p at n₀
  going_start p h g = record {
    done = [];
    more = suc (length kept₀);
    same = refl;
    written = refl;
    place = omega arith;
    asked = omega arith;
    all = omega arith;
    enough = omega (arith, kept_le kept₀);
    holding = g;
    long = refl;
    inside = h;
  }

  module _ (f : Found) (kept out : List ℕ) (q m n : ℕ) (g : Going f fronts backs kept₀ out₀ at n₀ kept out q m n) where
    pub going_long : length out ≡ length out₀
    going_long = ap length g.written ∙ length-sets out₀ at g.done

    -- a lookup that finds u
    module _ (u : ℕ) (e : get_or kept q 0 ≡ u) (ne : get_or kept q 0 ≡ 65535 → ⊥) where
      going_edge : (edge_number u < length fronts) × (edge_number u < length backs)
      going_edge = let l : edge_number u < length fronts = rw e at (g.holding.edge q g.inside ne) in (l, omega (arith, l, g.holding.alike))

      going_room : at + kept_in kept₀ ≤ length out₀ → m < length out
      going_room h = omega (arith, h, going_long, g.place, g.all, kept_out kept q g.inside ne)

      going_less : kept_in (set kept q 65535) < kept_in kept
      going_less = omega (arith, kept_out kept q g.inside ne)

      going_next : Going f fronts backs kept₀ out₀ at n₀ (set kept q 65535) (set out m u) (back_of fronts backs u) (m + 1) (n + 1)
      going_next = go g.more g.enough g.same
        where
          go : (d : ℕ) → kept_in kept < d → f ≡ onto g.done (chain (front_of fronts backs) (back_of fronts backs) d q (slots kept) n)
              → Going f fronts backs kept₀ out₀ at n₀ (set kept q 65535) (set out m u) (back_of fronts backs u) (m + 1) (n + 1)
          go zero l s = absurd (omega arith)
          go (suc d) l s =
              let few = kept_out kept q g.inside ne in
              let r = chain (front_of fronts backs) (back_of fronts backs) d (back_of fronts backs u) (slots (set kept q 65535)) (n + 1) in
              let long : length (g.done ++ (u ∷ [])) ≡ length g.done + 1 = length-append g.done (u ∷ []) in record {
                done = g.done ++ (u ∷ []);
                more = d;
                same = s ∙ rw (chain_some (front_of fronts backs) (back_of fronts backs) d q kept n g.inside u e ne, append_assoc g.done (u ∷ []) r.opening);
                written = rw (g.written, g.place) (sets_append out₀ at g.done (u ∷ []));
                place = omega (arith, long, g.place);
                asked = omega (arith, long, g.asked);
                all = omega (arith, long, g.all, few);
                enough = omega (arith, few, l);
                holding = holding_out fronts backs kept q g.holding;
                long = length-set kept q 65535 ∙ g.long;
                inside = rw (length-set kept q 65535, ← e) (g.holding.point q g.inside ne);
              }

    going_end : get_or kept q 0 ≡ 65535 → (r : Step) → r.at ≡ m → r.lookups ≡ n + 1 → Followed f fronts backs kept₀ out₀ at n₀ (set kept q 65535) out r
    going_end e r a b = go g.more g.enough g.same
      where
        go : (d : ℕ) → kept_in kept < d → f ≡ onto g.done (chain (front_of fronts backs) (back_of fronts backs) d q (slots kept) n)
            → Followed f fronts backs kept₀ out₀ at n₀ (set kept q 65535) out r
        go zero l s = absurd (omega arith)
        go (suc d) l s =
            let t : f ≡ record { opening = g.done ++ []; kept = slots (set kept q 65535); lookups = n + 1 } =
            s ∙ rw (chain_none (front_of fronts backs) (back_of fronts backs) d q kept n g.inside e) in
            let o : f.opening ≡ g.done = ap (λ (r : Found). r.opening) t ∙ append-nil g.done in record {
              written = rw o g.written;
              place = rw o (a ∙ g.place);
              asked = b ∙ sym (ap (λ (r : Found). r.lookups) t);
              left = sym (ap (λ (r : Found). r.kept) t);
              all = rw (o, kept_still kept q e) g.all;
              total = rw o (omega (arith, b, g.asked));
              holding = holding_out fronts backs kept q g.holding;
            }

    -- a lookup at q answers a and leaves kept' and the count n'
    module _ (a : Option ℕ) (kept' : List ℕ) (n' : ℕ) (answers : a ≡ get_or (slots kept) q None) (leaves : kept' ≡ set kept q 65535) (counts : n' ≡ n + 1) where
      pub end : a ≡ None → (r : Step) → r.at ≡ m → r.lookups ≡ n' → Followed f fronts backs kept₀ out₀ at n₀ kept' out r
      end e r x y = rw leaves (going_end (found_nothing kept q g.inside a answers e) r x (y ∙ counts))

      module _ (u : ℕ) (e : a ≡ Some u) where
        is : (get_or kept q 0 ≡ u) × (get_or kept q 0 ≡ 65535 → ⊥)
        is = found_use kept q g.inside a u answers e

        pub edge_at_lem : (edge_number u < length fronts) × (edge_number u < length backs)
        edge_at_lem = going_edge u is.0 is.1

        pub room_at : at + kept_in kept₀ ≤ length out₀ → m < length out
        room_at = going_room u is.0 is.1

        pub less_at : kept_in kept' < kept_in kept
        less_at = rw leaves (going_less u is.0 is.1)

        pub next_at : (q' : ℕ) → q' ≡ back_of fronts backs u → Going f fronts backs kept₀ out₀ at n₀ kept' (set out m u) q' (m + 1) n'
        next_at q' b = rw (leaves, counts, b) (going_next u is.0 is.1)
