-- Passes one after the other are one pass, and what one use adds.
use Rattle.std.specs.Prelude.{Option, None, Some}
use Prim.Native.Nat.{ℕ, suc, ◌+◌, ◌-◌, ◌<◌, ◌≤◌}
use mathlib.Core.List.{List, [], ◌∷◌, ◌++◌, append-nil, map}
use mathlib.Core.Path.{◌∙◌, ◌≡◌, ap, refl}
use native.Mathlib.Numerals.{add-one}
use native.Mathlib.Omega.{arith}
use lib.ListN.{get_or, length, length-append, length-map, length-set, set, take}
use lib.Seq.{length-sets, take_all, take-suc}
use Rattle.lists.specs.Lists.{flat}
use Rattle.lists.proofs.Laws.{flat_append}
use Rattle.lists.proofs.Sets.{sets_then}
use Rattle.edge.specs.Uses.{back_of, front_of}
use Rattle.shell.specs.Openings.{Found, Kept, Walk, chain}
use Rattle.shell.specs.OnePass.{begin_at, pass}
use Rattle.openings.specs.declared.Step.{Step}
use Rattle.openings.specs.declared.Walked.{Walked}
use Rattle.openings.specs.Slots.{Holding, kept_in, slots}
use Rattle.openings.specs.Passes.{Followed, Passed, Ready}
use Rattle.openings.proofs.Slots.{kept_le, kept_out, length_slots, slot_none, slot_some, slots_get}
use Rattle.openings.proofs.Follow.{chain_some}

-- the openings of a pass before those of another
abbrev pub joined : List (List ℕ) → Walk → Walk
joined os w = record { openings = os ++ w.openings; kept = w.kept; lookups = w.lookups }

module _ (front back : ℕ → ℕ) where
  pub pass_append : (us vs : List ℕ) (kept : Kept) (n : ℕ)
      → pass front back (us ++ vs) kept n ≡ (let w = pass front back us kept n in joined w.openings (pass front back vs w.kept w.lookups))
  unfolding pass
  pass_append [] vs kept n = refl
  pass_append (u ∷ us) vs kept n = go (get_or kept (front u) None) (λ k m. pass_append us vs k m)
    where
      go : (o : Option ℕ) → ((k : Kept) (m : ℕ) → pass front back (us ++ vs) k m ≡ (let w = pass front back us k m in joined w.openings (pass front back vs w.kept w.lookups)))
          → begin_at front back o (front u) kept n (λ (k : Kept) (m : ℕ). pass front back (us ++ vs) k m)
          ≡ (let w = begin_at front back o (front u) kept n (λ (k : Kept) (m : ℕ). pass front back us k m) in joined w.openings (pass front back vs w.kept w.lookups))
      go None more = more kept n
      go (Some v) more =
          let r = chain front back (suc (length kept)) (front u) kept n in
          ap (joined (r.opening ∷ [])) (more r.kept r.lookups)

  -- one use, alone
  one_none : (u : ℕ) (kept : List ℕ) (n : ℕ) → front u < length kept → get_or kept (front u) 0 ≡ 65535 → pass front back (u ∷ []) (slots kept) n ≡ record { openings = []; kept = slots kept; lookups = n }
  unfolding pass
  one_none u kept n l e = rw (slots_get kept (front u) l, slot_none (get_or kept (front u) 0) e)

  one_some : (u : ℕ) (kept : List ℕ) (n : ℕ) → front u < length kept → (get_or kept (front u) 0 ≡ 65535 → ⊥)
      → pass front back (u ∷ []) (slots kept) n
      ≡ (let r = chain front back (suc (length kept)) (front u) (slots kept) n in record { openings = r.opening ∷ []; kept = r.kept; lookups = r.lookups })
  unfolding pass
  one_some u kept n l e = rw (slots_get kept (front u) l, slot_some (get_or kept (front u) 0) e, length_slots kept)

pub map_append : (xs ys : List (List ℕ)) → map length (xs ++ ys) ≡ map length xs ++ map length ys
map_append [] ys = refl
map_append (x ∷ xs) ys = ap (λ (r : List ℕ). length x ∷ r) (map_append xs ys)

module _ (w : Walk) (out₀ lens₀ : List ℕ) (before : Walked) (kept out lens : List ℕ) (after : Walked) (p : Passed w out₀ lens₀ before kept out lens after) where
  pub passed_out : length out ≡ length out₀
  passed_out = ap length p.written ∙ length-sets out₀ before.at (flat w.openings)

  pub passed_lens : length lens ≡ length lens₀
  passed_lens = ap length p.lengths ∙ length-sets lens₀ before.openings (map length w.openings)

  -- a pass, and another after it
  joined_then : (v : Walk) (kept' out' lens' : List ℕ) (after' : Walked) → Passed v out lens after kept' out' lens' after'
      → Passed (joined w.openings v) out₀ lens₀ before kept' out' lens' after'
  joined_then v kept' out' lens' after' q =
      let f = flat_append w.openings v.openings in
      let m = map_append w.openings v.openings in
      let n : length (map length w.openings) ≡ length w.openings = length-map w.openings length in record {
        written = rw f (sets_then out₀ before.at (flat w.openings) (flat v.openings) after.at p.place p.written q.written);
        lengths = rw m (sets_then lens₀ before.openings (map length w.openings) (map length v.openings) after.openings (rw n p.number) p.lengths q.lengths);
        place = rw f (omega (arith, p.place, q.place, length-append (flat w.openings) (flat v.openings)));
        number = omega (arith, p.number, q.number, length-append w.openings v.openings);
        asked = q.asked;
        left = q.left;
      }

module _ (fronts backs : List ℕ) where
  abbrev pub pass_of : List ℕ → List ℕ → ℕ → Walk
  pass_of us kept n = pass (front_of fronts backs) (back_of fronts backs) us (slots kept) n

  module _ (kept₀ out₀ lens₀ : List ℕ) (before : Walked) where
    pub passed_none : Passed (pass_of [] kept₀ before.lookups) out₀ lens₀ before kept₀ out₀ lens₀ before
    unfolding pass flat
    passed_none = record { written = refl; lengths = refl; place = omega arith; number = omega arith; asked = refl; left = refl }

    -- two parts, one after the other, are one pass
    pub passed_then : (us vs kept out lens : List ℕ) (mid : Walked) (kept' out' lens' : List ℕ) (after : Walked)
        → Passed (pass_of us kept₀ before.lookups) out₀ lens₀ before kept out lens mid
        → Passed (pass_of vs kept mid.lookups) out lens mid kept' out' lens' after
        → Passed (pass_of (us ++ vs) kept₀ before.lookups) out₀ lens₀ before kept' out' lens' after
    passed_then us vs kept out lens mid kept' out' lens' after p q =
        rw (pass_append (front_of fronts backs) (back_of fronts backs) us vs (slots kept₀) before.lookups, ← p.left, ← p.asked)
        (joined_then (pass_of us kept₀ before.lookups) out₀ lens₀ before kept out lens mid p (pass_of vs kept mid.lookups) kept' out' lens' after q)

    -- one use, where the arrays have room
    module _ (r : Ready fronts backs kept₀ out₀ lens₀ before) (u : ℕ) (low : front_of fronts backs u < 2048) (p : ℕ) (at : p ≡ front_of fronts backs u) where
      pub here : p < length kept₀
      here = rw (at, r.points) low

      pub one_bare : get_or kept₀ p 0 ≡ 65535 → Passed (pass_of (u ∷ []) kept₀ before.lookups) out₀ lens₀ before kept₀ out₀ lens₀ before
      unfolding flat
      one_bare e =
          rw (one_none (front_of fronts backs) (back_of fronts backs) u kept₀ before.lookups (rw at at here) (rw at at e))
          (record { written = refl; lengths = refl; place = omega arith; number = omega arith; asked = refl; left = refl })

      module _ (ne : get_or kept₀ p 0 ≡ 65535 → ⊥) where
        -- what a start needs
        pub begins : (p < length kept₀) × Holding fronts backs kept₀ × (before.at + kept_in kept₀ ≤ length out₀) × (before.lookups + kept_in kept₀ < 1000000)
        begins = (here, r.holding, r.uses, omega (arith, r.few, kept_out kept₀ p here ne))

        pub space : before.openings < length lens₀
        space = omega (arith, r.parts, kept_out kept₀ p here ne)

        abbrev f : Found
        f = chain (front_of fronts backs) (back_of fronts backs) (suc (length kept₀)) p (slots kept₀) before.lookups

        long : 0 < length f.opening
        long = rw (chain_some (front_of fronts backs) (back_of fronts backs) (length kept₀) p kept₀ before.lookups here (get_or kept₀ p 0) refl ne) (omega arith)

        module _ (kept out : List ℕ) (s : Step) (g : Followed f fronts backs kept₀ out₀ before.at before.lookups kept out s) where
          pub fits : s.at - before.at < 65536
          fits = omega (arith, g.place, g.all, kept_le kept₀, r.points)

          module _ (lens : List ℕ) (after : Walked) (stored : lens ≡ set lens₀ before.openings (s.at - before.at)) (a : after.at ≡ s.at) (o : after.openings ≡ before.openings + 1) (n : after.lookups ≡ s.lookups) where
            pub one_passed : Passed (pass_of (u ∷ []) kept₀ before.lookups) out₀ lens₀ before kept out lens after
            unfolding flat
            one_passed =
                let nil = append-nil f.opening in
                let is : s.at - before.at ≡ length f.opening = omega (arith, g.place) in
                rw (one_some (front_of fronts backs) (back_of fronts backs) u kept₀ before.lookups (rw at at here) (rw at at ne), ← at)
                (record {
                  written = rw nil g.written;
                  lengths = rw (stored, is);
                  place = rw nil (a ∙ g.place);
                  number = o;
                  asked = n ∙ g.asked;
                  left = g.left;
                })

            pub one_ready : length kept ≡ length kept₀ → Ready fronts backs kept out lens after
            one_ready e = record {
              holding = g.holding;
              points = e ∙ r.points;
              uses = let l : length out ≡ length out₀ = ap length g.written ∙ length-sets out₀ before.at f.opening in omega (arith, l, a, g.place, g.all, r.uses);
              parts = let l : length lens ≡ length lens₀ = ap length stored ∙ length-set lens₀ before.openings (s.at - before.at) in omega (arith, l, o, g.all, long, r.parts);
              few = omega (arith, n, g.total, g.all, long, r.few);
            }

-- the uses before i are passed
pub record Passing (fronts backs part kept₀ out₀ lens₀ : List ℕ) (before : Walked) (kept out lens : List ℕ) (w : Walked) (i : ℕ) : Type 0 where
  pub low : i ≤ length part
  pub passed : Passed (pass_of fronts backs (take i part) kept₀ before.lookups) out₀ lens₀ before kept out lens w
  pub ready : Ready fronts backs kept out lens w

module _ (fronts backs part kept₀ out₀ lens₀ : List ℕ) (before : Walked) where
  pub passing_start : Ready fronts backs kept₀ out₀ lens₀ before → Passing fronts backs part kept₀ out₀ lens₀ before kept₀ out₀ lens₀ before 0
  passing_start r = record { low = omega arith; passed = passed_none fronts backs kept₀ out₀ lens₀ before; ready = r }

  module _ (kept out lens : List ℕ) (w : Walked) (i : ℕ) (s : Passing fronts backs part kept₀ out₀ lens₀ before kept out lens w i) where
    pub passing_next : i < length part → (kept' out' lens' : List ℕ) (w' : Walked)
        → Passed (pass_of fronts backs (get_or part i 0 ∷ []) kept w.lookups) out lens w kept' out' lens' w'
        → Ready fronts backs kept' out' lens' w' → Passing fronts backs part kept₀ out₀ lens₀ before kept' out' lens' w' (i + 1)
    passing_next l kept' out' lens' w' p r = record {
      low = omega arith;
      passed = rw (add-one, take-suc {A = ℕ} part i 0 l) (passed_then fronts backs kept₀ out₀ lens₀ before (take i part) (get_or part i 0 ∷ []) kept out lens w kept' out' lens' w' s.passed p);
      ready = r;
    }

    pub passing_all : length part ≤ i → Passed (pass_of fronts backs part kept₀ before.lookups) out₀ lens₀ before kept out lens w
    passing_all h = rw (take_all i part h) at s.passed

    pub passing_out : length out ≡ length out₀
    passing_out = passed_out (pass_of fronts backs (take i part) kept₀ before.lookups) out₀ lens₀ before kept out lens w s.passed

    pub passing_lens : length lens ≡ length lens₀
    passing_lens = passed_lens (pass_of fronts backs (take i part) kept₀ before.lookups) out₀ lens₀ before kept out lens w s.passed
