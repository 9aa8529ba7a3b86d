-- The loops over the listings: the listings before k are done.
use Prim.Native.Nat.{ℕ, ◌+◌, ◌<◌, ◌≤◌}
use mathlib.Core.List.{List, ◌++◌}
use mathlib.Core.Path.{◌∙◌, ◌≡◌, ap, refl}
use native.Mathlib.Numerals.{add-one}
use native.Mathlib.Omega.{arith}
use lib.ListN.{get_or, length, replicate, take}
use lib.Seq.{take_all}
use Rattle.lists.specs.Lists.{flat, only}
use Rattle.lists.proofs.Count.{all_each}
use Rattle.lists.proofs.Sets.{flat_next}
use Rattle.edge.specs.Uses.{back_of, front_of}
use Rattle.shell.specs.Openings.{Walk, is_free, keep, walk_of}
use Rattle.shell.proofs.Held.{held_le}
use Rattle.condition.specs.declared.Tally.{Tally}
use Rattle.condition.specs.Tallies.{inserted_all}
use Rattle.condition.proofs.Loops.{inserted_append}
use Rattle.listing.specs.Parts.{part_at, parts_of}
use Rattle.openings.specs.declared.Walked.{Walked}
use Rattle.openings.specs.Slots.{Holding, slots}
use Rattle.openings.specs.Passes.{Keepable, Passed, Ready, is_odd}
use Rattle.openings.proofs.Keeping.{keep_parts}
use Rattle.openings.proofs.Passes.{pass_of, passed_lens, passed_none, passed_out, passed_then}
use Rattle.openings.proofs.Slots.{length_slots}
use Rattle.openings.proofs.Wide.{walk_on_arrays}
use Rattle.extract.specs.Listings.{Extractable, Walks, Written, no_uses, nowhere}
use Rattle.extract.proofs.Few.{pass_few}

module _ (uses turned starts ls : List ℕ) where
  -- the uses of the listings before k
  abbrev before : ℕ → List ℕ
  before k = parts_of uses turned starts (take k ls)

  abbrev all : List ℕ
  all = parts_of uses turned starts ls

  before_next : (k : ℕ) → k < length ls → before (k + 1) ≡ before k ++ part_at uses turned starts (get_or ls k 0)
  before_next k l = rw add-one (flat_next (part_at uses turned starts) ls k 0 l)

  before_all : (k : ℕ) → length ls ≤ k → before k ≡ all
  before_all k h = ap (parts_of uses turned starts) (take_all k ls h)

  -- the tally
  pub record Tallying (t : Tally) (k : ℕ) : Type 0 where
    pub low : k ≤ length ls
    pub same : t ≡ inserted_all no_uses (before k)

  pub tallying_start : (t : Tally) → t.states ≡ replicate 256 0 → t.worst ≡ 3 → Tallying t 0
  unfolding inserted_all flat
  tallying_start t e w = record { low = omega arith; same = let parts : t ≡ record { states = t.states; worst = t.worst } = refl in parts ∙ rw (e, w) }

  module _ (t : Tally) (k : ℕ) (v : Tallying t k) where
    pub tallying_next : k < length ls → (r : Tally) (part : List ℕ) → part ≡ part_at uses turned starts (get_or ls k 0) → r ≡ inserted_all t part → Tallying r (k + 1)
    tallying_next l r part p e = record {
      low = omega arith;
      same = e ∙ rw (before_next k l, inserted_append no_uses (before k) (part_at uses turned starts (get_or ls k 0)), ← v.same, p);
    }

    pub tallying_all : length ls ≤ k → t ≡ inserted_all no_uses all
    tallying_all h = v.same ∙ ap (inserted_all no_uses) (before_all k h)

  -- keeping the free uses
  module _ (fronts backs odd kept₀ : List ℕ) where
    pub record Keeping (kept : List ℕ) (k : ℕ) : Type 0 where
      pub low : k ≤ length ls
      pub same : slots kept ≡ keep (front_of fronts backs) (back_of fronts backs) (only (is_odd odd) (before k)) (slots kept₀)
      pub long : length kept ≡ length kept₀
      pub holding : Holding fronts backs kept

    pub keeping_start : Holding fronts backs kept₀ → Keeping kept₀ 0
    unfolding flat only keep
    keeping_start h = record { low = omega arith; same = refl; long = refl; holding = h }

    module _ (kept : List ℕ) (k : ℕ) (v : Keeping kept k) where
      pub keeping_here : Walks uses turned starts fronts backs (get_or ls k 0) → length fronts ≤ 1024 → length fronts ≤ length odd → length kept₀ ≡ 2048
          → (part : List ℕ) → part ≡ part_at uses turned starts (get_or ls k 0) → Keepable fronts backs odd part kept
      keeping_here g e o n part p = record {
        begins = rw p g.begins;
        ends = rw p g.ends;
        edges = e;
        tallied = o;
        points = v.long ∙ n;
        holding = v.holding;
      }

      pub keeping_next : k < length ls → (kept' part : List ℕ) → part ≡ part_at uses turned starts (get_or ls k 0)
          → slots kept' ≡ keep (front_of fronts backs) (back_of fronts backs) (only (is_odd odd) part) (slots kept)
          → length kept' ≡ length kept → Holding fronts backs kept' → Keeping kept' (k + 1)
      keeping_next l kept' part p e n h = record {
        low = omega arith;
        same =
            e
            ∙ rw (before_next k l, keep_parts (front_of fronts backs) (back_of fronts backs) (is_odd odd) (before k) (part_at uses turned starts (get_or ls k 0)) (slots kept₀), ← v.same, p);
        long = n ∙ v.long;
        holding = h;
      }

      pub keeping_all : length ls ≤ k → slots kept ≡ keep (front_of fronts backs) (back_of fronts backs) (only (is_odd odd) all) (slots kept₀)
      keeping_all h = v.same ∙ rw (before_all k h)

  -- the pass
  module _ (fronts backs kept₀ out₀ lens₀ : List ℕ) where
    pub record Passing (kept out lens : List ℕ) (w : Walked) (k : ℕ) : Type 0 where
      pub low : k ≤ length ls
      pub passed : Passed (pass_of fronts backs (before k) kept₀ 0) out₀ lens₀ nowhere kept out lens w
      pub ready : Ready fronts backs kept out lens w

    pub passing_start : Ready fronts backs kept₀ out₀ lens₀ nowhere → Passing kept₀ out₀ lens₀ nowhere 0
    unfolding flat
    passing_start r = record { low = omega arith; passed = passed_none fronts backs kept₀ out₀ lens₀ nowhere; ready = r }

    module _ (kept out lens : List ℕ) (w : Walked) (k : ℕ) (v : Passing kept out lens w k) where
      pub passing_next : k < length ls → (part kept' out' lens' : List ℕ) (w' : Walked) → part ≡ part_at uses turned starts (get_or ls k 0)
          → Passed (pass_of fronts backs part kept w.lookups) out lens w kept' out' lens' w'
          → Ready fronts backs kept' out' lens' w' → Passing kept' out' lens' w' (k + 1)
      passing_next l part kept' out' lens' w' p q r = record {
        low = omega arith;
        passed =
            rw (before_next k l, ← p)
            (passed_then fronts backs kept₀ out₀ lens₀ nowhere (before k) part kept out lens w kept' out' lens' w' v.passed q);
        ready = r;
      }

      pub passing_all : length ls ≤ k → Passed (pass_of fronts backs all kept₀ 0) out₀ lens₀ nowhere kept out lens w
      passing_all h = rw (before_all k h) at v.passed

      pub passing_out : length out ≡ length out₀
      passing_out = passed_out (pass_of fronts backs (before k) kept₀ 0) out₀ lens₀ nowhere kept out lens w v.passed

      pub passing_lens : length lens ≡ length lens₀
      passing_lens = passed_lens (pass_of fronts backs (before k) kept₀ 0) out₀ lens₀ nowhere kept out lens w v.passed

-- the pass over what was kept is the walk of the shell
pub written : (us odd fronts backs : List ℕ) (points : ℕ) (kept out₀ lens₀ kept' out lens : List ℕ) (r : Walked)
    → Extractable us odd fronts backs points out₀ lens₀
    → slots kept ≡ keep (front_of fronts backs) (back_of fronts backs) (only (is_odd odd) us) (slots (replicate 2048 65535)) → length kept ≡ 2048
    → Passed (pass_of fronts backs us kept 0) out₀ lens₀ nowhere kept' out lens r → Ready fronts backs kept' out lens r
    → Written (walk_of (front_of fronts backs) (back_of fronts backs) points us) out₀ lens₀ out lens r
written us odd fronts backs points kept out₀ lens₀ kept' out lens r g e n p t =
    let front = front_of fronts backs in
    let back = back_of fronts backs in
    let inside = all_each (λ (u : ℕ). front u < points) 0 us g.inside in
    let free = all_each (λ (u : ℕ). is_odd odd u ≡ is_free us u) 0 us g.free in
    let same = walk_on_arrays fronts backs odd us kept points g.places inside free e in
    let os = ap (λ (w : Walk). w.openings) same in
    let f = pass_few front back us (slots kept) 0 in
    let h = held_le (slots kept) in
    let l = length_slots kept in record {
      uses = rw os at p.written;
      lengths = rw os at p.lengths;
      place = rw (← os) (omega (arith, p.place));
      number = rw (← os) (omega (arith, p.number));
      asked = p.asked ∙ ap (λ (w : Walk). w.lookups) same;
      few = (omega (arith, p.place, f.0, h, l, n), omega (arith, p.number, f.1, h, l, n), omega (arith, t.few));
    }
