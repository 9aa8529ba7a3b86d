-- The loop of `starts_of`.
use Prim.Native.Nat.{◌*◌, ◌+◌, ◌<◌, ◌≤◌, suc, ℕ}
use mathlib.Core.List.{List, []}
use mathlib.Core.Path.{◌∙◌, ◌≡◌, ap, refl, sym}
use native.Mathlib.Numerals.{add-one}
use native.Mathlib.Omega.{arith}
use lib.ListN.{get_or, length, length-set, set, take}
use lib.Seq.{take_all, take-suc-set}
use Rattle.lists.proofs.Laws.{tabulate_suc}
use Rattle.lists.specs.Lists.{tabulate}
use Rattle.pattern.specs.Checks.{count_faults}
use Rattle.pattern.specs.Contents.{layout}
use Rattle.pattern.specs.declared.Layout.{Layout}
use Rattle.pattern_file.proofs.Places.{end_le, end_limit, start_first, start_le, start_next}
use Rattle.pattern_file.specs.File.{start_of}

-- the loop of `starts_of` has written the first b places
pub record Starting (counts : List ℕ) (lay : Layout) (out : List ℕ) (at b : ℕ) : Type 0 where
  pub is : lay ≡ layout
  pub seven : length counts ≡ 7
  pub long : length out ≡ 8
  pub so_far : take b out ≡ tabulate b (start_of counts)
  pub here : at ≡ start_of counts b

module _ (counts : List ℕ) (lay : Layout) (out : List ℕ) where
  pub starting : lay ≡ layout → length counts ≡ 7 → length out ≡ 8 → Starting counts lay out lay.first 0
  unfolding tabulate
  starting e l n = record {
    is = e;
    seven = l;
    long = n;
    so_far = refl;
    here = ap (λ (k : Layout). k.first) e ∙ sym (start_first counts);
  }

  module _ (at b : ℕ) (s : Starting counts lay out at b) where
    -- no body ends past the longest file
    pub starting_room : count_faults counts ≡ [] → b < 7 → at + get_or lay.sizes b 0 * get_or counts b 0 ≤ 41048
    starting_room e h = rw s.is (omega (arith, s.here, start_next counts b, start_le counts (suc b) 7 h, end_le counts e s.seven, end_limit))

    write_next : b < 8 → take (b + 1) (set out b at) ≡ tabulate (b + 1) (start_of counts)
    write_next h = rw (add-one, take-suc-set out b at (omega (arith, s.long)), s.so_far, s.here, tabulate_suc b (start_of counts))

    pub starting_next : b < 7 → Starting counts lay (set out b at) (at + get_or lay.sizes b 0 * get_or counts b 0) (b + 1)
    starting_next h = record {
      is = s.is;
      seven = s.seven;
      long = length-set out b at ∙ s.long;
      so_far = write_next (omega arith);
      here = rw (add-one, start_next counts b, s.is, s.here);
    }

    pub starting_all : b ≡ 7 → set out 7 at ≡ tabulate 8 (start_of counts)
    starting_all e = sym (take_all 8 (set out 7 at) (omega (arith, length-set out 7 at, s.long))) ∙ rw e at (write_next (omega arith))
