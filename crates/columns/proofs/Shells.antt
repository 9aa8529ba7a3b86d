-- What the columns of a sound pattern show of a listing is what the definitions say.
use Prim.Native.Nat.{◌+◌, ◌-◌, ◌<◌, ◌≤◌, suc, ℕ}
use mathlib.Core.Bool.{Bool, false, true}
use mathlib.Core.List.{List, [], map}
use mathlib.Core.Path.{◌∙◌, ◌≡◌, ap, refl, sym}
use native.Mathlib.Omega.{arith}
use lib.Dec.{leb}
use lib.ListN.{drop, get_or, length, length-append, length-replicate, length-take, replicate, take}
use lib.Seq.{get_or-take, take-take}
use Rattle.columns.specs.Columns.{columns_in, first_listing, first_use, first_wire}
use Rattle.columns.specs.Sound.{Sound}
use Rattle.face.specs.Faces.{wire_count}
use Rattle.listing.proofs.Laws.{Placed, listing_part_lem, listings_named, part_placed, part_shown, shells_summed, start_at_lem, starts_inside, starts_rise, turned_long}
use Rattle.listing.specs.Parts.{Shows, between, part_at, parts_of, turned_uses}
use Rattle.lists.proofs.Parts.{map_same}
use Rattle.lists.proofs.Count.{All, all_weaker}
use Rattle.lists.proofs.Laws.{length_tabulate, sum_next, sum_take_drop}
use Rattle.lists.proofs.Marks.{AllBelow}
use Rattle.lists.proofs.Split.{drop_take, get_d_split}
use Rattle.lists.specs.Lists.{flat, padded, pick, tabulate}
use Rattle.pattern.proofs.Counts.{faces_counted, listings_counted, uses_counted}
use Rattle.pattern.proofs.Named.{wires_summed}
use Rattle.pattern.proofs.Passed.{content_passed, pattern_passed}
use Rattle.pattern.specs.Checks.{content_faults, outlines, record_faults}
use Rattle.pattern.specs.Contents.{Pattern, content}
use Rattle.shell.specs.Shells.{face_number, listings_of, shown_wires}

-- a part of a list's first n numbers
pub between_first : (xs : List ℕ) (n i j : ℕ) → i ≤ j → j ≤ n → between (take n xs) i j ≡ between xs i j
between_first xs n i j l h = ap (take (j - i)) (drop_take i n xs (omega arith)) ∙ take-take (j - i) (n - i) (drop i xs) (omega arith)

padded_long : (m : ℕ) (xs : List ℕ) → length xs ≤ m → length (padded m 0 xs) ≡ m
padded_long m xs h = omega (arith, length-append xs (replicate (m - length xs) 0), length-replicate {A = ℕ} (m - length xs) 0)

module _ (p : Pattern) (s : Sound p) where
  pub content_fine : content_faults (content p) ≡ []
  content_fine = (pattern_passed p s.ok).content

  pub records_fine : record_faults (content p) ≡ []
  records_fine = (content_passed (content p) content_fine).records

  pub uses_small : AllBelow 65536 (content p).uses
  uses_small i l =
      let b : i < get_or p.counts 2 0 = omega (arith, l, length-take (get_or p.counts 2 0) p.uses) in
      rw (get_or-take (get_or p.counts 2 0) p.uses i 0 b) (s.uses i)

  -- where a face begins, and the listings of a shell
  pub start_is : (f : ℕ) → f ≤ get_or p.counts 4 0 → get_or (columns_in p).starts f 0 ≡ first_use p f
  start_is f h = start_at_lem (get_or p.counts 4 0) (first_use p) f h

  pub first_is : (f : ℕ) → f ≤ get_or p.counts 4 0 → get_or (columns_in p).firsts f 0 ≡ first_wire p f
  first_is f h = start_at_lem (get_or p.counts 4 0) (first_wire p) f h

  pub place_is : (n : ℕ) → n ≤ get_or p.counts 5 0 → get_or (columns_in p).places n 0 ≡ first_listing p n
  place_is n h = start_at_lem (get_or p.counts 5 0) (first_listing p) n h

  long : (n : ℕ) (g : ℕ → ℕ) → n ≤ 256 → length (padded 257 0 (tabulate (suc n) g)) ≡ 257
  long n g h = padded_long 257 (tabulate (suc n) g) (omega (arith, length_tabulate (suc n) g))

  pub starts_long : length (columns_in p).starts ≡ 257
  starts_long = long (get_or p.counts 4 0) (first_use p) s.limits.faces

  pub firsts_long : length (columns_in p).firsts ≡ 257
  firsts_long = long (get_or p.counts 4 0) (first_wire p) s.limits.faces

  pub turned_full : length (columns_in p).turned ≡ 4096
  turned_full =
      padded_long 4096 (turned_uses (content p).wires (content p).uses)
      (omega (arith, turned_long (content p).wires (content p).uses (wires_summed (content p) records_fine), uses_counted p s.limits s.full, s.limits.uses))

  -- the listings of shell n
  module _ (n : ℕ) (here : n < get_or p.counts 5 0) where
    next_listing : first_listing p (suc n) ≡ first_listing p n + get_or (content p).shells n 0
    next_listing = sum_next (content p).shells n

    pub listings_inside : (get_or (columns_in p).places n 0 ≤ get_or (columns_in p).places (suc n) 0) × (get_or (columns_in p).places (suc n) 0 ≤ 512)
    listings_inside =
        rw (place_is n (omega arith), place_is (suc n) (omega arith)) (
          omega (arith, next_listing),
          omega (arith, sum_take_drop (suc n) (content p).shells, shells_summed (content p) records_fine, listings_counted p s.limits s.full, s.limits.listings),
        )

    pub listings_are : between p.listings (get_or (columns_in p).places n 0) (get_or (columns_in p).places (suc n) 0) ≡ listings_of (content p) n
    listings_are =
        let e : first_listing p (suc n) - first_listing p n ≡ get_or (content p).shells n 0 = omega (arith, next_listing) in
        let i : first_listing p (suc n) ≤ get_or p.counts 6 0 =
        omega (arith, sum_take_drop (suc n) (content p).shells, shells_summed (content p) records_fine, listings_counted p s.limits s.full) in
        rw (place_is n (omega arith), place_is (suc n) (omega arith))
        (sym (between_first p.listings (get_or p.counts 6 0) (first_listing p n) (first_listing p (suc n)) (omega (arith, next_listing)) i)
        ∙ rw (e, get_d_split (content p).shells (content p).listings n))

  -- a listing
  module _ (l : ℕ) (face : face_number l < length (content p).faces) where
    low : face_number l < get_or p.counts 4 0
    low = omega (arith, face, faces_counted p s.limits s.full)

    abbrev counts : List ℕ
    counts = map wire_count (content p).faces

    ends : first_use p (suc (face_number l)) ≤ length (content p).uses
    ends = starts_inside counts (content p).wires (content p).uses (wires_summed (content p) records_fine) (suc (face_number l))

    rises : first_use p (face_number l) ≤ first_use p (suc (face_number l))
    rises = starts_rise counts (content p).wires (face_number l)

    -- the uses in storage, and the first of them
    same_column : (b : Bool) → between (pick b (columns_in p).turned p.uses) (first_use p (face_number l)) (first_use p (suc (face_number l)))
        ≡ between (pick b (columns_in p).turned (content p).uses) (first_use p (face_number l)) (first_use p (suc (face_number l)))
    same_column true = refl
    same_column false =
        sym (between_first p.uses (get_or p.counts 2 0) (first_use p (face_number l)) (first_use p (suc (face_number l))) rises
        (omega (arith, ends, uses_counted p s.limits s.full)))

    pub part_is : part_at p.uses (columns_in p).turned (columns_in p).starts l ≡ flat (shown_wires (outlines (content p)) l)
    part_is =
        rw (start_is (face_number l) (omega (arith, low)), start_is (suc (face_number l)) (omega (arith, low)))
        (same_column (leb 32768 l)
        ∙ part_shown counts (content p).wires (content p).uses (wires_summed (content p) records_fine) (face_number l) 4096 (leb 32768 l)
        ∙ sym (listing_part_lem counts (content p).wires (content p).uses (wires_summed (content p) records_fine) l))

    pub shows : Shows p.uses (columns_in p).turned (columns_in p).starts l
    shows =
        let x = start_is (face_number l) (omega (arith, low)) in
        let y = start_is (suc (face_number l)) (omega (arith, low)) in
        record {
          face = omega (arith, low, s.limits.faces, starts_long);
          rises = rw (x, y) rises;
          along = rw y (omega (arith, ends, uses_counted p s.limits s.full, s.limits.uses, s.full.uses));
          back = rw (y, turned_full) (omega (arith, ends, uses_counted p s.limits s.full, s.limits.uses));
        }

    -- each use that it shows names an edge and begins and ends at points
    pub part_fine : All (Placed (content p)) (flat (shown_wires (outlines (content p)) l))
    part_fine =
        rw (listing_part_lem counts (content p).wires (content p).uses (wires_summed (content p) records_fine) l)
        (part_placed (content p) records_fine uses_small l)

  -- the uses of several listings
  pub parts_are : (ls : List ℕ) → All (λ (l : ℕ). face_number l < length (content p).faces) ls
      → parts_of p.uses (columns_in p).turned (columns_in p).starts ls ≡ flat (map (λ (l : ℕ). flat (shown_wires (outlines (content p)) l)) ls)
  parts_are ls h =
      ap flat (map_same (part_at p.uses (columns_in p).turned (columns_in p).starts) (λ (l : ℕ). flat (shown_wires (outlines (content p)) l)) ls
      (all_weaker (λ (l : ℕ). face_number l < length (content p).faces) (λ (l : ℕ). part_at p.uses (columns_in p).turned (columns_in p).starts l ≡ flat (shown_wires (outlines (content p)) l)) part_is ls h))

  pub shell_named : (n : ℕ) → All (λ (l : ℕ). face_number l < length (content p).faces) (listings_of (content p) n)
  shell_named n = listings_named (content p) records_fine n
