-- The arrays that the loops leave are the columns of the pairs.
use Prim.Native.Nat.{◌+◌, ◌-◌, ◌<◌, ◌≤◌, suc, ℕ}
use mathlib.Core.Bool.{Bool, false, true}
use mathlib.Core.List.{List, map}
use mathlib.Core.Path.{◌∙◌, ◌≡◌, ap, refl}
use native.Mathlib.Omega.{arith}
use lib.Dec.{leb}
use lib.ListN.{drop, get_or, length, length-replicate, replicate, take}
use lib.Seq.{length-sets, sets, sets-eq, take-append_seam}
use Rattle.lists.proofs.Parts.{all_place}
use Rattle.lists.proofs.Count.{All, all_each}
use Rattle.lists.proofs.Laws.{drop_replicate}
use Rattle.lists.specs.Lists.{flat, only, padded, pick}
use Rattle.listing.specs.Parts.{between, part_at, parts_of}
use Rattle.shell.specs.Shells.{face_number}
use Rattle.pairs.proofs.Loops.{pairs_all, pairs_few}
use Rattle.pairs.proofs.Once.{no_dup_once}
use Rattle.pairs.proofs.Room.{Of, rows_room, rows_short, rows_shows}
use Rattle.pairs.specs.declared.Pairs.{Pairs}
use Rattle.pairs.specs.Pairs.{Listed, Parted, Rows, Showing, has_wires_at, lens_at, pairs_in, pairs_of}

-- a list stored from the front of an array of 0
pub sets_padded : (n : ℕ) (xs : List ℕ) → length xs ≤ n → sets (replicate n 0) 0 xs ≡ padded n 0 xs
sets_padded n xs h =
    let e : 0 + length xs ≡ length xs = omega arith in
    sets-eq xs (replicate n 0) 0 (omega (arith, length-replicate {A = ℕ} n 0)) ∙ rw (e, drop_replicate {A = ℕ} (length xs) n 0)

rows_parted : {uses turned starts : List ℕ} {faces most : ℕ} → Rows uses turned starts faces most → most < 65536 → (ls : List ℕ) → All (Of faces) ls
    → Parted uses turned starts ls
rows_parted {faces = faces} r h ls a =
    record {
      shows = λ k l. rows_shows r (get_or ls k 0) (all_place (Of faces) 0 ls a k l).0;
      short = λ k l. omega (arith, rows_short r (get_or ls k 0) (all_place (Of faces) 0 ls a k l).0);
    }

-- the wires of a face are the same for both signs
one_column : (b : Bool) (wires : List ℕ) → pick b wires wires ≡ wires
one_column true wires = refl
one_column false wires = refl

wires_shown : (wires firsts : List ℕ) → part_at wires wires firsts ≡ lens_at wires firsts
wires_shown wires firsts i l = between (one_column (leb 32768 l) wires i) (get_or firsts (face_number l) 0) (get_or firsts (suc (face_number l)) 0)

module _ {listings uses turned starts wires firsts : List ℕ} (s : Showing listings uses turned starts wires firsts) where
  abbrev ps : List ℕ
  ps = pairs_in listings firsts

  pub showing_listed : (k : ℕ) → k < length listings → Listed firsts (get_or listings k 0)
  showing_listed k h =
      record { face = omega (arith, s.named k h, s.wired.begun); low = omega (arith, s.named k h, s.low); small = s.small k h }

  pub showing_few : length (pairs_in listings firsts) ≤ 512
  showing_few = omega (arith, pairs_few listings firsts, s.few)

  of_faces : All (Of s.faces) (pairs_in listings firsts)
  of_faces = pairs_all (Of s.faces) listings firsts (all_each (Of s.faces) 0 listings (λ k h. (s.named k h, s.small k h)))

  pub uses_room : length (parts_of uses turned starts ps) ≤ 8192
  uses_room = rows_room s.shown ps (no_dup_once (only (has_wires_at firsts) listings)) of_faces

  wires_room : length (parts_of wires wires firsts ps) ≤ 2048
  wires_room = rows_room s.wired ps (no_dup_once (only (has_wires_at firsts) listings)) of_faces

  pub lens_room : length (flat (map (lens_at wires firsts) ps)) ≤ 2048
  lens_room = rw (← wires_shown wires firsts) wires_room

  -- the pairs as `distinct` leaves them
  module _ {none pairs : List ℕ} {number : ℕ} (z : none ≡ replicate 512 0) (put : pairs ≡ sets none 0 (pairs_in listings firsts)) (n : number ≡ length (pairs_in listings firsts)) where
    is : pairs ≡ sets (replicate 512 0) 0 (pairs_in listings firsts)
    is = put ∙ ap (λ (xs : List ℕ). sets xs 0 (pairs_in listings firsts)) z

    pairs_padded : pairs ≡ padded 512 0 (pairs_in listings firsts)
    pairs_padded = is ∙ sets_padded 512 ps showing_few

    pub first_pairs : take number pairs ≡ pairs_in listings firsts
    first_pairs = rw (n, pairs_padded) (take-append_seam ps (replicate (512 - length ps) 0))

    pub first_end_lem : number ≤ length pairs
    first_end_lem = omega (arith, ap length is, length-sets (replicate 512 0) 0 ps, length-replicate {A = ℕ} 512 0, showing_few)

    pub first_few : length (take number pairs) ≤ 512
    first_few = omega (arith, ap length first_pairs, showing_few)

    pub uses_parted : Parted uses turned starts (take number pairs)
    uses_parted = rw first_pairs (rows_parted s.shown (omega arith) ps of_faces)

    pub wires_parted : Parted wires wires firsts (take number pairs)
    wires_parted = rw first_pairs (rows_parted s.wired (omega arith) ps of_faces)

    pub uses_fit : (out : List ℕ) → out ≡ replicate 8192 0 → length (parts_of uses turned starts (take number pairs)) ≤ length out
    uses_fit out e = rw (first_pairs, e, length-replicate {A = ℕ} 8192 0) uses_room

    pub wires_fit : (out : List ℕ) → out ≡ replicate 2048 0 → length (parts_of wires wires firsts (take number pairs)) ≤ length out
    wires_fit out e = rw (first_pairs, e, length-replicate {A = ℕ} 2048 0) wires_room

    -- the columns
    pub built : {wiresAll usesAll : ℕ} {counts spans lens₀ lens shown₀ shown : List ℕ} → lens₀ ≡ replicate 2048 0 → shown₀ ≡ replicate 8192 0
        → counts ≡ padded 512 0 (map (λ (l : ℕ). length (part_at wires wires firsts l)) (take number pairs))
        → spans ≡ padded 512 0 (map (λ (l : ℕ). length (part_at uses turned starts l)) (take number pairs))
        → lens ≡ sets lens₀ 0 (parts_of wires wires firsts (take number pairs))
        → wiresAll ≡ length (parts_of wires wires firsts (take number pairs))
        → shown ≡ sets shown₀ 0 (parts_of uses turned starts (take number pairs))
        → usesAll ≡ length (parts_of uses turned starts (take number pairs))
        → ◌≡◌ {A = Pairs} (record { number = number; wires = wiresAll; uses = usesAll; pairs = pairs; counts = counts; spans = spans; lens = lens; shown = shown })
        (pairs_of listings uses turned starts wires firsts)
    unfolding pairs_of
    built {wiresAll = wiresAll} {usesAll = usesAll} {counts = counts} {spans = spans} {lens = lens} {shown = shown} a b c p l w u v =
        let lens_here : lens ≡ sets (replicate 2048 0) 0 (parts_of wires wires firsts ps) = rw (first_pairs, a) at l in
        let counts-here : counts ≡ padded 512 0 (map (λ (m : ℕ). length (part_at wires wires firsts m)) ps) = rw first_pairs at c in
        let wires-here : wiresAll ≡ length (parts_of wires wires firsts ps) = rw first_pairs at w in
        let shown-here : shown ≡ sets (replicate 8192 0) 0 (parts_of uses turned starts ps) = rw (first_pairs, b) at u in
        let spans_are : spans ≡ padded 512 0 (map (λ (m : ℕ). length (part_at uses turned starts m)) ps) = rw first_pairs at p in
        let uses_are : usesAll ≡ length (parts_of uses turned starts ps) = rw first_pairs at v in
        let same = wires_shown wires firsts in
        let lens_are : lens ≡ padded 2048 0 (flat (map (lens_at wires firsts) ps)) =
        lens_here ∙ (sets_padded 2048 (parts_of wires wires firsts ps) wires_room ∙ ap (λ (g : ℕ → List ℕ). padded 2048 0 (flat (map g ps))) same) in
        let counts_are : counts ≡ padded 512 0 (map (λ (m : ℕ). length (lens_at wires firsts m)) ps) =
        counts-here ∙ ap (λ (g : ℕ → List ℕ). padded 512 0 (map (λ (m : ℕ). length (g m)) ps)) same in
        let wires_are : wiresAll ≡ length (flat (map (lens_at wires firsts) ps)) = wires-here ∙ ap (λ (g : ℕ → List ℕ). length (flat (map g ps))) same in
        let shown-are : shown ≡ padded 8192 0 (parts_of uses turned starts ps) = shown-here ∙ sets_padded 8192 (parts_of uses turned starts ps) uses_room in
        λ i. record {
          number = n i;
          wires = wires_are i;
          uses = uses_are i;
          pairs = pairs_padded i;
          counts = counts_are i;
          spans = spans_are i;
          lens = lens_are i;
          shown = shown-are i;
        }
