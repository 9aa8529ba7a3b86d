-- The loops that write the pairs, how many each shows, and what they show.
use Prim.Native.Nat.{◌+◌, ◌<◌, ◌≤◌, suc, zero, ℕ}
use mathlib.Core.Bool.{Bool, ◌&&◌, false, not, true}
use mathlib.Core.List.{List, [], ◌++◌, ◌∷◌, append-nil, map, map-append}
use mathlib.Core.Path.{◌∙◌, ◌≡◌, ap, refl}
use native.Mathlib.Numerals.{add-one}
use native.Mathlib.Omega.{arith}
use lib.Dec.{eqb}
use lib.ListN.{drop, get_or, length, length-append, length-map, length-replicate, length-set, replicate, set, take, take-append-drop}
use lib.Seq.{get_or-take, length-sets, length-take-le, sets, take_all, take-suc}
use Rattle.lists.proofs.Parts.{length_only, only_append}
use Rattle.lists.proofs.Count.{All, all_each, all_only}
use Rattle.lists.proofs.Laws.{Filling, filling_next, filling_padded, filling_start, flat_append, tabulate_map}
use Rattle.lists.proofs.Marks.{AllBelow, Holds, below_zeros, holds_fresh, holds_stamped}
use Rattle.lists.proofs.Sets.{flat_next, sets_then}
use Rattle.lists.specs.Lists.{flat, has, once, only, padded, pick, unless}
use Rattle.lists.specs.Marks.{stamped}
use Rattle.listing.specs.Parts.{part_at, parts_of}
use Rattle.pairs.proofs.Once.{all_once, has_once, length_once, once_snoc}
use Rattle.pairs.proofs.Room.{Small, has_marks}
use Rattle.pairs.specs.Pairs.{Listed, has_wires_at, is_new, mark_of, new_pair, pairs_in}

pub pairs_few : (listings firsts : List ℕ) → length (pairs_in listings firsts) ≤ length listings
pairs_few listings firsts = omega (arith, length_once (only (has_wires_at firsts) listings), length_only (has_wires_at firsts) listings)

pub pairs_all : (P : ℕ → Type 0) (listings firsts : List ℕ) → All P listings → All P (pairs_in listings firsts)
pairs_all P listings firsts h = all_once P (only (has_wires_at firsts) listings) (all_only P (has_wires_at firsts) listings h)

unless_is : (b : Bool) (y : ℕ) → unless b y ≡ pick (not b) (y ∷ []) []
unless_is true y = refl
unless_is false y = refl

-- one listing more
pairs_snoc : (q : ℕ → Bool) (xs : List ℕ) (y : ℕ)
    → once (only q (xs ++ (y ∷ []))) ≡ once (only q xs) ++ pick (q y && not (has y (only q xs))) (y ∷ []) []
unfolding only
pairs_snoc q xs y = rw (only_append q xs (y ∷ []), append-nil (pick (q y) (y ∷ []) [])) (by_test (q y))
  where
    by_test : (b : Bool) → once (only q xs ++ pick b (y ∷ []) []) ≡ once (only q xs) ++ pick (b && not (has y (only q xs))) (y ∷ []) []
    by_test true = rw (once_snoc (only q xs) y, unless_is (has y (only q xs)) y)
    by_test false = rw (append-nil (only q xs), append-nil (once (only q xs)))

pub mark_low : {firsts : List ℕ} {l : ℕ} → Listed firsts l → mark_of l < 512
mark_low g = omega (arith, g.low, g.small)

below : (b : Bool) (l : ℕ) → mark_of l < 512 → AllBelow 512 (map mark_of (pick b (l ∷ []) []))
below true l h zero e = h
below true l h (suc j) e = absurd (omega arith)
below false l h j e = absurd (omega arith)

-- what a listing leaves: nothing is written, or the listing is, and its mark
module _ (marks firsts out : List ℕ) (at l : ℕ) where
  pub add_none : is_new marks firsts l ≡ false
      → (marks ≡ stamped 1 (map mark_of (new_pair marks firsts l)) marks) × ((out ≡ sets out at (new_pair marks firsts l)) × (at ≡ at + length (new_pair marks firsts l)))
  unfolding stamped
  add_none e = rw e (refl, (refl, omega arith))

  pub add_one_pair : is_new marks firsts l ≡ true → (m : ℕ) → m ≡ mark_of l
      → (set marks m 1 ≡ stamped 1 (map mark_of (new_pair marks firsts l)) marks) × ((set out at l ≡ sets out at (new_pair marks firsts l)) × (at + 1 ≡ at + length (new_pair marks firsts l)))
  unfolding stamped
  add_one_pair e m f = rw (e, f) (refl, (refl, refl))

-- the pairs of the first k listings are written and marked
pub record Pairing (listings firsts out₀ marks out : List ℕ) (at k : ℕ) : Type 0 where
  pub listed : (j : ℕ) → j < length listings → Listed firsts (get_or listings j 0)
  pub fits : length listings ≤ length out₀
  pub low : k ≤ length listings
  pub marked : Holds 512 1 marks (map mark_of (pairs_in (take k listings) firsts))
  pub here : at ≡ length (pairs_in (take k listings) firsts)
  pub is : out ≡ sets out₀ 0 (pairs_in (take k listings) firsts)

pub pairing_start : (listings firsts out : List ℕ) → ((j : ℕ) → j < length listings → Listed firsts (get_or listings j 0)) → length listings ≤ length out
    → Pairing listings firsts out (replicate 512 0) out 0 0
unfolding once only
pairing_start listings firsts out g h = record {
  listed = g;
  fits = h;
  low = omega arith;
  marked = holds_fresh 512 1 (replicate 512 0) (length-replicate {A = ℕ} 512 0) (below_zeros 512);
  here = refl;
  is = refl;
}

module _ {listings firsts out₀ marks out : List ℕ} {at k : ℕ} (s : Pairing listings firsts out₀ marks out at k) where
  pub pairing_long : length out ≡ length out₀
  pairing_long = ap length s.is ∙ length-sets out₀ 0 (pairs_in (take k listings) firsts)

  pub pairing_all : length listings ≤ k → (out ≡ sets out₀ 0 (pairs_in listings firsts)) × (at ≡ length (pairs_in listings firsts))
  pairing_all h = let e = take_all k listings h in (rw e at s.is, rw e at s.here)

  module _ (h : k < length listings) where
    pub pairing_room : at < length out
    pairing_room = omega (arith, s.here, pairing_long, pairs_few (take k listings) firsts, length-take-le k listings s.low, s.fits)

    small : All Small (pairs_in (take k listings) firsts)
    small =
        pairs_all Small (take k listings) firsts
        (all_each Small 0 (take k listings)
        (λ j l. let m : j < k = omega (arith, l, length-take-le k listings s.low) in rw (get_or-take k listings j 0 m) (s.listed j (omega (arith, m, h))).small))

    -- the mark says whether the listing is among the pairs
    known : eqb (get_or marks (mark_of (get_or listings k 0)) 0) 1 ≡ has (get_or listings k 0) (only (has_wires_at firsts) (take k listings))
    known =
        let l = get_or listings k 0 in
        let g = s.listed k h in
        s.marked.same (mark_of l) (mark_low g)
        ∙ has_marks l (pairs_in (take k listings) firsts) g.small small
        ∙ has_once l (only (has_wires_at firsts) (take k listings))

    grown : pairs_in (take (suc k) listings) firsts ≡ pairs_in (take k listings) firsts ++ new_pair marks firsts (get_or listings k 0)
    grown = rw (take-suc listings k 0 h, known) (pairs_snoc (has_wires_at firsts) (take k listings) (get_or listings k 0))

    pub pairing_next : (marks' out' : List ℕ) (at' : ℕ)
        → marks' ≡ stamped 1 (map mark_of (new_pair marks firsts (get_or listings k 0))) marks
        → out' ≡ sets out at (new_pair marks firsts (get_or listings k 0))
        → at' ≡ at + length (new_pair marks firsts (get_or listings k 0))
        → Pairing listings firsts out₀ marks' out' at' (k + 1)
    pairing_next marks' out' at' m o a =
        let ps = pairs_in (take k listings) firsts in
        let more = new_pair marks firsts (get_or listings k 0) in
        record {
          listed = s.listed;
          fits = s.fits;
          low = omega arith;
          marked = rw (add-one, grown, m, map-append mark_of ps more)
              (holds_stamped 512 1 (map mark_of more) marks (map mark_of ps) s.marked (below (is_new marks firsts (get_or listings k 0)) (get_or listings k 0) (mark_low (s.listed k h))));
          here = rw (add-one, grown) (omega (arith, a, s.here, length-append ps more));
          is = rw (add-one, grown) (sets_then out₀ 0 ps more at (omega (arith, s.here)) s.is o);
        }

module _ (uses turned starts ps : List ℕ) where
  -- how many listing k shows
  abbrev pub span_at : ℕ → ℕ
  span_at k = length (part_at uses turned starts (get_or ps k 0))

  -- how many the first k listings show is written
  pub record Spanning (out : List ℕ) (k : ℕ) : Type 0 where
    pub few : length ps ≤ 512
    pub low : k ≤ length ps
    pub long : length out ≡ 512
    pub filling : Filling span_at (replicate 512 0) out k

  pub spanning_start : (out : List ℕ) → length ps ≤ 512 → out ≡ replicate 512 0 → Spanning out 0
  spanning_start out h e = rw e (record { few = h; low = omega arith; long = length-replicate {A = ℕ} 512 0; filling = filling_start span_at (replicate 512 0) })

  module _ {out : List ℕ} {k : ℕ} (s : Spanning out k) where
    pub spanning_next : k < length ps → (part : List ℕ) (v : ℕ) → part ≡ part_at uses turned starts (get_or ps k 0) → v ≡ length part → Spanning (set out k v) (k + 1)
    spanning_next h part v e f = record {
      few = s.few;
      low = omega arith;
      long = length-set out k v ∙ s.long;
      filling = filling_next span_at 0 (replicate 512 0) out k v s.filling (omega (arith, s.few, length-replicate {A = ℕ} 512 0)) (f ∙ ap length e);
    }

    pub spanning_all : length ps ≤ k → out ≡ padded 512 0 (map (λ (l : ℕ). length (part_at uses turned starts l)) ps)
    spanning_all h =
        let e : k ≡ length ps = omega (arith, s.low) in
        let shows : ℕ → ℕ = λ l. length (part_at uses turned starts l) in
        filling_padded span_at 0 512 out k s.filling ∙ rw (e, tabulate_map shows 0 (length ps) ps (omega arith), take_all (length ps) (map shows ps) (omega (arith, length-map ps shows)))

  -- what the first k listings show is written
  pub record Laying (out₀ out : List ℕ) (at k : ℕ) : Type 0 where
    pub fits : length (parts_of uses turned starts ps) ≤ length out₀
    pub low : k ≤ length ps
    pub here : at ≡ length (parts_of uses turned starts (take k ps))
    pub is : out ≡ sets out₀ 0 (parts_of uses turned starts (take k ps))

  pub laying_start : (out : List ℕ) → length (parts_of uses turned starts ps) ≤ length out → Laying out out 0 0
  unfolding flat
  laying_start out h = record { fits = h; low = omega arith; here = refl; is = refl }

  parts_cut : (j : ℕ) → length (parts_of uses turned starts (take j ps)) ≤ length (parts_of uses turned starts ps)
  parts_cut j =
      let f = part_at uses turned starts in
      omega (
        arith,
        ap (λ (r : List ℕ). length (parts_of uses turned starts r)) (take-append-drop j ps),
        ap (λ (r : List (List ℕ)). length (flat r)) (map-append f (take j ps) (drop j ps)),
        ap length (flat_append (map f (take j ps)) (map f (drop j ps))),
        length-append (flat (map f (take j ps))) (flat (map f (drop j ps))),
      )

  module _ {out₀ out : List ℕ} {at k : ℕ} (s : Laying out₀ out at k) where
    pub laying_long : length out ≡ length out₀
    laying_long = ap length s.is ∙ length-sets out₀ 0 (parts_of uses turned starts (take k ps))

    pub laying_all : length ps ≤ k → (out ≡ sets out₀ 0 (parts_of uses turned starts ps)) × (at ≡ length (parts_of uses turned starts ps))
    laying_all h = let e = take_all k ps h in (rw e at s.is, rw e at s.here)

    module _ (h : k < length ps) where
      more : parts_of uses turned starts (take (suc k) ps) ≡ parts_of uses turned starts (take k ps) ++ part_at uses turned starts (get_or ps k 0)
      more = flat_next (part_at uses turned starts) ps k 0 h

      longer : length (parts_of uses turned starts (take (suc k) ps)) ≡ at + length (part_at uses turned starts (get_or ps k 0))
      longer =
          ap length more
          ∙ omega (arith, s.here, length-append (parts_of uses turned starts (take k ps)) (part_at uses turned starts (get_or ps k 0)))

      pub laying_room : (part : List ℕ) → part ≡ part_at uses turned starts (get_or ps k 0) → at + length part ≤ length out
      laying_room part e = omega (arith, ap length e, longer, parts_cut (suc k), s.fits, laying_long)

      pub laying_next : (part out' : List ℕ) (at' : ℕ) → part ≡ part_at uses turned starts (get_or ps k 0) → out' ≡ sets out at part → at' ≡ at + length part
          → Laying out₀ out' at' (k + 1)
      laying_next part out' at' e o a = record {
        fits = s.fits;
        low = omega arith;
        here = rw add-one (omega (arith, a, ap length e, longer));
        is = rw (add-one, more) (sets_then out₀ 0 (parts_of uses turned starts (take k ps)) (part_at uses turned starts (get_or ps k 0)) at (omega (arith, s.here)) s.is (rw e at o));
      }
