-- The lines of the faces: the wires of each face lie one after the other in a column, and so do their uses.
use Prim.Native.Nat.{◌*◌, ◌+◌, ◌-◌, ◌<◌, ◌≤◌, ℕ}
use mathlib.Core.List.{List, []}
use mathlib.Core.Path.{◌∙◌, ◌≡◌, ap, refl, sym}
use native.Mathlib.Omega.{arith}
use lib.ListN.{drop, get_or, length, length-drop, take}
use lib.Seq.{get_or-take, length-take-le, take-add, take_all, take-take}
use Rattle.lists.proofs.Laws.{sum_append, sum_take_drop}
use Rattle.lists.proofs.Sets.{Put}
use Rattle.lists.proofs.Split.{Walk, get_d_split, split_run, walk_fits, walk_next, walk_start}
use Rattle.lists.specs.Lists.{flat, split, sum, tabulate}
use Rattle.show_lines.specs.PatternLines.{face_line}
use Rattle.show_text.proofs.Laws.{Listing, listing_all, listing_next, listing_start}
use Rattle.show_text.specs.StoreText.{Faced, face_held}
use Rattle.store.proofs.Parts.{part_at, part_long}
use Rattle.store.specs.Store.{face_in, use_table, wire_table}
use Rattle.store.specs.Columns.{face_table}

sum_take_le : (i j : ℕ) (ns : List ℕ) → i ≤ j → sum (take i ns) ≤ sum (take j ns)
sum_take_le i j ns h = omega (arith, rw (take-take i j ns h) at (sum_take_drop i (take j ns)))

-- face k has n wires; its first is wire number `wire`, whose uses begin at `first`; the wires have m uses
face_part_lem : (counts wires uses : List ℕ) (k wire first n m : ℕ) → wire ≡ sum (take k counts) → first ≡ sum (take wire wires) → n ≡ get_or counts k 0 → m ≡ sum (take n (drop wire wires))
    → (first + m ≡ sum (take (wire + n) wires)) × (get_or (split counts (split wires uses)) k [] ≡ split (take n (drop wire wires)) (take m (drop first uses)))
face_part_lem counts wires uses k wire first n m w here is total = (
  rw (here, total, take-add wire n wires) (sym (sum_append (take wire wires) (take n (drop wire wires)))),
  get_d_split counts (split wires uses) k ∙ rw (← is, ← w, here, total) (split_run wires uses wire n),
)

-- a part of a column, as the code takes it
part_taken : (xs : List ℕ) (at n : ℕ) → at + n ≤ length xs → (take (at + n - at) (drop at xs) ≡ take n (drop at xs)) × (length (take (at + n - at) (drop at xs)) ≡ n)
part_taken xs at n h =
    let e : at + n - at ≡ n = omega arith in
    rw e (refl, length-take-le n (drop at xs) (omega (arith, length-drop at xs)))

-- the lines of k of n faces are written; the next has its wires from `wire` on, and its uses from `first` on
pub record Facing (t : List ℕ) (n : ℕ) (l : List ℕ) (at : ℕ) (out : List ℕ) (end wire first k : ℕ) : Type 0 where
  pub listing : Listing (face_held t n) l at out end k
  pub short : end ≤ at + 40 * k + 5 * wire + 7 * first
  pub walk : Walk (take n (face_table t)) k wire
  pub here : first ≡ sum (take wire (wire_table t))

pub facing_start : (t : List ℕ) (n : ℕ) (l : List ℕ) (at : ℕ) → Facing t n l at l at 0 0 0
unfolding sum
facing_start t n l at = record { listing = listing_start (face_held t n) l at; short = omega arith; walk = walk_start (take n (face_table t)); here = refl }

module _ {t : List ℕ} {n : ℕ} (long : length t ≡ 12312) (fit : Faced t n) {l : List ℕ} {at : ℕ} {out : List ℕ} {end wire first k : ℕ} (v : Facing t n l at out end wire first k) where
  abbrev counts : List ℕ
  counts = take n (face_table t)

  counts_long : length counts ≡ n
  counts_long = length-take-le n (face_table t) (omega (arith, fit.few, part_long t 7176 256 (omega arith)))

  module _ {uses wires : List ℕ} (us : uses ≡ use_table t) (ws : wires ≡ wire_table t) (h : k < n) {w : ℕ} (read : w ≡ (face_in t k).wires) where
    is : w ≡ get_or counts k 0
    is = read ∙ sym (get_or-take n (face_table t) k 0 h ∙ part_at t 7176 256 k (omega (arith, fit.few)))

    there : k < length counts
    there = omega (arith, counts_long)

    -- the wires of the face, as the code takes them
    abbrev lens : List ℕ
    lens = take (wire + w - wire) (drop wire wires)

    within : wire + w ≤ sum counts
    within = walk_fits counts k wire w v.walk there is

    -- they lie within the column
    pub face_wires_lem : (wire + w ≤ length wires) × (length lens ≡ w) × (wire + w ≤ 1024)
    face_wires_lem =
        let most : wire + w ≤ 1024 = omega (arith, within, fit.wires) in
        let all : length wires ≡ 1024 = ap length ws ∙ part_long t 6152 1024 (omega arith) in
        (omega arith, (part_taken wires wire w (omega arith)).1, most)

    -- they have m uses
    module _ {m : ℕ} (total : m ≡ sum lens) where
      abbrev used : List ℕ
      used = take (first + m - first) (drop first uses)

      lens_sum : m ≡ sum lens
      lens_sum = total

      lens_are : lens ≡ take w (drop wire (wire_table t))
      lens_are = (part_taken wires wire w face_wires_lem.0).0 ∙ ap (λ (r : List ℕ). take w (drop wire r)) ws

      part : (first + m ≡ sum (take (wire + w) (wire_table t))) × (get_or (split counts (split (wire_table t) (use_table t))) k [] ≡ split (take w (drop wire (wire_table t))) (take m (drop first (use_table t))))
      part = face_part_lem counts (wire_table t) (use_table t) k wire first w m v.walk.here v.here is (lens_sum ∙ ap sum lens_are)

      -- the uses lie within the column
      pub face_uses : (first + m ≤ length uses) × (length used ≡ m) × (first + m ≤ 4096)
      face_uses =
          let most : first + m ≤ 4096 = omega (arith, part.0, sum_take_le (wire + w) (sum counts) (wire_table t) within, fit.uses) in
          let all : length uses ≡ 4096 = ap length us ∙ part_long t 2056 4096 (omega arith) in
          (omega arith, (part_taken uses first m (omega arith)).1, most)

      -- the line can be written
      pub face_ready : at + 44032 ≤ length l → (sum lens ≡ length used) × (end + 40 + 5 * length lens + 7 * length used ≤ length out)
      face_ready room = (sym lens_sum ∙ sym face_uses.1, omega (arith, v.short, v.listing.long, fit.few, face_wires_lem, face_uses))

      pub face_next : {surface : ℕ} → surface ≡ (face_in t k).surface → (out' : List ℕ) (end' : ℕ)
          → Put out end (face_line k surface (split lens used)) out' end' → end' ≤ end + 40 + 5 * length lens + 7 * length used
          → Facing t n l at out' end' (wire + w) (first + m) (k + 1)
      face_next {surface} e out' end' p q =
          let used-are : used ≡ take m (drop first (use_table t)) = (part_taken uses first m face_uses.0).0 ∙ ap (λ (r : List ℕ). take m (drop first r)) us in
          let line : face_line k surface (split lens used) ≡ face_held t n k = rw (part.1, lens_are, used-are, e) in
          record {
            listing = listing_next (face_held t n) v.listing line out' end' p;
            short = omega (arith, v.short, q, face_wires_lem.1, face_uses.1);
            walk = walk_next counts k wire w v.walk there is;
            here = part.0;
          }

  -- all of them
  pub facing_all : n ≤ k → Put l at (flat (tabulate n (face_held t n))) out end × (end ≤ at + 44032)
  facing_all h =
      let wires_few : wire ≤ sum counts = omega (arith, v.walk.here, sum_take_drop k counts) in (
        listing_all (face_held t n) v.listing n (omega (arith, v.walk.low, counts_long)),
        omega (arith, v.short, v.walk.low, v.here, counts_long, wires_few, sum_take_le wire (sum counts) (wire_table t) wires_few, fit.few, fit.wires, fit.uses),
      )
