-- The lines of the shells: the listings of each shell lie one after the other in a column.
use Prim.Native.Nat.{◌*◌, ◌+◌, ◌-◌, ◌<◌, ◌≤◌, ℕ}
use mathlib.Core.List.{List}
use mathlib.Core.Path.{◌∙◌, ◌≡◌, ap, refl, sym}
use native.Mathlib.Omega.{arith}
use lib.ListN.{drop, get_or, length, length-drop, take}
use lib.Seq.{length-take-le}
use Rattle.lists.proofs.Sets.{Put}
use Rattle.lists.proofs.Split.{Walk, walk_fits, walk_next, walk_part, walk_start}
use Rattle.lists.specs.Lists.{flat, tabulate}
use Rattle.show_lines.specs.PatternLines.{shell_line}
use Rattle.show_text.proofs.Laws.{Listing, listing_all, listing_next, listing_start}
use Rattle.show_text.specs.StoreText.{Shelled, shell_held}
use Rattle.store.proofs.Parts.{part_long}
use Rattle.store.specs.Store.{listing_table, shell_table}

-- the lines of k of n shells are written; the next has its listings from `first` on
pub record Shelling (t : List ℕ) (n : ℕ) (l : List ℕ) (at : ℕ) (out : List ℕ) (end first k : ℕ) : Type 0 where
  pub listing : Listing (shell_held t n) l at out end k
  pub short : end ≤ at + 40 * k + 7 * first
  pub walk : Walk (take n (shell_table t)) k first

pub shelling_start : (t : List ℕ) (n : ℕ) (l : List ℕ) (at : ℕ) → Shelling t n l at l at 0 0
shelling_start t n l at = record { listing = listing_start (shell_held t n) l at; short = omega arith; walk = walk_start (take n (shell_table t)) }

-- the first n numbers of listings, as the code takes them
pub shells_long : {t shells : List ℕ} {n : ℕ} → length t ≡ 12312 → Shelled t n → shells ≡ shell_table t → length (take n shells) ≡ n
shells_long {t} {shells} {n} long fit ss =
    length-take-le n shells (omega (arith, fit.few, ap length ss, part_long t 7688 16 (omega arith)))

module _ {t : List ℕ} {n : ℕ} (long : length t ≡ 12312) (fit : Shelled t n) {l : List ℕ} {at : ℕ} {out : List ℕ} {end first k : ℕ} (v : Shelling t n l at out end first k) where
  abbrev counts : List ℕ
  counts = take n (shell_table t)

  counts_long : length counts ≡ n
  counts_long = shells_long long fit refl

  module _ {shells listings : List ℕ} (ss : shells ≡ shell_table t) (ls : listings ≡ listing_table t) (h : k < n) where
    module _ {m : ℕ} (read : m ≡ get_or (take n shells) k 0) where
      -- the listings of the shell, as the code takes them
      abbrev listed : List ℕ
      listed = take (first + m - first) (drop first listings)

      is : m ≡ get_or counts k 0
      is = read ∙ ap (λ (r : List ℕ). get_or (take n r) k 0) ss

      there : k < length counts
      there = omega (arith, counts_long)

      -- they lie within the column
      pub shell_fits : (first + m ≤ length listings) × (length listed ≡ m) × (first + m ≤ 512)
      shell_fits =
          let most : first + m ≤ 512 = omega (arith, walk_fits counts k first m v.walk there is, fit.listings) in
          let all : length listings ≡ 512 = ap length ls ∙ part_long t 7704 512 (omega arith) in
          (omega arith, length-take-le (first + m - first) (drop first listings) (omega (arith, length-drop first listings)) ∙ omega arith, most)

      pub shell_room : at + 4224 ≤ length l → end + 40 + 7 * length listed ≤ length out
      shell_room room = omega (arith, v.short, v.listing.long, fit.few, shell_fits)

      pub shell_next : (out' : List ℕ) (end' : ℕ) → Put out end (shell_line k listed) out' end' → end' ≤ end + 40 + 7 * length listed → Shelling t n l at out' end' (first + m) (k + 1)
      shell_next out' end' p q =
          let line : shell_line k listed ≡ shell_held t n k =
          rw ls (ap (shell_line k) (sym (walk_part counts k first m v.walk there is (listing_table t)))) in
          record {
            listing = listing_next (shell_held t n) v.listing line out' end' p;
            short = omega (arith, v.short, q, shell_fits.1);
            walk = walk_next counts k first m v.walk there is;
          }

  -- all of them
  pub shelling_all : n ≤ k → Put l at (flat (tabulate n (shell_held t n))) out end
  shelling_all h = listing_all (shell_held t n) v.listing n (omega (arith, v.walk.low, counts_long))
