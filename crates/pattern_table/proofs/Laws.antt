-- What the proofs of the contents table cite, and what a right table says of the bodies.
use Rattle.std.specs.Prelude.{Err, Ok}
use Prim.Native.Nat.{◌*◌, ◌+◌, ◌<◌, ◌≤◌, suc, ℕ}
use mathlib.Core.Bool.{◌&&◌}
use mathlib.Core.List.{List, [], ◌++◌}
use mathlib.Core.Path.{◌∙◌, ◌≡◌, ap, refl, sym}
use native.Mathlib.Omega.{arith}
use lib.Dec.{eqb, leb}
use lib.ListN.{get_or, length}
use borrow.Author.Tests.{eq-eqb, eqb-true, le-leb, leb-true, lt-leb, ne_eqb}
use Rattle.errors.proofs.Laws.{Passed, accepted_none, none_left, none_right, passed_all, passed_next, passed_stop, refused_first, unless_passes}
use Rattle.errors.specs.Faults.{each, first}
use Rattle.errors.specs.declared.Refusal.TheVariants.{Layout}
use Rattle.errors.specs.declared.Refusal.{Refusal}
use Rattle.lists.proofs.Flat.{get_d_tabulate}
use Rattle.lists.proofs.Laws.{left_true, length_tabulate}
use Rattle.lists.specs.Lists.{tabulate, unless}
use Rattle.pattern.proofs.Counts.{Limited, count_kept, limited}
use Rattle.pattern.specs.Checks.{count_faults}
use Rattle.pattern.specs.Contents.{Pattern, counts_of, layout, stored}
use Rattle.pattern_file.proofs.Places.{offset_fault, start_le, start_next}
use Rattle.pattern_file.specs.File.{count_at, file_content, file_counts, length_faults, offset_at, offset_faults, records, start_of, table_faults}

pub counts_of_content : (s : List ℕ) → file_counts s ≡ counts_of (file_content s)
unfolding tabulate
counts_of_content s = sym (simp length_tabulate)

-- ---- the contents table

module _ (s : List ℕ) where
  module _ (b : ℕ) (passed : Passed (offset_fault (file_counts s)) 0 (tabulate 7 (offset_at s)) 0 b) (h : b < 7) where
    entry : b < length (tabulate 7 (offset_at s))
    entry = rw (length_tabulate 7 (offset_at s)) h

    pub wrong_offset : (offset_at s b ≡ start_of (file_counts s) b → ⊥) → (Err (Layout b)) ≡ first (offset_faults s)
    wrong_offset ne =
        sym
        (refused_first (each (offset_fault (file_counts s)) 0 (tabulate 7 (offset_at s))) _ (Layout b)
        (passed_stop (offset_fault (file_counts s)) 0 (tabulate 7 (offset_at s)) 0 b b (offset_at s b) passed entry (get_d_tabulate 7 (offset_at s) b 0 h) (omega arith) (Layout b)
        (rw (ne_eqb (offset_at s b) (start_of (file_counts s) b) ne))))

    pub right_offset : offset_at s b ≡ start_of (file_counts s) b → Passed (offset_fault (file_counts s)) 0 (tabulate 7 (offset_at s)) 0 (b + 1)
    right_offset e =
        passed_next (offset_fault (file_counts s)) 0 (tabulate 7 (offset_at s)) 0 b b (offset_at s b) passed entry (get_d_tabulate 7 (offset_at s) b 0 h) (omega arith)
        (rw (eq-eqb (offset_at s b) (start_of (file_counts s) b) e))

  module _ (b : ℕ) (passed : Passed (offset_fault (file_counts s)) 0 (tabulate 7 (offset_at s)) 0 b) (h : 7 ≤ b) where
    offsets_right : each (offset_fault (file_counts s)) 0 (tabulate 7 (offset_at s)) ≡ []
    offsets_right = passed_all (offset_fault (file_counts s)) 0 (tabulate 7 (offset_at s)) 0 b passed (omega (arith, length_tabulate 7 (offset_at s)))

    pub wrong_end : (length s ≡ start_of (file_counts s) 7 → ⊥) → (Err (Layout 6)) ≡ first (offset_faults s)
    wrong_end ne = rw (offsets_right, ne_eqb (length s) (start_of (file_counts s) 7) ne)

    pub right_end : length s ≡ start_of (file_counts s) 7 → Ok tt ≡ first (offset_faults s)
    right_end e = rw (offsets_right, eq-eqb (length s) (start_of (file_counts s) 7) e)

  lengths_right : layout.first ≤ length s → length s ≤ start_of layout.limits 7 → length_faults s ≡ []
  lengths_right a b = rw (le-leb layout.first (length s) a, le-leb (length s) (start_of layout.limits 7) b)

  pub too_short : length s < layout.first → (Err (Layout 0)) ≡ first (table_faults s)
  too_short h = rw (lt-leb layout.first (length s) h)

  module _ (a : layout.first ≤ length s) where
    pub too_long : start_of layout.limits 7 < length s → (Err (Layout 0)) ≡ first (table_faults s)
    too_long h = rw (le-leb layout.first (length s) a, lt-leb (length s) (start_of layout.limits 7) h)

    module _ (b : length s ≤ start_of layout.limits 7) where
      pub counts_wrong : (f : Refusal) → first (count_faults (file_counts s)) ≡ Err f → Err f ≡ first (table_faults s)
      counts_wrong f e =
          sym
          (rw (lengths_right a b)
          (refused_first (count_faults (file_counts s)) (offset_faults s) f e))

      pub counts_right : first (count_faults (file_counts s)) ≡ Ok tt → first (offset_faults s) ≡ first (table_faults s)
      counts_right e = rw (lengths_right a b, accepted_none (count_faults (file_counts s)) e)

  -- ---- the bodies of a file whose table is right

  module _ (ok : table_faults s ≡ []) where
    pub table_long : 56 ≤ length s
    table_long =
        leb-true 56 (length s)
        (left_true (leb 56 (length s)) (leb (length s) (start_of layout.limits 7))
        (unless_passes (leb 56 (length s) && leb (length s) (start_of layout.limits 7)) (Layout 0)
        (none_left (length_faults s) (count_faults (file_counts s)) (none_left (length_faults s ++ count_faults (file_counts s)) (offset_faults s) ok))))

    pub table_counts : count_faults (file_counts s) ≡ []
    table_counts = none_right (length_faults s) (count_faults (file_counts s)) (none_left (length_faults s ++ count_faults (file_counts s)) (offset_faults s) ok)

    table_end : length s ≡ start_of (file_counts s) 7
    table_end =
        eqb-true (length s) (start_of (file_counts s) 7)
        (unless_passes (eqb (length s) (start_of (file_counts s) 7)) (Layout 6)
        (none_right (each (offset_fault (file_counts s)) 0 (tabulate 7 (offset_at s))) (unless (eqb (length s) (start_of (file_counts s) 7)) (Layout 6))
        (none_right (length_faults s ++ count_faults (file_counts s)) (offset_faults s) ok)))

    module _ (counts starts : List ℕ) (e : counts ≡ file_counts s) (f : starts ≡ tabulate 8 (start_of counts)) where
      start_is : (b : ℕ) → b < 8 → get_or starts b 0 ≡ start_of counts b
      start_is b h = ap (λ (l : List ℕ). get_or l b 0) f ∙ get_d_tabulate 8 (start_of counts) b 0 h

      -- a body ends within the file, and has no more records than its limit
      pub body_inside : (b : ℕ) → b < 7
          → (get_or starts b 0 + get_or layout.sizes b 0 * get_or counts b 0 ≤ length s) × (get_or counts b 0 ≤ get_or layout.limits b 0)
      body_inside b h = (
        omega (arith, start_is b (omega arith), start_next counts b, start_le counts (suc b) 7 h, rw (← e) at table_end),
        count_kept counts b (rw (← e) at table_counts) (omega (arith, ap length e, length_tabulate 7 (count_at s))),
      )

      pub records_are {ℓ} : {A : Type ℓ} (read : List ℕ → ℕ → A) (b : ℕ) → b < 7
          → tabulate (get_or counts b 0) (λ (k : ℕ). read s (get_or starts b 0 + get_or layout.sizes b 0 * k)) ≡ records read s b
      records_are {A = A} read b h =
          let place : ℕ → ℕ → A = λ at k. read s (at + get_or layout.sizes b 0 * k) in
          ap (λ (n : ℕ). tabulate n (place (get_or starts b 0))) (ap (λ (l : List ℕ). get_or l b 0) e ∙ get_d_tabulate 7 (count_at s) b 0 h)
          ∙ ap (λ (at : ℕ). tabulate (count_at s b) (place at)) (start_is b (omega arith) ∙ ap (λ (l : List ℕ). start_of l b) e)

    abbrev P : Pattern
    P = stored (file_content s)

    counts_right_here : count_faults P.counts ≡ []
    counts_right_here = ap count_faults (sym (counts_of_content s)) ∙ table_counts

    pub limits : Limited P.counts
    limits = limited P.counts refl counts_right_here
