-- The columns that the code makes are those of the definition.
use Prim.Native.Nat.{ℕ, ◌<◌, ◌≤◌, suc}
use mathlib.Core.List.{List, [], map}
use mathlib.Core.Path.{◌≡◌, ◌∙◌, ap, sym}
use native.Mathlib.Omega.{arith}
use lib.Ieee.{Float}
use lib.ListN.{get_or, length, take}
use lib.Seq.{length-take-le}
use Rattle.columns.specs.Columns.{Made, columns_in, lent}
use Rattle.columns.specs.Sound.{Faultless, OfTables}
use Rattle.face.specs.Faces.{wire_count}
use Rattle.listing.specs.Parts.{face_start, turned_uses}
use Rattle.lists.proofs.Laws.{map_take}
use Rattle.lists.specs.Lists.{padded, sum, tabulate}
use Rattle.pattern.proofs.Counts.{Limited, limited}
use Rattle.pattern.proofs.Named.{tables_faces, tables_wires}
use Rattle.pattern.proofs.Passed.{content_passed, pattern_passed}
use Rattle.pattern.specs.Checks.{count_faults, pattern_faults, record_faults}
use Rattle.pattern.specs.Contents.{Pattern, content}
use Rattle.store.proofs.Parts.{part_long}
use Rattle.store.proofs.View.{held_backs, held_fronts, held_full, held_seven, held_wire_counts}
use Rattle.store.specs.Store.{count_table, held, listing_table, shell_table, use_table, wire_table}
use Rattle.store.specs.Columns.{face_table}

module _ (t : List ℕ) (long : length t ≡ 12312) where
  abbrev counted : ℕ → ℕ
  counted b = get_or (count_table t) b 0

  -- a table as long as its count
  abbrev part : ℕ → List ℕ → List ℕ
  part b xs = take (counted b) xs

  module _ (spans : List Float) (ok : pattern_faults (held t spans) ≡ []) where
    abbrev P : Pattern
    P = held t spans

    limits : Limited (count_table t)
    limits = limited (count_table t) (held_seven t spans long) (pattern_passed P ok).counts

    fine : record_faults (content P) ≡ []
    fine = (content_passed (content P) (pattern_passed P ok).content).records

    abbrev wire_numbers : face_table t ≡ map wire_count P.faces
    wire_numbers = held_wire_counts t spans long

  module _ (f : Faultless t) where
    few : Limited (count_table t)
    few = limits f.spans f.ok

    pub counts_fine : count_faults (count_table t) ≡ []
    counts_fine = (pattern_passed (P f.spans f.ok) f.ok).counts

    uses_long : length (part 2 (use_table t)) ≡ counted 2
    uses_long = length-take-le (counted 2) (use_table t) (omega (arith, few.uses, part_long t 2056 4096 (omega arith)))

    wires_long : length (part 3 (wire_table t)) ≡ counted 3
    wires_long = length-take-le (counted 3) (wire_table t) (omega (arith, few.wires, part_long t 6152 1024 (omega arith)))

    faces_long : length (part 4 (face_table t)) ≡ counted 4
    faces_long = length-take-le (counted 4) (face_table t) (omega (arith, few.faces, part_long t 7176 256 (omega arith)))

    shells_long : length (part 5 (shell_table t)) ≡ counted 5
    shells_long = length-take-le (counted 5) (shell_table t) (omega (arith, few.shells, part_long t 7688 16 (omega arith)))

    -- what the parts ask of the lists
    pub turned_ready : (length (part 2 (use_table t)) ≤ 4096) × (length (part 3 (wire_table t)) ≤ 1024) × (sum (part 3 (wire_table t)) ≡ length (part 2 (use_table t)))
    turned_ready = (
      omega (arith, uses_long, few.uses),
      omega (arith, wires_long, few.wires),
      tables_wires (P f.spans f.ok) few (held_full t f.spans long) (fine f.spans f.ok) ∙ sym uses_long,
    )

    pub starts_ready : (length (part 4 (face_table t)) ≤ 256) × (sum (part 4 (face_table t)) ≡ length (part 3 (wire_table t))) × (length (part 3 (wire_table t)) ≤ 1024)
    starts_ready = (
      omega (arith, faces_long, few.faces),
      rw (wire_numbers f.spans f.ok) (tables_faces (P f.spans f.ok) few (held_full t f.spans long) (fine f.spans f.ok) ∙ sym wires_long),
      omega (arith, wires_long, few.wires),
    )

    pub firsts_ready : length (part 4 (face_table t)) ≤ 256
    firsts_ready = omega (arith, faces_long, few.faces)

    pub places_ready : length (part 5 (shell_table t)) ≤ 256
    places_ready = omega (arith, shells_long, few.shells)

    -- what they make
    module _ (turned starts firsts places : List ℕ) (uses : (k : ℕ) → get_or (use_table t) k 0 < 65536) (listings : (k : ℕ) → get_or (listing_table t) k 0 < 65536)
        (a : turned ≡ padded 4096 0 (turned_uses (part 3 (wire_table t)) (part 2 (use_table t))))
        (b : starts ≡ padded 257 0 (tabulate (suc (length (part 4 (face_table t)))) (face_start (part 4 (face_table t)) (part 3 (wire_table t)))))
        (c : firsts ≡ padded 257 0 (tabulate (suc (length (part 4 (face_table t)))) (λ (n : ℕ). sum (take n (part 4 (face_table t))))))
        (d : places ≡ padded 257 0 (tabulate (suc (length (part 5 (shell_table t)))) (λ (n : ℕ). sum (take n (part 5 (shell_table t)))))) where
      derived : OfTables t (λ p. lent t turned starts firsts places ≡ columns_in p)
      derived spans ok =
          let same : part 4 (face_table t) ≡ map wire_count (content (held t spans)).faces =
          ap (take (counted 4)) (wire_numbers spans ok) ∙ sym (map_take wire_count (counted 4) (held t spans).faces) in
          rw (a, b, c, d, faces_long, shells_long, same, held_fronts t spans long, held_backs t spans long)

      pub made : Made t turned starts firsts places
      made = record {
        faultless = ∣ f ∣₁;
        all = λ spans ok. (record { ok = ok; limits = limits spans ok; full = held_full t spans long; uses = uses; listings = listings }, derived spans ok);
      }
