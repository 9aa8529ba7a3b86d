-- A store that holds a pattern without fault, and its lists as they are lent.
use Prim.Native.Nat.{ℕ}
use mathlib.Core.List.{List, []}
use mathlib.Core.Path.{◌∙◌, ◌≡◌, ap, sym}
use lib.Ieee.{Float}
use lib.ListN.{get_or, length, take}
use Rattle.edge.specs.Edges.{back_number, front_number}
use Rattle.face.specs.Faces.{wire_count}
use Rattle.lists.proofs.Laws.{map_take}
use Rattle.pattern.proofs.Passed.{pattern_passed}
use Rattle.pattern.specs.Checks.{count_faults, pattern_faults}
use Rattle.pattern.specs.declared.Lists.{Lists}
use Rattle.shell_wires.proofs.Facts.{Fine, fine}
use Rattle.shell_wires.specs.Lent.{Lent}
use Rattle.store.proofs.View.{held_backs, held_fronts, held_full, held_seven, held_wire_counts}
use Rattle.store.specs.Columns.{back_table, counted, face_table, front_table}
use Rattle.store.specs.Store.{count_table, held, listing_table, shell_table, use_table, wire_table}

module _ (t : List ℕ) (spans : List Float) (long : length t ≡ 12312) (ok : pattern_faults (held t spans) ≡ []) where
  pub held_fine : Fine (held t spans)
  held_fine = fine (held t spans) ok (held_seven t spans long) (held_full t spans long)

  -- the lists as they are handed out
  pub held_lent : {lists : Lists} → (lists.ends.fronts.now ≡ counted 1 front_table t) × (lists.ends.backs.now ≡ counted 1 back_table t) → lists.uses.now ≡ counted 2 use_table t → lists.wires.now ≡ counted 3 wire_table t
      → lists.faces.now ≡ counted 4 face_table t → lists.shells.now ≡ counted 5 shell_table t → lists.listings.now ≡ counted 6 listing_table t → Lent (held t spans) lists
  held_lent ends uses wires faces shells listings =
      let p = held t spans in
      record {
        listed = record {
          ok = ok;
          seven = held_seven t spans long;
          full = held_full t spans long;
          faces_are = faces ∙ ap (take (get_or p.counts 4 0)) (held_wire_counts t spans long) ∙ sym (map_take wire_count (get_or p.counts 4 0) p.faces);
          shells_are = shells;
          listings_are = listings;
        };
        fronts_are = ends.0 ∙ ap (take (get_or p.counts 1 0)) (held_fronts t spans long) ∙ sym (map_take front_number (get_or p.counts 1 0) p.edges);
        backs_are = ends.1 ∙ ap (take (get_or p.counts 1 0)) (held_backs t spans long) ∙ sym (map_take back_number (get_or p.counts 1 0) p.edges);
        uses_are = uses;
        wires_are = wires;
      }

  pub held_counts : count_faults (count_table t) ≡ []
  held_counts = (pattern_passed (held t spans) ok).counts
