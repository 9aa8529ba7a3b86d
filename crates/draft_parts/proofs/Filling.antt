-- The wires of a face, stored value after value; a shell and its listings.
use Prim.Native.Nat.{◌+◌, ◌-◌, ◌<◌, ◌≤◌, ℕ}
use mathlib.Core.List.{List, [], ◌∷◌}
use mathlib.Core.Path.{◌∙◌, ◌≡◌, ap, refl}
use native.Mathlib.Omega.{arith}
use lib.Ieee.{Float}
use lib.ListN.{get_or, length, length-set, set}
use lib.Seq.{sets}
use Rattle.lists.specs.Lists.{flat}
use Rattle.store.proofs.Parts.{part_long}
use Rattle.store.proofs.View.{held_listings, held_uses, held_wires}
use Rattle.store.specs.Store.{held, use_table, wire_table}
use Rattle.words.specs.Words.{short}
use Rattle.draft_parts.proofs.Wires.{Laying, last_room, laying_all, laying_before, laying_mark, laying_start, laying_use, laying_uses, laying_wires, use_room, wire_room}
use Rattle.draft_parts.specs.Parts.{wire_lengths, wire_lists}
use Rattle.pattern.specs.Contents.{Pattern}
use Rattle.store.specs.Columns.{with_listings, with_uses, with_wires}

-- ---- a store with other uses and wires

pub record Wired (t₀ t uses wires : List ℕ) : Type 0 where
  pub long : length t ≡ 12312
  pub view : (spans : List Float) → held t spans ≡ with_wires (with_uses (held t₀ spans) uses) wires

module _ {t₀ t uses wires : List ℕ} (s : Wired t₀ t uses wires) (k x : ℕ) where
  with_use : k < 4096 → Wired t₀ (set t (2056 + k) x) (set uses k x) wires
  with_use h = record {
    long = length-set t (2056 + k) x ∙ s.long;
    view = λ spans. held_uses t spans s.long k (x ∷ []) (omega arith) ∙ ap (λ (p : Pattern). with_uses p (set p.uses k x)) (s.view spans);
  }

  with_wire_lem : k < 1024 → Wired t₀ (set t (6152 + k) x) uses (set wires k x)
  with_wire_lem h = record {
    long = length-set t (6152 + k) x ∙ s.long;
    view = λ spans. held_wires t spans s.long k (x ∷ []) (omega arith) ∙ ap (λ (p : Pattern). with_wires p (set p.wires k x)) (s.view spans);
  }

-- ---- the loop

pub record Filling (v t₀ : List ℕ) (used wired : ℕ) (t : List ℕ) (u w size i : ℕ) : Type 0 where
  pub uses : List ℕ
  pub wires : List ℕ
  pub full : length t₀ ≡ 12312
  pub stored : Wired t₀ t uses wires
  pub laid : Laying v (use_table t₀) used (wire_table t₀) wired uses wires u w size i

pub filling_start : (v t : List ℕ) (used wired : ℕ) → length t ≡ 12312 → Filling v t used wired t used wired 0 0
filling_start v t used wired long = record {
  uses = use_table t;
  wires = wire_table t;
  full = long;
  stored = record { long = long; view = λ spans. refl };
  laid = laying_start v (use_table t) used (wire_table t) wired;
}

module _ {v t₀ : List ℕ} {used wired : ℕ} {t : List ℕ} {u w size i : ℕ} (f : Filling v t₀ used wired t u w size i) where
  pub filling_long : length t ≡ 12312
  filling_long = f.stored.long

  uses_full : length (use_table t₀) ≡ 4096
  uses_full = part_long t₀ 2056 4096 (omega (arith, f.full))

  wires_full : length (wire_table t₀) ≡ 1024
  wires_full = part_long t₀ 6152 1024 (omega (arith, f.full))

  module _ (l : i < length v) (room : (used + length (flat (wire_lists v)) ≤ 4096) × (wired + length (wire_lists v) ≤ 1024)) where
    module _ (e : get_or v i 0 ≡ 65536) where
      pub fill_wire : w < 1024
      fill_wire = omega (arith, wires_full, laying_wires f.laid, wire_room f.laid l e (omega (arith, room.1, wires_full)))

      pub filling_mark : Filling v t₀ used wired (set t (6152 + w) 0) u (w + 1) 0 (i + 1)
      filling_mark = record { uses = f.uses; wires = set f.wires w 0; full = f.full; stored = with_wire_lem f.stored w 0 fill_wire; laid = laying_mark f.laid l e }

    module _ (e : get_or v i 0 ≡ 65536 → ⊥) where
      module _ (started : wired < w) where
        pub fill_use : u < 4096
        fill_use = omega (arith, uses_full, laying_uses f.laid, use_room f.laid l e started (omega (arith, room.0, uses_full)))

        pub fill_last : w - 1 < 1024
        fill_last = omega (arith, wires_full, laying_wires f.laid, last_room f.laid l e started (omega (arith, room.1, wires_full)))

        pub filling_use : (x y : ℕ) → x ≡ short (get_or v i 0) → y ≡ short (size + 1)
            → Filling v t₀ used wired (set (set t (2056 + u) x) (6152 + (w - 1)) y) (u + 1) w (size + 1) (i + 1)
        filling_use x y p q = record {
          uses = set f.uses u x;
          wires = set f.wires (w - 1) y;
          full = f.full;
          stored = with_wire_lem (with_use f.stored u x fill_use) (w - 1) y fill_last;
          laid = laying_use f.laid l e started x y p q;
        }

      pub filling_before : w ≤ wired → Filling v t₀ used wired t u w size (i + 1)
      filling_before h = record { uses = f.uses; wires = f.wires; full = f.full; stored = f.stored; laid = laying_before f.laid l e h }

  pub filling_all : length v ≤ i
      → (u - used ≡ length (flat (wire_lists v))) × (w - wired ≡ length (wire_lists v))
      × ((spans : List Float) → held t spans ≡ with_wires (with_uses (held t₀ spans) (sets (held t₀ spans).uses used (flat (wire_lists v)))) (sets (held t₀ spans).wires wired (wire_lengths (wire_lists v))))
  filling_all h =
      let a = laying_all f.laid h in
      (a.0, a.1, λ spans. f.stored.view spans ∙ rw (a.2, a.3))

-- ---- listings

-- numbers stored after one that was stored at n
pub listings_stored : (t t' : List ℕ) (spans : List Float) (n x k : ℕ) (xs : List ℕ) → length t ≡ 12312 → k + length xs ≤ 512 → t' ≡ sets (set t n x) (7704 + k) xs
    → held t' spans ≡ with_listings (held (set t n x) spans) (sets (held (set t n x) spans).listings k xs)
listings_stored t t' spans n x k xs long few e = rw e (held_listings (set t n x) spans (length-set t n x ∙ long) k xs few)
