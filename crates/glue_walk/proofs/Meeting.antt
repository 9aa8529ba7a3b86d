-- The uses of the second face, met one after the other.
use Rattle.std.specs.Prelude.{None, Some}
use Prim.Native.Nat.{◌%◌, ◌+◌, ◌<◌, ◌≤◌, ℕ}
use mathlib.Core.Bool.{Bool, ◌&&◌, false, not, true}
use mathlib.Core.List.{List}
use mathlib.Core.Logic.{⊎_elim}
use mathlib.Core.Path.{◌∙◌, ◌≡◌, ap, refl, sym}
use native.Mathlib.Numerals.{add-one}
use native.Mathlib.Omega.{arith}
use lib.Dec.{eqb}
use lib.ListN.{drop, drop_of_length-le, get_or, length, set}
use lib.Seq.{drop-cons}
use borrow.Author.Tests.{eq-eqb, eqb-false, eqb-true, ne_eqb, not-true}
use Rattle.edge.specs.Uses.{back_of, edge_number, front_of}
use Rattle.face_edits.specs.FaceEdits.{meet, meet_all}
use Rattle.lists.proofs.Laws.{cases, left_true, right_true}
use Rattle.openings.proofs.Slots.{holding_in, holding_out, slot_none, slot_some, slots_get, slots_set}
use Rattle.openings.specs.Slots.{Holding, slot, slots}
use Rattle.pattern.specs.Contents.{Content}
use Rattle.shell.specs.Openings.{back_in, front_in}
use Rattle.glue_walk.specs.Walks.{Columns, EndColumns, Fits, PartFits, kept_met, met_as}
use Rattle.glue_walk.proofs.Keeping.{no_mark}

-- u has been met, with this answer, and these are kept after it
abbrev pub Met : List ℕ → List ℕ → ℕ → List ℕ → List ℕ → Bool → Type 0
Met fronts backs u kept kept' r = (c : Content) → Columns c fronts backs → meet c u (get_or (slots kept) (back_in c u) None) (slots kept) ≡ met_as r (slots kept')

-- the ends of a use
module _ (c : Content) (fronts backs : List ℕ) (col : Columns c fronts backs) (u : ℕ) where
  pub front_is : front_in c u ≡ front_of fronts backs u
  front_is = rw (col.begin, col.end)

  pub back_is : back_in c u ≡ back_of fronts backs u
  back_is = rw (col.begin, col.end)

module _ (fronts backs kept : List ℕ) (u : ℕ) (s : EndColumns fronts backs) (f : Fits fronts backs (length kept) u) (h : Holding fronts backs kept)
    (a b : ℕ) (ea : a ≡ front_of fronts backs u) (eb : b ≡ back_of fronts backs u) where
  pub front_place : a < length kept
  front_place = rw ea f.front

  pub back_place : b < length kept
  back_place = rw eb f.back

  pub kept_holds : (kept' : List ℕ) → kept' ≡ set kept a u → Holding fronts backs kept'
  kept_holds kept' k = rw k (holding_in fronts backs kept a u h f.edge f.back)

  pub gone_holds : Holding fronts backs (set kept b 65535)
  gone_holds = holding_out fronts backs kept b h

  module _ (c : Content) (col : Columns c fronts backs) where
    found : get_or (slots kept) (back_in c u) None ≡ slot (get_or kept b 0)
    found = rw (back_is c fronts backs col u, ← eb) (slots_get kept b back_place)

    now_kept : set (slots kept) (front_in c u) (Some u) ≡ slots (set kept a u)
    now_kept = rw (front_is c fronts backs col u, ← ea, slots_set kept a u, slot_some u (no_mark fronts backs s (length kept) u f))

    now_gone : set (slots kept) (back_in c u) None ≡ slots (set kept b 65535)
    now_gone = rw (back_is c fronts backs col u, ← eb, slots_set kept b 65535)

    is_bare : get_or kept b 0 ≡ 65535 → get_or (slots kept) (back_in c u) None ≡ None
    is_bare z = found ∙ slot_none (get_or kept b 0) z

    is_there_lem : (v : ℕ) → v ≡ get_or kept b 0 → (v ≡ 65535 → ⊥) → get_or (slots kept) (back_in c u) None ≡ Some v
    is_there_lem v is n = found ∙ rw (← is) (slot_some v n)

    ends_at_lem : (v : ℕ) (r : Bool) → eqb (back_of fronts backs v) a ≡ r → eqb (back_in c v) (front_in c u) ≡ r
    ends_at_lem v r e = rw (back_is c fronts backs col v, front_is c fronts backs col u, ← ea) e

  -- none is kept at its back
  met_bare : get_or kept b 0 ≡ 65535 → Met fronts backs u kept (set kept a u) true
  met_bare z c col = rw (is_bare c col z, now_kept c col)

  module _ (v : ℕ) (is : v ≡ get_or kept b 0) (n : v ≡ 65535 → ⊥) where
    pub there_edge : (edge_number v < length fronts) × (edge_number v < length backs)
    there_edge =
        let m : get_or kept b 0 ≡ 65535 → ⊥ = λ z. n (is ∙ z) in
        let l : edge_number v < length fronts = rw is (h.edge b back_place m) in
        (l, omega (arith, l, s.alike))

    -- one is, that ends elsewhere
    met_other : (back_of fronts backs v ≡ a → ⊥) → Met fronts backs u kept (set kept a u) true
    met_other o c col = rw (is_there_lem c col v is n, ends_at_lem c col v false (ne_eqb (back_of fronts backs v) a o), now_kept c col)

    -- one is, that ends at its front
    module _ (t : back_of fronts backs v ≡ a) where
      met_not : (u % 32768 ≡ v % 32768 → ⊥) → Met fronts backs u kept kept false
      met_not o c col = rw (is_there_lem c col v is n, ends_at_lem c col v true (eq-eqb (back_of fronts backs v) a t), ne_eqb (u % 32768) (v % 32768) o)

      met_gone : u % 32768 ≡ v % 32768 → Met fronts backs u kept (set kept b 65535) true
      met_gone o c col = rw (is_there_lem c col v is n, ends_at_lem c col v true (eq-eqb (back_of fronts backs v) a t), eq-eqb (u % 32768) (v % 32768) o, now_gone c col)

  -- the test of what stands there
  module _ (v : ℕ) (is : v ≡ get_or kept b 0) (r : Bool) (t : r ≡ (not (eqb v 65535) && eqb (back_of fronts backs v) a)) where
    pub met_kept : r ≡ false → (kept' : List ℕ) → kept' ≡ set kept a u → Met fronts backs u kept kept' true
    met_kept e kept' k =
        rw k (
        ⊎_elim
        (λ (z : eqb v 65535 ≡ true). met_bare (sym is ∙ eqb-true v 65535 z))
        (λ (z : eqb v 65535 ≡ false).
        let w : eqb (back_of fronts backs v) a ≡ false = rw z at (sym t ∙ e) in
        met_other v is (eqb-false v 65535 z) (eqb-false (back_of fronts backs v) a w))
        (cases (eqb v 65535))
        )

    module _ (e : r ≡ true) where
      both : (v ≡ 65535 → ⊥) × (back_of fronts backs v ≡ a)
      both =
          let z : (not (eqb v 65535) && eqb (back_of fronts backs v) a) ≡ true = sym t ∙ e in (
            eqb-false v 65535 (not-true (eqb v 65535) (left_true (not (eqb v 65535)) (eqb (back_of fronts backs v) a) z)),
            eqb-true (back_of fronts backs v) a (right_true (not (eqb v 65535)) (eqb (back_of fronts backs v) a) z),
          )

      pub met_21 : (u % 32768 ≡ v % 32768 → ⊥) → Met fronts backs u kept kept false
      met_21 o = met_not v is both.0 both.1 o

      pub met_both : u % 32768 ≡ v % 32768 → Met fronts backs u kept (set kept b 65535) true
      met_both o = met_gone v is both.0 both.1 o

-- the answers of that test
pub ends_none : (v : ℕ) (x : Bool) → v ≡ 65535 → false ≡ (not (eqb v 65535) && x)
ends_none v x e = rw (eq-eqb v 65535 e)

pub ends_some : (v w x a : ℕ) → (v ≡ 65535 → ⊥) → w ≡ x → eqb w a ≡ (not (eqb v 65535) && eqb x a)
ends_some v w x a n e = rw (ne_eqb v 65535 n, e)

-- the uses before i are met
pub record Meeting (fronts backs part kept₀ kept : List ℕ) (i : ℕ) : Type 0 where
  pub low : i ≤ length part
  pub same : (c : Content) → Columns c fronts backs → meet_all c part (slots kept₀) ≡ meet_all c (drop i part) (slots kept)
  pub left : (c : Content) → Columns c fronts backs → kept_met c part (slots kept₀) ≡ kept_met c (drop i part) (slots kept)
  pub long : length kept ≡ length kept₀
  pub holding : Holding fronts backs kept

module _ (fronts backs part kept₀ : List ℕ) (g : PartFits fronts backs (length kept₀) part) where
  pub meeting_start : Holding fronts backs kept₀ → Meeting fronts backs part kept₀ kept₀ 0
  meeting_start h = record { low = omega arith; same = λ c col. refl; left = λ c col. refl; long = refl; holding = h }

  module _ (kept : List ℕ) (i : ℕ) (k : Meeting fronts backs part kept₀ kept i) where
    pub meeting_all : length part ≤ i → (c : Content) → Columns c fronts backs → meet_all c part (slots kept₀) ≡ met_as true (slots kept)
    unfolding meet_all
    meeting_all h c col = k.same c col ∙ rw (drop_of_length-le part h)

    pub left_all : length part ≤ i → (c : Content) → Columns c fronts backs → slots kept ≡ kept_met c part (slots kept₀)
    unfolding kept_met
    left_all h c col = sym (k.left c col ∙ rw (drop_of_length-le part h))

    module _ (l : i < length part) where
      pub meeting_fits : Fits fronts backs (length kept) (get_or part i 0)
      meeting_fits = rw k.long (g.each i l)

      -- the next use is met with answer r
      module _ (kept' : List ℕ) (h : Holding fronts backs kept') (r : Bool) (m : Met fronts backs (get_or part i 0) kept kept' r) where
        pub meeting_next : r ≡ true → length kept' ≡ length kept → Meeting fronts backs part kept₀ kept' (i + 1)
        unfolding meet_all kept_met
        meeting_next e n = record {
          low = omega arith;
          same = λ c col. k.same c col ∙ rw (add-one, drop-cons {A = ℕ} part i 0 l, m c col, e);
          left = λ c col. k.left c col ∙ rw (add-one, drop-cons {A = ℕ} part i 0 l, m c col, e);
          long = n ∙ k.long;
          holding = h;
        }

        pub meeting_stop : r ≡ false → (c : Content) → Columns c fronts backs → meet_all c part (slots kept₀) ≡ met_as false (slots kept')
        unfolding meet_all
        meeting_stop e c col = k.same c col ∙ rw (drop-cons {A = ℕ} part i 0 l, m c col, e)

        pub left_stop : r ≡ false → kept' ≡ kept → (c : Content) → Columns c fronts backs → slots kept' ≡ kept_met c part (slots kept₀)
        unfolding kept_met
        left_stop e n c col = ap slots n ∙ sym (k.left c col ∙ rw (drop-cons {A = ℕ} part i 0 l, m c col, e))
