-- As many uses begin as end at every point: of a closed wire, of a wire that a listing shows, of a shell.
use Prim.Native.Nat.{◌+◌, ◌<◌, suc, ℕ}
use mathlib.Core.Bool.{Bool, false, true}
use mathlib.Core.List.{List, [], ◌∷◌, map, reverse}
use mathlib.Core.Path.{◌∙◌, ◌≡◌, refl, sym}
use native.Mathlib.Omega.{arith}
use lib.Dec.{eqb, leb}
use lib.ListN.{get_or, length}
use borrow.Author.Tests.{eqb-true}
use Rattle.edge.specs.Edges.{back_number, front_number}
use Rattle.edge.specs.Uses.{back_of, edge_number, front_of, turned}
use Rattle.errors.proofs.Laws.{none_left, none_right}
use Rattle.errors.specs.Faults.{each}
use Rattle.face.proofs.Laws.{none_mapped}
use Rattle.face.specs.Faces.{face_faults, face_rule, outline_faults, shared_faults, wire_count}
use Rattle.lists.proofs.Count.{All, all_append, all_at, all_each, all_flat_map, all_map, all_reverse, all_split, all_weaker, bit, count_append, count_reverse}
use Rattle.lists.proofs.Laws.{left_true, right_true}
use Rattle.lists.proofs.Marks.{AllBelow}
use Rattle.lists.specs.Lists.{count, flat, pick, split}
use Rattle.pattern.proofs.Named.{use_named}
use Rattle.pattern.proofs.Passed.{content_passed}
use Rattle.pattern.specs.Checks.{content_faults, outlines, record_faults}
use Rattle.pattern.specs.Contents.{Content}
use Rattle.shell.proofs.Turned.{turned_count, turned_edge, turned_low}
use Rattle.shell.specs.Shells.{face_number, listings_of, shell_uses, shell_wires, shown_wire, shown_wires}
use Rattle.wire.proofs.Laws.{faultless_sound}
use Rattle.wire.specs.Wires.{closed, runs, wire_faults}

-- a use that names one of m edges
abbrev pub IsUse : ℕ → ℕ → Type 0
IsUse m u = (u < 65536) × (edge_number u < m)

pub uses_low : (m : ℕ) (us : List ℕ) → All (IsUse m) us → All (λ (u : ℕ). u < 65536) us
uses_low m us h = all_weaker (IsUse m) (λ (u : ℕ). u < 65536) (λ u t. t.0) us h

module _ (fronts backs : List ℕ) where
  abbrev pub Level : List ℕ → Type 0
  Level us = (p : ℕ) → count (λ (u : ℕ). eqb (front_of fronts backs u) p) us ≡ count (λ (u : ℕ). eqb (back_of fronts backs u) p) us

  runs_level : (us : List ℕ) (p q r : ℕ) → runs fronts backs p us q ≡ true
      → count (λ (u : ℕ). eqb (front_of fronts backs u) r) us + bit (eqb q r) ≡ bit (eqb p r) + count (λ (u : ℕ). eqb (back_of fronts backs u) r) us
  unfolding runs count
  runs_level [] p q r h = rw (eqb-true p q h) (omega arith)
  runs_level (u ∷ us) p q r h =
      let here = eqb-true p (front_of fronts backs u) (left_true (eqb p (front_of fronts backs u)) (runs fronts backs (back_of fronts backs u) us q) h) in
      let more = right_true (eqb p (front_of fronts backs u)) (runs fronts backs (back_of fronts backs u) us q) h in
      rw here (omega (arith, runs_level us (back_of fronts backs u) q r more))

  pub closed_level : (us : List ℕ) → closed fronts backs us ≡ true → Level us
  unfolding closed count
  closed_level [] h p = refl
  closed_level (u ∷ us) h p = omega (arith, runs_level us (back_of fronts backs u) (front_of fronts backs u) p h)

  -- level, and every use names one of m edges
  pub record Fine (m : ℕ) (us : List ℕ) : Type 0 where
    pub level : Level us
    pub named : All (IsUse m) us

module _ (fronts backs : List ℕ) (m : ℕ) where
  turned_fine : (us : List ℕ) → Fine fronts backs m us → Fine fronts backs m (map turned (reverse us))
  turned_fine us h =
      let r = all_reverse (IsUse m) us h.named in
      let l = uses_low m (reverse us) r in record {
        level = λ p.
            turned_count fronts backs p (reverse us) l
            ∙ count_reverse (λ (u : ℕ). eqb (back_of fronts backs u) p) us
            ∙ sym (h.level p)
            ∙ sym (count_reverse (λ (u : ℕ). eqb (front_of fronts backs u) p) us)
            ∙ sym (turned_count backs fronts p (reverse us) l);
        named = all_map (IsUse m) (IsUse m) turned (λ u t. (turned_low u t.0, rw (turned_edge u t.0) t.1)) (reverse us) r;
      }

  shown_fine : (l : ℕ) (us : List ℕ) → Fine fronts backs m us → Fine fronts backs m (shown_wire l us)
  shown_fine l us h = go (leb 32768 l)
    where
      go : (b : Bool) → Fine fronts backs m (pick b (map turned (reverse us)) us)
      go true = turned_fine us h
      go false = h

  flat_fine : (wires : List (List ℕ)) → All (Fine fronts backs m) wires → Fine fronts backs m (flat wires)
  unfolding flat count
  flat_fine [] h = record { level = λ p. refl; named = tt }
  flat_fine (us ∷ wires) h =
      let rest = flat_fine wires h.1 in record {
        level = λ p. omega (
          arith,
          count_append (λ (u : ℕ). eqb (front_of fronts backs u) p) us (flat wires),
          count_append (λ (u : ℕ). eqb (back_of fronts backs u) p) us (flat wires),
          h.0.level p,
          rest.level p,
        );
        named = all_append (IsUse m) us (flat wires) h.0.named rest.named;
      }

  -- wires without fault
  wires_fine : (w : ℕ) (wires : List (List ℕ)) → each (outline_faults fronts backs) w wires ≡ [] → All (All (IsUse m)) wires → All (Fine fronts backs m) wires
  unfolding each
  wires_fine w [] e h = tt
  wires_fine w (us ∷ wires) e h =
      let none = none_mapped w (wire_faults fronts backs us) (none_left (outline_faults fronts backs w us) (each (outline_faults fronts backs) (suc w) wires) e) in (
        record { level = closed_level fronts backs us (faultless_sound fronts backs us none).loops; named = h.0 },
        wires_fine (suc w) wires (none_right (outline_faults fronts backs w us) (each (outline_faults fronts backs) (suc w) wires) e) h.1,
      )

  rule_fine : (w : ℕ) (faces : List (List (List ℕ))) → face_rule fronts backs w faces ≡ [] → All (All (All (IsUse m))) faces
      → All (All (Fine fronts backs m)) faces
  unfolding face_rule
  rule_fine w [] e h = tt
  rule_fine w (wires ∷ faces) e h =
      let here = none_left (face_faults fronts backs w wires) (face_rule fronts backs (w + length wires) faces) e in (
        wires_fine w wires (none_left (each (outline_faults fronts backs) w wires) (shared_faults fronts backs [] w wires) here) h.0,
        rule_fine (w + length wires) faces (none_right (face_faults fronts backs w wires) (face_rule fronts backs (w + length wires) faces) e) h.1,
      )

  -- what listings show of such faces
  shells_fine : (faces : List (List (List ℕ))) → All (All (Fine fronts backs m)) faces → (listings : List ℕ)
      → Fine fronts backs m (flat (flat (map (shown_wires faces) listings)))
  shells_fine faces h listings =
      flat_fine (flat (map (shown_wires faces) listings))
      (all_flat_map (Fine fronts backs m) (shown_wires faces)
      (λ l. all_map (Fine fronts backs m) (Fine fronts backs m) (shown_wire l) (shown_fine l) (get_or faces (face_number l) [])
      (all_at (All (Fine fronts backs m)) [] tt faces h (face_number l)))
      listings)

-- the uses of every shell of a pattern
module _ (c : Content) (ok : content_faults c ≡ []) (small : AllBelow 65536 c.uses) where
  abbrev fs : List ℕ
  fs = map front_number c.edges

  abbrev bs : List ℕ
  bs = map back_number c.edges

  pub records_ok : record_faults c ≡ []
  records_ok = (content_passed c ok).records

  pub shell_fine : (n : ℕ) → Fine fs bs (length c.edges) (shell_uses c n)
  unfolding shell_wires
  shell_fine n =
      let m = length c.edges in
      let uses : All (IsUse m) c.uses = all_each (IsUse m) 0 c.uses (λ k h. (small k h, use_named c records_ok k h)) in
      let wires : All (All (IsUse m)) (split c.wires c.uses) = all_split (IsUse m) c.wires c.uses uses in
      let faces = all_split (All (IsUse m)) (map wire_count c.faces) (split c.wires c.uses) wires in
      shells_fine fs bs m (outlines c) (rule_fine fs bs m 0 (outlines c) (content_passed c ok).rule faces) (listings_of c n)
