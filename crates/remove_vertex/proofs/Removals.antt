-- The refusals of a removal in sequence, and the wires that the code finds.
use Rattle.std.specs.Prelude.{Err, Ok, Result}
use Prim.Native.Nat.{◌-◌, ◌<◌, ◌≤◌, suc, zero, ℕ}
use Prim.{⊥}
use mathlib.Core.Bool.{Bool, ◌||◌, false, true, true≢false}
use mathlib.Core.List.{List, [], ◌++◌, ◌∷◌}
use mathlib.Core.Logic.{⊎_elim}
use mathlib.Core.Path.{◌≡◌, ap, refl, sym}
use native.Mathlib.Omega.{arith}
use lib.Dec.{leb, ltb}
use lib.ListN.{get_or-eq_default, get_or, length}
use borrow.Author.Tests.{le-leb, le-ltb, lt-leb, lt-ltb, ltb-true, ltb-false}
use Rattle.concat.proofs.Judged.{and_false}
use Rattle.concat.specs.Joins.{joint}
use Rattle.remove_vertex_corners.specs.declared.Corner.{Corner}
use Rattle.edge.specs.declared.Edge.{Edge}
use Rattle.edit_answers.specs.declared.EditError.{EditError}
use Rattle.edit_answers.specs.declared.EditError.TheVariants.{NotOneOrTwoWires, SharedFace, Unmatched, Unnamed}
use Rattle.lists.proofs.Laws.{cases}
use Rattle.lists.proofs.Parts.{all_place}
use Rattle.lists.specs.Lists.{has, only, unless}
use Rattle.pattern.specs.Contents.{Content}
use Rattle.remove_vertex_corners.specs.Endings.{ending_of, ends_at}
use Rattle.remove_vertex.specs.Removals.{OfEdges, pairing, removal}
use Rattle.remove_vertex_corners.specs.declared.Ending.{Ending}
use Rattle.shell_edits.proofs.Removal.{only_pass}
use Rattle.shell_edits.specs.Edits.{ending_wires, first_wire, last_wire, matched, near_faults, shares_face}

module _ (fronts backs : List ℕ) (v : ℕ) (xss : List (List ℕ)) where
  inside : (w : ℕ) → ends_at fronts backs v (get_or xss w []) ≡ true → w < length xss
  unfolding has
  inside w h =
      ⊎_elim (λ (t : ltb w (length xss) ≡ true). ltb-true w (length xss) t)
      (λ (t : ltb w (length xss) ≡ false). absurd (true≢false (sym (rw (get_or-eq_default xss [] (ltb-false w (length xss) t)) at h))))
      (cases (ltb w (length xss)))

  -- the first and the last of them are wires
  pub ending_inside : (ws : List ℕ) {e : Ending} → e ≡ ending_of (only (λ (w : ℕ). ends_at fronts backs v (get_or xss w [])) ws) → 0 < e.number
      → (e.first < length xss) × (e.last < length xss)
  ending_inside ws {e} is some =
      let q : ℕ → Bool = λ (w : ℕ). ends_at fronts backs v (get_or xss w []) in
      let l = only q ws in
      let number : e.number ≡ length l = ap (λ (r : Ending). r.number) is in
      let first : e.first ≡ first_wire l = ap (λ (r : Ending). r.first) is in
      let last : e.last ≡ last_wire l = ap (λ (r : Ending). r.last) is in (
        rw first (inside (first_wire l) (all_place (λ (x : ℕ). q x ≡ true) 0 l (only_pass q ws) 0 (omega arith))),
        rw last (inside (last_wire l) (all_place (λ (x : ℕ). q x ≡ true) 0 l (only_pass q ws) (length l - 1) (omega arith))),
      )

-- ---- the refusals
module _ (c : Content) (n v points shells : ℕ) (ps : length c.points ≡ points) (ss : length c.shells ≡ shells) (k : Corner) (e : Ending) where
  abbrev found : Result (Ending × Corner) EditError
  found = pairing (near_faults c n v) e k

  pub no_shell : shells ≤ n → Err Unnamed ≡ found
  no_shell h = rw (ss, le-ltb n shells h)

  pub no_point : points ≤ v → Err Unnamed ≡ found
  no_point h = rw (ps, and_false (ltb n (length c.shells)) (ltb v points) (le-ltb v points h))

  module _ (hn : n < shells) (hv : v < points) where
    pub is_shared : shares_face c n ≡ true → Err SharedFace ≡ found
    is_shared h = rw (ps, ss, lt-ltb n shells hn, lt-ltb v points hv, h)

    module _ (own : shares_face c n ≡ false) (g : Ending) (is : g ≡ ending_of (ending_wires c n v)) where
      number : g.number ≡ length (ending_wires c n v)
      number = ap (λ (r : Ending). r.number) is

      pub no_wire : g.number ≡ 0 → Err NotOneOrTwoWires ≡ found
      no_wire h = rw (ps, ss, lt-ltb n shells hn, lt-ltb v points hv, own, ← number, h)

      pub many_wires : 2 < g.number → Err NotOneOrTwoWires ≡ found
      many_wires h =
          rw (ps, ss, lt-ltb n shells hn, lt-ltb v points hv, own, ← number, and_false (ltb 0 g.number) (leb g.number 2) (lt-leb g.number 2 h))

      pub near_are : 0 < g.number → g.number ≤ 2 → unless (ltb g.number 2 || matched c v g.first g.last) Unmatched ≡ near_faults c n v
      near_are h l =
          rw (ps, ss, lt-ltb n shells hn, lt-ltb v points hv, own, ← number, lt-ltb 0 g.number h, le-leb g.number 2 l, is)

pub of_edges : (m : ℕ) {r q : Result (Ending × Corner) EditError} → r ≡ q → OfEdges m r → OfEdges m q
of_edges m e h = rw e at h

-- ---- the pair, then its edges
pub pairing_not : (near es : List EditError) (e : Ending) (k : Corner) (d : Edge) {x : EditError} → Err x ≡ pairing near e k → Err x ≡ removal (near ++ es) d e
pairing_not [] es e k d h = cc
pairing_not (y ∷ near) es e k d {x} h = let z : x ≡ y = cc in ap Err z

pub pairing_found : (near : List EditError) (e : Ending) (k : Corner) {g : Ending} {l : Corner} → Ok (g, l) ≡ pairing near e k → (near ≡ []) × (g ≡ e) × (l ≡ k)
pairing_found [] e k {g} {l} h = let z : ◌≡◌ {A = Ending × Corner} (g, l) (e, k) = cc in (refl, ap (λ (x : Ending × Corner). x.0) z, ap (λ (x : Ending × Corner). x.1) z)
pairing_found (y ∷ near) e k h = (cc, cc, cc)

-- ---- and back
pub not_joint : (es : List EditError) (d : Edge) (e : Ending) {x : EditError} → removal es d e ≡ Err x → joint es d ≡ Err x
not_joint [] d e h = cc
not_joint (y ∷ es) d e {x} h = let k : y ≡ x = cc in ap Err k

pub joins_whole : (es : List EditError) (d : Edge) (e : Ending) {k : Edge} {g : Ending} → removal es d e ≡ Ok (k, g) → (es ≡ []) × ((k ≡ d) × (g ≡ e))
joins_whole [] d e {k} {g} h = let z : ◌≡◌ {A = Edge × Ending} (k, g) (d, e) = cc in (refl, (ap (λ (x : Edge × Ending). x.0) z, ap (λ (x : Edge × Ending). x.1) z))
joins_whole (y ∷ es) d e h = (cc, (cc, cc))

pub positive : (n : ℕ) → (n ≡ 0 → ⊥) → 0 < n
positive zero h = absurd (h refl)
positive (suc n) h = omega arith
