-- The glue loses nothing that is kept: the chained outlines hold every kept use once, and nothing else. What is not refused keeps the face rule.
use Rattle.lists.proofs.Options.{none-ne-some, some-injective}
use Rattle.std.specs.Prelude.{Option, None, Some}
use Prim.Native.Nat.{◌%◌, ◌/◌, ◌+◌, ◌<◌, suc, zero, ℕ}
use mathlib.Core.Bool.{Bool, ◌&&◌, false, or-true, true, true≢false}
use mathlib.Core.List.{List, [], ◌++◌, ◌∷◌}
use mathlib.Core.Logic.{⊎_elim}
use mathlib.Core.Path.{◌∙◌, ◌≡◌, ap, refl, sym}
use native.Mathlib.Omega.{arith}
use lib.Dec.{eqb, ltb}
use lib.ListN.{get_or-eq_default, get_or, length, length-replicate, length-set, replicate, set}
use lib.Seq.{set-get_or}
use borrow.Author.Tests.{eq-eqb, eqb-true, ltb-false, ltb-true}
use Rattle.edit_answers.specs.declared.FaceEditError.TheVariants.{FaceRule, FacesDiffer, NoSpace, NothingRemains, OppositeEdges, Unnamed}
use Rattle.errors.proofs.Laws.{none_left, none_right, unless_passes}
use Rattle.face_edits.specs.FaceEdits.{and_then, backs_in, boundaries, chain_at, chained, fits, fronts_in, glued, glue_faults, is_face, is_some, keeps_rule, kept_of, left_faults, meet, meet_all, meeting, met_faults, result_faults, surface_of}
use Rattle.lists.proofs.Count.{count_cons, count_flat}
use Rattle.lists.proofs.Laws.{cases}
use Rattle.lists.specs.Lists.{count, flat, has, numbers, pick, tabulate, unless}
use Rattle.pattern.specs.Contents.{Content}
use Rattle.shell.proofs.Held.{chain_takes, get_out, get_same, held, held_none, held_out}
use Rattle.shell.specs.Openings.{Found, Kept, back_in, chain, follow, front_in, keep, look_up}

-- what a chain finds and leaves is what was kept
module _ (front back : ℕ → ℕ) (q : ℕ → Bool) where
  chain_counts : (d p : ℕ) (kept : Kept) (n : ℕ) → count q (chain front back d p kept n).opening + count q (held (chain front back d p kept n).kept) ≡ count q (held kept)
  unfolding chain count
  chain_counts zero p kept n = omega arith
  chain_counts (suc d) p kept n = go (get_or kept p None) refl (λ r. chain_counts d r (set kept p None) (n + 1))
    where
      next : ℕ → Found
      next r = chain front back d r (set kept p None) (n + 1)

      go : (o : Option ℕ) → get_or kept p None ≡ o → ((r : ℕ) → count q (next r).opening + count q (held (next r).kept) ≡ count q (held (set kept p None)))
          → (let r = follow front back (look_up p kept n) o next in count q r.opening + count q (held r.kept)) ≡ count q (held kept)
      go None e more = let same : set kept p None ≡ kept = rw e at (set-get_or kept p None) in rw same (omega arith)
      go (Some u) e more = omega (arith, count_cons q u (next (back u)).opening, more (back u), held_out q kept p u e)

-- nothing is kept but at these points
abbrev Only : List ℕ → Kept → Type 0
Only ps kept = (r : ℕ) → has r ps ≡ false → get_or kept r None ≡ None

module _ (p : ℕ) (ps : List ℕ) (kept : Kept) (h : Only (p ∷ ps) kept) where
  elsewhere : (r : ℕ) → eqb r p ≡ false → has r ps ≡ false → get_or kept r None ≡ None
  unfolding has
  elsewhere r a b = h r (rw (a, b))

  only_none : get_or kept p None ≡ None → Only ps kept
  only_none e r b =
      ⊎_elim
      (λ (a : eqb r p ≡ true). rw (eqb-true r p a) e)
      (λ (a : eqb r p ≡ false). elsewhere r a b)
      (cases (eqb r p))

  only_set : Only ps (set kept p None)
  only_set r b =
      ⊎_elim
      (λ (a : eqb r p ≡ true). rw (eqb-true r p a) (get_same kept p))
      (λ (a : eqb r p ≡ false). get_out kept p r ∙ rw (elsewhere r a b) (either (eqb p r)))
      (cases (eqb r p))
    where
      either : (b : Bool) → pick {A = Option ℕ} b None None ≡ None
      either true = refl
      either false = refl

module _ (c : Content) (q : ℕ → Bool) where
  chained_counts : (ps : List ℕ) (kept : Kept) → Only ps kept → count q (flat (chained c ps kept)) ≡ count q (held kept)
  unfolding chained flat has count
  chained_counts [] kept h = sym (held_none q kept (λ p. h p refl))
  chained_counts (p ∷ ps) kept h = go (get_or kept p None) refl (λ k g. chained_counts ps k g)
    where
      go : (o : Option ℕ) → get_or kept p None ≡ o → ((k : Kept) → Only ps k → count q (flat (chained c ps k)) ≡ count q (held k))
          → count q (flat (chain_at c o p kept (chained c ps))) ≡ count q (held kept)
      go None e more = more kept (only_none p ps kept h e)
      go (Some u) e more =
          let r = chain (front_in c) (back_in c) (suc (length kept)) p kept 0 in
          let left : Only ps r.kept = λ x b. (chain_takes (front_in c) (back_in c) (length kept) p kept 0).bare x (only_set p ps kept h x b) in
          omega (arith, count_flat q r.opening (chained c ps r.kept), more r.kept left, chain_counts (front_in c) (back_in c) q (suc (length kept)) p kept 0)

-- every number below n is one of the first n
has_made : (n : ℕ) (f : ℕ → ℕ) (k : ℕ) → k < n → has (f k) (tabulate n f) ≡ true
unfolding has tabulate
has_made zero f k h = absurd (omega arith)
has_made (suc n) f zero h = rw (eq-eqb (f 0) (f 0) refl)
has_made (suc n) f (suc k) h = rw (has_made n (λ (j : ℕ). f (suc j)) k (omega (arith, h))) (or-true (eqb (f (suc k)) (f 0)))

all_points : (kept : Kept) (n : ℕ) → length kept ≡ n → Only (numbers n) kept
all_points kept n e r b =
    ⊎_elim
    (λ (a : ltb r n ≡ true). absurd (true≢false (sym (has_made n (λ (k : ℕ). k) r (ltb-true r n a)) ∙ b)))
    (λ (a : ltb r n ≡ false). get_or-eq_default kept None (omega (arith, e, ltb-false r n a)))
    (cases (ltb r n))

-- there is a place for each point, still
length_keep : (front back : ℕ → ℕ) (us : List ℕ) (kept : Kept) → length (keep front back us kept) ≡ length kept
unfolding keep
length_keep front back [] kept = refl
length_keep front back (u ∷ us) kept = length_keep front back us (set kept (front u) (Some u)) ∙ length-set kept (front u) (Some u)

module _ (c : Content) where
  length_met : (u : ℕ) (o : Option ℕ) (kept kept' : Kept) → meet c u o kept ≡ Some kept' → length kept' ≡ length kept
  length_met u None kept kept' e = ap length (sym (some-injective (set kept (front_in c u) (Some u)) kept' e)) ∙ length-set kept (front_in c u) (Some u)
  length_met u (Some v) kept kept' e = go (eqb (back_in c v) (front_in c u)) (eqb (u % 32768) (v % 32768)) e
    where
      go : (a b : Bool) → pick a (pick b (Some (set kept (back_in c u) None)) None) (Some (set kept (front_in c u) (Some u))) ≡ Some kept' → length kept' ≡ length kept
      go true true e = ap length (sym (some-injective (set kept (back_in c u) None) kept' e)) ∙ length-set kept (back_in c u) None
      go true false e = absurd (none-ne-some kept' e)
      go false b e = ap length (sym (some-injective (set kept (front_in c u) (Some u)) kept' e)) ∙ length-set kept (front_in c u) (Some u)

  length_meet : (us : List ℕ) (kept kept' : Kept) → meet_all c us kept ≡ Some kept' → length kept' ≡ length kept
  unfolding meet_all
  length_meet [] kept kept' e = ap length (sym (some-injective kept kept' e))
  length_meet (u ∷ us) kept kept' e = go (meet c u (get_or kept (back_in c u) None) kept) refl e (λ k z. length_meet us k kept' z)
    where
      go : (o : Option Kept) → meet c u (get_or kept (back_in c u) None) kept ≡ o → and_then o (meet_all c us) ≡ Some kept'
          → ((k : Kept) → meet_all c us k ≡ Some kept' → length kept' ≡ length k) → length kept' ≡ length kept
      go None m e more = absurd (none-ne-some kept' e)
      go (Some k) m e more = more k e ∙ length_met u (get_or kept (back_in c u) None) kept k m

  length_meeting : (f g : ℕ) (kept : Kept) → meeting c f g ≡ Some kept → length kept ≡ length c.points
  length_meeting f g kept e =
      length_meet (flat (boundaries c g)) (kept_of c f) kept e
      ∙ length_keep (front_in c) (back_in c) (flat (boundaries c f)) (replicate (length c.points) None)
      ∙ length-replicate {A = Option ℕ} (length c.points) None

  pub glued_all : (f g : ℕ) (kept : Kept) → meeting c f g ≡ Some kept → (q : ℕ → Bool) → count q (flat (glued c f g)) ≡ count q (held kept)
  glued_all f g kept e q = rw e (chained_counts c q (numbers (length c.points)) kept (all_points kept (length c.points) (length_meeting f g kept e)))

  -- a glue that is not refused keeps the face rule
  pub glue_kept : (f g m k : ℕ) → glue_faults c f g m k ≡ [] → keeps_rule (fronts_in c) (backs_in c) (glued c f g) ≡ true
  glue_kept f g m k ok =
      let wires = glued c f g in
      let kept = keeps_rule (fronts_in c) (backs_in c) wires in
      let named = unless (is_face c f && is_face c g) Unnamed ++ unless (eqb (surface_of c f) (surface_of c g) && eqb (f / 32768) (g / 32768)) FacesDiffer in
      let left = none_right (unless (is_some (meeting c f g)) OppositeEdges) (left_faults c wires m k) (none_right named (met_faults c (meeting c f g) m k) ok) in
      unless_passes kept FaceRule (none_left (unless kept FaceRule) (unless (fits wires m k) NoSpace) (none_right (unless (ltb 0 (length wires)) NothingRemains) (result_faults kept wires m k) left))
