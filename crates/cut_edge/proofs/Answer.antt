-- The answer of a cut and the pattern after it, from what the parts of the code give.
use Rattle.edge.specs.declared.EdgeID.{EdgeID}
use Rattle.errors.specs.declared.CallError.{CallError}
use Rattle.errors.specs.declared.CallError.TheVariants.{Refused, Unread}
use Rattle.std.specs.Prelude.{Err, None, Ok, Option, Some}
use Prim.Native.Nat.{◌+◌, ◌-◌, ◌<◌, ◌≤◌, ℕ}
use mathlib.Core.Bool.{Bool, ◌&&◌, false, not, true, true≢false}
use mathlib.Core.List.{List, [], ◌++◌, ◌∷◌, map}
use mathlib.Core.Path.{◌∙◌, ◌≡◌, ap, refl, sym}
use native.Mathlib.Omega.{arith}
use lib.Dec.{leb, ltb}
use lib.ListN.{get_or-append, get_or, length, length-map, replicate}
use borrow.Author.Tests.{leb-true, ltb-true}
use Rattle.curve.specs.Curves.{cut_curve}
use Rattle.curve.specs.declared.Parameter.{Parameter}
use Rattle.cut_edge.proofs.Wires.{cuts_has, cuts_long, each_same, uses_flagged}
use Rattle.cut_edge.specs.Cutting.{cut_stored}
use Rattle.cut_edge_wires.specs.Halves.{cut_flagged}
use Rattle.cut_edge_faults.specs.Flags.{cuts_where, uses_where}
use Rattle.cut_edge_faults.specs.Judgement.{found_faults, judgement}
use Rattle.edge.specs.Edges.{back_number, front_number}
use Rattle.edge.specs.Uses.{edge_number}
use Rattle.edge.specs.declared.Curve.{Curve}
use Rattle.edit_answers.specs.Answers.{judged}
use Rattle.edit_answers.specs.declared.EditError.{EditError}
use Rattle.edit_answers.specs.declared.EditError.TheVariants.{CurveRefuses, EdgeNotInShell, NoSpace, SharedFace, Unnamed, VertexInShell}
use Rattle.errors.proofs.Laws.{none_left, none_right, unless_passes}
use Rattle.errors.specs.Faults.{first}
use Rattle.errors.specs.declared.Refusal.{Refusal}
use Rattle.lists.proofs.Flat.{get_d_tabulate}
use Rattle.lists.proofs.Laws.{left_true, length_split, length_tabulate, map_tabulate, right_true}
use Rattle.lists.proofs.Parts.{flat_split}
use Rattle.lists.specs.Lists.{flat, has, numbers, pick, unless}
use Rattle.pattern.proofs.Counts.{edges_counted, points_counted, shells_counted, uses_counted}
use Rattle.pattern.specs.Checks.{pattern_faults}
use Rattle.pattern.specs.Contents.{Pattern, content, stored_in}
use Rattle.shell.specs.Openings.{front_in}
use Rattle.shell_edits.specs.Answers.{after_cut, cut_answer, next_edge}
use Rattle.shell_edits.specs.Edits.{cut_content, cut_faults, cut_wire, cut_wires, each_wire, edge_at, later_faults, shares_face, uses_in, wires_in, wires_of}
use Rattle.shell_edits.specs.NewEdges.{half_edges, is_cut}
use Rattle.shell_wires.proofs.Facts.{Fine, wires_sum}
use Rattle.shell_wires.specs.ShellWires.{marks_of}
use Rattle.wire.specs.Wires.{points}

-- ---- lists of refusals

-- the checks refuse, or a number names nothing
module _ {ℓ} {A : Type ℓ} (refused : Refusal → A) (refuse : EditError → A) (done : A) where
  judged_refused : (fs : List Refusal) (es : List EditError) (f : Refusal) → first fs ≡ Err f → refused f ≡ judged fs es refused refuse done
  judged_refused [] es f h = cc
  judged_refused (g ∷ fs) es f h = let e : f ≡ g = cc in ap refused e

  judgement_judged : (es : List EditError) (h : Option (Curve × Curve)) (x : EditError) → (es ≡ [] → is_cut h ≡ true) → judgement es h ≡ Err x → refuse x ≡ judged [] es refused refuse done
  judgement_judged (y ∷ es) h x some j = let s : x ≡ y = cc in ap refuse s
  judgement_judged [] (Some (k, l)) x some j = cc
  judgement_judged [] None x some j = absurd (true≢false (sym (some refl)))

-- accepted: no refusal, and the halves
pub accepted_are : (es : List EditError) (h : Option (Curve × Curve)) (k l : Curve) → judgement es h ≡ Ok (k, l) → (es ≡ []) × (h ≡ Some (k, l))
accepted_are (x ∷ es) h k l j = (cc, cc)
accepted_are [] (Some (m, n)) k l j = (refl, cc)
accepted_are [] None k l j = (refl, cc)

module _ (shared met : Bool) (cuts : ℕ) (h : Option (Curve × Curve)) (edges uses : ℕ) (none : found_faults shared met cuts h edges uses ≡ []) where
  abbrev three : List EditError
  three = unless (not shared) SharedFace ++ unless (not met) VertexInShell ++ unless (ltb 0 cuts) EdgeNotInShell

  abbrev room : Bool
  room = leb (edges + 2) 1024 && leb (uses + cuts) 4096

  later_cut : is_cut h ≡ true
  later_cut = unless_passes (is_cut h) CurveRefuses (none_right three (unless (is_cut h) CurveRefuses) (none_left (three ++ unless (is_cut h) CurveRefuses) (unless room NoSpace) none))

  has_room : room ≡ true
  has_room = unless_passes room NoSpace (none_right (three ++ unless (is_cut h) CurveRefuses) (unless room NoSpace) none)

  later_room : (edges + 2 ≤ 1024) × (uses + cuts ≤ 4096)
  later_room = (
    leb-true (edges + 2) 1024 (left_true (leb (edges + 2) 1024) (leb (uses + cuts) 4096) has_room),
    leb-true (uses + cuts) 4096 (right_true (leb (edges + 2) 1024) (leb (uses + cuts) 4096) has_room),
  )

all_faults : (named shared met met' edge : Bool) (cuts : ℕ) (h : Option (Curve × Curve)) (edges edges' total uses : ℕ)
    → named ≡ true → met ≡ met' → edge ≡ ltb 0 cuts → edges ≡ edges' → total ≡ uses + cuts
    → unless named Unnamed ++ later_faults shared met edge h (edges + 2) total ≡ found_faults shared met' cuts h edges' uses
all_faults named shared met met' edge cuts h edges edges' total uses n m e a t = rw (n, m, e, a, t)

numbers_are : (x y : EdgeID) (a b : ℕ) → x.0 ≡ a → y.0 ≡ b → ◌≡◌ {A = EdgeID × EdgeID} (record { 0 = a }, record { 0 = b }) (x, y)
numbers_are x y a b e f = rw (← e, ← f)

-- ---- refused, the answer and the pattern as it was

abbrev pub Left : Pattern → ℕ → ℕ → ℕ → Parameter → CallError EditError → Type 0
Left p n e v at x = (Err x ≡ cut_answer p n e v at) × (p ≡ after_cut p n e v at)

pub cut_unread : (p : Pattern) (n e v : ℕ) (at : Parameter) (f : Refusal) → first (pattern_faults p) ≡ Err f → Left p n e v at (Unread f)
cut_unread p n e v at f h =
    let es = cut_faults (content p) n e v at in (
      judged_refused (λ x. Err (Unread x)) (λ x. Err (Refused x)) (Ok (next_edge p 0, next_edge p 1)) (pattern_faults p) es f h,
      judged_refused (λ x. p) (λ x. p) (stored_in p (cut_content (content p) n e v at)) (pattern_faults p) es f h,
    )

-- ---- a pattern without fault

module _ (p : Pattern) (s : Fine p) (n e v : ℕ) (at : Parameter) where
  abbrev flags : List Bool
  flags = (marks_of p n).wires

  abbrev wires : List (List ℕ)
  wires = wires_in (content p)

  abbrev a : ℕ
  a = get_or p.counts 1 0

  abbrev uses : ℕ
  uses = get_or p.counts 2 0

  flag_is : (w : ℕ) → w < length wires → get_or flags w false ≡ has w (wires_of (content p) n)
  flag_is w l =
      let f : ℕ → Bool = λ (w : ℕ). has w (wires_of (content p) n) in
      let m = length (content p).wires in
      let h : w < m = omega (arith, length_split (content p).wires (content p).uses) in
      get_or-append (map f (numbers m)) (replicate (1024 - length (map f (numbers m))) false) false w (omega (arith, length-map (numbers m) f, length_tabulate m (λ (k : ℕ). k)))
      ∙ rw (map_tabulate f m (λ (k : ℕ). k)) (get_d_tabulate m f w false h)

  abbrev met : Bool
  met = has v (points (map front_number (content p).edges) (map back_number (content p).edges) (uses_where flags 0 wires))

  met_is : has v (map (front_in (content p)) (uses_in (content p) n)) ≡ met
  met_is = uses_flagged flags (front_in (content p)) v (wires_of (content p) n) wires flag_is

  edge_is : has e (map edge_number (uses_in (content p) n)) ≡ ltb 0 (cuts_where flags e 0 wires)
  edge_is = uses_flagged flags edge_number e (wires_of (content p) n) wires flag_is ∙ cuts_has flags e 0 wires

  pub wires_are : cut_wires (content p) n e ≡ each_wire (cut_flagged flags e a) 0 wires
  wires_are =
      each_same (λ (w : ℕ) (us : List ℕ). pick (has w (wires_of (content p) n)) (cut_wire e (length (content p).edges) us) us) (cut_flagged flags e a) 0 wires
      (λ w us l. rw (flag_is w (omega arith), edges_counted p s.limits s.full))

  flat_size : length (flat (each_wire (cut_flagged flags e a) 0 wires)) ≡ uses + cuts_where flags e 0 wires
  flat_size =
      let all : length (flat wires) ≡ uses =
      ap length (flat_split (content p).wires (content p).uses (wires_sum p s ∙ sym (uses_counted p s.limits s.full))) ∙ uses_counted p s.limits s.full in
      cuts_long flags e a 0 wires ∙ ap (λ (m : ℕ). m + cuts_where flags e 0 wires) all

  size_is : length (flat (cut_wires (content p) n e)) ≡ uses + cuts_where flags e 0 wires
  size_is = ap (λ (ws : List (List ℕ)). length (flat ws)) wires_are ∙ flat_size

  abbrev named : Bool
  named = ltb n (get_or p.counts 5 0) && ltb e a && ltb v (get_or p.counts 0 0)

  abbrev halves : Option (Curve × Curve)
  halves = cut_curve (edge_at (content p) e).curve at

  abbrev later : List EditError
  later = found_faults (shares_face (content p) n) met (cuts_where flags e 0 wires) halves a uses

  abbrev faults : List EditError
  faults = cut_faults (content p) n e v at

  named_is : (ltb n (length (content p).shells) && ltb e (length (content p).edges) && ltb v (length (content p).points)) ≡ named
  named_is = rw (shells_counted p s.limits s.full, edges_counted p s.limits s.full, points_counted p s.limits s.full)

  -- the reading checks are passed
  past {ℓ} : {A : Type ℓ} (refused : Refusal → A) (refuse : EditError → A) (done : A) → judged [] faults refused refuse done ≡ judged (pattern_faults p) faults refused refuse done
  past refused refuse done = ap (λ (fs : List Refusal). judged fs faults refused refuse done) (sym s.ok)

  pub unnamed : named ≡ false → Left p n e v at (Refused Unnamed)
  unnamed h = let no = named_is ∙ h in (rw (s.ok, no), rw (s.ok, no))

  pub names : named ≡ true → (n < get_or p.counts 5 0) × (e < a) × (v < get_or p.counts 0 0)
  names h =
      let two = left_true (ltb n (get_or p.counts 5 0) && ltb e a) (ltb v (get_or p.counts 0 0)) h in (
        ltb-true n (get_or p.counts 5 0) (left_true (ltb n (get_or p.counts 5 0)) (ltb e a) two),
        ltb-true e a (right_true (ltb n (get_or p.counts 5 0)) (ltb e a) two),
        ltb-true v (get_or p.counts 0 0) (right_true (ltb n (get_or p.counts 5 0) && ltb e a) (ltb v (get_or p.counts 0 0)) h),
      )

  module _ (here : named ≡ true) where
    pub faults_are : faults ≡ later
    faults_are =
        all_faults (ltb n (length (content p).shells) && ltb e (length (content p).edges) && ltb v (length (content p).points)) (shares_face (content p) n) (has v (map (front_in (content p)) (uses_in (content p) n))) met
        (has e (map edge_number (uses_in (content p) n))) (cuts_where flags e 0 wires) halves (length (content p).edges) a (length (flat (cut_wires (content p) n e))) uses
        (named_is ∙ here) met_is edge_is (edges_counted p s.limits s.full) size_is

    some_cut : faults ≡ [] → is_cut halves ≡ true
    some_cut none = later_cut (shares_face (content p) n) met (cuts_where flags e 0 wires) halves a uses (sym faults_are ∙ none)

    pub rooms : faults ≡ [] → (a + 2 ≤ 1024) × (length (flat (cut_wires (content p) n e)) ≤ 4096)
    rooms none =
        let r = later_room (shares_face (content p) n) met (cuts_where flags e 0 wires) halves a uses (sym faults_are ∙ none) in
        (r.0, omega (arith, r.1, size_is))

    module _ {x : EditError} (j : judgement faults halves ≡ Err x) where
      not_is {ℓ} : {A : Type ℓ} (refused : Refusal → A) (refuse : EditError → A) (done : A) → refuse x ≡ judged (pattern_faults p) faults refused refuse done
      not_is refused refuse done = judgement_judged refused refuse done faults halves x some_cut j ∙ past refused refuse done

      pub refused_not : Left p n e v at (Refused x)
      refused_not = (not_is (λ y. Err (Unread y)) (λ y. Err (Refused y)) (Ok (next_edge p 0, next_edge p 1)), not_is (λ y. p) (λ y. p) (stored_in p (cut_content (content p) n e v at)))

  module _ (none : faults ≡ []) where
    done_is {ℓ} : {A : Type ℓ} (refused : Refusal → A) (refuse : EditError → A) (done : A) → done ≡ judged (pattern_faults p) faults refused refuse done
    done_is refused refuse done = ap (λ (es : List EditError). judged [] es refused refuse done) (sym none) ∙ past refused refuse done

    pub answer_cut : Ok (record { 0 = a }, record { 0 = a + 1 }) ≡ cut_answer p n e v at
    answer_cut =
        let both = numbers_are (next_edge p 0) (next_edge p 1) a (a + 1) (omega (arith, edges_counted p s.limits s.full)) (omega (arith, edges_counted p s.limits s.full)) in
        ap Ok both ∙ done_is (λ x. Err (Unread x)) (λ x. Err (Refused x)) (Ok (next_edge p 0, next_edge p 1))

    -- the storage, from what the code stores
    pub pattern_cut : (k l : Curve) → halves ≡ Some (k, l)
        → cut_stored p (half_edges (edge_at (content p) e) v (Some (k, l))) (cut_wires (content p) n e) ≡ after_cut p n e v at
    pattern_cut k l h =
        ap (λ (x : Option (Curve × Curve)). cut_stored p (half_edges (edge_at (content p) e) v x) (cut_wires (content p) n e)) (sym h)
        ∙ done_is (λ (f : Refusal). p) (λ (x : EditError). p) (stored_in p (cut_content (content p) n e v at))
