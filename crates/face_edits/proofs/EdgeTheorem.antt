-- A face cut by one edge: both results keep the face rule, so the cut is never answered 28.
use Rattle.errors.specs.declared.CallError.TheVariants.{Refused}
use Rattle.std.specs.Prelude.{Err}
use Prim.Native.Nat.{◌+◌, ◌<◌, ◌≤◌, ℕ}
use mathlib.Core.Bool.{Bool, ◌&&◌, false, true, true≢false}
use mathlib.Core.List.{List, [], ◌++◌, ◌∷◌, map, reverse}
use mathlib.Core.Logic.{⊎_elim}
use mathlib.Core.Path.{◌∙◌, ◌≡◌, ap, refl, sym}
use native.Mathlib.Omega.{arith}
use lib.Dec.{eqb, ltb}
use lib.ListN.{length, length-append}
use borrow.Author.Tests.{eq-eqb, eqb-false, eqb-true, ltb-true}
use Rattle.edge.specs.Uses.{back_of, edge_number, front_of, turned}
use Rattle.edit_answers.specs.Answers.{answer_of}
use Rattle.edit_answers.specs.declared.FaceEditError.TheVariants.{EndsNotOnWire, FaceRule, NoSpace, NotOneWire, Unnamed}
use Rattle.errors.specs.declared.Refusal.{Refusal}
use Rattle.face_edits.proofs.AddTheorem.{stored_ruled}
use Rattle.face_edits.proofs.CutTheorem.{Parts, count_begun, flat_only, parts}
use Rattle.face_edits.proofs.Runs.{Between, runs_begin, runs_between, runs_end, runs_round}
use Rattle.face_edits.specs.FaceAnswers.{cut_face_answer}
use Rattle.face_edits.specs.FaceEdits.{are_uses, backs_in, boundaries, cut_face_faults, cut_in_two, ends_on, first_cut, fits, fronts_in, is_face, keeps_rule, no_fault, outline_of, second_cut}
use Rattle.lists.proofs.Count.{count_append}
use Rattle.lists.proofs.Laws.{cases, right_true}
use Rattle.lists.proofs.Parts.{all_place, flat_one}
use Rattle.lists.specs.Lists.{count, flat, unless}
use Rattle.pattern.proofs.Named.{ends_apart}
use Rattle.pattern.proofs.Passed.{pattern_passed}
use Rattle.pattern.specs.Checks.{content_faults, pattern_faults}
use Rattle.pattern.specs.Contents.{Content, Pattern, content}
use Rattle.shell.proofs.Shown.{closed_runs, runs_append, runs_turned}
use Rattle.shell.proofs.Chain.{from}
use Rattle.shell.proofs.Turned.{turned_front}
use Rattle.shell.proofs.Walked.{Ring}
use Rattle.shell_edits.proofs.Accepted.{records_fine, ruled_face}
use Rattle.wire.specs.Wires.{closed, runs}

-- an outline that is closed and meets no point twice, and a use with two ends on it that differ
module _ (fs bs os : List ℕ) (u : ℕ) (low : u < 65536) (loops : closed fs bs os ≡ true) (once : (q : ℕ) → count (from fs bs q) os ≤ 1)
    (apart : front_of fs bs u ≡ back_of fs bs u → ⊥) (on : ends_on fs bs os (u ∷ []) ≡ true) where
  abbrev a : ℕ
  a = front_of fs bs u

  abbrev b : ℕ
  b = back_of fs bs u

  its : Parts fs bs os (u ∷ []) (first_cut fs bs os (u ∷ [])) (second_cut fs bs os (u ∷ []))
  its = parts fs bs os (u ∷ []) on

  abbrev part : List ℕ
  part = its.part

  abbrev rest : List ℕ
  rest = its.rest

  between : Between fs bs b part rest b
  between = runs_between fs bs part rest b b (rw (its.turns, ← its.begins) (runs_round fs bs os its.at its.inside loops))

  at_front : between.mid ≡ a
  at_front = sym (runs_end fs bs part b between.mid between.left its.some) ∙ its.ends

  -- the first part runs from the use's back to its front, the rest from there to its back
  there : runs fs bs b part a ≡ true
  there = rw at_front at between.left

  onward : runs fs bs a rest b ≡ true
  onward = rw at_front at between.right

  rest_some : 0 < length rest
  unfolding runs
  rest_some = go rest onward
    where
      go : (xs : List ℕ) → runs fs bs a xs b ≡ true → 0 < length xs
      go [] h = absurd (apart (eqb-true a b h))
      go (x ∷ xs) h = omega arith

  parts_count : (q : ℕ → Bool) → count q part + count q rest ≡ count q os
  parts_count q = sym (count_append q part rest) ∙ ap (count q) its.turns ∙ count_begun its.at os q

  use_runs : runs fs bs a (u ∷ []) b ≡ true
  unfolding runs
  use_runs = rw (eq-eqb a a refl, eq-eqb b b refl)

  back_runs : runs fs bs b (map turned (reverse (u ∷ []))) a ≡ true
  back_runs = runs_turned fs bs (u ∷ []) (low, tt) a b use_runs

  -- one use more, that begins at a point where none of the run begins
  one_more : (xs : List ℕ) (v : ℕ) → count (from fs bs (front_of fs bs v)) xs ≡ 0 → ((q : ℕ) → count (from fs bs q) xs ≤ 1) → (q : ℕ) → count (from fs bs q) (flat ((xs ++ (v ∷ [])) ∷ [])) ≤ 1
  unfolding count
  one_more xs v none few q =
      let all : count (from fs bs q) (flat ((xs ++ (v ∷ [])) ∷ [])) ≡ count (from fs bs q) xs + count (from fs bs q) (v ∷ []) = ap (count (from fs bs q)) (flat_one (xs ++ (v ∷ []))) ∙ count_append (from fs bs q) xs (v ∷ []) in
      ⊎_elim
      (λ (e : eqb (front_of fs bs v) q ≡ true).
      let here : count (from fs bs q) xs ≡ 0 = rw (eqb-true (front_of fs bs v) q e) at none in omega (arith, all, here, rw e at all))
      (λ (e : eqb (front_of fs bs v) q ≡ false). omega (arith, rw e at all, few q))
      (cases (eqb (front_of fs bs v) q))

  first_kept : keeps_rule fs bs (first_cut fs bs os (u ∷ []) ∷ []) ≡ true
  first_kept =
      let none : count (from fs bs a) part ≡ 0 = omega (arith, parts_count (from fs bs a), once a, runs_begin fs bs rest a b onward rest_some) in
      let new = part ++ (u ∷ []) in
      let ring : Ring fs bs new = (omega (arith, length-append part (u ∷ [])), closed_runs fs bs new b (runs_append fs bs part (u ∷ []) b a b there use_runs)) in
      rw its.first_is (ap no_fault (ruled_face fs bs 0 (new ∷ []) (record { rings = (ring, tt); once = one_more part u none (λ q. omega (arith, parts_count (from fs bs q), once q)) })))

  second_kept : keeps_rule fs bs (second_cut fs bs os (u ∷ []) ∷ []) ≡ true
  second_kept =
      let v = turned u in
      let none : count (from fs bs b) rest ≡ 0 = omega (arith, parts_count (from fs bs b), once b, runs_begin fs bs part b a there its.some) in
      let new = rest ++ (v ∷ []) in
      let ring : Ring fs bs new = (omega (arith, length-append rest (v ∷ [])), closed_runs fs bs new a (runs_append fs bs rest (v ∷ []) a b a onward back_runs)) in
      let begins : count (from fs bs (front_of fs bs v)) rest ≡ 0 = rw (turned_front fs bs u low) none in
      rw its.second_is (ap no_fault (ruled_face fs bs 0 (new ∷ []) (record { rings = (ring, tt); once = one_more rest v begins (λ q. omega (arith, parts_count (from fs bs q), once q)) })))

-- ---- a face of a pattern without fault

named_edge : (u n : ℕ) → eqb (count (λ (v : ℕ). ltb (edge_number v) n) (u ∷ [])) 1 ≡ true → edge_number u < n
unfolding count
named_edge u n h =
    ⊎_elim
    (λ (e : ltb (edge_number u) n ≡ true). ltb-true (edge_number u) n e)
    (λ (e : ltb (edge_number u) n ≡ false). let z : false ≡ true = rw e at h in absurd (true≢false (sym z)))
    (cases (ltb (edge_number u) n))

-- a use that names an edge, of a face with one outline; its ends are on the outline
pub edge_cut_kept : (c : Content) (f u : ℕ) → content_faults c ≡ [] → u < 65536 → (is_face c f && are_uses c (u ∷ [])) ≡ true → eqb (length (boundaries c f)) 1 ≡ true
    → ends_on (fronts_in c) (backs_in c) (outline_of c f) (u ∷ []) ≡ true
    → (keeps_rule (fronts_in c) (backs_in c) (first_cut (fronts_in c) (backs_in c) (outline_of c f) (u ∷ []) ∷ []) ≡ true)
    × (keeps_rule (fronts_in c) (backs_in c) (second_cut (fronts_in c) (backs_in c) (outline_of c f) (u ∷ []) ∷ []) ≡ true)
edge_cut_kept c f u ok low named one on =
    let fs = fronts_in c in
    let bs = backs_in c in
    let os = outline_of c f in
    let single = eqb-true (length (boundaries c f)) 1 one in
    let stored = stored_ruled c ok f in
    let ring = all_place (Ring fs bs) [] (boundaries c f) stored.rings 0 (omega (arith, single)) in
    let once : (q : ℕ) → count (from fs bs q) os ≤ 1 = λ q. rw (flat_only (boundaries c f) single) at (stored.once q) in
    let edge = named_edge u (length c.edges) (right_true (is_face c f) (are_uses c (u ∷ [])) named) in
    let apart : front_of fs bs u ≡ back_of fs bs u → ⊥ = eqb-false (front_of fs bs u) (back_of fs bs u) (ends_apart c (records_fine c ok) u edge) in
    (first_kept fs bs os u low ring.1 once apart on, second_kept fs bs os u low ring.1 once apart on)

-- the fourth refusal of five is not the first one, if it does not hold where the three before it do not
not_fourth : (a b e r s : Bool) (m k : ℕ) → (a ≡ true → b ≡ true → e ≡ true → r ≡ true)
    → answer_of {T = ℕ × ℕ} [] (unless a Unnamed ++ unless b NotOneWire ++ (unless e EndsNotOnWire ++ (unless r FaceRule ++ unless s NoSpace))) (m, k) ≡ Err (Refused FaceRule) → ⊥
not_fourth false b e r s m k h z = let y : true ≡ false = cc in true≢false y
not_fourth true false e r s m k h z = let y : true ≡ false = cc in true≢false y
not_fourth true true false r s m k h z = let y : true ≡ false = cc in true≢false y
not_fourth true true true false s m k h z = true≢false (sym (h refl refl refl))
not_fourth true true true true false m k h z = let y : true ≡ false = cc in true≢false y
not_fourth true true true true true m k h z = let y : true ≡ false = cc in true≢false y

-- cut_by_edge, which passes one use, a number of 16 bits
module _ (p : Pattern) (f u m k : ℕ) (low : u < 65536) where
  abbrev c : Content
  c = content p

  abbrev fronts : List ℕ
  fronts = fronts_in c

  abbrev backs : List ℕ
  backs = backs_in c

  abbrev outline : List ℕ
  outline = outline_of c f

  abbrev wires : List (List ℕ)
  wires = cut_in_two c f (u ∷ [])

  abbrev rule : Bool
  rule = keeps_rule fronts backs (first_cut fronts backs outline (u ∷ []) ∷ []) && keeps_rule fronts backs (second_cut fronts backs outline (u ∷ []) ∷ [])

  rule_kept : pattern_faults p ≡ [] → (is_face c f && are_uses c (u ∷ [])) ≡ true → eqb (length (boundaries c f)) 1 ≡ true → ends_on fronts backs outline (u ∷ []) ≡ true → rule ≡ true
  rule_kept ok x y z = let both = edge_cut_kept c f u (pattern_passed p ok).content low x y z in rw (both.0, both.1)

  -- it is never answered 28
  pub cut_by_edge_not_28 : cut_face_answer p f (u ∷ []) m k ≡ (Err (Refused FaceRule)) → ⊥
  cut_by_edge_not_28 = go (pattern_faults p) refl
    where
      go : (rs : List Refusal) → pattern_faults p ≡ rs → answer_of {T = ℕ × ℕ} rs (cut_face_faults c f (u ∷ []) m k) (length (flat wires), length wires) ≡ Err (Refused FaceRule) → ⊥
      go (r ∷ rs) ok h = let y : true ≡ false = cc in true≢false y
      go [] ok h =
          not_fourth (is_face c f && are_uses c (u ∷ [])) (eqb (length (boundaries c f)) 1) (ends_on fronts backs outline (u ∷ [])) rule (fits wires m k) (length (flat wires)) (length wires)
          (rule_kept ok) h
