-- The theorems of the cut, of every pattern without fault.
use Rattle.std.specs.Prelude.{Ok}
use Prim.Native.Nat.{◌+◌, ◌<◌, ℕ}
use mathlib.Core.Bool.{false, not}
use mathlib.Core.List.{List, [], ◌∷◌, map}
use mathlib.Core.Path.{◌∙◌, ◌≡◌, ap, refl}
use native.Mathlib.Omega.{arith}
use lib.Dec.{eqb}
use lib.ListN.{get_or-append, length, length-map}
use Rattle.curve.specs.Curves.{cut_curve}
use Rattle.curve.specs.declared.Parameter.{Parameter}
use Rattle.edit_answers.specs.Answers.{answer_of, cut_reply}
use Rattle.edit_answers.specs.declared.EditError.{EditError}
use Rattle.lists.proofs.Marks.{AllBelow}
use Rattle.lists.specs.Lists.{flat, has}
use Rattle.pattern.proofs.Counts.{Full}
use Rattle.pattern.proofs.Passed.{pattern_passed}
use Rattle.pattern.specs.Checks.{content_faults, count_faults, pattern_faults}
use Rattle.pattern.specs.Contents.{Content, Pattern, content, counts_of, zero_edge}
use Rattle.shell.specs.Openings.{front_in}
use Rattle.shell_edits.proofs.CutMade.{accepted, again, cut_long, edges_few, grows, no_space, old_edge, two_more, uses_few}
use Rattle.shell_edits.specs.Answers.{after_cut, cut_answer, next_edge}
use Rattle.shell_edits.specs.Edits.{cut_content, cut_faults, cut_wires, edge_at, uses_in}
use Rattle.shell_edits.specs.NewEdges.{half_edges}
use Rattle.shell_edits.specs.Theorems.{OnlyNoRoom, first_number, some_there_and_back, wires_with}
use Rattle.pattern.proofs.Stored.{stored_content}
use Rattle.shell_edits.proofs.Stored.{after_accepted, edited_few, wires_few}

-- ---- a cut that is not refused, of shell n, edge e, at point p
module _ (c : Content) (n e p : ℕ) (at : Parameter) (ok : content_faults c ≡ []) where
  -- the content has no fault afterwards
  pub cut_accepted : cut_faults c n e p at ≡ [] → content_faults (cut_content c n e p at) ≡ []
  cut_accepted cut = accepted c ok n e p at cut

  -- the same cut again, with any parameter, is answered 14
  pub cut_again : cut_faults c n e p at ≡ [] → (at' : Parameter) → first_number (cut_faults (cut_content c n e p at) n e p at') ≡ 14
  cut_again cut at' = again c ok n e p at cut at'

  -- for a point that is named and not in the shell afterwards, the old edge is answered 15 exactly if no wire of the shell had it there and back
  pub cut_old_edge : cut_faults c n e p at ≡ [] → AllBelow 65536 c.uses → (q : ℕ) (at' : Parameter) → q < length c.points
      → has q (map (front_in (cut_content c n e p at)) (uses_in (cut_content c n e p at) n)) ≡ false
      → eqb (first_number (cut_faults (cut_content c n e p at) n e q at')) 15 ≡ not (some_there_and_back c n e)
  cut_old_edge cut small q at' h out = old_edge c ok n e p at cut small q at' h out

  -- two edges more, and the old ones keep their numbers and records
  pub cut_edges : cut_faults c n e p at ≡ []
      → (length (cut_content c n e p at).edges ≡ length c.edges + 2) × ((k : ℕ) → k < length c.edges → edge_at (cut_content c n e p at) k ≡ edge_at c k)
  cut_edges cut = (two_more c ok n e p at cut, λ k h. get_or-append c.edges (half_edges (edge_at c e) p (cut_curve (edge_at c e).curve at)) zero_edge k h)

  -- the use list grows by one use for each stored wire of the shell with the edge
  pub cut_grows : length (flat (cut_wires c n e)) ≡ length c.uses + length (wires_with c n e)
  cut_grows = grows c ok n e

  -- 17 is answered exactly if nothing else is wrong and the edge table or the use list would pass its limit
  pub cut_no_space : (first_number (cut_faults c n e p at) ≡ 17 → OnlyNoRoom c n e (cut_faults c n e p at)) × (OnlyNoRoom c n e (cut_faults c n e p at) → first_number (cut_faults c n e p at) ≡ 17)
  cut_no_space = no_space c ok n e p at

-- ---- the same of a pattern in storage; `Full` holds of every value of its type
module _ (p : Pattern) (n e v : ℕ) (at : Parameter) (ok : pattern_faults p ≡ []) where
  -- the number of the answer is that of the first refusal
  pub cut_answered : (cut_reply (cut_answer p n e v at)).number ≡ first_number (cut_faults (content p) n e v at)
  cut_answered = rw ok (go (cut_faults (content p) n e v at))
    where
      go : (es : List EditError) → (cut_reply (answer_of [] es (next_edge p 0, next_edge p 1))).number ≡ first_number es
      go [] = refl
      go (x ∷ es) = refl

  -- the numbers given are the next two
  pub cut_numbers : cut_faults (content p) n e v at ≡ [] → cut_answer p n e v at ≡ (Ok (record { 0 = length (content p).edges }, record { 0 = length (content p).edges + 1 }))
  cut_numbers cut =
      let z : length (content p).edges + 0 ≡ length (content p).edges = omega arith in
      rw (ok, cut) (λ i. (Ok (record { 0 = z i }, record { 0 = length (content p).edges + 1 })))

  module _ (full : Full p) where
    abbrev fine : content_faults (content p) ≡ []
    fine = (pattern_passed p ok).content

    pub cut_few : cut_faults (content p) n e v at ≡ [] → count_faults (counts_of (cut_content (content p) n e v at)) ≡ []
    cut_few cut =
        let c = content p in
        let ws = cut_wires c n e in
        edited_few p full (half_edges (edge_at c e) v (cut_curve (edge_at c e).curve at)) (flat ws) (map length ws)
        (omega (arith, edges_few c fine n e v at cut, two_more c fine n e v at cut)) (uses_few c fine n e v at cut)
        (omega (arith, length-map ws length, cut_long c fine n e v at cut, wires_few p full))

    -- the pattern means the cut content afterwards
    pub cut_content_lem : cut_faults (content p) n e v at ≡ [] → content (after_cut p n e v at) ≡ cut_content (content p) n e v at
    cut_content_lem cut = rw (ok, cut) (stored_content p full (cut_content (content p) n e v at) (cut_few cut))

    -- refused or not, the pattern has no fault afterwards
    pub cut_pattern_accepted : pattern_faults (after_cut p n e v at) ≡ []
    cut_pattern_accepted =
        after_accepted p full ok (cut_content (content p) n e v at) (cut_faults (content p) n e v at) (λ cut. (cut_few cut, accepted (content p) fine n e v at cut))

-- the same cut again, of the pattern afterwards, is answered 14
pub cut_answered_again : (p : Pattern) (n e v : ℕ) (at : Parameter) → pattern_faults p ≡ [] → Full p
    → cut_faults (content p) n e v at ≡ [] → (at' : Parameter)
    → (cut_reply (cut_answer (after_cut p n e v at) n e v at')).number ≡ 14
cut_answered_again p n e v at ok full cut at' =
    cut_answered (after_cut p n e v at) n e v at' (cut_pattern_accepted p n e v at ok full)
    ∙ ap (λ (c : Content). first_number (cut_faults c n e v at')) (cut_content_lem p n e v at ok full cut)
    ∙ cut_again (content p) n e v at (pattern_passed p ok).content cut at'
