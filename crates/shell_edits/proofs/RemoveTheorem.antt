-- What holds of every removal of a point.
use Rattle.errors.specs.declared.CallError.TheVariants.{Refused}
use Rattle.std.specs.Prelude.{Err, Ok}
use Prim.Native.Nat.{◌+◌, ◌<◌, ◌≤◌, ℕ}
use mathlib.Core.Bool.{◌&&◌, ◌||◌, false, not}
use mathlib.Core.List.{List, [], ◌++◌, ◌∷◌, map}
use mathlib.Core.Path.{◌≡◌, refl}
use native.Mathlib.Omega.{arith}
use lib.Dec.{leb, ltb}
use lib.ListN.{length, length-append, length-map}
use Rattle.edge.specs.declared.EdgeID.{EdgeID}
use Rattle.edit_answers.specs.declared.EditError.TheVariants.{NoSpace, NotOneOrTwoWires, SharedFace, Unmatched, Unnamed}
use Rattle.lists.proofs.Count.{All}
use Rattle.lists.specs.Lists.{has, unless}
use Rattle.pattern.proofs.Counts.{Full}
use Rattle.pattern.proofs.Passed.{pattern_passed}
use Rattle.pattern.specs.Checks.{content_faults, count_faults, pattern_faults}
use Rattle.pattern.specs.Contents.{Content, Pattern, content, counts_of}
use Rattle.shell.specs.Openings.{back_in}
use Rattle.shell_edits.proofs.Removal.{point_gone, remove_allowed, removal_accepted, uses_fewer, wires_many}
use Rattle.shell_edits.proofs.Stored.{NotFull, after_accepted, edited_few, given, join_no_space, more_not_full, unless_not_full, uses_few, wires_few}
use Rattle.shell_edits.specs.Answers.{after_remove, remove_answer}
use Rattle.shell_edits.specs.Edits.{end_use, ending_wires, first_wire, joined_edge, last_wire, matched, near_faults, next_use, remove_content, remove_faults, remove_wires, shares_face, uses_in}
use Rattle.shell_edits.specs.Theorems.{Given, OnlyFull}

-- an accepted content stays so
pub remove_accepted : (c : Content) → content_faults c ≡ [] → (n p : ℕ) → remove_faults c n p ≡ [] → content_faults (remove_content c n p) ≡ []
remove_accepted c ok n p h = removal_accepted c ok n p h

-- no use of the shell ends at the point
pub removed : (c : Content) → content_faults c ≡ [] → (n p : ℕ) → remove_faults c n p ≡ []
    → has p (map (back_in (remove_content c n p)) (uses_in (remove_content c n p) n)) ≡ false
removed c ok n p h = point_gone c ok n p h

-- one or two wires change, and each has one use less
pub remove_uses : (c : Content) → content_faults c ≡ [] → (n p : ℕ) → remove_faults c n p ≡ []
    → (length (remove_content c n p).uses + length (ending_wires c n p) ≡ length c.uses) × (0 < length (ending_wires c n p)) × (length (ending_wires c n p) ≤ 2)
remove_uses c ok n p h = let t = remove_allowed c n p h in (uses_fewer c ok n p h, t.some, t.few)

module _ (p : Pattern) (full : Full p) (n v : ℕ) where
  abbrev c : Content
  c = content p

  abbrev ws : List ℕ
  ws = ending_wires c n v

  abbrev u : ℕ
  u = end_use c v (last_wire ws)

  abbrev w : ℕ
  w = next_use c v (last_wire ws)

  pub remove_few : pattern_faults p ≡ [] → remove_faults c n v ≡ [] → count_faults (counts_of (remove_content c n v)) ≡ []
  remove_few ok h =
      let fine = (pattern_passed p ok).content in
      let wires = remove_wires c n v in
      edited_few p full (joined_edge c u w ∷ []) (remove_content c n v).uses (map length wires)
      (omega (arith, length-append c.edges (joined_edge c u w ∷ []), (remove_allowed c n v h).joins.room)) (omega (arith, uses_fewer c fine n v h, uses_few p full))
      (omega (arith, length-map wires length, wires_many c fine n v h, wires_few p full))

  -- an accepted pattern stays so, refused or not
  pub remove_pattern_accepted : pattern_faults p ≡ [] → pattern_faults (after_remove p n v) ≡ []
  remove_pattern_accepted ok =
      after_accepted p full ok (remove_content c n v) (remove_faults c n v)
      (λ h. (remove_few ok h, remove_accepted c (pattern_passed p ok).content n v h))

  near_not_full : All NotFull (near_faults c n v)
  near_not_full =
      let a = unless (ltb n (length c.shells) && ltb v (length c.points)) Unnamed in
      let b = unless (not (shares_face c n)) SharedFace in
      let some = ltb 0 (length ws) && leb (length ws) 2 in
      let match = ltb (length ws) 2 || matched c v (first_wire ws) (last_wire ws) in
      more_not_full (a ++ b ++ unless some NotOneOrTwoWires) match Unmatched
      (more_not_full (a ++ b) some NotOneOrTwoWires
      (more_not_full a (not (shares_face c n)) SharedFace
      (unless_not_full (ltb n (length c.shells) && ltb v (length c.points)) Unnamed refl) refl) refl) refl

  -- 17 is answered exactly if nothing else is wrong and the edges are full
  pub remove_no_space : (remove_answer p n v ≡ (Err (Refused NoSpace)) → OnlyFull p (remove_faults c n v)) × (OnlyFull p (remove_faults c n v) → remove_answer p n v ≡ (Err (Refused NoSpace)))
  remove_no_space = join_no_space p full (near_faults c n v) near_not_full u w

  -- the number given is that of the new edge, and the old ones stand as they stood
  pub remove_numbers : (a : EdgeID) → remove_answer p n v ≡ Ok a → Given p (after_remove p n v) a (joined_edge c u w)
  remove_numbers a h = given p full (remove_faults c n v) (joined_edge c u w) (remove_content c n v).uses (remove_content c n v).wires a remove_few h
