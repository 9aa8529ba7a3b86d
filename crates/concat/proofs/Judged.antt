-- The refusals of a join in sequence, from the content that has the two edges.
use Rattle.std.specs.Prelude.{Err, Ok, Result}
use Prim.Native.Nat.{◌<◌, ◌≤◌, ℕ}
use mathlib.Core.Bool.{Bool, ◌&&◌, false, true}
use mathlib.Core.List.{List, [], ◌++◌, ◌∷◌}
use mathlib.Core.Path.{◌∙◌, ◌≡◌, refl, sym}
use native.Mathlib.Omega.{arith}
use lib.Dec.{eqb, ltb}
use lib.ListN.{get_or, length, take}
use lib.Seq.{get_or-take}
use borrow.Author.Tests.{le-ltb, lt-ltb}
use Rattle.concat.specs.Joins.{joint}
use Rattle.edge.proofs.Laws.{no_edge}
use Rattle.edge.specs.Uses.{edge_number}
use Rattle.edge.specs.declared.Edge.{Edge}
use Rattle.edit_answers.specs.declared.EditError.{EditError}
use Rattle.edit_answers.specs.declared.EditError.TheVariants.{Disconnected, Unnamed}
use Rattle.errors.proofs.Laws.{none_right}
use Rattle.lists.proofs.Flat.{get_d_any}
use Rattle.lists.specs.Lists.{unless}
use Rattle.pattern.specs.Contents.{Content, zero_edge}
use Rattle.shell_edits.proofs.Remove.{join_allowed}
use Rattle.shell_edits.specs.Edits.{concat_faults, edge_of, end_faults, join_faults, joined_edge, meet_faults}
use Rattle.shell_edits.specs.NewEdges.{joined_ends, use_back, use_front}

-- edge e of the first n, as the code reads it
pub edge_read : (es : List Edge) (n e : ℕ) → n ≤ length es → e < n → get_or es e no_edge ≡ get_or (take n es) e zero_edge
edge_read es n e l h = get_d_any es e no_edge zero_edge (omega arith) ∙ sym (get_or-take n es e zero_edge h)

-- ---- the joined edge and the refusals are those of the content
module _ (c : Content) (u v edges : ℕ) {a b : Edge} (ea : a ≡ edge_of c u) (eb : b ≡ edge_of c v) (counted : length c.edges ≡ edges) where
  pub joined_is : joined_ends a u b v ≡ joined_edge c u v
  joined_is = rw (ea, eb)

  pub joins_are : end_faults a u b v edges ≡ join_faults c u v
  joins_are = rw (ea, eb, counted)

  pub concat_judged : edge_number u < edges → edge_number v < edges → {r : Result Edge EditError} → r ≡ joint (meet_faults a u b v edges) (joined_ends a u b v)
      → r ≡ joint (concat_faults c u v) (joined_edge c u v)
  concat_judged h i e = e ∙ rw (ea, eb, counted, lt-ltb (edge_number u) edges h, lt-ltb (edge_number v) edges i)

pub and_false : (a b : Bool) → b ≡ false → (a && b) ≡ false
and_false true b h = h
and_false false b h = refl

module _ (c : Content) (u v edges : ℕ) (counted : length c.edges ≡ edges) where
  pub first_unnamed : edges ≤ edge_number u → Err Unnamed ≡ joint (concat_faults c u v) (joined_edge c u v)
  first_unnamed h = rw (counted, le-ltb (edge_number u) edges h)

  pub second_unnamed : edges ≤ edge_number v → Err Unnamed ≡ joint (concat_faults c u v) (joined_edge c u v)
  second_unnamed h = rw (counted, and_false (ltb (edge_number u) edges) (ltb (edge_number v) edges) (le-ltb (edge_number v) edges h))

-- ---- where nothing is refused, there is room
pub joint_none : (es : List EditError) (d : Edge) {k : Edge} → joint es d ≡ Ok k → es ≡ []
joint_none [] d h = refl
joint_none (e ∷ es) d h = cc

pub room_there : (c : Content) (u v : ℕ) → join_faults c u v ≡ [] → length c.edges < 1024
room_there c u v h = omega (arith, (join_allowed c u v h).room)

-- where two uses are joined, no refusal of the join is left
joins_none : (c : Content) (u v : ℕ) (d : Edge) {k : Edge} → joint (concat_faults c u v) d ≡ Ok k → join_faults c u v ≡ []
joins_none c u v d h =
    let named = unless (ltb (edge_number u) (length c.edges) && ltb (edge_number v) (length c.edges)) Unnamed in
    let met = unless (eqb (use_back (edge_of c u) u).0 (use_front (edge_of c v) v).0) Disconnected in
    none_right met (join_faults c u v) (none_right named (met ++ join_faults c u v) (joint_none (concat_faults c u v) d h))

pub concat_room : (c : Content) (u v : ℕ) (d : Edge) {k : Edge} → joint (concat_faults c u v) d ≡ Ok k → length c.edges < 1024
concat_room c u v d h = room_there c u v (joins_none c u v d h)
