-- What holds of every concat.
use Rattle.errors.specs.declared.CallError.TheVariants.{Refused}
use Rattle.std.specs.Prelude.{Err, Ok}
use Prim.Native.Nat.{◌<◌, ◌≤◌, ℕ}
use mathlib.Core.Bool.{◌&&◌, true}
use mathlib.Core.List.{List, [], ◌++◌, ◌∷◌, append_assoc, map}
use mathlib.Core.Path.{◌≡◌, refl}
use native.Mathlib.Omega.{arith}
use lib.Dec.{eqb, ltb}
use lib.ListN.{drop, length, length-append, length-drop}
use lib.Seq.{length-take-le}
use borrow.Author.Tests.{ltb-true}
use Rattle.edge.specs.Edges.{back_number, front_number}
use Rattle.edge.specs.Uses.{edge_number}
use Rattle.edge.specs.declared.EdgeID.{EdgeID}
use Rattle.edit_answers.specs.declared.EditError.TheVariants.{Disconnected, NoSpace, Unnamed}
use Rattle.errors.proofs.Laws.{none_left, none_right, unless_passes}
use Rattle.face.specs.Faces.{wire_count}
use Rattle.lists.proofs.Count.{All, all_weaker}
use Rattle.lists.proofs.Laws.{left_true, length_split, right_true}
use Rattle.lists.proofs.Parts.{all_flat, flat_split}
use Rattle.lists.specs.Lists.{flat, split, sum, unless}
use Rattle.pattern.proofs.Counts.{Full}
use Rattle.pattern.proofs.Named.{wires_summed}
use Rattle.pattern.proofs.Passed.{pattern_passed}
use Rattle.pattern.specs.Checks.{content_faults, count_faults, outlines, pattern_faults}
use Rattle.pattern.specs.Contents.{Content, Pattern, content, counts_of}
use Rattle.shell_edits.proofs.Accepted.{edited_accepted, records_fine, rule_fine, rule_ruled, ruled_rule}
use Rattle.shell_edits.proofs.Kept.{Kept, kept_ruled, pairs_split}
use Rattle.shell_edits.proofs.Removal.{NamedUse, all_named, unchanged}
use Rattle.shell_edits.proofs.Remove.{Joins, join_allowed, join_fine}
use Rattle.shell_edits.proofs.Stored.{after_accepted, edited_few, given, join_no_space, more_not_full, unless_not_full, uses_few, wires_few}
use Rattle.shell_edits.specs.Answers.{after_concat, concat_answer}
use Rattle.shell_edits.specs.Edits.{concat_content, concat_faults, edge_of, edited, join_faults, joined_edge, wires_in}
use Rattle.shell_edits.specs.NewEdges.{use_back, use_front}
use Rattle.shell_edits.specs.Theorems.{Given, OnlyFull}

lengths_split {ℓ} : {A : Type ℓ} (ns : List ℕ) (xs : List A) → sum ns ≤ length xs → map length (split ns xs) ≡ ns
unfolding split sum
lengths_split [] xs h = refl
lengths_split (n ∷ ns) xs h = rw (length-take-le n xs (omega arith), lengths_split ns (drop n xs) (omega (arith, length-drop n xs)))

-- a concat that is not refused
pub record Allowed (c : Content) (u v : ℕ) : Type 0 where
  pub one : edge_number u < length c.edges
  pub other : edge_number v < length c.edges
  pub joins : Joins c u v

pub concat_allowed : (c : Content) (u v : ℕ) → concat_faults c u v ≡ [] → Allowed c u v
concat_allowed c u v h =
    let s = ltb (edge_number u) (length c.edges) in
    let t = ltb (edge_number v) (length c.edges) in
    let a = unless (s && t) Unnamed in
    let b = unless (eqb (use_back (edge_of c u) u).0 (use_front (edge_of c v) v).0) Disconnected in
    let both : (s && t) ≡ true = unless_passes (s && t) Unnamed (none_left a (b ++ join_faults c u v) h) in
    record {
      one = ltb-true (edge_number u) (length c.edges) (left_true s t both);
      other = ltb-true (edge_number v) (length c.edges) (right_true s t both);
      joins = join_allowed c u v (none_right b (join_faults c u v) (none_right a (b ++ join_faults c u v) h));
    }

-- one more edge without fault, and the same wires
edge_more : (c : Content) → content_faults c ≡ [] → (u v : ℕ) → Allowed c u v → content_faults (edited c (joined_edge c u v ∷ []) (flat (wires_in c)) (map length (wires_in c))) ≡ []
edge_more c ok u v t =
    let e = joined_edge c u v in
    let fs = map front_number c.edges in
    let bs = map back_number c.edges in
    let fs' = map front_number (c.edges ++ (e ∷ [])) in
    let bs' = map back_number (c.edges ++ (e ∷ [])) in
    let counts = map wire_count c.faces in
    let now : ℕ → Type 0 = λ (x : ℕ). edge_number x < length (c.edges ++ (e ∷ [])) in
    let named : All (All now) (wires_in c) =
    all_weaker (All (NamedUse c ok)) (All now) (λ us h. all_weaker (NamedUse c ok) now (λ x l. omega (arith, length-append c.edges (e ∷ []))) us h) (wires_in c) (all_named c ok) in
    edited_accepted c ok (e ∷ []) (wires_in c) (join_fine c (records_fine c ok) u v t.one t.other t.joins) (length_split c.wires c.uses)
    (all_flat now (wires_in c) named)
    (ruled_rule fs' bs' 0 (outlines c)
    (kept_ruled fs bs fs' bs' (outlines c) (outlines c)
    (pairs_split (Kept fs bs fs' bs') counts (wires_in c) (wires_in c) (unchanged c ok e))
    (rule_ruled fs bs 0 (outlines c) (rule_fine c ok))))

-- an accepted content stays so
pub concat_accepted : (c : Content) → content_faults c ≡ [] → (u v : ℕ) → concat_faults c u v ≡ [] → content_faults (concat_content c u v) ≡ []
concat_accepted c ok u v h =
    let e = joined_edge c u v in
    let summed = wires_summed c (records_fine c ok) in
    let uses : flat (wires_in c) ≡ c.uses = flat_split c.wires c.uses summed in
    let wires : map length (wires_in c) ≡ c.wires = lengths_split c.wires c.uses (omega (arith, summed)) in
    rw (uses, wires) at (edge_more c ok u v (concat_allowed c u v h))

module _ (p : Pattern) (full : Full p) (u v : ℕ) where
  abbrev c : Content
  c = content p

  pub concat_few : concat_faults c u v ≡ [] → count_faults (counts_of (concat_content c u v)) ≡ []
  concat_few h =
      edited_few p full (joined_edge c u v ∷ []) c.uses c.wires
      (omega (arith, length-append c.edges (joined_edge c u v ∷ []), (concat_allowed c u v h).joins.room)) (uses_few p full) (wires_few p full)

  -- an accepted pattern stays so, refused or not
  pub concat_pattern_accepted : pattern_faults p ≡ [] → pattern_faults (after_concat p u v) ≡ []
  concat_pattern_accepted ok =
      after_accepted p full ok (concat_content c u v) (concat_faults c u v)
      (λ h. (concat_few h, concat_accepted c (pattern_passed p ok).content u v h))

  -- 17 is answered exactly if nothing else is wrong and the edges are full
  pub concat_no_space : (concat_answer p u v ≡ (Err (Refused NoSpace)) → OnlyFull p (concat_faults c u v)) × (OnlyFull p (concat_faults c u v) → concat_answer p u v ≡ (Err (Refused NoSpace)))
  concat_no_space =
      let named = ltb (edge_number u) (length c.edges) && ltb (edge_number v) (length c.edges) in
      let meet = eqb (use_back (edge_of c u) u).0 (use_front (edge_of c v) v).0 in
      rw (← append_assoc (unless named Unnamed) (unless meet Disconnected) (join_faults c u v))
      (join_no_space p full (unless named Unnamed ++ unless meet Disconnected) (more_not_full (unless named Unnamed) meet Disconnected (unless_not_full named Unnamed refl) refl) u v)

  -- the number given is that of the new edge, and the old ones stand as they stood
  pub concat_numbers : (a : EdgeID) → concat_answer p u v ≡ Ok a → Given p (after_concat p u v) a (joined_edge c u v)
  concat_numbers a h = given p full (concat_faults c u v) (joined_edge c u v) c.uses c.wires a (λ ok t. concat_few t) h
