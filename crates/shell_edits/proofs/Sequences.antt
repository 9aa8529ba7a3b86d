-- Edits one after the other, each accepted or refused: an accepted pattern stays so, and a shell that none of them edits is as it was.
use Prim.Native.Nat.{ℕ}
use mathlib.Core.List.{List, [], ◌∷◌}
use mathlib.Core.Path.{◌∙◌, ◌≡◌}
use Rattle.lists.proofs.Count.{All}
use Rattle.pattern.proofs.Counts.{Full}
use Rattle.pattern.specs.Checks.{pattern_faults}
use Rattle.pattern.specs.Contents.{Content, Pattern, content}
use Rattle.shell.specs.ShellKept.{ShellKept}
use Rattle.shell_edits.proofs.ConcatTheorem.{concat_pattern_accepted}
use Rattle.shell_edits.proofs.CutTheorem.{cut_pattern_accepted}
use Rattle.shell_edits.proofs.Locality.{others_kept, same_shell}
use Rattle.shell_edits.proofs.Numbers.{edit_done}
use Rattle.shell_edits.proofs.RemoveTheorem.{remove_pattern_accepted}
use Rattle.shell_edits.proofs.VertexTheorem.{vertex_pattern_accepted}
use Rattle.shell_edits.specs.Sequences.{Edit, Elsewhere, concat, cut, do_edit, do_edits, remove, vertex}

-- ---- one edit

edit_accepted : (p : Pattern) → Full p → (x : Edit) → pattern_faults p ≡ [] → pattern_faults (do_edit p x) ≡ []
edit_accepted p full (cut n e v at) ok = cut_pattern_accepted p n e v at ok full
edit_accepted p full (remove n v) ok = remove_pattern_accepted p full n v ok
edit_accepted p full (concat u v) ok = concat_pattern_accepted p full u v ok
edit_accepted p full (vertex label) ok = vertex_pattern_accepted p full label ok

-- ---- one after the other

accepted_all : (p : Pattern) → Full p → (xs : List Edit) → pattern_faults p ≡ [] → pattern_faults (do_edits p xs) ≡ []
unfolding do_edits
accepted_all p full [] ok = ok
accepted_all p full (x ∷ xs) ok = accepted_all (do_edit p x) (edit_done p full x).0 xs (edit_accepted p full x ok)

kept_then : (c d e : Content) (m : ℕ) → ShellKept c d m → ShellKept d e m → ShellKept c e m
kept_then c d e m s t = record {
  listings_kept = t.listings_kept ∙ s.listings_kept;
  faces_kept = t.faces_kept ∙ s.faces_kept;
  uses_kept = t.uses_kept ∙ s.uses_kept;
  fronts_kept = t.fronts_kept ∙ s.fronts_kept;
  backs_kept = t.backs_kept ∙ s.backs_kept;
  condition_kept = t.condition_kept ∙ s.condition_kept;
  connected_kept = t.connected_kept ∙ s.connected_kept;
  openings_kept = t.openings_kept ∙ s.openings_kept;
  lookups_kept = t.lookups_kept ∙ s.lookups_kept;
  components_kept = t.components_kept ∙ s.components_kept;
  singular_kept = t.singular_kept ∙ s.singular_kept;
}

others_all : (p : Pattern) → Full p → (m : ℕ) (xs : List Edit) → All (λ (x : Edit). Elsewhere x m) xs → ShellKept (content p) (content (do_edits p xs)) m
unfolding do_edits
others_all p full m [] h = same_shell (content p) m
others_all p full m (x ∷ xs) h =
    kept_then (content p) (content (do_edit p x)) (content (do_edits (do_edit p x) xs)) m
    (others_kept p full m x h.0) (others_all (do_edit p x) (edit_done p full x).0 m xs h.1)

-- ---- the theorems
module _ (p : Pattern) (full : Full p) (xs : List Edit) where
  -- an accepted pattern stays so
  pub edits_accepted : pattern_faults p ≡ [] → pattern_faults (do_edits p xs) ≡ []
  edits_accepted ok = accepted_all p full xs ok

  -- a shell that none of them edits is as it was
  pub edits_elsewhere : (m : ℕ) → All (λ (x : Edit). Elsewhere x m) xs → ShellKept (content p) (content (do_edits p xs)) m
  edits_elsewhere m h = others_all p full m xs h
