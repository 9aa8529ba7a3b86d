-- What a cut keeps: of its shell, where no wire of the shell has the edge there and back, and of the solid.
use Prim.Native.Nat.{◌+◌, ℕ}
use mathlib.Core.Bool.{false, true}
use mathlib.Core.List.{[], map}
use mathlib.Core.Logic.{⊎_elim}
use mathlib.Core.Path.{◌∙◌, ◌≡◌, ap}
use lib.Dec.{eqb}
use lib.ListN.{length}
use borrow.Author.Tests.{eqb-false, eqb-true}
use Rattle.curve.specs.declared.Parameter.{Parameter}
use Rattle.lists.proofs.Laws.{cases}
use Rattle.lists.proofs.Marks.{AllBelow}
use Rattle.lists.proofs.Parts.{all_flat}
use Rattle.lists.specs.Lists.{flat, numbers}
use Rattle.pattern.proofs.Counts.{Full}
use Rattle.pattern.proofs.Passed.{pattern_passed}
use Rattle.pattern.specs.Checks.{content_faults, pattern_faults}
use Rattle.pattern.specs.Contents.{Content, Pattern, content}
use Rattle.shell.proofs.Level.{shell_fine}
use Rattle.shell.specs.Components.{components}
use Rattle.shell.specs.Conditions.{condition}
use Rattle.shell.specs.Connected.{connected, connected_of}
use Rattle.shell.specs.Openings.{back_in, front_in}
use Rattle.shell.specs.Shells.{shell_faces, shell_uses, shell_wires}
use Rattle.shell.specs.Singular.{singular_of, singular_points}
use Rattle.shell_edits.proofs.CutMade.{two_more}
use Rattle.shell_edits.proofs.CutTheorem.{cut_content_lem}
use Rattle.shell_edits.proofs.KeepsComponents.{components_kept}
use Rattle.shell_edits.proofs.KeepsCondition.{condition_halved}
use Rattle.shell_edits.proofs.KeepsConnected.{connected_halved}
use Rattle.shell_edits.proofs.KeepsShell.{Clear, cut_ends, faces_clear, faces_halved, point_inside, uses_halved, wires_halved}
use Rattle.shell_edits.proofs.KeepsSingular.{singular_halved}
use Rattle.shell_edits.proofs.Locality.{cut_others}
use Rattle.shell_edits.specs.Answers.{after_cut}
use Rattle.shell_edits.specs.Edits.{cut_content, cut_faults}
use Rattle.shell_edits.specs.Keeps.{SameShell, halved}
use Rattle.shell_edits.specs.Theorems.{some_there_and_back}
use Rattle.solid.specs.Solid.{first_of_solid, in_shell, shell_errors, solid_errors, solid_of}

-- ---- a cut that is not refused, of shell n, edge e, at point p, in a content without fault
module _ (c : Content) (n e p : ℕ) (at : Parameter) (ok : content_faults c ≡ []) (small : AllBelow 65536 c.uses) (cut : cut_faults c n e p at ≡ [])
    (one_way : some_there_and_back c n e ≡ false) where
  -- every use of the edge in the shell gives way to its halves, in the use's direction; all other uses stay
  pub cut_halves : shell_uses (cut_content c n e p at) n ≡ halved e (length c.edges) (shell_uses c n)
  cut_halves = uses_halved c ok n e p at cut small one_way

  -- the shell keeps its condition
  pub cut_keeps_condition : condition (shell_uses (cut_content c n e p at) n) ≡ condition (shell_uses c n)
  cut_keeps_condition =
      let t = cut_ends c ok n e p at cut in
      ap condition cut_halves ∙ condition_halved e (length c.edges) t.inside t.few (shell_uses c n) (shell_fine c ok small n).named

  -- it is connected exactly if it was
  pub cut_keeps_connected : connected (cut_content c n e p at) n ≡ connected c n
  cut_keeps_connected =
      let d = cut_content c n e p at in
      let points = length c.points in
      ap (connected_of (front_in d) (back_in d) points) (faces_halved c ok n e p at cut small one_way)
      ∙ connected_halved e (length c.edges) p points (front_in c) (back_in c) (front_in d) (back_in d) (cut_ends c ok n e p at cut) (point_inside c ok n e p at cut)
      (shell_faces c n) (faces_clear c ok n e p at cut small one_way)

  -- it has the singular points that it had
  pub cut_keeps_singular : singular_points (cut_content c n e p at) n ≡ singular_points c n
  unfolding shell_wires
  cut_keeps_singular =
      let d = cut_content c n e p at in
      let a = length c.edges in
      let points = length c.points in
      ap (λ (m : ℕ). singular_of (front_in d) (back_in d) m points (shell_wires d n)) (two_more c ok n e p at cut)
      ∙ ap (singular_of (front_in d) (back_in d) (a + 2) points) (wires_halved c ok n e p at cut small one_way)
      ∙ singular_halved e a p points (front_in c) (back_in c) (front_in d) (back_in d) (cut_ends c ok n e p at cut) (shell_wires c n)
      (all_flat (Clear a p points (front_in c) (back_in c)) (shell_faces c n) (faces_clear c ok n e p at cut small one_way))

  -- so what is wrong with the shell for the solid is what it was
  pub cut_keeps_errors : shell_errors (cut_content c n e p at) n ≡ shell_errors c n
  cut_keeps_errors = rw (cut_keeps_condition, cut_keeps_connected, cut_keeps_singular)

  -- the same face and sign pairs make up its components
  pub cut_keeps_components : components (cut_content c n e p at) n ≡ components c n
  cut_keeps_components = components_kept c ok n e p at cut small one_way

  pub cut_keeps : SameShell c (cut_content c n e p at) n
  cut_keeps = record {
    same_condition = cut_keeps_condition;
    same_connected = cut_keeps_connected;
    same_singular = cut_keeps_singular;
    same_errors = cut_keeps_errors;
    same_components = cut_keeps_components;
  }

-- ---- the solid: the other shells are what they were in any case
module _ (c : Content) (n e p : ℕ) (at : Parameter) (ok : content_faults c ≡ []) (small : AllBelow 65536 c.uses) (cut : cut_faults c n e p at ≡ []) where
  other_errors : (m : ℕ) → (m ≡ n → ⊥) → shell_errors (cut_content c n e p at) m ≡ shell_errors c m
  other_errors m apart = let k = cut_others c ok m n e p at cut apart in rw (k.condition_kept, k.connected_kept, k.singular_kept)

  -- its verdict is what it was
  pub cut_keeps_solid : some_there_and_back c n e ≡ false → solid_of (cut_content c n e p at) ≡ solid_of c
  unfolding solid_errors
  cut_keeps_solid one_way = λ i. first_of_solid (flat (map (λ (m : ℕ). in_shell m (same m i)) (numbers (length c.shells))))
    where
      same : (m : ℕ) → shell_errors (cut_content c n e p at) m ≡ shell_errors c m
      same m =
          ⊎_elim
          (λ (z : eqb m n ≡ true). rw (eqb-true m n z) (cut_keeps_errors c n e p at ok small cut one_way))
          (λ (z : eqb m n ≡ false). other_errors m (eqb-false m n z))
          (cases (eqb m n))

-- ---- the same of a pattern in storage; `Full` holds of every store
module _ (p : Pattern) (n e v : ℕ) (at : Parameter) (ok : pattern_faults p ≡ []) (full : Full p) (small : AllBelow 65536 (content p).uses) where
  pub cut_pattern_keeps : cut_faults (content p) n e v at ≡ [] → some_there_and_back (content p) n e ≡ false → SameShell (content p) (content (after_cut p n e v at)) n
  cut_pattern_keeps cut one_way = rw (cut_content_lem p n e v at ok full cut) (cut_keeps (content p) n e v at (pattern_passed p ok).content small cut one_way)

  pub cut_pattern_keeps_solid : cut_faults (content p) n e v at ≡ [] → some_there_and_back (content p) n e ≡ false → solid_of (content (after_cut p n e v at)) ≡ solid_of (content p)
  cut_pattern_keeps_solid cut one_way = rw (cut_content_lem p n e v at ok full cut) (cut_keeps_solid (content p) n e v at (pattern_passed p ok).content small cut one_way)
