-- The edit that the definition names.
use mathlib.Core.List.{List, map}
use mathlib.Core.Path.{◌∙◌, ap, refl, sym}
use Prim.Native.Nat.{ℕ}
use lib.ListN.{length}
use lib.Seq.{sets}
use Rattle.job_edits.proofs.Edits.{add_is, add_wires, cut_face_is, cut_face_wires}
use Rattle.lists.specs.Lists.{flat}
use Rattle.job_edits.proofs.face_job.Goals as goal

pub returns-in-Add-clause-value : goal.returns-in-Add-clause-value
returns-in-Add-clause-value c = c.add_named.ensures.value ∙ sym (add_is c.args.v.now c.args.file.now c.saturated-face.ensures c.requires.uses_len.0 c.requires.uses_len.1 refl c.in-Add.is)

pub returns-in-Add-clause-uses_after : goal.returns-in-Add-clause-uses_after
returns-in-Add-clause-uses_after c = c.add_named.ensures.uses_after ∙ sym (ap (λ (ws : List (List ℕ)). sets c.args.uses.now 0 (flat ws)) (add_wires c.args.v.now c.args.file.now c.saturated-face.ensures c.requires.uses_len.0 c.requires.uses_len.1 refl c.in-Add.is))

pub returns-in-Add-clause-lens_after : goal.returns-in-Add-clause-lens_after
returns-in-Add-clause-lens_after c = c.add_named.ensures.lens_after ∙ sym (ap (λ (ws : List (List ℕ)). sets c.args.lens.now 0 (map length ws)) (add_wires c.args.v.now c.args.file.now c.saturated-face.ensures c.requires.uses_len.0 c.requires.uses_len.1 refl c.in-Add.is))

pub returns-in-CutFace-clause-value : goal.returns-in-CutFace-clause-value
returns-in-CutFace-clause-value c = c.cut_named.ensures.value ∙ sym (cut_face_is c.args.v.now c.args.file.now c.saturated-face.ensures c.requires.uses_len.0 c.requires.uses_len.1 refl c.in-CutFace.is)

pub returns-in-CutFace-clause-uses_after : goal.returns-in-CutFace-clause-uses_after
returns-in-CutFace-clause-uses_after c = c.cut_named.ensures.uses_after ∙ sym (ap (λ (ws : List (List ℕ)). sets c.args.uses.now 0 (flat ws)) (cut_face_wires c.args.v.now c.args.file.now c.saturated-face.ensures c.requires.uses_len.0 c.requires.uses_len.1 refl c.in-CutFace.is))

pub returns-in-CutFace-clause-lens_after : goal.returns-in-CutFace-clause-lens_after
returns-in-CutFace-clause-lens_after c = c.cut_named.ensures.lens_after ∙ sym (ap (λ (ws : List (List ℕ)). sets c.args.lens.now 0 (map length ws)) (cut_face_wires c.args.v.now c.args.file.now c.saturated-face.ensures c.requires.uses_len.0 c.requires.uses_len.1 refl c.in-CutFace.is))
