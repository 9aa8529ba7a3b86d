-- The answer of an edit of a face that is done tells how many uses and wires were written, and they fit.
use Rattle.std.specs.Prelude.{Err, Ok, Result}
use Prim.Native.Nat.{◌-◌, ◌≤◌, ℕ}
use mathlib.Core.Bool.{false, true}
use mathlib.Core.List.{List, [], ◌∷◌, map}
use mathlib.Core.Logic.{⊎_elim}
use mathlib.Core.Path.{◌∙◌, ◌≡◌, ap, refl}
use native.Mathlib.Omega.{arith}
use lib.Dec.{leb}
use lib.ListN.{length, length-append, length-map, length-replicate, replicate, take}
use lib.Seq.{length-sets, sets}
use borrow.Author.Tests.{leb-true}
use Rattle.answers.specs.Values.{face_values}
use Rattle.answers.specs.declared.Answer.{Answer}
use Rattle.edit_answers.specs.Answers.{answer_of, judged}
use Rattle.edit_answers.specs.declared.FaceEditError.{FaceEditError}
use Rattle.edit_answers.specs.declared.FaceEditError.TheVariants.{NoSpace}
use Rattle.errors.specs.declared.Refusal.{Refusal}
use Rattle.face_edits.specs.FaceEdits.{add_faults, added, cut_face_faults, cut_in_two, fits, glue_faults, glued}
use Rattle.answers.specs.Read.{if_read, when_read}
use Rattle.lists.proofs.Laws.{cases, left_true, right_true}
use Rattle.lists.proofs.Parts.{split_flat}
use Rattle.lists.proofs.Sets.{take_sets}
use Rattle.job_lines.specs.declared.FaceTask.{FaceTask}
use Rattle.job_lines.specs.declared.FaceTask.TheVariants.{Add, CutFace, Glue}
use Rattle.lists.specs.Lists.{flat, split, sum, unless}
use Rattle.shell_edits.proofs.Accepted.{sum_lengths}
use Rattle.pattern.specs.Checks.{pattern_faults}
use Rattle.pattern.specs.Contents.{content}
use Rattle.store_read.specs.Loading.{check_of, pattern_of}
use Rattle.job_edits.specs.JobEdits.{face_answer, face_wires, named, wire_named}

pub record Told (a : Answer) (ws : List (List ℕ)) : Type 0 where
  pub uses : length (flat ws) ≡ a.first
  pub wires : length ws ≡ a.second
  pub few_uses : length (flat ws) ≤ 4096
  pub few_wires : length ws ≤ 4096

-- an edit whose last refusal is 17
module _ (ws : List (List ℕ)) where
  abbrev answer : List Refusal → List FaceEditError → Answer
  answer rs es = face_values (answer_of rs es (length (flat ws), length ws))

  abbrev wires_of_lem : List Refusal → List FaceEditError → List (List ℕ)
  wires_of_lem rs es = judged rs es (λ (f : Refusal). []) (λ (e : FaceEditError). []) ws

  fitting : length (unless (fits ws 4096 4096) NoSpace) ≡ 0 → fits ws 4096 4096 ≡ true
  fitting e = ⊎_elim (λ (h : fits ws 4096 4096 ≡ true). h) (λ (h : fits ws 4096 4096 ≡ false). absurd (omega (arith, rw h at e))) (cases (fits ws 4096 4096))

  told_judged : (rs : List Refusal) (es : List FaceEditError) → (es ≡ [] → fits ws 4096 4096 ≡ true) → (answer rs es).outcome ≡ 0 → Told (answer rs es) (wires_of_lem rs es)
  told_judged (r ∷ rs) es f e = absurd (omega (arith, e))
  told_judged [] (x ∷ es) f e = absurd (omega (arith, e))
  told_judged [] [] f e =
      let h = f refl in
      record {
        uses = refl;
        wires = refl;
        few_uses = leb-true (length (flat ws)) 4096 (left_true (leb (length (flat ws)) 4096) (leb (length ws) 4096) h);
        few_wires = leb-true (length ws) 4096 (right_true (leb (length (flat ws)) 4096) (leb (length ws) 4096) h);
      }

  told_read : (r : Result Unit Refusal) (rs : List Refusal) (es : List FaceEditError) → (es ≡ [] → fits ws 4096 4096 ≡ true)
      → (when_read r (answer rs es)).outcome ≡ 0 → Told (when_read r (answer rs es)) (if_read r (wires_of_lem rs es))
  told_read (Err f) rs es h e = absurd (omega (arith, e))
  told_read (Ok x) rs es h e = told_judged rs es h e

pub told : (t : FaceTask) (vs s : List ℕ) → (face_answer t vs s).outcome ≡ 0 → Told (face_answer t vs s) (face_wires t vs s)
told Add vs s =
    let p = pattern_of s in
    let c = content p in
    let f = named vs 0 in
    let us = wire_named vs in
    told_read (added c f us) (check_of s) (pattern_faults p) (add_faults c f us 4096 4096) (λ e. fitting (added c f us) (omega (arith, rw (length-append, length-append) at (ap length e))))
told CutFace vs s =
    let p = pattern_of s in
    let c = content p in
    let f = named vs 0 in
    let us = wire_named vs in
    told_read (cut_in_two c f us) (check_of s) (pattern_faults p) (cut_face_faults c f us 4096 4096) (λ e. fitting (cut_in_two c f us) (omega (arith, rw (length-append, length-append, length-append, length-append) at (ap length e))))
told Glue vs s =
    let p = pattern_of s in
    let c = content p in
    let f = named vs 0 in
    let g = named vs 1 in
    told_read (glued c f g) (check_of s) (pattern_faults p) (glue_faults c f g 4096 4096) (λ e. fitting (glued c f g) (omega (arith, rw (length-append, length-append, length-append, length-append, length-append) at (ap length e))))

-- what was answered, and the lists that took the wires
pub record Held (t : FaceTask) (vs s : List ℕ) (a : Answer) (uses lens : List ℕ) : Type 0 where
  pub is : a ≡ face_answer t vs s
  pub done : a.outcome ≡ 0
  pub held : uses ≡ sets (replicate 4096 0) 0 (flat (face_wires t vs s))
  pub kept : lens ≡ sets (replicate 4096 0) 0 (map length (face_wires t vs s))

module _ {t : FaceTask} {vs s : List ℕ} {a : Answer} {uses lens : List ℕ} (h : Held t vs s a uses lens) where
  told_of : Told a (face_wires t vs s)
  told_of = rw h.is (told t vs s (rw h.is at h.done))

  told_uses : take (a.first - 0) uses ≡ flat (face_wires t vs s)
  told_uses =
      let k = told_of in
      let e : a.first - 0 ≡ a.first = omega arith in
      rw (e, h.held) (take_sets (replicate 4096 0) (flat (face_wires t vs s)) a.first k.uses (omega (arith, k.uses, k.few_uses, length-replicate {A = ℕ} 4096 0)))

  told_lens : take (a.second - 0) lens ≡ map length (face_wires t vs s)
  told_lens =
      let k = told_of in
      let e : a.second - 0 ≡ a.second = omega arith in
      rw (e, h.kept)
      (take_sets (replicate 4096 0) (map length (face_wires t vs s)) a.second (length-map (face_wires t vs s) length ∙ k.wires) (omega (arith, k.wires, k.few_wires, length-replicate {A = ℕ} 4096 0)))

  pub told_room : (a.first ≤ length uses) × (a.second ≤ length lens)
  told_room =
      let k = told_of in
      let z = length-replicate {A = ℕ} 4096 0 in (
        omega (arith, k.uses, k.few_uses, ap length h.held, length-sets (replicate 4096 0) 0 (flat (face_wires t vs s))),
        omega (arith, k.wires, k.few_wires, ap length h.kept, length-sets (replicate 4096 0) 0 (map length (face_wires t vs s))),
      )

  pub told_fits : (sum (take (a.second - 0) lens) ≡ length (take (a.first - 0) uses)) × (length (take (a.first - 0) uses) ≤ 4096) × (length (take (a.second - 0) lens) ≤ 4096)
  told_fits =
      let k = told_of in
      rw (told_uses, told_lens) (sum_lengths (face_wires t vs s), k.few_uses, omega (arith, length-map (face_wires t vs s) length, k.few_wires))

  pub told_parts : split (take (a.second - 0) lens) (take (a.first - 0) uses) ≡ face_wires t vs s
  told_parts = rw (told_uses, told_lens) (split_flat (face_wires t vs s))
