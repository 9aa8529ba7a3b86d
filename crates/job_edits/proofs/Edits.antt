-- Each job is its edit on the file, with its words as numbers of 16 bits.
use Prim.Native.Nat.{◌+◌, ◌-◌, ◌≤◌, ℕ}
use mathlib.Core.List.{List, map}
use mathlib.Core.Path.{◌∙◌, ◌≡◌, ap, refl}
use native.Mathlib.Omega.{arith}
use lib.ListN.{drop, get_or, length, length-drop, length-map, length-replicate, replicate, take}
use lib.Seq.{sets, take_all}
use Rattle.file_concat.specs.FileConcat.{file_concat}
use Rattle.file_cut.specs.FileCut.{file_cut}
use Rattle.file_remove.specs.FileRemove.{file_remove}
use Rattle.file_face_edits.specs.FileFaceEdits.{file_add, file_add_out, file_cut_face, file_cut_face_out}
use Rattle.job_lines.specs.JobLines.{job_kinds}
use Rattle.job_lines.specs.declared.FaceTask.{FaceTask}
use Rattle.job_lines.specs.declared.FaceTask.TheVariants.{Add, CutFace, Glue}
use Rattle.job_lines.specs.declared.ShellTask.{ShellTask}
use Rattle.job_lines.specs.declared.ShellTask.TheVariants.{Concat, Cut, Remove}
use Rattle.job_lines.specs.declared.Task.TheVariants.{Face}
use Rattle.lists.proofs.Sets.{take_sets}
use Rattle.job_edits.specs.JobEdits.{face_answer, face_wires, named, shell_answer, wire_named}
use Rattle.words.specs.Words.{short}

same_two : {B : Type 0} (f : ℕ → ℕ → B) {x x' y y' : ℕ} → x ≡ x' → y ≡ y' → f x' y' ≡ f x y
same_two f p q = rw (p, q)

same_four : {A B : Type 0} (f : ℕ → A → ℕ → ℕ → B) {x x' m m' k k' : ℕ} {y y' : A} → x ≡ x' → m ≡ m' → k ≡ k' → y ≡ y' → f x' y' m' k' ≡ f x y m k
same_four f p q r e = rw (p, q, r, e)

-- ---- edits of a shell

module _ {t : ShellTask} (vs s out : List ℕ) where
  pub cut_is : {e v : ℕ} → t ≡ Cut → e ≡ named vs 1 → v ≡ named vs 2 → shell_answer t vs s out ≡ file_cut s (get_or vs 0 0) e v (get_or vs 3 0) out
  cut_is h p q = ap (λ (k : ShellTask). shell_answer k vs s out) h ∙ same_two (λ (x y : ℕ). file_cut s (get_or vs 0 0) x y (get_or vs 3 0) out) p q

  pub remove_is : {v : ℕ} → t ≡ Remove → v ≡ named vs 1 → shell_answer t vs s out ≡ file_remove s (get_or vs 0 0) v out
  remove_is h p = ap (λ (k : ShellTask). shell_answer k vs s out) h ∙ same_two (λ (x y : ℕ). file_remove s x y out) refl p

  pub concat_is : {u v : ℕ} → t ≡ Concat → u ≡ named vs 0 → v ≡ named vs 1 → shell_answer t vs s out ≡ file_concat s u v out
  concat_is h p q = ap (λ (k : ShellTask). shell_answer k vs s out) h ∙ same_two (λ (x y : ℕ). file_concat s x y out) p q

-- ---- edits of a face

kinds_some : (t : FaceTask) → 1 ≤ length (job_kinds (Face t))
kinds_some Add = omega arith
kinds_some CutFace = omega arith
kinds_some Glue = omega arith

-- the wire of an edit, from the values that were stored
pub wire_is : (vs l w : List ℕ) (n : ℕ) → 1 ≤ length vs → length vs ≤ length l → n ≡ length vs - 1
    → w ≡ sets l 0 (map short (take (n + 1 - 1) (drop 1 vs))) → take (n - 0) w ≡ wire_named vs
wire_is vs l w n h m e is =
    let a : n + 1 - 1 ≡ n = omega arith in
    let b : n - 0 ≡ n = omega arith in
    let d : length (wire_named vs) ≡ n = length-map (drop 1 vs) short ∙ length-drop 1 vs ∙ omega arith in
    rw (b, is, a, take_all n (drop 1 vs) (omega (arith, length-drop 1 vs))) (take_sets l (wire_named vs) n d (omega arith))

-- the same, in room for 32,768
pub wire_stored : (t : FaceTask) (vs w : List ℕ) → length (job_kinds (Face t)) ≤ length vs → length vs ≤ 32768
    → w ≡ sets (replicate 32768 0) 0 (map short (take (length vs - 1 + 1 - 1) (drop 1 vs))) → take (length vs - 1 - 0) w ≡ wire_named vs
wire_stored t vs w h m e = wire_is vs (replicate 32768 0) w (length vs - 1) (omega (arith, h, kinds_some t)) (omega (arith, m, length-replicate {A = ℕ} 32768 0)) refl e

module _ {t : FaceTask} (vs s : List ℕ) {f m k : ℕ} {w : List ℕ} (face : f ≡ named vs 0) (uses : m ≡ 4096) (lens : k ≡ 4096) (wire : w ≡ wire_named vs) where
  pub add_is : t ≡ Add → face_answer t vs s ≡ file_add s f w m k
  add_is h = ap (λ (j : FaceTask). face_answer j vs s) h ∙ same_four (file_add s) face uses lens wire

  pub add_wires : t ≡ Add → face_wires t vs s ≡ file_add_out s f w m k
  add_wires h = ap (λ (j : FaceTask). face_wires j vs s) h ∙ same_four (file_add_out s) face uses lens wire

  pub cut_face_is : t ≡ CutFace → face_answer t vs s ≡ file_cut_face s f w m k
  cut_face_is h = ap (λ (j : FaceTask). face_answer j vs s) h ∙ same_four (file_cut_face s) face uses lens wire

  pub cut_face_wires : t ≡ CutFace → face_wires t vs s ≡ file_cut_face_out s f w m k
  cut_face_wires h = ap (λ (j : FaceTask). face_wires j vs s) h ∙ same_four (file_cut_face_out s) face uses lens wire
