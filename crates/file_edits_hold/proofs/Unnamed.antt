-- A number above 65,534 names nothing: on an accepted file each edit answers 3, whatever else it is given.
use Rattle.edge.specs.declared.EdgeID.{EdgeID}
use Rattle.errors.specs.declared.CallError.{CallError}
use Rattle.errors.specs.declared.CallError.TheVariants.{Refused, Unread}
use Rattle.std.specs.Prelude.{Err, Result}
use Rattle.store_write.specs.declared.NoSpace.{NoSpace}
use Prim.Native.Nat.{ℕ, ◌<◌, ◌≤◌}
use mathlib.Core.Bool.{◌&&◌, and-false, false}
use mathlib.Core.List.{List, [], ◌∷◌}
use mathlib.Core.Logic.{◌⊎◌, ⊎_elim}
use mathlib.Core.Path.{◌∙◌, ◌≡◌, ap, refl, subst, sym}
use native.Mathlib.Omega.{arith}
use lib.Dec.{ltb}
use lib.ListN.{length}
use borrow.Author.Tests.{le-ltb}
use Rattle.answers.specs.Read.{when_read}
use Rattle.answers.specs.Values.{cut_values, face_values, join_values, refused}
use Rattle.answers.specs.declared.Answer.{Answer}
use Rattle.curve.specs.Curves.{parameter_of}
use Rattle.curve.specs.declared.Parameter.{Parameter}
use Rattle.edge.specs.Uses.{edge_number}
use Rattle.edit_answers.specs.Answers.{face_edit_number, judged}
use Rattle.edit_answers.specs.declared.EditError.{EditError}
use Rattle.edit_answers.specs.declared.FaceEditError.{FaceEditError}
use Rattle.errors.proofs.Laws.{none_left}
use Rattle.errors.specs.Faults.{first}
use Rattle.errors.specs.declared.Refusal.{Refusal}
use Rattle.face_edits.specs.FaceAnswers.{add_answer, cut_face_answer, glue_answer}
use Rattle.face_edits.specs.FaceEdits.{add_faults, are_uses, cut_face_faults, glue_faults, is_face}
use Rattle.file_concat.specs.FileConcat.{concat_file, file_concat}
use Rattle.file_cut.specs.FileCut.{cut_file, file_cut}
use Rattle.file_face_edits.specs.FileFaceEdits.{file_add, file_cut_face, file_glue}
use Rattle.file_remove.specs.FileRemove.{file_remove, remove_file}
use Rattle.lists.specs.Lists.{count}
use Rattle.pattern.proofs.Counts.{Limited, limited}
use Rattle.pattern.specs.Checks.{content_faults, count_faults, pattern_faults}
use Rattle.pattern.specs.Contents.{Content, content, counts_of}
use Rattle.pattern_file.proofs.RoundTrip.{content_of_stored}
use Rattle.pattern_file.specs.File.{file_content, file_faults, table_faults}
use Rattle.pattern_table.proofs.Laws.{counts_of_content, table_counts}
use Rattle.shell_edits.specs.Answers.{after_concat, after_cut, after_remove}
use Rattle.shell_edits.specs.Edits.{concat_faults, cut_faults, remove_faults}
use Rattle.shell_edits.specs.Theorems.{first_number}
use Rattle.store_read.proofs.Fresh.{blank, fresh_faults}
use Rattle.store_read.specs.Loading.{loaded, pattern_of}
use Rattle.store_write.specs.Writing.{written}
use Rattle.words.specs.Words.{short}

-- ---- an answer whose first refusal is 3

cut_3 : (fs : List Refusal) (es : List EditError) (a : Result (EdgeID × EdgeID) (CallError EditError)) (w : Result ℕ (CallError NoSpace)) → fs ≡ [] → first_number es ≡ 3 → cut_values (judged fs es (λ x. Err (Unread x)) (λ x. Err (Refused x)) a) w ≡ refused 3 0
cut_3 fs [] a w ok h = cc
cut_3 fs (e ∷ es) a w ok h = rw (ok, h)

join_3 : (fs : List Refusal) (es : List EditError) (a : Result EdgeID (CallError EditError)) (w : Result ℕ (CallError NoSpace)) → fs ≡ [] → first_number es ≡ 3 → join_values (judged fs es (λ x. Err (Unread x)) (λ x. Err (Refused x)) a) w ≡ refused 3 0
join_3 fs [] a w ok h = cc
join_3 fs (e ∷ es) a w ok h = rw (ok, h)

abbrev first_face : List FaceEditError → ℕ
first_face [] = 0
first_face (e ∷ es) = face_edit_number e

face_3 : (fs : List Refusal) (es : List FaceEditError) (a : Result (ℕ × ℕ) (CallError FaceEditError)) → fs ≡ [] → first_face es ≡ 3 → face_values (judged fs es (λ x. Err (Unread x)) (λ x. Err (Refused x)) a) ≡ refused 3 0
face_3 fs [] a ok h = cc
face_3 fs (e ∷ es) a ok h = rw (ok, h)

-- ---- the first refusal, in a content that keeps the limits

above : (x n : ℕ) → n ≤ 2048 → 65534 < x → ltb (short x) n ≡ false
above x n few h = le-ltb (short x) n (omega arith)

above_use : (x n : ℕ) → n ≤ 2048 → 65534 < x → ltb (edge_number (short x)) n ≡ false
above_use x n few h = le-ltb (edge_number (short x)) n (omega arith)

module _ (c : Content) (few : Limited (counts_of c)) where
  cut_first_lem : (n e v : ℕ) (at : Parameter) → (65534 < e) ⊎ (65534 < v) → first_number (cut_faults c n (short e) (short v) at) ≡ 3
  cut_first_lem n e v at =
      ⊎_elim (λ (h : 65534 < e). rw (above e (length c.edges) (omega (arith, few.edges)) h, and-false (ltb n (length c.shells))))
      (λ (h : 65534 < v). rw (above v (length c.points) few.points h, and-false (ltb n (length c.shells) && ltb (short e) (length c.edges))))

  remove_first : (n v : ℕ) → 65534 < v → first_number (remove_faults c n (short v)) ≡ 3
  remove_first n v h = rw (above v (length c.points) few.points h, and-false (ltb n (length c.shells)))

  concat_first : (u v : ℕ) → (65534 < u) ⊎ (65534 < v) → first_number (concat_faults c (short u) (short v)) ≡ 3
  concat_first u v =
      ⊎_elim (λ (h : 65534 < u). rw (above_use u (length c.edges) (omega (arith, few.edges)) h))
      (λ (h : 65534 < v). rw (above_use v (length c.edges) (omega (arith, few.edges)) h, and-false (ltb (edge_number (short u)) (length c.edges))))

  no_face : (f : ℕ) → 65534 < f → is_face c (short f) ≡ false
  no_face f h = above_use f (length c.faces) (omega (arith, few.faces)) h

  no_use : (u : ℕ) → 65534 < u → are_uses c (short u ∷ []) ≡ false
  unfolding count
  no_use u h = rw (above_use u (length c.edges) (omega (arith, few.edges)) h)

  add_first : (f : ℕ) (us : List ℕ) (m k : ℕ) → 65534 < f → first_face (add_faults c (short f) us m k) ≡ 3
  add_first f us m k h = rw (no_face f h)

  cut_face_first : (f : ℕ) (us : List ℕ) (m k : ℕ) → 65534 < f → first_face (cut_face_faults c (short f) us m k) ≡ 3
  cut_face_first f us m k h = rw (no_face f h)

  cut_use_first : (f u m k : ℕ) → 65534 < u → first_face (cut_face_faults c f (short u ∷ []) m k) ≡ 3
  cut_use_first f u m k h = rw (no_use u h, and-false (is_face c f))

  glue_first : (f g m k : ℕ) → (65534 < f) ⊎ (65534 < g) → first_face (glue_faults c (short f) (short g) m k) ≡ 3
  glue_first f g m k = ⊎_elim (λ (h : 65534 < f). rw (no_face f h)) (λ (h : 65534 < g). rw (no_face g h, and-false (is_face c (short f))))

-- ---- the answers

module _ (s : List ℕ) (ok : file_faults s ≡ []) where
  right : table_faults s ≡ []
  right = none_left (table_faults s) (content_faults (file_content s)) ok

  clean : pattern_faults (pattern_of s) ≡ []
  clean = fresh_faults s (loaded blank s) refl (ap first right) ∙ ok

  few : Limited (counts_of (content (pattern_of s)))
  few =
      subst (λ (c : Content). Limited (counts_of c)) (sym (content_of_stored (file_content s)))
      (limited (counts_of (file_content s)) refl (ap count_faults (sym (counts_of_content s)) ∙ table_counts s right))

  read : (a : Answer) → a ≡ refused 3 0 → when_read (first (file_faults s)) a ≡ refused 3 0
  read a h = ap (λ (fs : List Refusal). when_read (first fs) a) ok ∙ h

  pub cut_unnamed : (n e v bits : ℕ) (out : List ℕ) → (65534 < e) ⊎ (65534 < v) → file_cut s n (short e) (short v) bits out ≡ refused 3 0
  cut_unnamed n e v bits out h =
      let q = after_cut (pattern_of s) n (short e) (short v) (parameter_of bits) in
      read (cut_file (pattern_of s) n (short e) (short v) (parameter_of bits) out) (cut_3 _ _ _ (written q out) clean (cut_first_lem (content (pattern_of s)) few n e v (parameter_of bits) h))

  pub remove_unnamed : (n v : ℕ) (out : List ℕ) → 65534 < v → file_remove s n (short v) out ≡ refused 3 0
  remove_unnamed n v out h = read (remove_file (pattern_of s) n (short v) out) (join_3 _ _ _ (written (after_remove (pattern_of s) n (short v)) out) clean (remove_first (content (pattern_of s)) few n v h))

  pub concat_unnamed : (u v : ℕ) (out : List ℕ) → (65534 < u) ⊎ (65534 < v) → file_concat s (short u) (short v) out ≡ refused 3 0
  concat_unnamed u v out h =
      read (concat_file (pattern_of s) (short u) (short v) out) (join_3 _ _ _ (written (after_concat (pattern_of s) (short u) (short v)) out) clean (concat_first (content (pattern_of s)) few u v h))

  pub add_unnamed : (f : ℕ) (us : List ℕ) (m k : ℕ) → 65534 < f → file_add s (short f) us m k ≡ refused 3 0
  add_unnamed f us m k h = read (face_values (add_answer (pattern_of s) (short f) us m k)) (face_3 _ _ _ clean (add_first (content (pattern_of s)) few f us m k h))

  pub cut_face_unnamed : (f : ℕ) (us : List ℕ) (m k : ℕ) → 65534 < f → file_cut_face s (short f) us m k ≡ refused 3 0
  cut_face_unnamed f us m k h = read (face_values (cut_face_answer (pattern_of s) (short f) us m k)) (face_3 _ _ _ clean (cut_face_first (content (pattern_of s)) few f us m k h))

  pub cut_use_unnamed : (f u m k : ℕ) → 65534 < u → file_cut_face s f (short u ∷ []) m k ≡ refused 3 0
  cut_use_unnamed f u m k h = read (face_values (cut_face_answer (pattern_of s) f (short u ∷ []) m k)) (face_3 _ _ _ clean (cut_use_first (content (pattern_of s)) few f u m k h))

  pub glue_unnamed : (f g m k : ℕ) → (65534 < f) ⊎ (65534 < g) → file_glue s (short f) (short g) m k ≡ refused 3 0
  glue_unnamed f g m k h = read (face_values (glue_answer (pattern_of s) (short f) (short g) m k)) (face_3 _ _ _ clean (glue_first (content (pattern_of s)) few f g m k h))
