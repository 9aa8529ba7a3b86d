-- The removal of a point and the joining of two uses on a file: the file written is accepted, and holds the edited content; the point removed again is answered 23; when they are answered 17.
use Prim.Native.Nat.{◌<◌, ℕ}
use mathlib.Core.Bool.{Bool, ◌&&◌, ◌||◌, false, not, true}
use mathlib.Core.List.{List, [], ◌++◌, ◌∷◌, map, map-append}
use mathlib.Core.Logic.{◌⊎◌}
use mathlib.Core.Path.{◌∙◌, ◌≡◌, ap, refl, sym}
use native.Mathlib.Omega.{arith}
use lib.Dec.{leb, ltb}
use lib.ListN.{length, length-append, take}
use Rattle.answers.specs.Read.{after_read, edited_bytes}
use Rattle.answers.specs.Values.{refused}
use Rattle.answers.specs.declared.Answer.{Answer}
use Rattle.edit_answers.specs.Answers.{answer_of, judged}
use Rattle.edit_answers.specs.declared.EditError.{EditError}
use Rattle.edit_answers.specs.declared.EditError.TheVariants.{NotOneOrTwoWires, SharedFace, Unmatched, Unnamed}
use Rattle.errors.proofs.Laws.{none_left, none_right, unless_passes}
use Rattle.errors.specs.Faults.{first}
use Rattle.errors.specs.declared.Refusal.{Refusal}
use Rattle.file_concat.specs.FileConcat.{file_concat, file_concat_bytes}
use Rattle.file_edits_hold.proofs.Files.{Edit, content_read, edit_17, edit_accepted, edit_file, edit_refused, edit_short, ended, file_passes, fits_same, join_ended, new_few, new_fine, new_numbers, read_content, read_full, refused_ended}
use Rattle.file_edits_hold.proofs.Fitting.{fits_edited, joined_fits, remove_wires_low}
use Rattle.file_edits_hold.specs.FileTheorems.{FileOf, TooFull, TooShort}
use Rattle.file_remove.specs.FileRemove.{file_remove, file_remove_bytes}
use Rattle.lists.proofs.Count.{All, all_each}
use Rattle.lists.proofs.Laws.{has_append}
use Rattle.lists.proofs.Parts.{only_none}
use Rattle.lists.specs.Lists.{flat, has, unless}
use Rattle.pattern.proofs.Counts.{limited}
use Rattle.pattern.specs.Checks.{content_faults, pattern_faults}
use Rattle.pattern.specs.Contents.{Content, Pattern, content, counts_of, stored_in}
use Rattle.pattern_file.proofs.Fits.{Fits}
use Rattle.pattern_file.specs.File.{file_bytes, file_content, file_faults}
use Rattle.shell.specs.Openings.{back_in}
use Rattle.shell_edits.proofs.ConcatTheorem.{concat_pattern_accepted}
use Rattle.shell_edits.proofs.RemoveTheorem.{remove_pattern_accepted, removed}
use Rattle.shell_edits.specs.Answers.{after_concat, after_remove, next_edge}
use Rattle.shell_edits.specs.Edits.{concat_content, concat_faults, end_use, ending_wires, first_wire, join_faults, joined_edge, last_wire, matched, next_use, outline, remove_content, remove_faults, remove_wires, shares_face, uses_in, wires_of}
use Rattle.shell_edits.specs.Theorems.{first_number}
use Rattle.show_text.proofs.FileText.{file_fits}
use Rattle.store_read.specs.Loading.{pattern_of}
use Rattle.store_write.specs.Writing.{written, written_bytes}
use Rattle.words.proofs.Laws.{Bytes}

-- ---- the point is gone

neither : (a b : Bool) → (a || b) ≡ false → (a ≡ false) × (b ≡ false)
neither false b h = (refl, h)
neither true b h = (h, cc)

each_none : (p : ℕ) (g : ℕ → ℕ) (f : ℕ → List ℕ) (ws : List ℕ) → has p (map g (flat (map f ws))) ≡ false → All (λ (w : ℕ). has p (map g (f w)) ≡ false) ws
unfolding flat
each_none p g f [] h = tt
each_none p g f (w ∷ ws) h =
    let both = neither (has p (map g (f w))) (has p (map g (flat (map f ws)))) (rw (map-append g (f w) (flat (map f ws)), has_append p (map g (f w)) (map g (flat (map f ws)))) at h) in
    (both.0, each_none p g f ws both.1)

no_ending_lem : (c : Content) (n p : ℕ) → has p (map (back_in c) (uses_in c n)) ≡ false → ending_wires c n p ≡ []
no_ending_lem c n p h = only_none (λ (w : ℕ). has p (map (back_in c) (outline c w))) (wires_of c n) (each_none p (back_in c) (outline c) (wires_of c n) h)

third_first : (a b : Bool) (ws : List ℕ) (x y : List EditError) → a ≡ true → b ≡ true → ws ≡ []
    → first_number (unless a Unnamed ++ unless b SharedFace ++ unless (ltb 0 (length ws) && leb (length ws) 2) NotOneOrTwoWires ++ x ++ y) ≡ 23
third_first a b ws x y e f g = rw (e, f, g)

-- a point removed again
again : (c : Content) → content_faults c ≡ [] → (n p : ℕ) → remove_faults c n p ≡ [] → first_number (remove_faults (remove_content c n p) n p) ≡ 23
again c ok n p h =
    let new = remove_content c n p in
    let ws = ending_wires c n p in
    let a = ltb n (length c.shells) && ltb p (length c.points) in
    let b = not (shares_face c n) in
    let d = unless (ltb 0 (length ws) && leb (length ws) 2) NotOneOrTwoWires in
    let e = unless (ltb (length ws) 2 || matched c p (first_wire ws) (last_wire ws)) Unmatched in
    let j = join_faults c (end_use c p (last_wire ws)) (next_use c p (last_wire ws)) in
    let two : unless a Unnamed ++ unless b SharedFace ≡ [] = none_left (unless a Unnamed ++ unless b SharedFace) d (none_left (unless a Unnamed ++ unless b SharedFace ++ d) e (none_left (unless a Unnamed ++ unless b SharedFace ++ d ++ e) j h)) in
    let vs = ending_wires new n p in
    third_first a b vs (unless (ltb (length vs) 2 || matched new p (first_wire vs) (last_wire vs)) Unmatched) (join_faults new (end_use new p (last_wire vs)) (next_use new p (last_wire vs)))
    (unless_passes a Unnamed (none_left (unless a Unnamed) (unless b SharedFace) two)) (unless_passes b SharedFace (none_right (unless a Unnamed) (unless b SharedFace) two))
    (no_ending_lem new n p (removed c ok n p h))

-- ---- a file that is edited

-- point v of shell n removed
remove_told : (s : List ℕ) (n v : ℕ) (out : List ℕ) → let p = pattern_of s in
    file_remove s n v out ≡ ended (next_edge p 0).0 0 (file_faults s) (pattern_faults p) (remove_faults (file_content s) n v) (written (after_remove p n v) out)
remove_told s n v out =
    let p = pattern_of s in
    let w = written (after_remove p n v) out in
    join_ended (file_faults s) (pattern_faults p) (remove_faults (content p) n v) (next_edge p 0) w
    ∙ ap (λ (d : Content). ended (next_edge p 0).0 0 (file_faults s) (pattern_faults p) (remove_faults d n v) w) (read_content s)

-- uses u and v joined to a new edge
concat_told : (s : List ℕ) (u v : ℕ) (out : List ℕ) → let p = pattern_of s in
    file_concat s u v out ≡ ended (next_edge p 0).0 0 (file_faults s) (pattern_faults p) (concat_faults (file_content s) u v) (written (after_concat p u v) out)
concat_told s u v out =
    let p = pattern_of s in
    let w = written (after_concat p u v) out in
    join_ended (file_faults s) (pattern_faults p) (concat_faults (content p) u v) (next_edge p 0) w
    ∙ ap (λ (d : Content). ended (next_edge p 0).0 0 (file_faults s) (pattern_faults p) (concat_faults d u v) w) (read_content s)

module _ (s : List ℕ) (bytes : Bytes s) (out : List ℕ) where
  abbrev p : Pattern
  p = pattern_of s

  abbrev c : Content
  c = content p

  fit : Fits c
  fit = fits_same (file_content s) c (sym (read_content s)) (file_fits s bytes)

  module _ (n v : ℕ) where
    abbrev new : Content
    new = remove_content c n v

    abbrev answer : Answer
    answer = file_remove s n v out

    abbrev after : List ℕ
    after = file_remove_bytes s n v out

    -- not refused
    module _ (ok : file_faults s ≡ []) (removes : remove_faults c n v ≡ []) where
      abbrev u : ℕ
      u = end_use c v (last_wire (ending_wires c n v))

      abbrev w : ℕ
      w = next_use c v (last_wire (ending_wires c n v))

      stored_new : after_remove p n v ≡ stored_in p new
      stored_new = λ i. judged (file_passes s ok i) (removes i) (λ (f : Refusal). p) (λ (x : EditError). p) (stored_in p new)

      accepted : pattern_faults (stored_in p new) ≡ []
      accepted = ap pattern_faults (sym stored_new) ∙ remove_pattern_accepted p (read_full s ok) n v (file_passes s ok)

      few_edges : length c.edges < 32768
      few_edges = omega (arith, (limited (counts_of new) refl (new_few p (read_full s ok) new accepted)).edges, length-append c.edges (joined_edge c u w ∷ []))

      new_fits : Fits new
      new_fits =
          fits_edited c (joined_edge c u w ∷ []) (flat (remove_wires c n v)) (map length (remove_wires c n v)) fit (new_few p (read_full s ok) new accepted) (new_fine p (read_full s ok) new accepted)
          (joined_fits c u w fit, tt) (remove_wires_low c n v fit few_edges)

      after_is : after ≡ written_bytes (stored_in p new) out
      after_is = λ i. after_read (first (ok i)) out (edited_bytes (answer_of (file_passes s ok i) (removes i) (next_edge p 0)) (stored_new i) out)

    abbrev faults : List EditError
    faults = remove_faults (file_content s) n v

    abbrev made : Content
    made = remove_content (file_content s) n v

    its : Edit s out faults made answer after
    its =
        let same = read_content s in
        let to_made : new ≡ made = ap (λ (d : Content). remove_content d n v) same in
        record {
          x = (next_edge p 0).0;
          y = 0;
          q = after_remove p n v;
          told = remove_told s n v out;
          made = λ ok none.
              let removes : remove_faults c n v ≡ [] = ap (λ (d : Content). remove_faults d n v) same ∙ none in
              record {
                stored_so = stored_new ok removes ∙ ap (stored_in p) to_made;
                fine = ap (λ (d : Content). pattern_faults (stored_in p d)) (sym to_made) ∙ accepted ok removes;
                fits = fits_same new made to_made (new_fits ok removes);
                left = after_is ok removes ∙ ap (λ (d : Content). written_bytes (stored_in p d) out) to_made;
              };
        }

    -- done: the bytes written are a file that the reading checks accept, and its content is the content without the point
    pub remove_file_lem : answer.outcome ≡ 0 → FileOf made answer.third after
    remove_file_lem done = edit_file s out faults made answer after its done

    -- the new edge has the next number
    pub remove_file_number : answer.outcome ≡ 0 → answer.first ≡ length (file_content s).edges
    remove_file_number done = omega (arith, (new_numbers answer (next_edge p 0).0 0 (file_faults s) (pattern_faults p) faults (written (after_remove p n v) out) (remove_told s n v out) done).0, ap (λ (d : Content). length d.edges) (read_content s))

    -- the same point of that file is answered 23
    pub remove_file_again : answer.outcome ≡ 0 → (out' : List ℕ) → file_remove (take answer.third after) n v out' ≡ refused 23 0
    remove_file_again done out' =
        let t = edit_accepted s out faults made answer after its done in
        let f = remove_file_lem done in
        let file = take answer.third after in
        let q = pattern_of file in
        remove_told file n v out'
        ∙ refused_ended (next_edge q 0).0 0 (file_faults file) (pattern_faults q) (remove_faults (file_content file) n v) (written (after_remove q n v) out') 22 f.accepted (file_passes file f.accepted)
        (ap (λ (d : Content). first_number (remove_faults d n v)) f.holds ∙ again (file_content s) (content_read s t.0) n v t.1)

    -- 17 is answered only if the edge table would pass its limit, with 0, or if the slice is too short, with the length that the edited file needs
    pub remove_file_17 : answer.number ≡ 17 → (TooFull s faults × (answer ≡ refused 17 0)) ⊎ (TooShort s faults made out × (answer ≡ refused 17 (length (file_bytes made))))
    remove_file_17 h = edit_17 s out faults made answer after its h

    -- and then it is
    pub remove_file_full : TooFull s faults → answer ≡ refused 17 0
    remove_file_full t = edit_refused s out faults made answer after its 16 t.0 t.1

    pub remove_file_short : TooShort s faults made out → answer ≡ refused 17 (length (file_bytes made))
    remove_file_short t = edit_short s out faults made answer after its t

  module _ (u v : ℕ) where
    abbrev joined : Content
    joined = concat_content c u v

    abbrev reply : Answer
    reply = file_concat s u v out

    abbrev slice : List ℕ
    slice = file_concat_bytes s u v out

    -- not refused
    module _ (ok : file_faults s ≡ []) (joins : concat_faults c u v ≡ []) where
      stored_joined : after_concat p u v ≡ stored_in p joined
      stored_joined = λ i. judged (file_passes s ok i) (joins i) (λ (f : Refusal). p) (λ (x : EditError). p) (stored_in p joined)

      joined_accepted : pattern_faults (stored_in p joined) ≡ []
      joined_accepted = ap pattern_faults (sym stored_joined) ∙ concat_pattern_accepted p (read_full s ok) u v (file_passes s ok)

      joined_fit : Fits joined
      joined_fit =
          fits_edited c (joined_edge c u v ∷ []) c.uses c.wires fit (new_few p (read_full s ok) joined joined_accepted) (new_fine p (read_full s ok) joined joined_accepted)
          (joined_fits c u v fit, tt) (all_each (λ (x : ℕ). x < 65536) 0 c.uses fit.uses)

      slice_is : slice ≡ written_bytes (stored_in p joined) out
      slice_is = λ i. after_read (first (ok i)) out (edited_bytes (answer_of (file_passes s ok i) (joins i) (next_edge p 0)) (stored_joined i) out)

    abbrev refusals : List EditError
    refusals = concat_faults (file_content s) u v

    abbrev whole : Content
    whole = concat_content (file_content s) u v

    edit : Edit s out refusals whole reply slice
    edit =
        let same = read_content s in
        let to_whole : joined ≡ whole = ap (λ (d : Content). concat_content d u v) same in
        record {
          x = (next_edge p 0).0;
          y = 0;
          q = after_concat p u v;
          told = concat_told s u v out;
          made = λ ok none.
              let joins : concat_faults c u v ≡ [] = ap (λ (d : Content). concat_faults d u v) same ∙ none in
              record {
                stored_so = stored_joined ok joins ∙ ap (stored_in p) to_whole;
                fine = ap (λ (d : Content). pattern_faults (stored_in p d)) (sym to_whole) ∙ joined_accepted ok joins;
                fits = fits_same joined whole to_whole (joined_fit ok joins);
                left = slice_is ok joins ∙ ap (λ (d : Content). written_bytes (stored_in p d) out) to_whole;
              };
        }

    -- done: the bytes written are a file that the reading checks accept, and its content is the content with the edge
    pub concat_file_lem : reply.outcome ≡ 0 → FileOf whole reply.third slice
    concat_file_lem done = edit_file s out refusals whole reply slice edit done

    -- the new edge has the next number
    pub concat_file_number : reply.outcome ≡ 0 → reply.first ≡ length (file_content s).edges
    concat_file_number done = omega (arith, (new_numbers reply (next_edge p 0).0 0 (file_faults s) (pattern_faults p) refusals (written (after_concat p u v) out) (concat_told s u v out) done).0, ap (λ (d : Content). length d.edges) (read_content s))

    -- 17 is answered only if the edge table would pass its limit, with 0, or if the slice is too short, with the length that the edited file needs
    pub concat_file_17 : reply.number ≡ 17 → (TooFull s refusals × (reply ≡ refused 17 0)) ⊎ (TooShort s refusals whole out × (reply ≡ refused 17 (length (file_bytes whole))))
    concat_file_17 h = edit_17 s out refusals whole reply slice edit h

    -- and then it is
    pub concat_file_full : TooFull s refusals → reply ≡ refused 17 0
    concat_file_full t = edit_refused s out refusals whole reply slice edit 16 t.0 t.1

    pub concat_file_short : TooShort s refusals whole out → reply ≡ refused 17 (length (file_bytes whole))
    concat_file_short t = edit_short s out refusals whole reply slice edit t
