-- A face of a pattern without fault: the definitions' answer is that of its uses and its wires' lengths.
use Prim.Native.Nat.{◌+◌, suc, ℕ}
use mathlib.Core.Bool.{◌&&◌, false, true}
use mathlib.Core.List.{List, [], ◌++◌, ◌∷◌, map, map-append}
use mathlib.Core.Path.{◌∙◌, ◌≡◌, ap, refl, sym}
use native.Mathlib.Omega.{arith}
use lib.Dec.{leb}
use lib.ListN.{length, length-append, length-map}
use lib.Seq.{sets}
use Rattle.edit_answers.specs.Answers.{judged}
use Rattle.edit_answers.specs.declared.FaceEditError.{FaceEditError}
use Rattle.edit_answers.specs.declared.FaceEditError.TheVariants.{Unnamed}
use Rattle.errors.specs.declared.CallError.{CallError}
use Rattle.errors.specs.declared.CallError.TheVariants.{Refused}
use Rattle.errors.specs.declared.Refusal.{Refusal}
use Rattle.face_edits.specs.FaceEdits.{add_faults, added, are_uses, backs_in, boundaries, fronts_in, is_face}
use Rattle.face_parts.proofs.Owed.{Owed, handed, handed_answer}
use Rattle.listing.proofs.Laws.{shown_keeps}
use Rattle.lists.proofs.Laws.{flat_append}
use Rattle.lists.proofs.Parts.{flat_one}
use Rattle.lists.specs.Lists.{flat}
use Rattle.pattern.specs.Checks.{pattern_faults}
use Rattle.pattern.specs.Contents.{Content, Pattern, content}
use Rattle.std.specs.Prelude.{Err, Result}
use Rattle.add_boundary.specs.Boundary.{boundary_answer, new_faults, stored_as, written_of}

-- what is written of a list of wires
abbrev out {ℓ} : {A : Type ℓ} → List FaceEditError → List A → List A
out es xs = judged [] es (λ (f : Refusal). []) (λ (e : FaceEditError). []) xs

flat_out : (es : List FaceEditError) (ws : List (List ℕ)) → flat (out es ws) ≡ out es (flat ws)
unfolding flat
flat_out [] ws = refl
flat_out (e ∷ es) ws = refl

lengths_out : (es : List FaceEditError) (ws : List (List ℕ)) → map length (out es ws) ≡ out es (map length ws)
lengths_out [] ws = refl
lengths_out (e ∷ es) ws = refl

module _ (p : Pattern) (f : ℕ) (us uses lens : List ℕ) (ok : pattern_faults p ≡ []) where
  abbrev c : Content
  c = content p

  abbrev m : ℕ
  m = length uses

  abbrev k : ℕ
  k = length lens

  abbrev es : List FaceEditError
  es = add_faults c f us m k

  pub unnamed : (is_face c f && are_uses c us) ≡ false → Owed p es (added c f us) uses lens (Err (Refused Unnamed)) uses lens
  unfolding flat
  unnamed e = rw (ok, e) (refl, (refl, refl))

  module _ (named : (is_face c f && are_uses c us) ≡ true) where
    abbrev own : List ℕ
    own = flat (boundaries c f)

    abbrev sizes : List ℕ
    sizes = map length (boundaries c f)

    abbrev new : List ℕ
    new = stored_as (leb 32768 f) us

    new_long : length new ≡ length us
    new_long = shown_keeps (leb 32768 f) us

    flat_added : flat (added c f us) ≡ own ++ new
    flat_added = flat_append (boundaries c f) (new ∷ []) ∙ rw (flat_one new)

    added_uses : length (flat (added c f us)) ≡ length own + length us
    added_uses = ap length flat_added ∙ omega (arith, length-append own new, new_long)

    added_wires : length (added c f us) ≡ suc (length sizes)
    added_wires = omega (arith, length-append (boundaries c f) (new ∷ []), length-map (boundaries c f) length)

    added_lengths : map length (added c f us) ≡ sizes ++ (length us ∷ [])
    added_lengths = map-append length (boundaries c f) (new ∷ []) ∙ rw new_long

    abbrev rest : List FaceEditError
    rest = new_faults (fronts_in c) (backs_in c) own (length sizes) us m k

    faults_are : es ≡ rest
    faults_are = rw (named, added_uses, added_wires)

    pub add_owed : (fronts backs own' sizes' : List ℕ) (a : Result (ℕ × ℕ) FaceEditError) (uses' lens' : List ℕ) → fronts ≡ fronts_in c → backs ≡ backs_in c → own' ≡ own → sizes' ≡ sizes
        → (a ≡ boundary_answer fronts backs own' (length sizes') us m k)
        × ((uses' ≡ sets uses 0 (written_of fronts backs own' (length sizes') us m k (own' ++ new)))
        × (lens' ≡ sets lens 0 (written_of fronts backs own' (length sizes') us m k (sizes' ++ (length us ∷ [])))))
        → (r : Result (ℕ × ℕ) (CallError FaceEditError)) → r ≡ handed a → Owed p es (added c f us) uses lens r uses' lens'
    add_owed fronts backs own' sizes' a uses' lens' ef eb eo ez h r is =
        let g = rw (ef, eb, eo, ez) at h in
        rw (ok, faults_are) (
          handed_answer rest _ a r g.0 is ∙ rw (added_uses, added_wires),
          (
            g.1.0 ∙ ap (sets uses 0) (sym (flat_out rest (added c f us) ∙ ap (out rest) flat_added)),
            g.1.1 ∙ ap (sets lens 0) (sym (lengths_out rest (added c f us) ∙ ap (out rest) added_lengths)),
          ),
        )
