-- The chained wires, judged and written.
use Prim.Native.Nat.{◌<◌, ◌≤◌, ℕ}
use mathlib.Core.Bool.{Bool, ◌&&◌, false, not, true}
use mathlib.Core.List.{List, [], ◌++◌, ◌∷◌, append-nil, map}
use mathlib.Core.Path.{◌∙◌, ◌≡◌, ap, refl, sym}
use native.Mathlib.Omega.{arith}
use lib.Dec.{leb, ltb}
use lib.ListN.{length, length-map, length-replicate, replicate, take}
use lib.Seq.{length-sets, length-take-le, sets, take_all}
use borrow.Author.Tests.{le-leb, le-ltb, lt-leb, lt-ltb}
use Rattle.edge.specs.Edges.{back_number, edge, front_number}
use Rattle.edge.specs.Uses.{back_of, front_of}
use Rattle.edge.specs.declared.Edge.{Edge}
use Rattle.edit_answers.specs.declared.FaceEditError.{FaceEditError}
use Rattle.edit_answers.specs.declared.FaceEditError.TheVariants.{FaceRule, NoSpace, NothingRemains, OppositeEdges}
use Rattle.errors.specs.Faults.{first}
use Rattle.errors.specs.declared.Refusal.{Refusal}
use Rattle.face.specs.Faces.{face_faults, face_rule}
use Rattle.face_edits.specs.FaceEdits.{backs_in, chained, fits, fronts_in, glued, glued_of, keeps_rule, left_faults, meet_all, meeting, met_faults, no_fault}
use Rattle.lists.proofs.Laws.{length_split}
use Rattle.lists.proofs.Parts.{split_flat}
use Rattle.lists.specs.Lists.{flat, numbers, split, sum, unless}
use Rattle.lists.proofs.Sets.{take_sets}
use Rattle.openings.proofs.Slots.{holding_bare, kept_le, slots_bare}
use Rattle.openings.specs.Slots.{Holding, slots}
use Rattle.pattern.specs.Contents.{Content, zero_edge}
use Rattle.shell.specs.Openings.{Kept, keep}
use Rattle.shell_edits.proofs.Accepted.{sum_lengths}
use Rattle.std.specs.Prelude.{Err, Ok, Result, is_err, Option, None, Some}
use Rattle.wire.specs.Named.{Named}
use Rattle.glue_walk.specs.declared.Chained.{Chained}
use Rattle.glue_walk.specs.Walks.{Columns, EndColumns, Fits, Laid, Room, PartFits, met_as, nothing}
use Rattle.glue_wires.specs.Glues.{EachFits, Shown, Wrote}
use Rattle.glue_wires.proofs.Every.{Every, all_within, chained_every, every_bare, keep_every, meet_every, named}

-- ---- the face rule

module _ (fronts backs : List ℕ) where
  -- the check of one face
  rule_one : (ws : List (List ℕ)) (n : ℕ) → length ws ≡ n → face_rule fronts backs 0 (split (n ∷ []) ws) ≡ face_faults fronts backs 0 ws
  unfolding face_rule split
  rule_one ws n e = rw (take_all n ws (omega (arith, e)), append-nil (face_faults fronts backs 0 ws))

  module _ (out parts : List ℕ) (a : Result Unit Refusal) (is : a ≡ first (face_rule fronts backs 0 (split (length parts ∷ []) (split parts out)))) where
    rule_is : a ≡ first (face_faults fronts backs 0 (split parts out))
    rule_is = is ∙ ap first (rule_one (split parts out) (length parts) (length_split parts out))

    pub rule_judged : (r : Bool) → r ≡ is_err a → r ≡ not (keeps_rule fronts backs (split parts out))
    rule_judged r e = e ∙ ap is_err rule_is ∙ go (face_faults fronts backs 0 (split parts out))
      where
        go : (fs : List Refusal) → is_err (first fs) ≡ not (no_fault fs)
        go [] = refl
        go (f ∷ fs) = refl

-- ---- what is judged, as tests

abbrev three : Bool → Bool → Bool → List FaceEditError
three a b d = unless a NothingRemains ++ (unless b FaceRule ++ unless d NoSpace)

module _ (ws : List (List ℕ)) (us ls : List ℕ) (a b d : Bool) where
  pub is_22 : a ≡ false → Wrote (three a b d) ws us ls us ls (Err NothingRemains)
  unfolding flat
  is_22 e = rw e (record { answer = refl; uses = refl; lengths = refl })

  pub is_28 : a ≡ true → b ≡ false → Wrote (three a b d) ws us ls us ls (Err FaceRule)
  unfolding flat
  is_28 e f = rw (e, f) (record { answer = refl; uses = refl; lengths = refl })

  pub is_17 : a ≡ true → b ≡ true → d ≡ false → Wrote (three a b d) ws us ls us ls (Err NoSpace)
  unfolding flat
  is_17 e f g = rw (e, f, g) (record { answer = refl; uses = refl; lengths = refl })

  pub is_done_lem : a ≡ true → b ≡ true → d ≡ true → (us' ls' : List ℕ) → us' ≡ sets us 0 (flat ws) → ls' ≡ sets ls 0 (map length ws)
      → (r : Result (ℕ × ℕ) FaceEditError) → r ≡ Ok (length (flat ws), length ws) → Wrote (three a b d) ws us ls us' ls' r
  is_done_lem e f g us' ls' x y r z = rw (e, f, g) (record { answer = z; uses = x; lengths = y })

-- ---- of a pattern with these columns: the wires stand in `out`, with their lengths in `parts`
module _ (c : Content) (ws : List (List ℕ)) (fronts backs out parts us ls : List ℕ) (col : Columns c fronts backs) (eo : flat ws ≡ out) (ep : map length ws ≡ parts) where
  wires_are : split parts out ≡ ws
  wires_are = rw (← eo, ← ep) (split_flat ws)

  number_is : length parts ≡ length ws
  number_is = sym (ap length ep) ∙ length-map ws length

  keeps_is : (r : Bool) → r ≡ not (keeps_rule fronts backs (split parts out)) → keeps_rule (fronts_in c) (backs_in c) ws ≡ not r
  keeps_is r e =
      let z : keeps_rule (fronts_in c) (backs_in c) ws ≡ keeps_rule fronts backs (split parts out) = λ i. keeps_rule (col.begin i) (col.end i) (sym wires_are i) in
      z ∙ twice (keeps_rule fronts backs (split parts out)) ∙ ap not (sym e)
    where
      twice : (b : Bool) → b ≡ not (not b)
      twice true = refl
      twice false = refl

  pub none_left_22 : length parts ≡ 0 → Wrote (left_faults c ws (length us) (length ls)) ws us ls us ls (Err NothingRemains)
  none_left_22 e = is_22 ws us ls (ltb 0 (length ws)) (keeps_rule (fronts_in c) (backs_in c) ws) (fits ws (length us) (length ls)) (le-ltb 0 (length ws) (omega (arith, e, number_is)))

  module _ (n : length parts ≡ 0 → ⊥) where
    some_left : ltb 0 (length ws) ≡ true
    some_left = lt-ltb 0 (length ws) (positive (length parts) n number_is)
      where
        positive : (m : ℕ) → (m ≡ 0 → ⊥) → m ≡ length ws → 0 < length ws
        positive m h e = omega (arith, h, e)

    module _ (r : Bool) (t : r ≡ not (keeps_rule fronts backs (split parts out))) where
      pub rule_28 : r ≡ true → Wrote (left_faults c ws (length us) (length ls)) ws us ls us ls (Err FaceRule)
      rule_28 e = is_28 ws us ls (ltb 0 (length ws)) (keeps_rule (fronts_in c) (backs_in c) ws) (fits ws (length us) (length ls)) some_left (keeps_is r t ∙ ap not e)

      module _ (k : r ≡ false) where
        fit_not_uses : length us < length out → fits ws (length us) (length ls) ≡ false
        fit_not_uses h =
            let e : length (flat ws) ≡ length out = ap length eo in
            rw (lt-leb (length (flat ws)) (length us) (omega (arith, e, h)))

        fit_not_lens : length ls < length parts → fits ws (length us) (length ls) ≡ false
        fit_not_lens h = rw (lt-leb (length ws) (length ls) (omega (arith, number_is, h))) (and_false (leb (length (flat ws)) (length us)))
          where
            and_false : (b : Bool) → (b && false) ≡ false
            and_false true = refl
            and_false false = refl

        pub space_17 : length us < length out → Wrote (left_faults c ws (length us) (length ls)) ws us ls us ls (Err NoSpace)
        space_17 h = is_17 ws us ls (ltb 0 (length ws)) (keeps_rule (fronts_in c) (backs_in c) ws) (fits ws (length us) (length ls)) some_left (keeps_is r t ∙ ap not k) (fit_not_uses h)

        pub places_17 : length ls < length parts → Wrote (left_faults c ws (length us) (length ls)) ws us ls us ls (Err NoSpace)
        places_17 h = is_17 ws us ls (ltb 0 (length ws)) (keeps_rule (fronts_in c) (backs_in c) ws) (fits ws (length us) (length ls)) some_left (keeps_is r t ∙ ap not k) (fit_not_lens h)

        pub all_written : length out ≤ length us → length parts ≤ length ls → (us' ls' : List ℕ) → us' ≡ sets us 0 out → ls' ≡ sets ls 0 parts
            → Wrote (left_faults c ws (length us) (length ls)) ws us ls us' ls' (Ok (length out, length parts))
        all_written h l us' ls' x y =
            let e : length (flat ws) ≡ length out = ap length eo in
            let f : fits ws (length us) (length ls) ≡ true =
            rw (le-leb (length (flat ws)) (length us) (omega (arith, e)), le-leb (length ws) (length ls) (omega (arith, number_is))) in
            is_done_lem ws us ls (ltb 0 (length ws)) (keeps_rule (fronts_in c) (backs_in c) ws) (fits ws (length us) (length ls)) some_left (keeps_is r t ∙ ap not k) f us' ls'
            (rw eo x) (rw ep y) (Ok (length out, length parts)) (rw (e, number_is))

-- ---- 21, and the rest
module _ (c : Content) (o : Option Kept) (us ls : List ℕ) (m k : ℕ) where
  pub is_21 : o ≡ None → Wrote (met_faults c o m k) (glued_of c o) us ls us ls (Err OppositeEdges)
  unfolding flat
  is_21 e = rw e (record { answer = refl; uses = refl; lengths = refl })

  pub is_rest : (kept : Kept) → o ≡ Some kept → (us' ls' : List ℕ) (r : Result (ℕ × ℕ) FaceEditError) → Wrote (left_faults c (glued_of c (Some kept)) m k) (glued_of c (Some kept)) us ls us' ls' r
      → Wrote (met_faults c o m k) (glued_of c o) us ls us' ls' r
  is_rest kept e us' ls' r w = rw e w

-- ---- the wires as they stand in the arrays

-- some pattern has these columns
edges_with : List ℕ → List ℕ → List Edge
edges_with [] bs = []
edges_with (f ∷ fs) [] = []
edges_with (f ∷ fs) (b ∷ bs) = edge (record { 0 = f }) (record { 0 = b }) zero_edge.curve ∷ edges_with fs bs

edges_fronts : (fs bs : List ℕ) → length bs ≡ length fs → map front_number (edges_with fs bs) ≡ fs
unfolding edges_with
edges_fronts [] bs e = refl
edges_fronts (f ∷ fs) [] e = absurd (omega arith)
edges_fronts (f ∷ fs) (b ∷ bs) e = ap (λ (xs : List ℕ). f ∷ xs) (edges_fronts fs bs (omega (arith, e)))

edges_backs : (fs bs : List ℕ) → length bs ≡ length fs → map back_number (edges_with fs bs) ≡ bs
unfolding edges_with
edges_backs [] [] e = refl
edges_backs [] (b ∷ bs) e = absurd (omega arith)
edges_backs (f ∷ fs) [] e = absurd (omega arith)
edges_backs (f ∷ fs) (b ∷ bs) e = ap (λ (xs : List ℕ). b ∷ xs) (edges_backs fs bs (omega (arith, e)))

abbrev content_with : List ℕ → List ℕ → Content
content_with fs bs = record { points = []; edges = edges_with fs bs; uses = []; wires = []; faces = []; shells = []; listings = [] }

columns_with : (fs bs : List ℕ) → length bs ≡ length fs → Columns (content_with fs bs) fs bs
columns_with fs bs e = record { begin = edges_fronts fs bs e; end = edges_backs fs bs e }

module _ (ws : List (List ℕ)) (fronts backs kept out₀ lens₀ out lens : List ℕ) (w : Chained) (a : Laid ws out₀ lens₀ nothing out lens w) (r : Room fronts backs kept out lens w) where
  out_long : length out ≡ length out₀
  out_long = ap length a.written ∙ length-sets out₀ 0 (flat ws)

  lens_long : length lens ≡ length lens₀
  lens_long = ap length a.lengths ∙ length-sets lens₀ 0 (map length ws)

  pub uses_stand : flat ws ≡ take w.uses out
  uses_stand =
      let x : w.uses ≡ length (flat ws) = omega (arith, a.place) in
      sym (rw (x, a.written) (take_sets out₀ (flat ws) (length (flat ws)) refl (omega (arith, x, out_long, r.space))))

  pub lengths_stand : map length ws ≡ take w.wires lens
  lengths_stand =
      let n : length (map length ws) ≡ length ws = length-map ws length in
      let x : w.wires ≡ length (map length ws) = omega (arith, n, a.number) in
      sym (rw (x, a.lengths) (take_sets lens₀ (map length ws) (length (map length ws)) refl (omega (arith, x, lens_long, r.places))))

-- what is judged of all that is kept: the uses are named, the lengths have their sum
module _ (fronts backs kept out₀ lens₀ kept' out lens : List ℕ) (w : Chained) (points : ℕ) (s : EndColumns fronts backs) (few : points ≤ 2048) (each : EachFits fronts backs points (slots kept))
    (a : (c : Content) → Columns c fronts backs → Laid (chained c (numbers (length kept)) (slots kept)) out₀ lens₀ nothing out lens w)
    (r : Room fronts backs kept' out lens w) where
  abbrev some_wires : List (List ℕ)
  some_wires = chained (content_with fronts backs) (numbers (length kept)) (slots kept)

  laid_some : Laid some_wires out₀ lens₀ nothing out lens w
  laid_some = a (content_with fronts backs) (columns_with fronts backs s.alike)

  pub uses_named : Named fronts backs (take w.uses out)
  uses_named =
      rw (← uses_stand some_wires fronts backs kept' out₀ lens₀ out lens w laid_some r)
      (named fronts backs points (flat some_wires) s few (chained_every (Fits fronts backs points) (content_with fronts backs) (numbers (length kept)) (slots kept) each))

  pub lengths_sum : sum (take w.wires lens) ≡ length (take w.uses out)
  lengths_sum =
      rw (
        ← uses_stand some_wires fronts backs kept' out₀ lens₀ out lens w laid_some r,
        ← lengths_stand some_wires fronts backs kept' out₀ lens₀ out lens w laid_some r,
      )
      (sum_lengths some_wires)

  pub lengths_few : length lens₀ ≤ 2048 → length (take w.wires lens) ≤ 2048
  lengths_few h =
      let l = lens_long some_wires fronts backs kept' out₀ lens₀ out lens w laid_some r in
      omega (arith, length-take-le w.wires lens (omega (arith, r.places)), l, r.places)

-- room for all that is kept, at first
pub room_first : (fronts backs kept : List ℕ) → Holding fronts backs kept → length kept ≤ 2048 → Room fronts backs kept (replicate 2048 0) (replicate 2048 0) nothing
room_first fronts backs kept h l = record {
  holding = h;
  points = l;
  space = omega (arith, kept_le kept, length-replicate {A = ℕ} 2048 0);
  places = omega (arith, kept_le kept, length-replicate {A = ℕ} 2048 0);
}

-- one face of n wires
pub one_sum : (n : ℕ) → sum (n ∷ []) ≡ n
unfolding sum
one_sum n = omega arith

-- ---- the two faces

-- nothing is kept
pub bare_start : (fronts backs kept : List ℕ) → kept ≡ replicate (length kept) 65535 → EndColumns fronts backs → Holding fronts backs kept
bare_start fronts backs kept bare e = go (length kept) bare
  where
    go : (n : ℕ) → kept ≡ replicate n 65535 → Holding fronts backs kept
    go n b = rw b (holding_bare fronts backs n e.alike)

module _ (fronts backs first second kept₀ kept₁ kept₂ : List ℕ) (n : ℕ) (bare : kept₀ ≡ replicate n 65535)
    (kept : slots kept₁ ≡ keep (front_of fronts backs) (back_of fronts backs) first (slots kept₀))
    (r : Bool) (met : (c : Content) → Columns c fronts backs → meet_all c second (slots kept₁) ≡ met_as r (slots kept₂)) where
  slots_first : slots kept₀ ≡ replicate n None
  slots_first = ap slots bare ∙ slots_bare n

  meeting_is : (c : Content) (f g : ℕ) → Shown c f g fronts backs first second n → meeting c f g ≡ met_as r (slots kept₂)
  meeting_is c f g s =
      (λ i. meet_all c (s.other i) (keep (front_of (s.columns.begin i) (s.columns.end i)) (front_of (s.columns.end i) (s.columns.begin i)) (s.one i) (replicate (s.all i) None)))
      ∙ ap (λ (k : Kept). meet_all c second (keep (front_of fronts backs) (back_of fronts backs) first k)) (sym slots_first)
      ∙ ap (meet_all c second) (sym kept)
      ∙ met c s.columns

  pub glue_21 : r ≡ false → (c : Content) (f g : ℕ) → Shown c f g fronts backs first second n → (us ls : List ℕ) (m k : ℕ)
      → Wrote (met_faults c (meeting c f g) m k) (glued c f g) us ls us ls (Err OppositeEdges)
  glue_21 e c f g s us ls m k = is_21 c (meeting c f g) us ls m k (meeting_is c f g s ∙ ap (λ (b : Bool). met_as b (slots kept₂)) e)

  module _ (e : r ≡ true) (l : length kept₂ ≡ n) where
    -- each that is kept can be
    pub each_kept : PartFits fronts backs n first → PartFits fronts backs n second → EachFits fronts backs (length kept₂) (slots kept₂)
    each_kept a b =
        let P : ℕ → Type 0 = Fits fronts backs n in
        let bare-each : Every P (slots kept₀) = rw slots_first (every_bare P n) in
        let first-each : Every P (slots kept₁) = rw kept (keep_every P (front_of fronts backs) (back_of fronts backs) first (slots kept₀) (all_within fronts backs n first a) bare-each) in
        let c = content_with fronts backs in
        let m : meet_all c second (slots kept₁) ≡ Some (slots kept₂) = met c (columns_with fronts backs a.ends.alike) ∙ ap (λ (b : Bool). met_as b (slots kept₂)) e in
        rw l (meet_every P c second (slots kept₁) (slots kept₂) (all_within fronts backs n second b) first-each m)

    pub glue_rest : (c : Content) (f g : ℕ) → Shown c f g fronts backs first second n → (us ls us' ls' : List ℕ) (a : Result (ℕ × ℕ) FaceEditError)
        → ((d : Content) → Columns d fronts backs
        → Wrote (left_faults d (chained d (numbers (length kept₂)) (slots kept₂)) (length us) (length ls)) (chained d (numbers (length kept₂)) (slots kept₂)) us ls us' ls' a)
        → Wrote (met_faults c (meeting c f g) (length us) (length ls)) (glued c f g) us ls us' ls' a
    glue_rest c f g s us ls us' ls' a w =
        let z : length kept₂ ≡ length c.points = l ∙ sym s.all in
        is_rest c (meeting c f g) us ls (length us) (length ls) (slots kept₂) (meeting_is c f g s ∙ ap (λ (b : Bool). met_as b (slots kept₂)) e) us' ls' a (rw z at (w c s.columns))

pub within_as : (fs bs us fs' bs' us' : List ℕ) (n n' : ℕ) → fs' ≡ fs → bs' ≡ bs → n' ≡ n → us' ≡ us → PartFits fs bs n us → PartFits fs' bs' n' us'
within_as fs bs us fs' bs' us' n n' a b c d w = rw (a, b, c, d) w
