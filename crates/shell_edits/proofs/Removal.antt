-- A removal that is not refused: each wire that changes, and all wires.
use Prim.Native.Nat.{◌+◌, ◌-◌, ◌<◌, ◌≤◌, suc, zero, ℕ}
use mathlib.Core.Bool.{Bool, ◌&&◌, ◌||◌, false, not, or-false, true, true≢false}
use mathlib.Core.List.{List, [], ◌++◌, ◌∷◌, map, map-append}
use mathlib.Core.Logic.{◌⊎◌, inl, inr, ⊎_elim}
use mathlib.Core.Path.{◌∙◌, ◌≡◌, ap, refl, sym}
use native.Mathlib.Omega.{arith}
use lib.Dec.{eqb, leb, ltb}
use lib.ListN.{get_or-eq_default, drop, get_or, length, length-append, length-map, length-set, set, take}
use lib.Seq.{get_or-set_other, get_or-set_same, set-set}
use borrow.Author.Tests.{eqb-false, eqb-true, leb-true, ltb-false, ltb-true, not-true}
use Rattle.edge.specs.Edges.{back_number, front_number}
use Rattle.edge.specs.Uses.{back_of, edge_number, front_of, turned}
use Rattle.edge.specs.declared.Edge.{Edge}
use Rattle.edit_answers.specs.declared.EditError.TheVariants.{NotOneOrTwoWires, SharedFace, Unmatched, Unnamed}
use Rattle.errors.proofs.Laws.{none_left, none_right, unless_passes}
use Rattle.face.specs.Faces.{wire_count}
use Rattle.lists.proofs.Alike.{count_both, has_none}
use Rattle.lists.proofs.Count.{All, all_append, all_at, all_drop, all_each, all_set, all_split, all_take, all_weaker, count_only}
use Rattle.lists.proofs.Laws.{cases, has_append, left_true, length_split, right_true}
use Rattle.lists.proofs.Parts.{all_flat, all_place, flat_split, split_flat}
use Rattle.lists.specs.Lists.{count, flat, has, only, pick, rotated, split, unless}
use Rattle.pattern.proofs.Named.{ends_apart, faces_summed, use_named, wires_summed}
use Rattle.pattern.specs.Checks.{content_faults, outlines}
use Rattle.pattern.specs.Contents.{Content}
use Rattle.shell.proofs.Shown.{length_rotated, next_begins}
use Rattle.shell.proofs.Turned.{turned_edge, turned_front}
use Rattle.shell.specs.Openings.{back_in, front_in}
use Rattle.shell.specs.Shells.{listings_of}
use Rattle.shell_edits.proofs.Accepted.{edited_accepted, old_back, old_front, records_fine, rule_fine, rule_ruled, ruled_rule}
use Rattle.shell_edits.proofs.Ends.{back_is, front_is}
use Rattle.shell_edits.proofs.Joining.{Freed, all_swapped, freed, has_some, some_has}
use Rattle.shell_edits.proofs.Kept.{Kept, Pairs, Same, kept_freed, kept_ruled, kept_same, pairs_same, pairs_set, pairs_split, same_ends, same_sound, sound_wires}
use Rattle.shell_edits.proofs.Remove.{Joins, join_allowed, join_fine, new_back, new_front, opposite, place, two_changed}
use Rattle.shell_edits.specs.Edits.{end_place, end_use, ending_wires, first_wire, join_faults, joined_edge, last_wire, listed_wires, matched, next_use, outline, place_in, remove_content, remove_faults, remove_wires, shares_face, uses_in, wires_in, wires_of}
use Rattle.shell_edits.proofs.Wires.{all_has}
use Rattle.wire.proofs.Laws.{Sound}
use Rattle.wire_swaps.specs.Swaps.{swap_subwire}

module _ {ℓ} {A : Type ℓ} where
  -- those that pass a test pass it
  pub only_pass : (q : A → Bool) (xs : List A) → All (λ (x : A). q x ≡ true) (only q xs)
  unfolding only
  only_pass q [] = tt
  only_pass q (x ∷ xs) = all_append (λ (y : A). q y ≡ true) (pick (q x) (x ∷ []) []) (only q xs) (one (q x) refl) (only_pass q xs)
    where
      one : (b : Bool) → q x ≡ b → All (λ (y : A). q y ≡ true) (pick b (x ∷ []) [])
      one true e = (e, tt)
      one false e = tt

module _ {ℓ} {A : Type ℓ} where
  pub flat_set : (xs : List (List A)) (i : ℕ) (y : List A) → i < length xs → length (flat (set xs i y)) + length (get_or xs i []) ≡ length (flat xs) + length y
  unfolding flat
  flat_set [] i y h = absurd (omega arith)
  flat_set (x ∷ xs) zero y h = omega (arith, length-append x (flat xs), length-append y (flat xs))
  flat_set (x ∷ xs) (suc i) y h = omega (arith, flat_set xs i y (omega arith), length-append x (flat xs), length-append x (flat (set xs i y)))

  pub set_over : (xs : List A) (a b : ℕ) (x y : A) → a ≡ b → set (set xs a x) b y ≡ set xs b y
  set_over xs a b x y e = rw e (set-set xs b x y)

  -- one place or two set
  pub pairs_two : (R : A → A → Type 0) (d : A) (xs : List A) (a b : ℕ) (x y : A) → Pairs R xs xs → R (get_or xs b d) y → (a ≡ b) ⊎ R (get_or xs a d) x
      → Pairs R xs (set (set xs a x) b y)
  pairs_two R d xs a b x y h r (inl e) = rw (set_over xs a b x y e) (pairs_set R d xs xs b y h r)
  pairs_two R d xs a b x y h r (inr q) = pairs_set R d xs (set xs a x) b y (pairs_set R d xs xs a x h q) r

-- a number of the list that passes the test is among those that do
only_has : (q : ℕ → Bool) (w : ℕ) (xs : List ℕ) → has w xs ≡ true → q w ≡ true → has w (only q xs) ≡ true
only_has q w xs h t =
    let both : count (λ (y : ℕ). q y && eqb w y) xs ≡ count (eqb w) xs = rw t at (count_both q w xs) in
    some_has w (only q xs) (omega (arith, count_only (eqb w) q xs, both, has_some w xs h))

first_or_last : (w : ℕ) (ws : List ℕ) → length ws ≤ 2 → has w ws ≡ true → (w ≡ first_wire ws) ⊎ (w ≡ last_wire ws)
unfolding has
first_or_last w [] l h = absurd (true≢false (sym h))
first_or_last w (x ∷ []) l h = inl (eqb-true w x (rw (or-false (eqb w x)) at h))
first_or_last w (x ∷ y ∷ []) l h =
    ⊎_elim (λ (e : eqb w x ≡ true). inl (eqb-true w x e))
    (λ (e : eqb w x ≡ false). inr (eqb-true w y (rw (e, or-false (eqb w y)) at h))) (cases (eqb w x))
first_or_last w (x ∷ y ∷ z ∷ ws) l h = absurd (omega arith)

-- a point that none of the lists gives
flat_none : (p : ℕ) (g : ℕ → ℕ) (f : ℕ → List ℕ) (xs : List ℕ) → All (λ (x : ℕ). has p (map g (f x)) ≡ false) xs → has p (map g (flat (map f xs))) ≡ false
unfolding flat has
flat_none p g f [] h = refl
flat_none p g f (x ∷ xs) h = rw (map-append g (f x) (flat (map f xs)), has_append p (map g (f x)) (map g (flat (map f xs))), h.0) (flat_none p g f xs h.1)

-- a removal that is not refused
pub record Allowed (c : Content) (n p : ℕ) : Type 0 where
  pub own : shares_face c n ≡ false
  pub some : 0 < length (ending_wires c n p)
  pub few : length (ending_wires c n p) ≤ 2
  pub match : (ltb (length (ending_wires c n p)) 2 || matched c p (first_wire (ending_wires c n p)) (last_wire (ending_wires c n p))) ≡ true
  pub joins : Joins c (end_use c p (last_wire (ending_wires c n p))) (next_use c p (last_wire (ending_wires c n p)))

pub remove_allowed : (c : Content) (n p : ℕ) → remove_faults c n p ≡ [] → Allowed c n p
remove_allowed c n p h =
    let ws = ending_wires c n p in
    let a = unless (ltb n (length c.shells) && ltb p (length c.points)) Unnamed in
    let b = unless (not (shares_face c n)) SharedFace in
    let some = ltb 0 (length ws) in
    let few = leb (length ws) 2 in
    let d = unless (some && few) NotOneOrTwoWires in
    let match = ltb (length ws) 2 || matched c p (first_wire ws) (last_wire ws) in
    let e = unless match Unmatched in
    let j = join_faults c (end_use c p (last_wire ws)) (next_use c p (last_wire ws)) in
    let four : a ++ b ++ d ++ e ≡ [] = none_left (a ++ b ++ d ++ e) j h in
    let both : (some && few) ≡ true = unless_passes (some && few) NotOneOrTwoWires (none_right (a ++ b) d (none_left (a ++ b ++ d) e four)) in
    let two = none_left (a ++ b) d (none_left (a ++ b ++ d) e four) in
    record {
      own = not-true (shares_face c n) (unless_passes (not (shares_face c n)) SharedFace (none_right a b two));
      some = ltb-true 0 (length ws) (left_true some few both);
      few = leb-true (length ws) 2 (right_true some few both);
      match = unless_passes match Unmatched (none_right (a ++ b ++ d) e four);
      joins = join_allowed c (end_use c p (last_wire ws)) (next_use c p (last_wire ws)) (none_right (a ++ b ++ d ++ e) j h);
    }

module _ (c : Content) (ok : content_faults c ≡ []) where
  abbrev fs : List ℕ
  fs = map front_number c.edges

  abbrev bs : List ℕ
  bs = map back_number c.edges

  abbrev pub NamedUse : ℕ → Type 0
  NamedUse u = edge_number u < length c.edges

  pub all_sound : All (Sound fs bs) (wires_in c)
  all_sound =
      let counts = map wire_count c.faces in
      sound_wires fs bs counts (wires_in c) (faces_summed c (records_fine c ok) ∙ sym (length_split c.wires c.uses)) (rule_ruled fs bs 0 (outlines c) (rule_fine c ok))

  pub all_named : All (All NamedUse) (wires_in c)
  all_named = all_split NamedUse c.wires c.uses (all_each NamedUse 0 c.uses (use_named c (records_fine c ok)))

  -- one more edge: the old uses begin and end where they did
  abbrev pub SameWith : Edge → ℕ → Type 0
  SameWith e = Same fs bs (map front_number (c.edges ++ (e ∷ []))) (map back_number (c.edges ++ (e ∷ [])))

  pub same_with : (e : Edge) (us : List ℕ) → All NamedUse us → All (SameWith e) us
  same_with e us h = all_weaker NamedUse (SameWith e) (λ u l. (old_front c (e ∷ []) u l, old_back c (e ∷ []) u l)) us h

  -- and wires of them are kept
  pub unchanged : (e : Edge) → Pairs (Kept fs bs (map front_number (c.edges ++ (e ∷ []))) (map back_number (c.edges ++ (e ∷ [])))) (wires_in c) (wires_in c)
  unchanged e = pairs_same R (wires_in c) (go (wires_in c) all_sound all_named)
    where
      R : List ℕ → List ℕ → Type 0
      R = Kept fs bs (map front_number (c.edges ++ (e ∷ []))) (map back_number (c.edges ++ (e ∷ [])))

      go : (wires : List (List ℕ)) → All (Sound fs bs) wires → All (All NamedUse) wires → All (λ (us : List ℕ). R us us) wires
      go [] s m = tt
      go (us ∷ wires) s m =
          (kept_same fs bs (map front_number (c.edges ++ (e ∷ []))) (map back_number (c.edges ++ (e ∷ []))) us (same_with e us m.0) s.0, go wires s.1 m.1)

  -- a wire with a use that ends at p
  module _ (p w : ℕ) (t : has p (map (back_in c) (outline c w)) ≡ true) where
    abbrev us : List ℕ
    us = outline c w

    pub ending_inside : w < length (wires_in c)
    unfolding has
    ending_inside =
        ⊎_elim
        (λ (e : ltb w (length (wires_in c)) ≡ true). ltb-true w (length (wires_in c)) e)
        (λ (e : ltb w (length (wires_in c)) ≡ false).
        let none : us ≡ [] = get_or-eq_default (wires_in c) [] (ltb-false w (length (wires_in c)) e) in
        absurd (true≢false (sym (rw none at t))))
        (cases (ltb w (length (wires_in c))))

    pub ending_sound : Sound fs bs us
    ending_sound = all_place (Sound fs bs) [] (wires_in c) all_sound w ending_inside

    pub ending_named : All NamedUse us
    ending_named = all_place (All NamedUse) [] (wires_in c) all_named w ending_inside

    found : end_place c p us ≡ (place fs bs p 0 us t).at
    found = let at = (place fs bs p 0 us t).at in let z : 0 + at ≡ at = omega arith in ap place_in (place fs bs p 0 us t).found ∙ z

    place_inside : end_place c p us < length us
    place_inside = rw found (place fs bs p 0 us t).inside

    pub end_ends : back_in c (end_use c p w) ≡ p
    end_ends = rw found (place fs bs p 0 us t).ends

    pub next_begins_there : front_in c (next_use c p w) ≡ p
    next_begins_there = next_begins fs bs us (end_place c p us) ending_sound.loops place_inside ∙ end_ends

    pub end_use_named : NamedUse (end_use c p w)
    end_use_named = all_place NamedUse 0 us ending_named (end_place c p us) place_inside

    pub next_use_named : NamedUse (next_use c p w)
    next_use_named =
        all_place NamedUse 0 (rotated us) (all_append NamedUse (drop 1 us) (take 1 us) (all_drop NamedUse 1 us ending_named) (all_take NamedUse 1 us ending_named))
        (end_place c p us) (omega (arith, place_inside, length_rotated us))

    -- with one more edge, and a use m that runs as the pair does
    module _ (e : Edge) (m : ℕ) where
      abbrev fs' : List ℕ
      fs' = map front_number (c.edges ++ (e ∷ []))

      abbrev bs' : List ℕ
      bs' = map back_number (c.edges ++ (e ∷ []))

      apart : All (λ (u : ℕ). eqb (front_of fs' bs' u) (back_of fs' bs' u) ≡ false) us
      apart =
          all_weaker NamedUse (λ (u : ℕ). eqb (front_of fs' bs' u) (back_of fs' bs' u) ≡ false)
          (λ u l. rw (old_front c (e ∷ []) u l, old_back c (e ∷ []) u l) (ends_apart c (records_fine c ok) u l)) us ending_named

      pub ending_freed : front_of fs' bs' m ≡ front_in c (end_use c p w) → back_of fs' bs' m ≡ back_in c (next_use c p w)
          → Freed fs' bs' p us (swap_subwire us (end_place c p us) m)
      ending_freed begins ends =
          let u = end_use c p w in
          let v = next_use c p w in
          let there : back_of fs' bs' u ≡ p = old_back c (e ∷ []) u end_use_named ∙ end_ends in
          rw there at
          (freed fs' bs' us (end_place c p us) m (same_sound fs bs fs' bs' us (same_with e us ending_named) ending_sound) apart place_inside
          (begins ∙ sym (old_front c (e ∷ []) u end_use_named)) (ends ∙ sym (old_back c (e ∷ []) v next_use_named)))

  -- the first and the last wire of a removal that is not refused
  module _ (n p : ℕ) (h : remove_faults c n p ≡ []) where
    abbrev ws : List ℕ
    ws = ending_wires c n p

    abbrev pub edges : ℕ
    edges = length c.edges

    abbrev pub new_edge : Edge
    new_edge = joined_edge c (end_use c p (last_wire ws)) (next_use c p (last_wire ws))

    abbrev pub fronts' : List ℕ
    fronts' = map front_number (c.edges ++ (new_edge ∷ []))

    abbrev pub backs' : List ℕ
    backs' = map back_number (c.edges ++ (new_edge ∷ []))

    pub allowed : Allowed c n p
    allowed = remove_allowed c n p h

    abbrev ends_there : ℕ → Type 0
    ends_there w = has p (map (back_in c) (outline c w)) ≡ true

    passing : All ends_there ws
    passing = only_pass (λ (w : ℕ). has p (map (back_in c) (outline c w))) (wires_of c n)

    pub first_ends : ends_there (first_wire ws)
    first_ends = all_place ends_there 0 ws passing 0 allowed.some

    pub last_ends : ends_there (last_wire ws)
    last_ends = all_place ends_there 0 ws passing (length ws - 1) (omega (arith, allowed.some))

    new_begins : front_of fronts' backs' edges ≡ front_in c (end_use c p (last_wire ws))
    new_begins =
        (rw (map-append front_number c.edges (new_edge ∷ []), map-append back_number c.edges (new_edge ∷ []))
        (new_front fs bs (front_number new_edge) (back_number new_edge) edges
        (length-map c.edges front_number) (length-map c.edges back_number) (omega (arith, allowed.joins.room))))
        ∙ sym (front_is c (end_use c p (last_wire ws)))

    new_ends : back_of fronts' backs' edges ≡ back_in c (next_use c p (last_wire ws))
    new_ends =
        (rw (map-append front_number c.edges (new_edge ∷ []), map-append back_number c.edges (new_edge ∷ []))
        (new_back fs bs (front_number new_edge) (back_number new_edge) edges
        (length-map c.edges front_number) (length-map c.edges back_number) (omega (arith, allowed.joins.room))))
        ∙ sym (back_is c (next_use c p (last_wire ws)))

    -- the last wire takes the new edge
    abbrev pub last_changed : List ℕ
    last_changed = swap_subwire (outline c (last_wire ws)) (end_place c p (outline c (last_wire ws))) edges

    pub last_freed : Freed fronts' backs' p (outline c (last_wire ws)) last_changed
    last_freed = ending_freed p (last_wire ws) last_ends new_edge edges new_begins new_ends

    -- of two wires, the first takes it turned
    abbrev pub first_changed : List ℕ
    first_changed = swap_subwire (outline c (first_wire ws)) (end_place c p (outline c (first_wire ws))) (turned edges)

    module _ (two : length ws ≡ 2) where
      abbrev u : ℕ
      u = end_use c p (last_wire ws)

      abbrev v : ℕ
      v = next_use c p (last_wire ws)

      abbrev u' : ℕ
      u' = end_use c p (first_wire ws)

      abbrev v' : ℕ
      v' = next_use c p (first_wire ws)

      match : (eqb (edge_number u') (edge_number v) && eqb (edge_number u) (edge_number v')) ≡ true
      match = second (length ws) two allowed.match
        where
          second : (m : ℕ) {b : Bool} → m ≡ 2 → (ltb m 2 || b) ≡ true → b ≡ true
          second m e t = rw e at t

      -- its pair is the last wire's, the other way
      pub first_begins : front_in c u' ≡ back_in c v
      first_begins =
          opposite fs bs u' v (eqb-true (edge_number u') (edge_number v) (left_true (eqb (edge_number u') (edge_number v)) (eqb (edge_number u) (edge_number v')) match))
          (ends_apart c (records_fine c ok) u' (end_use_named p (first_wire ws) first_ends))
          (end_ends p (first_wire ws) first_ends ∙ sym (next_begins_there p (last_wire ws) last_ends))

      last_begins : front_in c u ≡ back_in c v'
      last_begins =
          opposite fs bs u v' (eqb-true (edge_number u) (edge_number v') (right_true (eqb (edge_number u') (edge_number v)) (eqb (edge_number u) (edge_number v')) match))
          (ends_apart c (records_fine c ok) u (end_use_named p (last_wire ws) last_ends))
          (end_ends p (last_wire ws) last_ends ∙ sym (next_begins_there p (first_wire ws) first_ends))

      pub first_freed : Freed fronts' backs' p (outline c (first_wire ws)) first_changed
      first_freed =
          let low : edges < 65536 = omega (arith, allowed.joins.room) in
          ending_freed p (first_wire ws) first_ends new_edge (turned edges)
          (turned_front fronts' backs' edges low ∙ new_ends ∙ sym first_begins) (turned_front backs' fronts' edges low ∙ new_begins ∙ last_begins)

      -- they are not one wire: its pair would be one edge there and back (25)
      pub first_not_last : first_wire ws ≡ last_wire ws → ⊥
      first_not_last e =
          eqb-false (front_in c u) (back_in c v) allowed.joins.differ (ap (λ (w : ℕ). front_in c (end_use c p w)) (sym e) ∙ first_begins)

    one_or_two : (length ws ≡ 1) ⊎ (length ws ≡ 2)
    one_or_two = either (length ws) allowed.some allowed.few
      where
        either : (m : ℕ) → 0 < m → m ≤ 2 → (m ≡ 1) ⊎ (m ≡ 2)
        either zero l k = absurd (omega arith)
        either (suc zero) l k = inl refl
        either (suc (suc zero)) l k = inr refl
        either (suc (suc (suc m))) l k = absurd (omega arith)

    pub one_wire : length ws ≡ 1 → first_wire ws ≡ last_wire ws
    one_wire e = let z : length ws - 1 ≡ 0 = omega arith in ap (λ (k : ℕ). get_or ws k 0) (sym z)

    -- all wires after it
    pub wires_changed : remove_wires c n p ≡ set (set (wires_in c) (first_wire ws) first_changed) (last_wire ws) last_changed
    wires_changed =
        two_changed (first_wire ws) (last_wire ws) (λ (us : List ℕ). swap_subwire us (end_place c p us) edges) (λ (us : List ℕ). swap_subwire us (end_place c p us) (turned edges))
        (wires_in c)

    pub wires_many : length (remove_wires c n p) ≡ length c.wires
    wires_many =
        ap length wires_changed
        ∙ omega (
          arith,
          length-set (set (wires_in c) (first_wire ws) first_changed) (last_wire ws) last_changed,
          length-set (wires_in c) (first_wire ws) first_changed,
          length_split c.wires c.uses,
        )

    abbrev KeptWire : List ℕ → List ℕ → Type 0
    KeptWire = Kept fs bs fronts' backs'

    wires_kept : Pairs KeptWire (wires_in c) (remove_wires c n p)
    wires_kept =
        rw wires_changed
        (pairs_two KeptWire [] (wires_in c) (first_wire ws) (last_wire ws) first_changed last_changed
        (unchanged new_edge) (changed (last_wire ws) last_changed last_ends last_freed)
        (⊎_elim
        (λ (e : length ws ≡ 1). inl (one_wire e))
        (λ (e : length ws ≡ 2). inr (changed (first_wire ws) first_changed first_ends (first_freed e)))
        one_or_two))
      where
        changed : (w : ℕ) (us' : List ℕ) → ends_there w → Freed fronts' backs' p (outline c w) us' → KeptWire (outline c w) us'
        changed w us' t f = kept_freed fs bs fronts' backs' p (outline c w) us' (same_with new_edge (outline c w) (ending_named p w t)) f

    abbrev NamedNow : ℕ → Type 0
    NamedNow u = edge_number u < length (c.edges ++ (new_edge ∷ []))

    wires_named : All (All NamedNow) (remove_wires c n p)
    wires_named =
        let one_more : length (c.edges ++ (new_edge ∷ [])) ≡ edges + 1 = length-append c.edges (new_edge ∷ []) in
        let still : (us : List ℕ) → All NamedUse us → All NamedNow us = all_weaker NamedUse NamedNow (λ u l. omega (arith, one_more)) in
        let low : edges < 32768 = omega (arith, allowed.joins.room) in
        let new : NamedNow edges = omega (arith, one_more, low) in
        let turn : NamedNow (turned edges) = rw (turned_edge edges (omega (arith, low))) new in
        rw wires_changed
        (all_set (All NamedNow) (set (wires_in c) (first_wire ws) first_changed) (last_wire ws) last_changed
        (all_set (All NamedNow) (wires_in c) (first_wire ws) first_changed (all_weaker (All NamedUse) (All NamedNow) still (wires_in c) all_named)
        (all_swapped fs bs NamedNow (outline c (first_wire ws)) (end_place c p (outline c (first_wire ws))) (turned edges)
        (still (outline c (first_wire ws)) (ending_named p (first_wire ws) first_ends)) turn))
        (all_swapped fs bs NamedNow (outline c (last_wire ws)) (end_place c p (outline c (last_wire ws))) edges
        (still (outline c (last_wire ws)) (ending_named p (last_wire ws) last_ends)) new))

    pub removal_accepted : content_faults (remove_content c n p) ≡ []
    removal_accepted =
        let counts = map wire_count c.faces in
        edited_accepted c ok (new_edge ∷ []) (remove_wires c n p)
        (join_fine c (records_fine c ok) (end_use c p (last_wire ws)) (next_use c p (last_wire ws)) (end_use_named p (last_wire ws) last_ends)
        (next_use_named p (last_wire ws) last_ends) allowed.joins)
        wires_many (all_flat NamedNow (remove_wires c n p) wires_named)
        (ruled_rule fronts' backs' 0 (split counts (remove_wires c n p))
        (kept_ruled fs bs fronts' backs' (split counts (wires_in c)) (split counts (remove_wires c n p))
        (pairs_split KeptWire counts (wires_in c) (remove_wires c n p) wires_kept) (rule_ruled fs bs 0 (outlines c) (rule_fine c ok))))

    -- each changed wire has one use less
    pub uses_fewer : length (flat (remove_wires c n p)) + length ws ≡ length c.uses
    uses_fewer =
        let all : length (flat (wires_in c)) ≡ length c.uses = ap length (flat_split c.wires c.uses (wires_summed c (records_fine c ok))) in
        let a = first_wire ws in
        let b = last_wire ws in
        let inside : b < length (wires_in c) = ending_inside p b last_ends in
        ap (λ (m : ℕ). m + length ws) (ap (λ (r : List (List ℕ)). length (flat r)) wires_changed)
        ∙ ⊎_elim
        (λ (e : length ws ≡ 1).
        rw (set_over (wires_in c) a b first_changed last_changed (one_wire e)) (omega (arith, e, all, flat_set (wires_in c) b last_changed inside, last_freed.shorter)))
        (λ (e : length ws ≡ 2).
        let other : get_or (set (wires_in c) a first_changed) b [] ≡ outline c b = get_or-set_other (wires_in c) a b first_changed [] (λ z. first_not_last e (sym z)) in
        let second = flat_set (set (wires_in c) a first_changed) b last_changed (omega (arith, inside, length-set (wires_in c) a first_changed)) in
        omega (arith, e, all, rw other at second, flat_set (wires_in c) a first_changed (ending_inside p a first_ends), last_freed.shorter, (first_freed e).shorter))
        one_or_two

    -- no wire of the shell has a use that ends at p
    none_ends : (w : ℕ) → has w (wires_of c n) ≡ true → has p (map (back_of fronts' backs') (get_or (remove_wires c n p) w [])) ≡ false
    none_ends w t =
        rw wires_changed
        (⊎_elim
        (λ (e : eqb w (last_wire ws) ≡ true).
        let z = eqb-true w (last_wire ws) e in
        rw (z, get_or-set_same (set (wires_in c) (first_wire ws) first_changed) (last_wire ws) last_changed [] (omega (arith, length-set (wires_in c) (first_wire ws) first_changed, ending_inside p (last_wire ws) last_ends)))
        (has_none p (map (back_of fronts' backs') last_changed) last_freed.gone))
        (λ (e : eqb w (last_wire ws) ≡ false).
        let not_last = eqb-false w (last_wire ws) e in
        rw (get_or-set_other (set (wires_in c) (first_wire ws) first_changed) (last_wire ws) w last_changed [] not_last)
        (⊎_elim
        (λ (i : eqb w (first_wire ws) ≡ true).
        let z = eqb-true w (first_wire ws) i in
        let two : length ws ≡ 2 = ⊎_elim (λ (o : length ws ≡ 1). absurd (not_last (z ∙ one_wire o))) (λ (o : length ws ≡ 2). o) one_or_two in
        rw (z, get_or-set_same (wires_in c) (first_wire ws) first_changed [] (ending_inside p (first_wire ws) first_ends))
        (has_none p (map (back_of fronts' backs') first_changed) (first_freed two).gone))
        (λ (i : eqb w (first_wire ws) ≡ false).
        let not_first = eqb-false w (first_wire ws) i in
        let named = all_at (All NamedUse) [] tt (wires_in c) all_named w in
        rw (get_or-set_other (wires_in c) (first_wire ws) w first_changed [] not_first, same_ends fs bs fronts' backs' (outline c w) (same_with new_edge (outline c w) named))
        (⊎_elim
        (λ (o : has p (map (back_in c) (outline c w)) ≡ true).
        let there : has w ws ≡ true = only_has (λ (x : ℕ). has p (map (back_in c) (outline c x))) w (wires_of c n) t o in
        absurd (⊎_elim (λ z. not_first z) (λ z. not_last z) (first_or_last w ws allowed.few there)))
        (λ (o : has p (map (back_in c) (outline c w)) ≡ false). o)
        (cases (has p (map (back_in c) (outline c w))))))
        (cases (eqb w (first_wire ws)))))
        (cases (eqb w (last_wire ws))))

    pub point_gone : has p (map (back_in (remove_content c n p)) (uses_in (remove_content c n p) n)) ≡ false
    point_gone =
        let W = remove_wires c n p in
        let numbers : wires_of (remove_content c n p) n ≡ wires_of c n =
        ap (λ (m : ℕ). listed_wires (map wire_count c.faces) m (listings_of c n)) (length-map W length ∙ wires_many) in
        let uses : uses_in (remove_content c n p) n ≡ flat (map (λ (w : ℕ). get_or W w []) (wires_of c n)) =
        ap (λ (r : List (List ℕ)). flat (map (λ (w : ℕ). get_or r w []) (wires_of (remove_content c n p) n))) (split_flat W)
        ∙ ap (λ (ns : List ℕ). flat (map (λ (w : ℕ). get_or W w []) ns)) numbers in
        ap (λ (us : List ℕ). has p (map (back_of fronts' backs') us)) uses
        ∙ flat_none p (back_of fronts' backs') (λ (w : ℕ). get_or W w []) (wires_of c n)
        (all_weaker (λ (w : ℕ). has w (wires_of c n) ≡ true) (λ (w : ℕ). has p (map (back_of fronts' backs') (get_or W w [])) ≡ false) none_ends (wires_of c n) (all_has (wires_of c n)))
