-- The outlines, chained from the lowest point left: one pass over the points.
use Rattle.std.specs.Prelude.{Option, None, Some}
use Prim.Native.Nat.{◌+◌, ◌-◌, ◌<◌, ◌≤◌, suc, ℕ}
use mathlib.Core.List.{List, [], ◌++◌, ◌∷◌, append_assoc, append-nil, map}
use mathlib.Core.Path.{◌∙◌, ◌≡◌, ap, refl, sym}
use native.Mathlib.Numerals.{add-one}
use native.Mathlib.Omega.{arith}
use lib.ListN.{drop, drop_of_length-le, get_or, length, length-append, length-map, length-set, set}
use lib.Seq.{drop-cons, length-sets}
use Rattle.edge.specs.Uses.{back_of, front_of}
use Rattle.face_edits.specs.FaceEdits.{chain_at, chained}
use Rattle.lists.proofs.Flat.{get_d_tabulate}
use Rattle.lists.proofs.Laws.{flat_append, length_tabulate}
use Rattle.lists.proofs.Sets.{sets_then}
use Rattle.lists.specs.Lists.{flat, numbers}
use Rattle.openings.proofs.Follow.{chain_some}
use Rattle.openings.proofs.Passes.{map_append}
use Rattle.openings.proofs.Slots.{kept_le, kept_out, length_slots, slot_none, slot_some, slots_get}
use Rattle.openings.specs.Passes.{Followed}
use Rattle.openings.specs.Slots.{Holding, kept_in, slots}
use Rattle.openings.specs.declared.Step.{Step}
use Rattle.pattern.specs.Contents.{Content}
use Rattle.shell.specs.Openings.{Found, Kept, back_in, chain, front_in}
use Rattle.glue_walk.specs.Walks.{Columns, Laid, Outline, Room, kept_chained, nothing, outline_at}
use Rattle.glue_walk.specs.declared.Chained.{Chained}

-- wires written, and others after them
laid_then : (ws vs : List (List ℕ)) (out₀ lens₀ : List ℕ) (before : Chained) (out lens : List ℕ) (mid : Chained) (out' lens' : List ℕ) (after : Chained)
    → Laid ws out₀ lens₀ before out lens mid → Laid vs out lens mid out' lens' after → Laid (ws ++ vs) out₀ lens₀ before out' lens' after
laid_then ws vs out₀ lens₀ before out lens mid out' lens' after p q =
    let f = flat_append ws vs in
    let m = map_append ws vs in
    let n : length (map length ws) ≡ length ws = length-map ws length in record {
      written = rw f (sets_then out₀ before.uses (flat ws) (flat vs) mid.uses p.place p.written q.written);
      lengths = rw m (sets_then lens₀ before.wires (map length ws) (map length vs) mid.wires (rw n p.number) p.lengths q.lengths);
      place = rw f (omega (arith, p.place, q.place, length-append (flat ws) (flat vs)));
      number = omega (arith, p.number, q.number, length-append ws vs);
    }

-- one point
module _ (fronts backs kept₀ out₀ lens₀ : List ℕ) (before : Chained) (r : Room fronts backs kept₀ out₀ lens₀ before) (q : ℕ) (l : q < length kept₀) where
  abbrev here : Outline
  here = outline_at (front_of fronts backs) (back_of fronts backs) (get_or (slots kept₀) q None) q (slots kept₀)

  here_bare : get_or kept₀ q 0 ≡ 65535 → here ≡ record { wires = []; kept = slots kept₀ }
  here_bare e = rw (slots_get kept₀ q l, slot_none (get_or kept₀ q 0) e)

  pub bare_laid : get_or kept₀ q 0 ≡ 65535 → Laid here.wires out₀ lens₀ before out₀ lens₀ before
  unfolding flat
  bare_laid e = rw (here_bare e) (record { written = refl; lengths = refl; place = omega arith; number = omega arith })

  pub bare_left : get_or kept₀ q 0 ≡ 65535 → slots kept₀ ≡ here.kept
  bare_left e = sym (ap (λ (o : Outline). o.kept) (here_bare e))

  module _ (ne : get_or kept₀ q 0 ≡ 65535 → ⊥) where
    -- what a start needs
    pub begins : (q < length kept₀) × Holding fronts backs kept₀ × (before.uses + kept_in kept₀ ≤ length out₀) × (0 + kept_in kept₀ < 1000000)
    begins = (l, r.holding, r.space, omega (arith, kept_le kept₀, r.points))

    pub place_left : before.wires < length lens₀
    place_left = omega (arith, r.places, kept_out kept₀ q l ne)

    abbrev f : Found
    f = chain (front_of fronts backs) (back_of fronts backs) (suc (length kept₀)) q (slots kept₀) 0

    some_found : 0 < length f.opening
    some_found = rw (chain_some (front_of fronts backs) (back_of fronts backs) (length kept₀) q kept₀ 0 l (get_or kept₀ q 0) refl ne) (omega arith)

    here_is : here ≡ record { wires = f.opening ∷ []; kept = f.kept }
    here_is = rw (slots_get kept₀ q l, slot_some (get_or kept₀ q 0) ne, length_slots kept₀)

    module _ (kept out : List ℕ) (s : Step) (g : Followed f fronts backs kept₀ out₀ before.uses 0 kept out s) where
      pub length_fits : s.at - before.uses < 65536
      length_fits = omega (arith, g.place, g.all, kept_le kept₀, r.points)

      pub outline_left : slots kept ≡ here.kept
      outline_left = g.left ∙ sym (ap (λ (o : Outline). o.kept) here_is)

      module _ (lens : List ℕ) (after : Chained) (stored : lens ≡ set lens₀ before.wires (s.at - before.uses)) (a : after.uses ≡ s.at) (o : after.wires ≡ before.wires + 1) where
        pub outline_laid : Laid here.wires out₀ lens₀ before out lens after
        unfolding flat
        outline_laid =
            let nil = append-nil f.opening in
            let is : s.at - before.uses ≡ length f.opening = omega (arith, g.place) in
            rw here_is (record {
              written = rw nil g.written;
              lengths = rw (stored, is);
              place = rw nil (a ∙ g.place);
              number = o;
            })

        pub outline_room : length kept ≡ length kept₀ → Room fronts backs kept out lens after
        outline_room e = record {
          holding = g.holding;
          points = omega (arith, e, r.points);
          space = let l : length out ≡ length out₀ = ap length g.written ∙ length-sets out₀ before.uses f.opening in omega (arith, l, a, g.place, g.all, r.space);
          places = let l : length lens ≡ length lens₀ = ap length stored ∙ length-set lens₀ before.wires (s.at - before.uses) in omega (arith, l, o, g.all, some_found, r.places);
        }

-- one point of the definition
chained_turn : (c : Content) (p : ℕ) (ps : List ℕ) (kept : Kept)
    → chained c (p ∷ ps) kept ≡ (let o = outline_at (front_in c) (back_in c) (get_or kept p None) p kept in o.wires ++ chained c ps o.kept)
unfolding chained
chained_turn c p ps kept = go (get_or kept p None)
  where
    go : (o : Option ℕ) → chain_at c o p kept (chained c ps) ≡ (let t = outline_at (front_in c) (back_in c) o p kept in t.wires ++ chained c ps t.kept)
    go None = refl
    go (Some u) = refl

-- the points before q are passed
pub record Chaining (fronts backs kept₀ out₀ lens₀ kept out lens : List ℕ) (w : Chained) (q : ℕ) : Type 0 where
  pub done : List (List ℕ)
  pub low : q ≤ length kept₀
  pub same : (c : Content) → Columns c fronts backs → chained c (numbers (length kept₀)) (slots kept₀) ≡ done ++ chained c (drop q (numbers (length kept₀))) (slots kept)
  pub left : (c : Content) → Columns c fronts backs → kept_chained c (numbers (length kept₀)) (slots kept₀) ≡ kept_chained c (drop q (numbers (length kept₀))) (slots kept)
  pub laid : Laid done out₀ lens₀ nothing out lens w
  pub room : Room fronts backs kept out lens w
  pub long : length kept ≡ length kept₀

module _ (fronts backs kept₀ out₀ lens₀ : List ℕ) where
  pub chaining_start : Room fronts backs kept₀ out₀ lens₀ nothing → Chaining fronts backs kept₀ out₀ lens₀ kept₀ out₀ lens₀ nothing 0
  unfolding flat
  chaining_start r = record {
    done = [];
    low = omega arith;
    same = λ c col. refl;
    left = λ c col. refl;
    laid = record { written = refl; lengths = refl; place = omega arith; number = omega arith };
    room = r;
    long = refl;
  }

  module _ (kept out lens : List ℕ) (w : Chained) (q : ℕ) (s : Chaining fronts backs kept₀ out₀ lens₀ kept out lens w q) where
    pub chaining_out : length out ≡ length out₀
    chaining_out = ap length s.laid.written ∙ length-sets out₀ 0 (flat s.done)

    pub chaining_lens : length lens ≡ length lens₀
    chaining_lens = ap length s.laid.lengths ∙ length-sets lens₀ 0 (map length s.done)

    pub chaining_all : length kept ≤ q → (c : Content) → Columns c fronts backs → Laid (chained c (numbers (length kept₀)) (slots kept₀)) out₀ lens₀ nothing out lens w
    unfolding chained
    chaining_all h c col =
        let n : length (numbers (length kept₀)) ≤ q = omega (arith, length_tabulate (length kept₀) (λ (k : ℕ). k), s.long) in
        let e : chained c (numbers (length kept₀)) (slots kept₀) ≡ s.done = s.same c col ∙ rw (drop_of_length-le (numbers (length kept₀)) n) (append-nil s.done) in
        rw e s.laid

    pub chaining_left : length kept ≤ q → (c : Content) → Columns c fronts backs → slots kept ≡ kept_chained c (numbers (length kept₀)) (slots kept₀)
    unfolding kept_chained
    chaining_left h c col =
        let n : length (numbers (length kept₀)) ≤ q = omega (arith, length_tabulate (length kept₀) (λ (k : ℕ). k), s.long) in
        sym (s.left c col ∙ rw (drop_of_length-le (numbers (length kept₀)) n))

    module _ (l : q < length kept) (kept' out' lens' : List ℕ) (w' : Chained) where
      abbrev turn : Outline
      turn = outline_at (front_of fronts backs) (back_of fronts backs) (get_or (slots kept) q None) q (slots kept)

      -- the points from q on, and the outline there
      module _ (c : Content) (col : Columns c fronts backs) where
        abbrev ps : List ℕ
        ps = numbers (length kept₀)

        points_are : drop q ps ≡ q ∷ drop (suc q) ps
        points_are =
            let m : q < length ps = omega (arith, length_tabulate (length kept₀) (λ (k : ℕ). k), s.long) in
            let at : get_or ps q 0 ≡ q = get_d_tabulate (length kept₀) (λ (k : ℕ). k) q 0 (omega (arith, s.long)) in
            rw at at (drop-cons {A = ℕ} ps q 0 m)

        outline_is : outline_at (front_in c) (back_in c) (get_or (slots kept) q None) q (slots kept) ≡ turn
        outline_is = λ i. outline_at (front_of (col.begin i) (col.end i)) (front_of (col.end i) (col.begin i)) (get_or (slots kept) q None) q (slots kept)

        turn_is : slots kept' ≡ turn.kept → chained c (drop q ps) (slots kept) ≡ turn.wires ++ chained c (drop (suc q) ps) (slots kept')
        turn_is left =
            ap (λ (xs : List ℕ). chained c xs (slots kept)) points_are
            ∙ chained_turn c q (drop (suc q) ps) (slots kept)
            ∙ ap (λ (o : Outline). o.wires ++ chained c (drop (suc q) ps) o.kept) outline_is
            ∙ ap (λ (k : Kept). turn.wires ++ chained c (drop (suc q) ps) k) (sym left)

        turn_left : slots kept' ≡ turn.kept → kept_chained c (drop q ps) (slots kept) ≡ kept_chained c (drop (suc q) ps) (slots kept')
        unfolding kept_chained
        turn_left left =
            ap (λ (xs : List ℕ). kept_chained c xs (slots kept)) points_are
            ∙ ap (λ (o : Outline). kept_chained c (drop (suc q) ps) o.kept) outline_is
            ∙ ap (λ (k : Kept). kept_chained c (drop (suc q) ps) k) (sym left)

      pub chaining_next : Laid turn.wires out lens w out' lens' w' → slots kept' ≡ turn.kept → Room fronts backs kept' out' lens' w' → length kept' ≡ length kept
          → Chaining fronts backs kept₀ out₀ lens₀ kept' out' lens' w' (q + 1)
      chaining_next p left r n = record {
        done = s.done ++ turn.wires;
        low = omega (arith, s.long);
        same = λ c col.
            s.same c col
            ∙ ap (λ (ws : List (List ℕ)). s.done ++ ws) (turn_is c col left)
            ∙ rw add-one (sym (append_assoc s.done turn.wires (chained c (drop (suc q) (numbers (length kept₀))) (slots kept'))));
        left = λ c col. s.left c col ∙ turn_left c col left ∙ rw add-one;
        laid = laid_then s.done turn.wires out₀ lens₀ nothing out lens w out' lens' w' s.laid p;
        room = r;
        long = n ∙ s.long;
      }
