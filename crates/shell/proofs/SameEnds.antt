-- Uses that begin and end alike under two readings of their ends: the walk and the links are the same.
use Rattle.std.specs.Prelude.{Option, None, Some}
use Prim.Native.Nat.{suc, zero, ℕ}
use mathlib.Core.List.{List, [], ◌∷◌, map}
use mathlib.Core.Path.{◌∙◌, ◌≡◌, ap, refl}
use lib.ListN.{get_or, length, replicate, set}
use Rattle.lists.proofs.Count.{All, all_at, all_only, all_replicate, all_set, all_weaker}
use Rattle.lists.proofs.Parts.{all_flat, map_same}
use Rattle.lists.specs.Lists.{flat}
use Rattle.shell.specs.Connected.{connected_of, face_links, first_points}
use Rattle.shell.specs.Openings.{Found, Kept, Walk, begin, chain, first_start, follow, free_uses, is_free, keep, look_up, walk, walk_of}

module _ (front back front' back' : ℕ → ℕ) where
  abbrev pub Same : ℕ → Type 0
  Same u = (front' u ≡ front u) × (back' u ≡ back u)

  pub fronts_same : (us : List ℕ) → All Same us → map front' us ≡ map front us
  fronts_same us h = map_same front' front us (all_weaker Same (λ (u : ℕ). front' u ≡ front u) (λ u s. s.0) us h)

  pub backs_same : (us : List ℕ) → All Same us → map back' us ≡ map back us
  backs_same us h = map_same back' back us (all_weaker Same (λ (u : ℕ). back' u ≡ back u) (λ u s. s.1) us h)

  -- ---- the walk

  -- what is kept is such a use
  abbrev SameKept : Option ℕ → Type 0
  SameKept None = Unit {0}
  SameKept (Some u) = Same u

  keep_same : (us : List ℕ) → All Same us → (kept : Kept) → keep front' back' us kept ≡ keep front back us kept
  unfolding keep
  keep_same [] h kept = refl
  keep_same (u ∷ us) h kept = rw h.0.0 (keep_same us h.1 (set kept (front u) (Some u)))

  all_kept : (us : List ℕ) → All Same us → (kept : Kept) → All SameKept kept → All SameKept (keep front back us kept)
  unfolding keep
  all_kept [] h kept a = a
  all_kept (u ∷ us) h kept a = all_kept us h.1 (set kept (front u) (Some u)) (all_set SameKept kept (front u) (Some u) a h.0)

  chain_same : (d p : ℕ) (kept : Kept) (n : ℕ) → All SameKept kept
      → (chain front' back' d p kept n ≡ chain front back d p kept n) × All SameKept (chain front back d p kept n).kept
  unfolding chain
  chain_same zero p kept n a = (refl, a)
  chain_same (suc d) p kept n a =
      let rest = all_set SameKept kept p None a tt in
      go (get_or kept p None) (all_at SameKept None tt kept a p) rest (λ q. chain_same d q (set kept p None) (look_up p kept n).lookups rest)
    where
      next : (ℕ → ℕ) → (ℕ → ℕ) → ℕ → Found
      next f g q = chain f g d q (set kept p None) (look_up p kept n).lookups

      go : (o : Option ℕ) → SameKept o → All SameKept (set kept p None) → ((q : ℕ) → (next front' back' q ≡ next front back q) × All SameKept (next front back q).kept)
          → (follow front' back' (look_up p kept n) o (next front' back') ≡ follow front back (look_up p kept n) o (next front back))
          × All SameKept (follow front back (look_up p kept n) o (next front back)).kept
      go None s rest r = (refl, rest)
      go (Some u) s rest r =
          let put : Found → Found = λ (f : Found). record { opening = u ∷ f.opening; kept = f.kept; lookups = f.lookups } in
          (ap (λ (q : ℕ). put (next front' back' q)) s.1 ∙ ap put (r (back u)).0, (r (back u)).1)

  start_same : (us : List ℕ) → All Same us → (kept : Kept) → first_start front' back' us kept ≡ first_start front back us kept
  unfolding first_start
  start_same [] h kept = refl
  start_same (u ∷ us) h kept = rw (h.0.0, start_same us h.1 kept)

  walks_same : (d : ℕ) (us : List ℕ) → All Same us → (kept : Kept) (n : ℕ) → All SameKept kept → walk front' back' d us kept n ≡ walk front back d us kept n
  unfolding walk
  walks_same zero us h kept n a = refl
  walks_same (suc d) us h kept n a =
      rw (start_same us h kept) (go (first_start front back us kept) (λ (f : Found) (k : All SameKept f.kept). walks_same d us h f.kept f.lookups k))
    where
      next : (ℕ → ℕ) → (ℕ → ℕ) → Found → Walk
      next f g r = walk f g d us r.kept r.lookups

      go : (o : Option ℕ) → ((f : Found) → All SameKept f.kept → next front' back' f ≡ next front back f)
          → begin front' back' o kept n (next front' back') ≡ begin front back o kept n (next front back)
      go None r = refl
      go (Some p) r =
          let c = chain_same (suc (length kept)) p kept n a in
          let f = chain front back (suc (length kept)) p kept n in
          let put : Found → Walk → Walk = λ (g : Found) (w : Walk). record { openings = g.opening ∷ w.openings; kept = w.kept; lookups = w.lookups } in
          ap (λ (g : Found). put g (next front' back' g)) c.0 ∙ ap (put f) (r f c.1)

  pub walk_same : (points : ℕ) (us : List ℕ) → All Same us → walk_of front' back' points us ≡ walk_of front back points us
  unfolding free_uses
  walk_same points us h =
      let free = all_only Same (is_free us) us h in
      let empty : Kept = replicate points None in
      rw (keep_same (free_uses us) free empty)
      (walks_same points us h (keep front back (free_uses us) empty) 0 (all_kept (free_uses us) free empty (all_replicate SameKept points None tt)))

  -- ---- the links; the first use of a wire without uses is read as use 0
  links_same : Same 0 → (wires : List (List ℕ)) → All (All Same) wires → face_links front' back' wires ≡ face_links front back wires
  unfolding face_links
  links_same z wires h =
      let us = all_flat Same wires h in
      let firsts : first_points front' back' wires ≡ first_points front back wires =
      map_same (λ (us : List ℕ). front' (get_or us 0 0)) (λ (us : List ℕ). front (get_or us 0 0)) wires
      (all_weaker (All Same) (λ (us : List ℕ). front' (get_or us 0 0) ≡ front (get_or us 0 0)) (λ us a. (all_at Same 0 z us a 0).0) wires h) in
      rw (fronts_same (flat wires) us, backs_same (flat wires) us, firsts)

  pub connected_same : Same 0 → (points : ℕ) (faces : List (List (List ℕ))) → All (All (All Same)) faces → connected_of front' back' points faces ≡ connected_of front back points faces
  unfolding connected_of
  connected_same z points faces h =
      let us = all_flat Same (flat faces) (all_flat (All Same) faces h) in
      rw (fronts_same (flat (flat faces)) us, map_same (face_links front' back') (face_links front back) faces (all_weaker (All (All Same)) (λ (wires : List (List ℕ)). face_links front' back' wires ≡ face_links front back wires) (links_same z) faces h))
