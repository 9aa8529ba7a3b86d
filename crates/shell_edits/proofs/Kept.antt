-- Wires that give way to wires which meet no more points: the faces keep the face rule.
use Prim.Native.Nat.{◌≤◌, suc, zero, ℕ}
use mathlib.Core.List.{List, [], ◌∷◌, map}
use mathlib.Core.Path.{◌∙◌, ◌≡◌, ap, sym}
use native.Mathlib.Omega.{arith}
use lib.Dec.{eqb}
use lib.ListN.{drop, get_or, length, set, take}
use Rattle.edge.specs.Uses.{back_of, front_of}
use Rattle.lists.proofs.Alike.{count_no_dup}
use Rattle.lists.proofs.Count.{All, all_weaker, count_append, count_flat}
use Rattle.lists.proofs.Parts.{all_flat, flat_split, map_same}
use Rattle.lists.specs.Lists.{count, flat, rotated, split, sum}
use Rattle.shell.proofs.Chain.{from}
use Rattle.shell.proofs.Rings.{points_count}
use Rattle.shell.proofs.Shown.{closed_ends, ends_closed}
use Rattle.shell.proofs.Walked.{Ring}
use Rattle.shell_edits.proofs.Accepted.{Ruled}
use Rattle.shell_edits.proofs.Joining.{Freed, Within}
use Rattle.wire.proofs.Laws.{Sound}
use Rattle.wire.specs.Wires.{points}

-- a claim of each two elements at the same place of two lists of one length
abbrev pub Pairs {ℓ} : {A : Type ℓ} → (A → A → Type 0) → List A → List A → Type 0
Pairs R [] [] = Unit {0}
Pairs R [] (y ∷ ys) = ⊥
Pairs R (x ∷ xs) [] = ⊥
Pairs R (x ∷ xs) (y ∷ ys) = R x y × Pairs R xs ys

module _ {ℓ} {A : Type ℓ} (R : A → A → Type 0) where
  pub pairs_same : (xs : List A) → All (λ (x : A). R x x) xs → Pairs R xs xs
  pairs_same [] h = tt
  pairs_same (x ∷ xs) h = (h.0, pairs_same xs h.1)

  pub pairs_set : (d : A) (xs ys : List A) (i : ℕ) (y : A) → Pairs R xs ys → R (get_or xs i d) y → Pairs R xs (set ys i y)
  pairs_set d [] [] i y h r = tt
  pairs_set d [] (z ∷ ys) i y h r = absurd h
  pairs_set d (x ∷ xs) [] i y h r = absurd h
  pairs_set d (x ∷ xs) (z ∷ ys) zero y h r = (r, h.1)
  pairs_set d (x ∷ xs) (z ∷ ys) (suc i) y h r = (h.0, pairs_set d xs ys i y h.1 r)

  pairs_take : (n : ℕ) (xs ys : List A) → Pairs R xs ys → Pairs R (take n xs) (take n ys)
  pairs_take zero xs ys h = tt
  pairs_take (suc n) [] [] h = tt
  pairs_take (suc n) [] (y ∷ ys) h = absurd h
  pairs_take (suc n) (x ∷ xs) [] h = absurd h
  pairs_take (suc n) (x ∷ xs) (y ∷ ys) h = (h.0, pairs_take n xs ys h.1)

  pairs_drop : (n : ℕ) (xs ys : List A) → Pairs R xs ys → Pairs R (drop n xs) (drop n ys)
  pairs_drop zero xs ys h = h
  pairs_drop (suc n) [] [] h = tt
  pairs_drop (suc n) [] (y ∷ ys) h = absurd h
  pairs_drop (suc n) (x ∷ xs) [] h = absurd h
  pairs_drop (suc n) (x ∷ xs) (y ∷ ys) h = pairs_drop n xs ys h.1

  pub pairs_split : (ns : List ℕ) (xs ys : List A) → Pairs R xs ys → Pairs (Pairs R) (split ns xs) (split ns ys)
  unfolding split
  pairs_split [] xs ys h = tt
  pairs_split (n ∷ ns) xs ys h = (pairs_take n xs ys h, pairs_split ns (drop n xs) (drop n ys) (pairs_drop n xs ys h))

module _ (fs bs : List ℕ) where
  -- under the face rule every wire is sound
  ruled_sound : (wires : List (List ℕ)) → All (Ring fs bs) wires → ((q : ℕ) → count (from fs bs q) (flat wires) ≤ 1) → All (Sound fs bs) wires
  ruled_sound [] h d = tt
  ruled_sound (us ∷ wires) h d =
      let once = count_no_dup (points fs bs us) (λ q. omega (arith, d q, count_flat (from fs bs q) us wires, points_count fs bs us q)) in (
        record { used = h.0.0; loops = h.0.1; once = once },
        ruled_sound wires h.1 (λ q. omega (arith, d q, count_flat (from fs bs q) us wires)),
      )

  pub sound_wires : (counts : List ℕ) (wires : List (List ℕ)) → sum counts ≡ length wires → All (Ruled fs bs) (split counts wires) → All (Sound fs bs) wires
  sound_wires counts wires e h =
      let each : All (All (Sound fs bs)) (split counts wires) =
      all_weaker (Ruled fs bs) (All (Sound fs bs)) (λ ws r. ruled_sound ws r.rings r.once) (split counts wires) h in
      rw (flat_split counts wires e) at (all_flat (Sound fs bs) (split counts wires) each)

module _ (fs bs fs' bs' : List ℕ) where
  -- a use begins and ends where it did
  abbrev pub Same : ℕ → Type 0
  Same u = (front_of fs' bs' u ≡ front_of fs bs u) × (back_of fs' bs' u ≡ back_of fs bs u)

  module _ (us : List ℕ) (h : All Same us) where
    pub same_points : points fs' bs' us ≡ points fs bs us
    same_points = map_same (front_of fs' bs') (front_of fs bs) us (all_weaker Same (λ (u : ℕ). front_of fs' bs' u ≡ front_of fs bs u) (λ u s. s.0) us h)

    pub same_ends : map (back_of fs' bs') us ≡ map (back_of fs bs) us
    same_ends = map_same (back_of fs' bs') (back_of fs bs) us (all_weaker Same (λ (u : ℕ). back_of fs' bs' u ≡ back_of fs bs u) (λ u s. s.1) us h)

    pub same_sound : Sound fs bs us → Sound fs' bs' us
    same_sound s = record {
      used = s.used;
      loops = ends_closed fs' bs' us (same_ends ∙ closed_ends fs bs us s.loops ∙ ap rotated (sym same_points));
      once = rw same_points s.once;
    }

  -- a wire that gives way to another, which meets no more points
  pub record Kept (us us' : List ℕ) : Type 0 where
    pub ring : Ring fs' bs' us'
    pub within : Within (points fs' bs' us') (points fs bs us)

  pub kept_same : (us : List ℕ) → All Same us → Sound fs bs us → Kept us us
  kept_same us h s =
      let t = same_sound us h s in
      record { ring = (t.used, t.loops); within = λ x. omega (arith, ap (count (eqb x)) (same_points us h)) }

  pub kept_freed : (p : ℕ) (us us' : List ℕ) → All Same us → Freed fs' bs' p us us' → Kept us us'
  kept_freed p us us' h f = record {
    ring = (f.sound.used, f.sound.loops);
    within = λ x. omega (arith, f.within x, ap (count (eqb x)) (same_points us h));
  }

  kept_rings : (wires wires' : List (List ℕ)) → Pairs Kept wires wires' → All (Ring fs' bs') wires'
  kept_rings [] [] h = tt
  kept_rings [] (us ∷ wires') h = absurd h
  kept_rings (us ∷ wires) [] h = absurd h
  kept_rings (us ∷ wires) (us' ∷ wires') h = (h.0.ring, kept_rings wires wires' h.1)

  kept_less : (wires wires' : List (List ℕ)) → Pairs Kept wires wires' → (q : ℕ) → count (from fs' bs' q) (flat wires') ≤ count (from fs bs q) (flat wires)
  unfolding flat count
  kept_less [] [] h q = omega arith
  kept_less [] (us ∷ wires') h q = absurd h
  kept_less (us ∷ wires) [] h q = absurd h
  kept_less (us ∷ wires) (us' ∷ wires') h q =
      omega (
        arith,
        kept_less wires wires' h.1 q,
        h.0.within q,
        points_count fs bs us q,
        points_count fs' bs' us' q,
        count_append (from fs bs q) us (flat wires),
        count_append (from fs' bs' q) us' (flat wires'),
      )

  -- face by face
  pub kept_ruled : (faces faces' : List (List (List ℕ))) → Pairs (Pairs Kept) faces faces' → All (Ruled fs bs) faces → All (Ruled fs' bs') faces'
  kept_ruled [] [] h r = tt
  kept_ruled [] (wires ∷ faces') h r = absurd h
  kept_ruled (wires ∷ faces) [] h r = absurd h
  kept_ruled (wires ∷ faces) (wires' ∷ faces') h r = (
    record { rings = kept_rings wires wires' h.0; once = λ q. omega (arith, kept_less wires wires' h.0 q, r.0.once q) },
    kept_ruled faces faces' h.1 r.1,
  )
