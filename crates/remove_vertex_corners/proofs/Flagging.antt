-- A flag for each wire with a use that ends at the point.
use Rattle.std.specs.Prelude.{is_some}
use Prim.Native.Nat.{◌+◌, ◌-◌, ◌<◌, ◌≤◌, ℕ}
use mathlib.Core.Bool.{Bool, false, true}
use mathlib.Core.List.{List, [], ◌∷◌, map}
use mathlib.Core.Logic.{⊎_elim}
use mathlib.Core.Path.{◌∙◌, ◌≡◌, ap, refl, sym}
use native.Mathlib.Omega.{arith}
use lib.Dec.{eqb}
use lib.ListN.{drop, get_or, length, length-replicate, replicate, set, take, get_or-map}
use Rattle.edge.specs.Uses.{back_of}
use Rattle.lists.proofs.Laws.{Filling, cases, eqb_sym, filling_next, filling_padded, filling_start, length_split, map_tabulate, tabulate_get_d}
use Rattle.lists.proofs.Split.{Walk, walk_next, walk_part, walk_start}
use Rattle.lists.specs.Lists.{has, padded, split, tabulate, only}
use Rattle.remove_vertex_corners.specs.Endings.{ends_at, flagged}
use Rattle.wire.specs.Wires.{end_from}
use Rattle.lists.proofs.Count.{All}
use Rattle.lists.proofs.Parts.{only_same}
use Rattle.remove_vertex_corners.proofs.Endings.{get_d_padded}

module _ (fronts backs : List ℕ) (v : ℕ) where
  -- a use ends at v exactly if the search finds one
  pub ends_found : (us : List ℕ) (i : ℕ) → ends_at fronts backs v us ≡ is_some (end_from fronts backs i v us)
  unfolding has end_from
  ends_found [] i = refl
  ends_found (u ∷ us) i =
      rw (eqb_sym v (back_of fronts backs u))
      (⊎_elim
      (λ (t : eqb (back_of fronts backs u) v ≡ true). rw t)
      (λ (t : eqb (back_of fronts backs u) v ≡ false). rw t (ends_found us (i + 1)))
      (cases (eqb (back_of fronts backs u) v)))

-- ---- a flag for each wire
module _ (g : List ℕ → Bool) (wires uses : List ℕ) where
  abbrev flag_of : ℕ → Bool
  flag_of k = g (get_or (split wires uses) k [])

  pub record Flagging (out : List Bool) (w at : ℕ) : Type 0 where
    pub walk : Walk wires w at
    pub filling : Filling flag_of (replicate 1024 false) out w

  pub flagging_start : Flagging (replicate 1024 false) 0 0
  flagging_start = record { walk = walk_start wires; filling = filling_start flag_of (replicate 1024 false) }

  module _ {out : List Bool} {w at : ℕ} (s : Flagging out w at) where
    pub flagging_next : w < length wires → length wires ≤ 1024 → {n : ℕ} {b : Bool} → n ≡ get_or wires w 0 → b ≡ g (take (at + n - at) (drop at uses)) → Flagging (set out w b) (w + 1) (at + n)
    flagging_next h l {n} {b} is e = record {
      walk = walk_next wires w at n s.walk h is;
      filling = filling_next flag_of false (replicate 1024 false) out w b s.filling (omega (arith, length-replicate 1024 false)) (e ∙ sym (ap g (walk_part wires w at n s.walk h is uses)));
    }

    pub flagging_all : length wires ≤ w → out ≡ padded 1024 false (map g (split wires uses))
    flagging_all h =
        let xs = split wires uses in
        let e : w ≡ length xs = omega (arith, s.walk.low, length_split wires uses) in
        let same : tabulate w flag_of ≡ map g xs = rw e (sym (map_tabulate g (length xs) (λ (k : ℕ). get_or xs k [])) ∙ ap (map g) (tabulate_get_d xs [])) in
        filling_padded flag_of false 1024 out w s.filling ∙ ap (padded 1024 false) same

-- ---- the wires with a use that ends at the point
module _ (fronts backs : List ℕ) (v : ℕ) (wires uses ws : List ℕ) where
  pub flags_are : {flags : List Bool} → flags ≡ padded 1024 false (map (ends_at fronts backs v) (split wires uses))
      → flagged flags ws ≡ only (λ (w : ℕ). ends_at fronts backs v (get_or (split wires uses) w [])) ws
  unfolding has
  flags_are {flags} made =
      let xs = split wires uses in
      let g : List ℕ → Bool = ends_at fronts backs v in
      let same : (w : ℕ) → get_or flags w false ≡ g (get_or xs w []) =
      λ w. ap (λ (r : List Bool). get_or r w false) made ∙ get_d_padded (1024 - length (map g xs)) false (map g xs) w ∙ get_or-map g xs w [] in
      only_same (λ (w : ℕ). get_or flags w false) (λ (w : ℕ). g (get_or xs w [])) ws (everywhere same ws)
    where
      everywhere : {q r : ℕ → Bool} → ((w : ℕ) → q w ≡ r w) → (xs : List ℕ) → All (λ (w : ℕ). q w ≡ r w) xs
      everywhere h [] = tt
      everywhere h (x ∷ xs) = (h x, everywhere h xs)
