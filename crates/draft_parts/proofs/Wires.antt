-- The wires of a face, one value after the other.
use Prim.Native.Nat.{◌+◌, ◌-◌, ◌<◌, ◌≤◌, suc, zero, ℕ}
use mathlib.Core.Bool.{false, true}
use mathlib.Core.List.{List, [], ◌++◌, ◌∷◌, append_assoc, append-nil}
use mathlib.Core.Logic.{⊎_elim}
use mathlib.Core.Path.{◌∙◌, ◌≡◌, ap, refl, sym}
use native.Mathlib.Nat.{add-zero}
use native.Mathlib.Numerals.{add-one}
use native.Mathlib.Omega.{arith}
use lib.Dec.{eqb}
use lib.ListN.{drop, get_or, length, length-append, length-map, set, take, take-append-drop}
use lib.Seq.{length-sets, set_comm, set-set, sets, take_all, take-suc}
use borrow.Author.Tests.{eq-eqb, eqb-false, eqb-true, ne_eqb}
use Rattle.lists.proofs.Laws.{cases, flat_append}
use Rattle.lists.proofs.Parts.{flat_one}
use Rattle.lists.proofs.Sets.{sets_then}
use Rattle.lists.specs.Lists.{flat}
use Rattle.text.specs.Text.{front}
use Rattle.draft_parts.specs.Parts.{marked, wire_lengths, wire_lists}
use Rattle.words.specs.Words.{short}

-- ---- one value more

-- a use after those of the last wire
abbrev lastly : ℕ → List (List ℕ) → List (List ℕ)
lastly v [] = []
lastly v (m ∷ []) = (m ++ (v ∷ [])) ∷ []
lastly v (m ∷ n ∷ ns) = m ∷ lastly v (n ∷ ns)

-- how many uses the last wire has
abbrev pub last_size : List (List ℕ) → ℕ
last_size [] = 0
last_size (m ∷ []) = length m
last_size (m ∷ n ∷ ns) = last_size (n ∷ ns)

front_full : (b : ℕ) (ss : List (List ℕ)) → 0 < length (front b ss)
front_full b [] = omega arith
front_full b (s ∷ ss) = omega arith

marked_full : (t : List ℕ) → 0 < length (marked t)
unfolding marked
marked_full [] = omega arith
marked_full (v ∷ t) =
    ⊎_elim
    (λ (h : eqb v 65536 ≡ true). rw h (omega arith))
    (λ (h : eqb v 65536 ≡ false). rw h (front_full (short v) (marked t)))
    (cases (eqb v 65536))

front_append : (b : ℕ) (ss ts : List (List ℕ)) → 0 < length ss → front b (ss ++ ts) ≡ front b ss ++ ts
front_append b [] ts h = absurd (omega arith)
front_append b (s ∷ ss) ts h = refl

front_lastly : (b v : ℕ) (ss : List (List ℕ)) → 0 < length ss → front b (lastly v ss) ≡ lastly v (front b ss)
front_lastly b v [] h = absurd (omega arith)
front_lastly b v (s ∷ []) h = refl
front_lastly b v (s ∷ n ∷ ns) h = refl

marked_mark : (t : List ℕ) (v : ℕ) → v ≡ 65536 → marked (t ++ (v ∷ [])) ≡ marked t ++ ([] ∷ [])
unfolding marked
marked_mark [] v e = rw (eq-eqb v 65536 e)
marked_mark (a ∷ t) v e =
    ⊎_elim
    (λ (h : eqb a 65536 ≡ true). rw (h, marked_mark t v e))
    (λ (h : eqb a 65536 ≡ false). rw (h, marked_mark t v e) (front_append (short a) (marked t) ([] ∷ []) (marked_full t)))
    (cases (eqb a 65536))

marked_use : (t : List ℕ) (v : ℕ) → (v ≡ 65536 → ⊥) → marked (t ++ (v ∷ [])) ≡ lastly (short v) (marked t)
unfolding marked
marked_use [] v e = rw (ne_eqb v 65536 e)
marked_use (a ∷ t) v e =
    ⊎_elim
    (λ (h : eqb a 65536 ≡ true). rw (h, marked_use t v e) (lastly_past (marked t) (marked_full t)))
    (λ (h : eqb a 65536 ≡ false). rw (h, marked_use t v e) (front_lastly (short a) (short v) (marked t) (marked_full t)))
    (cases (eqb a 65536))
  where
    lastly_past : (ss : List (List ℕ)) → 0 < length ss → [] ∷ lastly (short v) ss ≡ lastly (short v) ([] ∷ ss)
    lastly_past [] h = absurd (omega arith)
    lastly_past (s ∷ ss) h = refl

drop_full : (ss ts : List (List ℕ)) → 0 < length ss → drop 1 (ss ++ ts) ≡ drop 1 ss ++ ts
drop_full [] ts h = absurd (omega arith)
drop_full (s ∷ ss) ts h = refl

drop_lastly : (v : ℕ) (ss : List (List ℕ)) → drop 1 (lastly v ss) ≡ lastly v (drop 1 ss)
drop_lastly v [] = refl
drop_lastly v (s ∷ []) = refl
drop_lastly v (s ∷ n ∷ ns) = refl

module _ (t : List ℕ) (v : ℕ) where
  wires_mark : v ≡ 65536 → wire_lists (t ++ (v ∷ [])) ≡ wire_lists t ++ ([] ∷ [])
  wires_mark e = ap (drop 1) (marked_mark t v e) ∙ drop_full (marked t) ([] ∷ []) (marked_full t)

  wires_use : (v ≡ 65536 → ⊥) → wire_lists (t ++ (v ∷ [])) ≡ lastly (short v) (wire_lists t)
  wires_use e = ap (drop 1) (marked_use t v e) ∙ drop_lastly (short v) (marked t)

-- ---- what a wire more or a use more adds

length_lastly : (v : ℕ) (ss : List (List ℕ)) → length (lastly v ss) ≡ length ss
length_lastly v [] = refl
length_lastly v (s ∷ []) = refl
length_lastly v (s ∷ n ∷ ns) = ap suc (length_lastly v (n ∷ ns))

flat_lastly : (v : ℕ) (ss : List (List ℕ)) → 0 < length ss → flat (lastly v ss) ≡ flat ss ++ (v ∷ [])
unfolding flat
flat_lastly v [] h = absurd (omega arith)
flat_lastly v (s ∷ []) h = append-nil (s ++ (v ∷ [])) ∙ rw (append-nil s)
flat_lastly v (s ∷ n ∷ ns) h = rw (flat_lastly v (n ∷ ns) (omega arith)) (sym (append_assoc s (flat (n ∷ ns)) (v ∷ [])))

lastly_none : (v : ℕ) (ss : List (List ℕ)) → length ss ≡ 0 → lastly v ss ≡ ss
lastly_none v [] h = refl
lastly_none v (s ∷ ss) h = absurd (omega arith)

flat_mark : (ss : List (List ℕ)) → flat (ss ++ ([] ∷ [])) ≡ flat ss
flat_mark ss = flat_append ss ([] ∷ []) ∙ rw (flat_one {A = ℕ} []) (append-nil (flat ss))

size_lastly : (v : ℕ) (ss : List (List ℕ)) → 0 < length ss → last_size (lastly v ss) ≡ suc (last_size ss)
size_lastly v [] h = absurd (omega arith)
size_lastly v (s ∷ []) h = omega (arith, length-append s (v ∷ []))
size_lastly v (s ∷ n ∷ []) h = size_lastly v (n ∷ []) (omega arith)
size_lastly v (s ∷ n ∷ m ∷ ms) h = size_lastly v (n ∷ m ∷ ms) (omega arith)

size_mark : (ss : List (List ℕ)) → last_size (ss ++ ([] ∷ [])) ≡ 0
size_mark [] = refl
size_mark (s ∷ []) = refl
size_mark (s ∷ n ∷ ns) = size_mark (n ∷ ns)

lengths_mark : (ss : List (List ℕ)) → wire_lengths (ss ++ ([] ∷ [])) ≡ wire_lengths ss ++ (0 ∷ [])
lengths_mark [] = refl
lengths_mark (s ∷ ss) = rw (lengths_mark ss)

lengths_lastly : (v n : ℕ) (ss : List (List ℕ)) → length ss ≡ suc n → wire_lengths (lastly v ss) ≡ set (wire_lengths ss) n (short (suc (last_size ss)))
lengths_lastly v n [] h = absurd (omega arith)
lengths_lastly v zero (s ∷ []) h =
    let e : length (s ++ (v ∷ [])) ≡ suc (length s) = omega (arith, length-append s (v ∷ [])) in
    rw e
lengths_lastly v (suc n) (s ∷ []) h = absurd (omega arith)
lengths_lastly v zero (s ∷ r ∷ rs) h = absurd (omega arith)
lengths_lastly v (suc n) (s ∷ r ∷ rs) h = rw (lengths_lastly v n (r ∷ rs) (omega arith))

-- a store before others, and one among others
module _ {A : Type 0} where
  set_before : (l xs : List A) (j i : ℕ) (x : A) → i < j → set (sets l j xs) i x ≡ sets (set l i x) j xs
  set_before l [] j i x h = refl
  set_before l (y ∷ ys) j i x h =
      set_before (set l j y) ys (suc j) i x (omega arith) ∙ rw (set_comm l j i y x (λ (e : j ≡ i). omega arith))

  set_among : (l xs : List A) (at i : ℕ) (x : A) → i < length xs → set (sets l at xs) (at + i) x ≡ sets l at (set xs i x)
  set_among l [] at i x h = absurd (omega arith)
  set_among l (y ∷ ys) at zero x h = rw (add-zero at) (set_before (set l at y) ys (suc at) at x (omega arith) ∙ rw (set-set l at y x))
  set_among l (y ∷ ys) at (suc i) x h =
      let e : at + suc i ≡ suc at + i = omega arith in
      rw e (set_among (set l at y) ys (suc at) i x (omega arith))

-- ---- the values up to i

module _ (v : List ℕ) (i : ℕ) (l : i < length v) where
  one_more : take (i + 1) v ≡ take i v ++ (get_or v i 0 ∷ [])
  one_more = rw (add-one i) (take-suc v i 0 l)

  marked_here : get_or v i 0 ≡ 65536 → wire_lists (take (i + 1) v) ≡ wire_lists (take i v) ++ ([] ∷ [])
  marked_here e = ap wire_lists one_more ∙ wires_mark (take i v) (get_or v i 0) e

  used_here : (get_or v i 0 ≡ 65536 → ⊥) → wire_lists (take (i + 1) v) ≡ lastly (short (get_or v i 0)) (wire_lists (take i v))
  used_here e = ap wire_lists one_more ∙ wires_use (take i v) (get_or v i 0) e

-- values after others take no wire and no use away
grown : (t : List ℕ) (v : ℕ) → (length (wire_lists t) ≤ length (wire_lists (t ++ (v ∷ [])))) × (length (flat (wire_lists t)) ≤ length (flat (wire_lists (t ++ (v ∷ [])))))
grown t v =
    ⊎_elim
    (λ (h : eqb v 65536 ≡ true).
    let e = wires_mark t v (eqb-true v 65536 h) in
    rw (e, flat_mark (wire_lists t)) (omega (arith, length-append (wire_lists t) ([] ∷ [])), omega arith))
    (λ (h : eqb v 65536 ≡ false).
    let e = wires_use t v (eqb-false v 65536 h) in
    rw (e, length_lastly (short v) (wire_lists t)) (omega arith, uses (short v) (wire_lists t)))
    (cases (eqb v 65536))
  where
    uses : (v : ℕ) (ss : List (List ℕ)) → length (flat ss) ≤ length (flat (lastly v ss))
    uses v [] = omega arith
    uses v (s ∷ ss) = rw (flat_lastly v (s ∷ ss) (omega arith)) (omega (arith, length-append (flat (s ∷ ss)) (v ∷ [])))

grows : (t s : List ℕ) → (length (wire_lists t) ≤ length (wire_lists (t ++ s))) × (length (flat (wire_lists t)) ≤ length (flat (wire_lists (t ++ s))))
grows t [] = rw (append-nil t) (omega arith, omega arith)
grows t (x ∷ s) =
    let a = grown t x in
    let b = rw (append_assoc t (x ∷ []) s) at (grows (t ++ (x ∷ [])) s) in
    (omega (arith, a.0, b.0), omega (arith, a.1, b.1))

part_grows : (v : List ℕ) (i : ℕ) → (length (wire_lists (take i v)) ≤ length (wire_lists v)) × (length (flat (wire_lists (take i v))) ≤ length (flat (wire_lists v)))
part_grows v i = rw (take-append-drop i v) at (grows (take i v) (drop i v))

-- ---- the loop that counts

pub record Counting (v : List ℕ) (i uses wires : ℕ) : Type 0 where
  pub low : i ≤ length v
  pub few : uses + wires ≤ i
  pub uses_are : uses ≡ length (flat (wire_lists (take i v)))
  pub wires_are : wires ≡ length (wire_lists (take i v))

pub counting_start : (v : List ℕ) → Counting v 0 0 0
unfolding flat marked
counting_start v = record { low = omega arith; few = omega arith; uses_are = refl; wires_are = refl }

module _ {v : List ℕ} {i uses wires : ℕ} (c : Counting v i uses wires) (l : i < length v) where
  pub counting_mark : get_or v i 0 ≡ 65536 → Counting v (i + 1) uses (wires + 1)
  counting_mark e =
      let w = marked_here v i l e in record {
        low = omega arith;
        few = omega (arith, c.few);
        uses_are = rw (w, flat_mark (wire_lists (take i v))) c.uses_are;
        wires_are = rw w (omega (arith, c.wires_are, length-append (wire_lists (take i v)) ([] ∷ [])));
      }

  module _ (e : get_or v i 0 ≡ 65536 → ⊥) where
    pub counting_use : 0 < wires → Counting v (i + 1) (uses + 1) wires
    counting_use h =
        let w = used_here v i l e in
        let x = short (get_or v i 0) in
        let f = flat_lastly x (wire_lists (take i v)) (omega (arith, c.wires_are)) in record {
          low = omega arith;
          few = omega (arith, c.few);
          uses_are = rw (w, f) (omega (arith, c.uses_are, length-append (flat (wire_lists (take i v))) (x ∷ [])));
          wires_are = rw (w, length_lastly x (wire_lists (take i v))) c.wires_are;
        }

    pub counting_before : wires ≤ 0 → Counting v (i + 1) uses wires
    counting_before h =
        let w = used_here v i l e in
        let none : length (wire_lists (take i v)) ≡ 0 = omega (arith, c.wires_are) in
        let n = w ∙ lastly_none (short (get_or v i 0)) (wire_lists (take i v)) none in
        record { low = omega arith; few = omega (arith, c.few); uses_are = rw n c.uses_are; wires_are = rw n c.wires_are }

pub counting_all : {v : List ℕ} {i uses wires : ℕ} → Counting v i uses wires → length v ≤ i
    → (uses ≡ length (flat (wire_lists v))) × (wires ≡ length (wire_lists v)) × (uses + wires ≤ length v)
counting_all {v} {i} c h = (rw (take_all i v h) at c.uses_are, rw (take_all i v h) at c.wires_are, omega (arith, c.few, c.low))

-- ---- the loop that writes

pub record Laying (v uses₀ : List ℕ) (used : ℕ) (wires₀ : List ℕ) (wired : ℕ) (uses wires : List ℕ) (u w size i : ℕ) : Type 0 where
  pub low : i ≤ length v
  pub few : size ≤ i
  pub uses_are : uses ≡ sets uses₀ used (flat (wire_lists (take i v)))
  pub u_is : u ≡ used + length (flat (wire_lists (take i v)))
  pub wires_are : wires ≡ sets wires₀ wired (wire_lengths (wire_lists (take i v)))
  pub w_is : w ≡ wired + length (wire_lists (take i v))
  pub size_is : size ≡ last_size (wire_lists (take i v))

pub laying_start : (v uses : List ℕ) (used : ℕ) (wires : List ℕ) (wired : ℕ) → Laying v uses used wires wired uses wires used wired 0 0
unfolding flat marked
laying_start v uses used wires wired = record { low = omega arith; few = omega arith; uses_are = refl; u_is = omega arith; wires_are = refl; w_is = omega arith; size_is = refl }

module _ {v uses₀ : List ℕ} {used : ℕ} {wires₀ : List ℕ} {wired : ℕ} {uses wires : List ℕ} {u w size i : ℕ} (c : Laying v uses₀ used wires₀ wired uses wires u w size i) where
  pub laying_uses : length uses ≡ length uses₀
  laying_uses = ap length c.uses_are ∙ length-sets uses₀ used (flat (wire_lists (take i v)))

  pub laying_wires : length wires ≡ length wires₀
  laying_wires = ap length c.wires_are ∙ length-sets wires₀ wired (wire_lengths (wire_lists (take i v)))

  pub laying_all : length v ≤ i
      → (u - used ≡ length (flat (wire_lists v))) × (w - wired ≡ length (wire_lists v)) × (uses ≡ sets uses₀ used (flat (wire_lists v))) × (wires ≡ sets wires₀ wired (wire_lengths (wire_lists v)))
  laying_all h =
      let e = take_all i v h in
      let m : u ≡ used + length (flat (wire_lists v)) = rw e at c.u_is in
      let n : w ≡ wired + length (wire_lists v) = rw e at c.w_is in
      (omega arith, omega arith, rw e at c.uses_are, rw e at c.wires_are)

  module _ (l : i < length v) where
    module _ (e : get_or v i 0 ≡ 65536) where
      -- there is room for a wire more
      pub wire_room : wired + length (wire_lists v) ≤ length wires₀ → w < length wires
      wire_room h =
          let n = ap length (marked_here v i l e) in
          omega (arith, laying_wires, c.w_is, n, length-append (wire_lists (take i v)) ([] ∷ []), (part_grows v (i + 1)).0)

      pub laying_mark : Laying v uses₀ used wires₀ wired uses (set wires w 0) u (w + 1) 0 (i + 1)
      laying_mark =
          let t = wire_lists (take i v) in
          let n = marked_here v i l e in
          let k : w ≡ wired + length (wire_lengths t) = omega (arith, c.w_is, length-map t (λ (us : List ℕ). short (length us))) in record {
            low = omega arith;
            few = omega arith;
            uses_are = rw (n, flat_mark t) c.uses_are;
            u_is = rw (n, flat_mark t) c.u_is;
            wires_are = rw (n, lengths_mark t) (sets_then wires₀ wired (wire_lengths t) (0 ∷ []) w k c.wires_are refl);
            w_is = rw n (omega (arith, c.w_is, length-append t ([] ∷ [])));
            size_is = rw (n, size_mark t);
          }

    module _ (e : get_or v i 0 ≡ 65536 → ⊥) where
      module _ (started : wired < w) where
        -- there is room for a use more
        pub use_room : used + length (flat (wire_lists v)) ≤ length uses₀ → u < length uses
        use_room h =
            let t = wire_lists (take i v) in
            let x = short (get_or v i 0) in
            let n = ap (λ (ss : List (List ℕ)). length (flat ss)) (used_here v i l e) ∙ ap length (flat_lastly x t (omega (arith, c.w_is))) in
            omega (arith, laying_uses, c.u_is, n, length-append (flat t) (x ∷ []), (part_grows v (i + 1)).1)

        pub last_room : wired + length (wire_lists v) ≤ length wires₀ → w - 1 < length wires
        last_room h = omega (arith, laying_wires, c.w_is, (part_grows v i).0)

        pub laying_use : (x y : ℕ) → x ≡ short (get_or v i 0) → y ≡ short (size + 1)
            → Laying v uses₀ used wires₀ wired (set uses u x) (set wires (w - 1) y) (u + 1) w (size + 1) (i + 1)
        laying_use x y p q =
            let t = wire_lists (take i v) in
            let n = used_here v i l e ∙ ap (λ (z : ℕ). lastly z t) (sym p) in
            let some : 0 < length t = omega (arith, c.w_is) in
            let m = w - 1 - wired in
            let long : length t ≡ suc m = omega (arith, c.w_is) in
            let j : wired + m ≡ w - 1 = omega arith in
            let s : size + 1 ≡ suc (last_size t) = omega (arith, c.size_is) in
            record {
              low = omega arith;
              few = omega (arith, c.few);
              uses_are = rw (n, flat_lastly x t some) (sets_then uses₀ used (flat t) (x ∷ []) u c.u_is c.uses_are refl);
              u_is = rw (n, flat_lastly x t some) (omega (arith, c.u_is, length-append (flat t) (x ∷ [])));
              wires_are =
                  rw (n, lengths_lastly x m t long, ← s, ← q, c.wires_are)
                  (rw j at (set_among wires₀ (wire_lengths t) wired m y (omega (arith, length-map t (λ (us : List ℕ). short (length us))))));
              w_is = rw (n, length_lastly x t) c.w_is;
              size_is = rw n (s ∙ sym (size_lastly x t some));
            }

      pub laying_before : w ≤ wired → Laying v uses₀ used wires₀ wired uses wires u w size (i + 1)
      laying_before h =
          let t = wire_lists (take i v) in
          let x = short (get_or v i 0) in
          let none : length t ≡ 0 = omega (arith, c.w_is) in
          let n = used_here v i l e ∙ lastly_none x t none in record {
            low = omega arith;
            few = omega (arith, c.few);
            uses_are = rw n c.uses_are;
            u_is = rw n c.u_is;
            wires_are = rw n c.wires_are;
            w_is = rw n c.w_is;
            size_is = rw n c.size_is;
          }
