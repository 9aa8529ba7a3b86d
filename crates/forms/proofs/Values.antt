-- The values of the words of a line, read one after the other.
use Rattle.std.specs.Prelude.{None, Option, Some}
use Prim.Native.Nat.{◌*◌, ◌+◌, ◌<◌, ◌≤◌, suc, ℕ}
use mathlib.Core.Bool.{Bool, false, true}
use mathlib.Core.List.{List, [], ◌∷◌, map}
use mathlib.Core.Path.{◌∙◌, ◌≡◌, ap, refl, sym}
use native.Mathlib.Nat.{add-zero, zero-add}
use native.Mathlib.Numerals.{add-one}
use native.Mathlib.Omega.{arith}
use lib.Dec.{eqb}
use lib.ListN.{drop, get_or, length, length-drop, set, take}
use lib.Seq.{drop-drop, get_or-drop, length-sets, sets, take_all}
use borrow.Author.Tests.{eq-eqb, ne_eqb}
use Rattle.forms.specs.Forms.{said, values}
use Rattle.forms.specs.declared.WordKind.{WordKind}
use Rattle.lists.proofs.Sets.{sets_next}

module _ (kinds : List WordKind) (rest : Option WordKind) where
  values_nil : (i : ℕ) → values kinds rest i [] ≡ []
  unfolding values
  values_nil i = refl

  values_not : (i : ℕ) (w : List ℕ) (ws : List (List ℕ)) → said (get_or (map Some kinds) i rest) w ≡ None → values kinds rest i (w ∷ ws) ≡ []
  unfolding values
  values_not i w ws h = rw h

  values_next : (i : ℕ) (w : List ℕ) (ws : List (List ℕ)) (v : ℕ) → said (get_or (map Some kinds) i rest) w ≡ Some v
      → values kinds rest i (w ∷ ws) ≡ v ∷ values kinds rest (suc i) ws
  unfolding values
  values_next i w ws v h = rw h

-- the loop after i words: their values are written, and the rest of the words is left
pub record Reading (kinds : List WordKind) (rest : Option WordKind) (ws : List (List ℕ)) (l out : List ℕ) (i : ℕ) (left : List (List ℕ)) : Type 0 where
  pub low : i ≤ length (values kinds rest 0 ws)
  pub words : length ws ≡ i + length left
  pub to_come : drop i (values kinds rest 0 ws) ≡ values kinds rest i left
  pub so_far : out ≡ sets l 0 (take i (values kinds rest 0 ws))

pub reading_start : (kinds : List WordKind) (rest : Option WordKind) (ws : List (List ℕ)) (l : List ℕ) → Reading kinds rest ws l l 0 ws
reading_start kinds rest ws l = record { low = omega arith; words = omega arith; to_come = refl; so_far = refl }

-- what is owed at the end
abbrev pub Read : List WordKind → Option WordKind → List (List ℕ) → List ℕ → List ℕ → ℕ → Bool → Type 0
Read kinds rest ws l out i all =
    (out ≡ sets l 0 (values kinds rest 0 ws))
    × ((i ≡ length (values kinds rest 0 ws)) × (all ≡ eqb (length (values kinds rest 0 ws)) (length ws)))

module _ {kinds : List WordKind} {rest : Option WordKind} {ws : List (List ℕ)} {l out : List ℕ} {i : ℕ} {left : List (List ℕ)} (r : Reading kinds rest ws l out i left) where
  pub reading_long : length out ≡ length l
  reading_long = ap length r.so_far ∙ length-sets l 0 (take i (values kinds rest 0 ws))

  -- no value is to come
  ended : values kinds rest i left ≡ [] → (out ≡ sets l 0 (values kinds rest 0 ws)) × (i ≡ length (values kinds rest 0 ws))
  ended h =
      let all : length (values kinds rest 0 ws) ≤ i = omega (arith, length-drop i (values kinds rest 0 ws), ap length (r.to_come ∙ h)) in
      (rw (take_all i (values kinds rest 0 ws) all) at r.so_far, omega (arith, r.low))

  pub reading_all : left ≡ [] → Read kinds rest ws l out i true
  reading_all h =
      let e = ended (rw h (values_nil kinds rest i)) in
      (e.0, (e.1, sym (eq-eqb (length (values kinds rest 0 ws)) (length ws) (omega (arith, e.1, r.words, ap length h)))))

  module _ {w : List ℕ} {more : List (List ℕ)} (has : left ≡ w ∷ more) where
    -- there is room for another value, where there is a place for every two bytes of a line
    pub reading_room : (n : ℕ) → 2 * length ws ≤ n + 1 → n ≤ 2 * length l → (i < length l) × (i < length out)
    reading_room n h m =
        let e : i < length l = omega (arith, r.words, ap length has) in
        (e, omega (arith, reading_long))

    module _ {k : Option WordKind} {t : Option ℕ} (kind : k ≡ get_or (map Some kinds) i rest) (is : t ≡ said k w) where
      told : said (get_or (map Some kinds) i rest) w ≡ t
      told = rw (← kind) (sym is)

      pub reading_not : t ≡ None → Read kinds rest ws l out i false
      reading_not h =
          let e = ended (rw has (values_not kinds rest i w more (told ∙ h))) in
          (e.0, (e.1, sym (ne_eqb (length (values kinds rest 0 ws)) (length ws) (λ q. omega (arith, e.1, r.words, ap length has)))))

      pub reading_next : {v : ℕ} → t ≡ Some v → Reading kinds rest ws l (set out i v) (i + 1) more
      reading_next {v} h =
          let all = values kinds rest 0 ws in
          let e : drop i all ≡ v ∷ values kinds rest (suc i) more = r.to_come ∙ rw has (values_next kinds rest i w more v (told ∙ h)) in
          let below : i < length all = omega (arith, length-drop i all, ap length e) in
          let at : get_or all i 0 ≡ v = rw add-zero at (sym (get_or-drop i all 0 0)) ∙ ap (λ (s : List ℕ). get_or s 0 0) e in
          record {
            low = omega arith;
            words = omega (arith, r.words, ap length has);
            to_come = sym (drop-drop 1 i all) ∙ ap (drop 1) e ∙ rw add-one;
            so_far = rw (r.so_far, ← at) (rw zero-add at (sets_next l 0 all i 0 below));
          }
