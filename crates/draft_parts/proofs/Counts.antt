-- The seven counts after a line.
use Prim.Native.Nat.{◌+◌, ◌-◌, ◌<◌, ◌≤◌, ℕ}
use mathlib.Core.List.{List, [], ◌∷◌}
use mathlib.Core.Path.{◌≡◌, refl}
use native.Mathlib.Nat.{add-zero}
use native.Mathlib.Omega.{arith}
use lib.ListN.{drop, drop_of_length-le, get_or, length, length-drop, length-map, set, take}
use lib.Seq.{take_all}
use Rattle.draft_forms.specs.declared.LineKind.{LineKind}
use Rattle.draft_forms.specs.declared.LineKind.TheVariants.{Comment, Edge, Empty, Face, Point, Shell, Unknown}
use Rattle.lists.specs.Lists.{flat}
use Rattle.pattern.specs.Contents.{counts_of}
use Rattle.draft_parts.specs.Adding.{summed}
use Rattle.draft_parts.specs.Parts.{marked, needed_words, nothing, parts_of, wires_of}
use Rattle.words.specs.Words.{short}

seven_cases : (P : List ℕ → Type 0) → ((a b c d e f g : ℕ) → P (a ∷ b ∷ c ∷ d ∷ e ∷ f ∷ g ∷ [])) → (ns : List ℕ) → length ns ≡ 7 → P ns
seven_cases P h [] l = absurd (omega arith)
seven_cases P h (a ∷ []) l = absurd (omega arith)
seven_cases P h (a ∷ b ∷ []) l = absurd (omega arith)
seven_cases P h (a ∷ b ∷ c ∷ []) l = absurd (omega arith)
seven_cases P h (a ∷ b ∷ c ∷ d ∷ []) l = absurd (omega arith)
seven_cases P h (a ∷ b ∷ c ∷ d ∷ e ∷ []) l = absurd (omega arith)
seven_cases P h (a ∷ b ∷ c ∷ d ∷ e ∷ f ∷ []) l = absurd (omega arith)
seven_cases P h (a ∷ b ∷ c ∷ d ∷ e ∷ f ∷ g ∷ []) l = h a b c d e f g
seven_cases P h (a ∷ b ∷ c ∷ d ∷ e ∷ f ∷ g ∷ x ∷ r) l = absurd (omega arith)

-- the rest of a list as the code takes it
pub rest_whole : (v : List ℕ) (m : ℕ) → take (length v - m) (drop m v) ≡ drop m v
rest_whole v m = take_all (length v - m) (drop m v) (omega (arith, length-drop m v))

-- a line of no kind adds nothing
pub parts_none : (k : LineKind) (vs : List ℕ) → (k ≡ Point → ⊥) → (k ≡ Edge → ⊥) → (k ≡ Face → ⊥) → (k ≡ Shell → ⊥) → parts_of k vs ≡ nothing
unfolding parts_of
parts_none Point vs a b c d = absurd (a refl)
parts_none Edge vs a b c d = absurd (b refl)
parts_none Face vs a b c d = absurd (c refl)
parts_none Shell vs a b c d = absurd (d refl)
parts_none Comment vs a b c d = refl
parts_none Empty vs a b c d = refl
parts_none Unknown vs a b c d = refl

pub needed_other : (k : LineKind) → (k ≡ Edge → ⊥) → (k ≡ Shell → ⊥) → (k ≡ Empty → ⊥) → 3 ≡ needed_words k
unfolding needed_words
needed_other Point a b c = refl
needed_other Edge a b c = absurd (a refl)
needed_other Face a b c = refl
needed_other Shell a b c = absurd (b refl)
needed_other Comment a b c = refl
needed_other Empty a b c = absurd (c refl)
needed_other Unknown a b c = refl

pub summed_none : (ns : List ℕ) → length ns ≡ 7 → ns ≡ summed ns (counts_of nothing)
summed_none = seven_cases (λ (ns : List ℕ). ns ≡ summed ns (counts_of nothing)) (λ a b c d e f g. simp add-zero)

module _ (k : LineKind) (vs ns : List ℕ) (seven : length ns ≡ 7) where
  pub after_point : k ≡ Point → set ns 0 (get_or ns 0 0 + 1) ≡ summed ns (counts_of (parts_of k vs))
  unfolding parts_of
  after_point e =
      rw e
      (seven_cases (λ (ns : List ℕ). set ns 0 (get_or ns 0 0 + 1) ≡ summed ns (counts_of (parts_of Point vs)))
      (λ a b c d e f g. simp add-zero) ns seven)

  pub after_edge : k ≡ Edge → set ns 1 (get_or ns 1 0 + 1) ≡ summed ns (counts_of (parts_of k vs))
  unfolding parts_of
  after_edge e =
      rw e
      (seven_cases (λ (ns : List ℕ). set ns 1 (get_or ns 1 0 + 1) ≡ summed ns (counts_of (parts_of Edge vs)))
      (λ a b c d e f g. simp add-zero) ns seven)

  pub after_face : (u w : ℕ) → k ≡ Face → u ≡ length (flat (wires_of vs)) → w ≡ length (wires_of vs)
      → set (set (set ns 4 (get_or ns 4 0 + 1)) 2 (get_or ns 2 0 + u)) 3 (get_or ns 3 0 + w) ≡ summed ns (counts_of (parts_of k vs))
  unfolding parts_of
  after_face u w e p q =
      rw (e, p, q)
      (seven_cases (λ (ns : List ℕ). set (set (set ns 4 (get_or ns 4 0 + 1)) 2 (get_or ns 2 0 + length (flat (wires_of vs)))) 3 (get_or ns 3 0 + length (wires_of vs)) ≡ summed ns (counts_of (parts_of Face vs)))
      (λ a b c d e f g. rw (length-map (wires_of vs) (λ (us : List ℕ). short (length us))) (simp add-zero)) ns seven)

  pub after_face_few : k ≡ Face → length vs < 3 → set ns 4 (get_or ns 4 0 + 1) ≡ summed ns (counts_of (parts_of k vs))
  unfolding parts_of flat marked
  after_face_few e l =
      rw (e, drop_of_length-le vs {i = 3} (omega arith))
      (seven_cases (λ (ns : List ℕ). set ns 4 (get_or ns 4 0 + 1) ≡ (get_or ns 0 0 + 0) ∷ (get_or ns 1 0 + 0) ∷ (get_or ns 2 0 + 0) ∷ (get_or ns 3 0 + 0) ∷ (get_or ns 4 0 + 1) ∷ (get_or ns 5 0 + 0) ∷ (get_or ns 6 0 + 0) ∷ [])
      (λ a b c d e f g. simp add-zero) ns seven)

  pub after_shell : k ≡ Shell → 2 ≤ length vs → set (set ns 5 (get_or ns 5 0 + 1)) 6 (get_or ns 6 0 + (length vs - 2)) ≡ summed ns (counts_of (parts_of k vs))
  unfolding parts_of
  after_shell e l =
      let n : length (drop 2 vs) ≡ length vs - 2 = length-drop 2 vs in
      rw (e, ← n)
      (seven_cases (λ (ns : List ℕ). set (set ns 5 (get_or ns 5 0 + 1)) 6 (get_or ns 6 0 + length (drop 2 vs)) ≡ summed ns (counts_of (parts_of Shell vs)))
      (λ a b c d e f g. rw (length-map (drop 2 vs) short) (simp add-zero)) ns seven)

  pub after_shell_few : k ≡ Shell → length vs < 2 → set ns 5 (get_or ns 5 0 + 1) ≡ summed ns (counts_of (parts_of k vs))
  unfolding parts_of
  after_shell_few e l =
      rw (e, drop_of_length-le vs {i = 2} (omega arith))
      (seven_cases (λ (ns : List ℕ). set ns 5 (get_or ns 5 0 + 1) ≡ (get_or ns 0 0 + 0) ∷ (get_or ns 1 0 + 0) ∷ (get_or ns 2 0 + 0) ∷ (get_or ns 3 0 + 0) ∷ (get_or ns 4 0 + 0) ∷ (get_or ns 5 0 + 1) ∷ (get_or ns 6 0 + 0) ∷ [])
      (λ a b c d e f g. simp add-zero) ns seven)

  pub after_none : (k ≡ Point → ⊥) → (k ≡ Edge → ⊥) → (k ≡ Face → ⊥) → (k ≡ Shell → ⊥) → ns ≡ summed ns (counts_of (parts_of k vs))
  after_none a b c d = rw (parts_none k vs a b c d) (summed_none ns seven)
