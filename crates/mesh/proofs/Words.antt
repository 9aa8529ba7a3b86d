-- Laws of a word byte by byte: where it ends, its part up to a slash, and the carriage return at the end of a line.
use Prim.Native.Nat.{◌-◌, suc, ℕ}
use mathlib.Core.Bool.{Bool, ◌||◌, false, true}
use mathlib.Core.List.{List, [], ◌++◌, ◌∷◌, append_assoc, append-nil}
use mathlib.Core.Logic.{⊎_elim}
use mathlib.Core.Path.{◌≡◌, refl}
use native.Mathlib.Omega.{arith}
use lib.Dec.{eqb}
use lib.ListN.{get_or, length}
use Rattle.lists.proofs.Count.{All}
use Rattle.lists.proofs.Laws.{cases}
use Rattle.lists.specs.Lists.{pick}
use Rattle.text.specs.Text.{before, is_blank, trimmed, words}
use Rattle.mesh.specs.Mesh.{is_slash}

-- ---- where a word ends

abbrev pub Ink : ℕ → Type 0
Ink b = is_blank b ≡ false

-- v ends a word, and u is what follows: nothing, or what stands after a blank
pub data Break : List ℕ → List ℕ → Type 0 where
  over : Break [] []
  blank : (b : ℕ) (u : List ℕ) → is_blank b ≡ true → Break (b ∷ u) u

pub words_break : {v u : List ℕ} → Break v u → words v ≡ words u
unfolding words
words_break over = refl
words_break (blank b u h) = rw h

pub words_word : (b : ℕ) (w : List ℕ) {v u : List ℕ} → All Ink (b ∷ w) → Break v u → words (b ∷ (w ++ v)) ≡ (b ∷ w) ∷ words u
unfolding words
words_word b [] i over = rw i.0
words_word b [] i (blank c u h) = rw (i.0, h)
words_word b (c ∷ w) i e = rw (i.0, words_word c w i.1 e, i.1.0)

-- ---- the part up to a slash

-- of a word that begins with w this part begins with v, and is v if a slash is in w
abbrev pub Spelled : List ℕ → List ℕ → Bool → Type 0
Spelled w v slashed = (x : List ℕ) → before is_slash (w ++ x) ≡ pick slashed v (v ++ before is_slash x)

pub spelled_none : Spelled [] [] false
spelled_none x = refl

pub spelled_next : (w v : List ℕ) (slashed : Bool) (b : ℕ) → Spelled w v slashed
    → Spelled (w ++ (b ∷ [])) (pick (slashed || is_slash b) v (v ++ (b ∷ []))) (slashed || is_slash b)
unfolding before
spelled_next w v true b s x = rw (append_assoc w (b ∷ []) x, s (b ∷ x))
spelled_next w v false b s x =
    rw (append_assoc w (b ∷ []) x, s (b ∷ x))
    (⊎_elim (λ (h : is_slash b ≡ true). rw (h, append-nil v)) (λ (h : is_slash b ≡ false). rw (h, append_assoc v (b ∷ []) (before is_slash x))) (cases (is_slash b)))

pub spelled_all : (w v : List ℕ) (slashed : Bool) → Spelled w v slashed → before is_slash w ≡ v
unfolding before
spelled_all w v true s = rw (append-nil w) at (s [])
spelled_all w v false s = rw (append-nil w, append-nil v) at (s [])

-- ---- the end of a line

pub trimmed_more : (b c : ℕ) (u : List ℕ) → trimmed (b ∷ c ∷ u) ≡ b ∷ trimmed (c ∷ u)
trimmed_more b c u =
    let e : length (b ∷ c ∷ u) - 1 ≡ suc (length u) = omega arith in
    let d : length (c ∷ u) - 1 ≡ length u = omega arith in
    rw (e, d)
    (⊎_elim (λ (h : eqb (get_or (c ∷ u) (length u) 0) 13 ≡ true). rw h) (λ (h : eqb (get_or (c ∷ u) (length u) 0) 13 ≡ false). rw h) (cases (eqb (get_or (c ∷ u) (length u) 0) 13)))

pub trimmed_past : (b : ℕ) (u : List ℕ) → eqb b 13 ≡ false → trimmed (b ∷ u) ≡ b ∷ trimmed u
trimmed_past b [] h = rw h
trimmed_past b (c ∷ u) h = trimmed_more b c u
