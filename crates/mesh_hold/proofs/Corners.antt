-- The points of a face line without fault are given.
use Rattle.mesh.specs.declared.LineFault.{LineFault}
use Rattle.std.specs.Prelude.{Err, None, Ok, Option, Result, Some}
use Prim.Native.Nat.{◌-◌, ◌<◌, ◌≤◌, ℕ}
use mathlib.Core.Bool.{Bool, ◌&&◌, false, true}
use mathlib.Core.List.{List, [], ◌∷◌, map}
use mathlib.Core.Path.{◌≡◌, refl}
use native.Mathlib.Omega.{arith}
use lib.Dec.{eqb, leb}
use lib.ListN.{drop, get_or, length}
use borrow.Author.Tests.{leb-true}
use Rattle.errors.proofs.Laws.{none_left, none_right, unless_passes}
use Rattle.lists.proofs.Count.{All}
use Rattle.lists.proofs.Laws.{left_true, right_true}
use Rattle.lists.specs.Lists.{flat, pick, unless}
use Rattle.mesh.specs.Mesh.{backward, corner, corner_faults, corners_faults, forward, is_slash, numbered, point_of}
use Rattle.mesh.specs.declared.LineFault.TheVariants.{NotGiven, TooFew}
use Rattle.text.specs.Text.{before}
use Rattle.text.specs.Tokens.{number}

-- it names a point, and of those that are given
abbrev Given : ℕ → Result ℕ LineFault → Type 0
Given given c = corner_faults c ≡ [] → point_of c < given

module _ (given : ℕ) where
  picked : (k p : ℕ) (b : Bool) → b ≡ (leb 1 k && leb k given) → ((1 ≤ k) → (k ≤ given) → p < given) → Given given (pick b (Ok p) (Err NotGiven))
  picked k p true e f h = f (leb-true 1 k (left_true (leb 1 k) (leb k given) (cc))) (leb-true k given (right_true (leb 1 k) (leb k given) (cc)))
  picked k p false e f h = let z : ◌≡◌ {A = ℕ} 0 1 = cc in omega arith

  forward_given : (t : Option ℕ) → Given given (forward given t)
  forward_given None h = let z : ◌≡◌ {A = ℕ} 0 1 = cc in omega arith
  forward_given (Some k) h = picked k (k - 1) (leb 1 k && leb k given) refl (λ a b. omega arith) h

  backward_given : (t : Option ℕ) → Given given (backward given t)
  backward_given None h = let z : ◌≡◌ {A = ℕ} 0 1 = cc in omega arith
  backward_given (Some k) h = picked k (given - k) (leb 1 k && leb k given) refl (λ a b. omega arith) h

  corner_given : (w : List ℕ) → Given given (corner given w)
  unfolding numbered
  corner_given w = go (eqb (get_or (before is_slash w) 0 0) 45)
    where
      go : (b : Bool) → Given given (pick b (backward given (number (drop 1 (before is_slash w)))) (forward given (number (before is_slash w))))
      go true = backward_given (number (drop 1 (before is_slash w)))
      go false = forward_given (number (before is_slash w))

  words_given : (ws : List (List ℕ)) → flat (map (λ (w : List ℕ). corner_faults (corner given w)) ws) ≡ [] → All (λ (p : ℕ). p < given) (map (λ (w : List ℕ). point_of (corner given w)) ws)
  unfolding flat
  words_given [] h = tt
  words_given (w ∷ ws) h =
      let rest = flat (map (λ (v : List ℕ). corner_faults (corner given v)) ws) in
      (corner_given w (none_left (corner_faults (corner given w)) rest h), words_given ws (none_right (corner_faults (corner given w)) rest h))

  pub corners_given : (ws : List (List ℕ)) → corners_faults given ws ≡ [] → All (λ (p : ℕ). p < given) (map (λ (w : List ℕ). point_of (corner given w)) ws)
  corners_given ws h = words_given ws (none_left _ (unless (leb 3 (length ws)) TooFew) h)

  pub corners_three : (ws : List (List ℕ)) → corners_faults given ws ≡ [] → 3 ≤ length ws
  corners_three ws h =
      leb-true 3 (length ws) (unless_passes (leb 3 (length ws)) TooFew (none_right (flat (map (λ (w : List ℕ). corner_faults (corner given w)) ws)) _ h))
