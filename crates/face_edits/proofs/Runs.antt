-- Wires that run from point to point: in two parts, from a place on.
use Prim.Native.Nat.{◌-◌, ◌<◌, suc, ℕ}
use mathlib.Core.Bool.{true}
use mathlib.Core.List.{List, [], ◌++◌, ◌∷◌}
use mathlib.Core.Path.{◌≡◌, refl, sym}
use native.Mathlib.Omega.{arith}
use lib.Dec.{eqb}
use lib.ListN.{drop, get_or, length, take, take-append-drop}
use lib.Seq.{drop-cons}
use borrow.Author.Tests.{eq-eqb, eqb-true}
use Rattle.edge.specs.Uses.{back_of, front_of}
use Rattle.face_edits.specs.FaceEdits.{from_place}
use Rattle.lists.proofs.Laws.{left_true, right_true}
use Rattle.lists.specs.Lists.{count}
use Rattle.shell.proofs.Chain.{from}
use Rattle.shell.proofs.Shown.{runs_append}
use Rattle.wire.specs.Wires.{closed, runs}

module _ (fs bs : List ℕ) where
  runs_more : (u : ℕ) (us : List ℕ) (p q : ℕ) → eqb p (front_of fs bs u) ≡ true → runs fs bs (back_of fs bs u) us q ≡ true → runs fs bs p (u ∷ us) q ≡ true
  unfolding runs
  runs_more u us p q h k = rw h k

  -- a run in two parts meets some point between them
  pub record Between (p : ℕ) (us vs : List ℕ) (q : ℕ) : Type 0 where
    pub mid : ℕ
    pub left : runs fs bs p us mid ≡ true
    pub right : runs fs bs mid vs q ≡ true

  pub runs_between : (us vs : List ℕ) (p q : ℕ) → runs fs bs p (us ++ vs) q ≡ true → Between p us vs q
  unfolding runs
  runs_between [] vs p q h = record { mid = p; left = eq-eqb p p refl; right = h }
  runs_between (u ∷ us) vs p q h =
      let here = left_true (eqb p (front_of fs bs u)) (runs fs bs (back_of fs bs u) (us ++ vs) q) h in
      let more = runs_between us vs (back_of fs bs u) q (right_true (eqb p (front_of fs bs u)) (runs fs bs (back_of fs bs u) (us ++ vs) q) h) in
      record { mid = more.mid; left = runs_more u us p more.mid here more.left; right = more.right }

  -- a run ends where its last use does, and begins where its first does
  pub runs_end : (us : List ℕ) (p q : ℕ) → runs fs bs p us q ≡ true → 0 < length us → back_of fs bs (get_or us (length us - 1) 0) ≡ q
  unfolding runs
  runs_end [] p q h l = absurd (omega arith)
  runs_end (u ∷ []) p q h l = eqb-true (back_of fs bs u) q (right_true (eqb p (front_of fs bs u)) (eqb (back_of fs bs u) q) h)
  runs_end (u ∷ v ∷ us) p q h l =
      let e : length (u ∷ v ∷ us) - 1 ≡ suc (length (v ∷ us) - 1) = omega arith in
      rw e (runs_end (v ∷ us) (back_of fs bs u) q (right_true (eqb p (front_of fs bs u)) (runs fs bs (back_of fs bs u) (v ∷ us) q) h) (omega arith))

  pub runs_begin : (us : List ℕ) (p q : ℕ) → runs fs bs p us q ≡ true → 0 < length us → 0 < count (from fs bs p) us
  unfolding runs count
  runs_begin [] p q h l = absurd (omega arith)
  runs_begin (u ∷ us) p q h l =
      let here = eqb-true p (front_of fs bs u) (left_true (eqb p (front_of fs bs u)) (runs fs bs (back_of fs bs u) us q) h) in
      rw (eq-eqb (front_of fs bs u) p (sym here)) (omega arith)

  -- a closed wire from place i on runs round to its first point
  around : (us : List ℕ) → 0 < length us → closed fs bs us ≡ true → runs fs bs (front_of fs bs (get_or us 0 0)) us (front_of fs bs (get_or us 0 0)) ≡ true
  unfolding runs closed
  around [] l h = absurd (omega arith)
  around (u ∷ us) l h = rw (eq-eqb (front_of fs bs u) (front_of fs bs u) refl) h

  starts_at : (us : List ℕ) (i p q : ℕ) → i < length us → runs fs bs p (drop i us) q ≡ true → p ≡ front_of fs bs (get_or us i 0)
  unfolding runs
  starts_at us i p q l h =
      let u = get_or us i 0 in
      let here : runs fs bs p (u ∷ drop (suc i) us) q ≡ true = rw (drop-cons us i 0 l) at h in
      eqb-true p (front_of fs bs u) (left_true (eqb p (front_of fs bs u)) (runs fs bs (back_of fs bs u) (drop (suc i) us) q) here)

  pub runs_round : (us : List ℕ) (i : ℕ) → i < length us → closed fs bs us ≡ true → runs fs bs (front_of fs bs (get_or us i 0)) (from_place i us) (front_of fs bs (get_or us i 0)) ≡ true
  runs_round us i l h = go (runs_between (take i us) (drop i us) p p (rw (take-append-drop i us) (around us (omega arith) h)))
    where
      p : ℕ
      p = front_of fs bs (get_or us 0 0)

      go : Between p (take i us) (drop i us) p → runs fs bs (front_of fs bs (get_or us i 0)) (from_place i us) (front_of fs bs (get_or us i 0)) ≡ true
      go b = rw (← starts_at us i b.mid p l b.right) (runs_append fs bs (drop i us) (take i us) b.mid p b.mid b.right b.left)
