-- One edge more in the index.
use Prim.Native.Nat.{◌+◌, ◌<◌, ◌≤◌, suc, ℕ}
use mathlib.Core.Bool.{false, true}
use mathlib.Core.List.{List, [], ◌++◌, ◌∷◌}
use mathlib.Core.Logic.{◌≢◌, ⊎_elim}
use mathlib.Core.Path.{◌∙◌, ◌≡◌, sym}
use native.Mathlib.Numerals.{add-one}
use native.Mathlib.Omega.{arith}
use lib.Dec.{eqb}
use lib.ListN.{get_or-append, get_or, get_or-replicate, length, length-append, length-set, replicate, set}
use lib.Seq.{get_or_at, get_or-set_other, get_or-set_same}
use borrow.Author.Tests.{eq-eqb, eqb-false, eqb-true, ne_eqb}
use Rattle.edge.specs.Edges.{back_number, front_number}
use Rattle.edge.specs.declared.Edge.{Edge}
use Rattle.lists.proofs.Laws.{cases}
use Rattle.mesh.specs.Mesh.{between, joins, place}
use Rattle.mesh_edges.proofs.Places.{latest_here, latest_past, latest_same, none_placed}
use Rattle.mesh_edges.specs.Index.{Indexed, bucket_at, bucket_of, latest}
use Rattle.pattern.specs.Contents.{zero_edge}

module _ (es : List Edge) (index : List ℕ) (n p q h : ℕ) (long : length es ≡ n) (new : place (joins p q) es ≡ n) (known : Indexed es index)
    (sized : length index ≡ 17408) (room : n < 1024) (is : h ≡ bucket_of p q) (low : h < 16384) where
  abbrev Es : List Edge
  Es = es ++ (between p q ∷ [])

  abbrev Linked : List ℕ
  Linked = set index (16384 + n) (get_or index h 0)

  abbrev Noted : List ℕ
  Noted = set Linked h (n + 1)

  old_at : (k : ℕ) → k < n → get_or Es k zero_edge ≡ get_or es k zero_edge
  old_at k l = get_or-append es (between p q ∷ []) zero_edge k (omega arith)

  new_at : get_or Es n zero_edge ≡ between p q
  new_at = get_or_at es (between p q) [] zero_edge n long

  long_now : length Es ≡ suc n
  long_now = omega (arith, length-append es (between p q ∷ []))

  old_bucket : (k : ℕ) → k < n → bucket_at Es k ≡ bucket_at es k
  old_bucket k l = rw (old_at k l)

  new_bucket : bucket_at Es n ≡ h
  new_bucket = rw new_at (sym is)

  -- below n the latest of a bucket is what it was
  latest_kept : (b e : ℕ) → e ≤ n → latest (λ (k : ℕ). eqb (bucket_at Es k) b) e ≡ latest (λ (k : ℕ). eqb (bucket_at es k) b) e
  latest_kept b e l =
      latest_same (λ (k : ℕ). eqb (bucket_at Es k) b) (λ (k : ℕ). eqb (bucket_at es k) b) e (λ k m. rw (old_bucket k (omega arith)))

  noted_heads : (b : ℕ) → b < 16384 → get_or Noted b 0 ≡ latest (λ (k : ℕ). eqb (bucket_at Es k) b) (length Es)
  noted_heads b l =
      rw long_now
      (⊎_elim
      (λ (o : eqb b h ≡ true).
      let e = eqb-true b h o in
      rw e (get_or-set_same Linked h (n + 1) 0 (omega (arith, length-set index (16384 + n) (get_or index h 0))) ∙ add-one n
      ∙ sym (latest_here (λ (k : ℕ). eqb (bucket_at Es k) h) n (eq-eqb (bucket_at Es n) h new_bucket))))
      (λ (o : eqb b h ≡ false).
      let ne : b ≢ h = eqb-false b h o in
      get_or-set_other Linked h b (n + 1) 0 ne
      ∙ get_or-set_other index (16384 + n) b (get_or index h 0) 0 (λ e. omega (arith, e))
      ∙ known.heads b l
      ∙ rw long (sym (latest_past (λ (k : ℕ). eqb (bucket_at Es k) b) n (ne_eqb (bucket_at Es n) b (λ e. ne (sym e ∙ new_bucket))) ∙ latest_kept b n (omega arith))))
      (cases (eqb b h)))

  apart_kept : (i j : ℕ) → i < j → j < length Es → joins (front_number (get_or Es j zero_edge)) (back_number (get_or Es j zero_edge)) (get_or Es i zero_edge) ≡ false
  apart_kept i j l m =
      ⊎_elim
      (λ (o : eqb j n ≡ true).
      let e = eqb-true j n o in
      rw (e, new_at, old_at i (omega arith)) (none_placed (joins p q) zero_edge es (new ∙ sym long) i (omega arith)))
      (λ (o : eqb j n ≡ false).
      let ne = eqb-false j n o in
      rw (old_at j (omega (arith, long_now)), old_at i (omega (arith, long_now))) (known.apart i j l (omega (arith, long_now))))
      (cases (eqb j n))

  noted_earlier : (e : ℕ) → e < length Es → get_or Noted (16384 + e) 0 ≡ latest (λ (k : ℕ). eqb (bucket_at Es k) (bucket_at Es e)) e
  noted_earlier e l =
      get_or-set_other Linked h (16384 + e) (n + 1) 0 (λ o. omega (arith, o))
      ∙ ⊎_elim
      (λ (o : eqb e n ≡ true).
      let same = eqb-true e n o in
      rw (same, new_bucket) (get_or-set_same index (16384 + n) (get_or index h 0) 0 (omega arith) ∙ known.heads h low ∙ rw long (sym (latest_kept h n (omega arith)))))
      (λ (o : eqb e n ≡ false).
      let ne = eqb-false e n o in
      let b : e < n = omega (arith, long_now) in
      get_or-set_other index (16384 + n) (16384 + e) (get_or index h 0) 0 (λ (z : 16384 + e ≡ 16384 + n). ne (omega (arith, z)))
      ∙ known.earlier e (omega arith)
      ∙ rw (old_bucket e b) (sym (latest_kept (bucket_at es e) e (omega arith))))
      (cases (eqb e n))

  pub noted : Indexed Es Noted
  noted = record { heads = noted_heads; earlier = noted_earlier; apart = apart_kept }

none_indexed : (n : ℕ) → 16384 ≤ n → Indexed [] (replicate n 0)
unfolding latest
none_indexed n l = record {
  heads = λ h b. get_or-replicate n h 0 0 (omega arith);
  earlier = λ e b. absurd (omega arith);
  apart = λ i j a b. absurd (omega arith);
}

pub indexed_none : Indexed [] (replicate 17408 0)
indexed_none = none_indexed 17408 (omega arith)
