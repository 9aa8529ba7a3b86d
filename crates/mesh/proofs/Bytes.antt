-- A byte of a line, and the end of a line: what comes of the line stays the same.
use Rattle.std.specs.Prelude.{Err, Ok, Result}
use Prim.Native.Nat.{suc, ℕ}
use mathlib.Core.Bool.{Bool, false, true}
use mathlib.Core.List.{List, [], ◌∷◌}
use mathlib.Core.Logic.{⊎_elim}
use mathlib.Core.Path.{◌∙◌, ◌≡◌, ap, refl}
use native.Mathlib.Nat.{add-zero}
use native.Mathlib.Omega.{arith}
use lib.Dec.{eqb, leb}
use borrow.Author.Tests.{eqb-true, leb-true, ne_eqb}
use Rattle.lists.proofs.Laws.{cases}
use Rattle.lists.specs.Lists.{flat, pick}
use Rattle.text.specs.Text.{is_blank, is_feed, trimmed, words}
use Rattle.mesh.specs.Mesh.{Mesh, line_faults, line_mesh, sides}
use Rattle.mesh.specs.Reading.{Drawing, State, byte, close_face, end_line, end_word, next_line, release, start}
use Rattle.mesh.specs.declared.LineFault.{LineFault}
use Rattle.mesh.specs.declared.LineFault.TheVariants.{TooFew}
use Rattle.mesh.proofs.Phases.{Live, Phase, Settled, ahead, fault_place, inked, parted, shape, state}
use Rattle.mesh.proofs.Phases.Phase.{face, idle, key, past, stopped, within}
use Rattle.mesh.proofs.Words.{trimmed_more, trimmed_past}
use Rattle.mesh.proofs.Words.Break.{blank, over}

-- ---- a carriage return that is held back

-- what comes of the line if these bytes are left of it, up to its line feed
abbrev pub ahead_of : ℕ → Bool → Phase → List ℕ → Result Mesh LineFault
ahead_of n h p t = ahead n p (trimmed (pick h (13 ∷ t) t))

-- the place once it is a byte of a word
record Released (n : ℕ) (h : Bool) (p : Phase) : Type 0 where
  to : Phase
  live : Live to
  is : release (state n h p) ≡ state n false to
  same : (b : ℕ) (t : List ℕ) → ahead_of n h p (b ∷ t) ≡ ahead n to (trimmed (b ∷ t))

released : (n : ℕ) (h : Bool) (p : Phase) → Live p → Released n h p
unfolding release
released n false p l = record { to = p; live = l; is = refl; same = λ b t. refl }
released n true p l =
    let i = inked n false 13 p l refl in
    record { to = i.to; live = i.live; is = i.is; same = λ b t. ap (ahead n p) (trimmed_more 13 b t) ∙ i.same (trimmed (b ∷ t)) }

-- ---- a byte

live_place : (n : ℕ) (p : Phase) → Live p → (leb 30 (shape n p).place ≡ false) × (eqb (shape n p).place 2 ≡ false)
live_place n (idle m) l = (refl, refl)
live_place n (key m b w i) l = (refl, refl)
live_place n (past m w) l = absurd l
live_place n (face m d w s) l = (refl, refl)
live_place n (within m d b w v s i e) l = (refl, refl)
live_place n (stopped f m d w s) l = absurd l

-- the place after it, from which the same comes of the line
pub record Byte (n : ℕ) (h : Bool) (b : ℕ) (p : Phase) : Type 0 where
  pub to : Phase
  pub held : Bool
  pub is : byte b (state n h p) ≡ state n held to
  pub same : (t : List ℕ) → ahead_of n h p (b ∷ t) ≡ ahead_of n held to t

byte_live : (n : ℕ) (h : Bool) (b : ℕ) (p : Phase) → Live p → is_feed b ≡ false → Byte n h b p
unfolding byte
byte_live n h b p l f =
    let r = released n h p l in
    let e = live_place n p l in
    ⊎_elim
    (λ (k : eqb b 13 ≡ true). record {
      to = r.to;
      held = true;
      is = rw (e.0, f, e.1, k, r.is);
      same = λ t. r.same b t ∙ rw (eqb-true b 13 k);
    })
    (λ (k : eqb b 13 ≡ false).
    ⊎_elim
    (λ (j : is_blank b ≡ true).
    let q = parted n false r.to in
    record {
      to = q.to;
      held = false;
      is = rw (e.0, f, e.1, k, j, r.is, q.is);
      same = λ t. r.same b t ∙ ap (ahead n r.to) (trimmed_past b t k) ∙ q.same (b ∷ trimmed t) (trimmed t) (blank b (trimmed t) j);
    })
    (λ (j : is_blank b ≡ false).
    let q = inked n false b r.to r.live j in
    record {
      to = q.to;
      held = false;
      is = rw (e.0, f, e.1, k, j, r.is, q.is);
      same = λ t. r.same b t ∙ ap (ahead n r.to) (trimmed_past b t k) ∙ q.same (trimmed t);
    })
    (cases (is_blank b)))
    (cases (eqb b 13))

pub byte_read : (n : ℕ) (h : Bool) (b : ℕ) (p : Phase) → is_feed b ≡ false → Byte n h b p
unfolding byte
byte_read n h b (idle m) f = byte_live n h b (idle m) tt f
byte_read n h b (key m c w i) f = byte_live n h b (key m c w i) tt f
byte_read n h b (past m w) f = record { to = past m w; held = h; is = rw f; same = λ t. refl }
byte_read n h b (face m d w s) f = byte_live n h b (face m d w s) tt f
byte_read n h b (within m d c w v s i e) f = byte_live n h b (within m d c w v s i e) tt f
byte_read n h b (stopped g m d w s) f = record { to = stopped g m d w s; held = h; is = rw (fault_place g).0; same = λ t. refl }

-- ---- the end of a line

-- the next line begins, or this one is refused
pub data Ended (n : ℕ) (h : Bool) (st : State) (r : Result Mesh LineFault) : Type 0 where
  next : (m : Mesh) → st ≡ start (suc n) m → r ≡ Ok m → Ended n h st r
  stop : (f : LineFault) (m : Mesh) (d : Drawing) (w : List ℕ) (s : Bool) → st ≡ state n h (stopped f m d w s) → r ≡ Err f → Ended n h st r

settled_end : (n : ℕ) (h : Bool) (p : Phase) → Settled p → Ended n h (next_line (state n h p)) (ahead n p [])
unfolding next_line words line_faults line_mesh close_face flat sides
settled_end n h (idle m) l = next m refl refl
settled_end n h (key m b w i) l = absurd l
settled_end n h (past m w) l = next m refl refl
settled_end n h (face m d w s) l =
    ⊎_elim
    (λ (k : leb 3 d.corners ≡ true).
    let z : eqb d.corners 0 ≡ false = ne_eqb d.corners 0 (λ e. omega (arith, leb-true 3 d.corners k)) in
    next (close_face (state n h (face m d w s))) (rw k) (rw (add-zero, k, z)))
    (λ (k : leb 3 d.corners ≡ false). stop TooFew m d w s (rw k) (rw (add-zero, k)))
    (cases (leb 3 d.corners))
settled_end n h (within m d b w v s i e) l = absurd l
settled_end n h (stopped f m d w s) l = stop f m d w s (rw (fault_place f).0) refl

pub ended : (n : ℕ) (h : Bool) (p : Phase) → Ended n h (end_line (state n h p)) (ahead_of n h p [])
unfolding end_line
ended n h p =
    let q = parted n h p in
    let e : trimmed (pick h (13 ∷ []) []) ≡ [] = ⊎_elim (λ (k : h ≡ true). rw k) (λ (k : h ≡ false). rw k) (cases h) in
    rw (e, q.is, q.same [] [] over) (settled_end n h q.to q.settled)

-- a line feed ends the line
pub feed_read : (n : ℕ) (h : Bool) (b : ℕ) (p : Phase) → is_feed b ≡ true → byte b (state n h p) ≡ end_line (state n h p)
unfolding byte end_line next_line end_word
feed_read n h b (idle m) f = rw f
feed_read n h b (key m c w i) f = rw f
feed_read n h b (past m w) f = rw f
feed_read n h b (face m d w s) f = rw f
feed_read n h b (within m d c w v s i e) f = rw f
feed_read n h b (stopped g m d w s) f = rw ((fault_place g).0, (fault_place g).1, (fault_place g).2, (fault_place g).0)
