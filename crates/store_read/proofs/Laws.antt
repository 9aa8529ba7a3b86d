-- What the proofs of reading into the store cite.
use Rattle.std.specs.Prelude.{Err, Ok}
use Prim.Native.Nat.{ℕ, zero, suc, ◌+◌, ◌<◌, ◌≤◌}
use Rattle.pattern.proofs.Counts.{Full, Limited}
use mathlib.Core.List.{List, [], ◌∷◌, ◌++◌}
use mathlib.Core.Path.{◌≡◌, ◌∙◌, ap, refl, sym}
use native.Mathlib.Numerals.{add-one}
use native.Mathlib.Omega.{arith}
use lib.ListN.{get_or, length, set, take}
use lib.Seq.{length-sets, sets, take_all}
use Rattle.lists.proofs.Laws.{length_tabulate, tabulate_suc}
use Rattle.lists.proofs.Sets.{sets_append, sets_next, take_sets}
use Rattle.edge.specs.declared.Edge.{Edge}
use Rattle.face.specs.declared.Face.{Face}
use Rattle.errors.proofs.Laws.{accepted_none}
use Rattle.errors.specs.Faults.{first}
use Rattle.errors.specs.declared.Refusal.{Refusal}
use Rattle.pattern_table.proofs.Laws.{counts_of_content, table_counts}
use Rattle.pattern.specs.Checks.{content_faults, count_faults, pattern_faults}
use Rattle.pattern_file.specs.File.{file_content, file_faults, table_faults}
use Rattle.pattern.specs.Contents.{Content, Pattern, content, counts_of, stored_in}
use Rattle.store.proofs.View.{stored_listings, stored_shells, stored_uses, stored_wires}
use Rattle.store_read.specs.Loading.{loaded, loaded_in}
use Rattle.store.specs.Store.{held}
use lib.Ieee.{Float}
use Rattle.lists.specs.Lists.{tabulate}
use Rattle.pattern.proofs.Stored.{stored_content}
use Rattle.store.specs.Columns.{with_counts, with_edges, with_faces, with_listings, with_points, with_shells, with_uses, with_wires}

module _ {ℓ} {A : Type ℓ} (l : List A) (f : ℕ → A) where
  -- one more stored
  pub put_at : (at k : ℕ) → set (sets l at (tabulate k f)) (at + k) (f k) ≡ sets l at (tabulate (k + 1) f)
  put_at at k =
      let n = length_tabulate k f in
      rw (add-one, tabulate_suc k f, ← sets_append l at (tabulate k f) (f k ∷ []), n)

  pub put_next : (k : ℕ) → set (sets l 0 (tabulate k f)) k (f k) ≡ sets l 0 (tabulate (k + 1) f)
  put_next k = let z : 0 + k ≡ k = omega arith in rw z at (put_at 0 k)

  pub put_none : (at : ℕ) → l ≡ sets l at (tabulate 0 f)
  unfolding tabulate
  put_none at = refl

-- ---- a loop that stores records one by one

-- a whole list copied over another of its length
copied : (l s out : List ℕ) (k : ℕ) → length l ≡ length s → length s ≤ k → out ≡ sets l 0 (take k s) → out ≡ s
copied l s out k e h o =
    o ∙ rw (take_all k s h) (sym (take_all (length s) (sets l 0 s) (omega (arith, length-sets l 0 s, e))) ∙ take_sets l s (length s) refl (omega (arith, e)))

module _ (p : Pattern) where
  pub points_none : (f : ℕ → ℕ) → p ≡ with_points p (sets p.points 0 (tabulate 0 f))
  points_none f = ap (with_points p) (put_none p.points f 0)

  pub points_step : (f : ℕ → ℕ) (k : ℕ) (q r : Pattern) (x : ℕ) → q ≡ with_points p (sets p.points 0 (tabulate k f)) → x ≡ f k → r ≡ with_points q (set q.points k x)
      → r ≡ with_points p (sets p.points 0 (tabulate (k + 1) f))
  points_step f k q r x e is h = h ∙ rw (e, is) (ap (with_points p) (put_next p.points f k))

  pub edges_none : (f : ℕ → Edge) → p ≡ with_edges p (sets p.edges 0 (tabulate 0 f))
  edges_none f = ap (with_edges p) (put_none p.edges f 0)

  pub edges_step : (f : ℕ → Edge) (k : ℕ) (q r : Pattern) (d : Edge) → q ≡ with_edges p (sets p.edges 0 (tabulate k f)) → d ≡ f k → r ≡ with_edges q (set q.edges k d)
      → r ≡ with_edges p (sets p.edges 0 (tabulate (k + 1) f))
  edges_step f k q r d e is h = h ∙ rw (e, is) (ap (with_edges p) (put_next p.edges f k))

  pub faces_none : (f : ℕ → Face) → p ≡ with_faces p (sets p.faces 0 (tabulate 0 f))
  faces_none f = ap (with_faces p) (put_none p.faces f 0)

  pub faces_step : (f : ℕ → Face) (k : ℕ) (q r : Pattern) (d : Face) → q ≡ with_faces p (sets p.faces 0 (tabulate k f)) → d ≡ f k → r ≡ with_faces q (set q.faces k d)
      → r ≡ with_faces p (sets p.faces 0 (tabulate (k + 1) f))
  faces_step f k q r d e is h = h ∙ rw (e, is) (ap (with_faces p) (put_next p.faces f k))

  pub counts_step : (counts : List ℕ) (k : ℕ) (q r : Pattern) → k < length counts → q ≡ with_counts p (sets p.counts 0 (take k counts)) → r ≡ with_counts q (set q.counts k (get_or counts k 0))
      → r ≡ with_counts p (sets p.counts 0 (take (k + 1) counts))
  counts_step counts k q r l e h =
      let z : 0 + k ≡ k = omega arith in
      h ∙ rw e (ap (with_counts p) (rw z at (sets_next p.counts 0 counts k 0 l)))

  pub counts_all : (counts : List ℕ) (k : ℕ) (q : Pattern) → length counts ≡ 7 → length p.counts ≡ 7 → 7 ≤ k → q ≡ with_counts p (sets p.counts 0 (take k counts)) → q ≡ with_counts p counts
  counts_all counts k q l m h e = e ∙ ap (with_counts p) (copied p.counts counts _ k (m ∙ sym l) (omega arith) refl)

pub count_small : (counts : List ℕ) → Limited counts → (b : ℕ) → b < 7 → get_or counts b 0 ≤ 4096
count_small counts l zero h = omega (arith, l.points)
count_small counts l (suc zero) h = omega (arith, l.edges)
count_small counts l (suc (suc zero)) h = l.uses
count_small counts l (suc (suc (suc zero))) h = omega (arith, l.wires)
count_small counts l (suc (suc (suc (suc zero)))) h = omega (arith, l.faces)
count_small counts l (suc (suc (suc (suc (suc zero))))) h = omega (arith, l.shells)
count_small counts l (suc (suc (suc (suc (suc (suc zero)))))) h = omega (arith, l.listings)
count_small counts l (suc (suc (suc (suc (suc (suc (suc b))))))) h = absurd (omega arith)

-- ---- numbers read to a table

module _ (t t' : List ℕ) (spans : List Float) (long : length t ≡ 12312) (n : ℕ) (f : ℕ → ℕ) where
  abbrev ns : List ℕ
  ns = tabulate n f

  pub uses_read : n ≤ 4096 → t' ≡ sets t 2056 ns → held t' spans ≡ with_uses (held t spans) (sets (held t spans).uses 0 ns)
  uses_read h e = stored_uses t t' spans long 0 ns e (omega (arith, length_tabulate n f))

  pub wires_read : n ≤ 1024 → t' ≡ sets t 6152 ns → held t' spans ≡ with_wires (held t spans) (sets (held t spans).wires 0 ns)
  wires_read h e = stored_wires t t' spans long 0 ns e (omega (arith, length_tabulate n f))

  pub shells_read : n ≤ 16 → t' ≡ sets t 7688 ns → held t' spans ≡ with_shells (held t spans) (sets (held t spans).shells 0 ns)
  shells_read h e = stored_shells t t' spans long 0 ns e (omega (arith, length_tabulate n f))

  pub listings_read : n ≤ 512 → t' ≡ sets t 7704 ns → held t' spans ≡ with_listings (held t spans) (sets (held t spans).listings 0 ns)
  listings_read h e = stored_listings t t' spans long 0 ns e (omega (arith, length_tabulate n f))

-- all tables, one after the other
pub filled_view : (c : Content) (p p₀ p₁ p₂ p₃ p₄ p₅ p₆ p₇ : Pattern) (cs ls : List ℕ) (es : List Edge) (us ws : List ℕ) (fs : List Face) (ss gs : List ℕ)
    → cs ≡ counts_of c → ls ≡ c.points → es ≡ c.edges → us ≡ c.uses → ws ≡ c.wires → fs ≡ c.faces → ss ≡ c.shells → gs ≡ c.listings
    → p₀ ≡ with_counts p cs → p₁ ≡ with_points p₀ (sets p₀.points 0 ls) → p₂ ≡ with_edges p₁ (sets p₁.edges 0 es) → p₃ ≡ with_uses p₂ (sets p₂.uses 0 us)
    → p₄ ≡ with_wires p₃ (sets p₃.wires 0 ws) → p₅ ≡ with_faces p₄ (sets p₄.faces 0 fs) → p₆ ≡ with_shells p₅ (sets p₅.shells 0 ss)
    → p₇ ≡ with_listings p₆ (sets p₆.listings 0 gs) → p₇ ≡ stored_in p c
filled_view c p p₀ p₁ p₂ p₃ p₄ p₅ p₆ p₇ cs ls es us ws fs ss gs a l b d e f g h x₀ x₁ x₂ x₃ x₄ x₅ x₆ x₇ =
    x₇ ∙ rw (x₆, x₅, x₄, x₃, x₂, x₁, x₀, a, l, b, d, e, f, g, h)

-- ---- the contents table, then the content

-- the store after a refusal, and after none
pub loaded_kept : (fs : List Refusal) (f : Refusal) (p : Pattern) (c : Content) → first fs ≡ Err f → p ≡ loaded_in fs p c
loaded_kept [] f p c h = cc
loaded_kept (g ∷ fs) f p c h = refl

pub loaded_all : (fs : List Refusal) (p : Pattern) (c : Content) → fs ≡ [] → stored_in p c ≡ loaded_in fs p c
loaded_all fs p c h = rw h

-- a store after a file whose table is right was read into it
module _ (s : List ℕ) (p q : Pattern) (full : Full p) (done : q ≡ loaded p s) (right : first (table_faults s) ≡ Ok tt) where
  none : table_faults s ≡ []
  none = accepted_none (table_faults s) right

  filled : q ≡ stored_in p (file_content s)
  filled = done ∙ sym (loaded_all (table_faults s) p (file_content s) none)

  few : count_faults (counts_of (file_content s)) ≡ []
  few = ap count_faults (sym (counts_of_content s)) ∙ table_counts s none

  pub loaded_counts : count_faults q.counts ≡ []
  loaded_counts = ap (λ (r : Pattern). count_faults r.counts) filled ∙ few

  pub loaded_content : content q ≡ file_content s
  loaded_content = ap content filled ∙ stored_content p full (file_content s) few

  pub loaded_checked : first (content_faults (content q)) ≡ first (file_faults s)
  loaded_checked = ap (λ (c : Content). first (content_faults c)) loaded_content ∙ rw none

  -- the checks of the file are those of the store
  pub loaded_faults : pattern_faults q ≡ file_faults s
  loaded_faults =
      ap (λ (fs : List Refusal). fs ++ content_faults (content q)) loaded_counts
      ∙ ap content_faults loaded_content ∙ ap (λ (fs : List Refusal). fs ++ content_faults (file_content s)) (sym none)
