-- A pattern with a line's records after its own.
use Prim.Native.Nat.{◌+◌, ◌-◌, ◌<◌, ◌≤◌, min, ℕ}
use mathlib.Core.List.{List, [], ◌++◌, ◌∷◌, map}
use mathlib.Core.Path.{◌∙◌, ◌≡◌, ap, refl, sym}
use native.Mathlib.Omega.{arith}
use lib.ListN.{drop, get_or, length, length-append, length-drop, length-map, set, take}
use lib.Seq.{length-take-le, sets, sets-eq, take_at}
use Rattle.draft_forms.specs.declared.LineKind.{LineKind}
use Rattle.draft_forms.specs.declared.LineKind.TheVariants.{Edge as EdgeLine, Face as FaceLine, Point, Shell}
use Rattle.edge.specs.declared.Edge.{Edge}
use Rattle.face.specs.declared.Face.{Face}
use Rattle.lists.specs.Lists.{flat}
use Rattle.pattern.proofs.Counts.{Full, Limited, limited}
use Rattle.pattern.specs.Checks.{count_faults}
use Rattle.pattern.specs.Contents.{Content, Pattern, content, counts_of}
use Rattle.draft_parts.proofs.Counts.{after_edge, after_face, after_point, after_shell, parts_none, summed_none}
use Rattle.draft_parts.specs.Adding.{added, summed}
use Rattle.draft_parts.specs.Parts.{edge_of, edge_parts, face_of, face_parts, joined, parts_of, point_parts, shell_parts, wire_lengths, wires_of}
use Rattle.words.specs.Words.{short}
use Rattle.store.specs.Columns.{with_counts, with_edges, with_faces, with_listings, with_points, with_shells, with_uses, with_wires}

-- ---- the content

-- a list stored after the first n
more {ℓ} : {A : Type ℓ} (col xs : List A) (n : ℕ) → n + length xs ≤ length col → take (n + length xs) (sets col n xs) ≡ take n col ++ xs
more col xs n h =
    ap (take (n + length xs)) (sets-eq xs col n h)
    ∙ take_at (take n col ++ xs) (drop (n + length xs) col) (n + length xs) (omega (arith, length-append (take n col) xs, length-take-le n col (omega arith)))

pub content_added : (p : Pattern) (q : Content) → Full p → Limited (summed p.counts (counts_of q)) → content (added p q) ≡ joined (content p) q
content_added p q full l = λ i. record {
  points = more p.points q.points (get_or p.counts 0 0) (omega (arith, l.points, full.points)) i;
  edges = more p.edges q.edges (get_or p.counts 1 0) (omega (arith, l.edges, full.edges)) i;
  uses = more p.uses q.uses (get_or p.counts 2 0) (omega (arith, l.uses, full.uses)) i;
  wires = more p.wires q.wires (get_or p.counts 3 0) (omega (arith, l.wires, full.wires)) i;
  faces = more p.faces q.faces (get_or p.counts 4 0) (omega (arith, l.faces, full.faces)) i;
  shells = more p.shells q.shells (get_or p.counts 5 0) (omega (arith, l.shells, full.shells)) i;
  listings = more p.listings q.listings (get_or p.counts 6 0) (omega (arith, l.listings, full.listings)) i;
}

pub counts_joined : (p q : Content) → counts_of (joined p q) ≡ summed (counts_of p) (counts_of q)
counts_joined p q = λ i.
    length-append p.points q.points i
    ∷ length-append p.edges q.edges i
    ∷ length-append p.uses q.uses i
    ∷ length-append p.wires q.wires i
    ∷ length-append p.faces q.faces i
    ∷ length-append p.shells q.shells i
    ∷ length-append p.listings q.listings i
    ∷ []

-- ---- room

module _ (ns vs : List ℕ) where
  pub point_room : count_faults (summed ns (counts_of (point_parts vs))) ≡ [] → get_or ns 0 0 < 2048
  point_room e = omega (arith, (limited (summed ns (counts_of (point_parts vs))) refl e).points)

  pub edge_room : count_faults (summed ns (counts_of (edge_parts vs))) ≡ [] → get_or ns 1 0 < 1024
  edge_room e = omega (arith, (limited (summed ns (counts_of (edge_parts vs))) refl e).edges)

  pub face_room : count_faults (summed ns (counts_of (face_parts vs))) ≡ []
      → (get_or ns 2 0 + length (flat (wires_of vs)) ≤ 4096) × (get_or ns 3 0 + length (wires_of vs) ≤ 1024) × (get_or ns 4 0 < 256)
  face_room e =
      let l = limited (summed ns (counts_of (face_parts vs))) refl e in
      (l.uses, omega (arith, l.wires, length-map (wires_of vs) (λ (us : List ℕ). short (length us))), omega (arith, l.faces))

  pub shell_room : count_faults (summed ns (counts_of (shell_parts vs))) ≡ [] → (get_or ns 5 0 < 16) × (get_or ns 6 0 + (length vs - 2) ≤ 512)
  shell_room e =
      let l = limited (summed ns (counts_of (shell_parts vs))) refl e in
      (omega (arith, l.shells), omega (arith, l.listings, length-map (drop 2 vs) short, length-drop 2 vs))

-- ---- each kind of line, stored part by part

module _ (p : Pattern) (vs ns : List ℕ) (seven : length p.counts ≡ 7) (is : ns ≡ p.counts) where
  pub point_added : (x : ℕ) (p₁ p₂ : Pattern) → x ≡ min (get_or vs 2 0) 4294967295 → p₁ ≡ with_points p (set p.points (get_or ns 0 0) x)
      → p₂ ≡ with_counts p₁ (set p₁.counts 0 (get_or ns 0 0 + 1)) → p₂ ≡ added p (point_parts vs)
  unfolding parts_of
  point_added x p₁ p₂ e a b = b ∙ rw (a, e, is) (ap (with_counts (added p (point_parts vs))) (after_point Point vs p.counts seven refl))

  pub edge_added : (x : Edge) (p₁ p₂ : Pattern) → x ≡ edge_of vs → p₁ ≡ with_edges p (set p.edges (get_or ns 1 0) x)
      → p₂ ≡ with_counts p₁ (set p₁.counts 1 (get_or ns 1 0 + 1)) → p₂ ≡ added p (edge_parts vs)
  unfolding parts_of
  edge_added x p₁ p₂ e a b = b ∙ rw (a, e, is) (ap (with_counts (added p (edge_parts vs))) (after_edge EdgeLine vs p.counts seven refl))

  pub face_added : (u w : ℕ) (f : Face) (p₁ p₂ p₃ p₄ p₅ : Pattern) → u ≡ length (flat (wires_of vs)) → w ≡ length (wires_of vs) → f ≡ face_of vs
      → p₁ ≡ with_wires (with_uses p (sets p.uses (get_or ns 2 0) (flat (wires_of vs)))) (sets p.wires (get_or ns 3 0) (wire_lengths (wires_of vs)))
      → p₂ ≡ with_faces p₁ (set p₁.faces (get_or ns 4 0) f) → p₃ ≡ with_counts p₂ (set p₂.counts 4 (get_or ns 4 0 + 1))
      → p₄ ≡ with_counts p₃ (set p₃.counts 2 (get_or ns 2 0 + u)) → p₅ ≡ with_counts p₄ (set p₄.counts 3 (get_or ns 3 0 + w)) → p₅ ≡ added p (face_parts vs)
  unfolding parts_of
  face_added u w f p₁ p₂ p₃ p₄ p₅ eu ew ef x₁ x₂ x₃ x₄ x₅ =
      x₅ ∙ rw (x₄, x₃, x₂, x₁, ef, is) (ap (with_counts (added p (face_parts vs))) (after_face FaceLine vs p.counts seven u w refl eu ew))

  pub shell_added : (n : ℕ) (p₁ p₂ p₃ p₄ : Pattern) → 2 ≤ length vs → n ≡ short (length vs - 2) → p₁ ≡ with_shells p (set p.shells (get_or ns 5 0) n)
      → p₂ ≡ with_listings p₁ (sets p₁.listings (get_or ns 6 0) (map short (drop 2 vs))) → p₃ ≡ with_counts p₂ (set p₂.counts 5 (get_or ns 5 0 + 1))
      → p₄ ≡ with_counts p₃ (set p₃.counts 6 (get_or ns 6 0 + (length vs - 2))) → p₄ ≡ added p (shell_parts vs)
  unfolding parts_of
  shell_added n p₁ p₂ p₃ p₄ some en x₁ x₂ x₃ x₄ =
      let long : n ≡ short (length (drop 2 vs)) = en ∙ ap short (sym (length-drop 2 vs)) in
      x₄ ∙ rw (x₃, x₂, x₁, long, is) (ap (with_counts (added p (shell_parts vs))) (after_shell Shell vs p.counts seven refl some))

-- a line of another kind
pub none_added : (p : Pattern) (k : LineKind) (vs : List ℕ) → length p.counts ≡ 7 → (k ≡ Point → ⊥) → (k ≡ EdgeLine → ⊥) → (k ≡ FaceLine → ⊥) → (k ≡ Shell → ⊥) → p ≡ added p (parts_of k vs)
none_added p k vs seven a b c d = rw (parts_none k vs a b c d) (ap (with_counts p) (summed_none p.counts seven))
