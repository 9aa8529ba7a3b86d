-- A content in storage.
use Prim.Native.Nat.{◌+◌, ◌≤◌}
use mathlib.Core.List.{List, []}
use mathlib.Core.Path.{◌≡◌, ◌∙◌, ap, refl}
use native.Mathlib.Omega.{arith}
use lib.ListN.{drop, length, take}
use lib.Seq.{length-sets, sets, sets-eq, take-append_seam}
use Rattle.errors.proofs.Laws.{none_both}
use Rattle.pattern.proofs.Counts.{Full, Limited, limited}
use Rattle.pattern.specs.Checks.{content_faults, count_faults, pattern_faults}
use Rattle.pattern.specs.Contents.{Content, Pattern, content, counts_of, stored_in}

module _ {ℓ} {A : Type ℓ} where
  -- what is stored from the front is what stands first
  pub stored_first : (l xs : List A) → length xs ≤ length l → take (length xs) (sets l 0 xs) ≡ xs
  stored_first l xs h =
      let e : 0 + length xs ≡ length xs = omega arith in
      rw (sets-eq xs l 0 (omega arith), e) (take-append_seam xs (drop (length xs) l))

module _ (p : Pattern) (full : Full p) (c : Content) (few : count_faults (counts_of c) ≡ []) where
  fit : Limited (counts_of c)
  fit = limited (counts_of c) refl few

  -- a content stored is read back
  pub stored_content : content (stored_in p c) ≡ c
  stored_content =
      let points = stored_first p.points c.points (omega (arith, full.points, fit.points)) in
      let edges = stored_first p.edges c.edges (omega (arith, full.edges, fit.edges)) in
      let uses = stored_first p.uses c.uses (omega (arith, full.uses, fit.uses)) in
      let wires = stored_first p.wires c.wires (omega (arith, full.wires, fit.wires)) in
      let faces = stored_first p.faces c.faces (omega (arith, full.faces, fit.faces)) in
      let shells = stored_first p.shells c.shells (omega (arith, full.shells, fit.shells)) in
      let listings = stored_first p.listings c.listings (omega (arith, full.listings, fit.listings)) in
      λ i. record {
        points = points i;
        edges = edges i;
        uses = uses i;
        wires = wires i;
        faces = faces i;
        shells = shells i;
        listings = listings i;
      }

  pub stored_accepted : content_faults c ≡ [] → pattern_faults (stored_in p c) ≡ []
  stored_accepted ok = none_both (count_faults (counts_of c)) (content_faults (content (stored_in p c))) few (ap content_faults stored_content ∙ ok)

  -- the storage keeps its lengths
  pub stored_full : Full (stored_in p c)
  stored_full = record {
    points = length-sets p.points 0 c.points ∙ full.points;
    edges = length-sets p.edges 0 c.edges ∙ full.edges;
    uses = length-sets p.uses 0 c.uses ∙ full.uses;
    wires = length-sets p.wires 0 c.wires ∙ full.wires;
    faces = length-sets p.faces 0 c.faces ∙ full.faces;
    shells = length-sets p.shells 0 c.shells ∙ full.shells;
    listings = length-sets p.listings 0 c.listings ∙ full.listings;
  }
