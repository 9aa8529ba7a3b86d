-- What the code makes for shell n of a pattern is what the definitions say.
use Prim.Native.Nat.{◌+◌, ◌-◌, ◌<◌, ◌≤◌, suc, zero, ℕ}
use mathlib.Core.Bool.{Bool, false, not}
use mathlib.Core.List.{List, [], ◌++◌, ◌∷◌, map}
use mathlib.Core.Path.{◌∙◌, ◌≡◌, ap}
use native.Mathlib.Omega.{arith}
use lib.ListN.{drop, get_or, length, length-map, take}
use Rattle.edge.specs.Edges.{front_number}
use Rattle.face.specs.Faces.{wire_count}
use Rattle.listing.proofs.Laws.{listing_named, shells_summed}
use Rattle.lists.proofs.Laws.{sum_next, sum_take_drop}
use Rattle.lists.proofs.Split.{get_d_split}
use Rattle.lists.specs.Lists.{disjoint, has, numbers, padded, sum}
use Rattle.pattern.proofs.Counts.{edges_counted, faces_counted, listings_counted, points_counted, shells_counted, uses_counted, wires_counted}
use Rattle.pattern.proofs.Named.{faces_summed, named, wires_summed}
use Rattle.pattern.specs.Checks.{record_faults}
use Rattle.pattern.specs.Contents.{Content, Pattern, content}
use Rattle.pattern.specs.declared.Lists.{Lists}
use Rattle.shell.specs.Shells.{face_number, listings_of}
use Rattle.shell_edits.specs.Edits.{other_listings, shares_face, wires_of}
use Rattle.shell_wires.proofs.Facts.{Fine, fine, records_fine}
use Rattle.shell_wires.proofs.Laws.{flags_of, listed_flags, lists_shared, names_first, names_rest, others_are}
use Rattle.shell_wires.specs.Flags.{NameFaces, lists_flagged, wire_flags}
use Rattle.shell_wires.specs.Lent.{Lent, Listed}
use Rattle.shell_wires.specs.ShellWires.{marks_of}
use Rattle.wire.specs.Named.{Named}

names_append : (xs ys : List ℕ) → NameFaces xs → NameFaces ys → NameFaces (xs ++ ys)
names_append [] ys h g k l = g k l
names_append (x ∷ xs) ys h g zero l = h 0 (omega arith)
names_append (x ∷ xs) ys h g (suc k) l = names_append xs ys (λ i b. h (suc i) (omega arith)) g k (omega arith)

module _ (c : Content) (records : record_faults c ≡ []) (few : length c.faces ≤ 256) where
  content_names : NameFaces c.listings
  content_names k h = omega (arith, listing_named c records k h, few)

  -- the shell's listings are z in number and begin at place f
  module _ {n : ℕ} (here : n < length c.shells) {f z : ℕ} (begin : f ≡ sum (take n c.shells)) (size : z ≡ get_or c.shells n 0) where
    shells_to : sum (take (suc n) c.shells) ≡ f + z
    shells_to = omega (arith, sum_next c.shells n, begin, size)

    part_inside : f + z ≤ length c.listings
    part_inside = omega (arith, shells_to, sum_take_drop (suc n) c.shells, shells_summed c records)

    own_are : take (f + z - f) (drop f c.listings) ≡ listings_of c n
    own_are = let e : f + z - f ≡ z = omega arith in rw (get_d_split c.shells c.listings n, ← begin, ← size, e)

    others_names : NameFaces (take f c.listings ++ drop (f + z) c.listings)
    others_names = names_append (take f c.listings) (drop (f + z) c.listings) (names_first c.listings f content_names) (names_rest c.listings (f + z) content_names)

    others : take f c.listings ++ drop (f + z) c.listings ≡ other_listings c n
    others = rw (others_are c.shells c.listings n (shells_summed c records), ← begin, shells_to)

    shared_is : lists_flagged (flags_of 256 (map face_number (listings_of c n))) (take f c.listings ++ drop (f + z) c.listings) ≡ shares_face c n
    shared_is =
        lists_shared (map face_number (listings_of c n)) (take f c.listings ++ drop (f + z) c.listings) others_names
        ∙ ap (λ (ls : List ℕ). not (disjoint (map face_number (listings_of c n)) (map face_number ls))) others

    wires_are : wire_flags (flags_of 256 (map face_number (listings_of c n))) (map wire_count c.faces) ≡ map (λ (w : ℕ). has w (wires_of c n)) (numbers (length c.wires))
    wires_are = listed_flags (map wire_count c.faces) (length c.wires) (listings_of c n) (omega (arith, length-map c.faces wire_count)) (faces_summed c records)

-- ---- the faces, shells and listings of a pattern without fault
module _ (p : Pattern) {lists : Lists} (l : Listed p lists) where
  pub listed_fine : Fine p
  listed_fine = fine p l.ok l.seven l.full

  -- how long they are at most
  content_faces : length (content p).faces ≤ 256
  content_faces = let s = listed_fine in omega (arith, faces_counted p s.limits s.full, s.limits.faces)

  pub faces_few : length lists.faces.now ≤ 256
  faces_few = rw l.faces_are (omega (arith, length-map (content p).faces wire_count, content_faces))

  pub shells_few : length lists.shells.now ≤ 16
  shells_few = let s = listed_fine in rw l.shells_are (omega (arith, shells_counted p s.limits s.full, s.limits.shells))

  pub listings_few : length lists.listings.now ≤ 512
  listings_few = let s = listed_fine in rw l.listings_are (omega (arith, listings_counted p s.limits s.full, s.limits.listings))

  -- what they name, and their sum
  listed_records : record_faults (content p) ≡ []
  listed_records = records_fine p listed_fine

  pub listings_name_faces : NameFaces lists.listings.now
  listings_name_faces = rw l.listings_are (content_names (content p) listed_records content_faces)

  pub faces_sum_few : sum lists.faces.now ≤ 1024
  faces_sum_few =
      let s = listed_fine in
      rw l.faces_are (omega (arith, faces_summed (content p) listed_records, wires_counted p s.limits s.full, s.limits.wires))

  module _ {n : ℕ} (here : n < length lists.shells.now) {f z : ℕ} (begin : f ≡ sum (take n lists.shells.now)) (size : z ≡ get_or lists.shells.now n 0) where
    inside : n < length (content p).shells
    inside = rw l.shells_are at here

    start : f ≡ sum (take n (content p).shells)
    start = rw l.shells_are at begin

    long : z ≡ get_or (content p).shells n 0
    long = rw l.shells_are at size

    pub part_listed : f + z ≤ length lists.listings.now
    part_listed = rw l.listings_are (part_inside (content p) listed_records content_faces inside start long)

    pub part_named : NameFaces (take (f + z - f) (drop f lists.listings.now))
    part_named = names_first (drop f lists.listings.now) (f + z - f) (names_rest lists.listings.now f listings_name_faces)

    pub part_are : take (f + z - f) (drop f lists.listings.now) ≡ listings_of (content p) n
    part_are = rw l.listings_are (own_are (content p) listed_records content_faces inside start long)

    pub marks_made : {flags : List Bool} {shared : Bool} {wires : List Bool}
        → flags ≡ flags_of 256 (map face_number (take (f + z - f) (drop f lists.listings.now)))
        → shared ≡ lists_flagged flags (take f lists.listings.now ++ drop (f + z) lists.listings.now)
        → wires ≡ padded 1024 false (wire_flags flags lists.faces.now)
        → record { shared = shared; wires = wires } ≡ marks_of p n
    marks_made {flags} {shared} {wires} a b d =
        let c = content p in
        let own : flags ≡ flags_of 256 (map face_number (listings_of c n)) = a ∙ rw part_are in
        let is : shared ≡ shares_face c n = b ∙ rw (own, l.listings_are) (shared_is c listed_records content_faces inside start long) in
        let all : wires ≡ padded 1024 false (map (λ (w : ℕ). has w (wires_of c n)) (numbers (length c.wires))) = d ∙ rw (own, l.faces_are, wires_are c listed_records content_faces inside start long) in
        rw (is, all)

-- ---- with the ends of the edges, the uses and the wires
module _ (p : Pattern) {lists : Lists} (l : Lent p lists) where
  pub lent_fine : Fine p
  lent_fine = listed_fine p l.listed

  -- how long they are at most
  pub edges_few : (length lists.ends.fronts.now ≡ length (content p).edges) × (length lists.ends.fronts.now ≤ 1024)
  edges_few =
      let s = lent_fine in
      let long : length lists.ends.fronts.now ≡ length (content p).edges = rw l.fronts_are (length-map (content p).edges front_number) in
      (long, omega (arith, long, edges_counted p s.limits s.full, s.limits.edges))

  pub uses_few : length lists.uses.now ≤ 4096
  uses_few = let s = lent_fine in rw l.uses_are (omega (arith, uses_counted p s.limits s.full, s.limits.uses))

  pub wires_few : length lists.wires.now ≤ 1024
  wires_few = let s = lent_fine in rw l.wires_are (omega (arith, wires_counted p s.limits s.full, s.limits.wires))

  -- what they name, and their sums
  lent_records : record_faults (content p) ≡ []
  lent_records = records_fine p lent_fine

  pub uses_name : Named lists.ends.fronts.now lists.ends.backs.now lists.uses.now
  uses_name =
      let s = lent_fine in
      rw (l.fronts_are, l.backs_are, l.uses_are) (named (content p) lent_records (omega (arith, points_counted p s.limits s.full, s.limits.points)))

  pub wires_summed_lem : sum lists.wires.now ≡ length lists.uses.now
  wires_summed_lem = rw (l.wires_are, l.uses_are) (wires_summed (content p) lent_records)

  pub faces_summed_lem : sum lists.faces.now ≡ length lists.wires.now
  faces_summed_lem = rw (l.listed.faces_are, l.wires_are) (faces_summed (content p) lent_records)
