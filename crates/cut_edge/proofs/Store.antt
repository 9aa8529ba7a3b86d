-- The cut of a pattern that is in the store.
use Rattle.errors.specs.declared.CallError.TheVariants.{Refused}
use Rattle.std.specs.Prelude.{Err, Ok, Option, Result, Some}
use Prim.Native.Nat.{ℕ, suc, zero, ◌+◌, ◌<◌, ◌≤◌}
use mathlib.Core.Bool.{Bool, ◌&&◌, true}
use mathlib.Core.List.{List, [], ◌∷◌, map}
use mathlib.Core.Path.{◌≡◌, ◌∙◌, ap, refl, sym}
use native.Mathlib.Numerals.{add-one}
use native.Mathlib.Omega.{arith}
use lib.Dec.{ltb}
use lib.Ieee.{Float}
use lib.ListN.{get_or, length, length-map, length-replicate, replicate, set, take}
use lib.Seq.{length-sets, sets}
use borrow.Author.Tests.{lt-ltb}
use Rattle.curve.specs.Curves.{cut_curve}
use Rattle.curve.specs.declared.Parameter.{Parameter}
use Rattle.cut_edge.proofs.Answer.{Left, accepted_are, answer_cut, faults_are, pattern_cut, refused_not, rooms, wires_are}
use Rattle.cut_edge.proofs.Stored.{back_low, cut_stored_lem, cut_tables, edge_at_lem, extended, front_low, new_halved, new_named}
use Rattle.cut_edge.specs.Cutting.{cut_in, cut_stored, with_halves}
use Rattle.cut_edge_faults.specs.Flags.{cuts_where, uses_where}
use Rattle.cut_edge_faults.specs.Judgement.{found_faults, judgement}
use Rattle.cut_edge_wires.specs.Halves.{Halved, cut_flagged}
use Rattle.edge.proofs.Laws.{no_edge}
use Rattle.edge.specs.Edges.{back_number, edge, front_number}
use Rattle.edge.specs.declared.Curve.{Curve}
use Rattle.edge.specs.declared.Edge.{Edge}
use Rattle.edit_answers.specs.declared.EditError.{EditError}
use Rattle.lists.proofs.Flat.{get_d_tabulate}
use Rattle.lists.proofs.Laws.{length_split}
use Rattle.lists.proofs.Sets.{take_sets}
use Rattle.lists.specs.Lists.{flat, has, split, sum}
use Rattle.pattern.proofs.Counts.{edges_counted, uses_counted, wires_counted}
use Rattle.pattern.proofs.Named.{wires_summed}
use Rattle.pattern.specs.Checks.{count_faults, pattern_faults}
use Rattle.pattern.specs.declared.Lists.{Lists}
use Rattle.pattern.specs.Contents.{Pattern, content}
use Rattle.shell_edits.proofs.CutTheorem.{cut_pattern_accepted}
use Rattle.shell_edits.proofs.Wires.{each_long}
use Rattle.shell_edits.specs.Answers.{after_cut, cut_answer}
use Rattle.shell_edits.specs.Edits.{cut_faults, cut_wires, each_wire, edge_at}
use Rattle.shell_edits.specs.NewEdges.{half_edges}
use Rattle.shell_wires.proofs.Facts.{Fine, records_fine, uses_named}
use Rattle.shell_wires.proofs.Held.{held_counts, held_fine}
use Rattle.shell_wires.proofs.Made.{edges_few}
use Rattle.shell_wires.specs.Lent.{Lent}
use Rattle.shell_wires.specs.ShellWires.{marks_of}
use Rattle.shell_wires.specs.declared.Marks.{Marks}
use Rattle.store.proofs.Parts.{part_at, part_long}
use Rattle.store.proofs.View.{held_backs, held_fronts}
use Rattle.store.specs.Store.{count_table, edge_in, held, use_table, wire_table}
use Rattle.vertex.specs.declared.VertexID.{VertexID}
use Rattle.wire.specs.Named.{Named}
use Rattle.wire.specs.Wires.{points}
use Rattle.store.specs.Columns.{back_table, counted, front_table, with_counts, with_edges, with_uses, with_wires}

map_set {ℓ} : {A B : Type ℓ} (f : A → B) (l : List A) (i : ℕ) (x : A) → map f (set l i x) ≡ set (map f l) i (f x)
map_set f [] i x = refl
map_set f (y ∷ l) zero x = refl
map_set {B = B} f (y ∷ l) (suc i) x = ap (λ (r : List B). f y ∷ r) (map_set f l i x)

-- the halves of edge e stored one after the other
pub halves_view : (t : List ℕ) (spans : List Float) (p₁ p₂ : Pattern) (a e : ℕ) (v : VertexID) (k l : Curve) (i : ℕ) (d h₁ h₂ : Edge)
    → i ≡ e → d ≡ edge_in t spans i → h₁ ≡ edge d.front v k → h₂ ≡ edge v d.back l
    → p₁ ≡ with_edges (held t spans) (set (held t spans).edges a h₁) → p₂ ≡ with_edges p₁ (set p₁.edges (a + 1) h₂)
    → p₂ ≡ with_halves (held t spans) a (half_edges (edge_in t spans e) v.0 (Some (k, l)))
halves_view t spans p₁ p₂ a e v k l i d h₁ h₂ hi hd e₁ e₂ s₁ s₂ = s₂ ∙ rw (s₁, e₁, e₂, hd, hi, add-one a)

-- the stores of a cut one after the other
pub cut_view : (p p₁ p₂ p₃ p₄ p₅ : Pattern) → Fine p → (a total : ℕ) (h₁ h₂ : Edge) (ws : List (List ℕ)) (us ls : List ℕ)
    → a ≡ get_or p.counts 1 0 → total ≡ length (flat ws) → us ≡ flat ws → ls ≡ map length ws → length (map length ws) ≡ get_or p.counts 3 0
    → p₁ ≡ with_halves p a (h₁ ∷ h₂ ∷ []) → p₂ ≡ with_uses p₁ (sets p₁.uses 0 us) → p₃ ≡ with_wires p₂ (sets p₂.wires 0 ls)
    → p₄ ≡ with_counts p₃ (set p₃.counts 1 (a + 2)) → p₅ ≡ with_counts p₄ (set p₄.counts 2 total)
    → p₅ ≡ cut_stored p (h₁ ∷ h₂ ∷ []) ws
cut_view p p₁ p₂ p₃ p₄ p₅ s a total h₁ h₂ ws us ls ha ht hu hl long e u w b c =
    let is : p₅ ≡ cut_tables p h₁ h₂ ws = c ∙ rw (b, w, u, e, hu, hl, ht, ha) in
    is ∙ cut_stored_lem p s h₁ h₂ ws long

-- the wires ws written to lists of zeros: what is then stored of these
pub record Written (ws : List (List ℕ)) (wired total : ℕ) (out sizes : List ℕ) : Type 0 where
  pub few : total ≤ 4096
  pub long : length out ≡ 4096
  pub wired_few : wired ≤ 1024
  pub wide : length sizes ≡ 1024
  pub size : total ≡ length (flat ws)
  pub wired_all : length (map length ws) ≡ wired
  pub uses : take total out ≡ flat ws
  pub wires : take wired sizes ≡ map length ws

written : (ws : List (List ℕ)) (wired total : ℕ) (out sizes : List ℕ) → length (map length ws) ≡ wired → wired ≤ 1024 → length (flat ws) ≤ 4096
    → total ≡ length (flat ws) → out ≡ sets (replicate 4096 0) 0 (flat ws) → sizes ≡ sets (replicate 1024 0) 0 (map length ws) → Written ws wired total out sizes
written ws wired total out sizes hw few₁ few₂ ht ho hs =
    let zeros = length-replicate {A = ℕ} 4096 0 in
    let zeros' = length-replicate {A = ℕ} 1024 0 in
    record {
      few = omega arith;
      long = ap length ho ∙ length-sets {A = ℕ} (replicate 4096 0) 0 (flat ws) ∙ zeros;
      wired_few = few₁;
      wide = ap length hs ∙ length-sets {A = ℕ} (replicate 1024 0) 0 (map length ws) ∙ zeros';
      size = ht;
      wired_all = hw;
      uses = rw ho (take_sets (replicate 4096 0) (flat ws) total (sym ht) (omega arith));
      wires = rw hs (take_sets (replicate 1024 0) (map length ws) wired hw (omega arith));
    }

-- a store that holds a pattern without fault
pub record Sound (t : List ℕ) (spans : List Float) : Type 0 where
  pub long : length t ≡ 12312
  pub ok : pattern_faults (held t spans) ≡ []

-- shell n, edge e and vertex v are there
pub record Here (t : List ℕ) (n e v : ℕ) : Type 0 where
  pub shell : n < get_or (count_table t) 5 0
  pub edge : e < get_or (count_table t) 1 0
  pub vertex : v < get_or (count_table t) 0 0

module _ {t : List ℕ} {spans : List Float} (sound : Sound t spans) where
  abbrev P : Pattern
  P = held t spans

  abbrev a : ℕ
  a = get_or (count_table t) 1 0

  pub sound_fine : Fine P
  sound_fine = held_fine t spans sound.long sound.ok

  pub sound_counts : count_faults (count_table t) ≡ []
  sound_counts = held_counts t spans sound.long sound.ok

  pub held_edge_at : (e : ℕ) → e < a → edge_in t spans e ≡ edge_at (content P) e
  held_edge_at e h = sym (edge_at_lem P sound_fine e h ∙ get_d_tabulate 1024 (edge_in t spans) e no_edge (omega (arith, h, sound_fine.limits.edges)))

  held_named : Named (take a (front_table t)) (take a (back_table t)) (counted 2 use_table t)
  held_named = rw (held_fronts t spans sound.long, held_backs t spans sound.long) (uses_named P sound_fine)

  module _ {n e v : ℕ} (at : Parameter) (here : Here t n e v) where
    held_here : (ltb n (get_or (count_table t) 5 0) && ltb e a && ltb v (get_or (count_table t) 0 0)) ≡ true
    held_here = rw (lt-ltb n (get_or (count_table t) 5 0) here.shell, lt-ltb e a here.edge, lt-ltb v (get_or (count_table t) 0 0) here.vertex)

    abbrev faults : List EditError
    faults = cut_faults (content P) n e v at

    abbrev halves : Option (Curve × Curve)
    halves = cut_curve (edge_at (content P) e).curve at

    -- refused by the judgement
    pub held_refused : {x : EditError} → judgement faults halves ≡ Err x → Left P n e v at (Refused x)
    held_refused j = refused_not P sound_fine n e v at held_here j

    pub held_after : pattern_faults (after_cut P n e v at) ≡ []
    held_after = cut_pattern_accepted P n e v at sound.ok sound_fine.full

    module _ {m : Marks} (marked : m ≡ marks_of P n) where
      -- the lists as they are lent
      module _ {lists : Lists} (lent : Lent P lists) where
        edges_long : length lists.ends.fronts.now ≡ a
        edges_long = (edges_few P lent).0 ∙ edges_counted P sound_fine.limits sound_fine.full

        uses_long : length lists.uses.now ≡ get_or (count_table t) 2 0
        uses_long = rw lent.uses_are (uses_counted P sound_fine.limits sound_fine.full)

        pub held_judged : {h : Option (Curve × Curve)} {d : Edge} → d ≡ edge_at (content P) e → h ≡ cut_curve d.curve at → {r : Result (Curve × Curve) EditError}
            → r ≡ judgement (found_faults m.shared (has v (points lists.ends.fronts.now lists.ends.backs.now (uses_where m.wires 0 (split lists.wires.now lists.uses.now)))) (cuts_where m.wires e 0 (split lists.wires.now lists.uses.now)) h (length lists.ends.fronts.now) (length lists.uses.now)) h
            → r ≡ judgement faults halves
        held_judged is cut j = j ∙ rw (edges_long, uses_long, marked, cut, is, lent.uses_are, lent.wires_are, lent.fronts_are, lent.backs_are, faults_are P sound_fine n e v at held_here)

      held_cut : cut_in m.wires e t ≡ cut_wires (content P) n e
      held_cut = rw (marked, wires_are P sound_fine n e v at)

      -- accepted by the judgement
      module _ {k l : Curve} (accepted : judgement faults halves ≡ Ok (k, l)) where
        parts : (faults ≡ []) × (halves ≡ Some (k, l))
        parts = accepted_are faults halves k l accepted

        pub accepted_room : (a + 2 ≤ 1024) × (length (flat (cut_in m.wires e t)) ≤ 4096)
        accepted_room = rw held_cut (rooms P sound_fine n e v at held_here parts.0)

        pub accepted_answer : Ok (record { 0 = a }, record { 0 = a + 1 }) ≡ cut_answer P n e v at
        accepted_answer = answer_cut P sound_fine n e v at parts.0

        pub accepted_pattern : cut_stored P (half_edges (edge_in t spans e) v (Some (k, l))) (cut_in m.wires e t) ≡ after_cut P n e v at
        accepted_pattern =
            ap (λ (d : Edge). cut_stored P (half_edges d v (Some (k, l))) (cut_in m.wires e t)) (held_edge_at e here.edge)
            ∙ rw held_cut (pattern_cut P sound_fine n e v at parts.0 k l parts.1)

  -- the halves of edge e stored after the edges, with the counts as they were read
  module _ (e : ℕ) (v : VertexID) (k l : Curve) (here : e < a) (point : v.0 < get_or (count_table t) 0 0) (room : a + 2 ≤ 1024) {counts : List ℕ} (hc : counts ≡ count_table t)
      (t₂ : List ℕ) (spans₂ : List Float) (long₂ : length t₂ ≡ 12312) (stored : held t₂ spans₂ ≡ with_halves P (get_or counts 1 0) (half_edges (edge_in t spans e) v.0 (Some (k, l)))) where
    abbrev h₁ : Edge
    h₁ = edge (edge_in t spans e).front v k

    abbrev h₂ : Edge
    h₂ = edge v (edge_in t spans e).back l

    is : held t₂ spans₂ ≡ with_edges P (set (set P.edges a h₁) (a + 1) h₂)
    is = stored ∙ rw (hc, add-one a)

    fronts_then : front_table t₂ ≡ extended (front_table t) a (get_or (front_table t) e 0) v.0
    fronts_then =
        held_fronts t₂ spans₂ long₂ ∙ ap (λ (q : Pattern). map front_number q.edges) is
        ∙ map_set front_number (set P.edges a h₁) (a + 1) h₂ ∙ rw (map_set front_number P.edges a h₁, ← part_at t 8 1024 e (omega arith), held_fronts t spans sound.long)

    backs_then : back_table t₂ ≡ extended (back_table t) a v.0 (get_or (back_table t) e 0)
    backs_then =
        held_backs t₂ spans₂ long₂ ∙ ap (λ (q : Pattern). map back_number q.edges) is
        ∙ map_set back_number (set P.edges a h₁) (a + 1) h₂ ∙ rw (map_set back_number P.edges a h₁, ← part_at t 1032 1024 e (omega arith), held_backs t spans sound.long)

    uses_then : counted 2 use_table t₂ ≡ counted 2 use_table t
    uses_then = ap (λ (q : Pattern). (content q).uses) is

    wires_then : counted 3 wire_table t₂ ≡ counted 3 wire_table t
    wires_then = ap (λ (q : Pattern). (content q).wires) is

    pub counts_then : count_faults (count_table t₂) ≡ []
    counts_then = ap (λ (q : Pattern). count_faults q.counts) is ∙ sound_counts

    halves_named : Named (front_table t₂) (back_table t₂) (counted 2 use_table t₂)
    halves_named =
        rw (fronts_then, backs_then, uses_then)
        (new_named (front_table t) (back_table t) a e v.0 here room (part_long t 8 1024 (omega (arith, sound.long))) (part_long t 1032 1024 (omega (arith, sound.long))) (counted 2 use_table t) held_named)

    halves_are : Halved (front_table t₂) (back_table t₂) e a
    halves_are =
        rw (fronts_then, backs_then)
        (new_halved (front_table t) (back_table t) a e v.0 here room (part_long t 8 1024 (omega (arith, sound.long))) (part_long t 1032 1024 (omega (arith, sound.long))) (omega (arith, sound_fine.limits.points)) (rw (held_fronts t spans sound.long) (front_low P sound_fine e here)) (rw (held_backs t spans sound.long) (back_low P sound_fine e here)))

    -- what writing the wires asks, of the lists as they are lent then
    module _ (flags : List Bool) {uses wires : List ℕ} (hu : uses ≡ counted 2 use_table t₂) (hw : wires ≡ counted 3 wire_table t₂) where
      abbrev made : List (List ℕ)
      made = each_wire (cut_flagged flags e (get_or counts 1 0)) 0 (split wires uses)

      wires_cut : made ≡ cut_in flags e t
      wires_cut = rw (hc, hu, hw, uses_then, wires_then)

      pub ends_ready : {fronts backs : List ℕ} → fronts ≡ front_table t₂ → backs ≡ back_table t₂ → Named fronts backs uses × Halved fronts backs e (get_or counts 1 0)
      ends_ready hf hb = (rw (hf, hb, hu) halves_named, rw (hf, hb, hc) halves_are)

      pub wires_ready : (out sizes : List ℕ) → length flags ≡ 1024 → length out ≡ 4096 → length sizes ≡ 1024 → length (flat (cut_in flags e t)) ≤ 4096
          → ((sum wires ≤ length uses) × (length wires ≤ length flags) × (length wires ≤ length sizes)) × ((length (flat made) ≤ length out) × (length uses ≤ 4096) × (length out ≤ 4096))
      wires_ready out sizes lf lo ls few =
          let s = sound_fine in
          let summed : sum wires ≡ length uses = rw (hu, hw, uses_then, wires_then) (wires_summed (content P) (records_fine P s)) in
          let us : length uses ≤ 4096 = rw (hu, uses_then) (omega (arith, uses_counted P s.limits s.full, s.limits.uses)) in
          let ws : length wires ≤ 1024 = rw (hw, wires_then) (omega (arith, wires_counted P s.limits s.full, s.limits.wires)) in
          ((omega arith, omega arith, omega arith), (rw wires_cut (omega arith), us, omega arith))

      pub wires_written : {total : ℕ} {out sizes : List ℕ} → length (flat (cut_in flags e t)) ≤ 4096 → total ≡ length (flat made) → out ≡ sets (replicate 4096 0) 0 (flat made) → sizes ≡ sets (replicate 1024 0) 0 (map length made)
          → Written (cut_in flags e t) (get_or counts 3 0) total out sizes
      wires_written {total} {out} {sizes} few ht ho hs =
          let s = sound_fine in
          let w = get_or (count_table t) 3 0 in
          let k3 : get_or counts 3 0 ≡ w = rw hc in
          let wired : length (map length (cut_in flags e t)) ≡ w =
          length-map (cut_in flags e t) length ∙ each_long _ 0 (split (counted 3 wire_table t) (counted 2 use_table t)) ∙ length_split (counted 3 wire_table t) (counted 2 use_table t) ∙ wires_counted P s.limits s.full in
          written (cut_in flags e t) (get_or counts 3 0) total out sizes (wired ∙ sym k3) (omega (arith, s.limits.wires, k3)) few (ht ∙ rw wires_cut) (ho ∙ rw wires_cut) (hs ∙ rw wires_cut)
