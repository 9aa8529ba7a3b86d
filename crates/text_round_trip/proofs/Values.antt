-- The values of the words of each line.
use Rattle.std.specs.Prelude.{Some}
use Rattle.std.proofs.lemmas.List.{length-map}
use Prim.Native.Nat.{◌<◌, ◌≤◌, suc, ℕ}
use mathlib.Core.Bool.{false, true}
use mathlib.Core.List.{List, [], ◌++◌, ◌∷◌, map}
use mathlib.Core.Logic.{⊎_elim}
use mathlib.Core.Path.{◌≡◌, ap, refl, sym}
use native.Mathlib.Omega.{arith}
use lib.Dec.{eqb}
use lib.ListN.{get_or, get_or-eq_default, length}
use borrow.Author.Tests.{eqb-false, eqb-true}
use Rattle.decimals.proofs.Back.{real_back}
use Rattle.forms.specs.Forms.{token, values}
use Rattle.forms.specs.declared.WordKind.{WordKind}
use Rattle.forms.specs.declared.WordKind.TheVariants.{Signed, Wires}
use Rattle.draft_forms.specs.declared.LineKind.TheVariants.{Edge, Face, Point, Shell}
use Rattle.draft_forms.specs.LineForms.{further_kind, kind_named, line_kind, line_values, word_kinds}
use Rattle.lines.specs.Lines.{signed}
use Rattle.lists.proofs.Count.{All, all_append, all_weaker}
use Rattle.lists.proofs.Laws.{cases}
use Rattle.lists.specs.Lists.{flat}
use Rattle.text.specs.Tokens.{name, name_after}
use Rattle.text_round_trip.proofs.Lines.{Small, edge_words, face_word, face_words, marks, point_words, shell_words}
use Rattle.text_round_trip.proofs.Numbers.{below_is, label_back, number_back, signed_back, use_back_lem}

-- ---- the kinds of the lines

pub point_kind : (k label : ℕ) → line_kind (point_words k label) ≡ Point
unfolding kind_named name name_after
point_kind k label = refl

pub edge_kind : (k front back t0 t1 : ℕ) → line_kind (edge_words k front back t0 t1) ≡ Edge
unfolding kind_named name name_after
edge_kind k front back t0 t1 = refl

pub face_kind : (k surface : ℕ) (wires : List (List ℕ)) → line_kind (face_words k surface wires) ≡ Face
unfolding kind_named name name_after
face_kind k surface wires = refl

pub shell_kind : (k : ℕ) (listings : List ℕ) → line_kind (shell_words k listings) ≡ Shell
unfolding kind_named name name_after
shell_kind k listings = refl

-- ---- points and edges

pub point_values : (k label : ℕ) → k < 1000000000 → label < 4294967296 → line_values (point_words k label) ≡ k ∷ 65536 ∷ label ∷ []
unfolding values token word_kinds further_kind kind_named name name_after
point_values k label h l = rw (number_back k h, label_back label l)

pub edge_values : (k front back t0 t1 : ℕ) → k < 1000000000 → front < 1000000000 → back < 1000000000 → t0 < 18446744073709551616 → t1 < 18446744073709551616
    → line_values (edge_words k front back t0 t1) ≡ k ∷ 65536 ∷ front ∷ 65536 ∷ back ∷ 65536 ∷ t0 ∷ t1 ∷ []
unfolding values token word_kinds further_kind kind_named name name_after
edge_values k front back t0 t1 h f b p q = rw (number_back k h, number_back front f, number_back back b, real_back t0 p, real_back t1 q)

-- ---- any number of words of one kind

past_kinds : (kinds : List WordKind) (rest : WordKind) (i : ℕ) → length kinds ≤ i → get_or (map Some kinds) i (Some rest) ≡ Some rest
past_kinds kinds rest i l = get_or-eq_default (map Some kinds) (Some rest) (simp length-map l)

values_further : (kinds : List WordKind) (rest : WordKind) (g : ℕ → List ℕ) (i : ℕ) → length kinds ≤ i → (vs : List ℕ) → All (λ (v : ℕ). token rest (g v) ≡ Some v) vs
    → values kinds (Some rest) i (map g vs) ≡ vs
unfolding values
values_further kinds rest g i l [] h = refl
values_further kinds rest g i l (v ∷ vs) h =
    rw (past_kinds kinds rest i l, h.0, values_further kinds rest g (suc i) (omega arith) vs h.1)

signed_token : (u : ℕ) → Small u → token Signed (signed u) ≡ Some u
unfolding token
signed_token u h = signed_back u h

pub shell_values : (k : ℕ) (listings : List ℕ) → k < 1000000000 → All Small listings → line_values (shell_words k listings) ≡ k ∷ 65536 ∷ listings
unfolding values token word_kinds further_kind kind_named name name_after
shell_values k listings h l =
    rw (number_back k h)
    (ap (λ (r : List ℕ). k ∷ 65536 ∷ r) (values_further (word_kinds Shell) Signed signed 2 (omega arith) listings (all_weaker Small (λ (u : ℕ). token Signed (signed u) ≡ Some u) signed_token listings l)))

-- ---- faces

face_token : (v : ℕ) → v ≤ 65536 → token Wires (face_word v) ≡ Some v
unfolding token name name_after
face_token v h =
    ⊎_elim
    (λ (e : eqb v 65536 ≡ true). rw e (ap Some (sym (eqb-true v 65536 e))))
    (λ (e : eqb v 65536 ≡ false). let n = eqb-false v 65536 e in rw e (use_back_lem v (lt v n h)))
    (cases (eqb v 65536))
  where
    lt : (v : ℕ) → (v ≡ 65536 → ⊥) → v ≤ 65536 → v < 65536
    lt v n h = omega arith

marks_few : (wires : List (List ℕ)) → All (All Small) wires → All (λ (v : ℕ). v ≤ 65536) (marks wires)
unfolding flat
marks_few [] h = tt
marks_few (us ∷ wires) h = (omega arith, all_append (λ (v : ℕ). v ≤ 65536) us (marks wires) (all_weaker Small (λ (v : ℕ). v ≤ 65536) (λ u l. omega arith) us h.0) (marks_few wires h.1))

wires_values : (wires : List (List ℕ)) → All (All Small) wires → values (word_kinds Face) (Some Wires) 3 (map face_word (marks wires)) ≡ marks wires
unfolding values token word_kinds name name_after flat
wires_values [] h = refl
wires_values (us ∷ wires) h =
    ap (λ (r : List ℕ). 65536 ∷ r)
    (values_further (word_kinds Face) Wires face_word 4 (omega arith) (us ++ marks wires) (all_weaker (λ (v : ℕ). v ≤ 65536) (λ (v : ℕ). token Wires (face_word v) ≡ Some v) face_token (us ++ marks wires) (marks_few (us ∷ wires) h).1))

pub face_values_lem : (k surface : ℕ) (wires : List (List ℕ)) → k < 1000000000 → surface < 65536 → All (All Small) wires
    → line_values (face_words k surface wires) ≡ k ∷ 65536 ∷ surface ∷ marks wires
unfolding values token word_kinds further_kind kind_named name name_after
face_values_lem k surface wires h l s =
    rw (number_back k h, below_is {n = 65536} (number_back surface (omega arith)) l)
    (ap (λ (r : List ℕ). k ∷ 65536 ∷ surface ∷ r) (wires_values wires s))
