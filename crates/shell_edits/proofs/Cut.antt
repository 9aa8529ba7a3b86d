-- Laws of the cut: one wire, the wires of a face, the wires of all faces.
use Prim.Native.Nat.{◌+◌, ◌-◌, ◌<◌, ◌≤◌, suc, ℕ}
use mathlib.Core.Bool.{Bool, ◌&&◌, false, true, true≢false}
use mathlib.Core.List.{List, [], ◌++◌, ◌∷◌, append_assoc, map}
use mathlib.Core.Logic.{◌⊎◌, inl, inr, ⊎_elim}
use mathlib.Core.Path.{◌∙◌, ◌≡◌, ap, refl, sym}
use native.Mathlib.Omega.{arith}
use lib.Dec.{eqb, leb, ltb}
use lib.ListN.{drop, get_or, length, length-append, length-drop, length-take, take}
use lib.Seq.{drop-append-add, get_or-append-add, get_or-append_seam, take-append_seam}
use borrow.Author.Tests.{eq-eqb, eqb-true, le-ltb, lt-leb, lt-ltb, ltb-false, ltb-true, ne_eqb}
use Rattle.edge.specs.Uses.{back_of, edge_number, front_of, turned}
use Rattle.lists.proofs.Alike.{bit_one, count_passes, has_count}
use Rattle.lists.proofs.Count.{All, all_append, all_weaker, bit, count_append, count_map}
use Rattle.lists.proofs.Laws.{cases, eqb_sym, map_tabulate, right_true}
use Rattle.lists.specs.Lists.{count, flat, has, numbers, pick, split, sum, tabulate}
use Rattle.shell.proofs.Chain.{from, to}
use Rattle.shell.proofs.Level.{Level, closed_level}
use Rattle.shell.proofs.Turned.{edge_uses, turned_front}
use Rattle.shell.proofs.Walked.{Ring}
use Rattle.shell.specs.Conditions.{uses_of}
use Rattle.shell_edits.proofs.Accepted.{Ruled, front_longer}
use Rattle.shell_edits.proofs.Wires.{each_drop, each_take}
use Rattle.shell_edits.specs.Edits.{cut_wire, each_wire, halves_of, swap_found}
use Rattle.shell_edits.specs.Theorems.{there_and_back}
use Rattle.wire.specs.Wires.{closed, find_from, runs}

-- ---- one wire

-- a list has a use of the edge
abbrev pub has_edge : ℕ → List ℕ → Bool
has_edge e us = has e (map edge_number us)

-- a number stands among what a function gives exactly if it gives it at least once
pub has_counts : (g : ℕ → ℕ) (x : ℕ) (us : List ℕ) → has x (map g us) ≡ ltb 0 (count (λ (u : ℕ). eqb (g u) x) us)
unfolding has count
has_counts g x [] = refl
has_counts g x (u ∷ us) =
    ⊎_elim
    (λ (e : eqb (g u) x ≡ true). rw (eqb_sym x (g u), e) (sym (lt-ltb 0 (1 + count (λ (v : ℕ). eqb (g v) x) us) (omega arith))))
    (λ (e : eqb (g u) x ≡ false). let z : 0 + count (λ (v : ℕ). eqb (g v) x) us ≡ count (λ (v : ℕ). eqb (g v) x) us = omega arith in rw (eqb_sym x (g u), e, z, has_counts g x us))
    (cases (eqb (g u) x))

-- the cut as one walk along the wire
unfoldable pub cut_first : ℕ → ℕ → List ℕ → List ℕ
cut_first e a [] = []
cut_first e a (u ∷ us) = pick (eqb (edge_number u) e) (halves_of a u ++ us) (u ∷ cut_first e a us)

swap_after : (e a : ℕ) (before us : List ℕ) → swap_found a (before ++ us) (find_from (length before) e us) ≡ before ++ cut_first e a us
unfolding find_from cut_first
swap_after e a before [] = refl
swap_after e a before (u ∷ us) =
    ⊎_elim
    (λ (h : eqb (edge_number u) e ≡ true).
    let z : suc (length before) ≡ length before + 1 = omega arith in
    rw (h, take-append_seam before (u ∷ us), get_or-append_seam before u us 0, z, drop-append-add before (u ∷ us) 1))
    (λ (h : eqb (edge_number u) e ≡ false).
    let z : length before + 1 ≡ length (before ++ (u ∷ [])) = sym (length-append before (u ∷ [])) in
    let y : before ++ (u ∷ us) ≡ (before ++ (u ∷ [])) ++ us = sym (append_assoc before (u ∷ []) us) in
    rw (h, z, y, swap_after e a (before ++ (u ∷ [])) us, append_assoc))
    (cases (eqb (edge_number u) e))

pub cut_first_lem : (e a : ℕ) (us : List ℕ) → cut_wire e a us ≡ cut_first e a us
cut_first_lem e a us = swap_after e a [] us

-- ---- the halves of a use, and how many uses come with a cut
module _ (e a : ℕ) where
  -- the halves of a use, in sequence
  abbrev first_half : ℕ → ℕ
  first_half u = pick (leb 32768 u) (turned (a + 1)) a

  abbrev second_half : ℕ → ℕ
  second_half u = pick (leb 32768 u) (turned a) (a + 1)

  halves_are : (u : ℕ) → halves_of a u ≡ first_half u ∷ second_half u ∷ []
  halves_are u = go (leb 32768 u)
    where
      go : (b : Bool) → pick b (turned (a + 1) ∷ turned a ∷ []) (a ∷ (a + 1) ∷ []) ≡ pick b (turned (a + 1)) a ∷ pick b (turned a) (a + 1) ∷ []
      go true = refl
      go false = refl

  pub length_cut : (us : List ℕ) → length (cut_first e a us) ≡ length us + bit (has_edge e us)
  unfolding cut_first has
  length_cut [] = refl
  length_cut (u ∷ us) =
      ⊎_elim
      (λ (is : eqb (edge_number u) e ≡ true). rw (is, eqb_sym e (edge_number u), is, halves_are u) (omega arith))
      (λ (is : eqb (edge_number u) e ≡ false). rw (is, eqb_sym e (edge_number u), is) (omega (arith, length_cut us)))
      (cases (eqb (edge_number u) e))

  -- some wires are of the shell
  module _ (s : ℕ → Bool) where
    abbrev pub change : ℕ → List ℕ → List ℕ
    change w us = pick (s w) (cut_wire e a us) us

    -- how many wires change; the first has number w
    unfoldable pub changed : ℕ → List (List ℕ) → ℕ
    changed w [] = 0
    changed w (us ∷ ws) = bit (s w && has_edge e us) + changed (suc w) ws

    pub change_none : (w : ℕ) → change w [] ≡ []
    unfolding find_from
    change_none w = go (s w)
      where
        go : (b : Bool) → pick b (swap_found a [] (find_from 0 e [])) [] ≡ []
        go true = refl
        go false = refl

    length_change : (w : ℕ) (us : List ℕ) → length (change w us) ≡ length us + bit (s w && has_edge e us)
    length_change w us = go (s w)
      where
        go : (b : Bool) → length (pick b (cut_wire e a us) us) ≡ length us + bit (b && has_edge e us)
        go true = rw (cut_first_lem e a us) (length_cut us)
        go false = omega arith

    pub length_each : (w : ℕ) (ws : List (List ℕ)) → length (flat (each_wire change w ws)) ≡ length (flat ws) + changed w ws
    unfolding each_wire flat changed
    length_each w [] = refl
    length_each w (us ∷ ws) =
        omega (arith, length-append (change w us) (flat (each_wire change (suc w) ws)), length-append us (flat ws), length_change w us, length_each (suc w) ws)

    -- how many wires change, by their numbers
    pub changed_counted : (w : ℕ) (ws : List (List ℕ)) → changed w ws ≡ count (λ (k : ℕ). s (w + k) && has_edge e (get_or ws k [])) (numbers (length ws))
    unfolding changed count tabulate
    changed_counted w [] = refl
    changed_counted w (us ∷ ws) =
        let q : ℕ → Bool = λ (k : ℕ). s (w + k) && has_edge e (get_or (us ∷ ws) k []) in
        let z : w + 0 ≡ w = omega arith in
        let place : (k : ℕ) → w + suc k ≡ suc w + k = λ k. omega arith in
        let later : count q (tabulate (length ws) (λ (k : ℕ). suc k)) ≡ count (λ (k : ℕ). s (suc w + k) && has_edge e (get_or ws k [])) (numbers (length ws)) =
        ap (count q) (sym (map_tabulate (λ (k : ℕ). suc k) (length ws) (λ (k : ℕ). k)))
        ∙ count_map q (λ (k : ℕ). suc k) (numbers (length ws))
        ∙ λ i. count (λ (k : ℕ). s (place k i) && has_edge e (get_or ws k [])) (numbers (length ws)) in
        rw z (omega (arith, later, changed_counted (suc w) ws))

-- the ends in longer tables: the edges before, then the halves of edge e at point p
module _ (fs bs : List ℕ) (e p : ℕ) where
  abbrev pub cut_fronts : List ℕ
  cut_fronts = fs ++ (get_or fs e 0 ∷ p ∷ [])

  abbrev pub cut_backs : List ℕ
  cut_backs = bs ++ (p ∷ get_or bs e 0 ∷ [])

  -- a use of one of the edges before
  abbrev pub Old : ℕ → Type 0
  Old u = edge_number u < length fs

  pub record Tables : Type 0 where
    pub alike : length bs ≡ length fs
    pub inside : e < length fs
    pub few : length fs + 2 ≤ 32768

  module _ (t : Tables) where
    abbrev a : ℕ
    a = length fs

    -- the records of the halves
    front_first : get_or cut_fronts a 0 ≡ get_or fs e 0
    front_first = get_or-append_seam fs (get_or fs e 0) (p ∷ []) 0

    front_second : get_or cut_fronts (a + 1) 0 ≡ p
    front_second = get_or-append-add fs (get_or fs e 0 ∷ p ∷ []) 1 0

    back_first : get_or cut_backs a 0 ≡ p
    back_first = rw (← t.alike) (get_or-append_seam bs p (get_or bs e 0 ∷ []) 0)

    back_second : get_or cut_backs (a + 1) 0 ≡ get_or bs e 0
    back_second = rw (← t.alike) (get_or-append-add bs (p ∷ get_or bs e 0 ∷ []) 1 0)

    -- the ends of a use that is not reversed, and of one that is
    plain_front : (xs ys : List ℕ) (k : ℕ) → k < 32768 → front_of xs ys k ≡ get_or xs k 0
    unfolding front_of
    plain_front xs ys k h = let z : edge_number k ≡ k = omega arith in rw (lt-leb 32768 k h, z)

    turned_plain : (xs ys : List ℕ) (k : ℕ) → k < 32768 → front_of xs ys (turned k) ≡ get_or ys k 0
    turned_plain xs ys k h = turned_front xs ys k (omega arith) ∙ plain_front ys xs k h

    module _ (u : ℕ) (of : edge_number u ≡ e) where
      use_front_lem : front_of fs bs u ≡ pick (leb 32768 u) (get_or bs e 0) (get_or fs e 0)
      unfolding front_of
      use_front_lem = rw of

      use_back_lem : back_of fs bs u ≡ pick (leb 32768 u) (get_or fs e 0) (get_or bs e 0)
      unfolding front_of
      use_back_lem = rw of

      first_front : front_of cut_fronts cut_backs (first_half e a u) ≡ front_of fs bs u
      first_front = go (leb 32768 u) ∙ sym use_front_lem
        where
          go : (b : Bool) → front_of cut_fronts cut_backs (pick b (turned (a + 1)) a) ≡ pick b (get_or bs e 0) (get_or fs e 0)
          go true = turned_plain cut_fronts cut_backs (a + 1) (omega (arith, t.few)) ∙ back_second
          go false = plain_front cut_fronts cut_backs a (omega (arith, t.few)) ∙ front_first

      first_back : back_of cut_fronts cut_backs (first_half e a u) ≡ p
      first_back = go (leb 32768 u)
        where
          go : (b : Bool) → back_of cut_fronts cut_backs (pick b (turned (a + 1)) a) ≡ p
          go true = turned_plain cut_backs cut_fronts (a + 1) (omega (arith, t.few)) ∙ front_second
          go false = plain_front cut_backs cut_fronts a (omega (arith, t.few)) ∙ back_first

      second_front : front_of cut_fronts cut_backs (second_half e a u) ≡ p
      second_front = go (leb 32768 u)
        where
          go : (b : Bool) → front_of cut_fronts cut_backs (pick b (turned a) (a + 1)) ≡ p
          go true = turned_plain cut_fronts cut_backs a (omega (arith, t.few)) ∙ back_first
          go false = plain_front cut_fronts cut_backs (a + 1) (omega (arith, t.few)) ∙ front_second

      second_back : back_of cut_fronts cut_backs (second_half e a u) ≡ back_of fs bs u
      second_back = go (leb 32768 u) ∙ sym use_back_lem
        where
          go : (b : Bool) → back_of cut_fronts cut_backs (pick b (turned a) (a + 1)) ≡ pick b (get_or fs e 0) (get_or bs e 0)
          go true = turned_plain cut_backs cut_fronts a (omega (arith, t.few)) ∙ front_first
          go false = plain_front cut_backs cut_fronts (a + 1) (omega (arith, t.few)) ∙ back_second

    -- the edge of a half
    half_new : (b : Bool) (k : ℕ) → a ≤ k → k < a + 2 → (a ≤ edge_number (pick b (turned k) k)) × (edge_number (pick b (turned k) k) < a + 2)
    half_new true k l h = let z : edge_number (turned k) ≡ k = rw (lt-leb 32768 k (omega (arith, t.few))) (omega (arith, t.few)) in (omega (arith, z), omega (arith, z))
    half_new false k l h = let z : edge_number k ≡ k = omega (arith, t.few) in (omega (arith, z), omega (arith, z))

    -- an old use
    old_front : (u : ℕ) → Old u → front_of cut_fronts cut_backs u ≡ front_of fs bs u
    old_front u h = front_longer fs bs (get_or fs e 0 ∷ p ∷ []) (p ∷ get_or bs e 0 ∷ []) u h (omega (arith, t.alike))

    old_back : (u : ℕ) → Old u → back_of cut_fronts cut_backs u ≡ back_of fs bs u
    old_back u h = front_longer bs fs (p ∷ get_or bs e 0 ∷ []) (get_or fs e 0 ∷ p ∷ []) u (omega (arith, t.alike)) h

    runs_old : (us : List ℕ) → All Old us → (x y : ℕ) → runs cut_fronts cut_backs x us y ≡ runs fs bs x us y
    unfolding runs
    runs_old [] h x y = refl
    runs_old (u ∷ us) h x y = rw (old_front u h.0, old_back u h.0, runs_old us h.1 (back_of fs bs u) y)

    closed_old : (us : List ℕ) → All Old us → closed cut_fronts cut_backs us ≡ closed fs bs us
    unfolding closed
    closed_old [] h = refl
    closed_old (u ∷ us) h = rw (old_front u h.0, old_back u h.0, runs_old us h.1 (back_of fs bs u) (front_of fs bs u))

    count_old : (q : ℕ) (us : List ℕ) → All Old us → count (from cut_fronts cut_backs q) us ≡ count (from fs bs q) us
    unfolding count
    count_old q [] h = refl
    count_old q (u ∷ us) h = rw (old_front u h.0, count_old q us h.1)

    -- the run over the halves is the run over the use
    halves_run : (u : ℕ) (us : List ℕ) (x y : ℕ) → edge_number u ≡ e → All Old us → runs cut_fronts cut_backs x (halves_of a u ++ us) y ≡ runs fs bs x (u ∷ us) y
    unfolding runs
    halves_run u us x y of h =
        rw (halves_are e a u, first_front u of, first_back u of, second_front u of, second_back u of, eq-eqb p p refl, runs_old us h (back_of fs bs u) y)

    runs_cut : (us : List ℕ) → All Old us → (x y : ℕ) → runs cut_fronts cut_backs x (cut_first e a us) y ≡ runs fs bs x us y
    unfolding cut_first runs
    runs_cut [] h x y = refl
    runs_cut (u ∷ us) h x y =
        ⊎_elim
        (λ (of : eqb (edge_number u) e ≡ true). rw of (halves_run u us x y (eqb-true (edge_number u) e of) h.1))
        (λ (of : eqb (edge_number u) e ≡ false). rw (of, old_front u h.0, old_back u h.0, runs_cut us h.1 (back_of fs bs u) y))
        (cases (eqb (edge_number u) e))

    pub closed_cut : (us : List ℕ) → All Old us → closed cut_fronts cut_backs (cut_first e a us) ≡ closed fs bs us
    unfolding cut_first closed runs
    closed_cut [] h = refl
    closed_cut (u ∷ us) h =
        ⊎_elim
        (λ (is : eqb (edge_number u) e ≡ true).
        let of = eqb-true (edge_number u) e is in
        rw (is, halves_are e a u, first_front u of, first_back u of, second_front u of, second_back u of, eq-eqb p p refl, runs_old us h.1 (back_of fs bs u) (front_of fs bs u)))
        (λ (is : eqb (edge_number u) e ≡ false). rw (is, old_front u h.0, old_back u h.0, runs_cut us h.1 (back_of fs bs u) (front_of fs bs u)))
        (cases (eqb (edge_number u) e))

    -- at the point of the cut one more use begins, if the wire has the edge
    pub count_cut : (q : ℕ) (us : List ℕ) → All Old us → count (from cut_fronts cut_backs q) (cut_first e a us) ≡ count (from fs bs q) us + pick (eqb p q) (bit (has_edge e us)) 0
    unfolding cut_first count has
    count_cut q [] h = none (eqb p q)
      where
        none : (b : Bool) → ◌≡◌ {A = ℕ} 0 (0 + pick b 0 0)
        none true = refl
        none false = refl
    count_cut q (u ∷ us) h =
        ⊎_elim
        (λ (is : eqb (edge_number u) e ≡ true).
        let of = eqb-true (edge_number u) e is in
        rw (is, eqb_sym e (edge_number u), is, halves_are e a u, first_front u of, second_front u of, count_old q us h.1) (one (eqb p q)))
        (λ (is : eqb (edge_number u) e ≡ false).
        rw (is, eqb_sym e (edge_number u), is, old_front u h.0) (omega (arith, count_cut q us h.1)))
        (cases (eqb (edge_number u) e))
      where
        one : (b : Bool) → bit (eqb (front_of fs bs u) q) + (bit b + count (from fs bs q) us) ≡ bit (eqb (front_of fs bs u) q) + count (from fs bs q) us + pick b 1 0
        one true = omega arith
        one false = omega arith

    first_new : (u : ℕ) → (a ≤ edge_number (first_half e a u)) × (edge_number (first_half e a u) < a + 2)
    first_new u = go (leb 32768 u)
      where
        go : (b : Bool) → (a ≤ edge_number (pick b (turned (a + 1)) a)) × (edge_number (pick b (turned (a + 1)) a) < a + 2)
        go true = half_new true (a + 1) (omega arith) (omega arith)
        go false = half_new false a (omega arith) (omega arith)

    second_new : (u : ℕ) → (a ≤ edge_number (second_half e a u)) × (edge_number (second_half e a u) < a + 2)
    second_new u = go (leb 32768 u)
      where
        go : (b : Bool) → (a ≤ edge_number (pick b (turned a) (a + 1))) × (edge_number (pick b (turned a) (a + 1)) < a + 2)
        go true = half_new true a (omega arith) (omega arith)
        go false = half_new false (a + 1) (omega arith) (omega arith)

    -- the wire loses one use of the edge, if it has any
    pub uses_cut : (us : List ℕ) → uses_of (cut_first e a us) e + bit (has_edge e us) ≡ uses_of us e
    unfolding cut_first has uses_of count
    uses_cut [] = refl
    uses_cut (u ∷ us) =
        ⊎_elim
        (λ (is : eqb (edge_number u) e ≡ true).
        let m = ne_eqb (edge_number (first_half e a u)) e (λ z. omega (arith, z, (first_new u).0, t.inside)) in
        let n = ne_eqb (edge_number (second_half e a u)) e (λ z. omega (arith, z, (second_new u).0, t.inside)) in
        rw (is, eqb_sym e (edge_number u), is, halves_are e a u, m, n) (omega arith))
        (λ (is : eqb (edge_number u) e ≡ false). rw (is, eqb_sym e (edge_number u), is) (omega (arith, uses_cut us)))
        (cases (eqb (edge_number u) e))

    -- its uses name old edges or the halves
    abbrev pub OldOrHalf : ℕ → Type 0
    OldOrHalf u = edge_number u < a + 2

    pub old_cut : (us : List ℕ) → All Old us → All OldOrHalf us
    old_cut us h = all_weaker Old OldOrHalf (λ u l. omega arith) us h

    pub named_cut : (us : List ℕ) → All Old us → All OldOrHalf (cut_first e a us)
    unfolding cut_first
    named_cut [] h = tt
    named_cut (u ∷ us) h =
        ⊎_elim
        (λ (is : eqb (edge_number u) e ≡ true). rw (is, halves_are e a u) ((first_new u).1, ((second_new u).1, old_cut us h.1)))
        (λ (is : eqb (edge_number u) e ≡ false). rw is (omega (arith, h.0), named_cut us h.1))
        (cases (eqb (edge_number u) e))

    -- ---- the ends of the edge, where a list has it

    abbrev here : ℕ → List ℕ → ℕ
    here q us = count (from fs bs q) us + count (to fs bs q) us

    ends_met : (us : List ℕ) → has_edge e us ≡ true → (0 < here (get_or fs e 0) us) × (0 < here (get_or bs e 0) us)
    unfolding has count
    ends_met [] h = absurd (true≢false (sym h))
    ends_met (u ∷ us) h =
        ⊎_elim
        (λ (is : eqb (edge_number u) e ≡ true).
        let of = eqb-true (edge_number u) e is in
        rw (use_front_lem u of, use_back_lem u of) (now (leb 32768 u)))
        (λ (is : eqb (edge_number u) e ≡ false).
        let rest : has_edge e us ≡ true = rw (eqb_sym e (edge_number u), is) at h in
        let r = ends_met us rest in (omega (arith, r.0), omega (arith, r.1)))
        (cases (eqb (edge_number u) e))
      where
        now : (b : Bool) →
            (0 < bit (eqb (pick b (get_or bs e 0) (get_or fs e 0)) (get_or fs e 0)) + count (from fs bs (get_or fs e 0)) us + (bit (eqb (pick b (get_or fs e 0) (get_or bs e 0)) (get_or fs e 0)) + count (to fs bs (get_or fs e 0)) us))
            × (0 < bit (eqb (pick b (get_or bs e 0) (get_or fs e 0)) (get_or bs e 0)) + count (from fs bs (get_or bs e 0)) us + (bit (eqb (pick b (get_or fs e 0) (get_or bs e 0)) (get_or bs e 0)) + count (to fs bs (get_or bs e 0)) us))
        now true = (omega (arith, bit_one (get_or fs e 0) (get_or fs e 0) refl), omega (arith, bit_one (get_or bs e 0) (get_or bs e 0) refl))
        now false = (omega (arith, bit_one (get_or fs e 0) (get_or fs e 0) refl), omega (arith, bit_one (get_or bs e 0) (get_or bs e 0) refl))

    -- in a level list, a use begins at each of them
    pub ends_begin : (us : List ℕ) → Level fs bs us → has_edge e us ≡ true → (0 < count (from fs bs (get_or fs e 0)) us) × (0 < count (from fs bs (get_or bs e 0)) us)
    ends_begin us l h =
        let r = ends_met us h in
        (omega (arith, r.0, l (get_or fs e 0)), omega (arith, r.1, l (get_or bs e 0)))

    -- in a simple wire the edge is used once each way at most: it stays in the wire exactly if it was there both ways
    pub back_cut : (us : List ℕ) → All (λ (u : ℕ). u < 65536) us → ((q : ℕ) → count (from fs bs q) us ≤ 1) → has_edge e (cut_first e a us) ≡ there_and_back e us
    unfolding uses_of
    back_cut us small once =
        let one : count (eqb e) us ≤ 1 =
        omega (arith, once (get_or fs e 0), count_passes (from fs bs (get_or fs e 0)) e (eq-eqb (front_of fs bs e) (get_or fs e 0) (plain_front fs bs e (omega (arith, t.inside, t.few)))) us) in
        let other : count (eqb (e + 32768)) us ≤ 1 =
        omega (arith, once (get_or bs e 0), count_passes (from fs bs (get_or bs e 0)) (e + 32768) (eq-eqb (front_of fs bs (e + 32768)) (get_or bs e 0) turned_e) us) in
        has_counts edge_number e (cut_first e a us)
        ∙ rest (has e us) (has (e + 32768) us) (has_edge e us) (uses_of (cut_first e a us) e)
        (has_counts edge_number e us ∙ ap (ltb 0) (both one other))
        (uses_cut us ∙ both one other)
      where
        turned_e : front_of fs bs (e + 32768) ≡ get_or bs e 0
        turned_e = let z : turned e ≡ e + 32768 = rw (lt-leb 32768 e (omega (arith, t.inside, t.few))) in rw z at (turned_plain fs bs e (omega (arith, t.inside, t.few)))

        both : count (eqb e) us ≤ 1 → count (eqb (e + 32768)) us ≤ 1 → uses_of us e ≡ bit (has e us) + bit (has (e + 32768) us)
        both one other = omega (arith, edge_uses us small e (omega (arith, t.inside, t.few)), has_count e us one, has_count (e + 32768) us other)

        rest : (x y h : Bool) (m : ℕ) → h ≡ ltb 0 (bit x + bit y) → m + bit h ≡ bit x + bit y → ltb 0 m ≡ (x && y)
        rest true true h m g s = let z : m + 1 ≡ 2 = rw g at s in lt-ltb 0 m (omega (arith, z))
        rest true false h m g s = let z : m + 1 ≡ 1 = rw g at s in le-ltb 0 m (omega (arith, z))
        rest false true h m g s = let z : m + 1 ≡ 1 = rw g at s in le-ltb 0 m (omega (arith, z))
        rest false false h m g s = let z : m + 0 ≡ 0 = rw g at s in le-ltb 0 m (omega (arith, z))

    -- ---- the wires of a face, of which some are of the shell
    module _ (s : ℕ → Bool) where
      count_change : (w q : ℕ) (us : List ℕ) → All Old us → count (from cut_fronts cut_backs q) (change e a s w us) ≡ count (from fs bs q) us + pick (eqb p q) (bit (s w && has_edge e us)) 0
      count_change w q us h = go (s w)
        where
          go : (b : Bool) → count (from cut_fronts cut_backs q) (pick b (cut_wire e a us) us) ≡ count (from fs bs q) us + pick (eqb p q) (bit (b && has_edge e us)) 0
          go true = rw (cut_first_lem e a us) (count_cut q us h)
          go false = rw (count_old q us h) (none (eqb p q))
            where
              none : (b : Bool) → count (from fs bs q) us ≡ count (from fs bs q) us + pick b 0 0
              none true = omega arith
              none false = omega arith

      ring_change : (w : ℕ) (us : List ℕ) → All Old us → Ring fs bs us → Ring cut_fronts cut_backs (change e a s w us)
      ring_change w us h r = (omega (arith, length_change e a s w us, r.0), go (s w))
        where
          go : (b : Bool) → closed cut_fronts cut_backs (pick b (cut_wire e a us) us) ≡ true
          go true = rw (cut_first_lem e a us, closed_cut us h) r.1
          go false = rw (closed_old us h) r.1

      named_change : (w : ℕ) (us : List ℕ) → All Old us → All OldOrHalf (change e a s w us)
      named_change w us h = go (s w)
        where
          go : (b : Bool) → All OldOrHalf (pick b (cut_wire e a us) us)
          go true = rw (cut_first_lem e a us) (named_cut us h)
          go false = old_cut us h

      pub named_each : (w : ℕ) (ws : List (List ℕ)) → All (All Old) ws → All OldOrHalf (flat (each_wire (change e a s) w ws))
      unfolding each_wire flat
      named_each w [] h = tt
      named_each w (us ∷ ws) h = all_append OldOrHalf (change e a s w us) (flat (each_wire (change e a s) (suc w) ws)) (named_change w us h.0) (named_each (suc w) ws h.1)

      rings_each : (w : ℕ) (ws : List (List ℕ)) → All (All Old) ws → All (Ring fs bs) ws → All (Ring cut_fronts cut_backs) (each_wire (change e a s) w ws)
      unfolding each_wire
      rings_each w [] h r = tt
      rings_each w (us ∷ ws) h r = (ring_change w us h.0 r.0, rings_each (suc w) ws h.1 r.1)

      count_each : (w q : ℕ) (ws : List (List ℕ)) → All (All Old) ws
          → count (from cut_fronts cut_backs q) (flat (each_wire (change e a s) w ws)) ≡ count (from fs bs q) (flat ws) + pick (eqb p q) (changed e a s w ws) 0
      unfolding each_wire flat changed count
      count_each w q [] h = none (eqb p q)
        where
          none : (b : Bool) → ◌≡◌ {A = ℕ} 0 (0 + pick b 0 0)
          none true = refl
          none false = refl
      count_each w q (us ∷ ws) h =
          omega (
            arith,
            count_append (from cut_fronts cut_backs q) (change e a s w us) (flat (each_wire (change e a s) (suc w) ws)),
            count_append (from fs bs q) us (flat ws),
            count_change w q us h.0,
            count_each (suc w) q ws h.1,
            both (eqb p q) (bit (s w && has_edge e us)) (changed e a s (suc w) ws),
          )
        where
          both : (b : Bool) (m n : ℕ) → pick b (m + n) 0 ≡ pick b m 0 + pick b n 0
          both true m n = refl
          both false m n = refl

      -- each of them has a use that begins at the edge's front
      changed_few : (w : ℕ) (ws : List (List ℕ)) → All (Ring fs bs) ws → changed e a s w ws ≤ count (from fs bs (get_or fs e 0)) (flat ws)
      unfolding flat changed
      changed_few w [] r = omega arith
      changed_few w (us ∷ ws) r =
          omega (arith, count_append (from fs bs (get_or fs e 0)) us (flat ws), changed_few (suc w) ws r.1, one (cases (s w && has_edge e us)))
        where
          one : (s w && has_edge e us ≡ true) ⊎ (s w && has_edge e us ≡ false) → bit (s w && has_edge e us) ≤ count (from fs bs (get_or fs e 0)) us
          one (inl h) = rw h (omega (arith, (ends_begin us (closed_level fs bs us r.0.1) (right_true (s w) (has_edge e us) h)).0))
          one (inr h) = rw h (omega arith)

      -- if one changes, it is of the shell
      some_changed : (X : Type 0) (w : ℕ) (ws : List (List ℕ)) → 0 < changed e a s w ws → ((k : ℕ) → k < length ws → s (w + k) ≡ true → X) → X
      unfolding changed
      some_changed X w [] l h = absurd (omega arith)
      some_changed X w (us ∷ ws) l h =
          ⊎_elim
          (λ (is : s w ≡ true). let z : w + 0 ≡ w = omega arith in h 0 (omega arith) (rw z is))
          (λ (is : s w ≡ false).
          let more : 0 < 0 + changed e a s (suc w) ws = rw is at l in
          some_changed X (suc w) ws (omega (arith, more)) (λ k m t. let z : w + suc k ≡ suc w + k = omega arith in h (suc k) (omega arith) (rw z t)))
          (cases (s w))

      -- at most one wire of a face changes, and the point is new to the face
      face_cut : (w : ℕ) (ws : List (List ℕ)) → All (All Old) ws → Ruled fs bs ws → ((k : ℕ) → k < length ws → s (w + k) ≡ true → count (from fs bs p) (flat ws) ≡ 0)
          → Ruled cut_fronts cut_backs (each_wire (change e a s) w ws)
      face_cut w ws h r fresh = record { rings = rings_each w ws h r.rings; once = λ q. once q (cases (eqb p q)) (cases (ltb 0 (changed e a s w ws))) }
        where
          once : (q : ℕ) → (eqb p q ≡ true) ⊎ (eqb p q ≡ false) → (ltb 0 (changed e a s w ws) ≡ true) ⊎ (ltb 0 (changed e a s w ws) ≡ false) → count (from cut_fronts cut_backs q) (flat (each_wire (change e a s) w ws)) ≤ 1
          once q (inl is) (inl more) =
              let z : count (from fs bs q) (flat ws) ≡ 0 = rw (eqb-true p q is) at (some_changed (count (from fs bs p) (flat ws) ≡ 0) w ws (ltb-true 0 (changed e a s w ws) more) fresh) in
              let c : count (from cut_fronts cut_backs q) (flat (each_wire (change e a s) w ws)) ≡ count (from fs bs q) (flat ws) + changed e a s w ws = rw is at (count_each w q ws h) in
              omega (arith, c, z, changed_few w ws r.rings, r.once (get_or fs e 0))
          once q (inl is) (inr none) =
              let c : count (from cut_fronts cut_backs q) (flat (each_wire (change e a s) w ws)) ≡ count (from fs bs q) (flat ws) + changed e a s w ws = rw is at (count_each w q ws h) in
              omega (arith, c, ltb-false 0 (changed e a s w ws) none, r.once q)
          once q (inr is) _ =
              let c : count (from cut_fronts cut_backs q) (flat (each_wire (change e a s) w ws)) ≡ count (from fs bs q) (flat ws) + 0 = rw is at (count_each w q ws h) in
              omega (arith, c, r.once q)

      -- ---- face by face
      pub faces_cut : (counts : List ℕ) (w : ℕ) (ws : List (List ℕ)) → sum counts ≤ length ws → All (All (All Old)) (split counts ws) → All (Ruled fs bs) (split counts ws)
          → ((f k : ℕ) → k < get_or counts f 0 → s (w + sum (take f counts) + k) ≡ true → count (from fs bs p) (flat (get_or (split counts ws) f [])) ≡ 0)
          → All (Ruled cut_fronts cut_backs) (split counts (each_wire (change e a s) w ws))
      unfolding split sum
      faces_cut [] w ws l h r fresh = tt
      faces_cut (n ∷ ns) w ws l h r fresh =
          let first : (k : ℕ) → k < length (take n ws) → s (w + k) ≡ true → count (from fs bs p) (flat (take n ws)) ≡ 0 =
          λ k b t. let z : w + 0 + k ≡ w + k = omega arith in fresh 0 k (omega (arith, b, length-take n ws)) (rw z t) in
          let rest : (f k : ℕ) → k < get_or ns f 0 → s (w + n + sum (take f ns) + k) ≡ true → count (from fs bs p) (flat (get_or (split ns (drop n ws)) f [])) ≡ 0 =
          λ f k b t. let z : w + (n + sum (take f ns)) + k ≡ w + n + sum (take f ns) + k = omega arith in fresh (suc f) k b (rw z t) in
          rw (each_take (change e a s) n w ws, each_drop (change e a s) n w ws (omega arith)) (
            face_cut w (take n ws) h.0 r.0 first,
            faces_cut ns (w + n) (drop n ws) (omega (arith, length-drop n ws)) h.1 r.1 rest,
          )
