-- The wires with a flag: of lists one after the other, of a run of numbers, of faces, of listings.
use Prim.Native.Nat.{◌*◌, ◌+◌, ◌-◌, ◌<◌, ◌≤◌, suc, zero, ℕ}
use mathlib.Core.Bool.{Bool, false, true}
use mathlib.Core.List.{List, [], ◌++◌, ◌∷◌, append-nil, map}
use mathlib.Core.Path.{◌∙◌, ◌≡◌, ap, refl, sym}
use native.Mathlib.Numerals.{add-one}
use native.Mathlib.Omega.{arith}
use lib.Dec.{eqb}
use lib.ListN.{get_or-map, drop, get_or, length, length-append, length-drop, length-replicate, length-take, replicate, set, take}
use lib.Seq.{get_or-append-add, get_or-drop, get_or-take, length-take-le, take_all}
use borrow.Author.Tests.{ne_eqb}
use Rattle.lists.proofs.Flat.{get_d_tabulate, tabulate_of}
use Rattle.lists.proofs.Laws.{Filling, filling_next, filling_padded, filling_start, length_split, length_tabulate, map_tabulate, tabulate_get_d, tabulate_suc}
use Rattle.lists.proofs.Parts.{length_only, only_append}
use Rattle.lists.proofs.Sets.{flat_next}
use Rattle.lists.proofs.Split.{Walk, get_d_split, walk_fits, walk_next, walk_part, walk_start}
use Rattle.lists.specs.Lists.{flat, numbers, only, padded, pick, split, sum, tabulate}
use Rattle.remove_vertex_corners.specs.Endings.{ending_of, flagged, followed, no_ending}
use Rattle.remove_vertex_corners.specs.declared.Ending.{Ending}
use Rattle.shell.specs.Shells.{face_number}
use Rattle.shell_edits.specs.Edits.{first_wire, last_wire, listed_wires}

-- ---- two lists, one after the other
first_append : (xs ys : List ℕ) → first_wire (xs ++ ys) ≡ pick (eqb (length xs) 0) (first_wire ys) (first_wire xs)
first_append [] ys = refl
first_append (x ∷ xs) ys = rw (ne_eqb (suc (length xs)) 0 (λ e. omega (arith, e)))

last_append : (xs ys : List ℕ) → last_wire (xs ++ ys) ≡ pick (eqb (length ys) 0) (last_wire xs) (last_wire ys)
last_append xs [] = ap last_wire (append-nil xs)
last_append xs (y ∷ ys) =
    let e : length (xs ++ (y ∷ ys)) - 1 ≡ length xs + length ys = omega (arith, length-append xs (y ∷ ys)) in
    let f : suc (length ys) - 1 ≡ length ys = omega arith in
    rw (e, f, ne_eqb (suc (length ys)) 0 (λ e. omega (arith, e))) (get_or-append-add xs (y ∷ ys) (length ys) 0)

pub ending_append : (xs ys : List ℕ) → ending_of (xs ++ ys) ≡ followed (ending_of xs) (ending_of ys)
ending_append xs ys = rw (last_append xs ys, first_append xs ys, length-append xs ys)

-- the same, of what the code has for each
pub ending_then : (xs ys : List ℕ) {e d r : Ending} → e ≡ ending_of xs → d ≡ ending_of ys → r ≡ followed e d → r ≡ ending_of (xs ++ ys)
ending_then xs ys a b h = rw (a, b) at h ∙ sym (ending_append xs ys)

-- ---- a run of numbers
abbrev run : ℕ → ℕ → List ℕ
run start n = tabulate n (λ (k : ℕ). start + k)

flagged_one : (flags : List Bool) (w : ℕ) → flagged flags (w ∷ []) ≡ pick (get_or flags w false) (w ∷ []) []
unfolding only
flagged_one flags w = append-nil (pick (get_or flags w false) (w ∷ []) [])

pub one_few : (b : Bool) (w : ℕ) {d : Ending} → d ≡ ending_of (pick b (w ∷ []) []) → d.number ≤ 1
one_few true w e = let h = ap (λ (r : Ending). r.number) e in omega (arith, h)
one_few false w e = let h = ap (λ (r : Ending). r.number) e in omega (arith, h)

-- a loop over them: what it has after k turns
pub record Among (flags : List Bool) (start n : ℕ) (e : Ending) (k : ℕ) : Type 0 where
  pub low : k ≤ n
  pub is : e ≡ ending_of (flagged flags (run start k))

module _ (flags : List Bool) (start n : ℕ) where
  pub among_start : Among flags start n no_ending 0
  unfolding tabulate only
  among_start = record { low = omega arith; is = refl }

  module _ {e : Ending} {k : ℕ} (s : Among flags start n e k) where
    pub among_few : e.number ≤ k
    among_few =
        let number : e.number ≡ length (flagged flags (run start k)) = ap (λ (r : Ending). r.number) s.is in
        omega (arith, length_only (λ (w : ℕ). get_or flags w false) (run start k), length_tabulate k (λ (j : ℕ). start + j))

    pub among_next : k < n → {d r : Ending} → d ≡ ending_of (pick (get_or flags (start + k) false) ((start + k) ∷ []) []) → r ≡ followed e d → Among flags start n r (k + 1)
    among_next h {d} {r} a b =
        let q : ℕ → Bool = λ (w : ℕ). get_or flags w false in
        let part : run start (k + 1) ≡ run start k ++ ((start + k) ∷ []) = rw add-one (tabulate_suc k (λ (j : ℕ). start + j)) in
        let split : flagged flags (run start (k + 1)) ≡ flagged flags (run start k) ++ pick (get_or flags (start + k) false) ((start + k) ∷ []) [] =
        rw part (rw (flagged_one flags (start + k)) at (only_append q (run start k) ((start + k) ∷ []))) in
        record { low = omega arith; is = rw split (ending_then (flagged flags (run start k)) (pick (get_or flags (start + k) false) ((start + k) ∷ []) []) s.is a b) }

    pub among_all : n ≤ k → e ≡ ending_of (flagged flags (run start n))
    among_all h = let z : k ≡ n = omega (arith, s.low) in rw z at s.is

-- ---- faces
numbers_part : (m at n : ℕ) → at + n ≤ m → run at n ≡ take n (drop at (numbers m))
numbers_part m at n h =
    let xs = take n (drop at (numbers m)) in
    let long : length xs ≡ n = length-take-le n (drop at (numbers m)) (omega (arith, length-drop at (numbers m), length_tabulate m (λ (k : ℕ). k))) in
    let same : tabulate (length xs) (λ (k : ℕ). at + k) ≡ xs =
    tabulate_of xs 0 (λ (k : ℕ). at + k)
    (λ k l.
    let b : k < n = omega (arith, long) in
    sym (get_or-take n (drop at (numbers m)) k 0 b ∙ get_or-drop at (numbers m) k 0 ∙ get_d_tabulate m (λ (j : ℕ). j) (at + k) 0 (omega arith))) in
    rw long at same

module _ (flags : List Bool) (counts : List ℕ) where
  -- the wires of face f
  abbrev wires_of : ℕ → List ℕ
  wires_of f = get_or (split counts (numbers (sum counts))) f []

  abbrev end_of : ℕ → Ending
  end_of f = ending_of (flagged flags (wires_of f))

  pub record Faces (out : List Ending) (f at : ℕ) : Type 0 where
    pub walk : Walk counts f at
    pub filling : Filling end_of (replicate 256 no_ending) out f

  pub faces_start : Faces (replicate 256 no_ending) 0 0
  faces_start = record { walk = walk_start counts; filling = filling_start end_of (replicate 256 no_ending) }

  module _ {out : List Ending} {f at : ℕ} (s : Faces out f at) where
    pub faces_next : f < length counts → length counts ≤ 256 → {n : ℕ} {e : Ending} → n ≡ get_or counts f 0 → e ≡ ending_of (flagged flags (tabulate n (λ (k : ℕ). at + k)))
        → Faces (set out f e) (f + 1) (at + n)
    faces_next h l {n} {e} is a =
        let z : at + n - at ≡ n = omega arith in
        let part : run at n ≡ wires_of f =
        numbers_part (sum counts) at n (walk_fits counts f at n s.walk h is) ∙ sym (rw z at (walk_part counts f at n s.walk h is (numbers (sum counts)))) in
        record {
          walk = walk_next counts f at n s.walk h is;
          filling = filling_next end_of no_ending (replicate 256 no_ending) out f e s.filling (omega (arith, length-replicate 256 no_ending)) (rw part at a);
        }

    pub faces_all : length counts ≤ f → out ≡ padded 256 no_ending (map (λ (ws : List ℕ). ending_of (flagged flags ws)) (split counts (numbers (sum counts))))
    faces_all h =
        let xs = split counts (numbers (sum counts)) in
        let e : f ≡ length xs = omega (arith, s.walk.low, length_split counts (numbers (sum counts))) in
        let g : List ℕ → Ending = λ (ws : List ℕ). ending_of (flagged flags ws) in
        let same : tabulate f end_of ≡ map g xs =
        rw e (sym (map_tabulate g (length xs) (λ (k : ℕ). get_or xs k [])) ∙ ap (map g) (tabulate_get_d xs [])) in
        filling_padded end_of no_ending 256 out f s.filling ∙ ap (padded 256 no_ending) same

-- what stands past a list that is padded
pub get_d_padded {ℓ} : {A : Type ℓ} (n : ℕ) (d : A) (xs : List A) (k : ℕ) → get_or (xs ++ replicate n d) k d ≡ get_or xs k d
get_d_padded zero d [] k = refl
get_d_padded (suc n) d [] zero = refl
get_d_padded (suc n) d [] (suc k) = get_d_padded n d [] k
get_d_padded n d (x ∷ xs) zero = refl
get_d_padded n d (x ∷ xs) (suc k) = get_d_padded n d xs k

-- ---- listings
module _ (flags : List Bool) (counts : List ℕ) where
  abbrev pub FacesMade : List Ending → Type 0
  FacesMade ends = ends ≡ padded 256 no_ending (map (λ (ws : List ℕ). ending_of (flagged flags ws)) (split counts (numbers (sum counts))))

  end_is : (ends : List Ending) → FacesMade ends → (f : ℕ) → get_or ends f no_ending ≡ end_of flags counts f
  unfolding only
  end_is ends made f =
      let xs = split counts (numbers (sum counts)) in
      let g : List ℕ → Ending = λ (ws : List ℕ). ending_of (flagged flags ws) in
      ap (λ (r : List Ending). get_or r f no_ending) made ∙ get_d_padded (256 - length (map g xs)) no_ending (map g xs) f ∙ get_or-map g xs f []

  -- a face has no more wires than there are
  pub end_few : (ends : List Ending) → FacesMade ends → (f : ℕ) → (get_or ends f no_ending).number ≤ sum counts
  end_few ends made f =
      let xs = numbers (sum counts) in
      let part = drop (sum (take f counts)) xs in
      let number : (get_or ends f no_ending).number ≡ length (flagged flags (wires_of flags counts f)) = ap (λ (r : Ending). r.number) (end_is ends made f) in
      omega (
        arith,
        length_only (λ (w : ℕ). get_or flags w false) (wires_of flags counts f),
        ap length (get_d_split counts xs f),
        length-take (get_or counts f 0) part,
        length-drop (sum (take f counts)) xs,
        length_tabulate (sum counts) (λ (k : ℕ). k),
      )

  module _ (ls : List ℕ) where
    abbrev listed : ℕ → List ℕ
    listed l = wires_of flags counts (face_number l)

    abbrev so_far : ℕ → List ℕ
    so_far k = flagged flags (flat (map listed (take k ls)))

    -- a loop over them: what it has after k turns
    pub record Listed (e : Ending) (k : ℕ) : Type 0 where
      pub low : k ≤ length ls
      pub few : e.number ≤ 1024 * k
      pub is : e ≡ ending_of (so_far k)

    pub listed_start : Listed no_ending 0
    unfolding flat only
    listed_start = record { low = omega arith; few = omega arith; is = refl }

    module _ {e : Ending} {k : ℕ} (s : Listed e k) where
      pub listed_next : k < length ls → sum counts ≤ 1024 → (ends : List Ending) → FacesMade ends → {f : ℕ} {r : Ending} → f ≡ face_number (get_or ls k 0)
          → r ≡ followed e (get_or ends f no_ending) → Listed r (k + 1)
      listed_next h l ends made {f} {r} is b =
          let q : ℕ → Bool = λ (w : ℕ). get_or flags w false in
          let here = wires_of flags counts f in
          let parts : so_far (k + 1) ≡ so_far k ++ flagged flags here =
          rw (add-one, flat_next listed ls k 0 h, is) (only_append q (flat (map listed (take k ls))) (listed (get_or ls k 0))) in
          let number : r.number ≡ e.number + (get_or ends f no_ending).number = ap (λ (x : Ending). x.number) b in
          record {
            low = omega arith;
            few = omega (arith, s.few, end_few ends made f);
            is = rw parts (ending_then (so_far k) (flagged flags here) s.is (end_is ends made f) b);
          }

      pub listed_all : length ls ≤ k → e ≡ ending_of (flagged flags (listed_wires counts (sum counts) ls))
      unfolding listed_wires
      listed_all h = rw (take_all k ls h) at s.is
