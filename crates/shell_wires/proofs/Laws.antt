-- Laws of the flags: of faces, of the listings that name them, of their wires.
use Prim.Native.Nat.{◌+◌, ◌<◌, ◌≤◌, suc, zero, ℕ}
use mathlib.Core.Bool.{Bool, ◌&&◌, ◌||◌, false, not, or-false, or-true, true}
use mathlib.Core.List.{List, [], ◌++◌, ◌∷◌, append_assoc, map, map-append}
use mathlib.Core.Logic.{⊎_elim}
use mathlib.Core.Path.{◌∙◌, ◌≡◌, ap, refl, sym}
use native.Mathlib.Nat.{suc-add, zero-add, zero-lt-suc}
use native.Mathlib.Numerals.{add-one}
use native.Mathlib.Omega.{arith}
use lib.Dec.{eqb, ltb}
use lib.ListN.{drop, drop_of_length-le, get_or, length, length-append, length-drop, length-take, length-replicate, length-set, replicate, set, take}
use lib.Seq.{drop-cons, drop-drop, ext_get_or, get_or-drop, get_or-set_other, get_or-set_same, get_or-take, length-sets, length-take-le, sets, sets-eq, take_all, take-suc, take-take}
use borrow.Rule.Slice.PartMut.{put_mid}
use borrow.Author.Tests.{eqb-false, eqb-true, ltb-false, ltb-true, ne_eqb}
use Rattle.lists.proofs.Flat.{get_d_tabulate, tabulate_ext}
use Rattle.lists.proofs.Laws.{cases, drop_replicate, flat_append, has_append, length_tabulate, map_tabulate, sum_next, sum_take_drop, tabulate_suc}
use Rattle.lists.proofs.Marks.{disjoint_append, disjoint_nil, disjoint_one}
use Rattle.lists.proofs.Parts.{flat_one, flat_split}
use Rattle.lists.proofs.Sets.{sets_append}
use Rattle.lists.proofs.Split.{Walk, drop_split, get_d_split, split_take, take_split, walk_fits, walk_next, walk_start}
use Rattle.lists.specs.Lists.{disjoint, flat, has, numbers, padded, split, sum, tabulate}
use Rattle.shell.specs.Shells.{face_number}
use Rattle.shell_edits.specs.Edits.{listed_wires}
use Rattle.shell_wires.specs.Flags.{NameFaces, lists_flagged, wire_flags}

-- ---- flags of faces

-- a flag for each of the first n numbers that stands in the list
abbrev pub flags_of : ℕ → List ℕ → List Bool
flags_of n xs = tabulate n (λ (k : ℕ). has k xs)

tabulate_same {ℓ} : {A : Type ℓ} (n : ℕ) (f : ℕ → A) (d : A) → ((k : ℕ) → k < n → f k ≡ d) → tabulate n f ≡ replicate n d
unfolding tabulate
tabulate_same zero f d e = refl
tabulate_same (suc n) f d e =
    rw (e 0 (zero-lt-suc n), tabulate_same n (λ (k : ℕ). f (suc k)) d (λ k h. e (suc k) (omega arith)))

flags_none : (n : ℕ) → replicate n false ≡ flags_of n []
unfolding has
flags_none n = sym (tabulate_same n (λ (k : ℕ). false) false (λ k h. refl))

-- one more number
flags_set : (n : ℕ) (xs : List ℕ) (x : ℕ) → x < n → set (flags_of n xs) x true ≡ flags_of n (xs ++ (x ∷ []))
unfolding has
flags_set n xs x h =
    let long : length (flags_of n xs) ≡ n = length_tabulate n (λ (k : ℕ). has k xs) in
    ext_get_or false (set (flags_of n xs) x true) (flags_of n (xs ++ (x ∷ [])))
    (length-set (flags_of n xs) x true ∙ long ∙ sym (length_tabulate n (λ (k : ℕ). has k (xs ++ (x ∷ [])))))
    (λ i l.
    let b : i < n = omega (arith, l, length-set (flags_of n xs) x true, long) in
    rw (get_d_tabulate n (λ (k : ℕ). has k (xs ++ (x ∷ []))) i false b, has_append i xs (x ∷ []))
    (⊎_elim
    (λ (e : eqb i x ≡ true). rw (e, eqb-true i x e, get_or-set_same (flags_of n xs) x true false (omega (arith, long))) (sym (or-true (has x xs))))
    (λ (e : eqb i x ≡ false).
    rw (e, get_or-set_other (flags_of n xs) x i true false (eqb-false i x e), get_d_tabulate n (λ (k : ℕ). has k xs) i false b) (sym (or-false (has i xs))))
    (cases (eqb i x))))

-- a loop that sets the flag of each listing's face: what it holds after k turns
pub record Flagging (ls : List ℕ) (out : List Bool) (k : ℕ) : Type 0 where
  pub low : k ≤ length ls
  pub is : out ≡ flags_of 256 (map face_number (take k ls))

pub flagging_start : (ls : List ℕ) → Flagging ls (replicate 256 false) 0
flagging_start ls = record { low = omega arith; is = flags_none 256 }

module _ (ls : List ℕ) (out : List Bool) (k : ℕ) (s : Flagging ls out k) where
  pub flagging_next : (f : ℕ) → k < length ls → f ≡ face_number (get_or ls k 0) → f < 256 → Flagging ls (set out f true) (k + 1)
  flagging_next f h e b =
      let names : map face_number (take (k + 1) ls) ≡ map face_number (take k ls) ++ (f ∷ []) =
      rw (add-one, take-suc {A = ℕ} ls k 0 h, e) (map-append face_number (take k ls) (get_or ls k 0 ∷ [])) in
      record { low = omega arith; is = rw (names, s.is) (flags_set 256 (map face_number (take k ls)) f b) }

  pub flagging_all : length ls ≤ k → out ≡ flags_of 256 (map face_number ls)
  flagging_all h = s.is ∙ rw (take_all k ls h)

-- ---- listings

-- a part of listings that name faces
pub names_first : (ls : List ℕ) (i : ℕ) → NameFaces ls → NameFaces (take i ls)
names_first ls i names k b =
    let c : k < i = omega (arith, length-take i ls) in
    rw (get_or-take i ls k 0 c) (names k (omega (arith, length-take i ls)))

pub names_rest : (ls : List ℕ) (i : ℕ) → NameFaces ls → NameFaces (drop i ls)
names_rest ls i names k b = rw (get_or-drop i ls k 0) (names (i + k) (omega (arith, length-drop i ls)))

-- a loop over listings has met no flag yet
pub record Looking (flags : List Bool) (ls : List ℕ) (k : ℕ) : Type 0 where
  pub low : k ≤ length ls
  pub rest : lists_flagged flags ls ≡ lists_flagged flags (drop k ls)

pub looking_start : (flags : List Bool) (ls : List ℕ) → Looking flags ls 0
looking_start flags ls = record { low = omega arith; rest = refl }

module _ (flags : List Bool) (ls : List ℕ) (k : ℕ) (s : Looking flags ls k) where
  module _ (f : ℕ) (h : k < length ls) (e : f ≡ face_number (get_or ls k 0)) where
    looking_here : lists_flagged flags ls ≡ (get_or flags f false || lists_flagged flags (drop (suc k) ls))
    unfolding lists_flagged
    looking_here = s.rest ∙ rw (drop-cons {A = ℕ} ls k 0 h, e)

    pub looking_next : get_or flags f false ≡ false → Looking flags ls (k + 1)
    looking_next b = record { low = omega arith; rest = rw (add-one, looking_here, b) }

    pub looking_stop : get_or flags f false ≡ true → true ≡ lists_flagged flags ls
    looking_stop b = rw (looking_here, b)

  pub looking_all : length ls ≤ k → false ≡ lists_flagged flags ls
  unfolding lists_flagged
  looking_all h = rw (s.rest, drop_of_length-le ls h)

pub lists_append : (flags : List Bool) (xs ys : List ℕ) → lists_flagged flags (xs ++ ys) ≡ (lists_flagged flags xs || lists_flagged flags ys)
unfolding lists_flagged
lists_append flags [] ys = refl
lists_append flags (x ∷ xs) ys = rw (lists_append flags xs ys) (assoc (get_or flags (face_number x) false))
  where
    assoc : (a : Bool) → (a || (lists_flagged flags xs || lists_flagged flags ys)) ≡ ((a || lists_flagged flags xs) || lists_flagged flags ys)
    assoc true = refl
    assoc false = refl

-- some listings, then others
module _ (flags : List Bool) (xs ys : List ℕ) {a : Bool} (first : a ≡ lists_flagged flags xs) where
  pub outside_first : a ≡ true → true ≡ lists_flagged flags (xs ++ ys)
  outside_first t = rw (lists_append flags xs ys, ← first, t)

  pub outside_last : {b : Bool} → a ≡ false → b ≡ lists_flagged flags ys → b ≡ lists_flagged flags (xs ++ ys)
  outside_last t last = rw (lists_append flags xs ys, ← first, t) last

not_and : (a b c : Bool) → b ≡ not c → (a || b) ≡ not (not a && c)
not_and true b c e = refl
not_and false b c e = e

-- with a flag for each face in a list: some listing names one of them
pub lists_shared : (fs ls : List ℕ) → NameFaces ls → lists_flagged (flags_of 256 fs) ls ≡ not (disjoint fs (map face_number ls))
unfolding lists_flagged
lists_shared fs [] h = rw (disjoint_nil fs)
lists_shared fs (l ∷ ls) h =
    rw (
      get_d_tabulate 256 (λ (k : ℕ). has k fs) (face_number l) false (h 0 (omega arith)),
      disjoint_append fs (face_number l ∷ []) (map face_number ls),
      disjoint_one fs (face_number l),
    )
    (not_and (has (face_number l) fs) _ (disjoint fs (map face_number ls)) (lists_shared fs ls (λ k b. h (suc k) (omega arith))))

-- all parts but part n: what stands before it, and what stands after it
pub others_are {ℓ} : {A : Type ℓ} (ns : List ℕ) (xs : List A) (n : ℕ) → sum ns ≡ length xs
    → flat (take n (split ns xs) ++ drop (suc n) (split ns xs)) ≡ take (sum (take n ns)) xs ++ drop (sum (take (suc n) ns)) xs
others_are ns xs n e =
    let a = sum (take n ns) in
    let b = sum (take (suc n) ns) in
    let first : flat (take n (split ns xs)) ≡ take a xs =
    rw (take_split n ns xs, ← split_take (take n ns) a xs (omega arith))
    (flat_split (take n ns) (take a xs) (sym (length-take-le a xs (omega (arith, sum_take_drop n ns))))) in
    let last : flat (drop (suc n) (split ns xs)) ≡ drop b xs =
    rw (drop_split (suc n) ns xs)
    (flat_split (drop (suc n) ns) (drop b xs) (omega (arith, length-drop b xs, sum_take_drop (suc n) ns))) in
    rw (flat_append (take n (split ns xs)) (drop (suc n) (split ns xs)), first, last)

-- ---- flags of wires

-- a flag is written n times from `at` on
pub put_all : (l : List Bool) (at n : ℕ) (b : Bool) (m : ℕ) (out : List Bool) → at + n ≤ length l → m ≡ n → out ≡ replicate n b → put_mid at m l out ≡ sets l at (replicate n b)
put_all l at n b m out h e o =
    rw (e, o, drop-drop n at l, sets-eq (replicate n b) l at (omega (arith, length-replicate n b)), length-replicate n b) (sym (append_assoc (take at l) (replicate n b) (drop (at + n) l)))

sets_padded : (m : ℕ) (xs : List Bool) → length xs ≤ m → sets (replicate m false) 0 xs ≡ padded m false xs
sets_padded m xs h =
    let z : 0 + length xs ≡ length xs = omega arith in
    sets-eq xs (replicate m false) 0 (omega (arith, length-replicate m false)) ∙ rw (z, drop_replicate (length xs) m false)

-- the flags of the wires of the first f faces
abbrev flags_to : List Bool → List ℕ → ℕ → List Bool
flags_to flags counts f = flat (tabulate f (λ (f : ℕ). replicate (get_or counts f 0) (get_or flags f false)))

wire_next : (flags : List Bool) (counts : List ℕ) (f : ℕ) → flags_to flags counts (f + 1) ≡ flags_to flags counts f ++ replicate (get_or counts f 0) (get_or flags f false)
wire_next flags counts f =
    let g : ℕ → List Bool = λ (f : ℕ). replicate (get_or counts f 0) (get_or flags f false) in
    rw (add-one, tabulate_suc f g, flat_append (tabulate f g) (g f ∷ []), flat_one (g f))

-- a loop that stores the flag of each face for its wires: what it holds after f faces
pub record Spreading (flags : List Bool) (counts : List ℕ) (out : List Bool) (f at : ℕ) : Type 0 where
  pub room : sum counts ≤ 1024
  pub walk : Walk counts f at
  pub long : length (flags_to flags counts f) ≡ at
  pub is : out ≡ sets (replicate 1024 false) 0 (flags_to flags counts f)

module _ (flags : List Bool) (counts : List ℕ) where
  pub spreading_start : sum counts ≤ 1024 → Spreading flags counts (replicate 1024 false) 0 0
  unfolding tabulate flat
  spreading_start l = record { room = l; walk = walk_start counts; long = refl; is = refl }

  module _ {out : List Bool} {f at : ℕ} (s : Spreading flags counts out f at) where
    pub spreading_long : length out ≡ 1024
    spreading_long = ap length s.is ∙ length-sets (replicate 1024 false) 0 (flags_to flags counts f) ∙ length-replicate 1024 false

    -- face f has m wires
    module _ {m : ℕ} (h : f < length counts) (e : m ≡ get_or counts f 0) where
      pub spreading_room : at + m ≤ 1024
      spreading_room = omega (arith, walk_fits counts f at m s.walk h e, s.room)

      pub spreading_next : {out' : List Bool} → out' ≡ sets out at (replicate m (get_or flags f false)) → Spreading flags counts out' (f + 1) (at + m)
      spreading_next {out'} o =
          let z : 0 + length (flags_to flags counts f) ≡ at = omega (arith, s.long) in
          record {
            room = s.room;
            walk = walk_next counts f at m s.walk h e;
            long =
                rw (wire_next flags counts f, ← e)
                (omega (arith, length-append (flags_to flags counts f) (replicate m (get_or flags f false)), length-replicate m (get_or flags f false), s.long));
            is =
                o
                ∙ rw (s.is, ← z, wire_next flags counts f, ← e)
                (sets_append (replicate 1024 false) 0 (flags_to flags counts f) (replicate m (get_or flags f false)));
          }

    pub spreading_all : length counts ≤ f → out ≡ padded 1024 false (wire_flags flags counts)
    spreading_all h =
        let e : f ≡ length counts = omega (arith, s.walk.low) in
        let few : length (flags_to flags counts f) ≤ 1024 = omega (arith, s.long, s.walk.here, sum_take_drop f counts, s.room) in
        rw e at (s.is ∙ sets_padded 1024 (flags_to flags counts f) few)

-- ---- which wires are listed

tabulate_add {ℓ} : {A : Type ℓ} (n m : ℕ) (f : ℕ → A) → tabulate (n + m) f ≡ tabulate n f ++ tabulate m (λ (k : ℕ). f (n + k))
unfolding tabulate
tabulate_add zero m f = rw zero-add (tabulate_ext m f (λ (k : ℕ). f (0 + k)) (λ k h. let e : k ≡ 0 + k = omega arith in ap f e))
tabulate_add (suc n) m f =
    rw (
      suc-add n m,
      tabulate_add n m (λ (k : ℕ). f (suc k)),
      tabulate_ext m (λ (k : ℕ). f (suc n + k)) (λ (k : ℕ). f (suc (n + k))) (λ k h. let e : suc n + k ≡ suc (n + k) = omega arith in ap f e),
    )

-- a table that is the same within each part
tabulate_parts {ℓ} : {A : Type ℓ} (ns : List ℕ) (g h : ℕ → A)
    → ((f w : ℕ) → f < length ns → sum (take f ns) ≤ w → w < sum (take f ns) + get_or ns f 0 → g w ≡ h f)
    → tabulate (sum ns) g ≡ flat (tabulate (length ns) (λ (f : ℕ). replicate (get_or ns f 0) (h f)))
unfolding tabulate flat sum
tabulate_parts [] g h e = refl
tabulate_parts (n ∷ ns) g h e =
    rw (
      tabulate_add n (sum ns) g,
      tabulate_same n g (h 0) (λ k b. e 0 k (omega arith) (omega arith) (omega arith)),
      tabulate_parts ns (λ (k : ℕ). g (n + k)) (λ (f : ℕ). h (suc f)) (λ f w b l u. e (suc f) (n + w) (omega arith) (omega arith) (omega arith)),
    )

-- a run of the numbers below n
numbers_run : (n a m : ℕ) → a + m ≤ n → take m (drop a (numbers n)) ≡ tabulate m (λ (k : ℕ). a + k)
numbers_run n a m h =
    let all : length (numbers n) ≡ n = length_tabulate n (λ (k : ℕ). k) in
    let long : length (take m (drop a (numbers n))) ≡ m = length-take-le m (drop a (numbers n)) (omega (arith, length-drop a (numbers n), all)) in
    ext_get_or 0 (take m (drop a (numbers n))) (tabulate m (λ (k : ℕ). a + k)) (long ∙ sym (length_tabulate m (λ (k : ℕ). a + k)))
    (λ i l.
    let b : i < m = omega (arith, long) in
    get_or-take m (drop a (numbers n)) i 0 b
    ∙ get_or-drop a (numbers n) i 0
    ∙ get_d_tabulate n (λ (k : ℕ). k) (a + i) 0 (omega arith) ∙ sym (get_d_tabulate m (λ (k : ℕ). a + k) i 0 b))

run_later : (a m : ℕ) → tabulate m (λ (k : ℕ). a + suc k) ≡ tabulate m (λ (k : ℕ). suc a + k)
run_later a m = tabulate_ext m (λ (k : ℕ). a + suc k) (λ (k : ℕ). suc a + k) (λ k h. omega arith)

run_has : (a m w : ℕ) → a ≤ w → w < a + m → has w (tabulate m (λ (k : ℕ). a + k)) ≡ true
unfolding tabulate has
run_has a zero w l u = absurd (omega arith)
run_has a (suc m) w l u =
    ⊎_elim
    (λ (e : eqb w (a + 0) ≡ true). rw e)
    (λ (e : eqb w (a + 0) ≡ false).
    let n : (w ≡ a → ⊥) = λ z. eqb-false w (a + 0) e (omega arith) in
    rw (e, run_later a m) (run_has (suc a) m w (more a w l n) (omega arith)))
    (cases (eqb w (a + 0)))
  where
    more : (a w : ℕ) → a ≤ w → (w ≡ a → ⊥) → suc a ≤ w
    more a w l n = ⊎_elim (λ (t : ltb a w ≡ true). ltb-true a w t) (λ (t : ltb a w ≡ false). absurd (n (omega (arith, ltb-false a w t)))) (cases (ltb a w))

run_not : (a m w : ℕ) → (a ≤ w → w < a + m → ⊥) → has w (tabulate m (λ (k : ℕ). a + k)) ≡ false
unfolding tabulate has
run_not a zero w h = refl
run_not a (suc m) w h =
    let n : eqb w (a + 0) ≡ false = ne_eqb w (a + 0) (λ e. h (omega arith) (omega arith)) in
    rw (n, run_later a m) (run_not (suc a) m w (λ l u. h (omega arith) (omega arith)))

sum_before : (ns : List ℕ) (f g : ℕ) → f < g → sum (take f ns) + get_or ns f 0 ≤ sum (take g ns)
sum_before ns f g h =
    let e : take (suc f) (take g ns) ≡ take (suc f) ns = take-take (suc f) g ns h in
    let l : sum (take (suc f) ns) + sum (drop (suc f) (take g ns)) ≡ sum (take g ns) = rw e at (sum_take_drop (suc f) (take g ns)) in
    omega (arith, l, sum_next ns f)

-- a number of part f stands in part g exactly if these are the same
module _ (ns : List ℕ) (f w : ℕ) (l : sum (take f ns) ≤ w) (u : w < sum (take f ns) + get_or ns f 0) where
  apart : (g : ℕ) → (f ≡ g → ⊥) → sum (take g ns) ≤ w → w < sum (take g ns) + get_or ns g 0 → ⊥
  apart g n a b =
      ⊎_elim
      (λ (t : ltb f g ≡ true). omega (arith, sum_before ns f g (ltb-true f g t)))
      (λ (t : ltb f g ≡ false). ⊎_elim
      (λ (r : ltb g f ≡ true). omega (arith, sum_before ns g f (ltb-true g f r)))
      (λ (r : ltb g f ≡ false). n (omega (arith, ltb-false f g t, ltb-false g f r)))
      (cases (ltb g f)))
      (cases (ltb f g))

  part_has : (g : ℕ) → has w (get_or (split ns (numbers (sum ns))) g []) ≡ eqb f g
  part_has g =
      let room : sum (take g ns) + get_or ns g 0 ≤ sum ns = omega (arith, sum_next ns g, sum_take_drop (suc g) ns) in
      rw (get_d_split ns (numbers (sum ns)) g, numbers_run (sum ns) (sum (take g ns)) (get_or ns g 0) room)
      (⊎_elim
      (λ (e : eqb f g ≡ true). rw (e, ← eqb-true f g e) (run_has (sum (take f ns)) (get_or ns f 0) w l u))
      (λ (e : eqb f g ≡ false). rw e (run_not (sum (take g ns)) (get_or ns g 0) w (apart g (eqb-false f g e))))
      (cases (eqb f g)))

  -- it is listed where face f is
  listed_has : (ls : List ℕ) → has w (listed_wires ns (sum ns) ls) ≡ has f (map face_number ls)
  unfolding listed_wires flat has
  listed_has [] = refl
  listed_has (x ∷ ls) =
      rw (
        has_append w (get_or (split ns (numbers (sum ns))) (face_number x) []) (listed_wires ns (sum ns) ls),
        part_has (face_number x),
        listed_has ls,
      )

-- the flags that the code stores are those of the listed wires
pub listed_flags : (ns : List ℕ) (m : ℕ) (ls : List ℕ) → length ns ≤ 256 → sum ns ≡ m
    → wire_flags (flags_of 256 (map face_number ls)) ns ≡ map (λ (w : ℕ). has w (listed_wires ns m ls)) (numbers m)
listed_flags ns m ls b e =
    let fs = map face_number ls in
    let n = length ns in
    let same : tabulate n (λ (f : ℕ). replicate (get_or ns f 0) (get_or (flags_of 256 fs) f false)) ≡ tabulate n (λ (f : ℕ). replicate (get_or ns f 0) (has f fs)) =
    tabulate_ext n (λ (f : ℕ). replicate (get_or ns f 0) (get_or (flags_of 256 fs) f false)) (λ (f : ℕ). replicate (get_or ns f 0) (has f fs))
    (λ k l. rw (get_d_tabulate 256 (λ (f : ℕ). has f fs) k false (omega arith))) in
    rw (same, ← e, map_tabulate (λ (w : ℕ). has w (listed_wires ns (sum ns) ls)) (sum ns) (λ (k : ℕ). k))
    (sym (tabulate_parts ns (λ (w : ℕ). has w (listed_wires ns (sum ns) ls)) (λ (f : ℕ). has f fs) (λ f w i l u. listed_has ns f w l u ls)))
