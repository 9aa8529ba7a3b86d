-- Laws of the wires of a shell: each changed by its number; the wires of a face are all listed or none.
use Prim.Native.Nat.{◌+◌, ◌-◌, ◌<◌, ◌≤◌, suc, zero, ℕ}
use mathlib.Core.Bool.{Bool, ◌||◌, false, or-true, true, true≢false}
use mathlib.Core.List.{List, [], ◌∷◌, map, map-append}
use mathlib.Core.Logic.{⊎_elim}
use mathlib.Core.Path.{◌∙◌, ◌≡◌, ap, refl, sym}
use native.Mathlib.Nat.{not-suc-le-zero}
use native.Mathlib.Omega.{arith}
use lib.Dec.{eqb, ltb}
use lib.ListN.{get_or-map, drop, get_or, length, length-append, length-drop, length-take, take}
use lib.Seq.{get_or-drop, get_or-take, take-take}
use borrow.Author.Tests.{eq-eqb, eqb-false, eqb-true, lt-ltb, ltb-false, ltb-true}
use Rattle.lists.proofs.Count.{All, all_weaker, bit, count_append}
use Rattle.lists.proofs.Flat.{get_d_tabulate}
use Rattle.lists.proofs.Laws.{cases, flat_append, has_append, length_tabulate, map_tabulate, map_take, sum_next, sum_take_drop, tabulate_get_d}
use Rattle.lists.proofs.Parts.{map_drop, map_same}
use Rattle.lists.proofs.Split.{get_d_split}
use Rattle.lists.specs.Lists.{count, flat, has, numbers, only, pick, split, sum}
use Rattle.shell.specs.Shells.{face_number}
use Rattle.shell_edits.specs.Edits.{each_wire, listed_wires}

-- ---- each wire changed by its number
module _ (change : ℕ → List ℕ → List ℕ) where
  pub each_long : (w : ℕ) (ws : List (List ℕ)) → length (each_wire change w ws) ≡ length ws
  unfolding each_wire
  each_long w [] = refl
  each_long w (us ∷ ws) = ap suc (each_long (suc w) ws)

  pub each_take : (n w : ℕ) (ws : List (List ℕ)) → take n (each_wire change w ws) ≡ each_wire change w (take n ws)
  unfolding each_wire
  each_take zero w ws = refl
  each_take (suc n) w [] = refl
  each_take (suc n) w (us ∷ ws) = ap (λ (r : List (List ℕ)). change w us ∷ r) (each_take n (suc w) ws)

  pub each_drop : (n w : ℕ) (ws : List (List ℕ)) → n ≤ length ws → drop n (each_wire change w ws) ≡ each_wire change (w + n) (drop n ws)
  unfolding each_wire
  each_drop zero w ws h = let z : w + 0 ≡ w = omega arith in rw z
  each_drop (suc n) w [] h = absurd (not-suc-le-zero h)
  each_drop (suc n) w (us ∷ ws) h = let z : w + suc n ≡ suc w + n = omega arith in rw z (each_drop n (suc w) ws (omega arith))

  -- wire k, where a wire without uses stays so
  pub each_at : ((w : ℕ) → change w [] ≡ []) → (w : ℕ) (ws : List (List ℕ)) (k : ℕ) → get_or (each_wire change w ws) k [] ≡ change (w + k) (get_or ws k [])
  unfolding each_wire
  each_at e w [] k = sym (e (w + k))
  each_at e w (us ∷ ws) zero = let z : w + 0 ≡ w = omega arith in rw z
  each_at e w (us ∷ ws) (suc k) = let z : w + suc k ≡ suc w + k = omega arith in rw z (each_at e (suc w) ws k)

-- ---- the wires of listings
module _ {A B : Type 0} (g : A → B) where
  split_map : (ns : List ℕ) (xs : List A) → split ns (map g xs) ≡ map (map g) (split ns xs)
  unfolding split
  split_map [] xs = refl
  split_map (n ∷ ns) xs = rw (← map_take g n xs, ← map_drop g n xs, split_map ns (drop n xs))

-- the uses of the wires of a face, by the numbers of its wires
face_by_numbers : (counts : List ℕ) (ws : List (List ℕ)) (f : ℕ)
    → map (λ (w : ℕ). get_or ws w []) (get_or (split counts (numbers (length ws))) f []) ≡ get_or (split counts ws) f []
face_by_numbers counts ws f =
    let g : ℕ → List ℕ = λ (w : ℕ). get_or ws w [] in
    let all : map g (numbers (length ws)) ≡ ws = map_tabulate g (length ws) (λ (k : ℕ). k) ∙ tabulate_get_d ws [] in
    sym (get_or-map (map g) (split counts (numbers (length ws))) f [])
    ∙ ap (λ (xss : List (List (List ℕ))). get_or xss f []) (sym (split_map g counts (numbers (length ws))))
    ∙ ap (λ (xs : List (List ℕ)). get_or (split counts xs) f []) all

-- the wires of listings, face by face
pub listed_outlines : (counts : List ℕ) (ws : List (List ℕ)) (ls : List ℕ)
    → map (λ (w : ℕ). get_or ws w []) (listed_wires counts (length ws) ls) ≡ flat (map (λ (l : ℕ). get_or (split counts ws) (face_number l) []) ls)
unfolding listed_wires flat
listed_outlines counts ws [] = refl
listed_outlines counts ws (l ∷ ls) =
    let g : ℕ → List ℕ = λ (w : ℕ). get_or ws w [] in
    let here = get_or (split counts (numbers (length ws))) (face_number l) [] in
    let rest = flat (map (λ (m : ℕ). get_or (split counts (numbers (length ws))) (face_number m) []) ls) in
    map-append g here rest ∙ rw (face_by_numbers counts ws (face_number l), listed_outlines counts ws ls)

-- where a number stands
pub has_place : (x : ℕ) (xs : List ℕ) → has x xs ≡ true → (k : ℕ) × (k < length xs) × (get_or xs k 0 ≡ x)
unfolding has
has_place x [] h = absurd (true≢false (sym h))
has_place x (y ∷ ys) h =
    ⊎_elim
    (λ (e : eqb x y ≡ true). (0, omega arith, sym (eqb-true x y e)))
    (λ (e : eqb x y ≡ false). let rest : has x ys ≡ true = rw e at h in let r = has_place x ys rest in (suc r.0, omega (arith, r.1), r.2))
    (cases (eqb x y))

-- a run of the numbers
has_run : (x n s m : ℕ) → has x (take n (drop s (numbers m))) ≡ true → (s ≤ x) × (x < s + n)
has_run x n s m h =
    let r = has_place x (take n (drop s (numbers m))) h in
    let k = r.0 in
    let l = length-take n (drop s (numbers m)) in
    let d = length-drop s (numbers m) in
    let t = length_tabulate m (λ (i : ℕ). i) in
    let is : s + k ≡ x = sym (get_d_tabulate m (λ (i : ℕ). i) (s + k) 0 (omega (arith, r.1, l, d, t))) ∙ sym (get_or-drop s (numbers m) k 0) ∙ sym (get_or-take n (drop s (numbers m)) k 0 (omega (arith, r.1, l))) ∙ r.2 in
    (omega (arith, is), omega (arith, is, r.1, l))

sum_rise : (ns : List ℕ) (i j : ℕ) → i ≤ j → sum (take i ns) ≤ sum (take j ns)
sum_rise ns i j h =
    let e : sum (take i (take j ns)) ≡ sum (take i ns) = ap sum (take-take i j ns h) in
    omega (arith, e, sum_take_drop i (take j ns))

-- a wire is of one face only
same_face : (counts : List ℕ) (m f g k : ℕ) → k < get_or counts f 0 → has (sum (take f counts) + k) (get_or (split counts (numbers m)) g []) ≡ true → g ≡ f
same_face counts m f g k h w =
    let n = get_or counts g 0 in
    let run : has (sum (take f counts) + k) (take n (drop (sum (take g counts)) (numbers m))) ≡ true = rw (get_d_split counts (numbers m) g) at w in
    let r = has_run (sum (take f counts) + k) n (sum (take g counts)) m run in
    ⊎_elim
    (λ (a : ltb f g ≡ true). absurd (omega (arith, r.0, sum_next counts f, h, sum_rise counts (suc f) g (omega (arith, ltb-true f g a)))))
    (λ (a : ltb f g ≡ false).
    ⊎_elim
    (λ (b : ltb g f ≡ true). absurd (omega (arith, r.1, sum_next counts g, sum_rise counts (suc g) f (omega (arith, ltb-true g f b)))))
    (λ (b : ltb g f ≡ false). omega (arith, ltb-false f g a, ltb-false g f b))
    (cases (ltb g f)))
    (cases (ltb f g))

one_face : (counts : List ℕ) (m f g w : ℕ) → has w (get_or (split counts (numbers m)) f []) ≡ true → has w (get_or (split counts (numbers m)) g []) ≡ true → g ≡ f
one_face counts m f g w a b =
    let s = sum (take f counts) in
    let r = has_run w (get_or counts f 0) s m (rw (get_d_split counts (numbers m) f) at a) in
    let z : s + (w - s) ≡ w = omega (arith, r.0) in
    same_face counts m f g (w - s) (omega (arith, r.0, r.1)) (rw z b)

-- what every listing has, the listing that has a wire has
listed_by : (P : ℕ → Type 0) (X : Type 0) (x : ℕ) (g : ℕ → List ℕ) → ((l : ℕ) → P l → has x (g l) ≡ true → X) → (ls : List ℕ) → All P ls → has x (flat (map g ls)) ≡ true → X
unfolding flat has
listed_by P X x g k [] a h = absurd (true≢false (sym h))
listed_by P X x g k (l ∷ ls) a h =
    ⊎_elim
    (λ (e : has x (g l) ≡ true). k l a.0 e)
    (λ (e : has x (g l) ≡ false). let rest : has x (flat (map g ls)) ≡ true = rw (has_append x (g l) (flat (map g ls)), e) at h in listed_by P X x g k ls a.1 rest)
    (cases (has x (g l)))

-- a wire of a face that is not listed is not listed
pub unlisted : (counts : List ℕ) (m f : ℕ) (ls : List ℕ) → has f (map face_number ls) ≡ false → (w : ℕ) → has w (get_or (split counts (numbers m)) f []) ≡ true
    → has w (listed_wires counts m ls) ≡ false
unfolding listed_wires has
unlisted counts m f ls none w h =
    let block : ℕ → List ℕ = λ (l : ℕ). get_or (split counts (numbers m)) (face_number l) [] in
    ⊎_elim
    (λ (e : has w (flat (map block ls)) ≡ true).
    absurd (listed_by (λ (l : ℕ). face_number l ≡ f → ⊥) ⊥ w block (λ l out o. out (one_face counts m f (face_number l) w h o)) ls (others f ls none) e))
    (λ (e : has w (flat (map block ls)) ≡ false). e)
    (cases (has w (flat (map block ls))))
  where
    others : (f : ℕ) (ls : List ℕ) → has f (map face_number ls) ≡ false → All (λ (l : ℕ). face_number l ≡ f → ⊥) ls
    others f [] h = tt
    others f (l ∷ ls) h =
        ⊎_elim
        (λ (e : eqb f (face_number l) ≡ true). absurd (true≢false (rw e at h)))
        (λ (e : eqb f (face_number l) ≡ false). (λ z. eqb-false f (face_number l) e (sym z), others f ls (rw e at h)))
        (cases (eqb f (face_number l)))

-- a face whose wires are the same
pub face_same : (counts : List ℕ) (ws ws' : List (List ℕ)) (f : ℕ) → length ws' ≡ length ws
    → All (λ (w : ℕ). get_or ws' w [] ≡ get_or ws w []) (get_or (split counts (numbers (length ws))) f []) → get_or (split counts ws') f [] ≡ get_or (split counts ws) f []
face_same counts ws ws' f e h =
    let block = get_or (split counts (numbers (length ws))) f [] in
    let then : map (λ (w : ℕ). get_or ws' w []) block ≡ get_or (split counts ws') f [] = rw e at (face_by_numbers counts ws' f) in
    sym then ∙ map_same (λ (w : ℕ). get_or ws' w []) (λ (w : ℕ). get_or ws w []) block h ∙ face_by_numbers counts ws f

none_each : (q : ℕ → Bool) (g : ℕ → List (List ℕ)) (ls : List ℕ) → count q (flat (flat (map g ls))) ≡ 0 → All (λ (l : ℕ). count q (flat (g l)) ≡ 0) ls
unfolding flat
none_each q g [] h = tt
none_each q g (l ∷ ls) h =
    let both : count q (flat (g l)) + count q (flat (flat (map g ls))) ≡ 0 = rw (flat_append (g l) (flat (map g ls)), count_append q (flat (g l)) (flat (flat (map g ls)))) at h in
    (omega (arith, both), none_each q g ls (omega (arith, both)))

-- if a wire of a face is listed, what no use of the listed wires has, no use of the face has
pub face_listed : (counts : List ℕ) (ws : List (List ℕ)) (ls : List ℕ) (q : ℕ → Bool) → count q (flat (map (λ (w : ℕ). get_or ws w []) (listed_wires counts (length ws) ls))) ≡ 0
    → (f k : ℕ) → k < get_or counts f 0 → has (sum (take f counts) + k) (listed_wires counts (length ws) ls) ≡ true → count q (flat (get_or (split counts ws) f [])) ≡ 0
unfolding listed_wires
face_listed counts ws ls q none f k h w =
    let G : ℕ → List (List ℕ) = λ (l : ℕ). get_or (split counts ws) (face_number l) [] in
    let zero-all : count q (flat (flat (map G ls))) ≡ 0 = rw (listed_outlines counts ws ls) at none in
    listed_by (λ (l : ℕ). count q (flat (G l)) ≡ 0) (count q (flat (get_or (split counts ws) f [])) ≡ 0) (sum (take f counts) + k)
    (λ (l : ℕ). get_or (split counts (numbers (length ws))) (face_number l) [])
    (λ l z m. rw (same_face counts (length ws) f (face_number l) k h m) at z)
    ls (none_each q G ls zero-all) w

-- ---- lists of numbers

pub all_has : (xs : List ℕ) → All (λ (x : ℕ). has x xs ≡ true) xs
unfolding has
all_has [] = tt
all_has (y ∷ ys) =
    (rw (eq-eqb y y refl), all_weaker (λ (x : ℕ). has x ys ≡ true) (λ (x : ℕ). (eqb x y || has x ys) ≡ true) (λ x h. rw h (or-true (eqb x y))) ys (all_has ys))

positive_or : (m k : ℕ) → ltb 0 (m + k) ≡ (ltb 0 m || ltb 0 k)
positive_or m k =
    ⊎_elim
    (λ (h : ltb 0 m ≡ true). rw h (lt-ltb 0 (m + k) (omega (arith, ltb-true 0 m h))))
    (λ (h : ltb 0 m ≡ false). let z : m + k ≡ k = omega (arith, ltb-false 0 m h) in rw (h, z))
    (cases (ltb 0 m))

positive_bit : (b : Bool) → ltb 0 (bit b) ≡ b
positive_bit true = refl
positive_bit false = refl

-- a number stands among what g gives of the uses of some wire
pub has_flat : (g : ℕ → ℕ) (f : ℕ → List ℕ) (x : ℕ) (ws : List ℕ) → has x (map g (flat (map f ws))) ≡ ltb 0 (count (λ (w : ℕ). has x (map g (f w))) ws)
unfolding flat has count
has_flat g f x [] = refl
has_flat g f x (w ∷ ws) =
    rw (map-append g (f w) (flat (map f ws)), has_append x (map g (f w)) (map g (flat (map f ws))), has_flat g f x ws, positive_or (bit (has x (map g (f w)))) (count (λ (v : ℕ). has x (map g (f v))) ws), positive_bit (has x (map g (f w))))

-- no use of the wires passes, so no use of any
pub none_flat : (q : ℕ → Bool) (f : ℕ → List ℕ) (ws : List ℕ) → count q (flat (map f ws)) ≡ 0 → All (λ (w : ℕ). count q (f w) ≡ 0) ws
unfolding flat
none_flat q f [] h = tt
none_flat q f (w ∷ ws) h =
    (omega (arith, h, count_append q (f w) (flat (map f ws))), none_flat q f ws (omega (arith, h, count_append q (f w) (flat (map f ws)))))

-- how many pass is how long the list of them is
pub length_counted : (q : ℕ → Bool) (xs : List ℕ) → length (only q xs) ≡ count q xs
unfolding only count
length_counted q [] = refl
length_counted q (x ∷ xs) = omega (arith, length-append (pick (q x) (x ∷ []) []) (only q xs), one (q x), length_counted q xs)
  where
    one : (b : Bool) → length (pick b (x ∷ []) []) ≡ pick b 1 0
    one true = refl
    one false = refl
