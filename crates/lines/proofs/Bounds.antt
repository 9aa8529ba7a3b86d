-- How long the lines of a shell are, and that its three parts are all of them.
use Prim.Native.Nat.{◌%◌, ◌*◌, ◌+◌, ◌<◌, ◌≤◌, suc, ℕ}
use Prim.Native.String.{String}
use mathlib.Core.Bool.{Bool, false, true}
use mathlib.Core.List.{List, [], ◌++◌, ◌∷◌, append_assoc, map}
use mathlib.Core.Path.{◌≡◌, ap, refl}
use native.Mathlib.Nat.{mul-suc}
use native.Mathlib.Omega.{arith}
use lib.Dec.{eqb, leb}
use lib.ListN.{drop, get_or, length, length-append, take, take-append-drop}
use Rattle.lists.specs.Lists.{flat, pick, split}
use Rattle.output.proofs.Laws.{decimal_short}
use Rattle.output.specs.Text.{ascii, decimal, digits, field}
use Rattle.lines.specs.Lines.{condition_word, line, number_line, shell_lines, signed, solid_line}
use Rattle.lines.specs.Parts.{Fits, component_lines, condition_line, connected_line, head_lines, item, opening_lines, refused_line, word_line, word_lines, word_number, word_numbers}

pick_short : (m : ℕ) (b : Bool) (xs ys : List ℕ) → length xs ≤ m → length ys ≤ m → length (pick b xs ys) ≤ m
pick_short m true xs ys h l = h
pick_short m false xs ys h l = l

-- a u16 has at most five digits
item_short : (u : ℕ) → length (item u) ≤ 7
unfolding signed
item_short u =
    let sign = pick (leb 32768 u) (ascii "-") (ascii "+") in
    omega (
      arith,
      decimal_short 4 (u % 32768) (omega arith),
      length-append (decimal (u % 32768)) sign,
      pick_short 1 (leb 32768 u) (ascii "-") (ascii "+") (omega arith) (omega arith),
    )

pub items_short : (us : List ℕ) → length (flat (map item us)) ≤ 7 * length us
unfolding flat
items_short [] = omega arith
items_short (u ∷ us) = omega (arith, items_short us, item_short u, length-append (item u) (flat (map item us)), mul-suc 7 (length us))

line_short : (word us : List ℕ) → length (word_line word us) ≤ length word + 1 + 7 * length us
line_short word us = omega (arith, items_short us, length-append word (flat (map item us)), length-append (word ++ flat (map item us)) (ascii "\n"))

lines_short : (word lens items : List ℕ) → length (word_lines word lens items) ≤ (length word + 1) * length lens + 7 * length items
unfolding flat split
lines_short word [] items = omega arith
lines_short word (n ∷ ns) items =
    omega (
      arith,
      lines_short word ns (drop n items),
      line_short word (take n items),
      length-append (word_line word (take n items)) (word_lines word ns (drop n items)),
      mul-suc (length word + 1) (length ns),
      ap length (take-append-drop n items),
      length-append (take n items) (drop n items),
    )

pub number_short : (word : List ℕ) (k n : ℕ) → length (decimal n) ≤ k → length (word_number word n) ≤ length word + k + 1
number_short word k n h = omega (arith, length-append word (decimal n), length-append (word ++ decimal n) (ascii "\n"))

numbers_short : (word ns : List ℕ) → ((k : ℕ) → get_or ns k 0 < 65536) → length (word_numbers word ns) ≤ (length word + 6) * length ns
unfolding flat
numbers_short word [] h = omega arith
numbers_short word (n ∷ ns) h =
    omega (
      arith,
      numbers_short word ns (λ k. h (suc k)),
      number_short word 5 n (decimal_short 4 n (omega (arith, h 0))),
      length-append (word_number word n) (word_numbers word ns),
      mul-suc (length word + 6) (length ns),
    )

pub shell_number_short : (n : ℕ) → n < 100 → length (word_number (ascii "shell ") n) ≤ 9
shell_number_short n h = number_short (ascii "shell ") 2 n (decimal_short 1 n (omega arith))

pub condition_short : (w : ℕ) → length (condition_line w) ≤ 20
condition_short w =
    let last = pick (eqb w 2) (ascii "Oriented") (ascii "Closed") in
    let more = pick (eqb w 1) (ascii "Regular") last in
    omega (
      arith,
      length-append (ascii "condition ") (condition_word w),
      length-append (ascii "condition " ++ condition_word w) (ascii "\n"),
      pick_short 9 (eqb w 0) (ascii "Irregular") more (omega arith)
          (pick_short 9 (eqb w 1) (ascii "Regular") last (omega arith) (pick_short 9 (eqb w 2) (ascii "Oriented") (ascii "Closed") (omega arith) (omega arith))),
    )

connected_short : (c : Bool) → length (connected_line c) ≤ 14
connected_short true = omega arith
connected_short false = omega arith

head_short : (n w : ℕ) (c : Bool) → n < 100 → length (head_lines n w c) ≤ 43
head_short n w c h =
    omega (
      arith,
      shell_number_short n h,
      condition_short w,
      connected_short c,
      length-append (word_number (ascii "shell ") n) (condition_line w),
      length-append (word_number (ascii "shell ") n ++ condition_line w) (connected_line c),
    )

openings_short : (lens uses : List ℕ) (lookups : ℕ) → length lens ≤ 2048 → length uses ≤ 2048 → lookups < 10000000
    → length (opening_lines lens uses lookups) ≤ 30736
openings_short lens uses lookups a b h =
    omega (
      arith,
      lines_short (ascii "opening") lens uses,
      number_short (ascii "lookups ") 7 lookups (decimal_short 6 lookups (omega arith)),
      length-append (word_lines (ascii "opening") lens uses) (word_number (ascii "lookups ") lookups),
    )

components_short : (plens pairs points : List ℕ) → length plens ≤ 512 → length pairs ≤ 512 → length points ≤ 2048 → ((k : ℕ) → get_or points k 0 < 65536)
    → length (component_lines plens pairs points) ≤ 39424
components_short plens pairs points a b e h =
    omega (
      arith,
      lines_short (ascii "component") plens pairs,
      numbers_short (ascii "singular ") points h,
      length-append (word_lines (ascii "component") plens pairs) (word_numbers (ascii "singular ") points),
    )

-- the three parts together have 70,203 bytes at most
pub parts_short : (w : ℕ) (c : Bool) {out : List ℕ} {at n lookups : ℕ} {uses lens pairs plens points : List ℕ} → Fits out at n lookups uses lens pairs plens points
    → ((k : ℕ) → get_or points k 0 < 65536)
    → (length (head_lines n w c) ≤ 43) × (length (opening_lines lens uses lookups) ≤ 30736) × (length (component_lines plens pairs points) ≤ 39424)
parts_short w c {out} {at} {n} {lookups} {uses} {lens} {pairs} {plens} {points} s h = (
  head_short n w c s.number,
  openings_short lens uses lookups s.few_openings s.few_uses s.counted,
  components_short plens pairs points s.few_components s.few_pairs s.few_points h,
)

-- the two parts of the line of a refused solid
pub refused_first : (n : ℕ) → n < 100 → length (ascii "solid refused " ++ decimal n) ≤ 16
refused_first n h = omega (arith, decimal_short 1 n (omega arith), length-append (ascii "solid refused ") (decimal n))

pub refused_second : (n : ℕ) → n < 100 → length (word_number (ascii " shell ") n) ≤ 10
refused_second n h = number_short (ascii " shell ") 2 n (decimal_short 1 n (omega arith))

pub refused_short : (number shell : ℕ) → number < 100 → shell < 100 → length (refused_line number shell) ≤ 26
refused_short number shell h l =
    omega (arith, refused_first number h, refused_second shell l, length-append (ascii "solid refused " ++ decimal number) (word_number (ascii " shell ") shell))

regroup : (a b c d e f g : List ℕ) → a ++ b ++ c ++ (d ++ e) ++ (f ++ g) ≡ a ++ b ++ c ++ d ++ e ++ f ++ g
regroup a b c d e f g = simp append_assoc

-- the three parts are the lines of the shell
pub shell_is : (n w : ℕ) (c : Bool) (lens uses : List ℕ) (lookups : ℕ) (plens pairs points : List ℕ)
    → head_lines n w c ++ opening_lines lens uses lookups ++ component_lines plens pairs points
    ≡ shell_lines n (record { condition = w; connected = c; openings = split lens uses; lookups = lookups; components = split plens pairs; singular = points })
unfolding shell_lines line number_line field
shell_is n w c lens uses lookups plens pairs points =
    regroup (word_number (ascii "shell ") n) (condition_line w) (connected_line c) (word_lines (ascii "opening") lens uses) (word_number (ascii "lookups ") lookups)
    (word_lines (ascii "component") plens pairs) (word_numbers (ascii "singular ") points)

-- a line by its word, or by the word's bytes
pub line_is : (word : String) (us : List ℕ) → word_line (ascii word) us ≡ line word us
unfolding line
line_is word us = refl

pub number_line_is : (word : String) (n : ℕ) → word_number (ascii word) n ≡ number_line word n
unfolding number_line field
number_line_is word n = refl

-- examples
shell_of : shell_lines 2 (record { condition = 2; connected = true; openings = (3 ∷ 32772 ∷ []) ∷ []; lookups = 3; components = (32768 ∷ 1 ∷ []) ∷ (2 ∷ []) ∷ []; singular = 10 ∷ [] })
    ≡ ascii "shell 2\ncondition Oriented\nconnected yes\nopening 3+ 4-\nlookups 3\ncomponent 0- 1+\ncomponent 2+\nsingular 10\n"
unfolding shell_lines line number_line signed field decimal digits flat
shell_of = refl

solid_of_lem : solid_line false 7 1 ≡ ascii "solid refused 7 shell 1\n"
unfolding solid_line field decimal digits
solid_of_lem = refl
