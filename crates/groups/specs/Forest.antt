-- Groups as trees: each member has a parent, and the root of a tree, its own parent, stands for the group.
use Rattle.std.specs.Prelude.{ℕ, zero, suc, ◌+◌, ◌*◌, ◌<◌, ◌≤◌, Bool, true, List, [], ◌∷◌, ◌++◌, ◌≡◌, eqb, ltb, drop, get_or, length, set}
use Rattle.lists.specs.Lists.{pick, sum, tabulate}
use Rattle.groups.specs.Groups.{Link, Means, every}

-- so many steps up from a member
unfoldable pub climb : ℕ → List ℕ → ℕ → ℕ
climb zero parents i = i
climb (suc f) parents i = climb f parents (get_or parents i 0)

-- the end of the way up: in a forest, so many steps are enough (root_top)
abbrev pub root_of : List ℕ → ℕ → ℕ
root_of parents i = climb (length parents) parents i

abbrev pub Root : List ℕ → ℕ → Type 0
Root parents r = get_or parents r 0 ≡ r

-- the way up from i stays in the list and comes to a root
pub record Climbs (parents : List ℕ) (i : ℕ) : Type 0 where
  pub inside : (k : ℕ) → climb k parents i < length parents
  pub top : Root parents (root_of parents i)

abbrev pub has_root : List ℕ → ℕ → ℕ → Bool
has_root parents r i = eqb r (root_of parents i)

-- all of the members have the root of the first
unfoldable pub one_root : List ℕ → List ℕ → Bool
one_root parents [] = true
one_root parents (p ∷ ps) = every (has_root parents (root_of parents p)) ps

pub record Trees : Type 0 where
  pub parents : List ℕ
  pub sizes : List ℕ

abbrev pub trees : List ℕ → List ℕ → Trees
trees parents sizes = record { parents = parents; sizes = sizes }

-- each of the n members is a root of size 1
abbrev pub started : ℕ → List ℕ → List ℕ → Trees
started n parents sizes = record {
  parents = tabulate n (λ (k : ℕ). k) ++ drop n parents;
  sizes = tabulate n (λ (k : ℕ). 1) ++ drop n sizes;
}

-- root b goes under root a
abbrev pub under : List ℕ → List ℕ → ℕ → ℕ → Trees
under parents sizes a b = record { parents = set parents b a; sizes = set sizes a (get_or sizes a 0 + get_or sizes b 0) }

-- of two roots, the one of the smaller tree goes under the other
unfoldable pub rooted : List ℕ → List ℕ → ℕ → ℕ → Trees
rooted parents sizes a b =
    pick (eqb a b) (trees parents sizes)
    (pick (ltb (get_or sizes a 0) (get_or sizes b 0)) (under parents sizes b a) (under parents sizes a b))

-- the trees of members i and j become one
abbrev pub joined : List ℕ → List ℕ → ℕ → ℕ → Trees
joined parents sizes i j = rooted parents sizes (root_of parents i) (root_of parents j)

-- the trees after the links, in sequence
unfoldable pub joined_all : Trees → List Link → Trees
joined_all t [] = t
joined_all t (k ∷ L) = joined_all (joined t.parents t.sizes k.a k.b) L

-- what joining asks: the ways up from i and j come to roots; these are numbers of 16 bits, have sizes, and the sum of the sizes of two roots is one too
pub record Ready (parents sizes : List ℕ) (i j : ℕ) : Type 0 where
  pub left : Climbs parents i
  pub right : Climbs parents j
  pub left_low : root_of parents i < 65536
  pub right_low : root_of parents j < 65536
  pub left_sized : root_of parents i < length sizes
  pub right_sized : root_of parents j < length sizes
  pub fits : (root_of parents i ≡ root_of parents j → ⊥) → get_or sizes (root_of parents i) 0 + get_or sizes (root_of parents j) 0 < 65536

-- a root counts with its size, any other member not
abbrev pub weight : List ℕ → List ℕ → ℕ → ℕ
weight parents sizes i = pick (eqb (get_or parents i 0) i) (get_or sizes i 0) 0

-- n members in trees: a parent's size is at least twice its child's, and the roots' sizes together are n
pub record Forest (n : ℕ) (parents sizes : List ℕ) : Type 0 where
  pub few : n < 65536
  pub long : n ≤ length parents
  pub sized : n ≤ length sizes
  pub below : (i : ℕ) → i < n → get_or parents i 0 < n
  pub some : (i : ℕ) → i < n → 0 < get_or sizes i 0
  pub cap : (i : ℕ) → i < n → get_or sizes i 0 ≤ n
  pub grows : (i : ℕ) → i < n → (Root parents i → ⊥) → 2 * get_or sizes i 0 ≤ get_or sizes (get_or parents i 0) 0
  pub all : sum (tabulate n (weight parents sizes)) ≡ n

-- the trees stand for the groups of the links
pub record Grouped (n : ℕ) (L : List Link) (parents sizes : List ℕ) : Type 0 where
  pub forest : Forest n parents sizes
  pub means : Means n L (root_of parents)
