-- Groups of linked members: what they mean, and an executable definition (FORMAT 3.5 to 3.7). Members are numbers below n.
use Rattle.std.specs.Prelude.{ℕ, ◌<◌, Bool, true, ◌&&◌, ◌≡◌, eqb, get_or}
use mathlib.Core.List.{List, [], ◌∷◌, map, Memᴰ}
use Rattle.lists.specs.Lists.{pick, tabulate}

pub record Link : Type 0 where
  pub a : ℕ
  pub b : ℕ

abbrev pub link : ℕ → ℕ → Link
link a b = record { a = a; b = b }

-- the members of two lists linked, one by one
unfoldable pub links : List ℕ → List ℕ → List Link
links [] ys = []
links (x ∷ xs) [] = []
links (x ∷ xs) (y ∷ ys) = link x y ∷ links xs ys

-- the meaning: a chain of links joins the two, each link taken along or against
pub data Linked (L : List Link) : ℕ → ℕ → Type 0 where
  here : {x : ℕ} → Linked L x x
  along : {y : ℕ} (l : Link) → Memᴰ l L → Linked L l.b y → Linked L l.a y
  against : {y : ℕ} (l : Link) → Memᴰ l L → Linked L l.a y → Linked L l.b y

-- every link is between members
abbrev pub Inside : ℕ → List Link → Type 0
Inside n L = (l : Link) → Memᴰ l L → (l.a < n) × (l.b < n)

-- the links are between members, and f has the same value at two members exactly if they are linked
pub record Means (n : ℕ) (L : List Link) (f : ℕ → ℕ) : Type 0 where
  pub inside : Inside n L
  pub linked : (i j : ℕ) → i < n → j < n → f i ≡ f j → Linked L i j
  pub same : (i j : ℕ) → i < n → j < n → Linked L i j → f i ≡ f j

-- `from` is renamed to `to`
abbrev pub renamed : ℕ → ℕ → ℕ → ℕ
renamed from to x = pick (eqb x from) to x

-- a link gives all that have b's label the label of a
abbrev pub merged : List ℕ → Link → List ℕ
merged ls k = map (renamed (get_or ls k.b 0) (get_or ls k.a 0)) ls

unfoldable pub labelled : List ℕ → List Link → List ℕ
labelled ls [] = ls
labelled ls (k ∷ L) = labelled (merged ls k) L

-- the label of each member: at first its own number, then changed by the links in sequence
abbrev pub labels : ℕ → List Link → List ℕ
labels n L = labelled (tabulate n (λ (k : ℕ). k)) L

-- the two members have the same label
abbrev pub same_group : ℕ → List Link → ℕ → ℕ → Bool
same_group n L i j = eqb (get_or (labels n L) i 0) (get_or (labels n L) j 0)

unfoldable pub every : (ℕ → Bool) → List ℕ → Bool
every q [] = true
every q (p ∷ ps) = q p && every q ps

-- all of the members are in one group with the first
unfoldable pub one_group : ℕ → List Link → List ℕ → Bool
one_group n L [] = true
one_group n L (p ∷ ps) = every (same_group n L p) ps
