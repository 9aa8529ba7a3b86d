-- What connected, components and singular points mean, by chains of points, of pairs and of edges (FORMAT 3.5 to 3.7).
use Rattle.std.specs.Prelude.{ℕ, suc, ◌<◌, true, ◌↔◌, ◌⊎◌, ◌≡◌, eqb, get_or, length}
use mathlib.Core.List.{List, [], ◌∷◌, map, Memᴰ}
use Rattle.lists.specs.Lists.{flat, pick, rotated}
use Rattle.edge.specs.Uses.{edge_number}
use Rattle.pattern.specs.Checks.{outlines}
use Rattle.pattern.specs.Contents.{Content}
use Rattle.shell.specs.Components.{components, has_wires}
use Rattle.shell.specs.Conditions.{alike_to}
use Rattle.shell.specs.Connected.{connected}
use Rattle.shell.specs.Openings.{back_in, front_in}
use Rattle.shell.specs.Shells.{listings_of, shell_faces, shell_uses, shell_wires, shown_wires}
use Rattle.shell.specs.Singular.{singular_points}

infix 4 ◌∈◌
abbrev pub ◌∈◌ : {A : Type 0} → A → List A → Type 0
x ∈ xs = Memᴰ x xs

-- a chain of steps joins the two, each step taken onward or backward (`Linked` of groups, for any steps)
pub data Chain (Step : ℕ → ℕ → Type 0) : ℕ → ℕ → Type 0 where
  still : {x : ℕ} → Chain Step x x
  onward : {x y z : ℕ} → Step x y → Chain Step y z → Chain Step x z
  backward : {x y z : ℕ} → Step y x → Chain Step y z → Chain Step x z

-- each has a lower number than every later one
abbrev pub Ascends : {A : Type 0} → (A → ℕ) → List A → Type 0
Ascends number [] = Unit {0}
Ascends {A} number (x ∷ xs) = ((y : A) → y ∈ xs → number x < number y) × Ascends number xs

-- the place where a number first stands in a list
abbrev pub first_in : List ℕ → ℕ → ℕ
first_in [] x = 0
first_in (y ∷ ys) x = pick (eqb x y) 0 (suc (first_in ys x))

module _ (c : Content) (n : ℕ) where
  -- ---- connected
  -- a use of the shell begins or ends at point p
  pub record UsePoint (p : ℕ) : Type 0 where
    pub by : ℕ
    pub listed : by ∈ shell_uses c n
    pub at : (front_in c by ≡ p) ⊎ (back_in c by ≡ p)

  -- the first point of wire k of a face
  abbrev pub first_point : List (List ℕ) → ℕ → ℕ
  first_point wires k = front_in c (get_or (get_or wires k []) 0 0)

  -- a step is a use, or the first points of neighbouring wires of one face as it is listed
  pub data PointStep : ℕ → ℕ → Type 0 where
    by_use : (u : ℕ) → u ∈ shell_uses c n → PointStep (front_in c u) (back_in c u)
    by_wires : (wires : List (List ℕ)) → wires ∈ shell_faces c n → (k : ℕ) → suc k < length wires → PointStep (first_point wires k) (first_point wires (suc k))

  -- the points of the uses form at most one group: a chain joins any two
  abbrev pub ConnectedMeans : Type 0
  ConnectedMeans = (connected c n ≡ true) ↔ ((p q : ℕ) → UsePoint p → UsePoint q → Chain PointStep p q)

  -- ---- components
  -- a pair, face and sign, is a listing; a face without wires is in none
  pub record Pair (l : ℕ) : Type 0 where
    pub listed : l ∈ listings_of c n
    pub wired : has_wires (outlines c) l ≡ true

  -- two pairs show uses of one edge
  pub record SharedEdge (l m : ℕ) : Type 0 where
    pub left : Pair l
    pub right : Pair m
    pub edge : ℕ
    pub in_left : edge ∈ map edge_number (flat (shown_wires (outlines c) l))
    pub in_right : edge ∈ map edge_number (flat (shown_wires (outlines c) m))

  -- two pairs stand in one component
  pub record Together (l m : ℕ) : Type 0 where
    pub component : List ℕ
    pub one_of : component ∈ components c n
    pub left : l ∈ component
    pub right : m ∈ component

  -- where a pair is listed first
  abbrev pub first_listing : ℕ → ℕ
  first_listing l = first_in (listings_of c n) l

  pub record ComponentsMean : Type 0 where
    -- two pairs stand in one component exactly if a chain of pairs joins them in which neighbours share an edge
    pub linked : (l m : ℕ) → Pair l → Pair m → Together l m ↔ Chain SharedEdge l m
    -- each pair stands in the components once, and nothing else stands there
    pub once : (l : ℕ) → Pair l → alike_to (flat (components c n)) l ≡ 1
    pub pairs : (l : ℕ) → l ∈ flat (components c n) → Pair l
    -- no component is empty; the pairs of each are ordered by first listing, and so are the components
    pub some : (g : List ℕ) → g ∈ components c n → 0 < length g
    pub inner : (g : List ℕ) → g ∈ components c n → Ascends first_listing g
    pub outer : Ascends (λ (g : List ℕ). first_listing (get_or g 0 0)) (components c n)

  -- ---- singular points
  -- edge e is at point p: a use of it begins or ends there
  pub record EdgeAt (p e : ℕ) : Type 0 where
    pub by : ℕ
    pub listed : by ∈ shell_uses c n
    pub edge : edge_number by ≡ e
    pub at : (front_in c by ≡ p) ⊎ (back_in c by ≡ p)

  -- neighbours on a wire at p: the edge of a use that ends there and that of the next use; after the last comes the first
  pub data NeighboursAt (p : ℕ) : ℕ → ℕ → Type 0 where
    on_wire : (us : List ℕ) → us ∈ shell_wires c n → (k : ℕ) → k < length us → back_in c (get_or us k 0) ≡ p
        → NeighboursAt p (edge_number (get_or us k 0)) (edge_number (get_or (rotated us) k 0))

  -- the edges at p, linked when neighbours on a wire there, fall into more than one group: two of them are not joined
  pub record SeveralGroups (p : ℕ) : Type 0 where
    pub one : ℕ
    pub other : ℕ
    pub one_at : EdgeAt p one
    pub other_at : EdgeAt p other
    pub apart : Chain (NeighboursAt p) one other → ⊥

  pub record SingularMean : Type 0 where
    -- exactly the points with several groups
    pub points : (p : ℕ) → p ∈ singular_points c n ↔ SeveralGroups p
    -- each is a point of the pattern, and they ascend
    pub named : (p : ℕ) → p ∈ singular_points c n → p < length c.points
    pub ascend : Ascends (λ (p : ℕ). p) (singular_points c n)
