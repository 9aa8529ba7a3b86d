-- Groups of members with equal keys; member i has key i of a list.
use Rattle.std.specs.Prelude.{◌+◌, ◌<◌, ◌≤◌, suc, ℕ, Bool, List, [], ◌++◌, ◌∷◌, map, ◌≡◌, eqb, drop, get_or, length}
use Rattle.lists.specs.Lists.{pick}
use Rattle.shell.specs.Components.{groups_of}

abbrev pub same_key : List ℕ → ℕ → ℕ → Bool
same_key keys i j = eqb (get_or keys i 0) (get_or keys j 0)

-- members as their names
abbrev pub named : List ℕ → List ℕ → List ℕ
named names is = map (λ (i : ℕ). get_or names i 0) is

-- the groups, a member as its name
abbrev pub key_groups : List ℕ → List ℕ → List (List ℕ)
key_groups names keys = map (named names) (groups_of (length keys) (same_key keys))

-- the places of a key, counted from `at`
unfoldable pub places : ℕ → List ℕ → ℕ → List ℕ
places x [] at = []
places x (k ∷ ks) at = pick (eqb x k) (at ∷ []) [] ++ places x ks (suc at)

-- the members with a key
abbrev pub members_of : List ℕ → ℕ → List ℕ
members_of keys x = places x keys 0

-- the first member with each key, where none has it the number of members
abbrev pub Heads : List ℕ → List ℕ → Type 0
Heads keys head = (x : ℕ) → x < length head → get_or head x 0 ≡ get_or (members_of keys x) 0 (length keys)

-- after each member the next with its key
abbrev pub Nexts : List ℕ → List ℕ → Type 0
Nexts keys next = (k : ℕ) → k < length keys → get_or next k 0 ≡ get_or (places (get_or keys k 0) (drop (suc k) keys) (suc k)) 0 (length keys)

-- keys that can be threaded: each has a place in `head`, which has no member yet
pub record Bare (keys next head : List ℕ) : Type 0 where
  pub few : length keys ≤ 512
  pub room : length keys ≤ length next
  pub low : (k : ℕ) → k < length keys → get_or keys k 0 < length head
  pub none : (x : ℕ) → x < length head → get_or head x 0 ≡ length keys

-- one group can be written from `at` on: i is its first member
pub record Writable (keys names next : List ℕ) (i : ℕ) (out : List ℕ) (at : ℕ) : Type 0 where
  pub few : length keys ≤ 512
  pub alike : length names ≡ length keys
  pub linked : length keys ≤ length next
  pub nexts : Nexts keys next
  pub inside : i < length keys
  pub first : get_or (members_of keys (get_or keys i 0)) 0 (length keys) ≡ i
  pub room : at + length (members_of keys (get_or keys i 0)) ≤ length out

-- keys below 1,536 of at most 512 members, with room for these and for as many lengths
pub record Keyed (keys names out lens : List ℕ) : Type 0 where
  pub few : length keys ≤ 512
  pub alike : length names ≡ length keys
  pub low : (k : ℕ) → k < length keys → get_or keys k 0 < 1536
  pub members : length keys ≤ length out
  pub groups : length keys ≤ length lens
