-- The tally of a shell's uses (the Rust's Boundaries): of each edge whether the number of its uses is odd and which way the last one went, and the worst that uses made of the condition.
use Rattle.std.specs.Prelude.{◌%◌, ◌*◌, ◌+◌, ◌-◌, ◌/◌, ◌<◌, ◌^◌, ◌≤◌, min, suc, zero, ℕ, ◌||◌, List, [], ◌∷◌, ◌≡◌, eqb, leb, get_or, length, set}
use Rattle.condition.specs.declared.Tally.{Tally}
use Rattle.edge.specs.Uses.{edge_number}
use Rattle.lists.specs.Lists.{padded, pick, tabulate}
use Rattle.shell.specs.Conditions.{alike_to}

-- digit d of a number to the base 4
abbrev pub digit : ℕ → ℕ → ℕ
digit b d = b / 4 ^ d % 4

-- the number with s for its digit d
abbrev pub with_digit : ℕ → ℕ → ℕ → ℕ
with_digit b d s = b - digit b d * 4 ^ d + s * 4 ^ d

-- the state of edge e, four to a byte: 0 no use yet; 1 an odd number of uses, the last one along; 3 an odd number, the last one reversed; 2 an even number, at least two
abbrev pub state_of : Tally → ℕ → ℕ
state_of t e = digit (get_or t.states (e / 4) 0) (e % 4)

-- the state after a first use: 1 along, 3 reversed
abbrev pub way_of : ℕ → ℕ
way_of u = 1 + 2 * (u / 32768)

-- the state after one use more, that way
abbrev pub next_state : ℕ → ℕ → ℕ
next_state way s = pick (eqb (s % 2) 0) way 2

-- what that use makes of the condition: Irregular if it is the third (or fifth ..), Regular if the one before is alike
abbrev pub use_condition : ℕ → ℕ → ℕ
use_condition way s = pick (eqb s 2) 0 (pick (eqb s way) 1 3)

-- the tally after one use
abbrev pub inserted : Tally → ℕ → Tally
inserted t u =
    let e = edge_number u in
    let s = state_of t e in
    record {
      states = set t.states (e / 4) (with_digit (get_or t.states (e / 4) 0) (e % 4) (next_state (way_of u) s));
      worst = min t.worst (use_condition (way_of u) s);
    }

-- the tally after the uses, in sequence
unfoldable pub inserted_all : Tally → List ℕ → Tally
inserted_all t [] = t
inserted_all t (u ∷ us) = inserted_all (inserted t u) us

-- the least of f 0, f 1, .., n of them, and 3
unfoldable pub least : ℕ → (ℕ → ℕ) → ℕ
least zero f = 3
least (suc n) f = min (least n f) (f n)

-- the condition that the tally gives: an edge with an odd number of uses leaves it Oriented
abbrev pub condition_in : Tally → ℕ → ℕ
condition_in t n = min t.worst (least n (λ (e : ℕ). 3 - state_of t e % 2))

-- which of the first n edges have an odd number of uses
abbrev pub odds_in : Tally → ℕ → List ℕ
odds_in t n = padded 1024 0 (tabulate n (λ (e : ℕ). 16 * (state_of t e % 2)))

-- the state of an edge that is used f times along and b times reversed; after three uses only whether it is odd counts
pub record StateFor (f b s : ℕ) : Type 0 where
  pub few : s < 4
  pub odd : s % 2 ≡ (f + b) % 2
  pub none : f + b ≡ 0 → s ≡ 0
  pub once : f + b ≡ 1 → s ≡ 1 + 2 * b
  pub more : 2 ≤ f + b → 1 ≤ s

-- what such an edge makes of the condition, apart from an odd number of uses
abbrev pub edge_worst : ℕ → ℕ → ℕ
edge_worst f b = pick (leb 3 (f + b)) 0 (pick (leb 2 f || leb 2 b) 1 3)

-- the tally is that of the uses
pub record Tallied (us : List ℕ) (t : Tally) : Type 0 where
  pub long : length t.states ≡ 256
  pub state : (e : ℕ) → e < 1024 → StateFor (alike_to us e) (alike_to us (32768 + e)) (state_of t e)
  pub worst : t.worst ≡ least 1024 (λ (e : ℕ). edge_worst (alike_to us e) (alike_to us (32768 + e)))
