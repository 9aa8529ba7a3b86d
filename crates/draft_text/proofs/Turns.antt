-- The lines of a text, one after the other.
use Rattle.draft_text.specs.declared.DraftError.{DraftError}
use Rattle.draft_text.specs.declared.DraftError.TheVariants.{At}
use Rattle.std.specs.Prelude.{Err, Ok, Result}
use Prim.Native.Nat.{◌+◌, ◌-◌, ◌<◌, ◌≤◌, suc, ℕ}
use mathlib.Core.Bool.{Bool, false, true}
use mathlib.Core.List.{List, [], ◌++◌, ◌∷◌, map}
use mathlib.Core.Path.{◌∙◌, ◌≡◌, refl, sym}
use native.Mathlib.Nat.{zero-add}
use native.Mathlib.Numerals.{add-one}
use native.Mathlib.Omega.{arith}
use lib.ListN.{get_or-eq_default, drop, get_or, length, replicate, take}
use borrow.Author.Tests.{le-ltb, lt-ltb}
use Rattle.draft_forms.specs.LineForms.{line_kind, line_values}
use Rattle.draft_forms.specs.declared.LineKind.{LineKind}
use Rattle.draft_forms.specs.declared.LineKind.TheVariants.{Comment, Edge, Empty, Face, Point, Shell, Unknown}
use Rattle.draft_parts.specs.Adding.{summed}
use Rattle.draft_parts.specs.Parts.{joined, parts_of}
use Rattle.pattern.specs.Checks.{count_faults}
use Rattle.pattern.specs.Contents.{Content, counts_of}
use Rattle.text.specs.Text.{lines, words}
use Rattle.draft_text.proofs.Lines.{Matching, sliced}
use Rattle.draft_text.specs.Gathering.{first_wrong, stopped}
use Rattle.draft_text.specs.TextPattern.{first_made, gathered, is_empty, line_faults, line_parts, line_with, said, text_faults}
use Rattle.draft_text.specs.declared.Fault.{Fault}

-- ---- gathering

first_of : (n : ℕ) (fs : List Fault) (f : Fault) (ms : List DraftError) (m : Result ℕ DraftError) → Err f ≡ first_wrong fs → first_made (map (At n) fs ++ ms) m ≡ Err (At n f)
first_of n [] f ms m e = absurd (let z : ◌≡◌ {A = ℕ} 0 1 = cc in omega arith)
first_of n (g ∷ fs) f ms m e = let s : f ≡ g = cc in rw s

none_of : (fs : List Fault) → Ok tt ≡ first_wrong fs → fs ≡ []
none_of [] e = refl
none_of (f ∷ fs) e = absurd (let z : ◌≡◌ {A = ℕ} 0 1 = cc in omega arith)

-- the lines before those that are left, added to a content p₀, make p
pub record Gathering (text : List ℕ) (p₀ : Content) (left : List ℕ) (n : ℕ) (counts : List ℕ) (p : Content) : Type 0 where
  pub low : 1 ≤ n
  pub number : n + length left ≤ length text + 1
  pub few : count_faults counts ≡ []
  pub faults : (m : Result ℕ DraftError) → first_made (text_faults p₀ 1 (lines text)) m ≡ first_made (text_faults p n (lines left)) m
  pub parts : gathered p₀ (lines text) ≡ gathered p (lines left)

pub gathering_start : (text : List ℕ) (p : Content) (counts : List ℕ) → count_faults counts ≡ [] → Gathering text p text 1 counts p
gathering_start text p counts few = record { low = omega arith; number = omega arith; few = few; faults = λ m. refl; parts = refl }

module _ {text : List ℕ} {p₀ : Content} {left : List ℕ} {n : ℕ} {counts : List ℕ} {p : Content} (g : Gathering text p₀ left n counts p) where
  module _ {line : List ℕ} (next : List ℕ) (here : lines left ≡ line ∷ lines next) where
    pub gathering_wrong : (f : Fault) → Err f ≡ first_wrong (line_faults p (words line)) → (m : Result ℕ DraftError) → first_made (text_faults p₀ 1 (lines text)) m ≡ stopped (Err (At n f)) m
    unfolding text_faults
    gathering_wrong f e m = g.faults m ∙ rw here (first_of n (line_faults p (words line)) f (text_faults (joined p (line_parts (words line))) (suc n) (lines next)) m e)

    pub gathering_right : length next < length left → (ns : List ℕ) (q : Content) → Ok tt ≡ first_wrong (line_faults p (words line)) → count_faults ns ≡ [] → q ≡ joined p (line_parts (words line)) → Gathering text p₀ next (n + 1) ns q
    unfolding text_faults gathered
    gathering_right h ns q e l j = record {
      low = omega arith;
      number = omega (arith, g.number);
      few = l;
      faults = λ m. g.faults m ∙ rw (here, none_of (line_faults p (words line)) e, j, add-one n);
      parts = g.parts ∙ rw (here, j);
    }

  pub gathering_all : lines left ≡ [] → ((m : Result ℕ DraftError) → first_made (text_faults p₀ 1 (lines text)) m ≡ m) × ((count_faults counts ≡ []) × (p ≡ gathered p₀ (lines text)))
  unfolding text_faults gathered
  gathering_all h = (λ m. g.faults m ∙ rw h, (g.few, sym (g.parts ∙ rw h)))

-- ---- the line with a record

pub seven_default : (p : Content) (b : ℕ) → 7 ≤ b → 0 ≡ get_or (counts_of p) b 0
seven_default p b h = sym (get_or-eq_default (counts_of p) 0 h)

-- what a line adds to none
pub line_counts : {ws : List (List ℕ)} {k : LineKind} {n : ℕ} {all : Bool} {out : List ℕ} → Matching ws k n all out → (ns : List ℕ)
    → ns ≡ summed (replicate 7 0) (counts_of (parts_of k (take (n - 0) (drop 0 out)))) → ns ≡ counts_of (line_parts ws)
line_counts {ws} {k} {n} {all} {out} m ns e =
    e ∙ rw (sliced n out (line_values ws) m.are, m.kind) (simp zero-add)

pub record Finding (text : List ℕ) (b r : ℕ) (left : List ℕ) (n before : ℕ) : Type 0 where
  pub low : 1 ≤ n
  pub number : n + length left ≤ length text + 1
  pub same : line_with b r 1 (lines text) ≡ line_with b before n (lines left)

pub finding_start : (text : List ℕ) (b r : ℕ) → Finding text b r text 1 r
finding_start text b r = record { low = omega arith; number = omega arith; same = refl }

module _ {text : List ℕ} {b r : ℕ} {left : List ℕ} {n before : ℕ} (f : Finding text b r left n before) where
  module _ {line : List ℕ} (next : List ℕ) (here : lines left ≡ line ∷ lines next) (m : ℕ) (count : m ≡ get_or (counts_of (line_parts (words line))) b 0) where
    pub finding_here : before < m → n ≡ line_with b r 1 (lines text)
    unfolding line_with
    finding_here l = sym (f.same ∙ rw (here, ← count, lt-ltb before m l))

    pub finding_next : length next < length left → m ≤ before → Finding text b r next (n + 1) (before - m)
    unfolding line_with
    finding_next h l = record { low = omega arith; number = omega (arith, f.number); same = f.same ∙ rw (here, ← count, le-ltb before m l, add-one n) }

  pub finding_all : lines left ≡ [] → n ≡ line_with b r 1 (lines text)
  unfolding line_with
  finding_all h = sym (f.same ∙ rw h)

-- ---- a line that says that the pattern is empty

pub not_empty : (k : LineKind) → (k ≡ Empty → ⊥) → is_empty k ≡ false
not_empty Point e = refl
not_empty Edge e = refl
not_empty Face e = refl
not_empty Shell e = refl
not_empty Comment e = refl
not_empty Empty e = absurd (e refl)
not_empty Unknown e = refl

module _ (text left : List ℕ) (same : said (lines text) ≡ said (lines left)) where
  module _ {line : List ℕ} (next : List ℕ) (here : lines left ≡ line ∷ lines next) (k : LineKind) (kind : k ≡ line_kind (words line)) where
    pub asking_here : k ≡ Empty → true ≡ said (lines text)
    unfolding said
    asking_here e = sym (same ∙ rw (here, ← kind, e))

    pub asking_next : (k ≡ Empty → ⊥) → said (lines text) ≡ said (lines next)
    unfolding said
    asking_next e = same ∙ rw (here, ← kind, not_empty k e)

  pub asking_all : lines left ≡ [] → false ≡ said (lines text)
  unfolding said
  asking_all h = sym (same ∙ rw h)
