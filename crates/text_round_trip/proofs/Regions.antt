-- Lines read one after the other.
use Prim.Native.Nat.{◌+◌, ◌<◌, ◌≤◌, suc, zero, ℕ}
use mathlib.Core.Bool.{Bool, false, true}
use mathlib.Core.List.{List, [], ◌++◌, ◌∷◌, map, map-append}
use mathlib.Core.Path.{◌∙◌, ◌≡◌, ap, refl, sym}
use native.Mathlib.Omega.{arith}
use lib.ListN.{length, length-append}
use borrow.Author.Tests.{eq-eqb, le-leb}
use Rattle.errors.proofs.Laws.{none_both, none_left, none_right}
use Rattle.draft_forms.specs.declared.LineKind.{LineKind}
use Rattle.draft_forms.specs.declared.LineKind.TheVariants.{Comment, Edge, Empty, Face, Point, Shell, Unknown}
use Rattle.draft_parts.specs.Parts.{joined, needed_words}
use Rattle.lists.proofs.Count.{All, all_append}
use Rattle.lists.specs.Lists.{flat, tabulate}
use Rattle.pattern.specs.Checks.{count_faults}
use Rattle.pattern.specs.Contents.{Content, counts_of}
use Rattle.text.specs.Text.{words}
use Rattle.draft_text.specs.TextPattern.{by_kind, gathered, line_faults, line_parts, next_number, text_faults, word_faults}
use Rattle.draft_text.specs.declared.DraftError.TheVariants.{At}
use Rattle.draft_text.specs.declared.Fault.{Fault}
use Rattle.text_round_trip.proofs.Says.{Says}
use Rattle.text_round_trip.proofs.Sentences.{Plain, Word, lined, sentence, text, text_append, words_sentence}
use Rattle.text_round_trip.proofs.Weights.{weight, weight_joined}

-- a line of a record, and no other
abbrev pub of_record : LineKind → Bool
of_record Point = true
of_record Edge = true
of_record Face = true
of_record Shell = true
of_record other = false

not_true {ℓ} : {A : Type ℓ} → false ≡ true → A
not_true e = absurd (let z : ◌≡◌ {A = ℕ} 0 1 = cc in omega arith)

record_faults : (kind : LineKind) → of_record kind ≡ true → (fs : List Fault) → by_kind kind fs ≡ fs
record_faults Point h fs = refl
record_faults Edge h fs = refl
record_faults Face h fs = refl
record_faults Shell h fs = refl
record_faults Comment h fs = not_true h
record_faults Empty h fs = refl
record_faults Unknown h fs = not_true h

not_empty_line : {kind : LineKind} → kind ≡ Empty → of_record kind ≡ true → ⊥
not_empty_line e h = not_true (ap of_record (sym e) ∙ h)

-- a line with the next number has no fault where there is room for its record
line_right : (p : Content) {ws : List (List ℕ)} {kind : LineKind} {k : ℕ} {part : Content} → Says ws kind k part → of_record kind ≡ true
    → next_number kind (counts_of p) ≡ k → count_faults (counts_of (joined p (line_parts ws))) ≡ [] → line_faults p ws ≡ []
unfolding line_faults word_faults
line_right p {ws} {kind} {k} t is_record next few =
    let n = length t.values in
    rw (few, t.read, t.is, record_faults kind is_record, next, eq-eqb k k refl, eq-eqb (suc (suc n)) (length ws) (sym t.all), le-leb (needed_words kind) (suc n) t.needed)

-- line j has the words f j, is right after the parts `state j`, and makes them `state (suc j)`
pub record Step (state : ℕ → Content) (f : ℕ → List (List ℕ)) (j : ℕ) : Type 0 where
  pub are : All Word (f j)
  pub plain : Plain (f j)
  pub right : line_faults (state j) (f j) ≡ []
  pub next : joined (state j) (line_parts (f j)) ≡ state (suc j)
  pub long : length (lined (sentence (f j))) ≤ weight (line_parts (f j))

-- a line whose number is the next, and whose part is the next
pub step_of : {state : ℕ → Content} {f : ℕ → List (List ℕ)} {j : ℕ} {kind : LineKind} {part : Content} → Says (f j) kind j part → of_record kind ≡ true
    → next_number kind (counts_of (state j)) ≡ j → joined (state j) part ≡ state (suc j) → count_faults (counts_of (state (suc j))) ≡ [] → Step state f j
step_of {state} {f} {j} t is_record number more few =
    let next : joined (state j) (line_parts (f j)) ≡ state (suc j) = ap (joined (state j)) t.parts ∙ more in
    record {
      are = t.are;
      plain = (λ e. not_empty_line (sym t.is ∙ e) is_record, t.begins);
      right = line_right (state j) t is_record number (ap (λ (q : Content). count_faults (counts_of q)) next ∙ few);
      next = next;
      long = rw t.parts t.long;
    }

-- lines that make the parts p the parts q, and are no longer than what they add weighs
pub record Region (p : Content) (ss : List (List (List ℕ))) (q : Content) : Type 0 where
  pub are : All (All Word) ss
  pub plain : All Plain ss
  pub right : (n : ℕ) → text_faults p n (map sentence ss) ≡ []
  pub reach : gathered p (map sentence ss) ≡ q
  pub long : weight p + length (text ss) ≤ weight q

-- one line
module _ (p : Content) (ws : List (List ℕ)) (are : All Word ws) (ls : List (List ℕ)) {q : Content} (next : joined p (line_parts ws) ≡ q) where
  faults_next : (n : ℕ) → line_faults p ws ≡ [] → text_faults q (suc n) ls ≡ [] → text_faults p n (sentence ws ∷ ls) ≡ []
  unfolding text_faults
  faults_next n right rest = rw (words_sentence ws are, right, next) rest

  gathered_next : {r : Content} → gathered q ls ≡ r → gathered p (sentence ws ∷ ls) ≡ r
  unfolding gathered
  gathered_next rest = rw (words_sentence ws are, next) rest

-- m lines
pub region : (m : ℕ) (state : ℕ → Content) (f : ℕ → List (List ℕ)) → ((j : ℕ) → j < m → Step state f j) → Region (state 0) (tabulate m f) (state m)
unfolding tabulate text_faults gathered flat
region zero state f h = record { are = tt; plain = tt; right = λ n. refl; reach = refl; long = omega arith }
region (suc m) state f h =
    let s = h 0 (omega arith) in
    let r = region m (λ (j : ℕ). state (suc j)) (λ (j : ℕ). f (suc j)) (λ j l. shifted (h (suc j) (omega arith))) in
    let rest = map sentence (tabulate m (λ (j : ℕ). f (suc j))) in
    record {
      are = (s.are, r.are);
      plain = (s.plain, r.plain);
      right = λ n. faults_next (state 0) (f 0) s.are rest s.next n s.right (r.right (suc n));
      reach = gathered_next (state 0) (f 0) s.are rest s.next r.reach;
      long =
          omega (
            arith,
            s.long,
            r.long,
            ap weight s.next,
            weight_joined (state 0) (line_parts (f 0)),
            length-append (lined (sentence (f 0))) (flat (map lined rest)),
          );
    }
  where
    shifted : {j : ℕ} → Step state f (suc j) → Step (λ (i : ℕ). state (suc i)) (λ (i : ℕ). f (suc i)) j
    shifted s = record { are = s.are; plain = s.plain; right = s.right; next = s.next; long = s.long }

-- one run of lines after another
gathered_append : (p : Content) (ls ms : List (List ℕ)) → gathered p (ls ++ ms) ≡ gathered (gathered p ls) ms
unfolding gathered
gathered_append p [] ms = refl
gathered_append p (l ∷ ls) ms = gathered_append (joined p (line_parts (words l))) ls ms

faults_append : (p : Content) (n : ℕ) (ls ms : List (List ℕ)) → text_faults p n ls ≡ [] → ((m : ℕ) → text_faults (gathered p ls) m ms ≡ []) → text_faults p n (ls ++ ms) ≡ []
unfolding text_faults gathered
faults_append p n [] ms h k = k n
faults_append p n (l ∷ ls) ms h k =
    let here = map (At n) (line_faults p (words l)) in
    let q = joined p (line_parts (words l)) in
    let rest = text_faults q (suc n) ls in
    none_both here (text_faults q (suc n) (ls ++ ms)) (none_left here rest h) (faults_append q (suc n) ls ms (none_right here rest h) k)

pub region_then : {p q r : Content} {ss ts : List (List (List ℕ))} → Region p ss q → Region q ts r → Region p (ss ++ ts) r
region_then {p} {q} {r} {ss} {ts} a b = record {
  are = all_append (All Word) ss ts a.are b.are;
  plain = all_append Plain ss ts a.plain b.plain;
  right = λ n. rw (map-append sentence ss ts) (faults_append p n (map sentence ss) (map sentence ts) (a.right n) (λ m. rw a.reach (b.right m)));
  reach = rw (map-append sentence ss ts, gathered_append p (map sentence ss) (map sentence ts), a.reach) b.reach;
  long = omega (arith, a.long, b.long, ap length (text_append ss ts), length-append (text ss) (text ts));
}
