-- A line by its words: which job it asks for, and whether it is one.
use Rattle.std.specs.Prelude.{None, Option, Some}
use Prim.Native.Nat.{◌+◌, ◌-◌, ◌<◌, ◌≤◌, suc, ℕ}
use mathlib.Core.Bool.{Bool, ◌&&◌, and-false, false, not, true}
use mathlib.Core.List.{List, [], ◌∷◌, map}
use mathlib.Core.Logic.{⊎_elim}
use mathlib.Core.Path.{◌∙◌, ◌≡◌, ap, sym}
use native.Mathlib.Omega.{arith}
use lib.Dec.{eqb, leb}
use lib.ListN.{drop, get_or, length, length-drop, length-replicate, length-take, replicate, take}
use lib.Seq.{length-sets, sets}
use borrow.Author.Tests.{eqb-true, le-leb, lt-leb, not-false, not-true}
use Rattle.forms.specs.Forms.{also, said, values}
use Rattle.forms.specs.declared.WordKind.{WordKind}
use Rattle.job_lines.specs.JobLines.{first_word, job_kinds, job_named, job_rest, no_job}
use Rattle.job_lines.specs.declared.Task.{Task}
use Rattle.lists.proofs.Laws.{cases}
use Rattle.lists.proofs.Sets.{take_sets}
use Rattle.lists.specs.Lists.{pick}
use Rattle.output.specs.Text.{ascii}
use Rattle.text.proofs.Words.{words_few}
use Rattle.text.specs.Text.{trimmed, words}
use Rattle.jobs.proofs.Texts.{text_as}
use Rattle.jobs.specs.Jobs.{is_job, is_whole, job_length, job_out, job_text, line_job, line_length, line_out, line_text, line_values, line_words, named_length, named_out, named_text, named_values, unnamed_text}

-- ---- the words after the first

-- as many values as words at most
also_few : (t : Option ℕ) (vs : List ℕ) → length (also t vs) ≤ suc (length vs)
also_few None vs = omega arith
also_few (Some v) vs = omega arith

pub values_few : (kinds : List WordKind) (rest : Option WordKind) (i : ℕ) (ws : List (List ℕ)) → length (values kinds rest i ws) ≤ length ws
unfolding values
values_few kinds rest i [] = omega arith
values_few kinds rest i (w ∷ ws) = omega (arith, also_few (said (get_or (map Some kinds) i rest) w) (values kinds rest (suc i) ws), values_few kinds rest (suc i) ws)

same_test : {vs us : List ℕ} {ws zs : List (List ℕ)} → vs ≡ us → ws ≡ zs → eqb (length vs) (length ws) ≡ eqb (length us) (length zs)
same_test p q = rw (p, q)

-- at most 32,768 words
trimmed_short : (line : List ℕ) → length (trimmed line) ≤ length line
trimmed_short line =
    ⊎_elim
    (λ (b : eqb (get_or line (length line - 1) 0) 13 ≡ true). rw b (omega (arith, length-take (length line - 1) line)))
    (λ (b : eqb (get_or line (length line - 1) 0) 13 ≡ false). rw b (omega arith))
    (cases (eqb (get_or line (length line - 1) 0) 13))

lines_few : (line : List ℕ) → length line ≤ 65536 → length (line_words line) ≤ 32768
lines_few line h = omega (arith, length-drop 1 (words (trimmed line)), words_few (trimmed line), trimmed_short line)

-- ---- whether a line is a job

module _ {A : Type 0} (b : Bool) (x y : A) where
  pick_true : b ≡ true → pick b x y ≡ x
  pick_true e = rw e

  pick_false : b ≡ false → pick b x y ≡ y
  pick_false e = rw e

-- the tests
abbrev short : List ℕ → Bool
short line = leb (length line) 65536

abbrev each : List ℕ → Bool
each line = eqb (length (line_values line)) (length (line_words line))

abbrev enough : Task → List ℕ → Bool
enough t line = leb (length (job_kinds t)) (length (line_words line))

-- a line that asks for job t
module _ (line : List ℕ) (t : Task) (job : line_job line ≡ Some t) where
  wrong_word : each line ≡ false → is_job line ≡ false
  wrong_word e = rw (ap (λ (o : Option Task). is_whole o (line_values line) (line_words line)) job, e, and-false)

  few_words : enough t line ≡ false → is_job line ≡ false
  few_words e = rw (ap (λ (o : Option Task). is_whole o (line_values line) (line_words line)) job, e, and-false, and-false)

  passes : short line ≡ true → each line ≡ true → enough t line ≡ true → is_job line ≡ true
  passes p q r = rw (ap (λ (o : Option Task). is_whole o (line_values line) (line_words line)) job, p, q, r)

module _ (line s out : List ℕ) where
  -- the answer to a line that is no job
  abbrev pub Answered : List ℕ → Type 0
  Answered t = (line_text line s out ≡ t) × (out ≡ line_out line s out) × (0 ≡ line_length line s out)

  kept : {t : List ℕ} → line_text line s out ≡ t → (out ≡ line_out line s out) × (0 ≡ line_length line s out) → Answered t
  kept e k = (e, k.0, k.1)

  pub answered : {t : List ℕ} → Answered t → (text text' : List ℕ) (r : ℕ) → (text' ≡ sets text 0 t) × (r ≡ length t)
      → ((text' ≡ sets text 0 (line_text line s out)) × (r ≡ length (line_text line s out))) × ((out ≡ line_out line s out) × (0 ≡ line_length line s out))
  answered a text text' r p = (text_as a.0 text text' r p, (a.1, a.2))

  -- the file stays
  stays : is_job line ≡ false → (out ≡ line_out line s out) × (0 ≡ line_length line s out)
  unfolding line_out line_length
  stays e = (sym (pick_false (is_job line) _ _ e), sym (pick_false (is_job line) _ _ e))

  pub too_long : 65536 < length line → Answered (ascii "no job: over 65536 bytes\n")
  unfolding line_text
  too_long h =
      let e : short line ≡ false = lt-leb (length line) 65536 h in
      kept (pick_false (short line) _ _ e) (stays (ap (λ (b : Bool). b && is_whole (line_job line) (line_values line) (line_words line)) e))

  named_is : (o : Option Task) → length line ≤ 65536 → line_job line ≡ o → line_text line s out ≡ named_text o line s out
  unfolding line_text
  named_is o h e = pick_true (short line) _ _ (le-leb (length line) 65536 h) ∙ ap (λ (k : Option Task). named_text k line s out) e

  no_name : length line ≤ 65536 → line_job line ≡ None → Answered (unnamed_text line)
  no_name h e = kept (named_is None h e) (stays (ap (λ (o : Option Task). short line && is_whole o (line_values line) (line_words line)) e ∙ and-false (short line)))

  no_words : (t : Task) → length line ≤ 65536 → line_job line ≡ Some t → is_job line ≡ false → Answered (no_job (Some t) (length (line_values line) + 2))
  no_words t h e f = kept (named_is (Some t) h e ∙ pick_false (is_job line) _ _ f) (stays f)

-- a line of at most 65,536 bytes: the job of its name, and what follows its first word
pub record Named (line l : List ℕ) (o : Option Task) (rest : List ℕ) : Type 0 where
  pub few : length line ≤ 65536
  pub trim : l ≡ trimmed line
  pub job : o ≡ job_named (first_word (words l))
  pub left : words rest ≡ drop 1 (words l)

-- the values of its words
pub record Valued (line : List ℕ) (t : Task) (n : ℕ) (all : Bool) (arr : List ℕ) : Type 0 where
  pub few : length line ≤ 65536
  pub job : line_job line ≡ Some t
  pub count : n ≡ length (line_values line)
  pub tells : all ≡ each line
  pub held : arr ≡ sets (replicate 32768 0) 0 (line_values line)

module _ {line l : List ℕ} {o : Option Task} {rest : List ℕ} (r : Named line l o rest) where
  job_is : o ≡ line_job line
  job_is = r.job ∙ ap (λ (t : List ℕ). job_named (first_word (words t))) r.trim

  words_are : words rest ≡ line_words line
  words_are = r.left ∙ ap (λ (t : List ℕ). drop 1 (words t)) r.trim

  pub no_name_line : (s out : List ℕ) → o ≡ None → Answered line s out (unnamed_text line)
  no_name_line s out h = no_name line s out r.few (sym job_is ∙ h)

  pub valued : (t : Task) → o ≡ Some t → (n : ℕ) (all : Bool) (arr : List ℕ)
      → arr ≡ sets (replicate 32768 0) 0 (values (job_kinds t) (job_rest t) 0 (words rest))
      → n ≡ length (values (job_kinds t) (job_rest t) 0 (words rest))
      → all ≡ eqb (length (values (job_kinds t) (job_rest t) 0 (words rest))) (length (words rest))
      → Valued line t n all arr
  valued t h n all arr a b c =
      let e : line_job line ≡ Some t = sym job_is ∙ h in
      let v : values (job_kinds t) (job_rest t) 0 (words rest) ≡ line_values line = ap (λ (ws : List (List ℕ)). values (job_kinds t) (job_rest t) 0 ws) words_are ∙ sym (ap (λ (k : Option Task). named_values k (line_words line)) e) in
      record {
        few = r.few;
        job = e;
        count = b ∙ ap length v;
        tells = c ∙ same_test v words_are;
        held = a ∙ ap (sets (replicate 32768 0) 0) v;
      }

named_few : (o : Option Task) (ws : List (List ℕ)) → length (named_values o ws) ≤ length ws
named_few None ws = omega arith
named_few (Some t) ws = values_few (job_kinds t) (job_rest t) 0 ws

module _ {line : List ℕ} {t : Task} {n : ℕ} {all : Bool} {arr : List ℕ} (r : Valued line t n all arr) where
  pub valued_few : n ≤ 32768
  valued_few = omega (arith, r.count, named_few (line_job line) (line_words line), lines_few line r.few)

  pub valued_room : n ≤ length arr
  valued_room = omega (arith, valued_few, ap length r.held, length-sets (replicate 32768 0) 0 (line_values line), length-replicate {A = ℕ} 32768 0)

  pub no_word_line : (s out : List ℕ) → not all ≡ true → Answered line s out (no_job (Some t) (n + 2))
  no_word_line s out h = rw r.count (no_words line s out t r.few r.job (wrong_word line t r.job (sym r.tells ∙ not-true all h)))

  module _ (whole : not all ≡ false) where
    all_are : each line ≡ true
    all_are = sym r.tells ∙ not-false all whole

    as_many : length (line_values line) ≡ length (line_words line)
    as_many = eqb-true _ _ all_are

    pub missing_line : (s out : List ℕ) (k : ℕ) → k ≡ length (job_kinds t) → n < k → Answered line s out (no_job (Some t) (n + 2))
    missing_line s out k e h =
        let f : enough t line ≡ false = lt-leb (length (job_kinds t)) (length (line_words line)) (omega (arith, as_many, r.count)) in
        rw r.count (no_words line s out t r.few r.job (few_words line t r.job f))

    part_is : take n arr ≡ line_values line
    part_is =
        rw r.held (take_sets (replicate 32768 0) (line_values line) n (sym r.count) (omega (arith, valued_few, length-replicate {A = ℕ} 32768 0)))

    module _ (k : ℕ) (e : k ≡ length (job_kinds t)) (h : k ≤ n) where
      is_job_lem : is_job line ≡ true
      is_job_lem =
          passes line t r.job (le-leb (length line) 65536 r.few) all_are
          (le-leb (length (job_kinds t)) (length (line_words line)) (omega (arith, as_many, r.count)))

      pub job_fits : (length (job_kinds t) ≤ length (take n arr)) × (length (take n arr) ≤ 32768)
      job_fits = rw part_is (omega (arith, r.count), omega (arith, r.count, valued_few))

      module _ (s out : List ℕ) where
        job_text_lem : line_text line s out ≡ job_text t (take n arr) s out
        job_text_lem = named_is line s out (Some t) r.few r.job ∙ pick_true (is_job line) _ _ is_job_lem ∙ ap (λ (vs : List ℕ). job_text t vs s out) (sym part_is)

        job_out_lem : job_out t (take n arr) s out ≡ line_out line s out
        unfolding line_out
        job_out_lem = ap (λ (vs : List ℕ). job_out t vs s out) part_is ∙ sym (pick_true (is_job line) _ _ is_job_lem ∙ ap (λ (o : Option Task). named_out o (line_values line) s out) r.job)

        job_length_lem : job_length t (take n arr) s out ≡ line_length line s out
        unfolding line_length
        job_length_lem = ap (λ (vs : List ℕ). job_length t vs s out) part_is ∙ sym (pick_true (is_job line) _ _ is_job_lem ∙ ap (λ (o : Option Task). named_length o (line_values line) s out) r.job)

        pub job_whole : (text text' o : List ℕ) (m f : ℕ)
            → (let vs = take n arr in
            ((text' ≡ sets text 0 (job_text t vs s out)) × (m ≡ length (job_text t vs s out))) × ((o ≡ job_out t vs s out) × (f ≡ job_length t vs s out)))
            → ((text' ≡ sets text 0 (line_text line s out)) × (m ≡ length (line_text line s out))) × ((o ≡ line_out line s out) × (f ≡ line_length line s out))
        job_whole text text' o m f p = (text_as job_text_lem text text' m p.0, (p.1.0 ∙ job_out_lem, p.1.1 ∙ job_length_lem))
