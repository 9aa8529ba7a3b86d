-- The file after a job, and the answer to a line.
use Rattle.std.specs.Prelude.{unwrap_or}
use Prim.Native.Nat.{ℕ, ◌+◌, ◌<◌, ◌≤◌, min}
use mathlib.Core.Bool.{Bool, ◌&&◌, and-false, false, not, true}
use mathlib.Core.List.{List, ◌++◌}
use mathlib.Core.Path.{◌∙◌, ◌≡◌, ap, refl, sym}
use mathlib.Core.Logic.{⊎_elim}
use native.Mathlib.Omega.{arith}
use lib.Dec.{eqb, ltb}
use lib.ListN.{get_or-eq_default, drop, get_or, length, length-take, take, take-append-drop}
use lib.Seq.{length-sets, length-take-le, sets, sets-eq, take_all}
use borrow.Author.Tests.{le-leb, lt-leb, ltb-false, ltb-true, ne_eqb}
use Rattle.jobs.specs.Jobs.{line_length, line_out, line_text}
use Rattle.lists.proofs.Laws.{cases}
use Rattle.std.specs.Bool.{then_some}
use Rattle.lists.proofs.Sets.{Put, take_sets}
use Rattle.output.specs.Text.{ascii}
use Rattle.text.specs.Tokens.{name, name_after}
use Rattle.queue.specs.Queue.{answer_text, edited, edited_length, file_after, is_done, room}
use Rattle.queue.specs.declared.Ending.{Ending}
use Rattle.queue.specs.declared.Ending.TheVariants.{Done, Kept, Skipped, Unread, Unsynced}

-- ---- the first bytes

-- as many as there are, or n
pub first_are : (xs : List ℕ) (n m k : ℕ) → length xs ≡ k → m ≡ min n k → take m xs ≡ take n xs
first_are xs n m k l e =
    ⊎_elim
    (λ (h : ltb k n ≡ true). let z : m ≡ k = omega (arith, ltb-true k n h) in rw z (take_all k xs (omega arith) ∙ sym (take_all n xs (omega (arith, ltb-true k n h)))))
    (λ (h : ltb k n ≡ false). let z : m ≡ n = omega (arith, ltb-false k n h) in rw z)
    (cases (ltb k n))

-- ---- the file after a job

-- a list with its own first elements stored stays
sets_own : (l : List ℕ) (n : ℕ) → n ≤ length l → sets l 0 (take n l) ≡ l
sets_own l n h =
    let e : length (take n l) ≡ n = length-take-le n l h in
    let f : 0 + length (take n l) ≡ n = omega (arith, e) in
    sets-eq (take n l) l 0 (omega (arith, e)) ∙ ap (λ (m : ℕ). take n l ++ drop m l) f ∙ take-append-drop n l

module _ (file out : List ℕ) (n k : ℕ) where
  -- the list afterwards, and the length of what it holds
  abbrev Held : List ℕ → ℕ → Type 0
  Held file' r = (file' ≡ sets file 0 (edited (take n file) out k)) × (r ≡ length (edited (take n file) out k))

  stays : take n file ≡ edited (take n file) out k → n ≤ length file → Held file n
  stays e h = rw (← e) (sym (sets_own file n h), sym (length-take-le n file h))

  pub edited_none : k ≡ 0 → n ≤ length file → Held file n
  unfolding edited
  edited_none e h = stays (rw e) h

  pub edited_long : length out < k → n ≤ length file → Held file n
  unfolding edited
  edited_long l h = stays (rw (lt-leb k (length out) l, and-false)) h

  pub edited_put : (k ≡ 0 → ⊥) → k ≤ length out → (file' : List ℕ) (r : ℕ) → Put file 0 (take k out) file' r → Held file' r
  unfolding edited
  edited_put some h file' r p = rw (le-leb 1 k (omega arith), le-leb k (length out) h) (p.0, omega (arith, p.1))

-- the length of the file after a job: that of the edited one, or the n bytes that are there
told_or : (b : Bool) (r n m : ℕ) → r ≡ m → (b ≡ false → n ≡ m) → unwrap_or (then_some b r) n ≡ m
told_or true r n m e l = e
told_or false r n m e l = l refl

told_length : (s out : List ℕ) (k r n : ℕ) → r ≡ length (edited s out k) → n ≡ length s → unwrap_or (then_some (ltb 0 k) r) n ≡ length (edited s out k)
unfolding edited
told_length s out k r n e l = told_or (ltb 0 k) r n (length (edited s out k)) e (λ (h : ltb 0 k ≡ false). let z : k ≡ 0 = omega (arith, ltb-false 0 k h) in rw z l)

-- the job on the first n bytes, which are the first m
module _ (line file out : List ℕ) (n m k : ℕ) (few : length file ≡ 41049) (least : m ≡ min n 41049) where
  same : take m file ≡ take n file
  same = first_are file n m 41049 few least

  pub stepped : (text text' file' : List ℕ) (t r : ℕ)
      → ((text' ≡ sets text 0 (line_text line (take m file) room)) × (t ≡ length (line_text line (take m file) room)))
      × ((out ≡ line_out line (take m file) room) × (k ≡ line_length line (take m file) room))
      → Held file out m k file' r
      → ((text' ≡ sets text 0 (line_text line (take n file) room)) × (t ≡ length (line_text line (take n file) room)))
      × ((file' ≡ sets file 0 (file_after line (take n file))) × (then_some (ltb 0 k) r ≡ edited_length line (take n file)) × (unwrap_or (then_some (ltb 0 k) r) (min n 41049) ≡ length (file_after line (take n file))))
  unfolding file_after
  stepped text text' file' t r p q =
      let e = same in
      let p' = rw e at p in
      let f : edited (take m file) out k ≡ edited (take n file) (line_out line (take n file) room) (line_length line (take n file) room) = rw (e, ← p'.1.0, ← p'.1.1) refl in
      let s : r ≡ length (file_after line (take n file)) = q.1 ∙ ap length f in
      let h : min n 41049 ≡ length (take n file) = omega (arith, length-take n file, few) in
      let l = told_length (take n file) (line_out line (take n file) room) (line_length line (take n file) room) r (min n 41049) s h in
      ((p'.0.0, p'.0.1), (q.0 ∙ ap (sets file 0) f, rw (s, p'.1.1), rw p'.1.1 l))

-- ---- the answer

module _ (e : Ending) (t : List ℕ) where
  pub text_done : e ≡ Done → answer_text e t ≡ t
  unfolding answer_text
  text_done is = rw is

  pub text_kept : e ≡ Kept → answer_text e t ≡ ascii "failed: the file keeps its old bytes\n"
  unfolding answer_text
  text_kept is = rw is

  pub text_unsynced : e ≡ Unsynced → answer_text e t ≡ ascii "failed: the file has its new bytes, but its directory is not synced: " ++ t
  unfolding answer_text
  text_unsynced is = rw is

  pub text_unread : e ≡ Unread → answer_text e t ≡ ascii "failed: the file cannot be read\n"
  unfolding answer_text
  text_unread is = rw is

  pub text_skipped : e ≡ Skipped → answer_text e t ≡ ascii "skipped\n"
  unfolding answer_text
  text_skipped is = rw is

-- what was put from the front on, and lies inside
pub said : (l : List ℕ) {xs ys : List ℕ} (out : List ℕ) (r : ℕ) → ys ≡ xs → length xs ≤ length l → Put l 0 xs out r
    → (out ≡ sets l 0 ys) × (r ≡ length ys) × (r ≤ length out)
said l {xs} out r e h p = rw e (p.0, omega (arith, p.1), omega (arith, p.1, ap length p.0, length-sets l 0 xs))

-- ---- whether it is done

done_name : (n : ℕ) → eqb n (name (ascii "done")) ≡ eqb n 0x1646f6e65
unfolding name name_after
done_name n = refl

module _ (t : List ℕ) where
  pub short_not : length t < 5 → false ≡ is_done t
  unfolding is_done
  short_not h = rw (get_or-eq_default t 0 {n = 4} (omega arith), and-false)

  module _ (n : ℕ) (is : n ≡ name (take 4 t)) where
    pub other_not : (n ≡ 0x1646f6e65 → ⊥) → false ≡ is_done t
    unfolding is_done
    other_not h = rw (← is, done_name n, ne_eqb n 0x1646f6e65 h)

    module _ (e : n ≡ 0x1646f6e65) where
      pub space_done : get_or t 4 0 ≡ 32 → true ≡ is_done t
      unfolding is_done
      space_done h = rw (← is, done_name n, e, h)

      pub feed_done : (get_or t 4 0 ≡ 32 → ⊥) → eqb (get_or t 4 0) 10 ≡ is_done t
      unfolding is_done
      feed_done h = rw (← is, done_name n, e, ne_eqb (get_or t 4 0) 32 h)

-- ---- the end of a line

module _ (e : Ending) (text : List ℕ) (n m : ℕ) (few : length text ≡ 65536) (least : m ≡ min n 65536) (answer answer' : List ℕ) (r : ℕ)
    (put : (answer' ≡ sets answer 0 (answer_text e (take m text))) × (r ≡ length (answer_text e (take m text))) × (r ≤ length answer')) where
  pub told : (answer' ≡ sets answer 0 (answer_text e (take n text))) × (r ≡ length (answer_text e (take n text))) × (r ≤ length answer')
  told = rw (first_are text n m 65536 few least) at put

  pub told_done : (d : Bool) → d ≡ is_done (take r answer') → d ≡ is_done (answer_text e (take n text))
  told_done d is =
      let t = answer_text e (take n text) in
      is ∙ ap is_done (rw (told.0) (take_sets answer t r (sym told.1) (omega (arith, told.2, ap length told.0, length-sets answer 0 t))))

pub stops : (stop d : Bool) {x : Bool} → stop ≡ true → d ≡ x → not d ≡ (stop && not x)
stops stop d e p = rw (e, p)

pub goes_on : (stop : Bool) (x : Bool) → stop ≡ false → stop ≡ (stop && not x)
goes_on stop x e = rw e
