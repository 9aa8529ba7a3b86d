-- One slot: what a submission there answers and leaves.
use Prim.Native.Nat.{ℕ}
use mathlib.Core.Bool.{Bool, ◌&&◌, ◌||◌, false, not, true, true≢false}
use mathlib.Core.Path.{◌∙◌, ◌≡◌, ap, refl, sym}
use mathlib.Core.Logic.{⊎_elim}
use native.Mathlib.Omega.{arith}
use lib.Dec.{eqb}
use borrow.Author.Tests.{eq-eqb, eqb-true}
use Rattle.std.specs.Prelude.{Option, None, Some, Ok, Err}
use Rattle.answers.specs.declared.Answer.{Answer}
use Rattle.lists.proofs.Laws.{cases, eqb_sym, left_true, right_true}
use Rattle.lists.specs.Lists.{pick}
use Rattle.scheduler.specs.Scheduler.{due_answer, held_other, queue_answer, same_job, same_place, slot_after, slot_answer, SubmitAnswer, waits_other}
use Rattle.scheduler.specs.declared.Job.{Job}
use Rattle.scheduler.specs.declared.Job.TheVariants.{Cut, Remove}
use Rattle.scheduler.specs.declared.Slot.{Slot}
use Rattle.scheduler.specs.declared.SubmitError.{SubmitError}
use Rattle.scheduler.specs.declared.SubmitError.TheVariants.{KeyInUse, Occupied}
use Rattle.scheduler_hold.specs.Events.{keys_differ}

-- ---- jobs that were given alike are equal

eqb_own : (n : ℕ) → eqb n n ≡ true
eqb_own n = eq-eqb n n refl

place_own : (at : Option ℕ) → same_place at at ≡ true
place_own (Some bits) = eqb_own bits
place_own None = refl

pub job_own : (j : Job) → same_job j j ≡ true
job_own (Cut n e v at) = rw (eqb_own n, eqb_own e, eqb_own v, place_own at)
job_own (Remove n v) = rw (eqb_own n, eqb_own v)

place_is : (a b : Option ℕ) → same_place a b ≡ true → a ≡ b
place_is (Some x) (Some y) h = ap Some (eqb-true x y h)
place_is (Some x) None h = absurd (true≢false (sym h))
place_is None (Some y) h = absurd (true≢false (sym h))
place_is None None h = refl

pub job_is : (i j : Job) → same_job i j ≡ true → i ≡ j
job_is (Cut n e v at) (Cut m f w to) h =
    let h₁ = right_true (eqb n m) (eqb e f && (eqb v w && same_place at to)) h in
    let h₂ = right_true (eqb e f) (eqb v w && same_place at to) h₁ in
    let p : n ≡ m = eqb-true n m (left_true (eqb n m) (eqb e f && (eqb v w && same_place at to)) h) in
    let q : e ≡ f = eqb-true e f (left_true (eqb e f) (eqb v w && same_place at to) h₁) in
    let r : v ≡ w = eqb-true v w (left_true (eqb v w) (same_place at to) h₂) in
    let s : at ≡ to = place_is at to (right_true (eqb v w) (same_place at to) h₂) in
    cc
job_is (Cut n e v at) (Remove m w) h = absurd (true≢false (sym h))
job_is (Remove n v) (Cut m f w to) h = absurd (true≢false (sym h))
job_is (Remove n v) (Remove m w) h =
    let p : n ≡ m = eqb-true n m (left_true (eqb n m) (eqb v w) h) in
    let q : v ≡ w = eqb-true v w (right_true (eqb n m) (eqb v w) h) in
    cc

-- ---- answers that are not alike

refused_not : {e : SubmitError} → ◌≡◌ {A = SubmitAnswer} (Err e) (Ok None) → ⊥
refused_not p = let z : ◌≡◌ {A = ℕ} 0 1 = cc in omega arith

held_not : {a : Answer} → ◌≡◌ {A = SubmitAnswer} (Ok (Some a)) (Ok None) → ⊥
held_not p = let z : ◌≡◌ {A = ℕ} 0 1 = cc in omega arith

not_is : (b : Bool) → not b ≡ true → b ≡ false
not_is false h = refl
not_is true h = sym h

-- ---- a slot that holds key l apart from key k

apart_held : (h : Option (ℕ × Job × Answer)) (k : ℕ) (j : Job) → keys_differ (Some (k, j)) h ≡ true → (r : SubmitAnswer) → (held_other h k j ≡ false) × (due_answer h k j r ≡ r)
apart_held None k j e r = (refl, refl)
apart_held (Some (l, i, a)) k j e r = rw (not_is (eqb l k) e) (refl, refl)

-- ---- a slot at which job j waits under key k

-- sent again, it is told so
pub still_waits : (x : Slot) (k : ℕ) (j : Job) → x.waiting ≡ Some (k, j) → keys_differ x.waiting x.held ≡ true → slot_answer x k j ≡ Ok None
still_waits x k j w d =
    let apart = apart_held x.held k j (rw w at d) (queue_answer (Some (k, j)) k j) in
    rw (w, apart.0, eqb_own k, job_own j) (rw (eqb_own k, job_own j) at apart.1)

-- what a submission leaves: the slot as it was, unless its answer is that the job waits
pub after_same : (r : SubmitAnswer) (x : Slot) (k : ℕ) (j : Job) → (r ≡ Ok None → Some (k, j) ≡ x.waiting) → slot_after r x k j ≡ x
after_same (Ok None) x k j f = ap (λ (w : Option (ℕ × Job)). record { waiting = w; held = x.held }) (f refl)
after_same (Ok (Some a)) x k j f = refl
after_same (Err e) x k j f = refl

-- where the answer is that the job waits, it is so without the held one
due_waits : (h : Option (ℕ × Job × Answer)) (k : ℕ) (j : Job) (q : SubmitAnswer) → due_answer h k j q ≡ Ok None → q ≡ Ok None
due_waits None k j q p = p
due_waits (Some (l, i, a)) k j q p =
    ⊎_elim
    (λ (e : (eqb l k && same_job i j) ≡ true). absurd (held_not (rw e at p)))
    (λ (e : (eqb l k && same_job i j) ≡ false). rw e at p)
    (cases (eqb l k && same_job i j))

answer_waits : (b : Bool) (h : Option (ℕ × Job × Answer)) (k : ℕ) (j : Job) (q : SubmitAnswer) → pick b (Err KeyInUse) (due_answer h k j q) ≡ Ok None → q ≡ Ok None
answer_waits true h k j q p = absurd (refused_not p)
answer_waits false h k j q p = due_waits h k j q p

queue_waits : (b : Bool) → ◌≡◌ {A = SubmitAnswer} (pick b (Ok None) (Err Occupied)) (Ok None) → b ≡ true
queue_waits true p = refl
queue_waits false p = absurd (refused_not p)

-- a slot at which a job waits stays, whatever is submitted there
pub waiting_stays : (x : Slot) (k l : ℕ) (j i : Job) → x.waiting ≡ Some (k, j) → slot_after (slot_answer x l i) x l i ≡ x
waiting_stays x k l j i w =
    after_same (slot_answer x l i) x l i (λ p.
    let q : queue_answer x.waiting l i ≡ (Ok None) = answer_waits (held_other x.held l i || waits_other x.waiting l i) x.held l i (queue_answer x.waiting l i) p in
    let t : (eqb k l && same_job j i) ≡ true = queue_waits (eqb k l && same_job j i) (rw w at q) in
    let e : k ≡ l = eqb-true k l (left_true (eqb k l) (same_job j i) t) in
    let f : j ≡ i = job_is j i (right_true (eqb k l) (same_job j i) t) in
    let g : Some (l, i) ≡ Some (k, j) = cc in
    g ∙ sym w)

-- ---- a slot that holds answer a of job j under key k

pub held_stays : (r : SubmitAnswer) (x : Slot) (k : ℕ) (j : Job) → (slot_after r x k j).held ≡ x.held
held_stays (Ok None) x k j = refl
held_stays (Ok (Some a)) x k j = refl
held_stays (Err e) x k j = refl

-- sent again, it gets that answer
apart_waiting : (w : Option (ℕ × Job)) (k : ℕ) (j : Job) (a : Answer) → keys_differ w (Some (k, j, a)) ≡ true → waits_other w k j ≡ false
apart_waiting None k j a e = refl
apart_waiting (Some (l, i)) k j a e = rw (eqb_sym l k, not_is (eqb k l) e)

pub still_held : (x : Slot) (k : ℕ) (j : Job) (a : Answer) → x.held ≡ Some (k, j, a) → keys_differ x.waiting x.held ≡ true → slot_answer x k j ≡ Ok (Some a)
still_held x k j a h d = rw (h, apart_waiting x.waiting k j a (rw h at d), eqb_own k, job_own j)

-- ---- the keys stay apart

apart_bits : (e s w : Bool) (a : Answer) (q : SubmitAnswer) → pick ((e && not s) || w) (Err KeyInUse) (pick (e && s) (Ok (Some a)) q) ≡ Ok None → not e ≡ true
apart_bits false s w a q p = refl
apart_bits true false w a q p = absurd (refused_not p)
apart_bits true true false a q p = absurd (held_not p)
apart_bits true true true a q p = absurd (refused_not p)

apart_if_waits : (w : Option (ℕ × Job)) (h : Option (ℕ × Job × Answer)) (k : ℕ) (j : Job) → slot_answer (record { waiting = w; held = h }) k j ≡ Ok None → keys_differ (Some (k, j)) h ≡ true
apart_if_waits w None k j p = refl
apart_if_waits w (Some (l, i, a)) k j p = apart_bits (eqb l k) (same_job i j) (waits_other w k j) a (queue_answer w k j) p

apart_after : (r : SubmitAnswer) (x : Slot) (k : ℕ) (j : Job) → (r ≡ Ok None → keys_differ (Some (k, j)) x.held ≡ true) → keys_differ x.waiting x.held ≡ true
    → keys_differ (slot_after r x k j).waiting (slot_after r x k j).held ≡ true
apart_after (Ok None) x k j f d = f refl
apart_after (Ok (Some a)) x k j f d = d
apart_after (Err e) x k j f d = d

pub apart_stays : (x : Slot) (k : ℕ) (j : Job) → keys_differ x.waiting x.held ≡ true
    → keys_differ (slot_after (slot_answer x k j) x k j).waiting (slot_after (slot_answer x k j) x k j).held ≡ true
apart_stays x k j d = apart_after (slot_answer x k j) x k j (λ p. apart_if_waits x.waiting x.held k j p) d

-- a key that waits beside a held one is another
pub other_key : (w : Option (ℕ × Job)) (h : Option (ℕ × Job × Answer)) {k l : ℕ} {j i : Job} {a : Answer} → w ≡ Some (l, i) → h ≡ Some (k, j, a) → keys_differ w h ≡ true → eqb l k ≡ false
other_key w h {k} {l} p q d = eqb_sym l k ∙ not_is (eqb k l) (rw (p, q) at d)
