-- What the scheduler is for: a job that waits is served within eight turns; it is done once; the keys of a slot differ; a submission leaves the file, and a turn with nobody waiting leaves everything, as it was.
use Prim.Native.Nat.{ℕ, suc, ◌+◌, ◌-◌, ◌%◌, ◌<◌, ◌≤◌}
use mathlib.Core.Bool.{Bool, false, true}
use mathlib.Core.List.{List, [], ◌∷◌, ◌++◌}
use mathlib.Core.Logic.{⊎_elim}
use mathlib.Core.Path.{◌∙◌, ◌≡◌, ap, refl, sym}
use native.Mathlib.Omega.{arith}
use lib.Dec.{eqb, ltb}
use lib.ListN.{get_or-eq_default, get_or, get_or-replicate, length, length-replicate, replicate}
use borrow.Author.Tests.{eqb-false, eqb-true, lt-ltb, ltb-false, ltb-true}
use Rattle.std.specs.Prelude.{Option, None, Some}
use Rattle.answers.specs.declared.Answer.{Answer}
use Rattle.lists.proofs.Laws.{cases}
use Rattle.lists.specs.Lists.{pick}
use Rattle.scheduler.proofs.Laws.{next_below}
use Rattle.scheduler.specs.Scheduler.{empty_slot, new_scheduler, next_job, slot_answer, slot_at, submit_answer, SubmitAnswer}
use Rattle.scheduler.specs.declared.Job.{Job}
use Rattle.scheduler.specs.declared.Scheduler.{Scheduler}
use Rattle.scheduler.specs.declared.Slot.{Slot}
use Rattle.scheduler_turn.specs.Turn.{after_turn_of, job_answer}
use Rattle.scheduler_hold.proofs.Round.{first_within, nearer, next_waits, places_after, served_elsewhere, served_here, submit_keeps, submit_last, submit_length, turn_length, waits_below}
use Rattle.scheduler_hold.proofs.Slots.{apart_stays, held_stays, other_key, still_held, still_waits, waiting_stays}
use Rattle.scheduler_hold.specs.Events.{after, Event, file_after_job, keys_differ, KeysApart, Once, reached, run, served_by, Service, services, Since, Submit, Turn, turns, World, Write}

-- ---- a submission, and a turn with nobody waiting

pub file_stays : (w : World) (d k : ℕ) (j : Job) → (after w (Submit d k j)).file ≡ w.file
file_stays w d k j = refl

pub idle_turn : (w : World) → next_job w.scheduler ≡ None → after w Turn ≡ w
idle_turn w e = rw e

-- ---- the keys of a slot differ

abbrev Sound : Scheduler → Type 0
Sound c = (length c.slots ≡ 8) × KeysApart c

-- the length is 8, and a turn keeps the keys apart: the slot that it serves has nobody waiting
sound_turn : (n : Option (ℕ × ℕ × Job)) (c : Scheduler) (s : List ℕ) → next_job c ≡ n → Sound c → Sound (after_turn_of n c s)
sound_turn None c s is (l, apart) = (l, apart)
sound_turn (Some (e, k, j)) c s is (l, apart) = (
  turn_length c s e k j ∙ l,
  λ d.
      ⊎_elim
      (λ (h : eqb e d ≡ true).
      let z : e ≡ d = eqb-true e d h in
      let here = served_here c s e k j (omega (arith, next_below c.slots 8 c.last is)) in
      rw (← z, here))
      (λ (h : eqb e d ≡ false). rw (served_elsewhere c s e k j d h) (apart d))
      (cases (eqb e d)),
)

sound_after : (w : World) (e : Event) → Sound w.scheduler → Sound (after w e).scheduler
sound_after w (Submit d k j) (l, apart) = (
  submit_length w.scheduler d k j ∙ l,
  λ e. submit_keeps w.scheduler d k j (λ (x : Slot). keys_differ x.waiting x.held ≡ true) (λ x p. apart_stays x k j p) l e (apart e),
)
sound_after w Turn sound = sound_turn (next_job w.scheduler) w.scheduler w.file refl sound
sound_after w (Write s) sound = sound

sound_run : (es : List Event) (w : World) → Sound w.scheduler → Sound (run w es).scheduler
unfolding run
sound_run [] w sound = sound
sound_run (e ∷ es) w sound = sound_run es (after w e) (sound_after w e sound)

new_slot : (n d : ℕ) → get_or (replicate n empty_slot) d empty_slot ≡ empty_slot
new_slot n d =
    ⊎_elim
    (λ (h : ltb d n ≡ true). get_or-replicate n d empty_slot empty_slot (ltb-true d n h))
    (λ (h : ltb d n ≡ false). get_or-eq_default (replicate n empty_slot) empty_slot {n = d} (rw length-replicate (ltb-false d n h)))
    (cases (ltb d n))

sound_new : Sound new_scheduler
sound_new = (length-replicate 8 empty_slot, λ d. rw (new_slot 8 d))

sound_reached : (s : List ℕ) (es : List Event) → Sound (reached s es).scheduler
sound_reached s es = sound_run es _ sound_new

pub keys_apart : (s : List ℕ) (es : List Event) → KeysApart (reached s es).scheduler
keys_apart s es = (sound_reached s es).1

-- ---- done once

module _ (d k : ℕ) (j : Job) (there : d < 8) where
  -- what is answered where it is sent again
  abbrev resent : World → List Event → SubmitAnswer
  resent w es = submit_answer (run w es).scheduler d k j

  at_slot : (c : Scheduler) {r : SubmitAnswer} → slot_answer (slot_at c d) k j ≡ r → submit_answer c d k j ≡ r
  at_slot c e = rw (lt-ltb d 8 there) e

  since_or : (b : Bool) (a : Answer) (x : Service) (xs : List Service) (r : SubmitAnswer) → (b ≡ true → eqb x.key k ≡ false) → (b ≡ false → Since k a xs r)
      → Since k a (pick b (x ∷ []) [] ++ xs) r
  since_or true a x xs r f g = f refl
  since_or false a x xs r f g = g refl

  once_or : (b : Bool) (x : Service) (xs : List Service) (r : SubmitAnswer) → (b ≡ true → Once k j (x ∷ xs) r) → (b ≡ false → Once k j xs r)
      → Once k j (pick b (x ∷ []) [] ++ xs) r
  once_or true x xs r f g = f refl
  once_or false x xs r f g = g refl

  -- answer a is held
  module _ (a : Answer) where
    abbrev Holds : Scheduler → Type 0
    Holds c = Sound c × ((slot_at c d).held ≡ Some (k, j, a))

    since_turn : (n : Option (ℕ × ℕ × Job)) (w : World) (es : List Event) → next_job w.scheduler ≡ n → Holds w.scheduler
        → ((v : World) → Holds v.scheduler → Since k a (services d v es) (resent v es))
        → let v : World = record { scheduler = after_turn_of n w.scheduler w.file; file = file_after_job n w.file } in Since k a (served_by d n w.file ++ services d v es) (resent v es)
    since_turn None w es is (sound, holds) later = later w (sound, holds)
    since_turn (Some (e, l, i)) w es is (sound, holds) later =
        let c = w.scheduler in
        since_or (eqb e d) a _ _ _
        (λ h.
        let z : e ≡ d = eqb-true e d h in
        let waits : (slot_at c d).waiting ≡ Some (l, i) = rw (← z) (next_waits c.slots 8 c.last is) in
        other_key _ _ waits holds (sound.1 d))
        (λ h. later _ (sound_turn (Some (e, l, i)) c w.file is sound, rw (served_elsewhere c w.file e l i d h) holds))

    since : (es : List Event) (w : World) → Holds w.scheduler → Since k a (services d w es) (resent w es)
    unfolding run services
    since [] w (sound, holds) = at_slot w.scheduler (still_held (slot_at w.scheduler d) k j a holds (sound.1 d))
    since (Submit e l i ∷ es) w (sound, holds) =
        since es (after w (Submit e l i)) (
          sound_after w (Submit e l i) sound,
          submit_keeps w.scheduler e l i (λ (x : Slot). x.held ≡ Some (k, j, a)) (λ x p. held_stays (slot_answer x l i) x l i ∙ p) sound.0 d holds,
        )
    since (Turn ∷ es) w h = since_turn (next_job w.scheduler) w es refl h (λ v g. since es v g)
    since (Write s ∷ es) w h = since es (after w (Write s)) h

  abbrev Awaits : Scheduler → Type 0
  Awaits c = Sound c × ((slot_at c d).waiting ≡ Some (k, j))

  once_turn : (n : Option (ℕ × ℕ × Job)) (w : World) (es : List Event) → next_job w.scheduler ≡ n → Awaits w.scheduler
      → ((v : World) → Awaits v.scheduler → Once k j (services d v es) (resent v es))
      → let v : World = record { scheduler = after_turn_of n w.scheduler w.file; file = file_after_job n w.file } in Once k j (served_by d n w.file ++ services d v es) (resent v es)
  once_turn None w es is h later = later w h
  once_turn (Some (e, l, i)) w es is (sound, waits) later =
      let c = w.scheduler in
      let sound' = sound_turn (Some (e, l, i)) c w.file is sound in
      once_or (eqb e d) _ _ _
      (λ h.
      let z : e ≡ d = eqb-true e d h in
      let here : (slot_at c d).waiting ≡ Some (l, i) = rw (← z) (next_waits c.slots 8 c.last is) in
      let same : Some (l, i) ≡ Some (k, j) = sym here ∙ waits in
      let pair : ◌≡◌ {A = ℕ × Job} (l, i) (k, j) = cc in
      let f : l ≡ k = ap (λ (x : ℕ × Job). x.0) pair in
      let g : i ≡ j = ap (λ (x : ℕ × Job). x.1) pair in
      let held : (slot_at (after_turn_of (Some (e, l, i)) c w.file) d).held ≡ Some (k, j, job_answer i w.file) = rw (← z, served_here c w.file e l i (omega (arith, sound.0)), f, g) refl in
      (f, g, since (job_answer i w.file) es _ (sound', held)))
      (λ h. later _ (sound', rw (served_elsewhere c w.file e l i d h) waits))

  once : (es : List Event) (w : World) → Awaits w.scheduler → Once k j (services d w es) (resent w es)
  unfolding run services
  once [] w (sound, waits) = at_slot w.scheduler (still_waits (slot_at w.scheduler d) k j waits (sound.1 d))
  once (Submit e l i ∷ es) w (sound, waits) =
      once es (after w (Submit e l i)) (
        sound_after w (Submit e l i) sound,
        submit_keeps w.scheduler e l i (λ (x : Slot). x.waiting ≡ Some (k, j)) (λ x p. ap (λ (y : Slot). y.waiting) (waiting_stays x k l j i p) ∙ p) sound.0 d waits,
      )
  once (Turn ∷ es) w h = once_turn (next_job w.scheduler) w es refl h (λ v g. once es v g)
  once (Write s ∷ es) w h = once es (after w (Write s)) h

-- job j waits at slot d under key k, in a world that came from a new scheduler by events: over any further events it is the first that is served there, and
-- sent again it is told that it waits before that, and gets its answer after it, until a job under another key is served there
pub done_once : (s : List ℕ) (before es : List Event) (d k : ℕ) (j : Job) → (slot_at (reached s before).scheduler d).waiting ≡ Some (k, j)
    → Once k j (services d (reached s before) es) (submit_answer (run (reached s before) es).scheduler d k j)
done_once s before es d k j waits =
    let sound = sound_reached s before in
    once d k j (waits_below (reached s before).scheduler.slots d sound.0 waits) es (reached s before) (sound, waits)

-- ---- served within eight turns

module _ (d k : ℕ) (j : Job) where
  -- it waits p places further than the next slot
  pub record Near (c : Scheduler) (p : ℕ) : Type 0 where
    pub sound : Sound c
    pub waits : (slot_at c d).waiting ≡ Some (k, j)
    pub place : (c.last + 1 + p) % 8 ≡ d
    pub few : p < 8

  some_or : (b : Bool) (x : Service) (xs : List Service) → (b ≡ false → 1 ≤ length xs) → 1 ≤ length (pick b (x ∷ []) [] ++ xs)
  some_or true x xs f = omega arith
  some_or false x xs f = f refl

  soon_turn : (w : World) (es : List Event) (p : ℕ) → Near w.scheduler p → p < suc (turns es)
      → ((v : World) (q : ℕ) → Near v.scheduler q → q < turns es → 1 ≤ length (services d v es))
      → (n : Option (ℕ × ℕ × Job)) → next_job w.scheduler ≡ n
      → let v : World = record { scheduler = after_turn_of n w.scheduler w.file; file = file_after_job n w.file } in 1 ≤ length (served_by d n w.file ++ services d v es)
  soon_turn w es p near enough later n is =
      let c = w.scheduler in
      let f = first_within c.slots 8 c.last p d near.waits near.place near.few in
      let e = (c.last + 1 + f.q) % 8 in
      rw (sym is ∙ f.is) (
      some_or (eqb e d) _ _ (λ h.
      let other : e ≡ d → ⊥ = eqb-false e d h in
      let short = nearer c.last p f.q d near.place f.near other in
      later _ (p - f.q - 1) (record {
        sound = sound_turn (Some (e, f.key, f.job)) c w.file f.is near.sound;
        waits = rw (served_elsewhere c w.file e f.key f.job d h) near.waits;
        place = places_after c.last p f.q d near.place f.near other;
        few = omega (arith, near.few);
      }) (omega (arith, short))))

  soon : (es : List Event) (w : World) (p : ℕ) → Near w.scheduler p → p < turns es → 1 ≤ length (services d w es)
  unfolding turns services
  soon [] w p near enough = absurd (omega arith)
  soon (Submit e l i ∷ es) w p near enough =
      soon es (after w (Submit e l i)) p (record {
        sound = sound_after w (Submit e l i) near.sound;
        waits = submit_keeps w.scheduler e l i (λ (x : Slot). x.waiting ≡ Some (k, j)) (λ x q. ap (λ (y : Slot). y.waiting) (waiting_stays x k l j i q) ∙ q) near.sound.0 d near.waits;
        place = rw (submit_last w.scheduler e l i) near.place;
        few = near.few;
      }) enough
  soon (Turn ∷ es) w p near enough = soon_turn w es p near enough (λ v q g h. soon es v q g h) (next_job w.scheduler) refl
  soon (Write s ∷ es) w p near enough = soon es (after w (Write s)) p near enough

-- a job waits at slot d: any further events with eight turns among them serve it
pub within_eight : (s : List ℕ) (before es : List Event) (d k : ℕ) (j : Job) → (slot_at (reached s before).scheduler d).waiting ≡ Some (k, j) → 8 ≤ turns es
    → 1 ≤ length (services d (reached s before) es)
within_eight s before es d k j waits enough =
    let c = (reached s before).scheduler in
    let sound = sound_reached s before in
    let below = waits_below c.slots d sound.0 waits in
    let p = (d + 7 - c.last % 8) % 8 in
    soon d k j es (reached s before) p (record { sound = sound; waits = waits; place = omega arith; few = omega arith }) (omega arith)
