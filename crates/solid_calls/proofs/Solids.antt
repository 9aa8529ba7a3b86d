-- The errors of a shell from the figures of its columns; the loop over the shells.
use Rattle.errors.specs.declared.CallError.TheVariants.{Unread}
use Rattle.solid.specs.declared.ShellError.{ShellError}
use Rattle.std.specs.Prelude.{Err, Ok, Result}
use Prim.Native.Nat.{◌+◌, ◌-◌, ◌<◌, suc, ℕ}
use mathlib.Core.List.{List, [], ◌∷◌}
use mathlib.Core.Path.{◌∙◌, ◌≡◌, ap, refl, sym}
use native.Mathlib.Numerals.{add-one}
use native.Mathlib.Omega.{arith}
use lib.ListN.{get_or, length}
use Rattle.columns.specs.Sound.{OfTables, Sound}
use Rattle.condition.specs.declared.Condition.{Condition}
use Rattle.errors.specs.Faults.{first}
use Rattle.errors.specs.declared.Refusal.{Refusal}
use Rattle.lists.specs.Lists.{flat, tabulate}
use Rattle.pattern.proofs.Counts.{shells_counted}
use Rattle.pattern.specs.Contents.{Content, content}
use Rattle.reports.specs.Figures.{group_counts}
use Rattle.reports.specs.declared.GroupCounts.{GroupCounts}
use Rattle.shell.specs.Conditions.{condition}
use Rattle.shell.specs.Shells.{listings_of, shell_uses}
use Rattle.store.specs.Store.{count_table, held}
use Rattle.solid.proofs.Laws.{errors_to, solid_passes, solid_stops}
use Rattle.solid.specs.Solid.{errors_of, shell_errors, solid_errors, solid_of}
use Rattle.solid.specs.declared.SolidError.{SolidError}
use Rattle.solid_calls.specs.Solids.{answered, solid_answer_of}
use Rattle.solid.specs.Sequence.{first_error, in_solid}

pub unread : (fs : List Refusal) (c : Content) (f : Refusal) → first fs ≡ Err f → (Err (Unread f)) ≡ solid_answer_of fs c
unread [] c f h = cc
unread (g ∷ fs) c f h = let e : f ≡ g = cc in ap (λ x. Err (Unread x)) e

pub solid_answered : (fs : List Refusal) → fs ≡ [] → (c : Content) {a : Result Unit SolidError} → a ≡ solid_of c → answered a ≡ solid_answer_of fs c
solid_answered fs ok c e = rw (ok, e)

-- ---- one shell
pub errors_found : (c : Content) (n listings : ℕ) {o : Condition} {g : GroupCounts} {w : Result Unit ShellError} → listings ≡ length (listings_of c n) → o.0 ≡ condition (shell_uses c n) → g ≡ group_counts c n
    → w ≡ first_error (errors_of listings g.connected o.0 g.singular) → w ≡ first_error (shell_errors c n)
errors_found c n listings l a b h = h ∙ rw (l, a, b)

-- what is wrong with a shell, as a refusal of the solid
module _ (n : ℕ) where
  fine_in : (w : Result Unit ShellError) → Ok tt ≡ in_solid n w → Ok tt ≡ w
  fine_in (Ok x) h = refl
  fine_in (Err e) h = cc

  wrong_in : (w : Result Unit ShellError) (e : SolidError) → Err e ≡ in_solid n w → Err e.reason ≡ w
  wrong_in (Ok x) e h = cc
  wrong_in (Err r) e h = let k : e ≡ record { shell = n; reason = r } = cc in ap (λ (x : SolidError). Err x.reason) k

  wrong_shell : (w : Result Unit ShellError) (e : SolidError) → Err e ≡ in_solid n w → e.shell ≡ n
  wrong_shell (Ok x) e h = cc
  wrong_shell (Err r) e h = let k : e ≡ record { shell = n; reason = r } = cc in ap (λ (x : SolidError). x.shell) k

-- ---- the shells one after the other: the first n have no error
pub record Checking (t : List ℕ) (n : ℕ) : Type 0 where
  pub so_far : OfTables t (λ p. errors_to (shell_errors (content p)) n ≡ [])

module _ (t : List ℕ) where
  pub checking_start : Checking t 0
  unfolding flat tabulate
  checking_start = record { so_far = λ spans ok. refl }

  module _ (n : ℕ) (v : Checking t n) where
    pub checking_next : {w : Result Unit ShellError} → OfTables t (λ p. w ≡ first_error (shell_errors (content p) n)) → Ok tt ≡ in_solid n w → Checking t (n + 1)
    checking_next {w} a fine =
        record { so_far = λ spans ok. rw add-one (solid_passes (shell_errors (content (held t spans))) n (v.so_far spans ok) (sym (a spans ok) ∙ sym (fine_in n w fine))) }

    module _ (shells : ℕ) (is : shells ≡ get_or (count_table t) 5 0) (sound : OfTables t Sound) where
      shells_are : OfTables t (λ p. length (content p).shells ≡ shells)
      shells_are spans ok = let s = sound spans ok in shells_counted (held t spans) s.limits s.full ∙ sym is

      pub checking_stops : n < shells → {w : Result Unit ShellError} → OfTables t (λ p. w ≡ first_error (shell_errors (content p) n)) → (e : SolidError) → Err e ≡ in_solid n w
          → OfTables t (λ p. Err e ≡ solid_of (content p))
      unfolding solid_errors
      checking_stops h {w} a e wrong spans ok =
          let k : length (content (held t spans)).shells ≡ suc n + (shells - suc n) = shells_are spans ok ∙ omega arith in
          let named : e ≡ record { shell = n; reason = e.reason } = λ i. record { shell = wrong_shell n w e wrong i; reason = e.reason } in
          ap Err named ∙ rw k (sym (solid_stops (shell_errors (content (held t spans))) n (shells - suc n) (v.so_far spans ok) e.reason (sym (a spans ok) ∙ sym (wrong_in n w e wrong))))

      pub checking_all : n ≡ shells → OfTables t (λ p. Ok tt ≡ solid_of (content p))
      unfolding solid_errors
      checking_all h spans ok =
          let i : length (content (held t spans)).shells ≡ n = shells_are spans ok ∙ sym h in
          rw (i, v.so_far spans ok)
