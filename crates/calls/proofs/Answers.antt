-- Whether there is a shell.
use Rattle.errors.specs.Numbers.{not_there}
use Rattle.errors.specs.declared.CallError.TheVariants.{Refused, Unread}
use Rattle.std.specs.Prelude.{Err, Ok}
use Prim.Native.Nat.{◌<◌, ◌≤◌, ℕ}
use mathlib.Core.Bool.{Bool, false, true}
use mathlib.Core.List.{List, [], ◌∷◌}
use mathlib.Core.Path.{◌≡◌, ap, refl}
use native.Mathlib.Omega.{arith}
use lib.Dec.{ltb}
use lib.Ieee.{Float}
use lib.ListN.{get_or, length, length-take}
use borrow.Author.Tests.{le-ltb, lt-ltb, ltb-true}
use Rattle.calls.specs.Calls.{presence, presence_of}
use Rattle.columns.specs.Sound.{Faultless}
use Rattle.errors.specs.Faults.{first}
use Rattle.errors.specs.declared.Refusal.{Refusal}
use Rattle.lists.specs.Lists.{pick}
use Rattle.pattern.proofs.Counts.{shells_counted}
use Rattle.pattern.proofs.Passed.{pattern_passed}
use Rattle.pattern.specs.Checks.{pattern_faults}
use Rattle.pattern.specs.Contents.{Content, Pattern, content}
use Rattle.store.proofs.View.{held_full}
use Rattle.store.specs.Store.{count_table, held}
use Rattle.store_check.proofs.Laws.{held_limits}

-- ---- whether there is a shell
pub presence_refused : (fs : List Refusal) (c : Content) (n : ℕ) (f : Refusal) → first fs ≡ Err f → (Err (Unread f)) ≡ presence_of fs c n
presence_refused [] c n f h = cc
presence_refused (g ∷ fs) c n f h = let e : f ≡ g = cc in ap (λ x. Err (Unread x)) e

module _ (fs : List Refusal) (ok : fs ≡ []) (c : Content) (n : ℕ) where
  pub presence_none : length c.shells ≤ n → (Err (Refused not_there)) ≡ presence_of fs c n
  presence_none h = rw (ok, le-ltb n (length c.shells) h)

  pub presence_there : n < length c.shells → Ok tt ≡ presence_of fs c n
  presence_there h = rw (ok, lt-ltb n (length c.shells) h)

-- and back
there_picked : {T E : Type 0} (b : Bool) (x : T) (e : E) → pick b (Ok x) (Err e) ≡ Ok x → b ≡ true
there_picked true x e h = refl
there_picked false x e h = cc

-- a call that is refused has no shell
pub refused_apart : {T E : Type 0} (e : E) (x : T) → Err e ≡ Ok x → true ≡ false
refused_apart e x h = cc

there_none : (fs : List Refusal) (c : Content) (n : ℕ) → presence_of fs c n ≡ Ok tt → fs ≡ []
there_none [] c n h = refl
there_none (f ∷ fs) c n h = cc

module _ (p : Pattern) (n : ℕ) (h : presence p n ≡ Ok tt) where
  pub there_fine : pattern_faults p ≡ []
  there_fine = there_none (pattern_faults p) (content p) n h

  pub there_here : n < get_or p.counts 5 0
  there_here =
      let shells = length (content p).shells in
      omega (arith, ltb-true n shells (there_picked (ltb n shells) tt (Refused not_there) (rw there_fine at h)), length-take (get_or p.counts 5 0) p.shells)

-- what the functions on a shell ask of the tables
module _ (t : List ℕ) (spans : List Float) where
  pub there_ready : (n : ℕ) → presence (held t spans) n ≡ Ok tt → Faultless t × (n < get_or (count_table t) 5 0)
  there_ready n h = (record { spans = spans; ok = there_fine (held t spans) n h }, there_here (held t spans) n h)

  -- as many shells as the counts say
  pub shells_held : length t ≡ 12312 → pattern_faults (held t spans) ≡ [] → length (content (held t spans)).shells ≡ get_or (count_table t) 5 0
  shells_held long ok = shells_counted (held t spans) (held_limits t spans long (pattern_passed (held t spans) ok).counts) (held_full t spans long)
