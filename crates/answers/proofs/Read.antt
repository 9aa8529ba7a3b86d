-- A call on a file that was read into a store of zeros. Such a call applies the reading checks itself: it refuses what they refuse.
use denote.Ref.{MutBor}
use lib.Ieee.{Float}
use Rattle.std.specs.Fn.{Called, Mut}
use Rattle.store.specs.Store.{held}
use Rattle.std.specs.Prelude.{Err, Ok, Result}
use Prim.Native.Nat.{ℕ}
use mathlib.Core.List.{List, [], ◌∷◌}
use mathlib.Core.Path.{◌∙◌, ◌≡◌, ap, refl, sym}
use Rattle.answers.specs.OnFile.{CalledIf, CalledOn, OnFile, Stores}
use Rattle.answers.specs.Read.{after_read, if_read, when_read}
use Rattle.answers.specs.Values.{unread}
use Rattle.answers.specs.declared.Answer.{Answer}
use lib.Seq.{sets}
use Rattle.lists.specs.Lists.{flat}
use Rattle.errors.specs.Faults.{first}
use Rattle.errors.specs.declared.Refusal.{Refusal}
use Rattle.pattern.specs.Checks.{pattern_faults}
use Rattle.pattern_file.specs.File.{file_faults, table_faults}
use Rattle.store_read.proofs.Fresh.{blank, fresh_faults, fresh_pattern, table_refused}
use Rattle.store_read.specs.Loading.{check_of, loaded, pattern_of}
use Rattle.pattern.specs.Contents.{Pattern}

-- the contents table is wrong
module _ (s : List ℕ) (f : Refusal) (h : first (table_faults s) ≡ Err f) where
  pub when_refused : {a : Answer} (b : Answer) → a ≡ unread f → a ≡ when_read (check_of s) b
  when_refused b q = q ∙ sym (ap (λ (k : Result Unit Refusal). when_read k b) (table_refused s f h))

  pub if_refused {ℓ} : {A : Type ℓ} (xs : List A) → [] ≡ if_read (check_of s) xs
  if_refused xs = sym (ap (λ (k : Result Unit Refusal). if_read k xs) (table_refused s f h))

  pub after_refused {ℓ} : {A : Type ℓ} (before after : A) → before ≡ after_read (check_of s) before after
  after_refused before after = sym (ap (λ (k : Result Unit Refusal). after_read k before after) (table_refused s f h))

-- what a call answers is what it answers after the reading checks
when_checked : (fs : List Refusal) (a : Answer) → ((f : Refusal) (gs : List Refusal) → fs ≡ f ∷ gs → a ≡ unread f) → a ≡ when_read (first fs) a
when_checked [] a k = refl
when_checked (f ∷ fs) a k = k f fs refl

if_checked {ℓ} : {A : Type ℓ} (fs : List Refusal) (xs : List A) → ((f : Refusal) (gs : List Refusal) → fs ≡ f ∷ gs → xs ≡ []) → xs ≡ if_read (first fs) xs
if_checked [] xs k = refl
if_checked (f ∷ fs) xs k = k f fs refl

after_checked {ℓ} : {A : Type ℓ} (fs : List Refusal) (before x : A) → ((f : Refusal) (gs : List Refusal) → fs ≡ f ∷ gs → x ≡ before) → x ≡ after_read (first fs) before x
after_checked [] before x k = refl
after_checked (f ∷ fs) before x k = k f fs refl

-- the contents table is right, and the store holds pattern q then
module _ (s : List ℕ) (q : Pattern) (done : q ≡ loaded blank s) (right : first (table_faults s) ≡ Ok tt) where
  pub when_loaded : {a : Answer} (call : Pattern → Answer) → ((p : Pattern) (f : Refusal) (fs : List Refusal) → pattern_faults p ≡ f ∷ fs → call p ≡ unread f)
      → a ≡ call q → a ≡ when_read (check_of s) (call (pattern_of s))
  when_loaded call refuses is =
      is ∙ ap call (fresh_pattern s q done right)
      ∙ when_checked (file_faults s) (call (pattern_of s)) (λ f fs h. refuses (pattern_of s) f fs (fresh_faults s q done right ∙ h))

  pub if_loaded {ℓ} : {A : Type ℓ} {xs : List A} (call : Pattern → List A) → ((p : Pattern) (f : Refusal) (fs : List Refusal) → pattern_faults p ≡ f ∷ fs → call p ≡ [])
      → xs ≡ call q → xs ≡ if_read (check_of s) (call (pattern_of s))
  if_loaded call refuses is =
      is ∙ ap call (fresh_pattern s q done right)
      ∙ if_checked (file_faults s) (call (pattern_of s)) (λ f fs h. refuses (pattern_of s) f fs (fresh_faults s q done right ∙ h))

  pub after_loaded {ℓ} : {A : Type ℓ} {x : A} (before : A) (call : Pattern → A) → ((p : Pattern) (f : Refusal) (fs : List Refusal) → pattern_faults p ≡ f ∷ fs → call p ≡ before)
      → x ≡ call q → x ≡ after_read (check_of s) before (call (pattern_of s))
  after_loaded before call refuses is =
      is ∙ ap call (fresh_pattern s q done right)
      ∙ after_checked (file_faults s) before (call (pattern_of s)) (λ f fs h. refuses (pattern_of s) f fs (fresh_faults s q done right ∙ h))

-- ---- a closure that is called on the store that file s was read into

module _ (s : List ℕ) {F R : Type 0} {g : Mut F Stores (R × Stores)} {tell : R → Answer} {f f' : F} {a : Answer} where
  case_of : {P : Type 0} (r : Result Unit Refusal) → first (table_faults s) ≡ r → (q : Pattern) → q ≡ loaded blank s → CalledIf g tell f r q a f'
      → ((e : Refusal) → first (table_faults s) ≡ Err e → a ≡ unread e → f' ≡ f → P)
      → ((p : Pattern) → p ≡ loaded blank s → first (table_faults s) ≡ Ok tt → CalledOn g tell f p a f' → P) → P
  case_of (Err e) h q is o refused called = refused e h o.0 o.1
  case_of (Ok x) h q is o refused called = called q is h o

  -- what holds where the file is refused, and where the call is made, holds
  pub on_file : {P : Type 0} → OnFile g tell f s a f'
      → ((e : Refusal) → first (table_faults s) ≡ Err e → a ≡ unread e → f' ≡ f → P)
      → ((p : Pattern) → p ≡ loaded blank s → first (table_faults s) ≡ Ok tt → CalledOn g tell f p a f' → P) → P
  on_file o refused called = case_of (first (table_faults s)) refl (loaded blank s) refl o.done refused called

  -- the answer, by what the closure gives at the pattern that the store holds
  pub value_on : OnFile g tell f s a f' → (call : Pattern → R) → ((p : Pattern) (e : Refusal) (es : List Refusal) → pattern_faults p ≡ e ∷ es → tell (call p) ≡ unread e)
      → ((t : MutBor (List ℕ)) (z : MutBor (List Float)) (r : R) (o : Stores) → Called g f (t, (z, tt)) (r, o) f' → r ≡ call (held t.now z.now)) → a ≡ when_read (check_of s) (tell (call (pattern_of s)))
  value_on o call refuses is =
      on_file o (λ e h told same. when_refused s e h _ told)
      (λ p done right c. when_loaded s p done right (λ (q : Pattern). tell (call q)) refuses (c.told ∙ ap tell (is c.tables c.spans c.gives c.left c.called) ∙ ap (λ (q : Pattern). tell (call q)) c.holds))

  -- lent is a list that the closure has: it lends it on, and hands it back
  pub after_on : {A : Type 0} {x : A} → OnFile g tell f s a f' → (call : Pattern → A) → (lent : F → MutBor A) → ((p : Pattern) (e : Refusal) (es : List Refusal) → pattern_faults p ≡ e ∷ es → call p ≡ (lent f).now)
      → ((lent f).ghost_name ≡ (lent f').ghost_name → x ≡ (lent f').now)
      → ((t : MutBor (List ℕ)) (z : MutBor (List Float)) (r : R) (o : Stores) → Called g f (t, (z, tt)) (r, o) f' → ((lent f).ghost_name ≡ (lent f').ghost_name) × ((lent f').now ≡ call (held t.now z.now)))
      → x ≡ after_read (check_of s) (lent f).now (call (pattern_of s))
  after_on o call lent refuses after is =
      on_file o (λ e h told same. after (ap (λ (y : F). (lent y).ghost_name) (sym same)) ∙ ap (λ (y : F). (lent y).now) same ∙ after_refused s e h (lent f).now (call (pattern_of s)))
      (λ p done right c. let k = is c.tables c.spans c.gives c.left c.called in after_loaded s p done right (lent f).now call refuses (after k.0 ∙ k.1 ∙ ap call c.holds))

pub flat_none : flat {A = ℕ} [] ≡ []
unfolding flat
flat_none = refl

-- the list takes lists of numbers, as g writes them: all of them in a row, or their lengths
module _ {A : Type 0} (g : List A → List ℕ) (none : g [] ≡ []) (s l : List ℕ) {F R : Type 0} {h : Mut F Stores (R × Stores)} {tell : R → Answer} {f f' : F} {a : Answer} where
  pub list_on : OnFile h tell f s a f' → (call : Pattern → List A) → ((p : Pattern) (e : Refusal) (es : List Refusal) → pattern_faults p ≡ e ∷ es → call p ≡ [])
      → (lent : F → MutBor (List ℕ)) → (lent f).now ≡ l → {x : List ℕ} → ((lent f).ghost_name ≡ (lent f').ghost_name → x ≡ (lent f').now)
      → ((t : MutBor (List ℕ)) (z : MutBor (List Float)) (r : R) (o : Stores) → Called h f (t, (z, tt)) (r, o) f' → ((lent f).ghost_name ≡ (lent f').ghost_name) × ((lent f').now ≡ sets l 0 (g (call (held t.now z.now)))))
      → x ≡ sets l 0 (g (if_read (check_of s) (call (pattern_of s))))
  list_on o call refuses lent before after is =
      on_file s o
      (λ e no told same.
      after (ap (λ (y : F). (lent y).ghost_name) (sym same)) ∙ ap (λ (y : F). (lent y).now) same ∙ before ∙ ap (sets l 0) (sym none ∙ ap g (if_refused s e no (call (pattern_of s)))))
      (λ p done right c.
      let k = is c.tables c.spans c.gives c.left c.called in
      after k.0 ∙ k.1 ∙ ap (λ (q : Pattern). sets l 0 (g (call q))) c.holds ∙ ap (λ (xs : List A). sets l 0 (g xs)) (if_loaded s p done right call refuses refl))
