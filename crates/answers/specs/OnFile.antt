-- A closure called on the store that a file was read into. Cited by inner contracts.
use Rattle.std.specs.Prelude.{ℕ, List, ◌≡◌, Float, Result, Ok, Err, replicate}
use Rattle.std.specs.Float.{binary64}
use Rattle.std.specs.Float.Ieee.{of_bits}
use Rattle.std.specs.Fn.{Called, Mut}
use denote.Ref.{MutBor}
use Rattle.answers.specs.Values.{unread}
use Rattle.answers.specs.declared.Answer.{Answer}
use Rattle.errors.specs.Faults.{first}
use Rattle.errors.specs.declared.Refusal.{Refusal}
use Rattle.pattern.specs.Contents.{Pattern}
use Rattle.pattern_file.specs.File.{table_faults}
use Rattle.store.specs.Store.{held}
use Rattle.store_read.specs.Loading.{loaded}

-- the store, lent
abbrev pub Stores : Type 0
Stores = MutBor (List ℕ) × (MutBor (List Float) × Unit {0})

-- tell says what a result r of the closure is as an answer
module _ {F R : Type 0} (g : Mut F Stores (R × Stores)) (tell : R → Answer) where
  -- a call of f at a store that holds p may give r, answered a, and leave f'
  pub record CalledOn (f : F) (p : Pattern) (a : Answer) (f' : F) : Type 0 where
    pub tables : MutBor (List ℕ)
    pub spans : MutBor (List Float)
    pub holds : held tables.now spans.now ≡ p
    pub gives : R
    pub left : Stores
    pub called : Called g f (tables, (spans, tt)) (gives, left) f'
    pub told : a ≡ tell gives

  -- f is called where the length and the contents table are right
  abbrev pub CalledIf : F → Result Unit Refusal → Pattern → Answer → F → Type 0
  CalledIf f (Ok x) p a f' = CalledOn f p a f'
  CalledIf f (Err e) p a f' = (a ≡ unread e) × (f' ≡ f)

  -- at a store of zeros that file s was read into
  pub record OnFile (f : F) (s : List ℕ) (a : Answer) (f' : F) : Type 0 where
    pub done : CalledIf f (first (table_faults s)) (loaded (held (replicate 12312 0) (replicate 2048 (of_bits binary64 0))) s) a f'
