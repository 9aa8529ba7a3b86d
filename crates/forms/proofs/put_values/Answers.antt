-- A word that is not of its kind, a value written, no word left.
use native.Mathlib.Omega.{arith}
use lib.ListN.{length}
use borrow.Author.Rules.{rules}
use Prim.Native.Nat.{◌<◌}
use Rattle.forms.proofs.Values.{Read, reading_all, reading_long, reading_next, reading_not, reading_room, reading_start}
use Rattle.text.proofs.Words.{words_few}
use Rattle.text.specs.Text.{words}
use Rattle.forms.proofs.put_values.Goals as goal
use Rattle.forms.proofs.put_values.Goals.{In-Some-said_by, In_default, In_default-said_by}
use mathlib.Core.Bool.{false, true}

-- what is owed where a word is not of its kind, and where no word is left
stopped : (c : In_default-said_by) → Read c.args.kinds.now c.args.rest (words c.args.line.now) c.args.out.now c.loop-word.out c.loop-word.i false
stopped c = reading_not c.loop-word.invariant c.in-Some.ensures.0 c.kind_at.ensures c.said_by.ensures c.in_default-said_by.is

ended : (c : In_default) → Read c.args.kinds.now c.args.rest (words c.args.line.now) c.args.out.now c.loop-word.out c.loop-word.i true
ended c = reading_all c.loop-word.invariant c.in_default.ensures

-- there is a place for the value of a word
room : (c : In-Some-said_by) → (c.loop-word.i < length c.args.out.now) × (c.loop-word.i < length c.loop-word.out)
room c = reading_room c.loop-word.invariant c.in-Some.ensures.0 (length c.args.line.now) (words_few c.args.line.now) c.requires

pub loop-word-init : goal.loop-word-init
loop-word-init c = reading_start _ _ _ _

pub returns-in_default-said_by-clause-out_after : goal.returns-in_default-said_by-clause-out_after
returns-in_default-said_by-clause-out_after c = (stopped c).0

pub returns-in_default-said_by-clause-words_value : goal.returns-in_default-said_by-clause-words_value
returns-in_default-said_by-clause-words_value c = (stopped c).1.0

pub returns-in_default-said_by-clause-all_value : goal.returns-in_default-said_by-clause-all_value
returns-in_default-said_by-clause-all_value c = (stopped c).1.1

pub offset_bounds-out-i : goal.offset_bounds-out-i
offset_bounds-out-i c = let h = (room c).0 in search rules

pub bounds-out-i : goal.bounds-out-i
bounds-out-i c = (room c).1

pub overflow_add-i : goal.overflow_add-i
overflow_add-i c = let h = (room c).0 in search rules

pub loop-word-smaller : goal.loop-word-smaller
loop-word-smaller c = c.in-Some.ensures.1

pub loop-word-preserved : goal.loop-word-preserved
loop-word-preserved c = reading_next c.loop-word.invariant c.in-Some.ensures.0 c.kind_at.ensures c.said_by.ensures c.in-Some-said_by.is

pub returns-clause-out_after : goal.returns-clause-out_after
returns-clause-out_after c = (ended c).0

pub returns-clause-words_value : goal.returns-clause-words_value
returns-clause-words_value c = (ended c).1.0

pub returns-clause-all_value : goal.returns-clause-all_value
returns-clause-all_value c = (ended c).1.1
