use Prim.Native.Nat.{◌<◌, ℕ}
use mathlib.Core.List.{List}
use mathlib.Core.Path.{◌∙◌, ◌≡◌, ap, sym}
use native.Mathlib.Omega.{arith}
use lib.ListN.{get_or}
use Rattle.errors.proofs.Laws.{passed_start}
use Rattle.lists.proofs.Flat.{get_d_tabulate}
use Rattle.pattern_file.proofs.Places.{offset_fault}
use Rattle.pattern_file.specs.File.{file_counts, start_of}
use Rattle.pattern_table.proofs.Laws.{right_end, right_offset, wrong_end, wrong_offset}
use Rattle.pattern_table.proofs.check_offsets.Goals as goal
use Rattle.pattern_table.proofs.check_offsets.Goals.{Start}

start_is : (c : Start) (b : ℕ) → b < 8 → get_or c.args.starts b 0 ≡ start_of (file_counts c.args.s.now) b
start_is c b h = ap (λ (l : List ℕ). get_or l b 0) c.requires.starts_value ∙ get_d_tabulate 8 (start_of (file_counts c.args.s.now)) b 0 h

pub loop-b-init : goal.loop-b-init
loop-b-init c = passed_start (offset_fault (file_counts c.args.s.now)) 0 _ 0

pub returns-then-u32_at-starts : goal.returns-then-u32_at-starts
returns-then-u32_at-starts c =
    wrong_offset c.args.s.now c.loop-b.b c.loop-b.invariant c.loop-b-test.true (λ e. c.if-u32_at-starts.true (c.u32_at.ensures ∙ e ∙ sym (start_is (goal.at.returns-then-u32_at-starts c).Start c.loop-b.b (omega arith))))

pub loop-b-preserved : goal.loop-b-preserved
loop-b-preserved c =
    right_offset c.args.s.now c.loop-b.b c.loop-b.invariant c.loop-b-test.true (sym c.u32_at.ensures ∙ c.if-u32_at-starts.false ∙ start_is (goal.at.loop-b-preserved c).Start c.loop-b.b (omega arith))

pub returns-then-s-starts : goal.returns-then-s-starts
returns-then-s-starts c =
    wrong_end c.args.s.now _ c.loop-b.invariant c.loop-b-test.false (λ e. c.if-s-starts.true (e ∙ sym (start_is (goal.at.returns-then-s-starts c).Start 7 (omega arith))))

pub returns : goal.returns
returns c = right_end c.args.s.now _ c.loop-b.invariant c.loop-b-test.false (c.if-s-starts.false ∙ start_is (goal.at.returns c).Start 7 (omega arith))
