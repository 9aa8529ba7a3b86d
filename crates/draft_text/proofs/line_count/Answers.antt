-- The words of the line, and what they add.
use Prim.Native.Nat.{ℕ}
use mathlib.Core.List.{List}
use mathlib.Core.Path.{ap, refl}
use lib.ListN.{get_or}
use Rattle.errors.specs.Faults.{each}
use Rattle.text.specs.Text.{words}
use Rattle.draft_text.proofs.Lines.{Matching, matching}
use Rattle.draft_text.proofs.Turns.{line_counts, seven_default}
use Rattle.draft_text.specs.TextPattern.{line_parts}
use borrow.Author.Rules.{rules}
use Rattle.draft_text.proofs.line_count.Goals as goal

pair : {A B : Type 0} → A → B → A × B
pair a b = (a, b)

pub slice_bounds-counts_after-end : goal.slice_bounds-counts_after-end
slice_bounds-counts_after-end c = let matched : Matching (words c.args.line.now) c.kind_of-first.result.kind c.match_line-m.result.words c.match_line-m.result.all c.match_line-m.new.out = matching _ _ _ _ _ _ _ c.kind_of-first.ensures.0 c.kind_of-first.ensures.1 c.kind_of-first.ensures.2 c.requires (search rules) (pair c.match_line-m.ensures.out_after (pair c.match_line-m.ensures.words_value c.match_line-m.ensures.all_value)) in
    (matched).few

pub counts_after-counts-requires : goal.counts_after-counts-requires
unfolding each
counts_after-counts-requires c = refl

pub returns-then-b-lt-BODIES : goal.returns-then-b-lt-BODIES
returns-then-b-lt-BODIES c = let matched : Matching (words c.args.line.now) c.kind_of-first.result.kind c.match_line-m.result.words c.match_line-m.result.all c.match_line-m.new.out = matching _ _ _ _ _ _ _ c.kind_of-first.ensures.0 c.kind_of-first.ensures.1 c.kind_of-first.ensures.2 c.requires (search rules) (pair c.match_line-m.ensures.out_after (pair c.match_line-m.ensures.words_value c.match_line-m.ensures.all_value)) in
    ap (λ (ns : List ℕ). get_or ns c.args.b 0) (line_counts (matched) _ c.counts_after-counts.ensures)

pub returns-else-b-lt-BODIES : goal.returns-else-b-lt-BODIES
returns-else-b-lt-BODIES c = seven_default (line_parts (words _)) _ c.if-b-lt-BODIES.false
