-- The words of the line, in turn.
use Prim.Native.Nat.{◌<◌, ℕ}
use mathlib.Core.Path.{◌∙◌, ap}
use native.Mathlib.Omega.{arith}
use lib.ListN.{get_or, length}
use Rattle.text.specs.Text.{words}
use Rattle.draft_text.proofs.Lines.{Matching, Next, matching, next_none, next_same, read_comment, read_few, read_number, read_part, read_right, read_unknown}
use borrow.Author.Rules.{rules}
use borrow.Author.Tests.{not-false, not-true}
use Rattle.draft_text.proofs.read_line.Goals as goal
use Rattle.draft_text.proofs.read_line.Goals.{After-match_line-m, Joined-n-gt0, else-n-gt0, then-n-gt0+else-values-next}

pair : {A B : Type 0} → A → B → A × B
pair a b = (a, b)

-- a record from the pairs that a law gives
split2 : {A B R : Type 0} → (A → B → R) → A × B → R
split2 f p = f p.0 p.1

-- what the match says
matched : (c : After-match_line-m) → Matching (words c.args.line.now) c.kind_of-first.result.kind c.match_line-m.result.words c.match_line-m.result.all c.match_line-m.new.out
matched c =
    matching _ _ _ _ _ _ _ c.kind_of-first.ensures.0 c.kind_of-first.ensures.1 c.kind_of-first.ensures.2 c.requires (search rules) (pair c.match_line-m.ensures.out_after (pair c.match_line-m.ensures.words_value c.match_line-m.ensures.all_value))

-- the number is the next, or there is none
next : (c : Joined-n-gt0) → Next (matching _ _ _ _ _ _ _ c.kind_of-first.ensures.0 c.kind_of-first.ensures.1 c.kind_of-first.ensures.2 c.requires (search rules) (pair c.match_line-m.ensures.out_after (pair c.match_line-m.ensures.words_value c.match_line-m.ensures.all_value))) c.args.counts c.in_default.not-Comment c.in_default-kind.not-Unknown
next c =
    let matched : Matching (words c.args.line.now) c.kind_of-first.result.kind c.match_line-m.result.words c.match_line-m.result.all c.match_line-m.new.out = matching _ _ _ _ _ _ _ c.kind_of-first.ensures.0 c.kind_of-first.ensures.1 c.kind_of-first.ensures.2 c.requires (search rules) (pair c.match_line-m.ensures.out_after (pair c.match_line-m.ensures.words_value c.match_line-m.ensures.all_value)) in
    let args = c.args in
    let m = matched in
    elim c.if-n-gt0.branch [
      | then-n-gt0+else-values-next w ↦ next_same m args.counts c.in_default.not-Comment c.in_default-kind.not-Unknown w.if-n-gt0.true (w.if-values-next.false ∙ ap (λ (b : ℕ). get_or args.counts b 0) w.body_counted.ensures.0)
      | else-n-gt0 w ↦ next_none m args.counts c.in_default.not-Comment c.in_default-kind.not-Unknown w.if-n-gt0.false
    ]

pub returns-in-Comment : goal.returns-in-Comment
returns-in-Comment c =
    split2 (λ x y. record { kind_value = x; read = y }) (read_comment _ (words _) _ _ c.kind_of-first.ensures.0 c.in-Comment.is)

pub returns-in-Unknown : goal.returns-in-Unknown
returns-in-Unknown c =
    split2 (λ x y. record { kind_value = x; read = y }) (read_unknown _ (words _) _ _ c.kind_of-first.ensures.0 c.in-Unknown.is)

pub bounds-values-0 : goal.bounds-values-0
bounds-values-0 c =
    let l : 0 < length c.match_line-m.new.out = omega (arith, (matched (goal.at.bounds-values-0 c).After-match_line-m).few) in l

pub returns-then-values-next : goal.returns-then-values-next
returns-then-values-next c =
    split2 (λ x y. record { kind_value = x; read = y }) (read_number (matched (goal.at.returns-then-values-next c).After-match_line-m) _ c.in_default.not-Comment c.in_default-kind.not-Unknown _
    (ap (λ (b : ℕ). get_or c.args.counts b 0) c.body_counted.ensures.0) c.if-n-gt0.true c.if-values-next.true)

pub overflow_add-result : goal.overflow_add-result
overflow_add-result c =
    let m = (matched (goal.at.overflow_add-result c).After-match_line-m).few in search rules

pub overflow_add-result-then-n-needed : goal.overflow_add-result-then-n-needed
overflow_add-result-then-n-needed c =
    let m = (matched (goal.at.overflow_add-result-then-n-needed c).After-match_line-m).few in search rules

pub returns-then-not-m : goal.returns-then-not-m
returns-then-not-m c =
    split2 (λ x y. record { kind_value = x; read = y }) (read_part (matched (goal.at.returns-then-not-m c).After-match_line-m) _ c.in_default.not-Comment c.in_default-kind.not-Unknown (next (goal.at.returns-then-not-m c).Joined-n-gt0) (not-true _ c.if-not-m.true))

pub returns-then-n-needed : goal.returns-then-n-needed
returns-then-n-needed c =
    split2 (λ x y. record { kind_value = x; read = y }) (read_few (matched (goal.at.returns-then-n-needed c).After-match_line-m) _ c.in_default.not-Comment c.in_default-kind.not-Unknown (next (goal.at.returns-then-n-needed c).Joined-n-gt0) (rw (← c.needed.ensures) c.if-n-needed.true))

pub returns : goal.returns
returns c =
    split2 (λ x y. record { kind_value = x; read = y }) (read_right (matched (goal.at.returns c).After-match_line-m) _ c.in_default.not-Comment c.in_default-kind.not-Unknown (next (goal.at.returns c).Joined-n-gt0) (not-false _ c.if-not-m.false) (rw (← c.needed.ensures) c.if-n-needed.false))
