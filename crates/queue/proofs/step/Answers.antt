-- The job, on the bytes that are there; and the file after it.
use Rattle.std.specs.Prelude.{Option, unwrap_or}
use Prim.Native.Nat.{ℕ, min}
use Rattle.queue.proofs.Texts.{stepped}
use mathlib.Core.Path.{◌∙◌, ap}
use borrow.Author.Rules.{rules}
use Rattle.queue.proofs.step.Goals as goal

pair : {A B : Type 0} → A → B → A × B
pair a b = (a, b)

-- a record from the pairs that a law gives
split2 : {A B R : Type 0} → (A → B → R) → A × B → R
split2 f p = f p.0 p.1

pub returns : goal.returns
returns c = let args = c.args in
    split2 (λ x y. record { text_after = x; file_after = (y.0, c.then_some.ensures ∙ y.1); length_after = ap (λ (o : Option ℕ). unwrap_or o (min args.n 41049)) c.then_some.ensures ∙ y.2 }) (stepped args.line.now args.file.now _ _ _ _ (search rules) c.min-m.ensures args.text.now _ _ _ _ (pair c.run-job.ensures.text_after c.run-job.ensures.out_after) c.put_edited-length.ensures)
