-- The text of an accepted file, or the line of its refusal.
use mathlib.Core.Path.{◌∙◌, ◌≡◌, sym}
use mathlib.Core.List.{[]}
use Rattle.errors.proofs.Laws.{accepted_none}
use Rattle.pattern_file.specs.File.{file_content, file_faults}
use Rattle.show_text.proofs.Laws.{read_right, read_text, refused_is}
use borrow.Author.Rules.{rules}
use Rattle.show_text.proofs.show.Goals as goal

pub put_pattern-requires : goal.put_pattern-requires
put_pattern-requires c = let right : file_faults c.args.file.now ≡ [] = accepted_none (file_faults c.args.file.now) (sym c.read.ensures.value ∙ c.in-Ok.is) in
    (read_right c.args.file.now _ c.read.ensures.spans_after (right), search rules)

pub returns-in-Err : goal.returns-in-Err
returns-in-Err c = let s = c.args.file.now in
    rw (refused_is (file_faults s) (file_content s) (sym c.read.ensures.value ∙ c.in-Err.is)) (c.put_refusal.ensures.0, c.put_refusal.ensures.1)

pub returns-in-Ok : goal.returns-in-Ok
returns-in-Ok c = let right : file_faults c.args.file.now ≡ [] = accepted_none (file_faults c.args.file.now) (sym c.read.ensures.value ∙ c.in-Ok.is) in
    rw (← read_text c.args.file.now _ c.read.ensures.spans_after (right)) c.put_pattern.ensures
