-- A refusal has its line, a file without fault its whole text.
use Rattle.std.specs.Prelude.{Ok}
use lib.ListN.{length}
use mathlib.Core.Path.{◌≡◌}
use mathlib.Core.Path.{◌∙◌, ap, sym}
use lib.Seq.{sets}
use Rattle.errors.specs.Faults.{first}
use Rattle.pattern_file.specs.File.{file_faults}
use Rattle.store.specs.Store.{held}
use Rattle.report_text.proofs.Texts.{file_accepted, file_kept, file_passes, file_refused, refused_kept}
use Rattle.pattern.specs.Contents.{Pattern}
use borrow.Author.Rules.{rules}
use Rattle.report_text.proofs.report.Goals as goal

pub pattern_text-requires : goal.pattern_text-requires
pattern_text-requires c = let P : Pattern = held c.read.new.t c.read.new.spans in
    let right : first (file_faults c.args.bytes.now) ≡ (Ok tt) = sym c.read.ensures.value ∙ c.in-Ok.is in
    (record { spans = c.read.new.spans; ok = file_passes c.args.bytes.now (P) c.read.ensures.spans_after (right) }, search rules)

pub returns-in-Err-clause-out_after : goal.returns-in-Err-clause-out_after
returns-in-Err-clause-out_after c = let no = sym c.read.ensures.value ∙ c.in-Err.is in
    let t = file_refused _ _ no in
    (c.put_refusal.ensures.0 ∙ ap (sets _ 0) t, c.put_refusal.ensures.1 ∙ ap length t)

pub returns-in-Err-clause-report_promised : goal.returns-in-Err-clause-report_promised
returns-in-Err-clause-report_promised c = let no = sym c.read.ensures.value ∙ c.in-Err.is in
    let t = file_refused _ _ no in
    refused_kept c.args.bytes.now _ no

pub returns-in-Ok-clause-out_after : goal.returns-in-Ok-clause-out_after
returns-in-Ok-clause-out_after c = let P : Pattern = held c.read.new.t c.read.new.spans in
    let right : first (file_faults c.args.bytes.now) ≡ (Ok tt) = sym c.read.ensures.value ∙ c.in-Ok.is in
    let file = c.args.bytes.now in
    let yes = right in
    let t = file_accepted file (P) c.read.ensures.spans_after yes in
    let ok = file_passes file (P) c.read.ensures.spans_after yes in
    let w = c.pattern_text.ensures.of_tables c.read.new.spans ok in
    (w.0 ∙ ap (sets _ 0) t, w.1 ∙ ap length t)

pub returns-in-Ok-clause-report_promised : goal.returns-in-Ok-clause-report_promised
returns-in-Ok-clause-report_promised c = let P : Pattern = held c.read.new.t c.read.new.spans in
    let right : first (file_faults c.args.bytes.now) ≡ (Ok tt) = sym c.read.ensures.value ∙ c.in-Ok.is in
    let file = c.args.bytes.now in
    let yes = right in
    let t = file_accepted file (P) c.read.ensures.spans_after yes in
    let ok = file_passes file (P) c.read.ensures.spans_after yes in
    let w = c.pattern_text.ensures.of_tables c.read.new.spans ok in
    file_kept file (P) c.read.ensures.spans_after yes (c.pattern_text.ensures.of_tables_2 c.read.new.spans ok)
