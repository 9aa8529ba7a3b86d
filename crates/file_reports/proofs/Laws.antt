-- What a lent list holds after a report on a file: what the call on the store wrote, if the file was read.
use Rattle.std.specs.Fn.{Called, Mut}
use Rattle.std.specs.Prelude.{Err, Ok, Result}
use denote.Ref.{MutBor}
use lib.Ieee.{Float}
use Rattle.answers.specs.OnFile.{OnFile, Stores}
use Rattle.answers.specs.declared.Answer.{Answer}
use Rattle.store.specs.Store.{held}
use Prim.Native.Nat.{◌<◌, ℕ}
use mathlib.Core.Bool.{false, true, true≢false}
use mathlib.Core.List.{List, []}
use mathlib.Core.Path.{◌∙◌, ◌≡◌, ap, subst, sym}
use lib.ListN.{length}
use lib.Seq.{sets}
use Rattle.answers.proofs.Read.{on_file}
use Rattle.answers.specs.Read.{if_read}
use Rattle.calls.proofs.Answers.{presence_there}
use Rattle.errors.proofs.Laws.{accepted_none, none_left}
use Rattle.errors.specs.Faults.{first}
use Rattle.errors.specs.declared.Refusal.{Refusal}
use Rattle.file_reports.specs.FileReports.{FilePromised, file_counts_out}
use Rattle.pattern_file.proofs.RoundTrip.{content_of_stored}
use Rattle.pattern.specs.Checks.{content_faults, pattern_faults}
use Rattle.pattern_file.specs.File.{file_content, file_faults, table_faults}
use Rattle.shell.specs.OpeningsHold.{OpeningsPromised}
use Rattle.shell_calls.specs.ShellCalls.{ShellPromised}
use Rattle.store_read.proofs.Fresh.{blank, fresh_faults, fresh_pattern}
use Rattle.store_read.specs.Loading.{check_of, loaded}
use Rattle.pattern.specs.Contents.{Content, Pattern, content, counts_of}

-- ---- the counts of a file
module _ (s l : List ℕ) where
  pub counts_refused : (f : Refusal) → check_of s ≡ Err f → l ≡ sets l 0 (file_counts_out s)
  counts_refused f h = ap (λ (k : Result Unit Refusal). sets l 0 (if_read k (counts_of (file_content s)))) (sym h)

  pub counts_loaded : (q : Pattern) → q ≡ loaded blank s → check_of s ≡ Ok tt → (out : List ℕ) → out ≡ sets l 0 q.counts → out ≡ sets l 0 (file_counts_out s)
  counts_loaded q done ok out is =
      let right : table_faults s ≡ [] = none_left (table_faults s) (content_faults (file_content s)) (accepted_none (file_faults s) ok) in
      is ∙ ap (λ (p : Pattern). sets l 0 p.counts) (fresh_pattern s q done (ap first right)) ∙ ap (λ (k : Result Unit Refusal). sets l 0 (if_read k (counts_of (file_content s)))) (sym ok)

-- ---- what is promised of the openings
table_apart : (s : List ℕ) (f : Refusal) → first (table_faults s) ≡ Err f → file_faults s ≡ [] → true ≡ false
table_apart s f h ok = let e : table_faults s ≡ [] = none_left (table_faults s) (content_faults (file_content s)) ok in let k : Err f ≡ (Ok tt) = sym h ∙ ap first e in cc

module _ (s : List ℕ) (n : ℕ) where
  pub kept_refused : (f : Refusal) → first (table_faults s) ≡ Err f → FilePromised s n
  kept_refused f h ok here = absurd (true≢false (table_apart s f h ok))

  pub kept_loaded : (q : Pattern) → q ≡ loaded blank s → first (table_faults s) ≡ Ok tt → ShellPromised q n → FilePromised s n
  kept_loaded q done right kept ok here =
      let e : content q ≡ file_content s = ap content (fresh_pattern s q done right) ∙ content_of_stored (file_content s) in
      let fine : pattern_faults q ≡ [] = ap pattern_faults (fresh_pattern s q done right) ∙ fresh_faults s q done right ∙ ok in
      let there = presence_there (pattern_faults q) fine (content q) n (subst (λ (c : Content). n < length c.shells) (sym e) here) in
      subst (λ (c : Content). OpeningsPromised c n) e (kept (sym there))

  module _ {F R : Type 0} {g : Mut F Stores (R × Stores)} {tell : R → Answer} {f f' : F} {a : Answer} where
    pub kept_on : OnFile g tell f s a f' → ((t : MutBor (List ℕ)) (z : MutBor (List Float)) (r : R) (o : Stores) → Called g f (t, (z, tt)) (r, o) f' → ShellPromised (held t.now z.now) n) → FilePromised s n
    kept_on o is =
        on_file s o (λ e no told same. kept_refused e no)
        (λ p done right c. kept_loaded p done right (subst (λ (q : Pattern). ShellPromised q n) c.holds (is c.tables c.spans c.gives c.left c.called)))
