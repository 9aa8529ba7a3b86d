-- The lines of a shell from its figures; the text shell by shell; the text of a file.
use Rattle.solid.specs.declared.SolidError.{SolidError}
use Rattle.std.specs.Prelude.{Err, Ok, Result}
use Prim.Native.Nat.{◌*◌, ◌+◌, ◌-◌, ◌<◌, ◌≤◌, ℕ}
use mathlib.Core.Bool.{false, true, true≢false}
use mathlib.Core.List.{List, [], ◌++◌, ◌∷◌, map}
use mathlib.Core.Path.{◌∙◌, ◌≡◌, ap, refl, sym}
use native.Mathlib.Bridge.{le_prop}
use native.Mathlib.Nat.{sub-zero}
use native.Mathlib.Numerals.{add-one}
use native.Mathlib.Omega.{arith}
use lib.ListN.{get_or, length, length-map, length-replicate, replicate, take}
use lib.Seq.{sets}
use Rattle.columns.specs.Columns.{Made}
use Rattle.columns.proofs.Shells.{content_fine, uses_small}
use Rattle.columns.specs.Sound.{OfTables, Sound}
use Rattle.errors.proofs.Laws.{accepted_none, none_left}
use Rattle.errors.specs.Faults.{first}
use Rattle.errors.specs.declared.Refusal.{Refusal}
use Rattle.lines.specs.Lines.{shell_lines}
use Rattle.lines.specs.Parts.{Fits}
use Rattle.lists.proofs.Parts.{flat_numbers, split_flat}
use Rattle.lists.proofs.Sets.{put_then, take_sets}
use Rattle.lists.specs.Lists.{flat, numbers, split, tabulate}
use Rattle.output.specs.Text.{refusal_line}
use Rattle.pattern.proofs.Counts.{shells_counted}
use Rattle.pattern.specs.Checks.{content_faults, pattern_faults}
use Rattle.pattern.specs.Contents.{Content, Pattern, content}
use Rattle.pattern_file.proofs.RoundTrip.{content_of_stored}
use Rattle.pattern_file.specs.File.{file_content, file_faults, table_faults}
use Rattle.report_text.specs.Report.{ReportPromised, report_of, report_text, shell_report, solid_text, text_for}
use Rattle.report_text.specs.Texts.{Shelled}
use Rattle.report_text.specs.declared.ShellText.{ShellText}
use Rattle.reports.proofs.Columned.{by_pattern}
use Rattle.reports.proofs.Groups.{components_bound, pairs_bound, singular_bound, sum_lengths}
use Rattle.reports.specs.Figures.{Grouped, Opened}
use Rattle.reports.specs.declared.GroupCounts.{GroupCounts}
use Rattle.reports.specs.declared.OpeningCounts.{OpeningCounts}
use Rattle.shell.proofs.Theorem.{promised}
use Rattle.shell.specs.Components.{components}
use Rattle.shell.specs.Openings.{shell_walk}
use Rattle.shell.specs.OpeningsHold.{OpeningsPromised}
use Rattle.shell.specs.Shells.{listings_of}
use Rattle.shell.specs.Singular.{singular_points}
use Rattle.solid.proofs.Laws.{solid_next}
use Rattle.solid.specs.Solid.{errors_of, first_of_solid, in_shell, reason_number, shell_errors, solid_errors, solid_shell}
use Rattle.solid.specs.declared.ShellError.{ShellError}
use Rattle.solid.specs.declared.ShellError.TheVariants.{EmptyShell, NotClosedShell, NotConnected, NotManifold}
use Rattle.store.specs.Store.{count_table, held}
use Rattle.store_read.proofs.Fresh.{blank, fresh_faults, fresh_pattern}
use Rattle.store_read.specs.Loading.{loaded, pattern_of}
use Rattle.solid.specs.Sequence.{and_then, first_error, in_solid}

-- ---- the lines of one shell

-- the part from 0 to k
abbrev part : ℕ → List ℕ → List ℕ
part k ys = take (k - 0) ys

-- a list that was written to the front of zeros
first_of : (m : ℕ) (xs ys : List ℕ) (k : ℕ) → length xs ≤ m → ys ≡ sets (replicate m 0) 0 xs → k ≡ length xs → part k ys ≡ xs
first_of m xs ys k few e h = rw (sub-zero k, e) (take_sets (replicate m 0) xs k (sym h) (omega (arith, few, length-replicate {A = ℕ} m 0)))

module _ (p : Pattern) (s : Sound p) (n : ℕ) (here : n < get_or p.counts 5 0) {o : OpeningCounts} {g : GroupCounts} {walked lens pairs sizes corners : List ℕ}
    (eo : Opened (content p) n (replicate 2048 0) (replicate 2048 0) walked lens o) (eg : Grouped (content p) n (replicate 512 0) (replicate 512 0) (replicate 2048 0) pairs sizes corners g)
    (few : (o.used ≤ 2048) × (o.openings ≤ 2048) × (o.lookups ≤ 1000000)) where
  abbrev O : List (List ℕ)
  O = (shell_walk (content p) n).openings

  abbrev C : List (List ℕ)
  C = components (content p) n

  used_is : o.used ≡ length (flat O)
  used_is = rw eo.counts

  openings_is : o.openings ≡ length (map length O)
  openings_is = ap (λ (r : OpeningCounts). r.openings) eo.counts ∙ sym (length-map O length)

  members_is : g.members ≡ length (flat C)
  members_is = rw eg.counts

  components_is : g.components ≡ length (map length C)
  components_is = ap (λ (r : GroupCounts). r.components) eg.counts ∙ sym (length-map C length)

  singular_is : g.singular ≡ length (singular_points (content p) n)
  singular_is = rw eg.counts

  few_uses : length (flat O) ≤ 2048
  few_uses = omega (arith, used_is, few.0)

  few_openings : length (map length O) ≤ 2048
  few_openings = omega (arith, openings_is, few.1)

  few_components : length (map length C) ≤ 512
  few_components = omega (arith, length-map C length, components_bound p s n here)

  pub groups_few : (g.members ≤ 512) × (g.components ≤ 512) × (g.singular ≤ 2048)
  groups_few = (
    omega (arith, members_is, pairs_bound p s n here),
    omega (arith, components_is, few_components),
    omega (arith, singular_is, singular_bound p s n here),
  )

  uses_first : part o.used walked ≡ flat O
  uses_first = first_of 2048 (flat O) walked o.used few_uses eo.uses used_is

  lens_first : part o.openings lens ≡ map length O
  lens_first = first_of 2048 (map length O) lens o.openings few_openings eo.lengths openings_is

  pairs_first : part g.members pairs ≡ flat C
  pairs_first = first_of 512 (flat C) pairs g.members (pairs_bound p s n here) eg.pairs members_is

  sizes_first : part g.components sizes ≡ map length C
  sizes_first = first_of 512 (map length C) sizes g.components few_components eg.lengths components_is

  points_first : part g.singular corners ≡ singular_points (content p) n
  points_first = first_of 2048 (singular_points (content p) n) corners g.singular (singular_bound p s n here) eg.points singular_is

  pub figures_fit : (out : List ℕ) (at : ℕ) → at + 70300 ≤ length out
      → Fits out at n o.lookups (part o.used walked) (part o.openings lens) (part g.members pairs) (part g.components sizes) (part g.singular corners)
  figures_fit out at room = rw (uses_first, lens_first, pairs_first, sizes_first, points_first) (record {
    room = room;
    number = omega (arith, here, s.limits.shells);
    counted = omega (arith, few.2);
    few_uses = few_uses;
    few_openings = few_openings;
    all_uses = sum_lengths O;
    few_pairs = pairs_bound p s n here;
    few_components = few_components;
    all_pairs = sum_lengths C;
    few_points = singular_bound p s n here;
  })

  abbrev written : List ℕ
  written = shell_lines n (record {
    condition = o.condition.0;
    connected = g.connected;
    openings = split (part o.openings lens) (part o.used walked);
    lookups = o.lookups;
    components = split (part g.components sizes) (part g.members pairs);
    singular = part g.singular corners;
  })

  lines_are : written ≡ shell_lines n (shell_report (content p) n)
  lines_are = rw (uses_first, lens_first, pairs_first, sizes_first, points_first, split_flat O, split_flat C, eo.counts, eg.counts)

  pub shelled : {listings : ℕ} → listings ≡ length (listings_of (content p) n) → (out₀ out : List ℕ) (at after : ℕ) (check : Result Unit ShellError)
      → (out ≡ sets out₀ at written) × (after ≡ at + length written) × (after ≤ at + 70300)
      → check ≡ first_error (errors_of listings g.connected o.condition.0 g.singular)
      → Shelled (content p) n out₀ at out (record { at = after; check = check })
  shelled l out₀ out at after check w c = record {
    written = w.0 ∙ ap (sets out₀ at) lines_are;
    place = w.1 ∙ ap (λ (t : List ℕ). at + length t) lines_are;
    wrong = c ∙ rw (l, eo.counts, eg.counts);
  }

-- ---- shell by shell
abbrev pub lines_to : Content → ℕ → List ℕ
lines_to c n = flat (map (λ (i : ℕ). shell_lines i (shell_report c i)) (numbers n))

abbrev pub wrong_to : Content → ℕ → Result Unit SolidError
wrong_to c n = first_of_solid (flat (map (λ (i : ℕ). in_shell i (shell_errors c i)) (numbers n)))

pub record Writing (t : List ℕ) (shells : ℕ) (out₀ out : List ℕ) (solid : Result Unit SolidError) (at n : ℕ) : Type 0 where
  pub low : n ≤ shells
  pub room : at ≤ 70300 * n
  pub long : length out ≡ length out₀
  pub shell : solid_shell solid ≤ n
  pub each : OfTables t (λ p. (out ≡ sets out₀ 0 (lines_to (content p) n)) × (at ≡ 0 + length (lines_to (content p) n)) × (solid ≡ wrong_to (content p) n))

shell_low : (a : Result Unit SolidError) (n : ℕ) (w : Result Unit ShellError) → solid_shell a ≤ n → solid_shell (and_then a (in_solid n w)) ≤ n
shell_low (Ok x) n (Ok y) h = omega arith
shell_low (Ok x) n (Err e) h = omega arith
shell_low (Err e) n w h = h

-- a pattern has few shells
pub shells_few : {t turned starts firsts places : List ℕ} → Made t turned starts firsts places → get_or (count_table t) 5 0 ≤ 16
shells_few m = by_pattern m (hlevel le_prop) (λ spans s e. s.limits.shells)

module _ {t : List ℕ} {shells : ℕ} {out₀ : List ℕ} where
  pub writing_start : Writing t shells out₀ out₀ (Ok tt) 0 0
  unfolding flat tabulate
  writing_start = record { low = omega arith; room = omega arith; long = refl; shell = omega arith; each = λ spans ok. (refl, refl, refl) }

  module _ {out : List ℕ} {solid : Result Unit SolidError} {at n : ℕ} (v : Writing t shells out₀ out solid at n) (few : shells ≤ 16) where
    pub writing_room : 1126400 ≤ length out₀ → n < shells → at + 70300 ≤ length out
    writing_room r l = omega (arith, v.room, v.long, few)

    pub writing_end : 1126400 ≤ length out₀ → (solid_shell solid < 100) × (at + 64 ≤ length out)
    writing_end r = (omega (arith, v.shell, v.low, few), omega (arith, v.room, v.long, v.low, few))

    pub writing_next : n < shells → (out' : List ℕ) (r : ShellText) (solid' : Result Unit SolidError) → length out' ≡ length out
        → OfTables t (λ p. Shelled (content p) n out at out' r) → r.at ≤ at + 70300
        → solid' ≡ and_then solid (in_solid n r.check) → Writing t shells out₀ out' solid' r.at (n + 1)
    writing_next l out' r solid' long h low is = record {
      low = omega arith;
      room = omega (arith, v.room, low);
      long = long ∙ v.long;
      shell = rw (is, add-one) (omega (arith, shell_low solid n r.check v.shell));
      each = λ spans ok.
          let c = content (held t spans) in
          let w = h spans ok in
          let b = v.each spans ok in
          let lines : ℕ → List ℕ = λ (i : ℕ). shell_lines i (shell_report c i) in
          let put = put_then out₀ 0 (lines_to c n) (lines n) out out' at r.at (b.0, b.1) (w.written, w.place) in
          rw (add-one) (rw (flat_numbers lines n) (put.0, put.1, is ∙ rw (b.2, w.wrong) (sym (solid_next (shell_errors c) n))));
    }

    pub writing_all : shells ≡ get_or (count_table t) 5 0 → OfTables t Sound → shells ≤ n → (out' : List ℕ) (r : ℕ) → (out' ≡ sets out at (solid_text solid)) × (r ≡ at + length (solid_text solid))
        → OfTables t (λ p. (out' ≡ sets out₀ 0 (report_text (content p))) × (r ≡ length (report_text (content p))))
    unfolding report_text solid_errors
    writing_all count sound l out' r h spans ok =
        let p = held t spans in
        let s = sound spans ok in
        let b = v.each spans ok in
        let m : n ≡ length (content p).shells = omega (arith, v.low, count, shells_counted p s.limits s.full) in
        let put = put_then out₀ 0 (lines_to (content p) n) (solid_text (wrong_to (content p) n)) out out' at r (b.0, b.1) (rw b.2 at h) in
        let done : (out' ≡ sets out₀ 0 (lines_to (content p) (length (content p).shells) ++ solid_text (wrong_to (content p) (length (content p).shells)))) × (r ≡ 0 + length (lines_to (content p) (length (content p).shells) ++ solid_text (wrong_to (content p) (length (content p).shells)))) = rw m at put in
        (done.0, omega (arith, done.1))

-- ---- the solid's line
pub reason_low : (e : ShellError) → reason_number e < 100
reason_low EmptyShell = omega arith
reason_low NotConnected = omega arith
reason_low NotClosedShell = omega arith
reason_low NotManifold = omega arith

-- ---- a file
text_refused : (fs : List Refusal) (c : Content) (f : Refusal) → first fs ≡ Err f → refusal_line f ≡ text_for fs c
text_refused [] c f h = cc
text_refused (g ∷ fs) c f h = let e : f ≡ g = cc in ap refusal_line e

pub file_refused : (s : List ℕ) (f : Refusal) → first (file_faults s) ≡ Err f → refusal_line f ≡ report_of s
unfolding report_of
file_refused s f h = text_refused (file_faults s) (file_content s) f h

refused_some : (fs : List Refusal) (f : Refusal) → first fs ≡ Err f → fs ≡ [] → true ≡ false
refused_some [] f h e = cc
refused_some (g ∷ fs) f h e = cc

-- a refused file promises nothing
pub refused_kept : (s : List ℕ) (f : Refusal) → first (file_faults s) ≡ Err f → ReportPromised s
refused_kept s f h ok = absurd (true≢false (refused_some (file_faults s) f h ok))

pub sound_openings : (p : Pattern) → Sound p → (n : ℕ) → OpeningsPromised (content p) n
sound_openings p s n = promised (content p) (content_fine p s) (uses_small p s) n

-- a file without fault was read into a store of zeros
module _ (s : List ℕ) (q : Pattern) (done : q ≡ loaded blank s) (right : first (file_faults s) ≡ Ok tt) where
  none : file_faults s ≡ []
  none = accepted_none (file_faults s) right

  table : first (table_faults s) ≡ Ok tt
  table = rw (none_left (table_faults s) (content_faults (file_content s)) none)

  pub file_pattern : q ≡ pattern_of s
  file_pattern = fresh_pattern s q done table

  pub file_passes : pattern_faults q ≡ []
  file_passes = ap pattern_faults file_pattern ∙ fresh_faults s q done table ∙ none

  pub file_kept : ((n : ℕ) → OpeningsPromised (content q) n) → ReportPromised s
  file_kept h ok = rw (file_pattern, content_of_stored (file_content s)) at h

  pub file_accepted : report_text (content q) ≡ report_of s
  unfolding report_of
  file_accepted = rw (none, file_pattern, content_of_stored (file_content s))
