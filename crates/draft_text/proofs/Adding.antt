-- A line: its words, then the limits, then its parts.
use Rattle.std.specs.Prelude.{Err, Ok, Result}
use Prim.Native.Nat.{◌≤◌, ℕ}
use mathlib.Core.List.{List, [], ◌++◌, ◌∷◌, append-nil, map}
use mathlib.Core.Path.{◌∙◌, ◌≡◌, ap, refl, sym}
use lib.Ieee.{Float}
use lib.ListN.{length}
use Rattle.errors.proofs.Laws.{accepted_none}
use Rattle.errors.specs.Faults.{first}
use Rattle.errors.specs.declared.Refusal.{Refusal}
use Rattle.draft_forms.specs.LineForms.{line_kind, line_values}
use Rattle.draft_forms.specs.declared.LineKind.{LineKind}
use Rattle.draft_forms.specs.declared.LineKind.TheVariants.{Comment, Edge, Empty, Face, Point, Shell, Unknown}
use Rattle.draft_parts.proofs.Added.{content_added, counts_joined}
use Rattle.draft_parts.specs.Adding.{added, summed}
use Rattle.draft_parts.specs.Parts.{joined, needed_words, nothing, parts_of}
use Rattle.pattern.proofs.Counts.{limited}
use Rattle.pattern.specs.Checks.{count_faults}
use Rattle.pattern.specs.Contents.{Content, Pattern, content, counts_of}
use Rattle.store.proofs.View.{held_full, held_seven}
use Rattle.store.specs.Store.{count_table, held}
use Rattle.store_write.proofs.Parts.{counts_same}
use Rattle.draft_text.proofs.Lines.{wrong_right}
use Rattle.draft_text.specs.Gathering.{first_wrong, read_faults}
use Rattle.draft_text.specs.TextPattern.{by_kind, line_faults, line_parts, next_number, word_faults}
use Rattle.draft_text.specs.declared.Fault.{Fault}
use Rattle.draft_text.specs.declared.Fault.TheVariants.{Refused}

-- an answer, and the next if that is right
abbrev or_then : Result Unit Fault → Result Unit Fault → Result Unit Fault
or_then (Ok x) r = r
or_then (Err f) r = Err f

abbrev of_check : Result Unit Refusal → Result Unit Fault
of_check (Ok x) = Ok x
of_check (Err f) = Err (Refused f)

first_append : (xs ys : List Fault) → first_wrong (xs ++ ys) ≡ or_then (first_wrong xs) (first_wrong ys)
first_append [] ys = refl
first_append (x ∷ xs) ys = refl

first_limits : (fs : List Refusal) → first_wrong (map Refused fs) ≡ of_check (first fs)
first_limits [] = refl
first_limits (f ∷ fs) = refl

-- the limits are no fault of a comment
abbrev past_comment : LineKind → List Fault → List Fault
past_comment Comment fs = []
past_comment other fs = fs

past_other : (k : LineKind) (fs : List Fault) → (k ≡ Comment → ⊥) → past_comment k fs ≡ fs
past_other Point fs h = refl
past_other Edge fs h = refl
past_other Face fs h = refl
past_other Shell fs h = refl
past_other Comment fs h = absurd (h refl)
past_other Empty fs h = refl
past_other Unknown fs h = refl

first_kind : (k : LineKind) (xs ys : List Fault) → first_wrong (by_kind k (xs ++ ys)) ≡ or_then (first_wrong (by_kind k xs)) (first_wrong (past_comment k ys))
first_kind Point xs ys = first_append xs ys
first_kind Edge xs ys = first_append xs ys
first_kind Face xs ys = first_append xs ys
first_kind Shell xs ys = first_append xs ys
first_kind Comment xs ys = refl
first_kind Empty xs ys = first_append xs ys
first_kind Unknown xs ys = refl

joined_none : (p : Content) → p ≡ joined p nothing
joined_none p = λ i. record {
  points = sym (append-nil p.points) i;
  edges = sym (append-nil p.edges) i;
  uses = sym (append-nil p.uses) i;
  wires = sym (append-nil p.wires) i;
  faces = sym (append-nil p.faces) i;
  shells = sym (append-nil p.shells) i;
  listings = sym (append-nil p.listings) i;
}

-- the words of a line first, and then the limits
turn_of : (p : Content) (counts : List ℕ) → counts_of p ≡ counts → (ws : List (List ℕ)) → first_wrong (line_faults p ws) ≡ or_then (first_wrong (read_faults counts ws)) (first_wrong (past_comment (line_kind ws) (map Refused (count_faults (summed counts (counts_of (line_parts ws)))))))
unfolding line_faults read_faults
turn_of p counts are ws =
    let both = counts_joined p (line_parts ws) ∙ ap (λ (ns : List ℕ). summed ns (counts_of (line_parts ws))) are in
    rw (both, are)
    (first_kind (line_kind ws) (word_faults (line_kind ws) (next_number (line_kind ws) counts) ws) (map Refused (count_faults (summed counts (counts_of (line_parts ws))))))

-- ---- a store within the limits, before the line

pub record Ready (t : List ℕ) (spans : List Float) (counts : List ℕ) : Type 0 where
  pub long : length t ≡ 12312
  pub few : count_faults (count_table t) ≡ []
  pub counts_are : counts ≡ count_table t

module _ {t : List ℕ} {spans : List Float} {counts : List ℕ} (r : Ready t spans counts) where
  abbrev p : Content
  p = content (held t spans)

  same_counts : counts_of p ≡ counts
  same_counts = counts_same (held t spans) (held_full t spans r.long) (held_seven t spans r.long) r.few ∙ sym r.counts_are

  pub few_counts : count_faults counts ≡ []
  few_counts = ap count_faults r.counts_are ∙ r.few

  module _ (ws : List (List ℕ)) where
    abbrev after : List ℕ
    after = summed counts (counts_of (line_parts ws))

    in_turn : first_wrong (line_faults p ws) ≡ or_then (first_wrong (read_faults counts ws)) (first_wrong (past_comment (line_kind ws) (map Refused (count_faults after))))
    in_turn = turn_of p counts same_counts ws

    -- what is owed: the answer, and if it is right the counts and the content with the line's parts
    abbrev pub Owed : Result Unit Fault → List ℕ → Content → Type 0
    Owed check ns q = (check ≡ first_wrong (line_faults p ws)) × (check ≡ Ok tt → (count_faults ns ≡ []) × (q ≡ joined p (line_parts ws)))

    pub line_wrong : (f : Fault) (ns : List ℕ) (q : Content) {a : Result Unit Fault} → a ≡ Err f → Err f ≡ first_wrong (read_faults counts ws) → Owed a ns q
    line_wrong f ns q i e = (i ∙ sym (in_turn ∙ rw (sym e)), λ r. wrong_right f (sym i ∙ r))

    pub line_comment : (k : LineKind) → Ok tt ≡ first_wrong (read_faults counts ws) → k ≡ line_kind ws → k ≡ Comment → Owed (Ok tt) (count_table t) p
    unfolding parts_of
    line_comment k right kind e =
        let comment : line_kind ws ≡ Comment = sym kind ∙ e in
        let none : line_parts ws ≡ nothing = ap (λ (k : LineKind). parts_of k (line_values ws)) comment in
        (sym (in_turn ∙ rw (sym right, comment)), λ _. (r.few, rw none (joined_none p)))

-- what the code knows when it has the counts ns after a line of kind k with the values vs
pub record Counted (t : List ℕ) (spans : List Float) (counts : List ℕ) (ws : List (List ℕ)) (k : LineKind) (vs ns : List ℕ) : Type 0 where
  pub ready : Ready t spans counts
  pub right : Ok tt ≡ first_wrong (read_faults counts ws)
  pub kind : k ≡ line_kind ws
  pub other : k ≡ Comment → ⊥
  pub are : vs ≡ line_values ws
  pub counts_are : ns ≡ summed counts (counts_of (parts_of k vs))

module _ {t : List ℕ} {spans : List Float} {counts : List ℕ} {ws : List (List ℕ)} {k : LineKind} {vs ns : List ℕ} (c : Counted t spans counts ws k vs ns) where
  same : parts_of k vs ≡ line_parts ws
  same = rw (c.kind, c.are)

  limits : (check : Result Unit Refusal) → check ≡ first (count_faults ns) → first_wrong (line_faults (content (held t spans)) ws) ≡ of_check check
  limits check e =
      in_turn c.ready ws
      ∙ rw (sym c.right, past_other (line_kind ws) (map Refused (count_faults (after c.ready ws))) (λ q. c.other (c.kind ∙ q)))
      (first_limits (count_faults (after c.ready ws))
      ∙ ap (λ (ms : List ℕ). of_check (first (count_faults ms))) (sym (c.counts_are ∙ ap (λ (r : Content). summed counts (counts_of r)) same))
      ∙ ap of_check (sym e))

  pub line_limit : (f : Refusal) (ms : List ℕ) (q : Content) {a : Result Unit Fault} → a ≡ Err (Refused f) → Err f ≡ first (count_faults ns) → Owed c.ready ws a ms q
  line_limit f ms q i e = (i ∙ sym (limits (Err f) e), λ r. wrong_right (Refused f) (sym i ∙ r))

  module _ (e : Ok tt ≡ first (count_faults ns)) where
    few_after : count_faults (summed (count_table t) (counts_of (parts_of k vs))) ≡ []
    few_after = rw (← c.ready.counts_are, ← c.counts_are) (accepted_none (count_faults ns) (sym e))

    -- what adding the line's records asks for
    pub line_room : needed_words (line_kind ws) ≤ length (line_values ws) → (needed_words k ≤ length vs) × (count_faults (summed (count_table t) (counts_of (parts_of k vs))) ≡ [])
    line_room l = (rw (c.kind, c.are) l, few_after)

    pub line_right : (t' : List ℕ) (spans' : List Float) → held t' spans' ≡ added (held t spans) (parts_of k vs) → Owed c.ready ws (Ok tt) (count_table t') (content (held t' spans'))
    line_right t' spans' a = (
      sym (limits (Ok tt) e),
      λ _. (ap (λ (p : Pattern). count_faults p.counts) a ∙ few_after, ap content a ∙ content_added (held t spans) (parts_of k vs) (held_full t spans c.ready.long) (limited (summed (count_table t) (counts_of (parts_of k vs))) refl few_after) ∙ ap (joined (content (held t spans))) same),
    )
