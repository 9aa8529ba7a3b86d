-- A text made of words joined by single spaces has those words, and a text made of lines that end in a line feed has those lines.
use Prim.Native.Nat.{◌-◌, ◌<◌, ◌≤◌, ℕ}
use mathlib.Core.Bool.{false, true}
use mathlib.Core.List.{List, [], ◌++◌, ◌∷◌, map, map-append}
use mathlib.Core.Path.{◌∙◌, ◌≡◌, ap, refl}
use native.Mathlib.Omega.{arith}
use lib.ListN.{get_or, length}
use lib.Seq.{append_snoc}
use borrow.Author.Tests.{ne_eqb}
use Rattle.lists.proofs.Count.{All, all_append, all_at, all_map, all_weaker}
use Rattle.lists.proofs.Laws.{flat_append}
use Rattle.lists.specs.Lists.{flat}
use Rattle.draft_forms.specs.declared.LineKind.TheVariants.{Empty}
use Rattle.draft_forms.specs.LineForms.{line_kind}
use Rattle.draft_text.proofs.Turns.{not_empty}
use Rattle.draft_text.specs.TextPattern.{has_mark, said}
use Rattle.text.specs.Text.{fed, is_blank, lines, parted, trimmed, words}

-- a byte of a word: no blank, line feed or carriage return
abbrev pub Ink : ℕ → Type 0
Ink b = 33 ≤ b

abbrev pub Word : List ℕ → Type 0
Word w = (0 < length w) × All Ink w

-- a byte of a line: no line feed or carriage return
abbrev pub Inline : ℕ → Type 0
Inline b = 32 ≤ b

abbrev pub spaced : List ℕ → List ℕ
spaced w = 32 ∷ w

-- the words joined by single spaces
abbrev pub sentence : List (List ℕ) → List ℕ
sentence [] = []
sentence (w ∷ ws) = w ++ flat (map spaced ws)

abbrev pub lined : List ℕ → List ℕ
lined s = s ++ (10 ∷ [])

-- the lines of sentences
abbrev pub text : List (List (List ℕ)) → List ℕ
text ss = flat (map lined (map sentence ss))

-- ---- words

no_blank : (b : ℕ) → Ink b → is_blank b ≡ false
no_blank b h = rw (ne_eqb b 32 (λ e. omega arith), ne_eqb b 9 (λ e. omega arith))

-- a word at the front of a line
words_front : (w t : List ℕ) → Word w → parted t ≡ true → words (w ++ t) ≡ w ∷ words t
unfolding words
words_front [] t h p = absurd (omega (arith, h.0))
words_front (b ∷ []) t h p = rw (no_blank b h.1.0, p)
words_front (b ∷ c ∷ w) t h p = rw (no_blank b h.1.0, words_front (c ∷ w) t (omega arith, h.1.1) p, no_blank c h.1.1.0)

parted_spaced : (ws : List (List ℕ)) → parted (flat (map spaced ws)) ≡ true
unfolding flat
parted_spaced [] = refl
parted_spaced (w ∷ ws) = refl

words_spaced : (ws : List (List ℕ)) → All Word ws → words (flat (map spaced ws)) ≡ ws
unfolding flat words
words_spaced [] h = refl
words_spaced (w ∷ ws) h = words_front w (flat (map spaced ws)) h.0 (parted_spaced ws) ∙ rw (words_spaced ws h.1)

pub words_sentence : (ws : List (List ℕ)) → All Word ws → words (sentence ws) ≡ ws
unfolding words
words_sentence [] h = refl
words_sentence (w ∷ ws) h = words_front w (flat (map spaced ws)) h.0 (parted_spaced ws) ∙ rw (words_spaced ws h.1)

-- ---- lines

word_inline : (w : List ℕ) → All Ink w → All Inline w
word_inline w h = all_weaker Ink Inline (λ b k. omega arith) w h

spaced_inline : (ws : List (List ℕ)) → All Word ws → All Inline (flat (map spaced ws))
unfolding flat
spaced_inline [] h = tt
spaced_inline (w ∷ ws) h = (omega arith, all_append Inline w (flat (map spaced ws)) (word_inline w h.0.1) (spaced_inline ws h.1))

sentence_inline : (ws : List (List ℕ)) → All Word ws → All Inline (sentence ws)
sentence_inline [] h = tt
sentence_inline (w ∷ ws) h = all_append Inline w (flat (map spaced ws)) (word_inline w h.0.1) (spaced_inline ws h.1)

fed_line : (s t : List ℕ) → All Inline s → fed (s ++ (10 ∷ t)) ≡ s ∷ fed t
unfolding fed
fed_line [] t h = refl
fed_line (b ∷ s) t h = rw (ne_eqb b 10 (λ e. omega (arith, h.0)), fed_line s t h.1)

trimmed_line : (s : List ℕ) → All Inline s → trimmed s ≡ s
trimmed_line s h =
    rw (ne_eqb (get_or s (length s - 1) 0) 13 (all_at (λ (b : ℕ). b ≡ 13 → ⊥) 0 (λ e. omega arith) s (all_weaker Inline (λ (b : ℕ). b ≡ 13 → ⊥) (λ b k e. omega arith) s h) (length s - 1)))

lines_are : (ls : List (List ℕ)) → All (All Inline) ls → lines (flat (map lined ls)) ≡ ls
unfolding flat fed
lines_are [] h = refl
lines_are (l ∷ ls) h =
    ap lines (append_snoc l 10 (flat (map lined ls)))
    ∙ rw (fed_line l (flat (map lined ls)) h.0, trimmed_line l h.0, lines_are ls h.1)

pub lines_text : (ss : List (List (List ℕ))) → All (All Word) ss → lines (text ss) ≡ map sentence ss
lines_text ss h = lines_are (map sentence ss) (all_map (All Word) (All Inline) sentence sentence_inline ss h)

pub text_append : (ss ts : List (List (List ℕ))) → text (ss ++ ts) ≡ text ss ++ text ts
text_append ss ts =
    rw (map-append sentence ss ts, map-append lined (map sentence ss) (map sentence ts), flat_append (map lined (map sentence ss)) (map lined (map sentence ts)))

-- ---- plain lines: each begins with an ASCII letter, and none says that the pattern is empty

abbrev pub Plain : List (List ℕ) → Type 0
Plain ws = (line_kind ws ≡ Empty → ⊥) × (get_or (get_or ws 0 []) 0 0 < 128)

pub plain_unsaid : (ss : List (List (List ℕ))) → All (All Word) ss → All Plain ss → said (map sentence ss) ≡ false
unfolding said
plain_unsaid [] are h = refl
plain_unsaid (ws ∷ ss) are h = rw (words_sentence ws are.0, not_empty (line_kind ws) h.0.0, plain_unsaid ss are.1 h.1)

pub plain_unmarked : (ss : List (List (List ℕ))) → All (All Word) ss → All Plain ss → has_mark (text ss) ≡ false
unfolding flat
plain_unmarked [] are h = refl
plain_unmarked ([] ∷ ss) are h = refl
plain_unmarked (([] ∷ ws) ∷ ss) are h = absurd (omega (arith, are.0.0.0))
plain_unmarked (((b ∷ w) ∷ ws) ∷ ss) are h = rw (ne_eqb b 239 (λ e. omega (arith, h.0.1)), ne_eqb b 254 (λ e. omega (arith, h.0.1)), ne_eqb b 255 (λ e. omega (arith, h.0.1)))
