-- The line of each record is words joined by single spaces.
use Prim.Native.Nat.{◌<◌, ℕ}
use mathlib.Core.Bool.{Bool, false, true}
use mathlib.Core.List.{List, [], ◌++◌, ◌∷◌, append_assoc, append-nil, map, map-append}
use mathlib.Core.Path.{◌≡◌, ap, refl}
use native.Mathlib.Omega.{arith}
use lib.Dec.{eqb}
use borrow.Author.Tests.{ne_eqb}
use Rattle.answer_lines.specs.AnswerLines.{wires_text}
use Rattle.decimals.specs.Decimals.{real_text}
use Rattle.lines.specs.Lines.{number_line, signed}
use Rattle.lines.specs.Parts.{item}
use Rattle.lists.proofs.Count.{All}
use Rattle.lists.proofs.Laws.{flat_append}
use Rattle.lists.specs.Lists.{flat, pick}
use Rattle.output.specs.Text.{ascii, decimal, field}
use Rattle.show_lines.specs.PatternLines.{edge_line, face_line, point_line, shell_line}
use Rattle.text_round_trip.proofs.Numbers.{decimal_word, is_word, signed_word, word_is}
use Rattle.text_round_trip.proofs.Reals.{real_is}
use Rattle.text_round_trip.proofs.Sentences.{Word, lined, sentence, spaced}

-- a use or listing
abbrev pub Small : ℕ → Type 0
Small u = u < 65536

-- ---- the words of each line

abbrev pub point_words : ℕ → ℕ → List (List ℕ)
point_words k label = ascii "point" ∷ decimal k ∷ ascii "label" ∷ decimal label ∷ []

abbrev pub edge_words : ℕ → ℕ → ℕ → ℕ → ℕ → List (List ℕ)
edge_words k front back t0 t1 =
    ascii "edge" ∷ decimal k ∷ ascii "from" ∷ decimal front ∷ ascii "to" ∷ decimal back ∷ ascii "span" ∷ real_text t0 ∷ real_text t1 ∷ []

-- the uses of each wire, each after 65,536, which says `wire`
abbrev pub marks : List (List ℕ) → List ℕ
marks wires = flat (map (λ (us : List ℕ). 65536 ∷ us) wires)

abbrev pub face_word : ℕ → List ℕ
face_word v = pick (eqb v 65536) (ascii "wire") (signed v)

abbrev pub face_words : ℕ → ℕ → List (List ℕ) → List (List ℕ)
face_words k surface wires = ascii "face" ∷ decimal k ∷ ascii "surface" ∷ decimal surface ∷ map face_word (marks wires)

abbrev pub shell_words : ℕ → List ℕ → List (List ℕ)
shell_words k listings = ascii "shell" ∷ decimal k ∷ ascii "faces" ∷ map signed listings

-- ---- they are words

all_words : (f : ℕ → List ℕ) → ((u : ℕ) → Word (f u)) → (us : List ℕ) → All Word (map f us)
all_words f h [] = tt
all_words f h (u ∷ us) = (h u, all_words f h us)

face_word_lem : (v : ℕ) → Word (face_word v)
unfolding is_word
face_word_lem v = one (eqb v 65536)
  where
    one : (b : Bool) → Word (pick b (ascii "wire") (signed v))
    one true = word_is (ascii "wire") refl
    one false = signed_word v

pub point_words_lem : (k label : ℕ) → All Word (point_words k label)
unfolding is_word
point_words_lem k label = (word_is (ascii "point") refl, (decimal_word k, (word_is (ascii "label") refl, (decimal_word label, tt))))

pub edge_words_lem : (k front back t0 t1 : ℕ) → All Word (edge_words k front back t0 t1)
unfolding is_word
edge_words_lem k front back t0 t1 =
    (word_is (ascii "edge") refl, (decimal_word k, (word_is (ascii "from") refl, (decimal_word front, (word_is (ascii "to") refl, (decimal_word back, (word_is (ascii "span") refl, ((real_is t0).0, ((real_is t1).0, tt)))))))))

pub face_words_lem : (k surface : ℕ) (wires : List (List ℕ)) → All Word (face_words k surface wires)
unfolding is_word
face_words_lem k surface wires = (word_is (ascii "face") refl, (decimal_word k, (word_is (ascii "surface") refl, (decimal_word surface, all_words face_word face_word_lem (marks wires)))))

pub shell_words_lem : (k : ℕ) (listings : List ℕ) → All Word (shell_words k listings)
unfolding is_word
shell_words_lem k listings = (word_is (ascii "shell") refl, (decimal_word k, (word_is (ascii "faces") refl, all_words signed signed_word listings)))

-- ---- they make the line

module _ (k n : List ℕ) where
  point_group : (l label : List ℕ) → k ++ (l ++ (label ++ n)) ≡ (k ++ (l ++ (label ++ []))) ++ n
  point_group l label = simp (append_assoc, append-nil)

  edge_group : (f front t back s t0 b t1 : List ℕ)
      → k ++ (f ++ front) ++ (t ++ back) ++ s ++ t0 ++ b ++ t1 ++ n ≡ (k ++ (f ++ (front ++ (t ++ (back ++ (s ++ (t0 ++ (b ++ (t1 ++ []))))))))) ++ n
  edge_group f front t back s t0 b t1 = simp (append_assoc, append-nil)

  face_group : (s surface wires : List ℕ) → k ++ (s ++ surface) ++ wires ++ n ≡ (k ++ (s ++ (surface ++ wires))) ++ n
  face_group s surface wires = simp append_assoc

  shell_group : (f listings : List ℕ) → k ++ f ++ listings ++ n ≡ (k ++ (f ++ listings)) ++ n
  shell_group f listings = simp append_assoc

pub point_line_lem : (k label : ℕ) → point_line k label ≡ lined (sentence (point_words k label))
unfolding point_line number_line field flat
point_line_lem k label = ap (λ (r : List ℕ). ascii "point " ++ r) (point_group (decimal k) (ascii "\n") (ascii " label ") (decimal label))

pub edge_line_lem : (k front back t0 t1 : ℕ) → edge_line k front back t0 t1 ≡ lined (sentence (edge_words k front back t0 t1))
unfolding edge_line field flat
edge_line_lem k front back t0 t1 =
    ap (λ (r : List ℕ). ascii "edge " ++ r)
    (edge_group (decimal k) (ascii "\n") (ascii " from ") (decimal front) (ascii " to ") (decimal back) (ascii " span ") (real_text t0) (ascii " ") (real_text t1))

items_are : (us : List ℕ) → flat (map item us) ≡ flat (map spaced (map signed us))
unfolding flat
items_are [] = refl
items_are (u ∷ us) = rw (items_are us)

pub shell_line_lem : (k : ℕ) (listings : List ℕ) → shell_line k listings ≡ lined (sentence (shell_words k listings))
unfolding shell_line field flat
shell_line_lem k listings = rw (items_are listings) (ap (λ (r : List ℕ). ascii "shell " ++ r) (shell_group (decimal k) (ascii "\n") (ascii " faces") (flat (map spaced (map signed listings)))))

uses_are : (us : List ℕ) → All Small us → flat (map item us) ≡ flat (map spaced (map face_word us))
unfolding flat
uses_are [] h = refl
uses_are (u ∷ us) h = rw (uses_are us h.1, ne_eqb u 65536 (λ e. omega (arith, h.0)))

wires_are : (wires : List (List ℕ)) → All (All Small) wires → wires_text wires ≡ flat (map spaced (map face_word (marks wires)))
unfolding wires_text flat
wires_are [] h = refl
wires_are (us ∷ wires) h =
    rw (map-append face_word us (marks wires), map-append spaced (map face_word us) (map face_word (marks wires)), flat_append (map spaced (map face_word us)) (map spaced (map face_word (marks wires))), ← uses_are us h.0, ← wires_are wires h.1)

pub face_line_lem : (k surface : ℕ) (wires : List (List ℕ)) → All (All Small) wires → face_line k surface wires ≡ lined (sentence (face_words k surface wires))
unfolding face_line field flat
face_line_lem k surface wires h =
    rw (wires_are wires h)
    (ap (λ (r : List ℕ). ascii "face " ++ r) (face_group (decimal k) (ascii "\n") (ascii " surface ") (decimal surface) (flat (map spaced (map face_word (marks wires))))))
