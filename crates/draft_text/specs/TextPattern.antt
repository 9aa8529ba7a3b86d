-- A pattern file from text, as the program `draft` makes it: the lines in turn (docs/GUIDE.md, A first garment by hand), and then the reading checks (FORMAT 2).
use Rattle.std.specs.Prelude.{◌+◌, ◌-◌, suc, ℕ, Bool, ◌&&◌, ◌||◌, false, true, List, [], ◌++◌, ◌∷◌, map, Result, Ok, Err, eqb, leb, ltb, drop, get_or, length}
use Rattle.errors.specs.Numbers.{Reply, body, done, number, record_number, refused}
use Rattle.errors.specs.declared.Refusal.{Refusal}
use Rattle.draft_forms.specs.LineForms.{body_counted, line_kind, line_values}
use Rattle.draft_forms.specs.declared.LineKind.{LineKind}
use Rattle.draft_forms.specs.declared.LineKind.TheVariants.{Comment, Empty, Unknown}
use Rattle.draft_parts.specs.Parts.{bare, joined, needed_words, nothing, parts_of}
use Rattle.lists.specs.Lists.{pick, unless}
use Rattle.pattern.specs.Checks.{content_faults, count_faults}
use Rattle.pattern.specs.Contents.{Content, counts_of}
use Rattle.pattern_file.specs.File.{file_bytes}
use Rattle.text.specs.Text.{lines, words}
use Rattle.draft_text.specs.declared.DraftError.{DraftError}
use Rattle.draft_text.specs.declared.DraftError.TheVariants.{At, Marked, NotEmpty, Nothing, TooLong}
use Rattle.draft_text.specs.declared.Fault.{Fault}
use Rattle.draft_text.specs.declared.Fault.TheVariants.{Number, Refused, Word}

-- what a line says
abbrev pub line_parts : List (List ℕ) → Content
line_parts ws = parts_of (line_kind ws) (line_values ws)

-- how many records of the line's kind there are: its number must be the next
abbrev pub next_number : LineKind → List ℕ → ℕ
next_number k counts = get_or counts (body_counted k) 0

-- the number that is expected; a word, counted from 1, that is not what a line of this kind has there or is missing
unfoldable pub word_faults : LineKind → ℕ → List (List ℕ) → List Fault
word_faults k n ws =
    let vs = line_values ws in
    unless (eqb (get_or vs 0 n) n) (Number k n)
    ++ unless (eqb (suc (length vs)) (length ws) && leb (needed_words k) (length vs)) (Word k (length vs + 2))

-- nothing is wrong with a comment, the first word with a line of no kind, and with any other line these faults
abbrev pub by_kind : LineKind → List Fault → List Fault
by_kind Comment fs = []
by_kind Unknown fs = Word Unknown 1 ∷ []
by_kind other fs = fs

-- what is wrong with a line after what came before; 2 for a limit passed
unfoldable pub line_faults : Content → List (List ℕ) → List Fault
line_faults p ws =
    let k = line_kind ws in
    by_kind k (word_faults k (next_number k (counts_of p)) ws ++ map Refused (count_faults (counts_of (joined p (line_parts ws)))))

-- the first fault of the lines, the first of which has number n, is the answer
unfoldable pub text_faults : Content → ℕ → List (List ℕ) → List DraftError
text_faults p n [] = []
text_faults p n (l ∷ ls) = map (At n) (line_faults p (words l)) ++ text_faults (joined p (line_parts (words l))) (suc n) ls

-- what all lines say
unfoldable pub gathered : Content → List (List ℕ) → Content
gathered p [] = p
gathered p (l ∷ ls) = gathered (joined p (line_parts (words l))) ls

-- the pattern of a text
abbrev pub text_content : List ℕ → Content
text_content text = gathered nothing (lines text)

-- the file
abbrev pub text_file : List ℕ → List ℕ
text_file text = file_bytes (text_content text)

-- the number of the line with record r of body b
unfoldable pub line_with : ℕ → ℕ → ℕ → List (List ℕ) → ℕ
line_with b r n [] = n
line_with b r n (l ∷ ls) =
    let m = get_or (counts_of (line_parts (words l))) b 0 in
    pick (ltb r m) n (line_with b (r - m) (suc n) ls)

-- the reading checks refuse the pattern at the line of the record
abbrev pub checked : List Refusal → List ℕ → List ℕ → Result ℕ DraftError
checked [] text file = Ok (length file)
checked (f ∷ fs) text file = Err (At (line_with (body f) (record_number f) 1 (lines text)) (Refused f))

abbrev pub first_made : List DraftError → Result ℕ DraftError → Result ℕ DraftError
first_made [] m = m
first_made (e ∷ es) m = Err e

abbrev pub is_empty : LineKind → Bool
is_empty Empty = true
is_empty other = false

-- whether a line says that the pattern is empty
unfoldable pub said : List (List ℕ) → Bool
said [] = false
said (l ∷ ls) = is_empty (line_kind (words l)) || said ls

-- whether a text begins with a byte order mark: of UTF-8, or of UTF-16 in either order
abbrev pub has_mark : List ℕ → Bool
has_mark text =
    let a = get_or text 0 0 in
    let b = get_or text 1 0 in
    pick (eqb a 239) (eqb b 187 && eqb (get_or text 2 0) 191) (pick (eqb a 254) (eqb b 255) (eqb a 255 && eqb b 254))

-- a text must say that its pattern is empty exactly where it is
abbrev pub agreed : Bool → Bool → Result ℕ DraftError → Result ℕ DraftError
agreed empty says m = pick empty (pick says m (Err Nothing)) (pick says (Err NotEmpty) m)

-- a text has at most 262,144 bytes
unfoldable pub made : List ℕ → Result ℕ DraftError
made text =
    pick (ltb 262144 (length text)) (Err TooLong)
    (pick (has_mark text) (Err Marked)
    (first_made (text_faults nothing 1 (lines text))
    (agreed (bare (counts_of (text_content text))) (said (lines text)) (checked (content_faults (text_content text)) text (text_file text)))))

-- a list afterwards: the file, and what stood past it; as it was if there is a fault
abbrev pub made_in : Result ℕ DraftError → List ℕ → List ℕ → List ℕ
made_in (Ok n) file out = file ++ drop (length file) out
made_in (Err e) file out = out

-- ---- the answer in numbers

-- with the line, and the word or the number that is expected
abbrev pub fault_reply : ℕ → Fault → Reply
fault_reply n (Word k w) = refused 0 (n ∷ w ∷ [])
fault_reply n (Number k m) = refused 0 (n ∷ m ∷ [])
fault_reply n (Refused f) = refused (number f) (n ∷ 0 ∷ [])

-- a refusal of the text as a whole has no line
abbrev pub draft_reply : DraftError → Reply
draft_reply (At n f) = fault_reply n f
draft_reply TooLong = refused 0 (0 ∷ 0 ∷ [])
draft_reply Marked = refused 0 (0 ∷ 0 ∷ [])
draft_reply Nothing = refused 0 (0 ∷ 0 ∷ [])
draft_reply NotEmpty = refused 0 (0 ∷ 0 ∷ [])

-- with the length of the file
abbrev pub made_reply : Result ℕ DraftError → Reply
made_reply (Ok n) = done (n ∷ [])
made_reply (Err e) = draft_reply e
