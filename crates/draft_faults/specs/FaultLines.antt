-- The line that says what is wrong with a text (docs/GUIDE.md, A first garment by hand).
use Rattle.draft_text.specs.declared.DraftError.{DraftError}
use Rattle.draft_text.specs.declared.DraftError.TheVariants.{At, Marked, NotEmpty, Nothing, TooLong}
use Rattle.draft_forms.specs.declared.LineKind.{LineKind}
use Rattle.draft_forms.specs.declared.LineKind.TheVariants.{Edge, Empty, Face, Point, Unknown}
use Rattle.std.specs.Prelude.{ℕ, List, [], ◌++◌, eqb, Err, Ok, Result}
use Rattle.errors.specs.Numbers.{number}
use Rattle.lists.specs.Lists.{pick}
use Rattle.output.specs.Text.{ascii, decimal, field}
use Rattle.draft_text.specs.declared.Fault.{Fault}
use Rattle.draft_text.specs.declared.Fault.TheVariants.{Number, Refused, Word}

unfoldable pub line_form : LineKind → List ℕ
line_form Point = ascii "point NUMBER label LABEL\n"
line_form Edge = ascii "edge NUMBER from POINT to POINT span T0 T1\n"
line_form Face = ascii "face NUMBER surface SURFACE wire USE .. wire USE ..\n"
line_form Empty = ascii "empty\n"
line_form other = ascii "shell NUMBER faces LISTING ..\n"

-- the word of a line that has a number
unfoldable pub line_word : LineKind → List ℕ
line_word Point = ascii ": point "
line_word Edge = ascii ": edge "
line_word Face = ascii ": face "
line_word other = ascii ": shell "

-- the meaning of a refusal of the reading checks (FORMAT 6.1)
unfoldable pub meaning : ℕ → List ℕ
meaning n =
    pick (eqb n 2) (ascii ": more records than the limit\n")
    (pick (eqb n 3) (ascii ": a number that names nothing\n")
    (pick (eqb n 4) (ascii ": bad span\n")
    (pick (eqb n 5) (ascii ": an edge from a point to itself\n")
    (pick (eqb n 6) (ascii ": a wire without uses\n")
    (pick (eqb n 7) (ascii ": a wire that is not closed\n")
    (pick (eqb n 8) (ascii ": a wire that meets a point twice, or meets an earlier wire of its face\n")
    (ascii ": file layout\n")))))))

abbrev pub fault_text : Fault → List ℕ
fault_text (Word Unknown w) = ascii ": begin with point, edge, face, shell, empty or #\n"
fault_text (Word k w) = field ": word " w ++ ascii " of " ++ line_form k
fault_text (Number k n) = line_word k ++ decimal n ++ ascii " is expected\n"
fault_text (Refused f) = field ": refused " (number f) ++ meaning (number f)

abbrev pub error_text : DraftError → List ℕ
error_text (At n f) = field "line " n ++ fault_text f
error_text TooLong = ascii "over 262144 bytes\n"
error_text Marked = ascii "begins with a byte order mark: save the text as UTF-8 without one\n"
error_text Nothing = ascii "says nothing: no point, edge, face or shell (a line \"empty\" makes an empty pattern)\n"
error_text NotEmpty = ascii "has a line \"empty\", and points, edges, faces or shells too\n"

-- nothing where there is no fault
unfoldable pub made_text : Result ℕ DraftError → List ℕ
made_text (Ok n) = []
made_text (Err e) = error_text e
