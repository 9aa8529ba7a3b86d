-- The form of a line of text that describes a pattern: its kind, and what each of its words must be (docs/GUIDE.md, A first garment by hand).
use Rattle.std.specs.Prelude.{ℕ, List, [], ◌∷◌, eqb, drop, get_or, None, Option, Some}
use Rattle.std.specs.Str.{bytes_eq}
use Rattle.forms.specs.Forms.{values}
use Rattle.forms.specs.declared.WordKind.{WordKind}
use Rattle.forms.specs.declared.WordKind.TheVariants.{Label, Named, Number, Real, Short, Signed, Wires}
use Rattle.draft_forms.specs.declared.LineKind.{LineKind}
use Rattle.draft_forms.specs.declared.LineKind.TheVariants.{Comment, Edge, Empty, Face, Point, Shell, Unknown}
use Rattle.lists.specs.Lists.{pick}
use Rattle.output.specs.Text.{ascii}
use Rattle.text.specs.Tokens.{name}

-- the kind that a name asks for
unfoldable pub kind_named : List ℕ → LineKind
kind_named w =
    pick (bytes_eq w (ascii "point")) Point
    (pick (bytes_eq w (ascii "edge")) Edge
    (pick (bytes_eq w (ascii "face")) Face
    (pick (bytes_eq w (ascii "shell")) Shell
    (pick (bytes_eq w (ascii "empty")) Empty Unknown))))

-- a comment begins with #; a line with no words is one too
abbrev pub line_kind : List (List ℕ) → LineKind
line_kind [] = Comment
line_kind (w ∷ ws) = pick (eqb (get_or w 0 0) 35) Comment (kind_named w)

-- point NUMBER label LABEL; edge NUMBER from POINT to POINT span T0 T1; face NUMBER surface SURFACE wire USE .. wire USE ..; shell NUMBER faces LISTING ..; empty
unfoldable pub word_kinds : LineKind → List WordKind
word_kinds Point = Number ∷ Named (name (ascii "label")) ∷ Label ∷ []
word_kinds Edge = Number ∷ Named (name (ascii "from")) ∷ Number ∷ Named (name (ascii "to")) ∷ Number ∷ Named (name (ascii "span")) ∷ Real ∷ Real ∷ []
word_kinds Face = Number ∷ Named (name (ascii "surface")) ∷ Short ∷ Named (name (ascii "wire")) ∷ []
word_kinds Shell = Number ∷ Named (name (ascii "faces")) ∷ []
word_kinds other = []

-- the kind of any further word, if there may be one
unfoldable pub further_kind : LineKind → Option WordKind
further_kind Face = Some Wires
further_kind Shell = Some Signed
further_kind other = None

abbrev pub line_values : List (List ℕ) → List ℕ
line_values ws = values (word_kinds (line_kind ws)) (further_kind (line_kind ws)) 0 (drop 1 ws)

-- the body whose records a line of this kind counts
abbrev pub body_counted : LineKind → ℕ
body_counted Point = 0
body_counted Edge = 1
body_counted Face = 4
body_counted other = 5
