-- The form of a line: what each of its words after the first must be (docs/GUIDE.md, A first garment by hand and Edits).
use Rattle.std.specs.Prelude.{ℕ, suc, ◌+◌, ◌*◌, List, [], ◌∷◌, eqb, leb, ltb, drop, get_or, length, map, take, None, Option, Some}
use Rattle.std.specs.Str.{bytes_eq}
use Rattle.lists.specs.Lists.{pick}
use Rattle.decimals.specs.Decimals.{real}
use Rattle.output.specs.Text.{ascii}
use Rattle.text.specs.Tokens.{name, number, signed}
use Rattle.forms.specs.declared.WordKind.{WordKind}
use Rattle.forms.specs.declared.WordKind.TheVariants.{Label, Named, Number, Parameter, Real, Short, Signed, Wires}

-- a number below n
abbrev pub below : ℕ → Option ℕ → Option ℕ
below n None = None
below n (Some m) = pick (ltb m n) (Some m) None

-- nine digits and one more
abbrev pub tens : Option ℕ → Option ℕ → Option ℕ
tens None d = None
tens (Some m) None = None
tens (Some m) (Some d) = Some (m * 10 + d)

-- one to ten digits, below 2^32
unfoldable pub label : List ℕ → Option ℕ
label w = pick (leb (length w) 9) (number w) (pick (eqb (length w) 10) (below 4294967296 (tens (number (take 9 w)) (number (drop 9 w)))) None)

-- what a word of each kind says: a number, a use or listing, an f64, an f64 or `nowhere`, a use or `wire`, a number below 65,536, a label; a name, and `wire`, says 65,536; the name 0 takes no word
unfoldable pub token : WordKind → List ℕ → Option ℕ
token Number w = number w
token Signed w = signed w
token Real w = real w
token Parameter w = pick (bytes_eq w (ascii "nowhere")) (Some 0x7ff8000000000000) (real w)
token Wires w = pick (bytes_eq w (ascii "wire")) (Some 65536) (signed w)
token Short w = below 65536 (number w)
token Label w = label w
token (Named n) w = pick (eqb n 0) None (pick (eqb (name w) n) (Some 65536) None)

-- where no word may stand, none says anything
abbrev pub said : Option WordKind → List ℕ → Option ℕ
said None w = None
said (Some kind) w = token kind w

abbrev pub also : Option ℕ → List ℕ → List ℕ
also None vs = []
also (Some v) vs = v ∷ vs

-- the values of the words, up to the first that is not of its kind: word i has kind i of the list, or after its end the kind `rest`, if any
unfoldable pub values : List WordKind → Option WordKind → ℕ → List (List ℕ) → List ℕ
values kinds rest i [] = []
values kinds rest i (w ∷ ws) = also (said (get_or (map Some kinds) i rest) w) (values kinds rest (suc i) ws)
