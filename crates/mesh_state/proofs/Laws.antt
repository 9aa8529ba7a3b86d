-- A reader from its parts; the number of its place in a list.
use Prim.Native.Nat.{ℕ}
use mathlib.Core.Bool.{Bool}
use mathlib.Core.List.{List, [], ◌∷◌}
use mathlib.Core.Path.{◌≡◌}
use lib.ListN.{get_or, length}
use Rattle.lists.proofs.Laws.{tabulate_get_d}
use Rattle.lists.specs.Lists.{tabulate}
use Rattle.mesh_state.specs.State.{reader_in}
use Rattle.mesh_words.proofs.Places.{number_back}
use Rattle.mesh_words.specs.Following.{place_number}
use Rattle.mesh_words.specs.declared.Place.{Place}
use Rattle.mesh_words.specs.declared.Reader.{Reader}

-- a list of eleven, from its elements
pub eleven : (w : List ℕ) → length w ≡ 11 → {a b c d e f g h i j k : ℕ}
    → a ≡ get_or w 0 0 → b ≡ get_or w 1 0 → c ≡ get_or w 2 0 → d ≡ get_or w 3 0 → e ≡ get_or w 4 0 → f ≡ get_or w 5 0 → g ≡ get_or w 6 0 → h ≡ get_or w 7 0 → i ≡ get_or w 8 0 → j ≡ get_or w 9 0 → k ≡ get_or w 10 0
    → a ∷ b ∷ c ∷ d ∷ e ∷ f ∷ g ∷ h ∷ i ∷ j ∷ k ∷ [] ≡ w
unfolding tabulate
eleven w long p0 p1 p2 p3 p4 p5 p6 p7 p8 p9 p10 = rw (p0, p1, p2, p3, p4, p5, p6, p7, p8, p9, p10) (rw long at (tabulate_get_d w 0))

pub same : (r : Reader) {place : Place} {held slashed : Bool} {first last : ℕ} {word : List ℕ} → place ≡ r.place → held ≡ r.held → slashed ≡ r.slashed → first ≡ r.first → last ≡ r.last → word ≡ r.word
    → record { line = r.line; place = place; held = held; word = word; length = r.length; slashed = slashed; corners = r.corners; first = first; last = last; filled = r.filled } ≡ r
same r p h s f l w = rw (p, h, s, f, l, w)

-- the list has the number of the place, whichever it is
pub reader_number : (ns : List ℕ) → place_number (reader_in ns).place ≡ get_or ns 1 0
reader_number ns = number_back (get_or ns 1 0)
