-- A reader of a mesh in a lent list of numbers; its layout is nobody's concern. Cited by inner contracts.
use Rattle.std.specs.Prelude.{◌%◌, ℕ, not, List, [], ◌∷◌, eqb, get_or}
use Rattle.mesh_draw.specs.declared.Filled.{Filled}
use Rattle.mesh_words.specs.Following.{place_in}
use Rattle.mesh_words.specs.declared.Reader.{Reader}

abbrev pub filled_in : List ℕ → Filled
filled_in ns = record { points = get_or ns 8 0; edges = get_or ns 9 0; uses = get_or ns 10 0; begun = get_or ns 11 0; faces = get_or ns 12 0 }

abbrev pub byte_in : List ℕ → ℕ → ℕ
byte_in ns k = get_or ns k 0 % 256

abbrev pub reader_in : List ℕ → Reader
reader_in ns = record {
  line = get_or ns 0 0;
  place = place_in (get_or ns 1 0);
  held = not (eqb (get_or ns 2 0) 0);
  word = byte_in ns 13 ∷ byte_in ns 14 ∷ byte_in ns 15 ∷ byte_in ns 16 ∷ byte_in ns 17 ∷ byte_in ns 18 ∷ byte_in ns 19 ∷ byte_in ns 20 ∷ byte_in ns 21 ∷ byte_in ns 22 ∷ byte_in ns 23 ∷ [];
  length = get_or ns 3 0;
  slashed = not (eqb (get_or ns 4 0) 0);
  corners = get_or ns 5 0;
  first = get_or ns 6 0 % 65536;
  last = get_or ns 7 0 % 65536;
  filled = filled_in ns;
}
