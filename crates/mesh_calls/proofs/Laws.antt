-- A reader that is stored and read again; the number of its place; an index that is cleared.
use Prim.Native.Nat.{ℕ}
use mathlib.Core.List.{List, []}
use mathlib.Core.Path.{◌∙◌, ◌≡◌, sym}
use lib.ListN.{get_or, replicate}
use Rattle.mesh.specs.Reading.{State}
use Rattle.mesh_edges.proofs.Noting.{indexed_none}
use Rattle.mesh_edges.specs.Index.{Indexed}
use Rattle.mesh_state.proofs.Laws.{reader_number}
use Rattle.mesh_state.specs.State.{reader_in}
use Rattle.mesh_words.specs.Following.{Follows}
use Rattle.mesh_words.specs.declared.Reader.{Reader}
use Rattle.pattern.specs.Contents.{Pattern}

pub follows_same : {st : State} {r r' : Reader} {p : Pattern} {index : List ℕ} → r' ≡ r → Follows st r p index → Follows st r' p index
follows_same e h = rw e h

-- the list has the number of the place that was come to
pub follows_number : {st : State} (ns : List ℕ) {p : Pattern} {index : List ℕ} → Follows st (reader_in ns) p index → get_or ns 1 0 ≡ st.place
follows_number ns f = sym (reader_number ns) ∙ f.place

pub cleared : {index : List ℕ} → index ≡ replicate 17408 0 → Indexed [] index
cleared e = rw e indexed_none
