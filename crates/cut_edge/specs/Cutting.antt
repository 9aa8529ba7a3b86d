-- A cut in the store: the wires afterwards, and the pattern that is stored.
use Rattle.std.specs.Prelude.{ℕ, Bool, List, map, get_or, length}
use Rattle.std.proofs.lemmas.List.Edits.{sets}
use Rattle.cut_edge_wires.specs.Halves.{cut_flagged}
use Rattle.edge.specs.declared.Edge.{Edge}
use Rattle.lists.specs.Lists.{flat, split}
use Rattle.shell_edits.specs.Edits.{each_wire, edited}
use Rattle.store.specs.Store.{count_table, use_table, wire_table}
use Rattle.pattern.specs.Contents.{Pattern, content, stored_in}
use Rattle.store.specs.Columns.{counted, with_edges}

-- the wires in the tables: those with a flag are cut at edge e
abbrev pub cut_in : List Bool → ℕ → List ℕ → List (List ℕ)
cut_in flags e t = each_wire (cut_flagged flags e (get_or (count_table t) 1 0)) 0 (split (counted 3 wire_table t) (counted 2 use_table t))

-- edges stored from place a on
abbrev pub with_halves : Pattern → ℕ → List Edge → Pattern
with_halves p a ds = with_edges p (sets p.edges a ds)

-- the pattern with edges more, and these wires
abbrev pub cut_stored : Pattern → List Edge → List (List ℕ) → Pattern
cut_stored p ds ws = stored_in p (edited (content p) ds (flat ws) (map length ws))
