-- What each edit answers, and what the pattern then is. The reading checks come first; refused, the pattern is as it was (FORMAT 4.1).
use Rattle.errors.specs.declared.CallError.{CallError}
use Rattle.vertex.specs.declared.VertexID.{VertexID}
use Rattle.std.specs.Prelude.{ℕ, ◌+◌, List, length, Result}
use Rattle.curve.specs.declared.Parameter.{Parameter}
use Rattle.edge.specs.declared.EdgeID.{EdgeID}
use Rattle.edit_answers.specs.Answers.{answer_of, judged}
use Rattle.edit_answers.specs.declared.EditError.{EditError}
use Rattle.errors.specs.declared.Refusal.{Refusal}
use Rattle.pattern.specs.Checks.{pattern_faults}
use Rattle.pattern.specs.Contents.{Content, Pattern, content, stored_in}
use Rattle.shell_edits.specs.Edits.{concat_content, concat_faults, cut_content, cut_faults, remove_content, remove_faults, vertex_content, vertex_faults}

-- the pattern after an edit with these refusals, if any
abbrev pub pattern_after : Pattern → List EditError → Content → Pattern
pattern_after p faults c = judged (pattern_faults p) faults (λ (f : Refusal). p) (λ (e : EditError). p) (stored_in p c)

-- the next edge number
abbrev pub next_edge : Pattern → ℕ → EdgeID
next_edge p k = record { 0 = length (content p).edges + k }

abbrev pub cut_answer : Pattern → ℕ → ℕ → ℕ → Parameter → Result (EdgeID × EdgeID) (CallError EditError)
cut_answer p n e v at = answer_of (pattern_faults p) (cut_faults (content p) n e v at) (next_edge p 0, next_edge p 1)

abbrev pub after_cut : Pattern → ℕ → ℕ → ℕ → Parameter → Pattern
after_cut p n e v at = pattern_after p (cut_faults (content p) n e v at) (cut_content (content p) n e v at)

-- the answer of an edit that makes one edge
abbrev pub join_answer : Pattern → List EditError → Result EdgeID (CallError EditError)
join_answer p faults = answer_of (pattern_faults p) faults (next_edge p 0)

abbrev pub remove_answer : Pattern → ℕ → ℕ → Result EdgeID (CallError EditError)
remove_answer p n v = join_answer p (remove_faults (content p) n v)

abbrev pub after_remove : Pattern → ℕ → ℕ → Pattern
after_remove p n v = pattern_after p (remove_faults (content p) n v) (remove_content (content p) n v)

abbrev pub concat_answer : Pattern → ℕ → ℕ → Result EdgeID (CallError EditError)
concat_answer p u v = join_answer p (concat_faults (content p) u v)

abbrev pub after_concat : Pattern → ℕ → ℕ → Pattern
after_concat p u v = pattern_after p (concat_faults (content p) u v) (concat_content (content p) u v)

abbrev pub vertex_answer : Pattern → ℕ → Result VertexID (CallError EditError)
vertex_answer p label = answer_of (pattern_faults p) (vertex_faults (content p) label) (record { 0 = length (content p).points })

abbrev pub after_vertex : Pattern → ℕ → Pattern
after_vertex p label = pattern_after p (vertex_faults (content p) label) (vertex_content (content p) label)
