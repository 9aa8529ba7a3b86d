-- The numbers of an edit's answers (FORMAT 6.1, 6.2); and which answer comes first (FORMAT 4.1, 5.1).
use Rattle.std.specs.Prelude.{ℕ, List, [], ◌∷◌, Result, Ok, Err}
use Rattle.edge.specs.declared.EdgeID.{EdgeID}
use Rattle.edit_answers.specs.declared.EditError.{EditError}
use Rattle.edit_answers.specs.declared.EditError.TheVariants.{CurveRefuses, Disconnected, EdgeNotInShell, NoSpace, NotOneOrTwoWires, SameEnds, SharedFace, SpanRefused, Unmatched, Unnamed, VertexInShell}
use Rattle.edit_answers.specs.declared.FaceEditError.{FaceEditError}
use Rattle.edit_answers.specs.declared.FaceEditError.TheVariants.{EndsNotOnWire, FaceRule, FacesDiffer, NoSpace as Face-as-NoSpace, NotDisjointWires, NothingRemains, NotOneWire, OppositeEdges, Unnamed as Face-as-Unnamed, Wire}
use Rattle.errors.specs.Numbers.{Reply, call_reply, refused, wire_number}
use Rattle.errors.specs.declared.CallError.{CallError}
use Rattle.errors.specs.declared.CallError.TheVariants.{Refused, Unread}
use Rattle.errors.specs.declared.Refusal.{Refusal}
use Rattle.vertex.specs.declared.VertexID.{VertexID}

-- an edit's own refusal, a number alone
abbrev pub edit_number : EditError → ℕ
edit_number Unnamed = 3
edit_number VertexInShell = 14
edit_number EdgeNotInShell = 15
edit_number CurveRefuses = 16
edit_number NoSpace = 17
edit_number NotOneOrTwoWires = 23
edit_number Unmatched = 24
edit_number SameEnds = 25
edit_number SpanRefused = 26
edit_number SharedFace = 27
edit_number Disconnected = 29

abbrev pub face_edit_number : FaceEditError → ℕ
face_edit_number Face-as-Unnamed = 3
face_edit_number (Wire e) = wire_number e
face_edit_number NotDisjointWires = 9
face_edit_number Face-as-NoSpace = 17
face_edit_number NotOneWire = 18
face_edit_number EndsNotOnWire = 19
face_edit_number FacesDiffer = 20
face_edit_number OppositeEdges = 21
face_edit_number NothingRemains = 22
face_edit_number FaceRule = 28

-- the refusal of an edit, its number alone
abbrev pub edit_reply : EditError → Reply
edit_reply e = refused (edit_number e) []

abbrev pub face_edit_reply : FaceEditError → Reply
face_edit_reply e = refused (face_edit_number e) []

-- number and values of the answers: the numbers of the new edges; that of the new point; how many uses and how many wires were written
abbrev pub cut_reply : Result (EdgeID × EdgeID) (CallError EditError) → Reply
cut_reply r = call_reply (λ (p : EdgeID × EdgeID). p.0.0 ∷ p.1.0 ∷ []) edit_reply r

abbrev pub join_reply : Result EdgeID (CallError EditError) → Reply
join_reply r = call_reply (λ (a : EdgeID). a.0 ∷ []) edit_reply r

abbrev pub vertex_reply : Result VertexID (CallError EditError) → Reply
vertex_reply r = call_reply (λ (v : VertexID). v.0 ∷ []) edit_reply r

abbrev pub face_reply : Result (ℕ × ℕ) (CallError FaceEditError) → Reply
face_reply r = call_reply (λ p. p.0 ∷ p.1 ∷ []) face_edit_reply r

-- the reading checks come first, then the edit's own refusals
abbrev pub judged {ℓ} : {A : Type ℓ} {E : Type 0} → List Refusal → List E → (Refusal → A) → (E → A) → A → A
judged (f ∷ fs) es refused not done = refused f
judged [] (e ∷ es) refused not done = not e
judged [] [] refused not done = done

-- an answer of an edit: what is done, unless one of these refuses
abbrev pub answer_of : {T E : Type 0} → List Refusal → List E → T → Result T (CallError E)
answer_of fs es x = judged fs es (λ f. Err (Unread f)) (λ e. Err (Refused e)) (Ok x)
