use native.Mathlib.Omega.{arith}
use Rattle.mesh_words.proofs.Ending.{corner_first, corner_next}
use Rattle.mesh_words.proofs.Reader.corner.Goals as goal

pub returns-then-k-eq0 : goal.returns-then-k-eq0
returns-then-k-eq0 c st q f at same = corner_first f at same c.if-k-eq0.true

pub returns-then-k-lt3 : goal.returns-then-k-lt3
returns-then-k-lt3 c st q f at same = corner_next f at same c.if-k-eq0.false (omega arith) (c.add_side-self.ensures st.mesh st.face.uses)

pub returns-else-k-lt3 : goal.returns-else-k-lt3
returns-else-k-lt3 c st q f at same = corner_next f at same c.if-k-eq0.false (omega arith) (c.add_side-self.ensures st.mesh st.face.uses)
