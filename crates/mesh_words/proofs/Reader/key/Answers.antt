use native.Mathlib.Omega.{arith}
use Rattle.mesh_words.proofs.Ending.{key_face, key_long, key_other, key_point}
use Rattle.mesh_words.proofs.Reader.key.Goals as goal

pub returns-then-self-ne1 : goal.returns-then-self-ne1
returns-then-self-ne1 c st spans index f at = key_long f at c.if-self-ne1.true

pub returns-then-b-eq102 : goal.returns-then-b-eq102
returns-then-b-eq102 c st spans index f at = key_face f at c.if-self-ne1.false c.if-b-eq102.true

pub returns-then-b-ne118 : goal.returns-then-b-ne118
returns-then-b-ne118 c st spans index f at = key_other f at c.if-self-ne1.false c.if-b-ne118.true c.if-b-eq102.false

pub returns : goal.returns
returns c st spans index f at = key_point f at c.if-self-ne1.false c.if-b-ne118.false (c.add_point-self.ensures st.mesh st.face.uses spans index st.line (omega (arith, f.line)))
