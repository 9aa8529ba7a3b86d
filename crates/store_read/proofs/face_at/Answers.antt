use Rattle.store_read.proofs.face_at.Goals as goal

pub returns : goal.returns
returns c = rw (c.u16_at.ensures, c.u16_at-2.ensures)
