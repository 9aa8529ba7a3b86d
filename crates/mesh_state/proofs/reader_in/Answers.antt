use Rattle.mesh_state.proofs.reader_in.Goals as goal

pub returns : goal.returns
returns c = rw (c.filled_in.ensures, c.place_in.ensures)
