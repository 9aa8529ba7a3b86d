use mathlib.Core.Path.{refl}
use Rattle.mesh_words.proofs.Places.{place_is}
use Rattle.mesh_state.proofs.place_in.Goals as goal

pub returns-in_default : goal.returns-in_default
returns-in_default c = place_is refl
