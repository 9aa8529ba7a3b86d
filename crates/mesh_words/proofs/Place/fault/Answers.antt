use mathlib.Core.Path.{sym}
use Rattle.mesh_words.proofs.Places.{refused_fault}
use Rattle.mesh_words.proofs.Place.fault.Goals as goal

pub returns-in-Refused : goal.returns-in-Refused
returns-in-Refused c = rw c.in-Refused.is (sym (refused_fault _))
