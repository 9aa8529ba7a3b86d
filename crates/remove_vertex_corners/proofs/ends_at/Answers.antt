use mathlib.Core.Path.{◌∙◌, ap, sym}
use Rattle.std.specs.Prelude.{is_some}
use Rattle.remove_vertex_corners.proofs.Flagging.{ends_found}
use Rattle.remove_vertex_corners.proofs.ends_at.Goals as goal

pub returns : goal.returns
returns c = c.is_some.ensures ∙ ap is_some c.find_end.ensures ∙ sym (ends_found _ _ _ c.args.wire.now.uses.now 0)
