-- No byte; the first byte, and those after it.
use mathlib.Core.Path.{◌∙◌, ap, sym}
use native.Mathlib.Omega.{arith}
use lib.ListN.{get_or}
use Rattle.mesh.specs.Reading.{ink}
use Rattle.mesh_words.proofs.Runs.{ink_kept, inks_first, inks_none}
use Rattle.mesh_words.specs.Following.{place_number}
use Rattle.mesh_words.proofs.Reader.ink_all.Goals as goal

pub returns-then-n-eq0 : goal.returns-then-n-eq0
returns-then-n-eq0 c st p index f = rw (inks_none c.args.bytes.now (omega arith) st) f

pub returns : goal.returns
returns c st p index f = let bytes = c.args.bytes.now in
    let g = c.ink-r.ensures st p index f in
    let w = ink_kept (get_or bytes 0 0) st in
    rw (inks_first bytes (omega arith) st) (c.spell_all.ensures (ink (get_or bytes 0 0) st) p index g (λ e. w.no_start (sym g.place ∙ ap place_number e)) (λ e. w.no_gap (sym g.place ∙ ap place_number e)))
