-- Each check is its part of `list_faults`; the first that refuses ends the call.
use Rattle.std.specs.Prelude.{Err, Ok}
use mathlib.Core.Path.{◌∙◌, ◌≡◌, sym}
use Rattle.pattern.proofs.Counts.{lists_first}
use Rattle.pattern.proofs.Lists.check_numbers.Goals as goal

pub returns : goal.returns
returns c =
    let names : c.check_names.result ≡ Ok tt = c.in_ok-check_names.was in
    let wires : c.check_sum.result ≡ Ok tt = c.in_ok-check_sum.was in
    let faces : c.check_sum-2.result ≡ Ok tt = c.in_ok-check_sum-2.was in
    let shells : c.check_sum-3.result ≡ Ok tt = c.in_ok-check_sum-3.was in
    let p = c.args.self.now in
    c.check_names-2.ensures
    ∙ sym (lists_first p.ends.fronts.now p.uses.now p.wires.now p.faces.now p.shells.now p.listings.now
    ∙ rw (← c.check_names.ensures, names, ← c.check_sum.ensures, wires, ← c.check_sum-2.ensures, faces, ← c.check_sum-3.ensures, shells))
