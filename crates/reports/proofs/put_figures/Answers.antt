use mathlib.Core.Path.{refl}
use Rattle.reports.proofs.put_figures.Goals as goal

pub connected_of-connected-requires : goal.connected_of-connected-requires
connected_of-connected-requires c = c.requires.wired

pub components_of-components-requires : goal.components_of-components-requires
components_of-components-requires c = c.requires.paired

pub singular_of-singular-requires : goal.singular_of-singular-requires
singular_of-singular-requires c = c.requires.cornered

pub returns : goal.returns
returns c = let singular = c.singular_of-singular.ensures.out_after in
    record {
      connected = c.connected_of-connected.ensures;
      components = c.components_of-components.ensures.value;
      members = refl;
      singular = singular.1;
      pairs = c.components_of-components.ensures.out_after;
      lengths = c.components_of-components.ensures.lens_after;
      corners = singular.0;
    }
