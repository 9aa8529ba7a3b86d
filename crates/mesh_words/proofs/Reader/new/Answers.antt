use mathlib.Core.Path.{refl}
use native.Mathlib.Omega.{arith}
use Rattle.mesh_words.proofs.Ending.{kept_none}
use Rattle.mesh_words.proofs.Reader.new.Goals as goal

pub returns : goal.returns
returns c p index none = record {
  line = refl;
  place = refl;
  going = λ l. record {
    known = omega arith;
    held = refl;
    slashed = refl;
    long = refl;
    word = refl;
    corners = refl;
    ends = λ few some. absurd (omega arith);
    begun = λ e. refl;
    idle = λ b. refl;
    kept = kept_none p index none c.no_mesh.result c.no_mesh.ensures;
  };
}
