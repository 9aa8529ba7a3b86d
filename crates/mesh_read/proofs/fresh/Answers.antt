use Rattle.std.proofs.Common.{refl, arith}
use Rattle.mesh_read.proofs.fresh.Goals as goal

pub returns : goal.returns
returns c = λ n m p index e k.
    record {
      line = omega arith;
      place = refl;
      going = λ _. record {
        known = omega arith;
        held = refl;
        slashed = refl;
        long = refl;
        word = refl;
        corners = refl;
        ends = λ _ h. absurd (omega arith);
        begun = λ _. refl;
        idle = λ _. refl;
        kept = k;
      };
    }
