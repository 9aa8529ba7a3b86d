-- Room for what is derived of a pattern, with nothing in it. Cited by inner contracts.
use Rattle.std.specs.Prelude.{replicate}
use Rattle.columns.specs.declared.Derived.{Derived}

abbrev pub underived : Derived
underived = record {
  turned = replicate 4096 0;
  starts = replicate 257 0;
  firsts = replicate 257 0;
  places = replicate 257 0;
}
