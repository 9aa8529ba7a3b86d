-- Four parts, one after the other; the ends of a span are no NaN.
use Prim.Native.Nat.{◌+◌}
use mathlib.Core.List.{◌++◌}
use mathlib.Core.Path.{refl}
use lib.Ieee.{binary64, to_bits}
use Rattle.lists.proofs.Sets.{sets_then}
use Rattle.pattern_file.proofs.Records.{span_no_nan}
use Rattle.words.specs.Words.{bytes16, bytes64}
use Rattle.store_write.proofs.put_edge.Goals as goal

pub float_to_bits-e : goal.float_to_bits-e
float_to_bits-e c = (span_no_nan _ c.requires.1).0

pub float_to_bits-e-2 : goal.float_to_bits-e-2
float_to_bits-e-2 c = (span_no_nan _ c.requires.1).1

pub returns : goal.returns
returns c = let args = c.args in
    let front = bytes16 args.e.front.0 in
    let back = bytes16 _ in
    let t0 = bytes64 (to_bits binary64 _) in
    let t1 = bytes64 (to_bits binary64 _) in
    sets_then args.out.now _ (front ++ back ++ t0) t1 (args.at + 12) refl
    (sets_then args.out.now _ (front ++ back) t0 (args.at + 4) refl
    (sets_then args.out.now _ front back (args.at + 2) refl c.put_u16.ensures c.put_u16-2.ensures)
    c.put_u64.ensures)
    c.put_u64-2.ensures
