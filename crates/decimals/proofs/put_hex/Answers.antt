-- 0x, then the digits.
use Rattle.std.proofs.Common.{arith}
use Rattle.decimals.proofs.Texts.{put_hex}
use Rattle.decimals.proofs.put_hex.Goals as goal

pub returns : goal.returns
returns c = let p = put_hex _ _ _ _ _ _ c.put_text-digits.ensures c.put_last.ensures in
    (p.0, p.1, omega arith)
