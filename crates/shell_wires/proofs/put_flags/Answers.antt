use Rattle.std.proofs.Common.{◌≡◌, ◌+◌, ◌-◌, arith, length, take, drop, length-take, length-drop, ap, ◌∙◌, replicate}
use Rattle.shell_wires.proofs.Laws.{put_all}
use Rattle.shell_wires.proofs.put_flags.Goals as goal

pub returns : goal.returns
returns c =
    let args = c.args in
    let m = args.at + args.n - args.at in
    let long : length (take m (drop args.at args.out.now)) ≡ args.n = omega (arith, length-take m (drop args.at args.out.now), length-drop args.at args.out.now) in
    put_all _ _ _ _ _ _ c.requires (omega arith) (c.fill.ensures.after (λ y e. e) ∙ ap (λ k. replicate k args.flag) long)
