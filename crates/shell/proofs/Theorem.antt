-- The theorem of the openings: the walk of a shell; that of one that is Oriented or Closed, where no point is the front of two free uses.
use Rattle.std.specs.Prelude.{None}
use Prim.Native.Nat.{◌+◌, ◌<◌, ◌≤◌, ℕ}
use mathlib.Core.Bool.{Bool, false, true}
use mathlib.Core.List.{List, [], map}
use mathlib.Core.Path.{◌∙◌, ◌≡◌, sym}
use native.Mathlib.Omega.{arith}
use lib.Dec.{eqb}
use lib.ListN.{length, replicate}
use Rattle.edge.specs.Edges.{back_number, front_number}
use Rattle.edge.specs.Uses.{back_of, front_of}
use Rattle.lists.proofs.Alike.{has_count, no_dup_count}
use Rattle.lists.proofs.Count.{All, all_only, all_weaker, count_length, count_none, count_only_le}
use Rattle.lists.proofs.Marks.{AllBelow}
use Rattle.lists.specs.Lists.{count, flat}
use Rattle.pattern.proofs.Named.{ends_apart, point_named}
use Rattle.pattern.specs.Checks.{content_faults}
use Rattle.pattern.specs.Contents.{Content}
use Rattle.shell.proofs.Chain.{from, to}
use Rattle.shell.proofs.Ended.{walk_ends}
use Rattle.shell.proofs.Free.{balanced, once_each}
use Rattle.shell.proofs.Held.{held_none}
use Rattle.shell.proofs.Keeping.{kept_all}
use Rattle.shell.proofs.Level.{IsUse, Level, records_ok, shell_fine}
use Rattle.shell.proofs.Pass.{pass_of_kept}
use Rattle.shell.proofs.Rings.{loop, points_count, rings_long, rings_ruled}
use Rattle.shell.proofs.Walked.{Ring, pass_ok}
use Rattle.shell.specs.Conditions.{alike_to, condition}
use Rattle.shell.specs.OpeningsHold.{OpeningsHold, OpeningsPromised, WalkEnds, fronts_differ}
use Rattle.shell.specs.OnePass.{pass}
use Rattle.shell.specs.Openings.{Walk, back_in, free_uses, front_in, is_free, keep, shell_walk, walk}
use Rattle.shell.specs.Shells.{shell_uses}
use Rattle.wire.specs.Wires.{points}

module _ (fronts backs : List ℕ) where
  -- the walk over uses us, with those of `free` kept
  pub record Opened (free : List ℕ) (w : Walk) : Type 0 where
    pub rings : All (Ring fronts backs) w.openings
    pub same : (q : ℕ → Bool) → count q (flat w.openings) ≡ count q free

  pub opened : (us free : List ℕ) (m : ℕ) → Level fronts backs free → ((p : ℕ) → count (from fronts backs p) free ≤ 1)
      → All (λ (u : ℕ). front_of fronts backs u < m) free → ((q : ℕ → Bool) → count q free ≤ count q us)
      → Opened free (walk (front_of fronts backs) (back_of fronts backs) m us (keep (front_of fronts backs) (back_of fronts backs) free (replicate m None)) 0)
  opened us free m even d i part =
      let kept = keep (front_of fronts backs) (back_of fronts backs) free (replicate m None) in
      let k = kept_all fronts backs free m d i in
      let w = pass_ok fronts backs us kept 0 k.0 (λ p. k.1 (from fronts backs p) ∙ even p ∙ sym (k.1 (to fronts backs p))) in
      let ended = (walk_ends (front_of fronts backs) (back_of fronts backs) m us free part).0 in
      let passed = pass_of_kept (front_of fronts backs) (back_of fronts backs) m us free in
      rw passed (record {
        rings = w.rings;
        same = λ q. omega (arith, w.same q, held_none q (pass (front_of fronts backs) (back_of fronts backs) us kept 0).kept (rw passed at ended), k.1 q);
      })

walk_ended : (c : Content) (n : ℕ) → WalkEnds c n
unfolding free_uses
walk_ended c n =
    let us = shell_uses c n in
    let w = walk_ends (front_in c) (back_in c) (length c.points) us (free_uses us) (λ q. count_only_le q (is_free us) us) in
    record { ended = w.0; asked = w.1 }

-- as many free uses begin as end at every point, so the openings are closed; no point is the front of two free uses, so they meet none twice
pub openings : (c : Content) → content_faults c ≡ [] → AllBelow 65536 c.uses → (n : ℕ) → 2 ≤ condition (shell_uses c n)
    → fronts_differ c n ≡ true → OpeningsHold c n
unfolding free_uses alike_to
openings c ok small n good simple =
    let fronts = map front_number c.edges in
    let backs = map back_number c.edges in
    let us = shell_uses c n in
    let free = free_uses us in
    let m = length c.edges in
    let are-uses : All (IsUse m) free = all_only (IsUse m) (is_free us) us (shell_fine c ok small n).named in
    let distinct : (p : ℕ) → count (from fronts backs p) free ≤ 1 = λ p. omega (arith, points_count fronts backs free p, no_dup_count (points fronts backs free) simple p) in
    let inside : All (λ (u : ℕ). front_of fronts backs u < length c.points) free =
    all_weaker (IsUse m) (λ (u : ℕ). front_of fronts backs u < length c.points) (λ u t. point_named c (records_ok c ok small) u t.1) free are-uses in
    let part : (q : ℕ → Bool) → count q free ≤ count q us = λ q. count_only_le q (is_free us) us in
    let o = opened fronts backs us free (length c.points) (balanced c ok small n good) distinct inside part in
    let loops : count (loop fronts backs) free ≡ 0 =
    count_none (loop fronts backs) free (all_weaker (IsUse m) (λ (u : ℕ). loop fronts backs u ≡ false) (λ u t. ends_apart c (records_ok c ok small) u t.1) free are-uses) in
    let os = (shell_walk c n).openings in
    let found : length (flat os) ≡ length free = omega (arith, o.same (λ (u : ℕ). true), count_length (flat os), count_length free) in
    let looked : (shell_walk c n).lookups ≡ length free + length os = omega (arith, (walk_ended c n).asked, found) in record {
      ruled = rings_ruled fronts backs 0 os o.rings (λ p. omega (arith, o.same (from fronts backs p), distinct p));
      once = λ u. o.same (eqb u) ∙ has_count u free (omega (arith, part (eqb u), once_each us good u));
      looked = looked;
      bound = omega (arith, looked, found, rings_long fronts backs os o.rings (o.same (loop fronts backs) ∙ loops));
    }

pub promised : (c : Content) → content_faults c ≡ [] → AllBelow 65536 c.uses → (n : ℕ) → OpeningsPromised c n
promised c ok small n = record { walked = walk_ended c n; hold = openings c ok small n }
