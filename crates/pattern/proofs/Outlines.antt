-- The answers of `wire_place`.
use Rattle.errors.specs.Numbers.{not_there}
use Rattle.errors.specs.declared.CallError.TheVariants.{Refused, Unread}
use Rattle.std.specs.Prelude.{Err, Ok}
use Prim.Native.Nat.{◌+◌, ◌<◌, ◌≤◌, suc, ℕ}
use mathlib.Core.List.{List, [], ◌∷◌}
use mathlib.Core.Path.{◌≡◌, ap, sym}
use native.Mathlib.Omega.{arith}
use lib.ListN.{get_or, length, take}
use lib.Seq.{get_or-take, take-take}
use borrow.Author.Tests.{le-leb, le-ltb, lt-ltb}
use Rattle.errors.specs.Faults.{first}
use Rattle.errors.specs.declared.Refusal.{Refusal}
use Rattle.lists.proofs.Laws.{sum_next, sum_take_drop}
use Rattle.lists.proofs.Split.{get_d_split}
use Rattle.lists.specs.Lists.{split, sum}
use Rattle.pattern.proofs.Counts.{Full, Limited, wires_counted}
use Rattle.pattern.proofs.Named.{wires_summed}
use Rattle.pattern.specs.Checks.{pattern_faults, record_faults}
use Rattle.pattern.specs.Contents.{Content, Pattern, content}
use Rattle.pattern.specs.Outlines.{place_of, wire_place}
use Rattle.wire.specs.Wires.{outline_of}

pub place_refused : (fs : List Refusal) (c : Content) (w : ℕ) (f : Refusal) → first fs ≡ Err f → (Err (Unread f)) ≡ place_of fs c w
place_refused [] c w f h = cc
place_refused (g ∷ fs) c w f h = let e : f ≡ g = cc in ap (λ x. Err (Unread x)) e

module _ (p : Pattern) (ok : pattern_faults p ≡ []) (s : Limited p.counts) (full : Full p) (w : ℕ) where
  pub no_wire : get_or p.counts 3 0 ≤ w → (Err (Refused not_there)) ≡ wire_place p w
  no_wire h = rw (ok, wires_counted p s full, le-ltb w (get_or p.counts 3 0) h)

  pub wire_there : w < get_or p.counts 3 0 → (Ok (sum (take w (content p).wires), get_or (content p).wires w 0)) ≡ wire_place p w
  wire_there h = rw (ok, wires_counted p s full, lt-ltb w (get_or p.counts 3 0) h)

-- the place that is answered is that of the wire: what `wire::outline` hands back there is its outline
pub outline_of_place : (p : Pattern) (w : ℕ) → record_faults (content p) ≡ [] → w < length (content p).wires
    → outline_of (content p).uses (sum (take w (content p).wires)) (get_or (content p).wires w 0) ≡ get_or (split (content p).wires (content p).uses) w []
outline_of_place p w ok h =
    let ns = (content p).wires in
    let fits : sum (take w ns) + get_or ns w 0 ≤ length (content p).uses =
    omega (arith, sum_next ns w, sum_take_drop (suc w) ns, wires_summed (content p) ok) in
    rw (le-leb (sum (take w ns) + get_or ns w 0) (length (content p).uses) fits) (sym (get_d_split ns (content p).uses w))
