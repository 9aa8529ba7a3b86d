-- Every number of an edited content is one of its record's width: so the file of it is read back.
use Rattle.std.specs.Prelude.{None, Option, Some}
use Prim.Native.Nat.{◌+◌, ◌<◌, ◌≤◌, suc, zero, ℕ}
use mathlib.Core.Bool.{Bool, false, true}
use mathlib.Core.List.{List, [], ◌++◌, ◌∷◌}
use mathlib.Core.Path.{◌≡◌, refl}
use native.Mathlib.Omega.{arith}
use lib.Dec.{T, eqb, leb}
use lib.Ieee.{binary64, fits, nan_bits, of_bits, sub}
use lib.Ieee.Bits.{of_bits-fits}
use lib.Ieee.Fits.{add-fits}
use lib.ListN.{get_or-map, drop, get_or, length, take}
use Rattle.curve.specs.Curves.{back_half, cut_curve, front_half, parameter_of, refuses}
use Rattle.curve.specs.declared.Parameter.TheVariants.{At, Nowhere}
use Rattle.edge.specs.Edges.{back_number, front_number}
use Rattle.edge.specs.Uses.{edge_number, turned}
use Rattle.edge.specs.declared.Curve.{Curve}
use Rattle.edge.specs.declared.Edge.{Edge}
use Rattle.lists.proofs.Count.{All, all_append, all_at, all_drop, all_each, all_split, all_take}
use Rattle.lists.proofs.Parts.{all_flat, all_place}
use Rattle.lists.specs.Lists.{flat, has, pick, sum}
use Rattle.pattern.proofs.Counts.{limited}
use Rattle.pattern.proofs.Named.{back_named, front_named, wires_summed}
use Rattle.pattern.proofs.Passed.{content_passed, records_passed}
use Rattle.pattern.specs.Checks.{content_faults, count_faults}
use Rattle.pattern.specs.Contents.{Content, counts_of, zero_edge}
use Rattle.pattern_file.proofs.Fits.{Fits}
use Rattle.shell.proofs.Turned.{turned_low}
use Rattle.shell_edits.proofs.Joining.{all_swapped}
use Rattle.shell_edits.specs.Edits.{cut_wire, cut_wires, each_wire, edge_of, edited, end_place, ending_wires, first_wire, halves_of, joined_edge, last_wire, remove_wires, swap_found, vertex_content, wires_in, wires_of}
use Rattle.shell_edits.specs.NewEdges.{half_edges}
use Rattle.wire.specs.Wires.{find_from}
use Rattle.wire_swaps.specs.Swaps.{swap_subwire}

abbrev CurveFits : Curve → Type 0
CurveFits k = T (fits binary64 k.t0) × T (fits binary64 k.t1)

abbrev Low : ℕ → Type 0
Low u = u < 65536

at_most_sum : (ns : List ℕ) (k : ℕ) → get_or ns k 0 ≤ sum ns
unfolding sum
at_most_sum [] k = omega arith
at_most_sum (n ∷ ns) zero = omega arith
at_most_sum (n ∷ ns) (suc k) = omega (arith, at_most_sum ns k)

-- more edges, and other uses and wires, accepted
module _ (c : Content) (es : List Edge) (uses wires : List ℕ) (fit : Fits c) where
  abbrev new : Content
  new = edited c es uses wires

  pub fits_edited : count_faults (counts_of new) ≡ [] → content_faults new ≡ [] → All (λ (e : Edge). CurveFits e.curve) es → All Low uses → Fits new
  fits_edited few ok curves low =
      let counts = limited (counts_of new) refl few in
      let records = (content_passed new ok).records in
      let named = (records_passed new records).edges in
      let old : All (λ (e : Edge). CurveFits e.curve) c.edges = all_each (λ (e : Edge). CurveFits e.curve) zero_edge c.edges (λ k h. ((fit.edges k h).t0, (fit.edges k h).t1)) in
      let all = all_append (λ (e : Edge). CurveFits e.curve) c.edges es old curves in
      record {
        points = fit.points;
        edges = λ k h.
            let curve = all_place (λ (e : Edge). CurveFits e.curve) zero_edge (c.edges ++ es) all k h in
            record {
              front = omega (arith, front_named new named k h, get_or-map front_number (c.edges ++ es) k zero_edge, counts.points);
              back = omega (arith, back_named new named k h, get_or-map back_number (c.edges ++ es) k zero_edge, counts.points);
              t0 = curve.0;
              t1 = curve.1;
            };
        uses = all_place Low 0 uses low;
        wires = λ k h. omega (arith, at_most_sum wires k, wires_summed new records, counts.uses);
        faces = fit.faces;
        shells = fit.shells;
        listings = fit.listings;
      }

-- one more point
pub fits_vertex : (c : Content) (label : ℕ) → Fits c → label < 4294967296 → Fits (vertex_content c label)
fits_vertex c label fit h =
    let P : ℕ → Type 0 = λ (x : ℕ). x < 4294967296 in
    record {
      points = all_place P 0 (c.points ++ (label ∷ [])) (all_append P c.points (label ∷ []) (all_each P 0 c.points fit.points) (h, tt));
      edges = fit.edges;
      uses = fit.uses;
      wires = fit.wires;
      faces = fit.faces;
      shells = fit.shells;
      listings = fit.listings;
    }

-- ---- the uses of changed wires

all_wires : (change : ℕ → List ℕ → List ℕ) → ((w : ℕ) (us : List ℕ) → All Low us → All Low (change w us)) → (w : ℕ) (wires : List (List ℕ)) → All (All Low) wires → All (All Low) (each_wire change w wires)
unfolding each_wire
all_wires change keeps w [] h = tt
all_wires change keeps w (us ∷ wires) h = (keeps w us h.0, all_wires change keeps (suc w) wires h.1)

wires_low : (c : Content) → Fits c → All (All Low) (wires_in c)
wires_low c fit = all_split Low c.wires c.uses (all_each Low 0 c.uses fit.uses)

low_pick : (b : Bool) (us vs : List ℕ) → All Low us → All Low vs → All Low (pick b us vs)
low_pick true us vs h k = h
low_pick false us vs h k = k

-- ---- cut

module _ (a : ℕ) (small : a + 1 < 32768) where
  halves_low : (u : ℕ) → All Low (halves_of a u)
  halves_low u =
      low_pick (leb 32768 u) (turned (a + 1) ∷ turned a ∷ []) (a ∷ (a + 1) ∷ []) (turned_low (a + 1) (omega arith), (turned_low a (omega arith), tt)) (omega arith, (omega arith, tt))

  cut_low : (e : ℕ) (us : List ℕ) → All Low us → All Low (cut_wire e a us)
  cut_low e us h = go (find_from 0 e us)
    where
      go : (f : Option ℕ) → All Low (swap_found a us f)
      go None = h
      go (Some i) = all_append Low (take i us) (halves_of a (get_or us i 0) ++ drop (suc i) us) (all_take Low i us h) (all_append Low (halves_of a (get_or us i 0)) (drop (suc i) us) (halves_low (get_or us i 0)) (all_drop Low (suc i) us h))

pub cut_wires_low : (c : Content) (n e : ℕ) → Fits c → length c.edges + 1 < 32768 → All Low (flat (cut_wires c n e))
cut_wires_low c n e fit small =
    all_flat Low (cut_wires c n e)
    (all_wires (λ (w : ℕ) (us : List ℕ). pick (has w (wires_of c n)) (cut_wire e (length c.edges) us) us)
    (λ w us h. low_pick (has w (wires_of c n)) (cut_wire e (length c.edges) us) us (cut_low (length c.edges) small e us h) h) 0 (wires_in c) (wires_low c fit))

module _ (d : Edge) (p bits : ℕ) (fit : CurveFits d.curve) where
  pub halves_fit : All (λ (e : Edge). CurveFits e.curve) (half_edges d p (cut_curve d.curve (parameter_of bits)))
  halves_fit = go (nan_bits binary64 bits)
    where
      cut : (b : Bool) → All (λ (e : Edge). CurveFits e.curve) (half_edges d p (pick b None (Some (front_half d.curve (of_bits binary64 bits), back_half d.curve (of_bits binary64 bits)))))
      cut true = tt
      cut false = ((fit.0, of_bits-fits binary64 bits), ((of_bits-fits binary64 bits, fit.1), tt))

      go : (b : Bool) → All (λ (e : Edge). CurveFits e.curve) (half_edges d p (cut_curve d.curve (pick b Nowhere (At (of_bits binary64 bits)))))
      go true = tt
      go false = cut (refuses d.curve (of_bits binary64 bits))

-- ---- remove, concat

zero_fits : CurveFits zero_edge.curve
zero_fits = (of_bits-fits binary64 0, of_bits-fits binary64 0)

pub joined_fits : (c : Content) (u v : ℕ) → Fits c → CurveFits (joined_edge c u v).curve
joined_fits c u v fit =
    let P : Edge → Type 0 = λ (e : Edge). CurveFits e.curve in
    let first = all_at P zero_edge zero_fits c.edges (all_each P zero_edge c.edges (λ k h. ((fit.edges k h).t0, (fit.edges k h).t1))) (edge_number u) in
    (first.0, add-fits binary64 (edge_of c v).curve.t1 (sub binary64 (edge_of c u).curve.t1 (edge_of c v).curve.t0))

pub remove_wires_low : (c : Content) (n p : ℕ) → Fits c → length c.edges < 32768 → All Low (flat (remove_wires c n p))
remove_wires_low c n p fit small =
    let ws = ending_wires c n p in
    let a = length c.edges in
    all_flat Low (remove_wires c n p)
    (all_wires
    (λ (w : ℕ) (us : List ℕ). pick (eqb w (last_wire ws)) (swap_subwire us (end_place c p us) a) (pick (eqb w (first_wire ws)) (swap_subwire us (end_place c p us) (turned a)) us))
    (λ w us h.
    low_pick (eqb w (last_wire ws)) (swap_subwire us (end_place c p us) a) (pick (eqb w (first_wire ws)) (swap_subwire us (end_place c p us) (turned a)) us) (all_swapped [] [] Low us (end_place c p us) a h (omega (arith, small)))
    (low_pick (eqb w (first_wire ws)) (swap_subwire us (end_place c p us) (turned a)) us (all_swapped [] [] Low us (end_place c p us) (turned a) h (turned_low a (omega (arith, small)))) h))
    0 (wires_in c) (wires_low c fit))

-- every stored curve is one of f64
pub curve_fits : (c : Content) (e : ℕ) → Fits c → e < length c.edges → CurveFits (get_or c.edges e zero_edge).curve
curve_fits c e fit h = ((fit.edges e h).t0, (fit.edges e h).t1)
