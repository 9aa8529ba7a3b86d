-- The edges of the bucket in turn, the latest first; the measure is what is left of the way.
use Rattle.mesh_edges.proofs.Chains.{Seeking}
use Rattle.mesh_edges.proofs.find_edge.Given as goal

abbrev pub invariant-loop-c : goal.invariant-loop-c
invariant-loop-c l = Seeking l.t l.spans l.index l.n l.p l.q l.c

abbrev pub decreases-loop-c : goal.decreases-loop-c
decreases-loop-c l = l.c
