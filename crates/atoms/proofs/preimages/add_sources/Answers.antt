use Rattle.std.proofs.Common.{◌≡◌, get_or, arith}
use Rattle.bit_set.specs.SetLists.{HasAt, HasRoom}
use Rattle.bit_set.proofs.ForCallers.{adds_first, adds_more, adds_all}
use Rattle.atoms.proofs.UsedStates.{of_edges}
use Rattle.atoms.proofs.preimages.add_sources.Goals as goal

pub edges-init : goal.edges-init
edges-init c = adds_first HasAt HasRoom (λ m a j. (a ≡ (get_or c.args.edges.now m (0, 0)).0) × (j ≡ (get_or c.args.edges.now m (0, 0)).1)) c.args.sets.now.items

pub edges-preserved : goal.edges-preserved
edges-preserved c =
    adds_more HasAt HasRoom (λ m a j. (a ≡ (get_or c.args.edges.now m (0, 0)).0) × (j ≡ (get_or c.args.edges.now m (0, 0)).1)) c.edges.letter-index c.args.sets.now.items
    c.edges.sets.items c.insert_at.new.sets.items c.edges.invariant c.insert_at.ensures

pub returns : goal.returns
returns c =
    of_edges c.args.edges.now c.args.sets.now.items c.edges.sets.items
    (adds_all HasAt HasRoom (λ edge a j. (a ≡ edge.0) × (j ≡ edge.1)) c.args.edges.now (0, 0) c.edges.letter-index c.args.sets.now.items c.edges.sets.items
    (let t = c.edges-test.false in omega arith) c.edges.invariant)
