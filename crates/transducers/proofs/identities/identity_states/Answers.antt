use Rattle.std.proofs.Common.{◌∙◌, arith}
use Rattle.transducers.proofs.IdentityLemmas.{identity_more}
use Rattle.transducers.proofs.identities.identity_states.Goals as goal

pub states-preserved : goal.states-preserved
states-preserved c =
    c.in_ok-push.ensures.items
    ∙ identity_more c.args.a.now.states c.states.state c.accepting.result c.edges_from.result.now c.in_ok-identity_edges.field-0.items
    c.states.states.items (omega arith) c.accepting.ensures c.edges_from.ensures.edges c.in_ok-identity_edges.ensures c.states.invariant
