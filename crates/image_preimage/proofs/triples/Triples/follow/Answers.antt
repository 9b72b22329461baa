use Rattle.std.proofs.Common.{◌≡◌, sym, ap, ◌∙◌, subst}
use Rattle.image_preimage.specs.Pairs.{advance}
use Rattle.image_preimage.specs.private.Triples.{LeadsOut, or_no_state, triple_of}
use Rattle.image_preimage.proofs.TripleLemmas.{leads_out_behind}
use Rattle.image_preimage.proofs.triples.Triples.follow.Goals as goal

pub find-requires-clause-triple : goal.find-requires-clause-triple
find-requires-clause-triple c out =
    let self = c.args.self.now in
    let t = self.t.now in
    let a = self.a.now in
    let b = self.b.now in
    let triple = c.args.triple in
    let edge = c.args.edge in
    let right : c.or_no_state.result ≡ or_no_state b (advance b triple.right edge.0.write) =
    c.or_no_state.ensures ∙ ap (or_no_state b) (c.target_of-to.ensures.value b c.requires.written.edges_are) in
    c.requires.reached c.requires.there.0 triple c.requires.there.1
    (leads_out_behind t a b triple edge c.in-Some.middle c.requires.is_edge (sym (c.in-Some.ensures.value a c.requires.read.edges_are))
    (subst (λ r. LeadsOut t a b (triple_of edge.1 c.in-Some.middle r)) right out))
