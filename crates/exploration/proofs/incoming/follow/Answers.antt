use Rattle.std.proofs.Common.{◌≡◌, ◌-◌, suc, get_or, sym, subst, arith}
use Rattle.exploration.proofs.Chains.{IsWalking, walking_more, walking_all}
use Rattle.exploration.proofs.incoming.follow.Goals as goal

pub edges-preserved : goal.edges-preserved
edges-preserved c =
    let last = c.args.last.now in
    let edges = c.args.edges.now in
    let q = c.args.state in
    let old = c.args.found.now.items in
    let found = c.edges.found.items in
    let j = c.edges.number - 1 in
    let number : c.edges.number ≡ suc j = (let t = c.edges-test.true in omega arith) in
    subst (λ xs. IsWalking last edges q old xs (get_or edges j ((0, 0), 0)).1) (sym c.in_ok-push.ensures.items)
    (walking_more last edges c.requires q old found j (subst (IsWalking last edges q old found) number c.edges.invariant))

pub returns : goal.returns
returns c =
    let last = c.args.last.now in
    let edges = c.args.edges.now in
    walking_all last edges c.requires c.args.state c.args.found.now.items c.edges.found.items
    (subst (IsWalking last edges c.args.state c.args.found.now.items c.edges.found.items) (let t = c.edges-test.false in omega arith) c.edges.invariant)
