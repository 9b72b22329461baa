use Rattle.std.proofs.Common.{◌+◌, sym, ap, subst, ◌∙◌, arith}
use Rattle.minimise.proofs.FoundMoves.{IsFinding, finding_same, finding_more, finding_all}
use Rattle.minimise.proofs.splitters.put_moves.Goals as goal
use Rattle.minimise.proofs.splitters.put_moves.Goals.{then-class_of-class+in_ok-put_into, else-class_of-class}

pub states-preserved : goal.states-preserved
states-preserved c =
    let chains = c.args.incoming.now in
    let classes = c.args.classes.now in
    let states = c.args.states.now in
    let old = c.args.found.now.items in
    let found = c.states.found.items in
    let i = c.states.state-index in
    elim c.if-class_of-class.branch [
      | then-class_of-class+in_ok-put_into w ↦
          subst (λ xs. IsFinding chains classes c.args.class states old xs (i + 1)) (sym (ap (λ v. v.items) w.found-is))
          (finding_more chains classes c.args.class states old found i c.states.invariant w.put_into.new.found.items
          (sym c.class_of.ensures ∙ w.if-class_of-class.true) w.in_ok-put_into.ensures)
      | else-class_of-class w ↦
          subst (λ xs. IsFinding chains classes c.args.class states old xs (i + 1)) (sym (ap (λ v. v.items) w.found-is))
          (finding_same chains classes c.args.class states old found i c.states.invariant (λ e. w.if-class_of-class.false (c.class_of.ensures ∙ e)))
    ]

pub returns : goal.returns
returns c =
    finding_all c.args.incoming.now c.args.classes.now c.args.class c.args.states.now c.args.found.now.items c.states.found.items
    c.states.state-index c.states.invariant (let a = c.states-test.false in omega arith)
