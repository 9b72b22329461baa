use Rattle.std.proofs.Common.{◌≡◌, length, subst, arith}
use Rattle.past_abstraction.specs.private.PastSets.{AreExpanded}
use Rattle.past_abstraction.proofs.Expanding.{continues_same, continues_both}
use Rattle.past_abstraction.proofs.construction.add_rows.Goals as goal

pub states-init : goal.states-init
states-init c = record {
  lists = c.requires.lists;
  expanded = c.requires.before;
  continues = continues_same c.args.first c.args.builder.now c.args.sets.now.keys;
}

pub states-preserved : goal.states-preserved
states-preserved c = record {
  lists = c.in_ok-add_row.ensures.lists;
  expanded = c.in_ok-add_row.ensures.expanded;
  continues = continues_both c.args.first c.states.number c.args.builder.now c.states.builder c.add_row.new.builder c.args.sets.now.keys
      c.states.sets.keys c.add_row.new.sets.keys
      (omega arith) c.states.invariant.continues c.in_ok-add_row.ensures.continues;
}

pub returns-clause-expanded : goal.returns-clause-expanded
returns-clause-expanded c =
    let end : c.states.number ≡ length c.args.sets.now.keys = (let e = c.len-number-end.ensures.len in let l = c.requires.within in omega arith) in
    subst (λ n. AreExpanded c.args.into.now c.states.builder c.states.sets.keys n 0) end c.states.invariant.expanded
