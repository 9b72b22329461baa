use Rattle.std.proofs.Common.{◌≤◌, ℕ, List, length, slice_index, sym, subst}
use Rattle.minimise.specs.private.Splitters.{AreListed}
use Rattle.minimise.proofs.Refining.{coarse_apart}
use Rattle.minimise.proofs.MemberLists.{class_le}
use Rattle.minimise.proofs.splitters.refine.Goals as goal

pub members-requires : goal.members-requires
members-requires c =
    subst (λ (xs : List ℕ). (q : ℕ) → slice_index xs q ≤ length xs) (sym c.deref-2.ensures.value) (class_le c.args.coarse.items c.requires.coarse.least)

pub split_by_classes-requires : goal.split_by_classes-requires
split_by_classes-requires c =
    subst (λ (xs : List ℕ). AreListed xs c.in_ok-members.members.items) c.deref-2.ensures.value c.in_ok-members.ensures

pub returns : goal.returns
returns c =
    c.in_ok-split_by_classes.ensures c.args.automaton.now c.requires.valid c.in_ok-incoming.ensures (coarse_apart c.args.automaton.now c.args.coarse.items c.requires.coarse)
