use Rattle.std.proofs.Common.{◌++◌, ◌∷◌, [], nat_eq, subst, sym, ap, ◌∙◌}
use Rattle.std.specs.Cmp.Lexicographic.{pointwise}
use Rattle.indexmap.specs.IndexSet.{insert_key}
use Rattle.bit_set.specs.Bits.{Has}
use Rattle.atoms.specs.private.Family.{IsUnion, AreUnions, AddsUnion}
use Rattle.atoms.proofs.Unions.{begins_same, begins_push, union_last, unions_begin, unions_inserted, was_seen}
use Rattle.atoms.proofs.family.Family.add.Goals as goal

pub returns-then-contains-clause-added : goal.returns-then-contains-clause-added
returns-then-contains-clause-added c = record {
  begins = begins_same c.args.self.now.sets.items;
  union = c.requires c.args.set.now (was_seen c.args.self.now.seen.keys c.args.set.now (sym c.contains.ensures ∙ c.if-contains.true));
}

pub returns-then-branch-clause-seen : goal.returns-then-branch-clause-seen
returns-then-branch-clause-seen c =
    let set = c.args.set.now in
    let seen = c.args.self.now.seen.keys in
    unions_inserted c.args.self.now.sets.items seen c.insert.new.self.keys set (c.in_ok-insert.ensures.keys ∙ ap (insert_key (pointwise nat_eq) seen) c.in_ok-copy.ensures) c.requires
    (subst (λ xs. IsUnion xs (Has set)) c.deref.ensures.value (c.in_ok-is_union.ensures c.if-branch.true))

pub returns-then-branch-clause-added : goal.returns-then-branch-clause-added
returns-then-branch-clause-added c = record {
  begins = begins_same c.args.self.now.sets.items;
  union = subst (λ xs. IsUnion xs (Has c.args.set.now)) c.deref.ensures.value (c.in_ok-is_union.ensures c.if-branch.true);
}

pub returns-clause-seen : goal.returns-clause-seen
returns-clause-seen c =
    let set = c.args.set.now in
    let seen = c.args.self.now.seen.keys in
    let old = c.args.self.now.sets.items in
    let sets_are = c.in_ok-push.ensures.items ∙ ap (λ x. old ++ x ∷ []) c.in_ok-last.ensures in
    subst (λ xs. AreUnions xs c.insert.new.self.keys) (sym sets_are)
    (unions_inserted (old ++ set ∷ []) seen c.insert.new.self.keys set (c.in_ok-insert.ensures.keys ∙ ap (insert_key (pointwise nat_eq) seen) c.in_ok-copy.ensures)
    (unions_begin old (old ++ set ∷ []) seen (begins_push old set) c.requires) (union_last old set))

pub returns-clause-added : goal.returns-clause-added
returns-clause-added c =
    let set = c.args.set.now in
    let old = c.args.self.now.sets.items in
    let sets_are = c.in_ok-push.ensures.items ∙ ap (λ x. old ++ x ∷ []) c.in_ok-last.ensures in
    subst (λ xs. AddsUnion old xs (Has set)) (sym sets_are) (record { begins = begins_push old set; union = union_last old set })
