use Rattle.std.proofs.Common.{◌≡◌, ◌+◌, length, ap, subst, rules}
use Rattle.exploration.specs.private.NumberHasher.{hash_by}
use Rattle.exploration.specs.private.StateTable.{code_of, StandsInSlot}
use Rattle.exploration.proofs.Slots.{table_kept, table_push}
use Rattle.exploration.proofs.state_table.StateTable.push.Goals as goal

pub invariant_of-self : goal.invariant_of-self
invariant_of-self g c =
    table_kept (hash_by g.S.Hash.hash_input) c.self.inside.states.items c.self.inside.slots.items c.self.invariant c.add_place.new.slots.items c.add_place.ensures.kept

pub invariant_of-self-2 : goal.invariant_of-self-2
invariant_of-self-2 g c =
    let new = c.add_place.new.slots.items in
    let stands = c.in_ok-add_place.ensures.stands in
    let count : c.len.result ≡ length c.self.inside.states.items = search rules in
    table_push (hash_by g.S.Hash.hash_input) c.self.inside.states.items c.self.inside.slots.items c.self.invariant c.args.state c.push.new.self.items new c.in_ok-push.ensures.items
    c.add_place.ensures.kept
    (subst (λ code. StandsInSlot new code (length c.self.inside.states.items + 1)) (ap code_of c.requires.hash)
    (subst (λ n. StandsInSlot new (code_of c.args.hash) (n + 1)) count stands))
