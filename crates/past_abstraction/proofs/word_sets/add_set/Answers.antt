use Rattle.std.proofs.Common.{◌<◌, All, nat_eq, length, sym, subst, ◌∙◌}
use Rattle.std.specs.Cmp.Lexicographic.{pointwise, bytes_decides, nat_list_eq_equiv}
use Rattle.exploration.proofs.ForCallers.{inserted_new, inserted_kept}
use Rattle.abstraction.specs.Partitions.{IsRefined}
use Rattle.past_abstraction.proofs.Adding.{read_new, there_at, adds_known, adds_new, blocks_more}
use Rattle.past_abstraction.proofs.word_sets.add_set.Goals as goal

pub refine-requires : goal.refine-requires
refine-requires c =
    let old = c.args.sets.now.keys in
    let added = inserted_new (pointwise nat_eq) nat_list_eq_equiv.refl old c.insert_full.new.self.keys c.args.set c.in_ok-number.number
    (sym c.if-is_new.true ∙ c.in_ok-number.ensures.added) c.in_ok-number.ensures.keys c.in_ok-number.ensures.stored in
    let set_is = c.as_slice-then-is_new.ensures ∙ read_new old c.as_slice.result.now c.args.set c.index-as_slice-number.result c.in_ok-number.number c.index-as_slice-number.is
    (c.as_slice.ensures.keys ∙ added.0) added.1 in
    subst (All (λ p. p < length c.args.blocks.now)) (sym set_is) (subst (λ n. All (λ p. p < n) c.args.set) (sym c.requires.before.count) c.requires.states)

pub returns-in_ok-refine-clause-blocks : goal.returns-in_ok-refine-clause-blocks
returns-in_ok-refine-clause-blocks c =
    let old = c.args.sets.now.keys in
    let added = inserted_new (pointwise nat_eq) nat_list_eq_equiv.refl old c.insert_full.new.self.keys c.args.set c.in_ok-number.number
    (sym c.if-is_new.true ∙ c.in_ok-number.ensures.added) c.in_ok-number.ensures.keys c.in_ok-number.ensures.stored in
    let set_is = c.as_slice-then-is_new.ensures ∙ read_new old c.as_slice.result.now c.args.set c.index-as_slice-number.result c.in_ok-number.number c.index-as_slice-number.is
    (c.as_slice.ensures.keys ∙ added.0) added.1 in
    blocks_more c.args.a.now c.args.set old c.insert_full.new.self.keys c.args.blocks.now c.refine.new.self c.requires.states added.0
    (subst (λ set. IsRefined set c.args.blocks.now c.refine.new.self) set_is c.in_ok-refine.ensures) c.requires.before

pub returns-in_ok-refine-clause-set : goal.returns-in_ok-refine-clause-set
returns-in_ok-refine-clause-set c =
    let added = inserted_new (pointwise nat_eq) nat_list_eq_equiv.refl c.args.sets.now.keys c.insert_full.new.self.keys c.args.set c.in_ok-number.number
    (sym c.if-is_new.true ∙ c.in_ok-number.ensures.added) c.in_ok-number.ensures.keys c.in_ok-number.ensures.stored in
    adds_new c.args.set c.args.sets.now.keys c.insert_full.new.self.keys added.0

pub returns-else-is_new-clause-set : goal.returns-else-is_new-clause-set
returns-else-is_new-clause-set c =
    let old = c.args.sets.now.keys in
    let kept = inserted_kept (pointwise nat_eq) (λ x y h. (bytes_decides x y).0 h) old c.insert_full.new.self.keys c.args.set c.in_ok-number.number
    (sym c.if-is_new.false ∙ c.in_ok-number.ensures.added) c.in_ok-number.ensures.keys c.in_ok-number.ensures.stored in
    adds_known c.args.set old c.insert_full.new.self.keys kept.0 (there_at old c.args.set c.in_ok-number.number kept.1)
