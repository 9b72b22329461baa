use Rattle.std.proofs.Common.{nat_eq, refl, sym, ◌∙◌, inl, inr}
use Rattle.std.specs.Cmp.Lexicographic.{pointwise, bytes_decides, nat_list_eq_equiv}
use Rattle.exploration.proofs.ForCallers.{inserted_new, inserted_kept}
use Rattle.past_abstraction.proofs.construction.number_of.Goals as goal

pub returns-in_ok-state : goal.returns-in_ok-state
returns-in_ok-state c =
    let added = inserted_new (pointwise nat_eq) nat_list_eq_equiv.refl c.args.sets.now.keys c.insert_full.new.self.keys c.args.set
    c.in_ok-number.number
    (sym c.if-is_new.true ∙ c.in_ok-number.ensures.added) c.in_ok-number.ensures.keys c.in_ok-number.ensures.stored in
    inr (record { added = c.in_ok-state.ensures.ok; added_set = added.0; last = added.1 })

pub returns-else-is_new : goal.returns-else-is_new
returns-else-is_new c =
    let kept = inserted_kept (pointwise nat_eq) (λ x y h. (bytes_decides x y).0 h) c.args.sets.now.keys c.insert_full.new.self.keys c.args.set
    c.in_ok-number.number
    (sym c.if-is_new.false ∙ c.in_ok-number.ensures.added) c.in_ok-number.ensures.keys c.in_ok-number.ensures.stored in
    inl (record { same = refl; same_sets = kept.0; at = kept.1 })
