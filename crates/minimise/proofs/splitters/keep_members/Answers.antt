use Rattle.std.proofs.Common.{ℕ, nat_eq, slice_index, Contains, rules, sym, subst}
use Rattle.std.proofs.lemmas.Bool.Decides.{Decides-eqb}
use Rattle.std.proofs.lemmas.Fn.{filter_same}
use Rattle.minimise.proofs.MemberLists.{Contains-filter}
use Rattle.minimise.proofs.splitters.keep_members.Goals as goal

pub returns : goal.returns
returns c q there own =
    subst (λ xs. Contains xs q)
    (sym (filter_same _ (λ (x : ℕ). nat_eq (slice_index c.args.classes.now x) c.args.class) _ (λ x b f r. search rules) c.args.list.now.items c.retain.new.self.items c.retain.ensures.filtered))
    (Contains-filter (λ (x : ℕ). nat_eq (slice_index c.args.classes.now x) c.args.class) c.args.list.now.items q there
    ((Decides-eqb (slice_index c.args.classes.now q) c.args.class).1 own))
