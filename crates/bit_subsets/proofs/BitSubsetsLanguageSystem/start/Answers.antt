use Rattle.std.proofs.Common.{◌↔◌, ℕ, List, Contains, subst}
use Rattle.bit_set.specs.Bits.{Has}
use Rattle.word_automata.proofs.ForCallers.{same_members_accept}
use Rattle.bit_subsets.specs.Subsets.{members}
use Rattle.bit_subsets.proofs.Lists.{AreStates-members}
use Rattle.bit_subsets.proofs.Members.{members_of}
use Rattle.bit_subsets.proofs.BitSubsetsLanguageSystem.start.Goals as goal

pub returns-clause-start : goal.returns-clause-start
returns-clause-start c =
    let n = c.args.self.now.automaton.now in
    let set = c.in_ok-set_of.field-0 in
    let are = subst (λ (starts : List ℕ). (q : ℕ) → Has set q ↔ Contains starts q) c.starts-starts.ensures.starts c.in_ok-set_of.ensures in
    let same = members_of set n.starts are in
    same_members_accept n n.starts (members set) (λ q. ((same q).1, (same q).0))

pub returns-clause-state : goal.returns-clause-state
returns-clause-state c =
    let n = c.args.self.now.automaton.now in
    let set = c.in_ok-set_of.field-0 in
    let are = subst (λ (starts : List ℕ). (q : ℕ) → Has set q ↔ Contains starts q) c.starts-starts.ensures.starts c.in_ok-set_of.ensures in
    let same = members_of set n.starts are in
    let range = c.starts-starts.ensures.in_range in
    record {
      in_range = range;
      states = AreStates-members n n.starts (members set) (λ q there. (same q).0 there) range.starts_in_range;
      closed = λ p q there edge. absurd (c.args.self.now.plain p q edge);
    }
