use Rattle.std.proofs.Common.{◌&&◌, not, ap, sym, ◌∙◌}
use Rattle.word_automata.specs.Automaton.{Automaton, accepts}
use Rattle.boolean_operations.specs.Complements.{are_letters}
use Rattle.backward_search.proofs.Refusals.{refused-decides}
use Rattle.backward_search.proofs.complements.canonical_complement.Goals as goal

pub returns : goal.returns
returns c =
    let m = c.args.m.now in
    let made = c.in_ok-canonical.ensures in
    let refused = c.in_ok-refused.ensures in
    record {
      canonical = made.canonical;
      same_letters = made.letters ∙ (refused.letters ∙ ap (λ (a : Automaton). a.letters) c.as_dfa.ensures.same);
      language = λ w.
          let test = sym (made.language w) ∙ (refused.language w ∙ ap (λ (a : Automaton). are_letters a.letters w && not (accepts a w)) c.as_dfa.ensures.same) in
          let decides = refused-decides m w in
          (λ accepted. decides.0 (sym test ∙ accepted), λ is. test ∙ decides.1 is);
    }
