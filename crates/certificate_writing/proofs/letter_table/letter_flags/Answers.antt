use Rattle.std.proofs.Common.{◌||◌, ◌<◌, false, get_or, length, ap, ◌∙◌, arith}
use Rattle.std.specs.List.{list_any}
use Rattle.std.proofs.lemmas.List.{take_all}
use Rattle.std.proofs.lemmas.List.FromFn.{fill_by_all}
use Rattle.word_automata.specs.Path.{edges_of}
use Rattle.certificate_writing.specs.IndexedWriting.{has_letter, labels_edge}
use Rattle.certificate_writing.proofs.LetterIndexLemmas.{labels_more}
use Rattle.certificate_writing.proofs.letter_table.letter_flags.Goals as goal

pub states-preserved : goal.states-preserved
states-preserved c =
    let states = c.args.proof.now.states in
    let i = c.states.state in
    let within : i < length states = omega (arith, c.states-test.true, c.states-state-end.ensures.count) in
    record {
      count = c.mark_letters.ensures.count ∙ c.states.invariant.count;
      marked = λ a below.
          c.mark_letters.ensures.marked a (omega (arith, below, c.states.invariant.count))
          ∙ ap (λ edges. get_or c.states.flags.items a false || has_letter edges a) c.edges_from.ensures.edges
          ∙ ap (λ flag. flag || has_letter (edges_of states i) a) (c.states.invariant.marked a below)
          ∙ labels_more states i a within;
    }

pub returns : goal.returns
returns c =
    let m = c.args.proof.now in
    let all = take_all c.states.state m.states (omega (arith, c.states-test.false, c.states-state-end.ensures.count)) in
    fill_by_all (labels_edge m) c.states.flags.items m.letters false c.states.invariant.count
    (λ a below. c.states.invariant.marked a below ∙ ap (list_any (λ node. has_letter node.edges a)) all)
