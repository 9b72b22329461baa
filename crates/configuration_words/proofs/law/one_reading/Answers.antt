use Rattle.forms.proofs.ForCallers.{meaning_once, fault_once, fault_or_meaning}
use Rattle.configuration_words.specs.ConfigurationText.{configuration, syntax_fault}
use Rattle.configuration_words.proofs.GrammarLemmas.{configuration_is_uniform, configuration_is_told, same_fault}
use Rattle.configuration_words.proofs.law.one_reading.Goals as goal

pub returns : goal.returns
returns c =
    let one = c.one_reading.ensures.tokens in
    let apart = c.one_reading.ensures.either in
    record {
      configuration = λ s valid text.
          meaning_once (configuration s.sections) (configuration_is_uniform s.sections) (configuration_is_told s.sections) one apart text;
      fault = λ s text fault other h k.
          same_fault fault other
          (fault_once (configuration s.sections) (configuration_is_uniform s.sections) (configuration_is_told s.sections) one apart
          c.one_reading.ensures.bad_byte text (syntax_fault fault) (syntax_fault other) h k);
      either = λ s text fault.
          fault_or_meaning (configuration s.sections) (configuration_is_uniform s.sections) (configuration_is_told s.sections) one apart text (syntax_fault fault);
    }
