-- Signatures without a class: of numbers that are no state, and of states whose class is stable.
use Rattle.std.proofs.Common.{◌≡◌, ◌<◌, ◌≤◌, ℕ, zero, suc, List, length, slice_index, refl, sym, ◌∙◌, inl, inr, arith}
use Rattle.std.proofs.lemmas.Bool.{cases_lt}
use Rattle.std.proofs.lemmas.List.{get_or_past}
use Rattle.word_automata.specs.Automaton.{Automaton}
use Rattle.word_automata.proofs.ForCallers.{is_accepting-past}
use Rattle.minimise.specs.Refinement.{no_word}
use Rattle.minimise.specs.private.Rounds.{outgoing, IsLikeLeast, AreAlike}
use Rattle.minimise.proofs.Edges.{live_edges_past}

-- a number that is no state has the signature of no word
pub outgoing-past : (m : Automaton) (classes : List ℕ) (q : ℕ) → length m.states ≤ q → outgoing m classes q ≡ no_word
outgoing-past m classes q past = λ i. record { class = 0; accepting = is_accepting-past m.states q past i; edges = live_edges_past classes m.states q past i }

-- each state has the signature of the least state of its class, so states of one class have one signature
pub all_alike : (m : Automaton) (classes : List ℕ) → length classes ≡ length m.states → ((q : ℕ) → q < length m.states → IsLikeLeast m classes q) → AreAlike m classes
all_alike m classes count each p q e = by (slice_index classes q) refl
  where
    like : (r : ℕ) → IsLikeLeast m classes r
    like r = elim (cases_lt r (length m.states)) [
      | inl there ↦ each r there
      | inr past ↦ record {
        dead = λ z. outgoing-past m classes r past;
        live = λ k h. absurd (let z = get_or_past classes r 0 (omega arith) in let x : slice_index classes r ≡ suc k = h in omega arith);
      }
    ]

    by : (c : ℕ) → slice_index classes q ≡ c → outgoing m classes p ≡ outgoing m classes q
    by zero h = (like p).dead (e ∙ h) ∙ sym ((like q).dead h)
    by (suc r) h = (like p).live r (e ∙ h) ∙ sym ((like q).live r h)
