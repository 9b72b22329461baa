-- What the automaton of pasts accepts: the reversed words that lead into a state of a set.
use Rattle.std.proofs.Common.{◌≡◌, ◌<◌, ◌≤◌, ◌++◌, ◌↔◌, ℕ, zero, suc, Bool, List, [], ◌∷◌, All, Option, None, Some, false, IsTrue, Contains, length}
use Rattle.std.proofs.Common.{reverse, get_or, refl, sym, ap, subst, ◌∙◌, inl, inr, arith, true≢false}
use Rattle.std.proofs.lemmas.List.{reverse-append}
use Rattle.std.proofs.lemmas.List.Elements.{All-contains, All-nil, Contains-push}
use Rattle.word_automata.specs.Path.{edges_of}
use Rattle.word_automata.specs.Automaton.{Automaton, target, accepts_from}
use Rattle.word_automata.proofs.ForCallers.{All-edges_of, Contains-cases, Contains-none, edge_found, found_edge, leads_within, ordered_edges}
use Rattle.exploration.specs.Incoming.{Chains, IsInto, AreIncoming}
use Rattle.past_abstraction.specs.Pasts.{LeadsTo, IsInPast}
use Rattle.past_abstraction.specs.private.PastSets.{AreInAlphabet, LeadsInto, AreExpanded, Continues, IsPastAutomaton}
use Rattle.past_abstraction.proofs.Rounds.{last_step, step_more}

-- from the state all words of so many letters stay among the first states, but for their ends
abbrev pub StaysBelow : Automaton → ℕ → ℕ → ℕ → Type 0
StaysBelow m first zero i = i < length m.states
StaysBelow m first (suc k) i = (i < first) × ((letter j : ℕ) → target m i letter ≡ Some j → StaysBelow m first k j)

-- one letter more, once the edges of all states are there
module _ (into : Chains) (m n : Automaton) (sets more : List (List ℕ)) (first : ℕ) (before : AreExpanded into m sets first 0)
    (less : first ≤ length sets)
    (after : AreExpanded into n more (length sets) 0) (on : Continues first m n sets more) where
  pub stays_more : (k i : ℕ) → StaysBelow m first k i → StaysBelow n (length sets) (suc k) i
  stays_more zero i there = (
    (let e = before.states in omega arith),
    λ letter j leads. (let within = (after.leads i letter j leads).0 in let e = after.states in omega arith),
  )
  stays_more (suc k) i (below, rest) = (omega arith, λ letter j leads. stays_more k j (rest letter j (sym (on.same_targets i letter below) ∙ leads)))

module _ (a : Automaton) (into : Chains) (incoming : AreIncoming a into) where
  pub in_alphabet : AreInAlphabet into a.letters
  in_alphabet q edge leads =
      let letters = All-edges_of (All (λ (e : ℕ × ℕ). e.0 < a.letters)) a.states (All-nil (λ (e : ℕ × ℕ). e.0 < a.letters))
      incoming.valid.letters_in_range edge.1 in
      All-contains (λ (e : ℕ × ℕ). e.0 < a.letters) (edges_of a.states edge.1) (edge.0, q) letters (incoming.sound q edge leads)

  edge_of : (q letter p : ℕ) → IsInto into q (letter, p) → target a p letter ≡ Some q
  edge_of q letter p leads = edge_found (edges_of a.states p) (ordered_edges a incoming.valid p) letter q (incoming.sound q (letter, p) leads)

  into_of : (q letter p : ℕ) → target a p letter ≡ Some q → IsInto into q (letter, p)
  into_of q letter p leads = incoming.complete p letter q (found_edge (edges_of a.states p) letter q leads)

  -- the reversed word leads into a state of the set
  abbrev pub IsInPastOf : List ℕ → List ℕ → Type 0
  IsInPastOf set w = (q : ℕ) × Contains set q × IsInPast a (reverse w) q

  module _ (m : Automaton) (sets : List (List ℕ)) (first : ℕ) (are : AreExpanded into m sets first 0) (within : first ≤ length sets) where
    abbrev pub set_at : ℕ → List ℕ
    set_at i = get_or sets i []

    past_of_edge : (i letter j : ℕ) (w : List ℕ) → target m i letter ≡ Some j → IsInPastOf (set_at j) w ↔ IsInPastOf (set_at i) (letter ∷ w)
    past_of_edge i letter j w leads = (
      λ past.
          let step = (is past.0).0 past.1 in (
            step.0,
            step.1,
            (
              past.2.0,
              past.2.1,
              subst (λ v. LeadsTo a past.2.0 v step.0) (sym turned)
                  (step_more a (reverse w) past.2.0 letter step.0 past.0 past.2.2 (edge_of step.0 letter past.0 step.2)),
            ),
          ),
      λ past.
          let last = last_step a (reverse w) past.2.0 letter past.0 (subst (λ v. LeadsTo a past.2.0 v past.0) turned past.2.2) in
          (last.0, (is last.0).1 (past.0, past.1, into_of past.0 letter last.0 last.2), (past.2.0, past.2.1, last.1)),
    )
      where
        is : (p : ℕ) → Contains (set_at j) p ↔ LeadsInto into (set_at i) letter p
        is = (are.leads i letter j leads).1

        turned : reverse (letter ∷ w) ≡ reverse w ++ letter ∷ []
        turned = reverse-append (letter ∷ []) w

    accepted_more : (i letter : ℕ) (w : List ℕ) → i < first
        → ((j : ℕ) → target m i letter ≡ Some j → ((q : ℕ) → Contains (set_at j) q → q < length a.states)
        → IsTrue (accepts_from m j w) ↔ IsInPastOf (set_at j) w)
        → (o : Option ℕ) → target m i letter ≡ o
        → IsTrue (elim o as (λ o. Bool) [ None ↦ false | Some r ↦ accepts_from m r w ]) ↔ IsInPastOf (set_at i) (letter ∷ w)
    accepted_more i letter w below again None none = (
      λ accepts. absurd (true≢false (sym accepts)),
      λ past.
          let last = last_step a (reverse w) past.2.0 letter past.0
          (subst (λ v. LeadsTo a past.2.0 v past.0) (reverse-append (letter ∷ []) w) past.2.2) in
          absurd (are.complete i letter last.0 (inl below) none (past.0, past.1, into_of past.0 letter last.0 last.2)),
    )
    accepted_more i letter w below again (Some j) leads =
        let led = are.leads i letter j leads in
        let sources : (q : ℕ) → Contains (set_at j) q → q < length a.states =
        (λ q in_set. let step = (led.1 q).0 in_set in leads_within a q letter step.0 (edge_of step.0 letter q step.2)) in
        let shorter = again j leads sources in
        let same = past_of_edge i letter j w leads in
        (λ accepts. same.0 (shorter.0 accepts), λ past. shorter.1 (same.1 past))

    pub accepted : (k i : ℕ) (w : List ℕ) → length w ≤ k → StaysBelow m first k i → i < length sets
        → ((q : ℕ) → Contains (set_at i) q → q < length a.states)
        → IsTrue (accepts_from m i w) ↔ IsInPastOf (set_at i) w
    accepted k i [] short stays there states =
        let some = are.some i there in
        (λ accepts. (some.0, some.1, (some.0, states some.0 some.1, refl)), λ past. are.accepting i there)
    accepted zero i (letter ∷ w) short stays there states = absurd (omega arith)
    accepted (suc k) i (letter ∷ w) short (below, rest) there states =
        accepted_more i letter w below (λ j leads sources. accepted k j w (omega arith) (rest letter j leads) (are.leads i letter j leads).0 sources)
        (target m i letter) refl

    pub is_past_automaton : (bound : ℕ) → length a.states ≤ length sets → ((q : ℕ) → q < length a.states → StaysBelow m first bound q)
        → ((q : ℕ) → q < length a.states → get_or sets q [] ≡ q ∷ [])
        → IsPastAutomaton a bound m
    is_past_automaton bound all stays single = record {
      states = (let e = are.states in omega arith);
      accepted = λ q w there short.
          let inside : (p : ℕ) → Contains (set_at q) p → q ≡ p = (λ p in_set. only q p (subst (λ s. Contains s p) (single q there) in_set)) in
          let states : (p : ℕ) → Contains (set_at q) p → p < length a.states = (λ p in_set. subst (λ x. x < length a.states) (inside p in_set) there)
          in
          let same = accepted bound q w short (stays q there) (omega arith) states in (
            λ accepts. (let past = same.0 accepts in subst (IsInPast a (reverse w)) (sym (inside past.0 past.1)) past.2),
            λ past. same.1 (q, subst (λ s. Contains s q) (sym (single q there)) (Contains-push [] q), past),
          );
    }
      where
        only : (q p : ℕ) → Contains (q ∷ []) p → q ≡ p
        only q p there = elim (Contains-cases q [] p there) [ inl here ↦ here | inr none ↦ absurd (Contains-none p none) ]
