-- Classes that stay whole: no edge of their states leads to a state whose class changed in the round before.
use Rattle.std.proofs.Common.{◌≡◌, ◌<◌, ◌≤◌, ℕ, suc, Bool, true, false, List, [], ◌∷◌, length, slice_index, get_or, set, refl, sym, ap, ◌∙◌, inl, inr, arith}
use Rattle.std.proofs.lemmas.Bool.{cases_eq, true≢false}
use Rattle.std.proofs.lemmas.List.{get_or_past, get_or-set_same, get_or-set_other}
use Rattle.std.specs.List.{filter_map, cons_option}
use Rattle.std.specs.Option.{option_map}
use Rattle.word_automata.specs.Path.{edges_of}
use Rattle.word_automata.specs.Automaton.{Automaton}
use Rattle.minimise.specs.Signatures.{Signature}
use Rattle.minimise.specs.Refinement.{live_class, live_edge, signature_of, no_word, IsSplit}
use Rattle.minimise.proofs.ForCallers.{signature_of-past}
use Rattle.future_abstraction.specs.private.Numbers.{is_kept, IsUnmoved, AreStable}

-- where no edge leads to a state whose class changed, live edges are the same
same_live : (older classes : List ℕ) (edges : List (ℕ × ℕ)) → ((i : ℕ) → i < length edges → slice_index older (get_or edges i (0, 0)).1 ≡ slice_index classes (get_or edges i (0, 0)).1)
    → filter_map (live_edge older) edges ≡ filter_map (live_edge classes) edges
same_live older classes [] same = refl
same_live older classes (edge ∷ edges) same =
    ap (λ c. cons_option (option_map (λ d. (edge.0, d)) (live_class c)) (filter_map (live_edge older) edges)) (same 0 (omega arith))
    ∙ ap (λ rest. cons_option (live_edge classes edge) rest) (same_live older classes edges (λ i l. same (suc i) (omega arith)))

-- a class that is dropped is kept no more, and none is kept anew
pub drop_there : (kept : List Bool) (class : ℕ) → class < length kept → (c : ℕ) → get_or (set kept class false) c false ≡ true → (get_or kept c false ≡ true) × (c ≡ class → ⊥)
drop_there kept class there c noted = elim (cases_eq c class) [
  | inl same ↦ absurd (true≢false (sym noted ∙ ap (λ x. get_or (set kept class false) x false) same ∙ get_or-set_same kept class false false there))
  | inr other ↦ (sym (get_or-set_other kept class c false false other) ∙ noted, other)
]

pub drop_past : (kept : List Bool) (class : ℕ) → length kept ≤ class → (c : ℕ) → get_or kept c false ≡ true → (get_or kept c false ≡ true) × (c ≡ class → ⊥)
drop_past kept class past c noted = (noted, λ same. true≢false (sym noted ∙ ap (λ x. get_or kept x false) same ∙ get_or_past kept class false past))

module _ (m : Automaton) (older classes : List ℕ) (same_count : length older ≡ length m.states) (split : IsSplit m older classes) (kept : List Bool)
    (each : (q : ℕ) → q < length m.states → is_kept kept (slice_index classes q) ≡ true → IsUnmoved m older classes q) where
  own_edges : (q : ℕ) → IsUnmoved m older classes q → filter_map (live_edge older) (edges_of m.states q) ≡ filter_map (live_edge classes) (edges_of m.states q)
  own_edges q unmoved = same_live older classes (edges_of m.states q) unmoved

  dead : (q : ℕ) → q < length m.states → is_kept kept (slice_index classes q) ≡ true → slice_index classes q ≡ 0 → signature_of m classes q ≡ no_word
  dead q l noted e =
      let past : slice_index classes (length m.states) ≡ 0 = get_or_past classes (length m.states) 0 (let c = split.count in omega arith) in
      let before : signature_of m older q ≡ no_word = split.apart q (length m.states) (e ∙ sym past) ∙ signature_of-past m older same_count (length m.states) (omega arith) in
      let edges = sym (own_edges q (each q l noted)) ∙ ap (λ (s : Signature). s.edges) before in
      let accepting = ap (λ (s : Signature). s.accepting) before in
      λ i. record { class = e i; accepting = accepting i; edges = edges i }

  like : (q : ℕ) → q < length m.states → is_kept kept (slice_index classes q) ≡ true → (r : ℕ) → slice_index classes q ≡ suc r
      → (r ≤ q) × (signature_of m classes r ≡ signature_of m classes q)
  like q l noted r e =
      let least = split.least q r e in
      let one : slice_index classes r ≡ slice_index classes q = split.together r q least.1 in
      let there : r < length m.states = (let le = least.0 in omega arith) in
      let kept_r : is_kept kept (slice_index classes r) ≡ true = ap (λ c. is_kept kept c) one ∙ noted in
      let edges = sym (own_edges r (each r there kept_r)) ∙ ap (λ (s : Signature). s.edges) least.1 ∙ own_edges q (each q l noted) in
      let accepting = ap (λ (s : Signature). s.accepting) least.1 in
      (least.0, λ i. record { class = one i; accepting = accepting i; edges = edges i })

  pub kept_stable : AreStable m classes kept
  kept_stable q l noted = record { dead = dead q l noted; like = like q l noted }
