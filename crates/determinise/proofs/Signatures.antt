-- Sets of states and their signatures: the words that they accept, and their successors.
use Rattle.std.proofs.Common.{◌≡◌, ◌<◌, ◌↔◌, ℕ, Bool, true, false, List, [], ◌∷◌, ◌++◌, Option, None, Some, Result, Ok, Err, IfOk, Vec, Global, Contains, All, IsTrue, length, slice_index_or, refl, sym, ap, subst, arith, inl, inr, if◌then◌else◌, ◌==◌}
use Rattle.std.proofs.lemmas.Bool.{cases_lt}
use Rattle.std.proofs.lemmas.Option.{slice_get_past}
use Rattle.std.proofs.lemmas.List.Elements.{All-cons, All-head, All-tail}
use Rattle.word_automata.specs.Path.{is_accepting}
use Rattle.word_automata.specs.Nondeterministic.{NondeterministicAutomaton, AcceptsFromAny, IsInRange}
use Rattle.word_automata.specs.StateSets.{AreStates}
use Rattle.word_automata.proofs.ForCallers.{All-from_contains, Contains-cases, Contains-here, Contains-none, end_accepts}
use Rattle.exploration.specs.DeterministicSystem.{look_up, HasIncreasingLetters}
use Rattle.exploration.specs.Residuals.{AreResiduals}
use Rattle.atoms.specs.Covers.{AreAtomsOf, IsSignature, IsWithin, AcceptsWithin}
use Rattle.atoms.proofs.ForCallers.{signature_accepts}
use Rattle.bit_subsets.specs.Subsets.{IsSubset, IsPlain}
use Rattle.determinise.specs.private.Subsets.{ArePlainWhereFalse}
use Rattle.determinise.specs.private.Signatures.{AreSigned}

-- where no flag is true, no state has an edge without a letter
pub plain_everywhere : (n : NondeterministicAutomaton) (flags : List Bool) → length flags ≡ length n.states → ArePlainWhereFalse n flags
    → ((p : ℕ) → p < length flags → slice_index_or flags p true ≡ false) → (p : ℕ) → IsPlain n p
plain_everywhere n flags count plain none p = elim (cases_lt p (length flags)) [
  | inl below ↦ plain p (none p below)
  | inr past ↦ λ q edge. Contains-none (None, q) (subst (λ edges. Contains edges (None, q))
      (ap (λ o. elim o as (λ o. List (Option ℕ × ℕ)) [ None ↦ [] | Some node ↦ node.edges ]) (slice_get_past n.states p (let c = count in omega arith))) edge)
]

-- without edges without a letter, all sets of states are closed
pub plain_subset : (n : NondeterministicAutomaton) → IsInRange n → ((p : ℕ) → IsPlain n p) → (states : List ℕ) → AreStates n states → IsSubset n states
plain_subset n in_range plain states are = record {
  in_range = in_range;
  states = are;
  closed = λ p q there edge. absurd (plain p q edge);
}

-- the states of a signature are such a set
pub signed_subset : (n : NondeterministicAutomaton) (rows : List (List ℕ)) → AreAtomsOf n rows → IsInRange n → ((p : ℕ) → IsPlain n p)
    → (states signature : List ℕ) → IsSignature rows states signature → IsSubset n states
signed_subset n rows atoms in_range plain states signature is =
    plain_subset n in_range plain states (subst (λ l. All (λ q. q < l) states) atoms.count is.in_range)

-- the pairs are successors of the states, each with its signature
abbrev pub HasSigned : NondeterministicAutomaton → List (List ℕ) → List ℕ → List (ℕ × List ℕ) → Type 0
HasSigned n rows states signed =
    (pairs : List (ℕ × List ℕ)) × AreResiduals n.letters (AcceptsFromAny n) (IsSubset n) states pairs × AreSigned rows pairs signed

-- the result goes on from what is accepted within the signature
abbrev pub GoOn : {E : Type 0} → Result (Vec (ℕ × List ℕ) Global) E → NondeterministicAutomaton × List (List ℕ) → List ℕ → Type 0
GoOn r v signature = IfOk r (λ signed. AreResiduals v.0.letters (AcceptsWithin v.0 v.1) (λ s. Unit {0}) signature signed.items)

-- one more pair of a set and its signature
pub signed-push : (rows : List (List ℕ)) (pairs others : List (ℕ × List ℕ)) (pair other : ℕ × List ℕ) → AreSigned rows pairs others
    → pair.0 ≡ other.0 → IsSignature rows pair.1 other.1 → AreSigned rows (pairs ++ pair ∷ []) (others ++ other ∷ [])
signed-push rows [] [] pair other are same is = (same, is, tt)
signed-push rows [] (y ∷ others) pair other are same is = absurd are
signed-push rows (x ∷ pairs) [] pair other are same is = absurd are
signed-push rows (x ∷ pairs) (y ∷ others) pair other are same is = (are.0, are.1, signed-push rows pairs others pair other are.2 same is)

module _ (rows : List (List ℕ)) where
  signed-above : (a : ℕ) (pairs others : List (ℕ × List ℕ)) → AreSigned rows pairs others → All (λ later. a < later.0) pairs → All (λ later. a < later.0) others
  signed-above a [] [] are h = h
  signed-above a [] (y ∷ others) are h = absurd are
  signed-above a (x ∷ pairs) [] are h = absurd are
  signed-above a (x ∷ pairs) (y ∷ others) are h =
      All-cons (λ (later : ℕ × List ℕ). a < later.0) y others (subst (λ b. a < b) are.0 (All-head (λ (later : ℕ × List ℕ). a < later.0) x pairs h))
      (signed-above a pairs others are.2 (All-tail (λ (later : ℕ × List ℕ). a < later.0) x pairs h))

  signed-below : (letters : ℕ) (pairs others : List (ℕ × List ℕ)) → AreSigned rows pairs others → All (λ pair. pair.0 < letters) pairs → All (λ pair. pair.0 < letters) others
  signed-below letters [] [] are h = h
  signed-below letters [] (y ∷ others) are h = absurd are
  signed-below letters (x ∷ pairs) [] are h = absurd are
  signed-below letters (x ∷ pairs) (y ∷ others) are h =
      All-cons (λ (pair : ℕ × List ℕ). pair.0 < letters) y others (subst (λ b. b < letters) are.0 (All-head (λ (pair : ℕ × List ℕ). pair.0 < letters) x pairs h))
      (signed-below letters pairs others are.2 (All-tail (λ (pair : ℕ × List ℕ). pair.0 < letters) x pairs h))

  signed-increasing : (pairs others : List (ℕ × List ℕ)) → AreSigned rows pairs others → HasIncreasingLetters pairs → HasIncreasingLetters others
  signed-increasing [] [] are h = tt
  signed-increasing [] (y ∷ others) are h = absurd are
  signed-increasing (x ∷ pairs) [] are h = absurd are
  signed-increasing (x ∷ pairs) (y ∷ others) are h = (
    subst (λ a. All (λ (later : ℕ × List ℕ). a < later.0) others) are.0 (signed-above x.0 pairs others are.2 h.0),
    signed-increasing pairs others are.2 h.1,
  )

  -- what stands beside a letter: in both lists nothing, or a set and its signature
  abbrev Signed : Option (List ℕ) → Option (List ℕ) → Type 0
  Signed None None = Unit {0}
  Signed None (Some signature) = ⊥
  Signed (Some states) None = ⊥
  Signed (Some states) (Some signature) = IsSignature rows states signature

  signed-look_up : (a : ℕ) (pairs others : List (ℕ × List ℕ)) → AreSigned rows pairs others → Signed (look_up pairs a) (look_up others a)
  signed-look_up a [] [] are = tt
  signed-look_up a [] (y ∷ others) are = absurd are
  signed-look_up a (x ∷ pairs) [] are = absurd are
  signed-look_up a (x ∷ pairs) (y ∷ others) are =
      subst (λ b. Signed (look_up (x ∷ pairs) a) (if b == a then Some y.1 else look_up others a)) are.0 (by (x.0 == a) (signed-look_up a pairs others are.2))
    where
      by : (b : Bool) → Signed (look_up pairs a) (look_up others a) → Signed (if b then Some x.1 else look_up pairs a) (if b then Some y.1 else look_up others a)
      by true rest = are.1
      by false rest = rest

module _ (n : NondeterministicAutomaton) (rows : List (List ℕ)) (atoms : AreAtomsOf n rows) where
  -- the successors of a set, each with its signature, are those of what accepts the same words within a signature
  pub signed_residuals : (states signature : List ℕ) (pairs others : List (ℕ × List ℕ)) → ((w : List ℕ) → AcceptsWithin n rows signature w ↔ AcceptsFromAny n states w)
      → AreResiduals n.letters (AcceptsFromAny n) (IsSubset n) states pairs → AreSigned rows pairs others
      → AreResiduals n.letters (AcceptsWithin n rows) (λ signature. Unit {0}) signature others
  signed_residuals states signature pairs others same are signed = record {
    increasing = signed-increasing rows pairs others signed are.increasing;
    letters_in_range = signed-below rows n.letters pairs others signed are.letters_in_range;
    states = λ k d l. tt;
    goes_on = λ a r there w. goes a (look_up pairs a) refl r (subst (Signed rows (look_up pairs a)) there (signed-look_up rows a pairs others signed)) w;
    stops = λ a none w accepted. ends a (look_up pairs a) refl (subst (Signed rows (look_up pairs a)) none (signed-look_up rows a pairs others signed)) w accepted;
  }
    where
      goes : (a : ℕ) (o : Option (List ℕ)) → look_up pairs a ≡ o → (r : List ℕ) → Signed rows o (Some r) → (w : List ℕ) → AcceptsWithin n rows signature (a ∷ w) ↔ AcceptsWithin n rows r w
      goes a None here r is w = absurd is
      goes a (Some set) here r is w =
          let on = are.goes_on a set here w in
          let there = signature_accepts n rows atoms set r is w in
          (λ accepted. there.1 (on.0 ((same (a ∷ w)).0 accepted)), λ accepted. (same (a ∷ w)).1 (on.1 (there.0 accepted)))

      ends : (a : ℕ) (o : Option (List ℕ)) → look_up pairs a ≡ o → Signed rows o None → (w : List ℕ) → AcceptsWithin n rows signature (a ∷ w) → ⊥
      ends a (Some set) here is w accepted = absurd is
      ends a None here is w accepted = are.stops a here w ((same (a ∷ w)).0 accepted)

  pub signed_go_on : {E : Type 0} (r : Result (Vec (ℕ × List ℕ) Global) E) (states signature : List ℕ) → ((w : List ℕ) → AcceptsWithin n rows signature w ↔ AcceptsFromAny n states w)
      → IfOk r (λ signed. HasSigned n rows states signed.items) → GoOn r (n, rows) signature
  signed_go_on (Ok signed) states signature same all = signed_residuals states signature all.0 signed.items same all.1 all.2
  signed_go_on (Err e) states signature same all = tt

  -- the states within a signature accept what is accepted within it
  pub within_accepts : (signature states : List ℕ) → ((q : ℕ) → Contains states q ↔ ((q < length rows) × IsWithin rows signature q))
      → (w : List ℕ) → AcceptsWithin n rows signature w ↔ AcceptsFromAny n states w
  within_accepts signature states members w = (
    (λ accepts. let run = accepts.3 in
        (run.0, run.1, run.2, (members run.0).1 (one accepts.0 accepts.1 accepts.2 run.0 run.3), run.4, run.5, run.6)),
    (λ run.
        let there = (members run.0).0 run.3 in
        (run.0, subst (λ l. run.0 < l) atoms.count there.0, there.1, (run.0, run.1, run.2, Contains-here [] run.0, run.4, run.5, run.6))),
  )
    where
      one : (q : ℕ) → q < length n.states → IsWithin rows signature q → (r : ℕ) → Contains (q ∷ []) r → (r < length rows) × IsWithin rows signature r
      one q lt within r there = elim (Contains-cases q [] r there) [
        | inl same ↦ subst (λ x. (x < length rows) × IsWithin rows signature x) same (subst (λ l. q < l) (sym atoms.count) lt, within)
        | inr none ↦ absurd (Contains-none r none)
      ]

  -- they are states
  pub within_states : (signature states : List ℕ) → ((q : ℕ) → Contains states q ↔ ((q < length rows) × IsWithin rows signature q)) → AreStates n states
  within_states signature states members =
      All-from_contains (λ q. q < length n.states) states (λ q there. subst (λ l. q < l) atoms.count ((members q).0 there).0)

  -- a signature accepts the empty word where a state within it accepts
  pub within_ends : ((p : ℕ) → IsPlain n p) → (signature : List ℕ)
      → AcceptsWithin n rows signature [] ↔ ((q : ℕ) × (q < length n.states) × IsWithin rows signature q × IsTrue (is_accepting n.states q))
  within_ends plain signature = (
    (λ accepts. let there = (end_accepts n (accepts.0 ∷ []) (λ p q at edge. absurd (plain p q edge))).0 accepts.3 in (
      accepts.0,
      accepts.1,
      accepts.2,
      elim (Contains-cases accepts.0 [] there.0 there.1) [
        | inl same ↦ subst (λ x. IsTrue (is_accepting n.states x)) (sym same) there.2
        | inr none ↦ absurd (Contains-none there.0 none)
      ],
    )),
    (λ accepting. (
      accepting.0,
      accepting.1,
      accepting.2,
      (end_accepts n (accepting.0 ∷ []) (λ p q at edge. absurd (plain p q edge))).1 (accepting.0, Contains-here [] accepting.0, accepting.3),
    )),
  )
