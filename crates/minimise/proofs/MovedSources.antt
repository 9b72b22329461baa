-- Sources of moves that go to other classes: where each state is, and that classes stay told apart.
use Rattle.std.proofs.Common.{◌≡◌, ◌+◌, ◌<◌, ◌≤◌, ◌⊎◌, ℕ, Bool, true, false, Vec, List, [], ◌∷◌, ◌++◌, length, slice_index, get_or, set, eqb, ltb, if◌then◌else◌, ◌&&◌, refl, sym, ap, subst, ◌∙◌, inl, inr, arith}
use Rattle.std.proofs.lemmas.Bool.{cases_eq, cases_lt}
use Rattle.std.proofs.lemmas.Bool.Decides.{nat_tests}
use Rattle.std.proofs.lemmas.List.{length-set, get_or_past, get_or-set_same, get_or-set_other}
use Rattle.word_automata.specs.Automaton.{target}
use Rattle.minimise.specs.private.Rounds.{AreApart}
use Rattle.minimise.specs.private.Splitters.{IsListed, AreListed, source_at, IsSource, AreSources, SplitsSoundly, target_of, AreMovedBefore, AreMoved}
use Rattle.minimise.proofs.MemberLists.{listed_here, listed_kept}

-- where the sources of one more move go
module _ (moves : List (ℕ × ℕ)) (i q : ℕ) where
  pub source_kept : IsSource moves i q → IsSource moves (i + 1) q
  source_kept (k, l, e) = (k, omega arith, e)

  pub source_cases : IsSource moves (i + 1) q → IsSource moves i q ⊎ (source_at moves i ≡ q)
  source_cases (k, l, e) = elim (cases_lt k i) [
    | inl less ↦ inl (k, less, e)
    | inr more ↦ let same : k ≡ i = omega arith in inr (ap (source_at moves) (sym same) ∙ e)
  ]

-- a target goes nowhere else
pub target_twice : (targets : List ℕ) (count class : ℕ) → target_of targets count (target_of targets count class) ≡ target_of targets count class
target_twice targets count class = by (ltb (slice_index targets class) count && eqb (slice_index targets (slice_index targets class)) (slice_index targets class)) refl
  where
    by : (b : Bool) → (ltb (slice_index targets class) count && eqb (slice_index targets (slice_index targets class)) (slice_index targets class)) ≡ b
        → target_of targets count (target_of targets count class) ≡ target_of targets count class
    by true h =
        let is : target_of targets count class ≡ slice_index targets class = ap (λ b. if b then slice_index targets class else class) h in
        let own : slice_index targets (slice_index targets class) ≡ slice_index targets class = grind (arith, nat_tests) in
        let again : target_of targets count (slice_index targets class) ≡ slice_index targets class =
        ap (λ t. if ltb t count && eqb (slice_index targets t) t then t else slice_index targets class) own
        ∙ ap (λ b. if b then slice_index targets class else slice_index targets class) h in
        ap (target_of targets count) is ∙ again ∙ sym is
    by false h =
        let is : target_of targets count class ≡ class = ap (λ b. if b then slice_index targets class else class) h in
        ap (target_of targets count) is

pub target_within : (targets : List ℕ) (count class : ℕ) → (target_of targets count class ≡ class → ⊥) → target_of targets count class < count
target_within targets count class other = by (ltb (slice_index targets class) count && eqb (slice_index targets (slice_index targets class)) (slice_index targets class)) refl
  where
    by : (b : Bool) → (ltb (slice_index targets class) count && eqb (slice_index targets (slice_index targets class)) (slice_index targets class)) ≡ b → target_of targets count class < count
    by true h =
        let is : target_of targets count class ≡ slice_index targets class = ap (λ b. if b then slice_index targets class else class) h in
        let low : slice_index targets class < count = grind (arith, nat_tests) in
        omega arith
    by false h = absurd (other (ap (λ b. if b then slice_index targets class else class) h))

module _ (target : ℕ → ℕ) (twice : (c : ℕ) → target (target c) ≡ target c) (moves : List (ℕ × ℕ)) (old new : List ℕ) (i : ℕ) (so_far : AreMovedBefore target moves old new i) where
  pub moved_past : length new ≤ source_at moves i → AreMovedBefore target moves old new (i + 1)
  moved_past past = record {
    count = so_far.count;
    each = λ q l. elim (so_far.each q l) [
      | inl (source, is) ↦ inl (source_kept moves i q source, is)
      | inr (none, is) ↦ inr ((λ source. elim (source_cases moves i q source) [ inl before ↦ none before | inr e ↦ (let c = so_far.count in omega arith) ]), is)
    ];
  }

  goes : source_at moves i < length new → target (slice_index new (source_at moves i)) ≡ target (slice_index old (source_at moves i))
  goes l = elim (so_far.each (source_at moves i) (let c = so_far.count in omega arith)) [
    | inl (source, is) ↦ ap target is ∙ twice (slice_index old (source_at moves i))
    | inr (none, is) ↦ ap target is
  ]

  pub moved_same : source_at moves i < length new → target (slice_index new (source_at moves i)) ≡ slice_index new (source_at moves i) → AreMovedBefore target moves old new (i + 1)
  moved_same l stays = record {
    count = so_far.count;
    each = λ q within. by q within (cases_eq (source_at moves i) q) (so_far.each q within);
  }
    where
      by : (q : ℕ) → q < length old → (source_at moves i ≡ q) ⊎ (source_at moves i ≡ q → ⊥)
          → (IsSource moves i q × (slice_index new q ≡ target (slice_index old q))) ⊎ ((IsSource moves i q → ⊥) × (slice_index new q ≡ slice_index old q))
          → (IsSource moves (i + 1) q × (slice_index new q ≡ target (slice_index old q))) ⊎ ((IsSource moves (i + 1) q → ⊥) × (slice_index new q ≡ slice_index old q))
      by q within (inl e) status = inl ((i, omega arith, e), subst (λ x. slice_index new x ≡ target (slice_index old x)) e (sym stays ∙ goes l))
      by q within (inr ne) (inl (source, is)) = inl (source_kept moves i q source, is)
      by q within (inr ne) (inr (none, is)) = inr ((λ source. elim (source_cases moves i q source) [ inl before ↦ none before | inr e ↦ ne e ]), is)

  pub moved_more : (to : ℕ) → source_at moves i < length new → to ≡ target (slice_index new (source_at moves i)) → AreMovedBefore target moves old (set new (source_at moves i) to) (i + 1)
  moved_more to l is_target = record {
    count = length-set new (source_at moves i) to ∙ so_far.count;
    each = λ q within. by q within (cases_eq q (source_at moves i)) (so_far.each q within);
  }
    where
      by : (q : ℕ) → q < length old → (q ≡ source_at moves i) ⊎ (q ≡ source_at moves i → ⊥)
          → (IsSource moves i q × (slice_index new q ≡ target (slice_index old q))) ⊎ ((IsSource moves i q → ⊥) × (slice_index new q ≡ slice_index old q))
          → (IsSource moves (i + 1) q × (slice_index (set new (source_at moves i) to) q ≡ target (slice_index old q)))
          ⊎ ((IsSource moves (i + 1) q → ⊥) × (slice_index (set new (source_at moves i) to) q ≡ slice_index old q))
      by q within (inl e) status = inl (
        (i, omega arith, sym e),
        subst (λ x. slice_index (set new (source_at moves i) to) x ≡ target (slice_index old x)) (sym e) (get_or-set_same new (source_at moves i) to 0 l ∙ is_target ∙ goes l),
      )
      by q within (inr ne) (inl (source, is)) = inl (source_kept moves i q source, get_or-set_other new (source_at moves i) q to 0 ne ∙ is)
      by q within (inr ne) (inr (none, is)) = inr (
        (λ source. elim (source_cases moves i q source) [ inl before ↦ none before | inr e ↦ ne (sym e) ]),
        get_or-set_other new (source_at moves i) q to 0 ne ∙ is,
      )

-- a state is put into another class, and into its list
pub listed_moved : {A : Type 0} (classes : List ℕ) (lists : List (Vec ℕ A)) (state to : ℕ) (list more : Vec ℕ A) → state < length classes → to < length lists → list ≡ get_or lists to list
    → more.items ≡ list.items ++ state ∷ [] → AreListed classes lists → AreListed (set classes state to) (set lists to more)
listed_moved {A} classes lists state to list more there within list_is grown listed q = by (cases_eq q state)
  where
    by : (q ≡ state) ⊎ (q ≡ state → ⊥) → (slice_index (set classes state to) q ≡ 0) ⊎ IsListed (set lists to more) (slice_index (set classes state to) q) q
    by (inl e) =
        let is : slice_index (set classes state to) q ≡ to = ap (slice_index (set classes state to)) e ∙ get_or-set_same classes state to 0 there in
        inr (subst (λ x. IsListed (set lists to more) x q) (sym is) (subst (IsListed (set lists to more) to) (sym e) (listed_here lists to state list more within list_is grown)))
    by (inr ne) =
        let is : slice_index (set classes state to) q ≡ slice_index classes q = get_or-set_other classes state q to 0 ne in
        elim (listed q) [
          | inl none ↦ inl (is ∙ none)
          | inr old ↦ inr (subst (λ x. IsListed (set lists to more) x q) (sym is) (listed_kept lists to state list more within list_is grown (slice_index classes q) q old))
        ]

-- classes stay told apart where sources that are told apart from other states have moved
pub moved_soundly : (target : ℕ → ℕ) (moves : List (ℕ × ℕ)) (old new : List ℕ) → AreMoved target moves old new → SplitsSoundly (λ m. AreSources m moves) old new
moved_soundly target moves old new moved m sources apart = record {
  count = moved.count ∙ apart.count;
  told_apart = λ p q ne. elim (cases_eq (slice_index old p) (slice_index old q)) [
    | inr differ ↦ apart.told_apart p q differ
    | inl same ↦ by p q ne same (status p) (status q)
  ];
}
  where
    status : (q : ℕ) → (IsSource moves (length moves) q × (slice_index new q ≡ target (slice_index old q))) ⊎ ((IsSource moves (length moves) q → ⊥) × (slice_index new q ≡ slice_index old q))
    status q = elim (cases_lt q (length old)) [
      | inl there ↦ moved.each q there
      | inr past ↦ inr (
        (λ (k, l, e). (let s = sources.states k l in let c = apart.count in omega arith)),
        get_or_past new q 0 (let c = moved.count in omega arith) ∙ sym (get_or_past old q 0 past),
      )
    ]

    by : (p q : ℕ) → (slice_index new p ≡ slice_index new q → ⊥) → slice_index old p ≡ slice_index old q
        → (IsSource moves (length moves) p × (slice_index new p ≡ target (slice_index old p))) ⊎ ((IsSource moves (length moves) p → ⊥) × (slice_index new p ≡ slice_index old p))
        → (IsSource moves (length moves) q × (slice_index new q ≡ target (slice_index old q))) ⊎ ((IsSource moves (length moves) q → ⊥) × (slice_index new q ≡ slice_index old q))
        → AreApart m p q
    by p q ne same (inl s) (inl t) = absurd (ne (s.1 ∙ ap target same ∙ sym t.1))
    by p q ne same (inl s) (inr t) = sources.apart p q s.0 t.0
    by p q ne same (inr s) (inl t) = let w = sources.apart q p t.0 s.0 in (w.0, λ h. w.1 (sym h))
    by p q ne same (inr s) (inr t) = absurd (ne (s.1 ∙ same ∙ sym t.1))
