-- Blocks of a partition, from which states are moved one after another.
use Rattle.std.proofs.Common.{◌≡◌, ◌<◌, ◌≤◌, ◌+◌, ◌⊎◌, ℕ, List, [], ◌∷◌, ◌++◌, Some, Contains, length, get_or, set, take, refl, sym, ap, subst, ◌∙◌, inl, inr, arith, length-append}
use Rattle.std.proofs.lemmas.Bool.{cases_eq, cases_lt}
use Rattle.std.proofs.lemmas.List.{get_or_append_left, get_or_push, get_or-set_same, get_or-set_other, length-set}
use Rattle.std.proofs.lemmas.Option.{slice_get-get_or, same_Some}
use Rattle.abstraction.specs.FirstStates.{AreFirsts}
use Rattle.abstraction.proofs.Firsts.{first_within, first_same}
use Rattle.abstraction.specs.Partitions.{AreBlocks, IsRefined, IsKnownMove, IsNewMove, IsNumbering}
use Rattle.abstraction.proofs.ListMembers.{take_cases, take_keeps, take_last}

-- the states of a part of the set were moved: to blocks from the first new one on, one for each old block
pub record HasMoved (first_new : ℕ) (old blocks moved part : List ℕ) : Type 0 where
  pub count : length blocks ≡ length old
  pub longer : first_new ≤ length moved
  pub are : AreBlocks blocks moved
  pub stays : (p : ℕ) → p < length old → get_or blocks p 0 < first_new → get_or blocks p 0 ≡ get_or old p 0
  pub goes : (p : ℕ) → p < length old → first_new ≤ get_or blocks p 0 → Contains part p × (get_or blocks p 0 ≡ get_or moved (get_or old p 0) 0)
  pub moves : (p : ℕ) → Contains part p → first_new ≤ get_or blocks p 0
  pub apart : (k l : ℕ) → k < first_new → l < first_new → first_new ≤ get_or moved k 0 → get_or moved k 0 ≡ get_or moved l 0 → k ≡ l

-- one more state of the set
module _ (first_new : ℕ) (old blocks moved states : List ℕ) (i state : ℕ) (within : i < length states) (read : get_or states i 0 ≡ state) (there : state < length old)
    (small : (p : ℕ) → p < length old → get_or old p 0 < first_new) (before : HasMoved first_new old blocks moved (take i states)) where
  is_state : (p : ℕ) → Contains (take (i + 1) states) p → Contains (take i states) p ⊎ (p ≡ state)
  is_state p member = elim (take_cases states i 0 p within member) [ inl earlier ↦ inl earlier | inr last ↦ inr (sym last ∙ read) ]

  keeps : (p : ℕ) → Contains (take i states) p → Contains (take (i + 1) states) p
  keeps p earlier = take_keeps states i 0 p within earlier

  last : Contains (take (i + 1) states) state
  last = subst (Contains (take (i + 1) states)) read (take_last states i 0 within)

  -- that was moved before
  pub moved_before : first_new ≤ get_or blocks state 0 → HasMoved first_new old blocks moved (take (i + 1) states)
  moved_before from = record {
    count = before.count;
    longer = before.longer;
    are = before.are;
    stays = before.stays;
    goes = λ p below at. let was = before.goes p below at in (keeps p was.0, was.1);
    moves = λ p member. elim (is_state p member) [ inl earlier ↦ before.moves p earlier | inr here ↦ subst (λ q. first_new ≤ get_or blocks q 0) (sym here) from ];
    apart = before.apart;
  }

  -- that is moved
  module _ (more : List ℕ) (to : ℕ) (stayed : get_or blocks state 0 < first_new) where
    abbrev block : ℕ
    block = get_or blocks state 0

    was : block ≡ get_or old state 0
    was = before.stays state there stayed

    at_state : get_or (set blocks state to) state 0 ≡ to
    at_state = get_or-set_same blocks state to 0 (let c = before.count in omega arith)

    elsewhere : (p : ℕ) → (p ≡ state → ⊥) → get_or (set blocks state to) p 0 ≡ get_or blocks p 0
    elsewhere p other = get_or-set_other blocks state p to 0 other

    module _ (longer : length moved ≤ length more) (from : first_new ≤ to) (below : to < length more) (goes_to : get_or more block 0 ≡ to)
        (in_range : (k : ℕ) → k < length more → get_or more k 0 < length more)
        (kept : (p : ℕ) → p < length old → first_new ≤ get_or blocks p 0 → get_or more (get_or old p 0) 0 ≡ get_or moved (get_or old p 0) 0)
        (apart : (k l : ℕ) → k < first_new → l < first_new → first_new ≤ get_or more k 0 → get_or more k 0 ≡ get_or more l 0 → k ≡ l) where
      pub moved_to : HasMoved first_new old (set blocks state to) more (take (i + 1) states)
      moved_to = record {
        count = length-set blocks state to ∙ before.count;
        longer = let l = before.longer in omega arith;
        are = record {
          of_states = λ p less. elim (cases_eq p state) [
            | inl here ↦ subst (λ q. get_or (set blocks state to) q 0 < length more) (sym here) (let e = at_state in omega arith)
            | inr other ↦ (let e = elsewhere p other in let s = before.are.of_states p (let l = length-set blocks state to in omega arith) in omega arith)
          ];
          of_moves = in_range;
        };
        stays = λ p less stays. elim (cases_eq p state) [
          | inl here ↦ absurd (let e = ap (λ q. get_or (set blocks state to) q 0) here ∙ at_state in omega arith)
          | inr other ↦ let e = elsewhere p other in e ∙ before.stays p less (omega arith)
        ];
        goes = λ p less goes. elim (cases_eq p state) [
          | inl here ↦
              subst (λ q. Contains (take (i + 1) states) q × (get_or (set blocks state to) q 0 ≡ get_or more (get_or old q 0) 0)) (sym here)
              (last, at_state ∙ sym goes_to ∙ ap (λ k. get_or more k 0) was)
          | inr other ↦
              let e = elsewhere p other in
              let moved : first_new ≤ get_or blocks p 0 = omega arith in
              let was = before.goes p less moved in
              (keeps p was.0, e ∙ was.1 ∙ sym (kept p less moved))
        ];
        moves = λ p member. elim (cases_eq p state) [
          | inl here ↦ subst (λ q. first_new ≤ get_or (set blocks state to) q 0) (sym here) (let e = at_state in omega arith)
          | inr other ↦ elim (is_state p member) [
            | inl earlier ↦ (let e = elsewhere p other in let m = before.moves p earlier in omega arith)
            | inr here ↦ absurd (other here)
          ]
        ];
        apart = apart;
      }

    pub moved_more : IsKnownMove moved more block first_new to ⊎ IsNewMove moved more block first_new to → HasMoved first_new old (set blocks state to) more (take (i + 1) states)
    moved_more (inl f) =
        let kept : (k : ℕ) → get_or more k 0 ≡ get_or moved k 0 = λ k. ap (λ xs. get_or xs k 0) f.same in
        let size = ap length f.same in
        let inside : block < length moved = (let l = before.longer in omega arith) in
        moved_to (omega arith) (let k = f.known in let e = f.to_is in omega arith) (let r = before.are.of_moves block inside in let e = f.to_is in omega arith) (kept block ∙ sym f.to_is)
        (λ k less. let r = before.are.of_moves k (omega arith) in let e = kept k in omega arith)
        (λ p less goes. kept (get_or old p 0))
        (λ k l lk ll goes same. before.apart k l lk ll (let e = kept k in omega arith) (sym (kept k) ∙ same ∙ kept l))
    moved_more (inr f) =
        let size : length more ≡ length moved + 1 = ap length f.added ∙ length-set (moved ++ 0 ∷ []) block (length moved) ∙ length-append moved (0 ∷ []) in
        let inside : block < length moved = (let l = before.longer in omega arith) in
        let here : get_or more block 0 ≡ length moved = ap (λ xs. get_or xs block 0) f.added
        ∙ get_or-set_same (moved ++ 0 ∷ []) block (length moved) 0 (let l = length-append moved (0 ∷ []) in omega arith) in
        let kept : (k : ℕ) → k < length moved → (k ≡ block → ⊥) → get_or more k 0 ≡ get_or moved k 0 = λ k less other. ap (λ xs. get_or xs k 0) f.added
        ∙ get_or-set_other (moved ++ 0 ∷ []) block k (length moved) 0 other ∙ get_or_append_left moved (0 ∷ []) 0 k less in
        let end : (length moved ≡ block → ⊥) → get_or more (length moved) 0 ≡ 0 = λ other. ap (λ xs. get_or xs (length moved) 0) f.added
        ∙ get_or-set_other (moved ++ 0 ∷ []) block (length moved) (length moved) 0 other ∙ get_or_push moved 0 0 (length moved) refl in
        let long = before.longer in
        let is = f.to_is in
        moved_to (omega arith) (omega arith) (omega arith) (here ∙ sym is)
        (λ k less. elim (cases_eq k block) [
          | inl same ↦ (let e = ap (λ j. get_or more j 0) same in omega arith)
          | inr other ↦ elim (cases_lt k (length moved)) [
            | inl old_one ↦ (let e = kept k old_one other in let r = before.are.of_moves k old_one in omega arith)
            | inr from ↦
                let last : k ≡ length moved = omega arith in
                let e = ap (λ j. get_or more j 0) last ∙ end (λ b. absurd (omega arith)) in omega arith
          ]
        ])
        (λ p less goes. kept (get_or old p 0) (let s = small p less in omega arith)
        (λ same. let unknown = f.unknown in let e = (before.goes p less goes).1 ∙ ap (λ j. get_or moved j 0) same in absurd (omega arith)))
        (λ k l lk ll goes same. elim (cases_eq k block) [
          | inl first ↦ elim (cases_eq l block) [
            | inl second ↦ first ∙ sym second
            | inr other ↦ absurd (let e = ap (λ j. get_or more j 0) first in let f = kept l (omega arith) other in let r = before.are.of_moves l (omega arith) in omega arith)
          ]
          | inr other ↦ elim (cases_eq l block) [
            | inl second ↦ absurd (let e = ap (λ j. get_or more j 0) second in let f = kept k (omega arith) other in let r = before.are.of_moves k (omega arith) in omega arith)
            | inr neither ↦
                let e = kept k (omega arith) other in
                let f = kept l (omega arith) neither in
                before.apart k l lk ll (omega arith) (sym e ∙ same ∙ f)
          ]
        ])

-- all states of the set
pub moved_all : (first_new : ℕ) (old blocks moved states : List ℕ) → ((p : ℕ) → p < length old → get_or old p 0 < first_new) → HasMoved first_new old blocks moved states
    → IsRefined states old blocks
moved_all first_new old blocks moved states small has = record {
  count = has.count;
  apart = λ p q lp lq. elim (cases_lt (get_or blocks p 0) first_new) [
    | inl p_stays ↦ elim (cases_lt (get_or blocks q 0) first_new) [
      | inl q_stays ↦
          let at_p = has.stays p lp p_stays in
          let at_q = has.stays q lq q_stays in (
            λ e. (sym at_p ∙ e ∙ at_q, (λ there. absurd (let m = has.moves p there in omega arith), λ there. absurd (let m = has.moves q there in omega arith))),
            λ both. at_p ∙ both.0 ∙ sym at_q,
          )
      | inr q_goes ↦ (λ e. absurd (omega arith), λ both. absurd (let m = has.moves p (both.1.1 (has.goes q lq q_goes).0) in omega arith))
    ]
    | inr p_goes ↦ elim (cases_lt (get_or blocks q 0) first_new) [
      | inl q_stays ↦ (λ e. absurd (omega arith), λ both. absurd (let m = has.moves q (both.1.0 (has.goes p lp p_goes).0) in omega arith))
      | inr q_goes ↦
          let at_p = has.goes p lp p_goes in
          let at_q = has.goes q lq q_goes in (
            λ e. (
              has.apart (get_or old p 0) (get_or old q 0) (small p lp) (small q lq) (let k = at_p.1 in omega arith) (sym at_p.1 ∙ e ∙ at_q.1),
              (λ there. at_q.0, λ there. at_p.0),
            ),
            λ both. at_p.1 ∙ ap (λ k. get_or moved k 0) both.0 ∙ sym at_q.1,
          )
    ]
  ];
}

-- first states of blocks number them
pub numbered : (blocks classes : List ℕ) → AreFirsts blocks classes → IsNumbering blocks classes
numbered blocks classes are = record {
  numbers = record { count = are.count; below = first_within blocks classes are };
  same = λ p q lp lq.
      let both = first_same blocks classes are p q lp lq in
      let at_p = slice_get-get_or blocks p 0 lp in
      let at_q = slice_get-get_or blocks q 0 lq in (
        λ e. same_Some (get_or blocks p 0) (get_or blocks q 0) (sym at_p ∙ both.0 e ∙ at_q),
        λ e. both.1 (at_p ∙ ap (λ (x : ℕ). Some x) e ∙ sym at_q),
      );
}
