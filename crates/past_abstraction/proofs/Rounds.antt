-- Sets of states into which words lead, and those of words that are one letter longer.
use Rattle.std.proofs.Common.{◌≡◌, ◌<◌, ◌≤◌, ◌+◌, ◌-◌, ◌⊎◌, ◌++◌, ◌↔◌, ℕ, zero, suc, List, [], ◌∷◌, Some, Contains, length, get_or, refl, sym, ap, subst, ◌∙◌, inl, inr, arith, length-append}
use Rattle.std.proofs.lemmas.Bool.{cases_lt}
use Rattle.std.proofs.lemmas.List.{append-nil, get_or_default}
use Rattle.std.proofs.lemmas.List.Elements.{Contains-append_left}
use Rattle.word_automata.specs.Automaton.{Automaton, target}
use Rattle.word_automata.proofs.ForCallers.{Contains-none}
use Rattle.past_abstraction.specs.Pasts.{LeadsTo, IsInPast}
use Rattle.past_abstraction.specs.private.WordSets.{IsImage, IsSetOf, AddsSet, HasImage, AddsImagesOf, AreWordSets}
use Rattle.past_abstraction.proofs.Adding.{same_place}

-- the last letter of a word
last_letter : (w : List ℕ) → (w ≡ []) ⊎ ((v : List ℕ) × (letter : ℕ) × (w ≡ v ++ letter ∷ []) × (length w ≡ suc (length v)))
last_letter [] = inl refl
last_letter (first ∷ w) = elim (last_letter w) [
  | inl none ↦ inr ([], first, ap (λ v. first ∷ v) none, ap suc (ap length none))
  | inr some ↦ inr (first ∷ some.0, some.1, ap (λ v. first ∷ v) some.2, ap suc some.3)
]

-- a path along a word and one more letter
pub last_step : (a : Automaton) (w : List ℕ) (p letter q : ℕ) → LeadsTo a p (w ++ letter ∷ []) q → (r : ℕ) × LeadsTo a p w r × (target a r letter ≡ Some q)
last_step a [] p letter q (r, leads, here) = (p, refl, leads ∙ ap Some here)
last_step a (first ∷ w) p letter q (r, leads, rest) = let last = last_step a w r letter q rest in (last.0, (r, leads, last.1), last.2)

pub step_more : (a : Automaton) (w : List ℕ) (p letter q r : ℕ) → LeadsTo a p w r → target a r letter ≡ Some q → LeadsTo a p (w ++ letter ∷ []) q
step_more a [] p letter q r here leads = (q, subst (λ s. target a s letter ≡ Some q) (sym here) leads, refl)
step_more a (first ∷ w) p letter q r (s, to, rest) leads = (s, to, step_more a w s letter q r rest leads)

-- the image of a word's set is the set of the word with one more letter
pub image_of_word : (a : Automaton) (w : List ℕ) (letter : ℕ) (set image : List ℕ) → IsSetOf a w set → IsImage a set letter image → IsSetOf a (w ++ letter ∷ []) image
image_of_word a w letter set image of is q = (
  λ there.
      let step = (is q).0 there in
      let into = (of step.0).0 step.1 in
      (into.0, into.1, step_more a w into.0 letter q step.0 into.2 step.2),
  λ into.
      let last = last_step a w into.0 letter q into.2 in
      (is q).1 (last.0, (of last.0).1 (into.0, into.1, last.1), last.2),
)

-- the set of all states is that of the word without letters
pub first_sets : (a : Automaton) (set : List ℕ) (sets : List (List ℕ)) → ((p : ℕ) → Contains set p ↔ (p < length a.states)) → AddsSet set [] sets → AreWordSets a 0 0 sets
first_sets a set sets all adds = record {
  within = omega arith;
  words = λ other there. elim (adds.only other there) [
    | inl none ↦ absurd (Contains-none other none)
    | inr same ↦ ([], omega arith, subst (IsSetOf a []) same of_none)
  ];
  sets_of_words = λ w q short into. (set, adds.added, subst (λ v. IsSetOf a v set) (sym (empty w short)) of_none);
  images = λ i letter less. absurd (omega arith);
}
  where
    of_none : IsSetOf a [] set
    of_none q = (λ there. (q, (all q).0 there, refl), λ into. (all q).1 (subst (λ p. p < length a.states) into.2 into.1))

    empty : (w : List ℕ) → length w ≤ 0 → w ≡ []
    empty [] short = refl
    empty (letter ∷ w) short = absurd (omega arith)

-- the images of the sets of words
module _ (a : Automaton) (bound first : ℕ) (old new : List (List ℕ)) (adds : AddsImagesOf a first (length old) old new) (has : AreWordSets a bound first old) where
  kept : (set : List ℕ) → Contains old set → Contains new set
  kept set there = subst (λ sets. Contains sets set) (sym adds.begins.1) (Contains-append_left old adds.begins.0 set there)

  image_there : (i letter : ℕ) → i < length old → HasImage a new (get_or old i []) letter
  image_there i letter less q leads = elim (cases_lt i first) [
    | inl before ↦ let there = has.images i letter before q leads in (there.0, kept there.0 there.1, there.2)
    | inr from ↦ adds.images i letter (omega arith) less q leads
  ]

  set_of_longer : (w v : List ℕ) (letter q : ℕ) → w ≡ v ++ letter ∷ [] → length v ≤ bound → IsInPast a w q → (set : List ℕ) × Contains new set × IsSetOf a w set
  set_of_longer w v letter q is short into =
      let last = last_step a v into.0 letter q (subst (λ u. LeadsTo a into.0 u q) is into.2) in
      let (set, there, of) = has.sets_of_words v last.0 short (into.0, into.1, last.1) in
      let read : get_or old there.0 [] ≡ set = get_or_default old there.0 [] set there.1 ∙ there.2 in
      let inside : Contains (get_or old there.0 []) last.0 = subst (λ s. Contains s last.0) (sym read) ((of last.0).1 (into.0, into.1, last.1)) in
      let (image, added, of_image) = image_there there.0 letter there.1 q (last.0, inside, last.2) in
      (image, added, subst (λ u. IsSetOf a u image) (sym is) (image_of_word a v letter set image of (subst (λ s. IsImage a s letter image) read of_image)))

  pub next_sets : AreWordSets a (bound + 1) (length old) new
  next_sets = record {
    within = let e = ap length adds.begins.1 ∙ length-append old adds.begins.0 in omega arith;
    words = λ set there. elim (adds.only set there) [
      | inl earlier ↦ let of = has.words set earlier in (of.0, (let short = of.1 in omega arith), of.2)
      | inr image ↦
          let of = has.words image.0 image.2 in
          let long = length-append of.0 (image.1 ∷ []) in
          (of.0 ++ image.1 ∷ [], (let short = of.1 in omega arith), image_of_word a of.0 image.1 image.0 set of.2 image.3)
    ];
    sets_of_words = λ w q short into. elim (cases_lt bound (length w)) [
      | inl long ↦ elim (last_letter w) [
        | inl none ↦ absurd (let e = ap length none in omega arith)
        | inr some ↦ set_of_longer w some.0 some.1 q some.2 (let e = some.3 in omega arith) into
      ]
      | inr within ↦ let there = has.sets_of_words w q (omega arith) into in (there.0, kept there.0 there.1, there.2)
    ];
    images = λ i letter less. subst (λ s. HasImage a new s letter) (sym (same_place old new i adds.begins.0 adds.begins.1 less)) (image_there i letter less);
  }

-- where all images are there, the sets are those of words of any length
module _ (a : Automaton) (bound : ℕ) (sets : List (List ℕ)) (has : AreWordSets a bound (length sets) sets) where
  none_added : AddsImagesOf a (length sets) (length sets) sets sets
  none_added = record { begins = ([], sym (append-nil sets)); images = λ i letter from less. absurd (omega arith); only = λ other there. inl there }

  longer : (d : ℕ) → AreWordSets a (d + bound) (length sets) sets
  longer zero = let e : bound ≡ 0 + bound = omega arith in subst (λ k. AreWordSets a k (length sets) sets) e has
  longer (suc d) =
      let e : d + bound + 1 ≡ suc d + bound = omega arith in
      subst (λ k. AreWordSets a k (length sets) sets) e (next_sets a (d + bound) (length sets) sets sets none_added (longer d))

  pub all_sets : (n : ℕ) → bound ≤ n → AreWordSets a n (length sets) sets
  all_sets n less = let e : (n - bound) + bound ≡ n = omega arith in subst (λ k. AreWordSets a k (length sets) sets) e (longer (n - bound))
