-- Sets that are added, and the blocks that they split.
use Rattle.std.proofs.Common.{◌≡◌, ◌<◌, ◌≤◌, ◌+◌, ◌++◌, ◌↔◌, ◌⊎◌, ℕ, List, [], ◌∷◌, Some, Contains, All, length, get_or, slice_get, refl, sym, ap, subst, ◌∙◌, inl, inr, arith}
use Rattle.std.specs.Prelude.{replicate}
use Rattle.std.proofs.lemmas.Bool.{cases_lt}
use Rattle.std.proofs.lemmas.List.{append-nil, append_assoc, length-replicate, get_or-replicate, get_or_append_left, get_or_default, get_or_push}
use Rattle.std.proofs.lemmas.Option.{slice_get_within, get_or_from_slice_get}
use Rattle.std.proofs.lemmas.List.Elements.{All-contains, Contains-append_left, Contains-get_or, Contains-push, Contains-push_cases}
use Rattle.word_automata.specs.Automaton.{Automaton, IsValid}
use Rattle.word_automata.proofs.ForCallers.{Contains-none, All-from_contains}
use Rattle.abstraction.specs.Partitions.{AreNumbers, IsRefined}
use Rattle.past_abstraction.specs.private.WordSets.{LeadsFrom, IsImage, HaveSameStates, AreBlocksOf, AddsSet, AddsStates, HasImage, AddsImages, AddsImagesOf}
use Rattle.past_abstraction.proofs.ImageStates.{letter_within}

-- no set, and one block
pub blocks_of_none : (a : Automaton) (blocks : List ℕ) → IsValid a → blocks ≡ replicate (length a.states) 0 → AreBlocksOf a [] blocks
blocks_of_none a blocks valid zeros = record {
  valid = valid;
  count = ap length zeros ∙ length-replicate (length a.states) 0;
  in_range = λ set p there in_set. absurd (Contains-none set there);
  apart = λ p q lp lq. (λ e set there. absurd (Contains-none set there), λ same. zero_at p lp ∙ sym (zero_at q lq));
}
  where
    zero_at : (p : ℕ) → p < length a.states → get_or blocks p 0 ≡ 0
    zero_at p there = ap (λ xs. get_or xs p 0) zeros ∙ get_or-replicate (length a.states) p 0 0 there

pub zeros_are_numbers : (count : ℕ) (classes : List ℕ) → classes ≡ replicate count 0 → AreNumbers (length classes) classes
zeros_are_numbers count classes zeros = record {
  count = refl;
  below = λ p there.
      let long = ap length zeros ∙ length-replicate count 0 in
      let zero = ap (λ xs. get_or xs p 0) zeros ∙ get_or-replicate count p 0 0 (omega arith) in omega arith;
}

-- what is read at the place of a new set is that set
pub read_new : (old sets : List (List ℕ)) (set read : List ℕ) (i : ℕ) → read ≡ get_or sets i read → sets ≡ old ++ set ∷ [] → i ≡ length old → read ≡ set
read_new old sets set read i is grown last = is ∙ ap (λ xs. get_or xs i read) grown ∙ get_or_push old set read i (sym last)

-- what is read at a place is what stands there
pub read_at : (sets read_sets : List (List ℕ)) (read : List ℕ) (i : ℕ) → read_sets ≡ sets → i < length sets → read ≡ get_or read_sets i read → read ≡ get_or sets i []
read_at sets read_sets read i same less is = is ∙ ap (λ xs. get_or xs i read) same ∙ get_or_default sets i read [] less

-- a set that is read is there
pub there_at : (sets : List (List ℕ)) (set : List ℕ) (i : ℕ) → slice_get sets i ≡ Some set → Contains sets set
there_at sets set i read = (i, slice_get_within sets i set read, get_or_from_slice_get sets i set set read)

-- a set that is there
pub adds_known : (set : List ℕ) (old new : List (List ℕ)) → new ≡ old → Contains old set → AddsSet set old new
adds_known set old new same there = record {
  begins = ([], same ∙ sym (append-nil old));
  added = subst (λ sets. Contains sets set) (sym same) there;
  only = λ other in_new. inl (subst (λ sets. Contains sets other) same in_new);
}

-- a new one
pub adds_new : (set : List ℕ) (old new : List (List ℕ)) → new ≡ old ++ set ∷ [] → AddsSet set old new
adds_new set old new grown = record {
  begins = (set ∷ [], grown);
  added = subst (λ sets. Contains sets set) (sym grown) (Contains-push old set);
  only = λ other in_new. Contains-push_cases old set other (subst (λ sets. Contains sets other) grown in_new);
}

pub blocks_more : (a : Automaton) (set : List ℕ) (old new : List (List ℕ)) (blocks finer : List ℕ) → All (λ p. p < length a.states) set → new ≡ old ++ set ∷ [] → IsRefined set blocks finer
    → AreBlocksOf a old blocks → AreBlocksOf a new finer
blocks_more a set old new blocks finer states grown refined before = record {
  valid = before.valid;
  count = refined.count ∙ before.count;
  in_range = λ other p there in_other. elim (adds.only other there) [
    | inl earlier ↦ before.in_range other p earlier in_other
    | inr same ↦ All-contains (λ p. p < length a.states) set p states (subst (λ s. Contains s p) (sym same) in_other)
  ];
  apart = λ p q lp lq.
      let count = before.count in
      let now = refined.apart p q (omega arith) (omega arith) in
      let earlier = before.apart p q lp lq in (
        λ e other there. elim (adds.only other there) [
          | inl old_one ↦ earlier.0 (now.0 e).0 other old_one
          | inr same ↦ subst (λ s. Contains s p ↔ Contains s q) same (now.0 e).1
        ],
        λ same. now.1 (
          earlier.1 (λ other there. same other (subst (λ sets. Contains sets other) (sym grown) (Contains-append_left old (set ∷ []) other there))),
          same set adds.added,
        ),
      );
}
  where
    adds : AddsSet set old new
    adds = adds_new set old new grown

-- the states of the sets are states of the automaton, and so are those of images
pub set_states : (a : Automaton) (sets : List (List ℕ)) (blocks set : List ℕ) → AreBlocksOf a sets blocks → Contains sets set → All (λ p. p < length a.states) set
set_states a sets blocks set are there = All-from_contains (λ p. p < length a.states) set (λ p in_set. are.in_range set p there in_set)

-- the states of a list, where there are none, and where they are a set
pub adds_no_states : (states : List ℕ) (sets : List (List ℕ)) → states ≡ [] → AddsStates states sets sets
adds_no_states states sets none = record {
  begins = ([], sym (append-nil sets));
  added = λ q there. absurd (Contains-none q (subst (λ xs. Contains xs q) none there));
  only = λ other there. inl there;
}

pub adds_states : (states set : List ℕ) (old new : List (List ℕ)) → HaveSameStates states set → AddsSet set old new → AddsStates states old new
adds_states states set old new same adds = record {
  begins = adds.begins;
  added = λ q there. (set, adds.added, same);
  only = λ other there. elim (adds.only other there) [
    | inl earlier ↦ inl earlier
    | inr is ↦ inr (subst (HaveSameStates states) is same)
  ];
}

pub same_within : (count : ℕ) (states set : List ℕ) → HaveSameStates states set → All (λ p. p < count) states → All (λ p. p < count) set
same_within count states set same within = All-from_contains (λ p. p < count) set (λ q there. All-contains (λ p. p < count) states q within ((same q).0 there))

-- the images under the letters before one
pub record AddsImagesBefore (a : Automaton) (set : List ℕ) (at : ℕ) (old new : List (List ℕ)) : Type 0 where
  pub begins : (more : List (List ℕ)) × (new ≡ old ++ more)
  pub images : (letter : ℕ) → letter < at → HasImage a new set letter
  pub only : (other : List ℕ) → Contains new other → Contains old other ⊎ ((letter : ℕ) × IsImage a set letter other)

pub images_none : (a : Automaton) (set : List ℕ) (old : List (List ℕ)) → AddsImagesBefore a set 0 old old
images_none a set old = record { begins = ([], sym (append-nil old)); images = λ letter less. absurd (omega arith); only = λ other there. inl there }

-- the same states are the same image
same_image : (a : Automaton) (set : List ℕ) (at : ℕ) (states image : List ℕ) → ((q : ℕ) → Contains states q ↔ LeadsFrom a set at q) → HaveSameStates states image → IsImage a set at image
same_image a set at states image of same q = (λ there. (of q).0 ((same q).0 there), λ leads. (same q).1 ((of q).1 leads))

-- one more letter
pub images_more : (a : Automaton) (set states : List ℕ) (at : ℕ) (old mid new : List (List ℕ)) → ((q : ℕ) → Contains states q ↔ LeadsFrom a set at q)
    → AddsImagesBefore a set at old mid → AddsStates states mid new → AddsImagesBefore a set (at + 1) old new
images_more a set states at old mid new of before adds = record {
  begins = (
    before.begins.0 ++ adds.begins.0,
    adds.begins.1 ∙ ap (λ sets. sets ++ adds.begins.0) before.begins.1 ∙ append_assoc old before.begins.0 adds.begins.0,
  );
  images = λ letter less. elim (cases_lt letter at) [
    | inl earlier ↦ λ q leads. (let there = before.images letter earlier q leads in (there.0, kept there.0 there.1, there.2))
    | inr from ↦ let here : at ≡ letter = omega arith in subst (HasImage a new set) here now
  ];
  only = λ other there. elim (adds.only other there) [
    | inl earlier ↦ before.only other earlier
    | inr same ↦ inr (at, same_image a set at states other of same)
  ];
}
  where
    kept : (other : List ℕ) → Contains mid other → Contains new other
    kept other there = subst (λ sets. Contains sets other) (sym adds.begins.1) (Contains-append_left mid adds.begins.0 other there)

    now : HasImage a new set at
    now q leads = let added = adds.added q ((of q).1 leads) in (added.0, added.1, same_image a set at states added.0 of added.2)

-- all letters
pub images_all : (a : Automaton) → IsValid a → (set : List ℕ) (at : ℕ) (old new : List (List ℕ)) → a.letters ≤ at → AddsImagesBefore a set at old new → AddsImages a set old new
images_all a valid set at old new all before = record {
  begins = before.begins;
  images = λ letter q leads. before.images letter (let within = letter_within a valid set letter q leads in omega arith) q leads;
  only = before.only;
}

-- what stood at a place still does
pub same_place : (old new : List (List ℕ)) (i : ℕ) (more : List (List ℕ)) → new ≡ old ++ more → i < length old → get_or new i [] ≡ get_or old i []
same_place old new i more begins less = ap (λ sets. get_or sets i []) begins ∙ get_or_append_left old more [] i less

-- the images of one set after another
pub images_of_none : (a : Automaton) (first : ℕ) (old : List (List ℕ)) → AddsImagesOf a first first old old
images_of_none a first old = record {
  begins = ([], sym (append-nil old));
  images = λ i letter from less. absurd (omega arith);
  only = λ other there. inl there;
}

pub images_of_more : (a : Automaton) (first end : ℕ) (old mid new : List (List ℕ)) → end < length old → AddsImagesOf a first end old mid
    → AddsImages a (get_or mid end []) mid new → AddsImagesOf a first (end + 1) old new
images_of_more a first end old mid new within before adds = record {
  begins = (
    before.begins.0 ++ adds.begins.0,
    adds.begins.1 ∙ ap (λ sets. sets ++ adds.begins.0) before.begins.1 ∙ append_assoc old before.begins.0 adds.begins.0,
  );
  images = λ i letter from less. elim (cases_lt i end) [
    | inl earlier ↦ λ q leads. (let there = before.images i letter from earlier q leads in (there.0, kept there.0 there.1, there.2))
    | inr late ↦
        let here : end ≡ i = omega arith in
        subst (λ k. HasImage a new (get_or old k []) letter) here (subst (λ s. HasImage a new s letter) read (adds.images letter))
  ];
  only = λ other there. elim (adds.only other there) [
    | inl earlier ↦ before.only other earlier
    | inr image ↦ inr (get_or old end [], image.0, Contains-get_or old end [] within, subst (λ s. IsImage a s image.0 other) read image.1)
  ];
}
  where
    read : get_or mid end [] ≡ get_or old end []
    read = same_place old mid end before.begins.0 before.begins.1 within

    kept : (other : List ℕ) → Contains mid other → Contains new other
    kept other there = subst (λ sets. Contains sets other) (sym adds.begins.1) (Contains-append_left mid adds.begins.0 other there)

pub images_of_all : (a : Automaton) (first end : ℕ) (old new : List (List ℕ)) → length old ≤ end → AddsImagesOf a first end old new → AddsImagesOf a first (length old) old new
images_of_all a first end old new all adds = record {
  begins = adds.begins;
  images = λ i letter from less. adds.images i letter from (omega arith);
  only = adds.only;
}
