-- What a library in memory answers meets what every library promises.
use Rattle.std.proofs.Common.{◌≡◌, ◌+◌, ◌<◌, ◌≤◌, ◌==◌, ℕ, Bool, true, false, List, [], ◌∷◌, length, find, refl, ap, inl, arith}
use Rattle.std.proofs.Common.{Option, Some, None, option_map, Result, Ok, Err, IsTrue, IsSome, IfSome, cond}
use Rattle.std.proofs.Common.{Vec, String, Global, string_bytes, bytes_eq}
use Rattle.std.proofs.lemmas.Grind.{common_steps}
use Rattle.std.specs.List.{list_any}
use Rattle.armc_io.specs.Library.{ReadAnswers}
use Rattle.armc_io.specs.MemoryLibrary.{LibraryContents, named_bytes, answer_of, limited, text_of, library_state, ReadsContents}
use Rattle.armc_io.specs.declared.traits.ReadFail.{ReadFail}
use Rattle.armc_io.specs.declared.traits.ReadFail.TheVariants.{Failed, TooLong, Memory}
use Rattle.armc_io.proofs.FaultsLemmas.{le-next_count, Rose-next_count}

-- a test of the names finds the same text before and after the pairs are seen as bytes
pub text_of-named_bytes : (texts : List (String Global × Vec ℕ Global)) (name : List ℕ)
    → text_of (named_bytes texts) name ≡ option_map (λ t. t.1.items) (find (λ t. bytes_eq (string_bytes t.0) name) texts)
text_of-named_bytes [] name = refl
text_of-named_bytes (t ∷ texts) name =
    elim (bytes_eq (string_bytes t.0) name)
    as (λ b. option_map (λ p. p.1) (cond b (Some (string_bytes t.0, t.1.items)) (find (λ p. bytes_eq p.0 name) (named_bytes texts)))
    ≡ option_map (λ p. p.1.items) (cond b (Some t) (find (λ p. bytes_eq (string_bytes p.0) name) texts)))
    [ true ↦ refl | false ↦ text_of-named_bytes texts name ]

-- a text that answers `Ok` is the answer, and within the limit
pub limited-Ok : (text : Option (List ℕ)) (limit : ℕ) (bytes : List ℕ) → limited text limit ≡ Ok bytes
    → IfSome text (λ t. bytes ≡ t) × length bytes ≤ limit
limited-Ok None limit bytes e = absurd (cc)
limited-Ok (Some text) limit bytes e = grind (arith, common_steps)

-- a text that answers `TooLong` is longer than the limit
pub limited-TooLong : (text : Option (List ℕ)) (limit : ℕ) → limited text limit ≡ Err TooLong
    → IfSome text (λ t. limit < length t)
limited-TooLong None limit e = tt
limited-TooLong (Some text) limit e = grind (arith, common_steps)

-- a text fails only where there is none
pub limited-Failed : (text : Option (List ℕ)) (limit : ℕ) → limited text limit ≡ Err Failed → text ≡ None
limited-Failed None limit e = refl
limited-Failed (Some text) limit e = grind (arith, common_steps)

-- an answer that is not `Failed` is that of the text
pub answer_of-Ok : (now : LibraryContents) (name : List ℕ) (limit : ℕ) (bytes : List ℕ) → answer_of now name limit ≡ Ok bytes
    → limited (text_of now.texts name) limit ≡ Ok bytes
answer_of-Ok now name limit bytes e = grind arith

pub answer_of-TooLong : (now : LibraryContents) (name : List ℕ) (limit : ℕ) → answer_of now name limit ≡ Err TooLong
    → limited (text_of now.texts name) limit ≡ Err TooLong
answer_of-TooLong now name limit e = grind arith

-- a list of no length has no element that passes a test
pub list_any-empty : {X : Type 0} (test : X → Bool) (xs : List X) → IsTrue (length xs == 0) → list_any test xs ≡ false
list_any-empty test [] h = refl
list_any-empty test (x ∷ xs) h = grind arith

-- with no call that is to fail, only an unknown name fails
pub answer_of-Failed : (now : LibraryContents) (name : List ℕ) (limit : ℕ) → answer_of now name limit ≡ Err Failed
    → IsTrue (length now.failing == 0) → text_of now.texts name ≡ None
answer_of-Failed now name limit e empty =
    let none = list_any-empty (λ k. k == now.calls) now.failing empty in
    limited-Failed (text_of now.texts name) limit (grind (arith, none))

-- the texts and the failing calls stay
pub ReadsContents-kept : (old new : LibraryContents) (name : List ℕ) (limit : ℕ) (r : Result (Vec ℕ Global) ReadFail)
    → ReadsContents old new name limit r → (new.texts ≡ old.texts) × (new.failing ≡ old.failing)
ReadsContents-kept old new name limit (Ok bytes) h = (ap (λ c. c.texts) h.1, ap (λ c. c.failing) h.1)
ReadsContents-kept old new name limit (Err Failed) h = (ap (λ c. c.texts) h.1, ap (λ c. c.failing) h.1)
ReadsContents-kept old new name limit (Err TooLong) h = (ap (λ c. c.texts) h.1, ap (λ c. c.failing) h.1)
ReadsContents-kept old new name limit (Err Memory) h = (ap (λ c. c.texts) h, ap (λ c. c.failing) h)

-- the count of faults never falls
pub ReadsContents-faults : (old new : LibraryContents) (name : List ℕ) (limit : ℕ) (r : Result (Vec ℕ Global) ReadFail)
    → ReadsContents old new name limit r → old.faults ≤ new.faults
ReadsContents-faults old new name limit (Ok bytes) h = rw h.1 (omega arith)
ReadsContents-faults old new name limit (Err Failed) h = rw h.1 (le-next_count old.faults)
ReadsContents-faults old new name limit (Err TooLong) h = rw h.1 (omega arith)
ReadsContents-faults old new name limit (Err Memory) h = rw h (omega arith)

-- the answer says what every library's answer says
pub ReadsContents-answer : (old new : LibraryContents) (name : List ℕ) (limit : ℕ) (r : Result (Vec ℕ Global) ReadFail)
    → ReadsContents old new name limit r → ReadAnswers (library_state old) (library_state new) name limit r
ReadsContents-answer old new name limit (Ok bytes) h =
    let is = limited-Ok (text_of old.texts name) limit bytes.items (answer_of-Ok old name limit bytes.items h.0) in
    record { whole = is.0; within = is.1; last = ap (λ c. c.last) h.1 }
ReadsContents-answer old new name limit (Err Failed) h =
    record { rose = rw h.1 (Rose-next_count old.faults); last = (0, ap (λ c. c.last) h.1) }
ReadsContents-answer old new name limit (Err TooLong) h = record {
  longer = limited-TooLong (text_of old.texts name) limit (answer_of-TooLong old name limit h.0);
  last = (limit + 1, omega arith, ap (λ c. c.last) h.1);
}
ReadsContents-answer old new name limit (Err Memory) h = inl (ap (λ c. c.last) h)

-- with no call that is to fail, a name that is told is no fault
pub ReadsContents-no_fault : (old new : LibraryContents) (name : List ℕ) (limit : ℕ) (r : Result (Vec ℕ Global) ReadFail)
    → ReadsContents old new name limit r → IsTrue (length old.failing == 0) → IsSome (text_of old.texts name)
    → new.faults ≡ old.faults
ReadsContents-no_fault old new name limit (Ok bytes) h empty told = ap (λ c. c.faults) h.1
ReadsContents-no_fault old new name limit (Err Failed) h empty told =
    let unknown = answer_of-Failed old name limit h.0 empty in grind arith
ReadsContents-no_fault old new name limit (Err TooLong) h empty told = ap (λ c. c.faults) h.1
ReadsContents-no_fault old new name limit (Err Memory) h empty told = ap (λ c. c.faults) h
