-- Elements of lists.
use Rattle.std.proofs.Common.{◌≡◌, ◌==◌, ◌<◌, ◌≤◌, ◌+◌, ◌-◌, ℕ, Bool, true, false, List, [], ◌∷◌, ◌++◌, Contains, All, cond, length, get_or, sym, ap, subst, ◌∙◌, inl, inr, arith, eq-eqb, eqb-true, nat_lt, lt-ltb, ltb-true, add-one, zero-add, take, drop}
use Rattle.std.specs.List.{range_with_len, filter}
use Rattle.std.proofs.lemmas.List.Folds.{list_any_at}
use Rattle.std.proofs.lemmas.Map.Views.{Contains-from_any}
use Rattle.std.proofs.lemmas.List.{append-nil, map_push, take_all}
use Rattle.protocol_model.proofs.ForCallers.{range_with_len_push}
use Rattle.std.proofs.lemmas.List.FromFn.{length-range_with_len, get_or-range_with_len}
use Rattle.std.proofs.lemmas.List.Elements.{All-cons, All-contains, All-contains_itself, All-filter, Contains-get_or, filter-append, filter_passes}
use Rattle.word_automata.proofs.ForCallers.{Contains-cases, Contains-here, Contains-there, Contains-none, Contains-map, Contains-map_cases}
use Rattle.protocol_model.specs.Moves.{is_in}
use Rattle.protocol_model.specs.System.{AllBelow}
use Rattle.protocol_model.specs.Words.{raised}

pub is_in-Contains : (letters : List ℕ) (a : ℕ) → is_in letters a ≡ true → Contains letters a
is_in-Contains letters a h = Contains-from_any {eq = λ x y. y == x} (λ x y e. sym (eqb-true y x e)) a letters h

pub Contains-is_in : (letters : List ℕ) (a : ℕ) → Contains letters a → is_in letters a ≡ true
Contains-is_in letters a h = list_any_at (λ y. y == a) letters h.0 a h.1 (eq-eqb (get_or letters h.0 a) a h.2)

-- what a filter keeps
Contains-filter_cases : {X : Type 0} (p : X → Bool) (xs : List X) (x : X) → Contains (filter p xs) x → Contains xs x × (p x ≡ true)
Contains-filter_cases p xs x h = (
  All-contains (Contains xs) (filter p xs) x (All-filter p (Contains xs) xs (All-contains_itself xs)) h,
  All-contains (λ y. p y ≡ true) (filter p xs) x (filter_passes p xs) h,
)

Contains-filter : {X : Type 0} (p : X → Bool) (xs : List X) (x : X) → Contains xs x → p x ≡ true → Contains (filter p xs) x
Contains-filter p [] x h pass = absurd (Contains-none x h)
Contains-filter p (y ∷ ys) x h pass = elim (Contains-cases y ys x h) [
  | inl here ↦
      subst (λ b. Contains (cond b (y ∷ filter p ys) (filter p ys)) x) (sym (ap p here ∙ pass))
      (subst (Contains (y ∷ filter p ys)) here (Contains-here (filter p ys) y))
  | inr rest ↦
      let found = Contains-filter p ys x rest pass in
      elim (p y) as (λ b. Contains (cond b (y ∷ filter p ys) (filter p ys)) x) [
        | true ↦ Contains-there y (filter p ys) x found
        | false ↦ found
      ]
]

-- the numbers below a count
Contains-below_cases : (count a : ℕ) → Contains (range_with_len 0 count) a → a < count
Contains-below_cases count a h =
    let lt : h.0 < count = omega (arith, h.1, length-range_with_len 0 count) in
    let e : 0 + h.0 ≡ a = sym (get_or-range_with_len 0 count h.0 a lt) ∙ h.2 in
    omega arith

Contains-below : (count a : ℕ) → a < count → Contains (range_with_len 0 count) a
Contains-below count a lt =
    let is : 0 + a ≡ a = omega arith in
    (a, omega (arith, length-range_with_len 0 count), get_or-range_with_len 0 count a a lt ∙ is)

-- the letters of a section that pass a test, raised
pub raised_chosen_cases : (offset count : ℕ) (test : ℕ → Bool) (x : ℕ) → Contains (raised offset (filter test (range_with_len 0 count))) x
    → (a : ℕ) × ((nat_lt a count ≡ true) × (test a ≡ true) × (a + offset ≡ x))
raised_chosen_cases offset count test x h =
    let found = Contains-map_cases (λ a. a + offset) (filter test (range_with_len 0 count)) x h in
    let kept = Contains-filter_cases test (range_with_len 0 count) found.0 found.1 in
    (found.0, (lt-ltb found.0 count (Contains-below_cases count found.0 kept.0), kept.1, found.2))

pub raised_chosen : (offset count : ℕ) (test : ℕ → Bool) (a : ℕ) → nat_lt a count ≡ true → test a ≡ true
    → Contains (raised offset (filter test (range_with_len 0 count))) (a + offset)
raised_chosen offset count test a below pass =
    Contains-map (λ x. x + offset) (filter test (range_with_len 0 count)) a
    (Contains-filter test (range_with_len 0 count) a (Contains-below count a (ltb-true a count below)) pass)

-- and they are among the automaton's
pub raised_chosen_below : (offset count limit : ℕ) (test : ℕ → Bool) → offset + count ≤ limit
    → All (λ a. a < limit) (raised offset (filter test (range_with_len 0 count)))
raised_chosen_below offset count limit test fits = λ k d within.
    let letters = raised offset (filter test (range_with_len 0 count)) in
    let found = raised_chosen_cases offset count test (get_or letters k d) (Contains-get_or letters k d within) in
    let below : found.0 < count = ltb-true found.0 count found.1.0 in
    omega (arith, below, found.1.2)

-- raised letters of a section are among the automaton's
pub raised_below : (offset count limit : ℕ) (letters : List ℕ) → AllBelow count letters → offset + count ≤ limit → All (λ a. a < limit) (raised offset letters)
raised_below offset count limit [] below fits = λ k d within. absurd (omega arith)
raised_below offset count limit (a ∷ letters) below fits =
    let here : a < count = below.0 in
    All-cons (λ x. x < limit) (a + offset) (raised offset letters) (omega arith) (raised_below offset count limit letters below.1 fits)

-- the letters that are chosen below one number more
chosen_more : (offset : ℕ) (test : ℕ → Bool) (n : ℕ) → raised offset (filter test (range_with_len 0 (n + 1)))
    ≡ cond (test n) (raised offset (filter test (range_with_len 0 n)) ++ (n + offset) ∷ []) (raised offset (filter test (range_with_len 0 n)))
chosen_more offset test n =
    let range : range_with_len 0 (n + 1) ≡ range_with_len 0 n ++ n ∷ [] =
    ap (range_with_len 0) (add-one n) ∙ range_with_len_push 0 n ∙ ap (λ m. range_with_len 0 n ++ m ∷ []) (zero-add n) in
    ap (λ xs. raised offset (filter test xs)) range
    ∙ ap (raised offset) (filter-append test (range_with_len 0 n) (n ∷ []))
    ∙ (elim (test n) as (λ b. raised offset (filter test (range_with_len 0 n) ++ cond b (n ∷ []) [])
    ≡ cond b (raised offset (filter test (range_with_len 0 n)) ++ (n + offset) ∷ []) (raised offset (filter test (range_with_len 0 n)))) [
      | true ↦ map_push (λ a. a + offset) (filter test (range_with_len 0 n)) n
      | false ↦ ap (raised offset) (append-nil (filter test (range_with_len 0 n)))
    ])

-- one letter more, or none
pub chosen_next : (offset : ℕ) (test : ℕ → Bool) (n : ℕ) (b : Bool) (letters more : List ℕ) → b ≡ test n
    → letters ≡ raised offset (filter test (range_with_len 0 n)) → more ≡ cond b (letters ++ (n + offset) ∷ []) letters
    → more ≡ raised offset (filter test (range_with_len 0 (n + 1)))
chosen_next offset test n b letters more answer before is =
    is ∙ ap (λ c. cond c (letters ++ (n + offset) ∷ []) letters) answer ∙ ap (λ xs. cond (test n) (xs ++ (n + offset) ∷ []) xs) before
    ∙ sym (chosen_more offset test n)

-- a list is its first element and the rest
pub first_and_rest : {X : Type 0} (xs : List X) (x : X) → 1 ≤ length xs → x ≡ get_or xs 0 x → x ∷ take (length xs - 1) (drop 1 xs) ≡ xs
first_and_rest [] x some first = absurd (omega arith)
first_and_rest (y ∷ ys) x some first = ap (λ z. z ∷ take (length (y ∷ ys) - 1) ys) first ∙ ap (λ zs. y ∷ zs) (take_all _ ys (omega arith))
