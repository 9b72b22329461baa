-- What a search breadth first for a least word has found.
use Rattle.std.specs.Prelude.{◌≡◌, ◌<◌, ◌≤◌, ◌⊎◌, ℕ, zero, suc, Bool, false, List, [], ◌∷◌, ◌++◌, Option, None, Some, Contains, length, reverse, slice_get, IsTrue}
use Rattle.word_automata.specs.Path.{spelled_one}
use Rattle.exploration.specs.private.Worklist.{IsEarlier}

-- the moves, each a letter or none and the state that it leads to, lead from s to t along edges
abbrev pub Leads : {S : Type 0} → (S → Option ℕ → S → Type 0) → S → List (Option ℕ × S) → S → Type 0
Leads edge s [] t = s ≡ t
Leads edge s (move ∷ moves) t = edge s move.0 move.1 × Leads edge move.1 moves t

-- the word of the letters of moves
abbrev pub letters_of : {S : Type 0} → List (Option ℕ × S) → List ℕ
letters_of [] = []
letters_of (move ∷ moves) = spelled_one move.0 ++ letters_of moves

-- the word leads from a start to the state
abbrev pub IsReached : {S : Type 0} → (S → Type 0) → (S → Option ℕ → S → Type 0) → S → List ℕ → Type 0
IsReached {S} start edge t w = (s : S) × (moves : List (Option ℕ × S)) × start s × Leads edge s moves t × (letters_of moves ≡ w)

-- the word leads from a start to a goal
abbrev pub IsFound : {S : Type 0} → (S → Type 0) → (S → Option ℕ → S → Type 0) → (S → Bool) → List ℕ → Type 0
IsFound {S} start edge goal w = (t : S) × IsTrue (goal t) × IsReached start edge t w

-- new has what old has, and the things with the property R, which have the property P
pub record Gathers {X : Type 0} (P R : X → Type 0) (old new : List X) : Type 0 where
  pub kept : (x : X) → Contains old x → Contains new x
  pub all : (x : X) → R x → Contains new x
  pub only : (x : X) → Contains new x → Contains old x ⊎ (P x × R x)

-- States are found in groups, one for each word. Group 0 has the empty word; each later group has a group before it and a letter,
-- and its word is that group's and then the letter.

-- the state was found, in this group
abbrev pub IsIn : {S : Type 0} → List S → List ℕ → S → ℕ → Type 0
IsIn found groups s g = (i : ℕ) × (slice_get found i ≡ Some s) × (slice_get groups i ≡ Some g)

-- the word of a group, written from its end
abbrev pub Spells : List (ℕ × ℕ) → List ℕ → ℕ → Type 0
Spells steps [] g = g ≡ 0
Spells steps (a ∷ u) zero = ⊥
Spells steps (a ∷ u) (suc k) = (p : ℕ) × (slice_get steps k ≡ Some (p, a)) × Spells steps u p

-- the group h is group 0, or its step is not after the one from the group g with the letter
abbrev pub IsNotAfter : List (ℕ × ℕ) → ℕ → ℕ → ℕ → Type 0
IsNotAfter steps h g a = (h ≡ 0) ⊎ ((k : ℕ) × (h ≡ suc k) × (p : ℕ) × (b : ℕ) × (slice_get steps k ≡ Some (p, b)) × ((p < g) ⊎ ((p ≡ g) × (b ≤ a))))

-- each group after group 0 goes on from one before it, and these steps are in their order
pub record AreSteps (steps : List (ℕ × ℕ)) : Type 0 where
  pub back : (k : ℕ) (e : ℕ × ℕ) → slice_get steps k ≡ Some e → e.0 ≤ k
  pub ordered : (j k : ℕ) (d e : ℕ × ℕ) → j < k → slice_get steps j ≡ Some d → slice_get steps k ≡ Some e → IsEarlier d e.0 e.1

-- groups do not decrease
abbrev pub AreRising : List ℕ → Type 0
AreRising groups = (i j g h : ℕ) → i ≤ j → slice_get groups i ≡ Some g → slice_get groups j ≡ Some h → g ≤ h

-- the states that were found, their groups, and the edges without a letter from the states before the place closed; the later ones are
-- of the last group
pub record Reached {S : Type 0} (P start : S → Type 0) (edge : S → Option ℕ → S → Type 0)
    (found : List S) (groups : List ℕ) (steps : List (ℕ × ℕ)) (closed : ℕ) : Type 0 where
  pub are_steps : AreSteps steps
  pub count : length groups ≡ length found
  pub states : (i : ℕ) (s : S) → slice_get found i ≡ Some s → P s
  pub owned : (i g : ℕ) → slice_get groups i ≡ Some g → g ≤ length steps
  pub rising : AreRising groups
  pub in_last : (i g : ℕ) → closed ≤ i → slice_get groups i ≡ Some g → g ≡ length steps
  pub reached : (s : S) (g : ℕ) → IsIn found groups s g → (u : List ℕ) → Spells steps u g → IsReached start edge s (reverse u)
  pub silent : (i g : ℕ) (s r : S) → i < closed → slice_get found i ≡ Some s → slice_get groups i ≡ Some g → edge s None r → (h : ℕ) × IsIn found groups r h × (h ≤ g)

-- the starts were found, the steps from the groups before the group next were taken, and no state of these is a goal
pub record Done {S : Type 0} (start : S → Type 0) (edge : S → Option ℕ → S → Type 0) (goal : S → Bool)
    (found : List S) (groups : List ℕ) (steps : List (ℕ × ℕ)) (next : ℕ) : Type 0 where
  pub starts : (s : S) → start s → IsIn found groups s 0
  pub done : (s r : S) (g a : ℕ) → IsIn found groups s g → g < next → edge s (Some a) r → (h : ℕ) × IsIn found groups r h × IsNotAfter steps h g a
  pub inside : (s : S) (g : ℕ) → IsIn found groups s g → g < next → goal s ≡ false

-- the states from the place on are those of the group and of later ones
pub record BeginsAt (groups : List ℕ) (place group : ℕ) : Type 0 where
  pub within : place ≤ length groups
  pub before : (i g : ℕ) → i < place → slice_get groups i ≡ Some g → g < group
  pub after : (i g : ℕ) → place ≤ i → slice_get groups i ≡ Some g → group ≤ g

-- the list has the steps of all states of the group, and none of these is a goal
pub record AreStepsOf {S : Type 0} (P : S → Type 0) (edge : S → Option ℕ → S → Type 0) (goal : S → Bool) (found : List S) (groups : List ℕ) (group : ℕ)
    (pending : List (ℕ × S)) : Type 0 where
  pub all : (s r : S) (a : ℕ) → IsIn found groups s group → edge s (Some a) r → Contains pending (a, r)
  pub only : (a : ℕ) (r : S) → Contains pending (a, r) → P r × ((s : S) × IsIn found groups s group × edge s (Some a) r)
  pub no_goal : (s : S) → IsIn found groups s group → goal s ≡ false

-- some state of the group is a goal
abbrev pub HasGoal : {S : Type 0} → (S → Bool) → List S → List ℕ → ℕ → Type 0
HasGoal {S} goal found groups group = (s : S) × IsIn found groups s group × IsTrue (goal s)

-- what the gathering of a group gives: the place where the next group begins, unless it met a goal
abbrev pub IsGathered : {S : Type 0} → (S → Type 0) → (S → Option ℕ → S → Type 0) → (S → Bool) → List S → List ℕ → ℕ → List (ℕ × S) → Option ℕ → Type 0
IsGathered P edge goal found groups group pending None = HasGoal goal found groups group
IsGathered P edge goal found groups group pending (Some end) = BeginsAt groups end (suc group) × AreStepsOf P edge goal found groups group pending

-- letters do not decrease
abbrev pub AreInOrder : {S : Type 0} → List (ℕ × S) → Type 0
AreInOrder {S} pending = (i j a b : ℕ) (r s : S) → i ≤ j → slice_get pending i ≡ Some (a, r) → slice_get pending j ≡ Some (b, s) → a ≤ b

-- the steps so far are not after the one from the group with the letter
abbrev pub IsBounded : List (ℕ × ℕ) → ℕ → ℕ → Type 0
IsBounded steps g a = (k p b : ℕ) → slice_get steps k ≡ Some (p, b) → (p < g) ⊎ ((p ≡ g) × (b ≤ a))

-- the steps so far go on from groups before the group
abbrev pub AreBefore : List (ℕ × ℕ) → ℕ → Type 0
AreBefore steps g = (k p b : ℕ) → slice_get steps k ≡ Some (p, b) → p < g

-- more was found, in groups that are not before the first
pub record Extends {S : Type 0} (found : List S) (groups : List ℕ) (steps : List (ℕ × ℕ)) (new : List S) (new_groups : List ℕ) (new_steps : List (ℕ × ℕ)) (first : ℕ) : Type 0 where
  pub found_kept : (i : ℕ) (s : S) → slice_get found i ≡ Some s → slice_get new i ≡ Some s
  pub groups_kept : (i g : ℕ) → slice_get groups i ≡ Some g → slice_get new_groups i ≡ Some g
  pub steps_kept : (k : ℕ) (e : ℕ × ℕ) → slice_get steps k ≡ Some e → slice_get new_steps k ≡ Some e
  pub later : (i g : ℕ) → slice_get new_groups i ≡ Some g → (slice_get groups i ≡ Some g) ⊎ ((length groups ≤ i) × (first ≤ g))

-- the state was found before, or it was added to the group
pub record IsOld {S : Type 0} (found new : List S) (groups new_groups : List ℕ) (s : S) : Type 0 where
  pub same_found : new ≡ found
  pub same_groups : new_groups ≡ groups
  pub place : ℕ
  pub at : slice_get found place ≡ Some s

pub record IsNew {S : Type 0} (found new : List S) (groups new_groups : List ℕ) (s : S) (group : ℕ) : Type 0 where
  pub added : new ≡ found ++ s ∷ []
  pub group_added : new_groups ≡ groups ++ group ∷ []

abbrev pub Joins : {S : Type 0} → List S → List S → List ℕ → List ℕ → S → ℕ → Type 0
Joins found new groups new_groups s group = IsOld found new groups new_groups s ⊎ IsNew found new groups new_groups s group

-- the step is the last one, and the others stay
abbrev pub IsLast : List (ℕ × ℕ) → ℕ → ℕ → Type 0
IsLast steps from letter = (k : ℕ) × (suc k ≡ length steps) × (slice_get steps k ≡ Some (from, letter))

abbrev pub HasLastStep : List (ℕ × ℕ) → List (ℕ × ℕ) → ℕ → ℕ → Type 0
HasLastStep steps new from letter = ((new ≡ steps) × IsLast steps from letter) ⊎ ((new ≡ steps ++ (from, letter) ∷ []) × (IsLast steps from letter → ⊥))

-- the first n states of the list were found, in groups up to the last
abbrev pub AreFound : {S : Type 0} → List S → List ℕ → ℕ → List S → ℕ → Type 0
AreFound {S} found groups last targets n = (i : ℕ) (s : S) → i < n → slice_get targets i ≡ Some s → (h : ℕ) × IsIn found groups s h × (h ≤ last)

-- the first n steps of the list were taken from the group
abbrev pub AreTaken : {S : Type 0} → List S → List ℕ → List (ℕ × ℕ) → ℕ → List (ℕ × S) → ℕ → Type 0
AreTaken {S} found groups steps from pending n = (i a : ℕ) (r : S) → i < n → slice_get pending i ≡ Some (a, r) → (h : ℕ) × IsIn found groups r h × IsNotAfter steps h from a

-- the steps so far are not after those of the list from the place n on
abbrev pub AreBounded : {S : Type 0} → List (ℕ × ℕ) → ℕ → List (ℕ × S) → ℕ → Type 0
AreBounded {S} steps from pending n = (i a : ℕ) (r : S) → n ≤ i → slice_get pending i ≡ Some (a, r) → IsBounded steps from a

-- the list has the steps of the states of the group from one place to another, and none of these is a goal
pub record AreStepsUpTo {S : Type 0} (P : S → Type 0) (edge : S → Option ℕ → S → Type 0) (goal : S → Bool) (found : List S) (groups : List ℕ) (group from place : ℕ)
    (pending : List (ℕ × S)) : Type 0 where
  pub order : from ≤ place
  pub within : place ≤ length groups
  pub members : (i g : ℕ) → from ≤ i → i < place → slice_get groups i ≡ Some g → g ≡ group
  pub all : (i : ℕ) (s r : S) (a : ℕ) → from ≤ i → i < place → slice_get found i ≡ Some s → edge s (Some a) r → Contains pending (a, r)
  pub only : (a : ℕ) (r : S) → Contains pending (a, r) → P r × ((s : S) × IsIn found groups s group × edge s (Some a) r)
  pub no_goal : (i : ℕ) (s : S) → from ≤ i → i < place → slice_get found i ≡ Some s → goal s ≡ false
