-- Words that are related section by section, with a separator between neighbours.
use Rattle.std.specs.Prelude.{◌≡◌, ℕ, Bool, true, false, List, [], ◌∷◌, ◌++◌, map}
use Rattle.word_automata.specs.Path.{Node}
use Rattle.transducers.specs.declared.Label.{Label}
use Rattle.transducers.specs.Transducer.{Transducer, Relates}
use Rattle.transducers.specs.Combination.{shifted_edge, copy_edge}

-- both words are cut at a separator; one relation holds of what stands before it, another of what stands behind it
pub record AreJoined (separator : ℕ) (before behind : List ℕ → List ℕ → Type 0) (u w : List ℕ) : Type 0 where
  pub u_front : List ℕ
  pub u_back : List ℕ
  pub w_front : List ℕ
  pub w_back : List ℕ
  pub u_is : u ≡ u_front ++ separator ∷ u_back
  pub w_is : w ≡ w_front ++ separator ∷ w_back
  pub front : before u_front w_front
  pub back : behind u_back w_back

-- the words are cut at separators into as many pieces as there are parts, and each part relates its pieces
abbrev pub RelatesJoined : ℕ → List Transducer → List ℕ → List ℕ → Type 0
RelatesJoined separator [] = λ u w. ⊥
RelatesJoined separator (part ∷ []) = λ u w. Relates part u w
RelatesJoined separator (part ∷ (next ∷ parts)) = λ u w. AreJoined separator (Relates part) (RelatesJoined separator (next ∷ parts)) u w

-- the number of letters of the first part; none where there is no part
abbrev pub letters_of : List Transducer → ℕ
letters_of [] = 0
letters_of (part ∷ parts) = part.letters

-- from an accepting state an edge to each target, which reads the separator and writes it again
abbrev pub bridges : Bool → ℕ → List ℕ → List (Label × ℕ)
bridges true separator targets = map (λ to. copy_edge to separator) targets
bridges false separator targets = []

-- the state with its targets' numbers raised, and with edges to the targets in place of acceptance
abbrev pub bridged_node : ℕ → ℕ → List ℕ → Node Label → Node Label
bridged_node by separator targets node = record {
  accepting = false;
  edges = map (shifted_edge by) node.edges ++ bridges node.accepting separator targets;
}
