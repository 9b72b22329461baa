-- Lemmas on the transducer that relates the words of an automaton to themselves.
use Rattle.std.proofs.Common.{◌≡◌, ℕ, zero, suc, ◌+◌, ◌<◌, Bool, List, [], ◌∷◌, ◌++◌, map, take, length, get_or, Option, Contains}
use Rattle.std.proofs.Common.{All, refl, sym, ap, ◌∙◌, subst}
use Rattle.std.proofs.lemmas.List.{length-map, take_more, map-append}
use Rattle.std.proofs.lemmas.List.Elements.{All-map}
use Rattle.word_automata.specs.Path.{Node, IsPath, edges_of, is_accepting, spelled, spelled_one}
use Rattle.word_automata.specs.Nondeterministic.{NondeterministicAutomaton, IsInRange, Accepts}
use Rattle.word_automata.proofs.ForCallers.{Contains-map, Contains-map_cases, edges_of-get_or, is_accepting-get_or}
use Rattle.transducers.specs.declared.Label.{Label}
use Rattle.transducers.specs.Transducer.{Transducer, IsValid, IsEdge, Relates, read_of, write_of}
use Rattle.transducers.specs.Combination.{identity_edge, identity_node}

-- the automaton with edges that write what they read
abbrev pub identity_of : NondeterministicAutomaton → Transducer
identity_of a = record { letters = a.letters; starts = a.starts; states = map identity_node a.states }

pub IsValid-identity : (a : NondeterministicAutomaton) → IsInRange a → IsValid (identity_of a)
IsValid-identity a range =
    let same : length (map identity_node a.states) ≡ length a.states = length-map a.states identity_node in
    let n : ℕ = length a.states in
    let edges : All (λ node. All (IsEdge a.letters n) node.edges) (map identity_node a.states) =
    All-map (λ node. All (IsEdge a.letters n) node.edges) identity_node a.states
    (λ k node lt. All-map (IsEdge a.letters n) identity_edge (get_or a.states k node).edges
    (λ j edge within. record {
      read_in_range = range.letters_in_range k node lt j edge within;
      write_in_range = range.letters_in_range k node lt j edge within;
      target_in_range = range.targets_in_range k node lt j edge within;
    })) in
    record {
      starts_in_range = subst (λ m. All (λ q. q < m) a.starts) (sym same) range.starts_in_range;
      edges_in_range = subst (λ m. All (λ node. All (IsEdge a.letters m) node.edges) (map identity_node a.states)) (sym same) edges;
    }

edges_of-identity : (states : List (Node (Option ℕ))) (p : ℕ)
    → edges_of (map identity_node states) p ≡ map identity_edge (edges_of states p)
edges_of-identity [] p = refl
edges_of-identity (node ∷ states) zero = refl
edges_of-identity (node ∷ states) (suc p) = edges_of-identity states p

is_accepting-identity : (states : List (Node (Option ℕ))) (p : ℕ) → is_accepting (map identity_node states) p ≡ is_accepting states p
is_accepting-identity [] p = refl
is_accepting-identity (node ∷ states) zero = refl
is_accepting-identity (node ∷ states) (suc p) = is_accepting-identity states p

-- one more state
pub identity_more : (states : List (Node (Option ℕ))) (i : ℕ) (accepting : Bool) (read : List (Option ℕ × ℕ)) (edges : List (Label × ℕ))
    (front : List (Node Label)) → i < length states → accepting ≡ is_accepting states i → read ≡ edges_of states i
    → edges ≡ map identity_edge read → front ≡ map identity_node (take i states)
    → front ++ record { accepting = accepting; edges = edges } ∷ [] ≡ map identity_node (take (i + 1) states)
identity_more states i accepting read edges front within same_flag same_edges written taken =
    let d : Node (Option ℕ) = record { accepting = accepting; edges = read } in
    let flag : accepting ≡ (get_or states i d).accepting = same_flag ∙ is_accepting-get_or states i d within in
    let moves : edges ≡ map identity_edge (get_or states i d).edges =
    written ∙ ap (λ l. map identity_edge l) (same_edges ∙ edges_of-get_or states i d within) in
    (λ j. taken j ++ record { accepting = flag j; edges = moves j } ∷ [])
    ∙ sym (map-append identity_node (take i states) (get_or states i d ∷ []))
    ∙ ap (λ l. map identity_node l) (sym (take_more states i d within))

-- a path of the automaton, and the path that writes what it reads
identity_path : (states : List (Node (Option ℕ))) (moves : List (Option ℕ × ℕ)) (p q : ℕ) → IsPath states p moves q
    → IsPath (map identity_node states) p (map identity_edge moves) q
identity_path states [] p q path = path
identity_path states (move ∷ moves) p q path = (
  subst (λ edges. Contains edges (identity_edge move)) (sym (edges_of-identity states p))
      (Contains-map identity_edge (edges_of states p) move path.0),
  identity_path states moves move.1 q path.1,
)

reads-identity : (moves : List (Option ℕ × ℕ)) → spelled read_of (map identity_edge moves) ≡ spelled (λ l. l) moves
reads-identity [] = refl
reads-identity (move ∷ moves) = ap (λ w. spelled_one move.0 ++ w) (reads-identity moves)

writes-identity : (moves : List (Option ℕ × ℕ)) → spelled write_of (map identity_edge moves) ≡ spelled (λ l. l) moves
writes-identity [] = refl
writes-identity (move ∷ moves) = ap (λ w. spelled_one move.0 ++ w) (writes-identity moves)

-- each path of the transducer is one of these
path_of_identity : (states : List (Node (Option ℕ))) (moves : List (Label × ℕ)) (p q : ℕ) → IsPath (map identity_node states) p moves q
    → (read : List (Option ℕ × ℕ)) × IsPath states p read q × (map identity_edge read ≡ moves)
path_of_identity states [] p q path = ([], path, refl)
path_of_identity states (move ∷ moves) p q path =
    let from = Contains-map_cases identity_edge (edges_of states p) move
    (subst (λ edges. Contains edges move) (edges_of-identity states p) path.0) in
    let rest = path_of_identity states moves move.1 q path.1 in (
      from.0 ∷ rest.0,
      (from.1, subst (λ r. IsPath states r rest.0 q) (sym (ap (λ e. e.1) from.2)) rest.1),
      (λ i. from.2 i ∷ rest.2 i),
    )

pub Relates-identity : (a : NondeterministicAutomaton) (u w : List ℕ) → (Relates (identity_of a) u w → Accepts a u × (u ≡ w))
    × (Accepts a u × (u ≡ w) → Relates (identity_of a) u w)
Relates-identity a u w = (there, back)
  where
    there : Relates (identity_of a) u w → Accepts a u × (u ≡ w)
    there r =
        let read = path_of_identity a.states r.run.moves r.start r.run.last r.run.path in
        let reads : spelled (λ l. l) read.0 ≡ u = sym (reads-identity read.0) ∙ ap (λ moves. spelled read_of moves) read.2 ∙ r.run.reads in
        let writes : spelled (λ l. l) read.0 ≡ w =
        sym (writes-identity read.0) ∙ ap (λ moves. spelled write_of moves) read.2 ∙ r.run.writes in (
          (r.start, read.0, r.run.last, r.is_start, read.1, sym (is_accepting-identity a.states r.run.last) ∙ r.run.accepts, reads),
          sym reads ∙ writes,
        )

    back : Accepts a u × (u ≡ w) → Relates (identity_of a) u w
    back ((start, moves, last, is_start, path, accepts, spells), same) = record {
      start = start;
      is_start = is_start;
      run = record {
        moves = map identity_edge moves;
        last = last;
        path = identity_path a.states moves start last path;
        accepts = is_accepting-identity a.states last ∙ accepts;
        reads = reads-identity moves ∙ spells;
        writes = writes-identity moves ∙ spells ∙ same;
      };
    }
