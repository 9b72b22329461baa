-- Lemmas on transducers joined by a separator.
use Rattle.std.proofs.Common.{◌≡◌, ◌↔◌, ℕ, ◌+◌, ◌-◌, ◌<◌, ◌≤◌, drop, get_or, length-drop, Bool, true, false, List, [], ◌∷◌, ◌++◌, map, length, slice_get, Some, Contains}
use Rattle.std.proofs.Common.{refl, sym, ap, ◌∙◌, subst, inl, inr, arith, IsTrue, All, length-append, true≢false}
use Rattle.std.proofs.Math.Nat.{add-zero}
use Rattle.std.proofs.lemmas.List.{length-map, append_assoc, drop_more}
use Rattle.std.proofs.lemmas.List.Elements.{All-contains, All-map, All-weaker, All-append, Contains-append_left, Contains-append_right}
use Rattle.std.proofs.lemmas.List.Elements.{Contains-append_cases, All-nil}
use Rattle.sequence.proofs.ForCallers.{slice_get-append_left}
use Rattle.word_automata.specs.Path.{Node, IsPath, edges_of, is_accepting, spelled, spelled_one}
use Rattle.word_automata.proofs.ForCallers.{IsPath-append, spelled-append, Contains-map, Contains-map_cases}
use Rattle.transducers.specs.declared.Label.{Label}
use Rattle.transducers.specs.Transducer.{Transducer, IsValid, IsEdge, Relates, RelatesFrom, read_of, write_of}
use Rattle.transducers.specs.Combination.{shifted_edge, shifted_node, copy_edge}
use Rattle.transducers.specs.Joining.{AreJoined, RelatesJoined, bridges, bridged_node}
use Rattle.transducers.proofs.ListLemmas.{slice_get-append_right, slice_get-map_image, slice_get-within}
use Rattle.transducers.proofs.PathLemmas.{Embeds, RelatesFrom-embed, RelatesFrom-project, edges_of-at, is_accepting-at, node_from_edge}
use Rattle.transducers.proofs.PathLemmas.{node_from_accepting, target_in_range, spelled-shifted}
use Rattle.transducers.proofs.CopyLemmas.{nothing_in_nil}
use Rattle.transducers.proofs.CombinationLemmas.{starts-shifted}
use Rattle.transducers.proofs.BuilderLemmas.{IsEdge-more}

-- the states of both transducers, those of the part behind those of the rest, with edges from the one to the other
abbrev pub joined_of : Transducer → ℕ → Transducer → Transducer
joined_of part separator rest = record {
  letters = rest.letters;
  starts = map (λ q. q + length rest.states) part.starts;
  states = rest.states ++ map (bridged_node (length rest.states) separator rest.starts) part.states;
}

-- an edge in place of acceptance, by its target
pub bridges_cases : (accepting : Bool) (separator : ℕ) (targets : List ℕ) (edge : Label × ℕ)
    → Contains (bridges accepting separator targets) edge
    → (accepting ≡ true) × Contains (map (λ to. copy_edge to separator) targets) edge
bridges_cases true separator targets edge h = (refl, h)
bridges_cases false separator targets edge h = nothing_in_nil edge h

-- nothing is raised by nothing
shifted_edges-zero : (edges : List (Label × ℕ)) → map (shifted_edge 0) edges ≡ edges
shifted_edges-zero [] = refl
shifted_edges-zero (edge ∷ edges) = λ i. (edge.0, add-zero edge.1 i) ∷ shifted_edges-zero edges i

shifted_node-zero : (node : Node Label) → node ≡ shifted_node 0 node
shifted_node-zero node = λ i. record { accepting = node.accepting; edges = sym (shifted_edges-zero node.edges) i }

-- edges of an accepting state to targets in range
bridges_in_range : (accepting : Bool) (letters n separator : ℕ) (targets : List ℕ) → separator < letters → All (λ q. q < n) targets
    → All (IsEdge letters n) (bridges accepting separator targets)
bridges_in_range true letters n separator targets below targets_below =
    All-map (IsEdge letters n) (λ to. copy_edge to separator) targets
    (All-weaker (λ q. q < n) (λ q. IsEdge letters n (copy_edge q separator))
    (λ q h. record { read_in_range = below; write_in_range = below; target_in_range = h }) targets targets_below)
bridges_in_range false letters n separator targets below targets_below = All-nil (IsEdge letters n)

module _ (part : Transducer) (separator : ℕ) (rest : Transducer) (part_valid : IsValid part) (rest_valid : IsValid rest) where
  size : length (joined_of part separator rest).states ≡ length rest.states + length part.states
  size = simp (length-append, length-map)

  pub IsValid-joined : part.letters ≡ rest.letters → separator < rest.letters → IsValid (joined_of part separator rest)
  IsValid-joined same below =
      let m : ℕ = length (joined_of part separator rest).states in
      let n : ℕ = length rest.states in
      let part_fits : length part.states + n ≤ m = omega (arith, size) in
      let rest_fits : n ≤ m = omega (arith, size) in
      let old : All (λ node. All (IsEdge rest.letters m) node.edges) rest.states =
      All-weaker (λ node. All (IsEdge rest.letters n) node.edges) (λ node. All (IsEdge rest.letters m) node.edges)
      (λ node h. All-weaker (IsEdge rest.letters n) (IsEdge rest.letters m) (λ e g. IsEdge-more rest.letters n m e rest_fits g) node.edges h)
      rest.states rest_valid.edges_in_range in
      let targets : All (λ q. q < m) rest.starts =
      All-weaker (λ q. q < n) (λ q. q < m) (λ q h. omega (arith, h, rest_fits)) rest.starts rest_valid.starts_in_range in
      let raise : (e : Label × ℕ) → IsEdge part.letters (length part.states) e → IsEdge rest.letters m (shifted_edge n e) =
      λ e g. subst (λ l. IsEdge l m (shifted_edge n e)) same (record {
        read_in_range = g.read_in_range;
        write_in_range = g.write_in_range;
        target_in_range = omega (arith, g.target_in_range, part_fits);
      }) in
      let new : All (λ node. All (IsEdge rest.letters m) node.edges) (map (bridged_node n separator rest.starts) part.states) =
      All-map (λ node. All (IsEdge rest.letters m) node.edges) (bridged_node n separator rest.starts) part.states
      (All-weaker (λ node. All (IsEdge part.letters (length part.states)) node.edges)
      (λ node. All (IsEdge rest.letters m) (bridged_node n separator rest.starts node).edges)
      (λ node h. All-append (IsEdge rest.letters m) (map (shifted_edge n) node.edges) (bridges node.accepting separator rest.starts)
      (All-map (IsEdge rest.letters m) (shifted_edge n) node.edges
      (All-weaker (IsEdge part.letters (length part.states)) (λ e. IsEdge rest.letters m (shifted_edge n e)) raise node.edges h))
      (bridges_in_range node.accepting rest.letters m separator rest.starts below targets))
      part.states part_valid.edges_in_range) in
      record {
        starts_in_range = starts-shifted part n m part_valid part_fits;
        edges_in_range = All-append (λ node. All (IsEdge rest.letters m) node.edges) rest.states
            (map (bridged_node n separator rest.starts) part.states) old new;
      }

  rest_embeds : Embeds 0 rest.states (joined_of part separator rest).states
  rest_embeds = record {
    at = λ p node e.
        ap (λ q. slice_get (joined_of part separator rest).states q) (add-zero p)
        ∙ slice_get-append_left rest.states (map (bridged_node (length rest.states) separator rest.starts) part.states) p node e
        ∙ ap Some (shifted_node-zero node);
  }

  part_at : (p : ℕ) (node : Node Label) → slice_get part.states p ≡ Some node
      → slice_get (joined_of part separator rest).states (p + length rest.states)
      ≡ Some (bridged_node (length rest.states) separator rest.starts node)
  part_at p node e =
      slice_get-append_right rest.states (map (bridged_node (length rest.states) separator rest.starts) part.states) p
      ∙ slice_get-map_image (bridged_node (length rest.states) separator rest.starts) part.states p node e

  -- an edge of the part, and one in place of acceptance, are edges of the whole
  edge_into : (p : ℕ) (edge : Label × ℕ) → Contains (edges_of part.states p) edge
      → Contains (edges_of (joined_of part separator rest).states (p + length rest.states)) (shifted_edge (length rest.states) edge)
  edge_into p edge h =
      let at = node_from_edge part.states p edge h in
      let n : ℕ = length rest.states in
      subst (λ edges. Contains edges (shifted_edge n edge))
      (sym (edges_of-at (joined_of part separator rest).states (p + n) (bridged_node n separator rest.starts at.0) (part_at p at.0 at.1)))
      (Contains-append_left (map (shifted_edge n) at.0.edges) (bridges at.0.accepting separator rest.starts) (shifted_edge n edge)
      (Contains-map (shifted_edge n) at.0.edges edge at.2))

  bridge_into : (p q : ℕ) → IsTrue (is_accepting part.states p) → Contains rest.starts q
      → Contains (edges_of (joined_of part separator rest).states (p + length rest.states)) (copy_edge q separator)
  bridge_into p q accepts h =
      let at = node_from_accepting part.states p accepts in
      let n : ℕ = length rest.states in
      subst (λ edges. Contains edges (copy_edge q separator))
      (sym (edges_of-at (joined_of part separator rest).states (p + n) (bridged_node n separator rest.starts at.0) (part_at p at.0 at.1)))
      (Contains-append_right (map (shifted_edge n) at.0.edges) (bridges at.0.accepting separator rest.starts) (copy_edge q separator)
      (subst (λ b. Contains (bridges b separator rest.starts) (copy_edge q separator)) (sym at.2)
      (Contains-map (λ to. copy_edge to separator) rest.starts q h)))

  path_into : (moves : List (Label × ℕ)) (p q : ℕ) → IsPath part.states p moves q
      → IsPath (joined_of part separator rest).states (p + length rest.states) (map (shifted_edge (length rest.states)) moves)
      (q + length rest.states)
  path_into [] p q path = ap (λ r. r + length rest.states) path
  path_into (move ∷ moves) p q path = (edge_into p move path.0, path_into moves move.1 q path.1)

  -- what both relate, the whole relates with a separator between
  joins : (u w : List ℕ) → AreJoined separator (Relates part) (Relates rest) u w → Relates (joined_of part separator rest) u w
  joins u w j =
      let n : ℕ = length rest.states in
      let first = j.front in
      let second = j.back in
      let tail = RelatesFrom-embed rest (joined_of part separator rest) 0 rest_embeds rest_valid second.start j.u_back j.w_back second.run in
      let front : List (Label × ℕ) = map (shifted_edge n) first.run.moves in
      let back : List (Label × ℕ) = copy_edge second.start separator ∷ tail.moves in
      let behind : IsPath (joined_of part separator rest).states second.start tail.moves tail.last =
      subst (λ r. IsPath (joined_of part separator rest).states r tail.moves tail.last) (add-zero second.start) tail.path in
      record {
        start = first.start + n;
        is_start = Contains-map (λ q. q + n) part.starts first.start first.is_start;
        run = record {
          moves = front ++ back;
          last = tail.last;
          path = IsPath-append (joined_of part separator rest).states (first.start + n) (first.run.last + n) tail.last front back
              (path_into first.run.moves first.start first.run.last first.run.path)
              (bridge_into first.run.last second.start first.run.accepts second.is_start, behind);
          accepts = tail.accepts;
          reads = spelled-append read_of front back
              ∙ ap (λ v. v ++ separator ∷ spelled read_of tail.moves) (spelled-shifted read_of n first.run.moves ∙ first.run.reads)
              ∙ ap (λ v. j.u_front ++ separator ∷ v) tail.reads ∙ sym j.u_is;
          writes = spelled-append write_of front back
              ∙ ap (λ v. v ++ separator ∷ spelled write_of tail.moves) (spelled-shifted write_of n first.run.moves ∙ first.run.writes)
              ∙ ap (λ v. j.w_front ++ separator ∷ v) tail.writes ∙ sym j.w_is;
        };
      }

  -- words that the part relates from a state, and words of the rest behind them
  abbrev JoinedFrom : ℕ → List ℕ → List ℕ → Type 0
  JoinedFrom p u w = AreJoined separator (RelatesFrom part p) (Relates rest) u w

  goes_on : (p : ℕ) (edge move : Label × ℕ) (u w : List ℕ) → Contains (edges_of part.states p) edge
      → shifted_edge (length rest.states) edge ≡ move
      → JoinedFrom edge.1 u w → JoinedFrom p (spelled_one (read_of move.0) ++ u) (spelled_one (write_of move.0) ++ w)
  goes_on p edge move u w is_edge is j =
      let label : edge.0 ≡ move.0 = ap (λ e. e.0) is in
      record {
        u_front = spelled_one (read_of edge.0) ++ j.u_front;
        u_back = j.u_back;
        w_front = spelled_one (write_of edge.0) ++ j.w_front;
        w_back = j.w_back;
        u_is = ap (λ l. spelled_one (read_of l) ++ u) (sym label) ∙ ap (λ v. spelled_one (read_of edge.0) ++ v) j.u_is
            ∙ sym (append_assoc (spelled_one (read_of edge.0)) j.u_front (separator ∷ j.u_back));
        w_is = ap (λ l. spelled_one (write_of l) ++ w) (sym label) ∙ ap (λ v. spelled_one (write_of edge.0) ++ v) j.w_is
            ∙ sym (append_assoc (spelled_one (write_of edge.0)) j.w_front (separator ∷ j.w_back));
        front = record {
          moves = edge ∷ j.front.moves;
          last = j.front.last;
          path = (is_edge, j.front.path);
          accepts = j.front.accepts;
          reads = ap (λ v. spelled_one (read_of edge.0) ++ v) j.front.reads;
          writes = ap (λ v. spelled_one (write_of edge.0) ++ v) j.front.writes;
        };
        back = j.back;
      }

  crosses : (p : ℕ) (move : Label × ℕ) (moves : List (Label × ℕ)) (last : ℕ) → IsTrue (is_accepting part.states p)
      → Contains (map (λ to. copy_edge to separator) rest.starts) move
      → IsPath (joined_of part separator rest).states move.1 moves last → IsTrue (is_accepting (joined_of part separator rest).states last)
      → JoinedFrom p (spelled read_of (move ∷ moves)) (spelled write_of (move ∷ moves))
  crosses p move moves last accepting bridge path accepts =
      let from = Contains-map_cases (λ to. copy_edge to separator) rest.starts move bridge in
      let run : RelatesFrom (joined_of part separator rest) (from.0 + 0) (spelled read_of moves) (spelled write_of moves) = record {
        moves = moves;
        last = last;
        path = subst (λ r. IsPath (joined_of part separator rest).states r moves last)
            (sym (ap (λ e. e.1) from.2) ∙ sym (add-zero from.0)) path;
        accepts = accepts;
        reads = refl;
        writes = refl;
      } in
      record {
        u_front = [];
        u_back = spelled read_of moves;
        w_front = [];
        w_back = spelled write_of moves;
        u_is = ap (λ e. spelled_one (read_of e.0) ++ spelled read_of moves) (sym from.2);
        w_is = ap (λ e. spelled_one (write_of e.0) ++ spelled write_of moves) (sym from.2);
        front = record { moves = []; last = p; path = refl; accepts = accepting; reads = refl; writes = refl };
        back = record {
          start = from.0;
          is_start = from.1;
          run = RelatesFrom-project rest (joined_of part separator rest) 0 rest_embeds rest_valid from.0 (spelled read_of moves)
              (spelled write_of moves)
              (All-contains (λ q. q < length rest.states) rest.starts from.0 rest_valid.starts_in_range from.1) run;
        };
      }

  -- a path of the whole from a state of the part crosses into the rest
  splits_from : (moves : List (Label × ℕ)) (p last : ℕ) → p < length part.states
      → IsPath (joined_of part separator rest).states (p + length rest.states) moves last
      → IsTrue (is_accepting (joined_of part separator rest).states last)
      → JoinedFrom p (spelled read_of moves) (spelled write_of moves)
  splits_from [] p last h path accepts =
      let at = slice_get-within part.states p h in
      let n : ℕ = length rest.states in
      let still : IsTrue (is_accepting (joined_of part separator rest).states (p + n)) =
      subst (λ q. IsTrue (is_accepting (joined_of part separator rest).states q)) (sym path) accepts in
      let never : is_accepting (joined_of part separator rest).states (p + n) ≡ false =
      is_accepting-at (joined_of part separator rest).states (p + n) (bridged_node n separator rest.starts at.0) (part_at p at.0 at.1) in
      absurd (true≢false (sym still ∙ never))
  splits_from (move ∷ moves) p last h path accepts =
      let at = slice_get-within part.states p h in
      let n : ℕ = length rest.states in
      let is_edge : Contains (map (shifted_edge n) at.0.edges ++ bridges at.0.accepting separator rest.starts) move =
      subst (λ edges. Contains edges move)
      (edges_of-at (joined_of part separator rest).states (p + n) (bridged_node n separator rest.starts at.0) (part_at p at.0 at.1)) path.0 in
      elim (Contains-append_cases (map (shifted_edge n) at.0.edges) (bridges at.0.accepting separator rest.starts) move is_edge) [
        | inl inner ↦ (
            let from = Contains-map_cases (shifted_edge n) at.0.edges move inner in
            let of_part : Contains (edges_of part.states p) from.0 =
            subst (λ edges. Contains edges from.0) (sym (edges_of-at part.states p at.0 at.1)) from.1 in
            goes_on p from.0 move (spelled read_of moves) (spelled write_of moves) of_part from.2
            (splits_from moves from.0.1 last (target_in_range part p from.0 part_valid of_part).target_in_range
            (subst (λ q. IsPath (joined_of part separator rest).states q moves last) (sym (ap (λ e. e.1) from.2)) path.1) accepts))
        | inr bridge ↦ (
            let cases = bridges_cases at.0.accepting separator rest.starts move bridge in
            crosses p move moves last (is_accepting-at part.states p at.0 at.1 ∙ cases.0) cases.1 path.1 accepts)
      ]

  splits : (u w : List ℕ) → Relates (joined_of part separator rest) u w → AreJoined separator (Relates part) (Relates rest) u w
  splits u w r =
      let n : ℕ = length rest.states in
      let from = Contains-map_cases (λ q. q + n) part.starts r.start r.is_start in
      let j = splits_from r.run.moves from.0 r.run.last
      (All-contains (λ q. q < length part.states) part.starts from.0 part_valid.starts_in_range from.1)
      (subst (λ q. IsPath (joined_of part separator rest).states q r.run.moves r.run.last) (sym from.2) r.run.path) r.run.accepts in
      record {
        u_front = j.u_front;
        u_back = j.u_back;
        w_front = j.w_front;
        w_back = j.w_back;
        u_is = sym r.run.reads ∙ j.u_is;
        w_is = sym r.run.writes ∙ j.w_is;
        front = record { start = from.0; is_start = from.1; run = j.front };
        back = j.back;
      }

  pub Relates-joined : (u w : List ℕ) → Relates (joined_of part separator rest) u w ↔ AreJoined separator (Relates part) (Relates rest) u w
  Relates-joined u w = (splits u w, joins u w)

-- one more part before others
pub RelatesJoined-more : (separator : ℕ) (part : Transducer) (parts : List Transducer) (u w : List ℕ) → 0 < length parts
    → RelatesJoined separator (part ∷ parts) u w ↔ AreJoined separator (Relates part) (RelatesJoined separator parts) u w
RelatesJoined-more separator part [] u w h = absurd (omega arith)
RelatesJoined-more separator part (next ∷ parts) u w h = (λ j. j, λ j. j)

-- what stands behind the separator, told otherwise
pub AreJoined-back : (separator : ℕ) (P Q R : List ℕ → List ℕ → Type 0) (u w : List ℕ) → ((u w : List ℕ) → Q u w → R u w)
    → AreJoined separator P Q u w → AreJoined separator P R u w
AreJoined-back separator P Q R u w f j = record {
  u_front = j.u_front;
  u_back = j.u_back;
  w_front = j.w_front;
  w_back = j.w_back;
  u_is = j.u_is;
  w_is = j.w_is;
  front = j.front;
  back = f j.u_back j.w_back j.back;
}

-- it is what the code makes
pub joined-is : (part : Transducer) (separator : ℕ) (rest : Transducer) (letters n : ℕ) (none starts targets : List ℕ)
    (old states : List (Node Label)) → letters ≡ rest.letters → n ≡ length rest.states → none ≡ []
    → starts ≡ none ++ map (λ q. q + n) part.starts → targets ≡ rest.starts → old ≡ rest.states
    → states ≡ old ++ map (bridged_node n separator targets) part.states
    → (let t : Transducer = record { letters = letters; starts = starts; states = states } in t) ≡ joined_of part separator rest
joined-is part separator rest letters n none starts targets old states el en e0 es eg eo et =
    let es' : starts ≡ (joined_of part separator rest).starts = es ∙ (λ i. e0 i ++ map (λ q. q + en i) part.starts) in
    let et' : states ≡ (joined_of part separator rest).states =
    et ∙ (λ i. eo i ++ map (bridged_node (en i) separator (eg i)) part.states) in
    λ i. record { letters = el i; starts = es' i; states = et' i }

-- one more part is joined before those from k on
pub joined_more : (separator : ℕ) (parts : List Transducer) (k : ℕ) (part old new : Transducer) → 0 < k → k < length parts
    → part ≡ get_or parts (k - 1) part → ((u w : List ℕ) → Relates old u w ↔ RelatesJoined separator (drop k parts) u w)
    → ((u w : List ℕ) → Relates new u w ↔ AreJoined separator (Relates part) (Relates old) u w)
    → (u w : List ℕ) → Relates new u w ↔ RelatesJoined separator (drop (k - 1) parts) u w
joined_more separator parts k part old new positive below at before after u w =
    let lt : k - 1 < length parts = omega arith in
    let one : k - 1 + 1 ≡ k = omega arith in
    let some : 0 < length (drop k parts) = simp length-drop (omega arith) in
    let e : drop (k - 1) parts ≡ part ∷ drop k parts = drop_more parts (k - 1) part lt ∙ (λ i. sym at i ∷ drop (one i) parts) in
    let more = RelatesJoined-more separator part (drop k parts) u w some in
    subst (λ l. Relates new u w ↔ RelatesJoined separator l u w) (sym e) (
      λ h. more.1 (AreJoined-back separator (Relates part) (Relates old) (RelatesJoined separator (drop k parts)) u w
          (λ u w. (before u w).0) ((after u w).0 h)),
      λ h. (after u w).1 (AreJoined-back separator (Relates part) (RelatesJoined separator (drop k parts)) (Relates old) u w
          (λ u w. (before u w).1) (more.0 h)),
    )
