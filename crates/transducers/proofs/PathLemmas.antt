-- Lemmas on the edges and paths of graphs, and of a graph that holds another.
use Rattle.std.proofs.Common.{◌≡◌, ℕ, ◌+◌, ◌<◌, true, false, List, [], ◌∷◌, ◌++◌, map, length, slice_get, Option, Some, Contains, refl}
use Rattle.std.proofs.Common.{sym, ap, ◌∙◌, subst, inl, inr, arith, IsTrue, All, true≢false}
use Rattle.std.proofs.lemmas.List.Elements.{All-contains}
use Rattle.word_automata.specs.Path.{Node, edges_of, is_accepting, IsPath, spelled, spelled_one}
use Rattle.word_automata.proofs.ForCallers.{Contains-map, Contains-map_cases}
use Rattle.transducers.specs.declared.Label.{Label}
use Rattle.transducers.specs.Transducer.{Transducer, IsValid, IsEdge, RelatesFrom, read_of, write_of}
use Rattle.transducers.specs.Combination.{shifted_edge, shifted_node}
use Rattle.transducers.proofs.ListLemmas.{slice_get-cases, slice_get-within, Contains-from_place}

-- the edges and the flag of a state that is there
pub edges_of-at : {L : Type 0} (states : List (Node L)) (p : ℕ) (node : Node L) → slice_get states p ≡ Some node
    → edges_of states p ≡ node.edges
edges_of-at states p node e = rw (e, edges_of)

pub is_accepting-at : {L : Type 0} (states : List (Node L)) (p : ℕ) (node : Node L) → slice_get states p ≡ Some node
    → is_accepting states p ≡ node.accepting
is_accepting-at states p node e = rw (e, is_accepting)

-- a state that has an edge is there, and so is one that accepts
pub node_from_edge : {L : Type 0} (states : List (Node L)) (p : ℕ) (edge : L × ℕ) → Contains (edges_of states p) edge → (node : Node L)
    × (slice_get states p ≡ Some node) × Contains node.edges edge
node_from_edge states p edge h =
    elim (slice_get-cases states p) [
      | inl (node, e) ↦ (node, e, subst (λ edges. Contains edges edge) (edges_of-at states p node e) h)
      | inr none ↦ (let empty : edges_of states p ≡ [] = rw (none, edges_of) in let h' = subst (λ edges. Contains edges edge) empty h in
          absurd (omega (arith, h'.1)))
    ]

pub node_from_accepting : {L : Type 0} (states : List (Node L)) (p : ℕ) → IsTrue (is_accepting states p) → (node : Node L)
    × (slice_get states p ≡ Some node) × (node.accepting ≡ true)
node_from_accepting states p h =
    elim (slice_get-cases states p) [
      | inl (node, e) ↦ (node, e, sym (is_accepting-at states p node e) ∙ h)
      | inr none ↦ (let no' : is_accepting states p ≡ false = rw (none, is_accepting) in absurd (true≢false (sym h ∙ no')))
    ]

-- the targets of a valid transducer's edges are states of its own
pub target_in_range : (t : Transducer) (p : ℕ) (edge : Label × ℕ) → IsValid t → Contains (edges_of t.states p) edge
    → IsEdge t.letters (length t.states) edge
target_in_range t p edge valid h =
    let at = node_from_edge t.states p edge h in
    All-contains (IsEdge t.letters (length t.states)) at.0.edges edge
    (All-contains (λ node. All (IsEdge t.letters (length t.states)) node.edges) t.states at.0 valid.edges_in_range
    (Contains-from_place t.states p at.0 at.1)) at.2

-- the states of one graph lie in another one, behind the first n
pub record Embeds (n : ℕ) (part whole : List (Node Label)) : Type 0 where
  pub at : (p : ℕ) (node : Node Label) → slice_get part p ≡ Some node → slice_get whole (p + n) ≡ Some (shifted_node n node)

pub spelled-shifted : (letter : Label → Option ℕ) (n : ℕ) (moves : List (Label × ℕ))
    → spelled letter (map (shifted_edge n) moves) ≡ spelled letter moves
spelled-shifted letter n [] = refl
spelled-shifted letter n (move ∷ moves) = ap (λ w. spelled_one (letter move.0) ++ w) (spelled-shifted letter n moves)

module _ (n : ℕ) (part whole : List (Node Label)) (embeds : Embeds n part whole) where
  -- a path of the part is one of the whole
  pub IsPath-embed : (moves : List (Label × ℕ)) (p q : ℕ) → IsPath part p moves q
      → IsPath whole (p + n) (map (shifted_edge n) moves) (q + n)
  IsPath-embed [] p q path = ap (λ r. r + n) path
  IsPath-embed (move ∷ moves) p q path =
      let at = node_from_edge part p move path.0 in (
        subst (λ edges. Contains edges (shifted_edge n move))
            (sym (edges_of-at whole (p + n) (shifted_node n at.0) (embeds.at p at.0 at.1)))
            (Contains-map (shifted_edge n) at.0.edges move at.2),
        IsPath-embed moves move.1 q path.1,
      )

  pub is_accepting-embed : (p : ℕ) → IsTrue (is_accepting part p) → IsTrue (is_accepting whole (p + n))
  is_accepting-embed p h =
      let at = node_from_accepting part p h in
      is_accepting-at whole (p + n) (shifted_node n at.0) (embeds.at p at.0 at.1) ∙ at.2

  -- an edge of the whole that leaves a state of the part is one of the part
  pub edge_from_embed : (p : ℕ) (edge : Label × ℕ) → p < length part → Contains (edges_of whole (p + n)) edge → (e : Label × ℕ)
      × Contains (edges_of part p) e × (shifted_edge n e ≡ edge)
  edge_from_embed p edge h is_edge =
      let at = slice_get-within part p h in
      let from = Contains-map_cases (shifted_edge n) at.0.edges edge
      (subst (λ edges. Contains edges edge) (edges_of-at whole (p + n) (shifted_node n at.0) (embeds.at p at.0 at.1)) is_edge) in
      (from.0, subst (λ edges. Contains edges from.0) (sym (edges_of-at part p at.0 at.1)) from.1, from.2)

  pub is_accepting-project : (p : ℕ) → p < length part → IsTrue (is_accepting whole (p + n)) → IsTrue (is_accepting part p)
  is_accepting-project p h accepts =
      let at = slice_get-within part p h in
      is_accepting-at part p at.0 at.1 ∙ sym (is_accepting-at whole (p + n) (shifted_node n at.0) (embeds.at p at.0 at.1)) ∙ accepts

module _ (t whole : Transducer) (n : ℕ) (embeds : Embeds n t.states whole.states) (valid : IsValid t) where
  -- what the part relates from a state, the whole does
  pub RelatesFrom-embed : (p : ℕ) (u w : List ℕ) → RelatesFrom t p u w → RelatesFrom whole (p + n) u w
  RelatesFrom-embed p u w run =
      record {
        moves = map (shifted_edge n) run.moves;
        last = run.last + n;
        path = IsPath-embed n t.states whole.states embeds run.moves p run.last run.path;
        accepts = is_accepting-embed n t.states whole.states embeds run.last run.accepts;
        reads = spelled-shifted read_of n run.moves ∙ run.reads;
        writes = spelled-shifted write_of n run.moves ∙ run.writes;
      }

  along : (moves : List (Label × ℕ)) (p last : ℕ) → p < length t.states → IsPath whole.states (p + n) moves last
      → IsTrue (is_accepting whole.states last)
      → RelatesFrom t p (spelled read_of moves) (spelled write_of moves)
  along [] p last h path accepts =
      record {
        moves = [];
        last = p;
        path = refl;
        accepts = is_accepting-project n t.states whole.states embeds p h
            (subst (λ q. IsTrue (is_accepting whole.states q)) (sym path) accepts);
        reads = refl;
        writes = refl;
      }
  along (move ∷ moves) p last h path accepts =
      let from = edge_from_embed n t.states whole.states embeds p move h path.0 in
      let target : from.0.1 + n ≡ move.1 = ap (λ e. e.1) from.2 in
      let label : from.0.0 ≡ move.0 = ap (λ e. e.0) from.2 in
      let run = along moves from.0.1 last (target_in_range t p from.0 valid from.1).target_in_range
      (subst (λ q. IsPath whole.states q moves last) (sym target) path.1) accepts in
      record {
        moves = from.0 ∷ run.moves;
        last = run.last;
        path = (from.1, run.path);
        accepts = run.accepts;
        reads = ap (λ l. spelled_one (read_of l) ++ spelled read_of run.moves) label
            ∙ ap (λ w. spelled_one (read_of move.0) ++ w) run.reads;
        writes = ap (λ l. spelled_one (write_of l) ++ spelled write_of run.moves) label
            ∙ ap (λ w. spelled_one (write_of move.0) ++ w) run.writes;
      }

  -- what the whole relates from a state of the part, the part does
  pub RelatesFrom-project : (p : ℕ) (u w : List ℕ) → p < length t.states → RelatesFrom whole (p + n) u w → RelatesFrom t p u w
  RelatesFrom-project p u w h run = subst (λ v. RelatesFrom t p u v) run.writes
      (subst (λ v. RelatesFrom t p v (spelled write_of run.moves)) run.reads (along run.moves p run.last h run.path run.accepts))
