-- Lemmas on transducers made of others.
use Rattle.std.proofs.Common.{◌≡◌, ℕ, ◌+◌, ◌<◌, ◌≤◌, List, [], ◌∷◌, ◌++◌, map, length, slice_get, Some, Contains, refl, sym, ap, ◌∙◌}
use Rattle.std.proofs.Common.{subst, inl, inr, arith, ◌⊎◌, All, length-append}
use Rattle.std.proofs.Math.Nat.{add-zero}
use Rattle.std.proofs.lemmas.List.{length-map}
use Rattle.std.proofs.lemmas.List.Elements.{All-contains, All-map, All-weaker, All-append, Contains-append_left, Contains-append_right}
use Rattle.std.proofs.lemmas.List.Elements.{Contains-append_cases}
use Rattle.sequence.proofs.ForCallers.{slice_get-append_left}
use Rattle.word_automata.specs.Path.{Node, IsPath, spelled, spelled_one}
use Rattle.word_automata.proofs.ForCallers.{Contains-map, Contains-map_cases}
use Rattle.transducers.specs.declared.Label.{Label}
use Rattle.transducers.specs.Transducer.{Transducer, IsValid, IsEdge, Relates, RelatesFrom, read_of, write_of}
use Rattle.transducers.specs.Combination.{shifted_edge, shifted_node, inverse_edge, inverse_node}
use Rattle.transducers.proofs.ListLemmas.{slice_get-append_right, slice_get-map_image, slice_get-map_cases}
use Rattle.transducers.proofs.PathLemmas.{Embeds, RelatesFrom-embed, RelatesFrom-project, edges_of-at, is_accepting-at, node_from_edge}
use Rattle.transducers.proofs.PathLemmas.{node_from_accepting}

module _ (t : Transducer) (n m : ℕ) (valid : IsValid t) (fits : length t.states + n ≤ m) where
  -- shifted states are in range
  pub edges-shifted : All (λ node. All (IsEdge t.letters m) node.edges) (map (shifted_node n) t.states)
  edges-shifted =
      All-map (λ node. All (IsEdge t.letters m) node.edges) (shifted_node n) t.states
      (All-weaker (λ node. All (IsEdge t.letters (length t.states)) node.edges)
      (λ node. All (IsEdge t.letters m) (shifted_node n node).edges)
      (λ node h. All-map (IsEdge t.letters m) (shifted_edge n) node.edges
      (All-weaker (IsEdge t.letters (length t.states)) (λ e. IsEdge t.letters m (shifted_edge n e))
      (λ e g. record {
        read_in_range = g.read_in_range;
        write_in_range = g.write_in_range;
        target_in_range = omega (arith, g.target_in_range, fits);
      }) node.edges h))
      t.states valid.edges_in_range)

  pub starts-shifted : All (λ q. q < m) (map (λ q. q + n) t.starts)
  starts-shifted = All-map (λ q. q < m) (λ q. q + n) t.starts
      (All-weaker (λ q. q < length t.states) (λ q. q + n < m) (λ q h. omega (arith, h, fits)) t.starts valid.starts_in_range)

-- the states of both transducers, those of the second behind those of the first
abbrev pub union_of : Transducer → Transducer → Transducer
union_of a b = record {
  letters = a.letters;
  starts = map (λ q. q + 0) a.starts ++ map (λ q. q + length a.states) b.starts;
  states = map (shifted_node 0) a.states ++ map (shifted_node (length a.states)) b.states;
}

-- a list made by two pushes of lists
pub appended_twice : {X : Type 0} (none first both : List X) (xs ys : List X) → none ≡ [] → first ≡ none ++ xs → both ≡ first ++ ys
    → both ≡ xs ++ ys
appended_twice none first both xs ys e0 e1 e2 = e2 ∙ ap (λ l. l ++ ys) (e1 ∙ ap (λ l. l ++ xs) e0)

pub union-is : (a b : Transducer) (letters n : ℕ) (starts : List ℕ) (states : List (Node Label)) → letters ≡ a.letters → n ≡ length a.states
    → starts ≡ map (λ q. q + 0) a.starts ++ map (λ q. q + n) b.starts → states ≡ map (shifted_node 0) a.states
    ++ map (shifted_node n) b.states
    → (let t : Transducer = record { letters = letters; starts = starts; states = states } in t) ≡ union_of a b
union-is a b letters n starts states el en es et =
    let es' : starts ≡ (union_of a b).starts = es ∙ ap (λ n. map (λ q. q + 0) a.starts ++ map (λ q. q + n) b.starts) en in
    let et' : states ≡ (union_of a b).states = et ∙ ap (λ n. map (shifted_node 0) a.states ++ map (shifted_node n) b.states) en in
    λ i. record { letters = el i; starts = es' i; states = et' i }

module _ (a b : Transducer) (a_valid : IsValid a) (b_valid : IsValid b) (same : a.letters ≡ b.letters) where
  size : length (union_of a b).states ≡ length a.states + length b.states
  size = simp (length-append, length-map)

  pub IsValid-union : IsValid (union_of a b)
  IsValid-union =
      let n : ℕ = length (union_of a b).states in
      let a_fits : length a.states + 0 ≤ n = omega (arith, size) in
      let b_fits : length b.states + length a.states ≤ n = omega (arith, size) in
      record {
        starts_in_range = All-append (λ q. q < n) (map (λ q. q + 0) a.starts) (map (λ q. q + length a.states) b.starts)
            (starts-shifted a 0 n a_valid a_fits) (starts-shifted b (length a.states) n b_valid b_fits);
        edges_in_range = All-append (λ node. All (IsEdge a.letters n) node.edges) (map (shifted_node 0) a.states)
            (map (shifted_node (length a.states)) b.states) (edges-shifted a 0 n a_valid a_fits)
            (subst (λ l. All (λ node. All (IsEdge l n) node.edges) (map (shifted_node (length a.states)) b.states)) (sym same)
            (edges-shifted b (length a.states) n b_valid b_fits));
      }

  a_embeds : Embeds 0 a.states (union_of a b).states
  a_embeds = record {
    at = λ p node e. rw (add-zero p)
        (slice_get-append_left (map (shifted_node 0) a.states) _ p (shifted_node 0 node)
        (slice_get-map_image (shifted_node 0) a.states p node e));
  }

  b_embeds : Embeds (length a.states) b.states (union_of a b).states
  b_embeds = record {
    at = λ p node e.
        let first = map (shifted_node 0) a.states in
        let second = map (shifted_node (length a.states)) b.states in
        subst (λ n. slice_get (first ++ second) (p + n) ≡ Some (shifted_node (length a.states) node)) (length-map a.states (shifted_node 0))
        (slice_get-append_right first second p ∙ slice_get-map_image (shifted_node (length a.states)) b.states p node e);
  }

  pub Relates-union : (u w : List ℕ) → (Relates (union_of a b) u w → Relates a u w ⊎ Relates b u w)
      × (Relates a u w ⊎ Relates b u w → Relates (union_of a b) u w)
  Relates-union u w = (split, join)
    where
      split : Relates (union_of a b) u w → Relates a u w ⊎ Relates b u w
      split r = elim (Contains-append_cases (map (λ q. q + 0) a.starts) (map (λ q. q + length a.states) b.starts) r.start r.is_start) [
        | inl left ↦ (let from = Contains-map_cases (λ q. q + 0) a.starts r.start left in
            inl (record {
              start = from.0;
              is_start = from.1;
              run = RelatesFrom-project a (union_of a b) 0 a_embeds a_valid from.0 u w
                  (All-contains (λ q. q < length a.states) a.starts from.0 a_valid.starts_in_range from.1)
                  (subst (λ q. RelatesFrom (union_of a b) q u w) (sym from.2) r.run);
            }))
        | inr right ↦ (let from = Contains-map_cases (λ q. q + length a.states) b.starts r.start right in
            inr (record {
              start = from.0;
              is_start = from.1;
              run = RelatesFrom-project b (union_of a b) (length a.states) b_embeds b_valid from.0 u w
                  (All-contains (λ q. q < length b.states) b.starts from.0 b_valid.starts_in_range from.1)
                  (subst (λ q. RelatesFrom (union_of a b) q u w) (sym from.2) r.run);
            }))
      ]

      join : Relates a u w ⊎ Relates b u w → Relates (union_of a b) u w
      join (inl r) = record {
        start = r.start + 0;
        is_start = Contains-append_left (map (λ q. q + 0) a.starts) _ (r.start + 0)
            (Contains-map (λ q. q + 0) a.starts r.start r.is_start);
        run = RelatesFrom-embed a (union_of a b) 0 a_embeds a_valid r.start u w r.run;
      }
      join (inr r) = record {
        start = r.start + length a.states;
        is_start = Contains-append_right (map (λ q. q + 0) a.starts) _ (r.start + length a.states)
            (Contains-map (λ q. q + length a.states) b.starts r.start r.is_start);
        run = RelatesFrom-embed b (union_of a b) (length a.states) b_embeds b_valid r.start u w r.run;
      }

-- the transducer with its edges turned round
abbrev pub inverse_of : Transducer → Transducer
inverse_of t = record { letters = t.letters; starts = t.starts; states = map inverse_node t.states }

pub IsValid-inverse : (t : Transducer) → IsValid t → IsValid (inverse_of t)
IsValid-inverse t valid =
    let same : length (map inverse_node t.states) ≡ length t.states = length-map t.states inverse_node in
    let n : ℕ = length t.states in
    let edges : All (λ node. All (IsEdge t.letters n) node.edges) (map inverse_node t.states) =
    All-map (λ node. All (IsEdge t.letters n) node.edges) inverse_node t.states
    (All-weaker (λ node. All (IsEdge t.letters n) node.edges) (λ node. All (IsEdge t.letters n) (inverse_node node).edges)
    (λ node h. All-map (IsEdge t.letters n) inverse_edge node.edges
    (All-weaker (IsEdge t.letters n) (λ e. IsEdge t.letters n (inverse_edge e))
    (λ e g. record {
      read_in_range = g.write_in_range;
      write_in_range = g.read_in_range;
      target_in_range = g.target_in_range;
    }) node.edges h))
    t.states valid.edges_in_range) in
    record {
      starts_in_range = subst (λ m. All (λ q. q < m) t.starts) (sym same) valid.starts_in_range;
      edges_in_range = subst (λ m. All (λ node. All (IsEdge t.letters m) node.edges) (map inverse_node t.states)) (sym same) edges;
    }

-- a path, turned round, is one of the inverse
turned_path : (states turned : List (Node Label)) → ((p : ℕ) (node : Node Label) → slice_get states p ≡ Some node
    → slice_get turned p ≡ Some (inverse_node node))
    → (moves : List (Label × ℕ)) (p q : ℕ) → IsPath states p moves q → IsPath turned p (map inverse_edge moves) q
turned_path states turned at [] p q path = path
turned_path states turned at (move ∷ moves) p q path =
    let from = node_from_edge states p move path.0 in (
      subst (λ edges. Contains edges (inverse_edge move)) (sym (edges_of-at turned p (inverse_node from.0) (at p from.0 from.1)))
          (Contains-map inverse_edge from.0.edges move from.2),
      turned_path states turned at moves move.1 q path.1,
    )

reads-turned : (moves : List (Label × ℕ)) → spelled read_of (map inverse_edge moves) ≡ spelled write_of moves
reads-turned [] = refl
reads-turned (move ∷ moves) = ap (λ w. spelled_one move.0.write ++ w) (reads-turned moves)

writes-turned : (moves : List (Label × ℕ)) → spelled write_of (map inverse_edge moves) ≡ spelled read_of moves
writes-turned [] = refl
writes-turned (move ∷ moves) = ap (λ w. spelled_one move.0.read ++ w) (writes-turned moves)

turned_run : (t turned : Transducer) → ((p : ℕ) (node : Node Label) → slice_get t.states p ≡ Some node
    → slice_get turned.states p ≡ Some (inverse_node node))
    → (p : ℕ) (u w : List ℕ) → RelatesFrom t p u w → RelatesFrom turned p w u
turned_run t turned at p u w run =
    let end_at = node_from_accepting t.states run.last run.accepts in
    record {
      moves = map inverse_edge run.moves;
      last = run.last;
      path = turned_path t.states turned.states at run.moves p run.last run.path;
      accepts = is_accepting-at turned.states run.last (inverse_node end_at.0) (at run.last end_at.0 end_at.1) ∙ end_at.2;
      reads = reads-turned run.moves ∙ run.writes;
      writes = writes-turned run.moves ∙ run.reads;
    }

-- turning twice changes nothing
turned_edges_twice : (edges : List (Label × ℕ)) → map inverse_edge (map inverse_edge edges) ≡ edges
turned_edges_twice [] = refl
turned_edges_twice (edge ∷ edges) = ap (λ rest. edge ∷ rest) (turned_edges_twice edges)

pub Relates-inverse : (t : Transducer) (u w : List ℕ) → (Relates (inverse_of t) u w → Relates t w u)
    × (Relates t w u → Relates (inverse_of t) u w)
Relates-inverse t u w =
    let there : (p : ℕ) (node : Node Label) → slice_get t.states p ≡ Some node
    → slice_get (inverse_of t).states p ≡ Some (inverse_node node) = λ p node e. slice_get-map_image inverse_node t.states p node e in
    let back : (p : ℕ) (node : Node Label) → slice_get (inverse_of t).states p ≡ Some node
    → slice_get t.states p ≡ Some (inverse_node node) =
    λ p node e.
    let from = slice_get-map_cases inverse_node t.states p node e in
    from.1 ∙ ap Some (ap (λ edges. let x : Node Label = record { accepting = from.0.accepting; edges = edges } in x)
    (sym (turned_edges_twice from.0.edges)) ∙ ap inverse_node from.2) in (
      λ r. record { start = r.start; is_start = r.is_start; run = turned_run (inverse_of t) t back r.start u w r.run },
      λ r. record { start = r.start; is_start = r.is_start; run = turned_run t (inverse_of t) there r.start w u r.run },
    )
