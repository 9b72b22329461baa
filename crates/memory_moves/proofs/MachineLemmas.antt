-- Lemmas on transducers that exchange what stands at the two ends of a word and copy what lies between.
use Rattle.std.proofs.Common.{◌≡◌, ℕ, suc, ◌+◌, ◌-◌, ◌<◌, ◌≤◌, true, false, List, [], ◌∷◌, ◌++◌, length, slice_get, Option, Some, None, Contains}
use Rattle.std.proofs.Common.{refl, sym, ap, ◌∙◌, subst, inl, inr, arith, ◌⊎◌, All, true≢false, length-append, IfSome}
use Rattle.std.specs.Option.{option_to_list}
use Rattle.std.specs.List.{range_with_len}
use Rattle.std.proofs.Math.Nat.{add-zero}
use Rattle.std.proofs.lemmas.List.{append_assoc, append-nil}
use Rattle.std.proofs.lemmas.List.Elements.{All-nil, All-cons, All-head, All-tail, All-append, Contains-append_left, Contains-append_right, Contains-append_cases}
use Rattle.word_automata.specs.Path.{Node, edges_of, spelled_one}
use Rattle.transducers.specs.declared.Label.{Label}
use Rattle.transducers.specs.Transducer.{Transducer, IsEdge, IsValid, Relates, RelatesFrom}
use Rattle.transducers.specs.Combination.{copy_edge, copy_edges}
use Rattle.transducers.proofs.ForCallers.{slice_get-append_right, Contains-map_cases, Contains-range_cases, edges_of-at, is_accepting-at}
use Rattle.transducers.proofs.ForCallers.{IsEdge-copies, copy_edge_from_letter, Contains-single, nothing_in_nil}
use Rattle.protocol_model.specs.System.{AllBelow}
use Rattle.protocol_model.specs.Words.{raised}
use Rattle.memory_moves.specs.private.Machine.{IsLabel, IsCopiedBetween, chain, copying_end, read_word, written_word}
use Rattle.memory_moves.proofs.RunLemmas.{EndsAt, TakesEdge, cases_run, ending_run, longer_run}

-- the states from number n on are those of the list
record Places (whole : List (Node Label)) (n : ℕ) (part : List (Node Label)) : Type 0 where
  pub at : (k : ℕ) → slice_get whole (k + n) ≡ slice_get part k

Places-next : (whole : List (Node Label)) (n : ℕ) (node : Node Label) (part : List (Node Label)) → Places whole n (node ∷ part)
    → Places whole (n + 1) part
Places-next whole n node part so = record {
  at = λ k. let e : k + (n + 1) ≡ suc k + n = omega arith in ap (λ j. slice_get whole j) e ∙ so.at (suc k);
}

Places-first : (whole : List (Node Label)) (n : ℕ) (node : Node Label) (part : List (Node Label)) → Places whole n (node ∷ part)
    → slice_get whole n ≡ Some node
Places-first whole n node part so = let e : n ≡ 0 + n = omega arith in ap (λ j. slice_get whole j) e ∙ so.at 0

-- a chain of states
module _ (t : Transducer) where
  -- a run along a chain follows its labels
  follows_chain : (labels : List Label) (n k : ℕ) (rest : List (Node Label)) → k ≡ n + length labels
      → Places t.states n (chain n labels ++ rest)
      → (u w : List ℕ) → RelatesFrom t n u w → (u' w' : List ℕ) × (u ≡ read_word labels ++ u') × (w ≡ written_word labels ++ w')
      × RelatesFrom t k u' w'
  follows_chain [] n k rest e so u w run = (u, w, refl, refl, (let same : n ≡ k = omega arith in subst (λ q. RelatesFrom t q u w) same run))
  follows_chain (label ∷ labels) n k rest e so u w run =
      let node : Node Label = record { accepting = false; edges = (label, n + 1) ∷ [] } in
      let here = Places-first t.states n node (chain (n + 1) labels ++ rest) so in
      elim (cases_run t n u w run) [
        | inl ends ↦ absurd (true≢false (sym ends.accepts ∙ is_accepting-at t.states n node here))
        | inr takes ↦ (let is : (label, n + 1) ≡ takes.edge = Contains-single (label, n + 1) takes.edge
            (subst (λ es. Contains es takes.edge) (edges_of-at t.states n node here) takes.is_edge) in
            let next = follows_chain labels (n + 1) k rest (omega arith)
            (Places-next t.states n node (chain (n + 1) labels ++ rest) so) takes.read_rest takes.write_rest
            (subst (λ (edge : Label × ℕ). RelatesFrom t edge.1 takes.read_rest takes.write_rest) (sym is) takes.run) in (
              next.0,
              next.1,
              takes.reads ∙ ap (λ (edge : Label × ℕ). spelled_one edge.0.read ++ takes.read_rest) (sym is)
                  ∙ ap (λ v. spelled_one label.read ++ v) next.2 ∙ sym (append_assoc (spelled_one label.read) (read_word labels) next.0),
              takes.writes ∙ ap (λ (edge : Label × ℕ). spelled_one edge.0.write ++ takes.write_rest) (sym is)
                  ∙ ap (λ v. spelled_one label.write ++ v) next.3 ∙ sym (append_assoc (spelled_one label.write) (written_word labels) next.1),
              next.4,
            ))
      ]

  -- and its labels are a run
  along_chain : (labels : List Label) (n k : ℕ) (rest : List (Node Label)) → k ≡ n + length labels
      → Places t.states n (chain n labels ++ rest)
      → (u w : List ℕ) → RelatesFrom t k u w → RelatesFrom t n (read_word labels ++ u) (written_word labels ++ w)
  along_chain [] n k rest e so u w run = let same : k ≡ n = omega arith in subst (λ q. RelatesFrom t q u w) same run
  along_chain (label ∷ labels) n k rest e so u w run =
      let node : Node Label = record { accepting = false; edges = (label, n + 1) ∷ [] } in
      let here = Places-first t.states n node (chain (n + 1) labels ++ rest) so in
      let next = along_chain labels (n + 1) k rest (omega arith) (Places-next t.states n node (chain (n + 1) labels ++ rest) so) u w run in
      let edge : Contains (edges_of t.states n) (label, n + 1) = subst (λ es. Contains es (label, n + 1))
      (sym (edges_of-at t.states n node here)) (0, omega arith, refl) in
      let both = longer_run t n (label, n + 1) (read_word labels ++ u) (written_word labels ++ w) edge next in
      subst (λ v. RelatesFrom t n v ((spelled_one label.write ++ written_word labels) ++ w))
      (sym (append_assoc (spelled_one label.read) (read_word labels) u))
      (subst (λ v. RelatesFrom t n (spelled_one label.read ++ (read_word labels ++ u)) v)
      (sym (append_assoc (spelled_one label.write) (written_word labels) w)) both)

-- a run from a state that copies letters: some letters are copied, and then it ends or takes another edge
pub record CopiesFirst (t : Transducer) (k offset count : ℕ) (further : List (Label × ℕ)) (u w : List ℕ) : Type 0 where
  pub copied : List ℕ
  pub in_range : AllBelow count copied
  pub read_rest : List ℕ
  pub write_rest : List ℕ
  pub reads : u ≡ raised offset copied ++ read_rest
  pub writes : w ≡ raised offset copied ++ write_rest
  pub goes_on : EndsAt t k read_rest write_rest ⊎ ((takes : TakesEdge t k read_rest write_rest) × Contains further takes.edge)

module _ (t : Transducer) (k offset count : ℕ) (further : List (Label × ℕ))
    (edges : edges_of t.states k ≡ copy_edges offset count k ++ further) where
  copied_more : (a : ℕ) (u w u' w' : List ℕ) → offset ≤ a → a < offset + count → u ≡ a ∷ u' → w ≡ a ∷ w'
      → CopiesFirst t k offset count further u' w' → CopiesFirst t k offset count further u w
  copied_more a u w u' w' low high eu ew so =
      let up : a ≡ (a - offset) + offset = omega arith in
      record {
        copied = (a - offset) ∷ so.copied;
        in_range = (omega arith, so.in_range);
        read_rest = so.read_rest;
        write_rest = so.write_rest;
        reads = eu ∙ (λ i. up i ∷ so.reads i);
        writes = ew ∙ (λ i. up i ∷ so.writes i);
        goes_on = so.goes_on;
      }

  -- an edge copies a letter, or it is one of the others
  copies_or_not : (edge : Label × ℕ) → Contains (edges_of t.states k) edge
      → ((a : ℕ) × (offset ≤ a) × (a < offset + count) × (copy_edge k a ≡ edge)) ⊎ Contains further edge
  copies_or_not edge h = elim (Contains-append_cases (copy_edges offset count k) further edge (subst (λ es. Contains es edge) edges h)) [
    | inl copies ↦ (let from = Contains-map_cases (copy_edge k) (range_with_len offset count) edge copies in
        let within = Contains-range_cases offset count from.0 from.1 in inl (from.0, within.0, within.1, from.2))
    | inr other ↦ inr other
  ]

  none_copied : (u w : List ℕ) → EndsAt t k u w ⊎ ((takes : TakesEdge t k u w) × Contains further takes.edge)
      → CopiesFirst t k offset count further u w
  none_copied u w goes_on = record {
    copied = [];
    in_range = tt;
    read_rest = u;
    write_rest = w;
    reads = refl;
    writes = refl;
    goes_on = goes_on;
  }

  pub copies_first : (u w : List ℕ) → RelatesFrom t k u w → CopiesFirst t k offset count further u w
  copies_first [] w run = elim (cases_run t k [] w run) [
    | inl ends ↦ none_copied [] w (inl ends)
    | inr takes ↦ elim (copies_or_not takes.edge takes.is_edge) [
      | inl copies ↦ (let e : [] ≡ copies.0 ∷ takes.read_rest = takes.reads
          ∙ ap (λ (edge : Label × ℕ). spelled_one edge.0.read ++ takes.read_rest) (sym copies.3) in cc)
      | inr other ↦ none_copied [] w (inr (takes, other))
    ]
  ]
  copies_first (x ∷ u) w run = elim (cases_run t k (x ∷ u) w run) [
    | inl ends ↦ none_copied (x ∷ u) w (inl ends)
    | inr takes ↦ elim (copies_or_not takes.edge takes.is_edge) [
      | inl copies ↦ (let reads : x ∷ u ≡ copies.0 ∷ takes.read_rest = takes.reads
          ∙ ap (λ (edge : Label × ℕ). spelled_one edge.0.read ++ takes.read_rest) (sym copies.3) in
          let writes : w ≡ copies.0 ∷ takes.write_rest = takes.writes
          ∙ ap (λ (edge : Label × ℕ). spelled_one edge.0.write ++ takes.write_rest) (sym copies.3) in
          let rest : takes.read_rest ≡ u = cc in
          let behind = subst (λ v. RelatesFrom t k v takes.write_rest) rest
          (subst (λ (edge : Label × ℕ). RelatesFrom t edge.1 takes.read_rest takes.write_rest) (sym copies.3) takes.run) in
          copied_more copies.0 (x ∷ u) w u takes.write_rest copies.1 copies.2
          (reads ∙ ap (λ v. copies.0 ∷ v) rest) writes (copies_first u takes.write_rest behind))
      | inr other ↦ none_copied (x ∷ u) w (inr (takes, other))
    ]
  ]

  -- letters are copied before a run
  pub copies_before : (copied : List ℕ) → AllBelow count copied → (u w : List ℕ) → RelatesFrom t k u w
      → RelatesFrom t k (raised offset copied ++ u) (raised offset copied ++ w)
  copies_before [] h u w run = run
  copies_before (x ∷ copied) h u w run =
      let low : offset ≤ x + offset = omega arith in
      let high : x + offset < offset + count = omega (arith, h.0) in
      let edge = subst (λ es. Contains es (copy_edge k (x + offset))) (sym edges)
      (Contains-append_left (copy_edges offset count k) further (copy_edge k (x + offset))
      (copy_edge_from_letter offset count k (x + offset) (low, high))) in
      longer_run t k (copy_edge k (x + offset)) (raised offset copied ++ u) (raised offset copied ++ w) edge
      (copies_before copied h.1 u w run)

length-chain : (n : ℕ) (labels : List Label) → length (chain n labels) ≡ length labels
length-chain n [] = refl
length-chain n (label ∷ labels) = ap suc (length-chain (n + 1) labels)

-- the whole transducer
abbrev pub machine : ℕ → ℕ → ℕ → List Label → Option Label → Transducer
machine letters offset count prefix suffix = record {
  letters = letters;
  starts = 0 ∷ [];
  states = chain 0 prefix ++ copying_end (length prefix) offset count suffix;
}

-- it is what the function makes
pub is_machine : (letters offset count : ℕ) (prefix : List Label) (suffix : Option Label) (starts : List ℕ) (front states : List (Node Label))
    → starts ≡ 0 ∷ [] → front ≡ chain 0 prefix → states ≡ front ++ copying_end (length front) offset count suffix
    → (let t : Transducer = record { letters = letters; starts = starts; states = states } in t) ≡ machine letters offset count prefix suffix
is_machine letters offset count prefix suffix starts front states es ef et =
    let size = ap (λ nodes. length nodes) ef ∙ length-chain 0 prefix in
    let all = et ∙ (λ i. ef i ++ copying_end (size i) offset count suffix) in
    λ i. record { letters = letters; starts = es i; states = all i }

module _ (letters offset count : ℕ) (prefix : List Label) where
  end_at : (suffix : Option Label) (j : ℕ) → slice_get (machine letters offset count prefix suffix).states (j + length prefix)
      ≡ slice_get (copying_end (length prefix) offset count suffix) j
  end_at suffix j = subst (λ n. slice_get (machine letters offset count prefix suffix).states (j + n)
      ≡ slice_get (copying_end (length prefix) offset count suffix) j) (length-chain 0 prefix)
      (slice_get-append_right (chain 0 prefix) (copying_end (length prefix) offset count suffix) j)

  loop_at : (suffix : Option Label) (node : Node Label) (rest : List (Node Label)) → copying_end (length prefix) offset count suffix ≡ node ∷ rest
      → slice_get (machine letters offset count prefix suffix).states (length prefix) ≡ Some node
  loop_at suffix node rest e =
      let same : length prefix ≡ 0 + length prefix = omega arith in
      ap (λ n. slice_get (machine letters offset count prefix suffix).states n) same ∙ end_at suffix 0 ∙ ap (λ nodes. slice_get nodes 0) e

  -- what the last part relates
  ends_there : (suffix : Option Label) (u w : List ℕ) → RelatesFrom (machine letters offset count prefix suffix) (length prefix) u w
      → (copied : List ℕ) × AllBelow count copied × (u ≡ raised offset copied ++ read_word (option_to_list suffix))
      × (w ≡ raised offset copied ++ written_word (option_to_list suffix))
  ends_there None u w run =
      let t = machine letters offset count prefix None in
      let node : Node Label = record { accepting = true; edges = copy_edges offset count (length prefix) } in
      let edges = edges_of-at t.states (length prefix) node (loop_at None node [] refl) ∙ sym (append-nil (copy_edges offset count (length prefix))) in
      let so = copies_first t (length prefix) offset count [] edges u w run in
      elim so.goes_on [
        | inl ends ↦ (
          so.copied,
          so.in_range,
          so.reads ∙ ap (λ v. raised offset so.copied ++ v) ends.reads,
          so.writes ∙ ap (λ v. raised offset so.copied ++ v) ends.writes,
        )
        | inr other ↦ nothing_in_nil other.0.edge other.1
      ]
  ends_there (Some label) u w run =
      let t = machine letters offset count prefix (Some label) in
      let last : Label × ℕ = (label, length prefix + 1) in
      let node : Node Label = record { accepting = false; edges = copy_edges offset count (length prefix) ++ last ∷ [] } in
      let final : Node Label = record { accepting = true; edges = [] } in
      let here = loop_at (Some label) node (final ∷ []) refl in
      let edges = edges_of-at t.states (length prefix) node here in
      let after : slice_get t.states (length prefix + 1) ≡ Some final = let e : length prefix + 1 ≡ 1 + length prefix = omega arith in
      ap (λ n. slice_get t.states n) e ∙ end_at (Some label) 1 in
      let so = copies_first t (length prefix) offset count (last ∷ []) edges u w run in
      elim so.goes_on [
        | inl ends ↦ absurd (true≢false (sym ends.accepts ∙ is_accepting-at t.states (length prefix) node here))
        | inr other ↦ (let is : last ≡ other.0.edge = Contains-single last other.0.edge other.1 in
            elim (cases_run t (length prefix + 1) other.0.read_rest other.0.write_rest
            (subst (λ (edge : Label × ℕ). RelatesFrom t edge.1 other.0.read_rest other.0.write_rest) (sym is) other.0.run)) [
              | inl ends ↦ (
                so.copied,
                so.in_range,
                so.reads ∙ ap (λ v. raised offset so.copied ++ v)
                    (other.0.reads ∙ (λ i. spelled_one ((sym is) i).0.read ++ ends.reads i)),
                so.writes ∙ ap (λ v. raised offset so.copied ++ v)
                    (other.0.writes ∙ (λ i. spelled_one ((sym is) i).0.write ++ ends.writes i)),
              )
              | inr more ↦ nothing_in_nil more.edge
                  (subst (λ es. Contains es more.edge) (edges_of-at t.states (length prefix + 1) final after) more.is_edge)
            ])
      ]

  ends_back : (suffix : Option Label) (copied : List ℕ) → AllBelow count copied
      → RelatesFrom (machine letters offset count prefix suffix) (length prefix)
      (raised offset copied ++ read_word (option_to_list suffix)) (raised offset copied ++ written_word (option_to_list suffix))
  ends_back None copied h =
      let t = machine letters offset count prefix None in
      let node : Node Label = record { accepting = true; edges = copy_edges offset count (length prefix) } in
      let here = loop_at None node [] refl in
      let edges = edges_of-at t.states (length prefix) node here ∙ sym (append-nil (copy_edges offset count (length prefix))) in
      copies_before t (length prefix) offset count [] edges copied h [] []
      (ending_run t (length prefix) (is_accepting-at t.states (length prefix) node here))
  ends_back (Some label) copied h =
      let t = machine letters offset count prefix (Some label) in
      let last : Label × ℕ = (label, length prefix + 1) in
      let node : Node Label = record { accepting = false; edges = copy_edges offset count (length prefix) ++ last ∷ [] } in
      let final : Node Label = record { accepting = true; edges = [] } in
      let edges = edges_of-at t.states (length prefix) node (loop_at (Some label) node (final ∷ []) refl) in
      let after : slice_get t.states (length prefix + 1) ≡ Some final = let e : length prefix + 1 ≡ 1 + length prefix = omega arith in
      ap (λ n. slice_get t.states n) e ∙ end_at (Some label) 1 in
      let edge : Contains (edges_of t.states (length prefix)) last = subst (λ es. Contains es last) (sym edges)
      (Contains-append_right (copy_edges offset count (length prefix)) (last ∷ []) last (0, omega arith, refl)) in
      copies_before t (length prefix) offset count (last ∷ []) edges copied h (read_word (label ∷ [])) (written_word (label ∷ []))
      (longer_run t (length prefix) last [] [] edge
      (ending_run t (length prefix + 1) (is_accepting-at t.states (length prefix + 1) final after)))

  module _ (suffix : Option Label) where
    whole : Places (machine letters offset count prefix suffix).states 0 (machine letters offset count prefix suffix).states
    whole = record { at = λ j. ap (λ n. slice_get (machine letters offset count prefix suffix).states n) (add-zero j) }

    -- what the transducer relates
    pub Relates-machine : (u w : List ℕ)
        → (Relates (machine letters offset count prefix suffix) u w → IsCopiedBetween prefix suffix offset count u w)
        × (IsCopiedBetween prefix suffix offset count u w → Relates (machine letters offset count prefix suffix) u w)
    Relates-machine u w = (
      λ r. let t = machine letters offset count prefix suffix in
          let run = subst (λ q. RelatesFrom t q u w) (sym (Contains-single 0 r.start r.is_start)) r.run in
          let follows = follows_chain t prefix 0 (length prefix) (copying_end (length prefix) offset count suffix) (omega arith) whole u w run in
          let ends = ends_there suffix follows.0 follows.1 follows.4 in
          record {
            copied = ends.0;
            in_range = ends.1;
            reads = follows.2 ∙ ap (λ v. read_word prefix ++ v) ends.2;
            writes = follows.3 ∙ ap (λ v. written_word prefix ++ v) ends.3;
          },
      λ so. let t = machine letters offset count prefix suffix in
          let run = along_chain t prefix 0 (length prefix) (copying_end (length prefix) offset count suffix) (omega arith) whole
          (raised offset so.copied ++ read_word (option_to_list suffix)) (raised offset so.copied ++ written_word (option_to_list suffix))
          (ends_back suffix so.copied so.in_range) in
          record {
            start = 0;
            is_start = (0, omega arith, refl);
            run = subst (λ v. RelatesFrom t 0 v w) (sym so.reads)
                (subst (λ v. RelatesFrom t 0 (read_word prefix ++ (raised offset so.copied ++ read_word (option_to_list suffix))) v)
                (sym so.writes) run);
          },
    )

edge_from_label : (letters n to : ℕ) (label : Label) → IsLabel letters label → to < n → IsEdge letters n (label, to)
edge_from_label letters n to label h lt = record {
  read_in_range = h.read_in_range;
  write_in_range = h.write_in_range;
  target_in_range = lt;
}

module _ (letters size : ℕ) where
  chain_in_range : (labels : List Label) (n : ℕ) → All (IsLabel letters) labels → n + length labels < size
      → All (λ node. All (IsEdge letters size) node.edges) (chain n labels)
  chain_in_range [] n h lt = All-nil (λ node. All (IsEdge letters size) node.edges)
  chain_in_range (label ∷ labels) n h lt =
      All-cons (λ node. All (IsEdge letters size) node.edges) (record { accepting = false; edges = (label, n + 1) ∷ [] }) (chain (n + 1) labels)
      (All-cons (IsEdge letters size) (label, n + 1) []
      (edge_from_label letters size (n + 1) label (All-head (IsLabel letters) label labels h) (omega arith)) (All-nil (IsEdge letters size)))
      (chain_in_range labels (n + 1) (All-tail (IsLabel letters) label labels h) (omega arith))

  end_in_range : (suffix : Option Label) (n offset count : ℕ) → IfSome suffix (IsLabel letters) → offset + count ≤ letters
      → n + length (copying_end n offset count suffix) ≤ size
      → All (λ node. All (IsEdge letters size) node.edges) (copying_end n offset count suffix)
  end_in_range None n offset count h fits le =
      All-cons (λ node. All (IsEdge letters size) node.edges) (record { accepting = true; edges = copy_edges offset count n }) []
      (IsEdge-copies letters offset count size n fits (omega arith)) (All-nil (λ node. All (IsEdge letters size) node.edges))
  end_in_range (Some label) n offset count h fits le =
      All-cons (λ node. All (IsEdge letters size) node.edges)
      (record { accepting = false; edges = copy_edges offset count n ++ (label, n + 1) ∷ [] }) (record { accepting = true; edges = [] } ∷ [])
      (All-append (IsEdge letters size) (copy_edges offset count n) ((label, n + 1) ∷ [])
      (IsEdge-copies letters offset count size n fits (omega arith))
      (All-cons (IsEdge letters size) (label, n + 1) [] (edge_from_label letters size (n + 1) label h (omega arith))
      (All-nil (IsEdge letters size))))
      (All-cons (λ node. All (IsEdge letters size) node.edges) (record { accepting = true; edges = [] }) [] (All-nil (IsEdge letters size))
      (All-nil (λ node. All (IsEdge letters size) node.edges)))

end_has_state : (n offset count : ℕ) (suffix : Option Label) → 0 < length (copying_end n offset count suffix)
end_has_state n offset count None = omega arith
end_has_state n offset count (Some label) = omega arith

pub IsValid-machine : (letters offset count : ℕ) (prefix : List Label) (suffix : Option Label) → All (IsLabel letters) prefix
    → IfSome suffix (IsLabel letters) → offset + count ≤ letters → IsValid (machine letters offset count prefix suffix)
IsValid-machine letters offset count prefix suffix h g fits =
    let end = copying_end (length prefix) offset count suffix in
    let size = length (chain 0 prefix ++ end) in
    let total : size ≡ length (chain 0 prefix) + length end = length-append (chain 0 prefix) end in
    let front : length (chain 0 prefix) ≡ length prefix = length-chain 0 prefix in
    let some : 0 < length end = end_has_state (length prefix) offset count suffix in
    record {
      starts_in_range = All-cons (λ q. q < size) 0 [] (omega arith) (All-nil (λ q. q < size));
      edges_in_range = All-append (λ node. All (IsEdge letters size) node.edges) (chain 0 prefix) end
          (chain_in_range letters size prefix 0 h (omega arith))
          (end_in_range letters size suffix (length prefix) offset count g fits (omega arith));
    }

-- one label more
pub chain-push : (n : ℕ) (labels : List Label) (label : Label) (next : ℕ) → next ≡ n + length labels + 1
    → chain n (labels ++ label ∷ []) ≡ chain n labels ++ record { accepting = false; edges = (label, next) ∷ [] } ∷ []
chain-push n [] label next e =
    let same : n + 1 ≡ next = omega arith in ap (λ (to : ℕ). record { accepting = false; edges = (label, to) ∷ [] } ∷ []) same
chain-push n (x ∷ labels) label next e =
    ap (λ rest. record { accepting = false; edges = (x, n + 1) ∷ [] } ∷ rest) (chain-push (n + 1) labels label next (omega arith))
