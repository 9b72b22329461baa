-- Lemmas on what the calls of a builder change.
use Rattle.std.proofs.Common.{◌≡◌, ℕ, zero, suc, ◌<◌, List, [], ◌∷◌, ◌++◌, length, get_or, set, sym, ap, subst, arith, ◌≤◌, All, length-set}
use Rattle.std.proofs.lemmas.List.Elements.{All-set, All-append, All-get_or}
use Rattle.word_automata.specs.Path.{Node}
use Rattle.transducers.specs.declared.Label.{Label}
use Rattle.transducers.specs.Transducer.{Transducer, IsValid, IsEdge}
use Rattle.transducers.specs.Builder.{add_edges}

-- edges are added by a write to their state
pub set-add_edges : (states : List (Node Label)) (p : ℕ) (node : Node Label) (edges : List (Label × ℕ)) → p < length states
    → node ≡ get_or states p node
    → set states p (record { accepting = node.accepting; edges = node.edges ++ edges }) ≡ add_edges states p edges
set-add_edges [] p node edges h e = absurd (omega arith)
set-add_edges (x ∷ states) zero node edges h e = ap (λ n. (record { accepting = n.accepting; edges = n.edges ++ edges }) ∷ states) e
set-add_edges (x ∷ states) (suc p) node edges h e = ap (λ rest. x ∷ rest) (set-add_edges states p node edges (omega arith) e)

-- an edge stays one where there are more states
pub IsEdge-more : (letters n m : ℕ) (edge : Label × ℕ) → n ≤ m → IsEdge letters n edge → IsEdge letters m edge
IsEdge-more letters n m edge h e = record {
  read_in_range = e.read_in_range;
  write_in_range = e.write_in_range;
  target_in_range = omega (arith, e.target_in_range);
}

-- a valid transducer stays so where edges in range are added to a state
pub IsValid-set : (t : Transducer) (p : ℕ) (node : Node Label) (edges after : List (Label × ℕ)) → IsValid t → p < length t.states
    → node ≡ get_or t.states p node
    → All (IsEdge t.letters (length t.states)) edges → after ≡ node.edges ++ edges
    → IsValid (record t { states = set t.states p (record { accepting = node.accepting; edges = after }) })
IsValid-set t p node edges after valid lt at good is =
    let same : length (set t.states p (record { accepting = node.accepting; edges = after })) ≡ length t.states = length-set t.states p _ in
    let P : ℕ → Node Label → Type 0 = λ n x. All (IsEdge t.letters n) x.edges in
    let old : P (length t.states) node = subst (P (length t.states)) (sym at)
    (All-get_or (P (length t.states)) t.states p node lt valid.edges_in_range) in
    let new : P (length t.states) (record { accepting = node.accepting; edges = after }) =
    subst (All (IsEdge t.letters (length t.states))) (sym is) (All-append (IsEdge t.letters (length t.states)) node.edges edges old good) in
    record {
      starts_in_range = λ k d h. subst (λ n. get_or t.starts k d < n) (sym same) (valid.starts_in_range k d h);
      edges_in_range = subst (λ n. All (P n) (set t.states p (record { accepting = node.accepting; edges = after }))) (sym same)
          (All-set (P (length t.states)) t.states p _ new valid.edges_in_range);
    }
