-- Runs of a transducer, edge by edge.
use Rattle.std.proofs.Common.{◌≡◌, ℕ, List, [], ◌∷◌, ◌++◌, Contains, refl, sym, ap, subst, inl, inr, IsTrue, ◌⊎◌}
use Rattle.word_automata.specs.Path.{edges_of, is_accepting, IsPath, spelled, spelled_one}
use Rattle.transducers.specs.declared.Label.{Label}
use Rattle.transducers.specs.Transducer.{Transducer, RelatesFrom, read_of, write_of}

-- a run from the state p that takes an edge first
pub record TakesEdge (t : Transducer) (p : ℕ) (u w : List ℕ) : Type 0 where
  pub edge : Label × ℕ
  pub is_edge : Contains (edges_of t.states p) edge
  pub read_rest : List ℕ
  pub write_rest : List ℕ
  pub reads : u ≡ spelled_one edge.0.read ++ read_rest
  pub writes : w ≡ spelled_one edge.0.write ++ write_rest
  pub run : RelatesFrom t edge.1 read_rest write_rest

-- a run that takes no edge
pub record EndsAt (t : Transducer) (p : ℕ) (u w : List ℕ) : Type 0 where
  pub accepts : IsTrue (is_accepting t.states p)
  pub reads : u ≡ []
  pub writes : w ≡ []

module _ (t : Transducer) where
  cases_path : (moves : List (Label × ℕ)) (p last : ℕ) (u w : List ℕ) → IsPath t.states p moves last → IsTrue (is_accepting t.states last)
      → spelled read_of moves ≡ u → spelled write_of moves ≡ w → EndsAt t p u w ⊎ TakesEdge t p u w
  cases_path [] p last u w path accepts reads writes = inl (record {
    accepts = subst (λ q. IsTrue (is_accepting t.states q)) (sym path) accepts;
    reads = sym reads;
    writes = sym writes;
  })
  cases_path (move ∷ moves) p last u w path accepts reads writes = inr (record {
    edge = move;
    is_edge = path.0;
    read_rest = spelled read_of moves;
    write_rest = spelled write_of moves;
    reads = sym reads;
    writes = sym writes;
    run = record { moves = moves; last = last; path = path.1; accepts = accepts; reads = refl; writes = refl };
  })

  -- a run ends at once or takes an edge
  pub cases_run : (p : ℕ) (u w : List ℕ) → RelatesFrom t p u w → EndsAt t p u w ⊎ TakesEdge t p u w
  cases_run p u w run = cases_path run.moves p run.last u w run.path run.accepts run.reads run.writes

  -- the run that ends at once
  pub ending_run : (p : ℕ) → IsTrue (is_accepting t.states p) → RelatesFrom t p [] []
  ending_run p accepts = record { moves = []; last = p; path = refl; accepts = accepts; reads = refl; writes = refl }

  -- an edge and then a run
  pub longer_run : (p : ℕ) (edge : Label × ℕ) (u w : List ℕ) → Contains (edges_of t.states p) edge → RelatesFrom t edge.1 u w
      → RelatesFrom t p (spelled_one edge.0.read ++ u) (spelled_one edge.0.write ++ w)
  longer_run p edge u w is_edge run = record {
    moves = edge ∷ run.moves;
    last = run.last;
    path = (is_edge, run.path);
    accepts = run.accepts;
    reads = ap (λ v. spelled_one edge.0.read ++ v) run.reads;
    writes = ap (λ v. spelled_one edge.0.write ++ v) run.writes;
  }
