-- Transducers whose edges each read one letter and write one letter.
use Rattle.std.proofs.Common.{◌≡◌, ℕ, List, [], ◌∷◌, ◌++◌, Contains, refl, sym, ap, subst, IsTrue}
use Rattle.word_automata.specs.Path.{Node, edges_of, is_accepting, IsPath, spelled, spelled_one}
use Rattle.transducers.specs.declared.Label.{Label}
use Rattle.transducers.specs.Transducer.{Transducer, RelatesFrom, read_of, write_of}
use Rattle.transducers.specs.Combination.{exchange}

-- the words are read and written letter by letter, along edges from the state p to an accepting state
abbrev pub Exchanges : List (Node Label) → ℕ → List ℕ → List ℕ → Type 0
Exchanges states p [] [] = IsTrue (is_accepting states p)
Exchanges states p [] (b ∷ w) = ⊥
Exchanges states p (a ∷ u) [] = ⊥
Exchanges states p (a ∷ u) (b ∷ w) = (q : ℕ) × Contains (edges_of states p) (exchange a b, q) × Exchanges states q u w

-- each edge reads one letter and writes one
pub record HasExchanges (states : List (Node Label)) : Type 0 where
  pub exchanges : (p : ℕ) (edge : Label × ℕ) → Contains (edges_of states p) edge → (a b : ℕ) × (edge.0 ≡ exchange a b)

module _ (t : Transducer) where
  -- words that are exchanged are related
  pub RelatesFrom-exchanges : (u w : List ℕ) (p : ℕ) → Exchanges t.states p u w → RelatesFrom t p u w
  RelatesFrom-exchanges [] [] p e = record { moves = []; last = p; path = refl; accepts = e; reads = refl; writes = refl }
  RelatesFrom-exchanges [] (b ∷ w) p e = absurd e
  RelatesFrom-exchanges (a ∷ u) [] p e = absurd e
  RelatesFrom-exchanges (a ∷ u) (b ∷ w) p e =
      let run = RelatesFrom-exchanges u w e.0 e.2 in
      record {
        moves = (exchange a b, e.0) ∷ run.moves;
        last = run.last;
        path = (e.1, run.path);
        accepts = run.accepts;
        reads = ap (λ v. a ∷ v) run.reads;
        writes = ap (λ v. b ∷ v) run.writes;
      }

  along : HasExchanges t.states → (moves : List (Label × ℕ)) (p last : ℕ) → IsPath t.states p moves last
      → IsTrue (is_accepting t.states last) → Exchanges t.states p (spelled read_of moves) (spelled write_of moves)
  along each [] p last path accepts = subst (λ q. IsTrue (is_accepting t.states q)) (sym path) accepts
  along each (move ∷ moves) p last path accepts =
      let e = each.exchanges p move path.0 in
      let rest = along each moves move.1 last path.1 accepts in
      let P : Label → Type 0 = λ l. Exchanges t.states p (spelled_one (read_of l) ++ spelled read_of moves) (spelled_one (write_of l)
      ++ spelled write_of moves) in
      let edge = subst (λ l. Contains (edges_of t.states p) (l, move.1)) e.2 path.0 in
      subst P (sym e.2) (move.1, edge, rest)

  -- and related words are exchanged
  pub exchanges_from_RelatesFrom : HasExchanges t.states → (u w : List ℕ) (p : ℕ) → RelatesFrom t p u w → Exchanges t.states p u w
  exchanges_from_RelatesFrom each u w p run =
      subst (λ v. Exchanges t.states p u v) run.writes
      (subst (λ v. Exchanges t.states p v (spelled write_of run.moves)) run.reads
      (along each run.moves p run.last run.path run.accepts))
