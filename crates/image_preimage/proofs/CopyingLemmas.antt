-- Flags of states from which a transducer writes what it reads.
use Rattle.std.proofs.Common.{◌≡◌, ◌≤◌, ◌++◌, ℕ, Bool, true, false, List, [], ◌∷◌, length, get_or, refl, sym, ap, ◌∙◌}
use Rattle.std.proofs.lemmas.Bool.{true≢false}
use Rattle.std.proofs.lemmas.List.{get_or_past}
use Rattle.word_automata.specs.Path.{IsPath, spelled, spelled_one}
use Rattle.transducers.specs.declared.Label.{Label}
use Rattle.transducers.specs.Transducer.{Transducer, read_of, write_of}
use Rattle.image_preimage.specs.private.CopyingStates.{IsCopyingAt, AreCopying, AreIdentities}

-- a number that is no state has no flag
pub copying_past : (t : Transducer) (flags : List Bool) (p : ℕ) → length flags ≤ p → IsCopyingAt t flags p
copying_past t flags p past flag = absurd (true≢false (sym flag ∙ get_or_past flags p false past))

module _ (t : Transducer) (flags : List Bool) (copying : AreCopying t flags) where
  -- what is read from a state with the flag is written
  copied : (moves : List (Label × ℕ)) (p last : ℕ) → get_or flags p false ≡ true → IsPath t.states p moves last
      → spelled read_of moves ≡ spelled write_of moves
  copied [] p last flag path = refl
  copied (edge ∷ moves) p last flag path =
      let copies = copying p flag edge path.0 in
      ap (λ label. spelled_one label ++ spelled read_of moves) copies.0
      ∙ ap (λ w. spelled_one edge.0.write ++ w) (copied moves edge.1 last copies.1 path.1)

  pub identities : AreIdentities t flags
  identities p flag u w r = sym r.reads ∙ (copied r.moves p r.last flag r.path ∙ r.writes)
