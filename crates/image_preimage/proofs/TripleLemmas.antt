-- The steps of a walk over triples.
use Rattle.std.proofs.Common.{◌≡◌, ◌&&◌, ℕ, Bool, true, false, not, List, [], ◌∷◌, ◌++◌, Option, None, Some, length, refl, sym, ap}
use Rattle.std.proofs.Common.{subst, ◌∙◌, inl, inr, arith, slice_get, Contains}
use Rattle.std.proofs.lemmas.Bool.{and_parts}
use Rattle.std.proofs.lemmas.List.Elements.{Contains-push_cases}
use Rattle.word_automata.specs.Path.{edges_of, is_accepting, spelled_one}
use Rattle.word_automata.specs.Automaton.{Automaton, accepts_from, find_target, target}
use Rattle.word_automata.proofs.ForCallers.{edges_of-past, is_accepting-past, Contains-here}
use Rattle.transducers.specs.declared.Label.{Label}
use Rattle.transducers.specs.Transducer.{Transducer}
use Rattle.transducers.proofs.ForCallers.{Contains-single}
use Rattle.exploration.proofs.ForCallers.{slice_get-append, slice_get-push, slice_get-push_cases}
use Rattle.image_preimage.specs.declared.triples.Triple.{Triple}
use Rattle.image_preimage.specs.Images.{HasImageOutside}
use Rattle.image_preimage.specs.Pairs.{advance}
use Rattle.image_preimage.specs.private.Triples.{or_no_state, triple_of, is_goal, LeadsOut, AreReached, Grows, IsFound, IsFollowed, Finds, Follows}
use Rattle.image_preimage.proofs.GraphLemmas.{accepts-advance, follows_letter, stops_at}

module _ (b : Automaton) where
  -- from no state no word is accepted
  refuses_past : (w : List ℕ) → accepts_from b (length b.states) w ≡ false
  refuses_past [] = is_accepting-past b.states (length b.states) (omega arith)
  refuses_past (x ∷ w) = stops_at b x w (length b.states) (ap (λ edges. find_target edges x) (edges_of-past b.states (length b.states) (omega arith)))

  behind_letter : (r x : ℕ) (w : List ℕ) (found : Option ℕ) → target b r x ≡ found
      → accepts_from b r (x ∷ w) ≡ accepts_from b (or_no_state b found) w
  behind_letter r x w None e = stops_at b x w r e ∙ sym (refuses_past w)
  behind_letter r x w (Some to) e = follows_letter b x w r to e

  -- what is accepted behind an optional letter
  pub accepts_behind : (r : ℕ) (letter : Option ℕ) (w : List ℕ)
      → accepts_from b r (spelled_one letter ++ w) ≡ accepts_from b (or_no_state b (advance b r letter)) w
  accepts_behind r None w = refl
  accepts_behind r (Some x) w = behind_letter r x w (target b r x) refl

negated : (flag : Bool) → not flag ≡ true → flag ≡ false
negated true e = cc
negated false e = refl

module _ (t : Transducer) (a b : Automaton) where
  -- a goal leads out
  pub leads_out_here : (triple : Triple) → is_goal t a b triple ≡ true → LeadsOut t a b triple
  leads_out_here triple goal =
      let both = is_accepting t.states triple.left && is_accepting a.states triple.middle in
      let first = and_parts both (not (is_accepting b.states triple.right)) goal in
      let second = and_parts (is_accepting t.states triple.left) (is_accepting a.states triple.middle) first.0 in
      record {
        word = [];
        image = [];
        run = record { moves = []; last = triple.left; path = refl; accepts = second.0; reads = refl; writes = refl };
        accepted = second.1;
        refused = negated (is_accepting b.states triple.right) first.1;
      }

  -- what an edge leads to leads out only where its source does
  pub leads_out_behind : (triple : Triple) (edge : Label × ℕ) (to : ℕ) → Contains (edges_of t.states triple.left) edge
      → advance a triple.middle edge.0.read ≡ Some to
      → LeadsOut t a b (triple_of edge.1 to (or_no_state b (advance b triple.right edge.0.write))) → LeadsOut t a b triple
  leads_out_behind triple edge to is_edge advances out = record {
    word = spelled_one edge.0.read ++ out.word;
    image = spelled_one edge.0.write ++ out.image;
    run = record {
      moves = edge ∷ out.run.moves;
      last = out.run.last;
      path = (is_edge, out.run.path);
      accepts = out.run.accepts;
      reads = ap (λ v. spelled_one edge.0.read ++ v) out.run.reads;
      writes = ap (λ v. spelled_one edge.0.write ++ v) out.run.writes;
    };
    accepted = accepts-advance a triple.middle to edge.0.read out.word advances out.accepted;
    refused = accepts_behind b triple.right edge.0.write out.image ∙ out.refused;
  }

  -- a start leads out only where some word of the image is refused
  pub start_leads_out : (p : ℕ) → Contains t.starts p → LeadsOut t a b (triple_of p 0 0) → HasImageOutside t a b
  start_leads_out p is_start out = (out.image, (out.word, out.accepted, record { start = p; is_start = is_start; run = out.run }), out.refused)

  -- a triple that was there
  pub finds_old : (found : List Triple) (triple : Triple) (i : ℕ) → AreReached t a b found → slice_get found i ≡ Some triple
      → Finds t a b found found triple
  finds_old found triple i reached at = record { reached = reached; grows = λ j x h. h; is_found = (i, at) }

  -- a triple that is pushed
  pub finds_new : (found new : List Triple) (triple : Triple) → AreReached t a b found → (LeadsOut t a b triple → HasImageOutside t a b)
      → new ≡ found ++ triple ∷ [] → Finds t a b found new triple
  finds_new found new triple reached out pushed = subst (λ new. Finds t a b found new triple) (sym pushed) (record {
    reached = λ i x at. elim (slice_get-push_cases found triple x i at) [
      | inl earlier ↦ reached i x earlier
      | inr last ↦ subst (λ x. LeadsOut t a b x → HasImageOutside t a b) last.1 out
    ];
    grows = λ i x at. slice_get-append found (triple ∷ []) i x at;
    is_found = (length found, slice_get-push found triple);
  })

  Grows-found : (old new : List Triple) (triple : Triple) → Grows old new → IsFound old triple → IsFound new triple
  Grows-found old new triple grows (i, at) = (i, grows i triple at)

  pub IsFollowed-grows : (old new : List Triple) (triple : Triple) (edge : Label × ℕ) → Grows old new → IsFollowed a b old triple edge
      → IsFollowed a b new triple edge
  IsFollowed-grows old new triple edge grows followed to e =
      Grows-found old new (triple_of edge.1 to (or_no_state b (advance b triple.right edge.0.write))) grows (followed to e)

  -- more edges
  pub Follows-more : {old mid new : List Triple} {triple : Triple} {edges : List (Label × ℕ)} {edge : Label × ℕ} → Follows t a b old mid triple edges
      → Follows t a b mid new triple (edge ∷ []) → Follows t a b old new triple (edges ++ edge ∷ [])
  Follows-more {mid = mid} {new = new} {triple = triple} {edges = edges} {edge = edge} so more = record {
    reached = more.reached;
    grows = λ i x at. more.grows i x (so.grows i x at);
    followed = λ e h. elim (Contains-push_cases edges edge e h) [
      | inl earlier ↦ IsFollowed-grows mid new triple e more.grows (so.followed e earlier)
      | inr is ↦ subst (IsFollowed a b new triple) is (more.followed edge (Contains-here [] edge))
    ];
  }

  -- an edge that leads nowhere
  pub Follows-nowhere : (found : List Triple) (triple : Triple) (edge : Label × ℕ) → AreReached t a b found → advance a triple.middle edge.0.read ≡ None
      → Follows t a b found found triple (edge ∷ [])
  Follows-nowhere found triple edge reached nowhere = record {
    reached = reached;
    grows = λ i x at. at;
    followed = λ e h. subst (IsFollowed a b found triple) (Contains-single edge e h) (λ to e. let x = sym nowhere ∙ e in cc);
  }
