-- What a walk over triples tells of the image.
use Rattle.std.proofs.Common.{◌≡◌, ◌<◌, ◌≤◌, ◌+◌, ◌-◌, ◌*◌, ◌&&◌, ◌⊎◌, ℕ, zero, suc, Bool, true, false, not, List, [], ◌∷◌, ◌++◌, Option, None, Some, IsSome, length, refl, sym, ap}
use Rattle.std.proofs.Common.{subst, ◌∙◌, inl, inr, arith, slice_get, Contains, IsTrue, true≢false, length-append, option_to_list}
use Rattle.std.proofs.lemmas.Bool.{cases_lt}
use Rattle.std.proofs.lemmas.List.{nil_from_length}
use Rattle.std.proofs.lemmas.List.Elements.{Contains-append_left, Contains-push, Contains-push_cases}
use Rattle.std.proofs.lemmas.Option.{slice_get_within, same_Some}
use Rattle.word_automata.specs.Path.{is_accepting, IsPath, spelled}
use Rattle.word_automata.specs.Automaton.{Automaton, accepts_from}
use Rattle.word_automata.proofs.ForCallers.{Contains-none}
use Rattle.transducers.specs.declared.Label.{Label}
use Rattle.transducers.specs.Transducer.{Transducer, RelatesFrom, read_of, write_of}
use Rattle.exploration.proofs.ForCallers.{slice_get-some}
use Rattle.image_preimage.specs.declared.triples.Triple.{Triple}
use Rattle.image_preimage.specs.Images.{HasImageOutside, IsImageIncluded}
use Rattle.image_preimage.specs.Pairs.{advance}
use Rattle.image_preimage.specs.private.CopyingStates.{AreIdentities}
use Rattle.image_preimage.specs.private.Triples.{or_no_state, triple_of, is_goal, IsSkipped, IsPassed, IsDone, IsFound, AreReached, AddsPlaces, Grows, Visits, Walks}
use Rattle.image_preimage.proofs.GraphLemmas.{advance-accepts}
use Rattle.image_preimage.proofs.TripleLemmas.{accepts_behind, IsFollowed-grows}

-- what is no goal is accepted, where a word is read and written
inside_here : (left read written : Bool) → ((left && read) && not written) ≡ false → left ≡ true → read ≡ true → written ≡ true
inside_here true true true none p q = refl
inside_here true true false none p q = cc
inside_here true false written none p q = cc
inside_here false read written none p q = cc

-- a list that grows gets no shorter
pub Grows-longer : (old new : List Triple) → Grows old new → length old ≤ length new
Grows-longer [] new grows = omega arith
Grows-longer (x ∷ old) new grows =
    let last = slice_get-some (x ∷ old) (length old) (omega arith) in
    omega (arith, slice_get_within new (length old) last.0 (grows (length old) last.0 last.1))

IsPassed-grows : (t : Transducer) (a b : Automaton) (copying : List Bool) (old new : List Triple) (triple : Triple) → Grows old new
    → IsPassed t a b copying old triple → IsPassed t a b copying new triple
IsPassed-grows t a b copying old new triple grows (inl skips) = inl skips
IsPassed-grows t a b copying old new triple grows (inr followed) = inr (λ edge there. IsFollowed-grows t a b old new triple edge grows (followed edge there))

module _ {t : Transducer} {a b : Automaton} {copying : List Bool} where
  -- before the walk
  pub Walks-begun : {found : List Triple} {pending : List ℕ} → AreReached t a b found → ((p : ℕ) → Contains t.starts p → IsFound found (triple_of p 0 0))
      → AddsPlaces [] pending 0 (length found) → Walks t a b copying found pending
  Walks-begun {found = found} reached starts adds = record {
    reached = reached;
    starts = starts;
    there = λ i h. elim (adds.only i h) [ inl none ↦ absurd (Contains-none i none) | inr below ↦ below ];
    done = λ i triple at. inl (adds.added i (omega arith) (slice_get_within found i triple at));
  }

  -- one triple more
  pub Walks-more : {old new : List Triple} {before rest pending : List ℕ} (place : ℕ) (triple : Triple) → Walks t a b copying old before
      → before ≡ rest ++ place ∷ [] → slice_get old place ≡ Some triple → is_goal t a b triple ≡ false → Visits t a b copying old new triple
      → AddsPlaces rest pending (length old) (length new) → Walks t a b copying new pending
  Walks-more {old = old} {new = new} {rest = rest} {pending = pending} place triple so popped at none more adds = record {
    reached = more.reached;
    starts = λ p is. let found = so.starts p is in (found.0, more.grows found.0 (triple_of p 0 0) found.1);
    there = λ i h. elim (adds.only i h) [
      | inl was ↦ omega (arith, Grows-longer old new more.grows, so.there i (subst (λ l. Contains l i) (sym popped) (Contains-append_left rest (place ∷ []) i was)))
      | inr below ↦ below
    ];
    done = λ i x there. elim (cases_lt i (length old)) [
      | inl below ↦ earlier i x there below
      | inr past ↦ inl (adds.added i past (slice_get_within new i x there))
    ];
  }
    where
      earlier : (i : ℕ) (x : Triple) → slice_get new i ≡ Some x → i < length old → Contains pending i ⊎ IsDone t a b copying new x
      earlier i x there below =
          let was = slice_get-some old i below in
          let same : was.0 ≡ x = same_Some was.0 x (sym (more.grows i was.0 was.1) ∙ there) in
          elim (so.done i x (was.1 ∙ ap Some same)) [
            | inl waits ↦ elim (Contains-push_cases rest place i (subst (λ l. Contains l i) popped waits)) [
              | inl other ↦ inl (adds.kept i other)
              | inr is ↦ (let here : triple ≡ x = same_Some triple x (sym (more.grows place triple at) ∙ subst (λ k. slice_get new k ≡ Some x) (sym is) there) in
                  inr (subst (IsDone t a b copying new) here (none, more.is_passed)))
            ]
            | inr is_done ↦ inr (is_done.0, IsPassed-grows t a b copying old new x more.grows is_done.1)
          ]

  -- what is popped is the place of a triple that was found
  pub popped_place : {found : List Triple} {pending : List ℕ} (rest : List ℕ) {o : Option ℕ} {place : ℕ} → Walks t a b copying found pending
      → pending ≡ rest ++ option_to_list o → o ≡ Some place → (pending ≡ rest ++ place ∷ []) × (place < length found)
  popped_place {pending = pending} rest {place = place} so items is =
      let popped : pending ≡ rest ++ place ∷ [] = items ∙ ap (λ o. rest ++ option_to_list o) is in
      (popped, so.there place (subst (λ l. Contains l place) (sym popped) (Contains-push rest place)))

  module _ {found : List Triple} {pending : List ℕ} (so : Walks t a b copying found pending) (all : pending ≡ []) (skip : AreIdentities t copying) where
    all_done : (i : ℕ) (triple : Triple) → slice_get found i ≡ Some triple → IsDone t a b copying found triple
    all_done i triple at = elim (so.done i triple at) [
      | inl waits ↦ absurd (Contains-none i (subst (λ l. Contains l i) all waits))
      | inr is_done ↦ is_done
    ]

    -- from a triple that is skipped
    skipped_inside : (moves : List (Label × ℕ)) (last : ℕ) (triple : Triple) → IsSkipped a b copying triple → IsPath t.states triple.left moves last
        → IsTrue (is_accepting t.states last) → IsTrue (accepts_from a triple.middle (spelled read_of moves))
        → IsTrue (accepts_from b triple.right (spelled write_of moves))
    skipped_inside moves last triple skips path accepts accepted =
        let copies = skip triple.left skips.2 in
        let run : RelatesFrom t triple.left (spelled read_of moves) (spelled write_of moves) = record { moves = moves; last = last; path = path; accepts = accepts; reads = refl; writes = refl } in
        subst (λ w. IsTrue (accepts_from b triple.right w)) (copies (spelled read_of moves) (spelled write_of moves) run)
        (subst (λ q. IsTrue (accepts_from b q (spelled read_of moves))) skips.1
        (subst (λ m. IsTrue (accepts_from m triple.middle (spelled read_of moves))) skips.0 accepted))

    -- from any triple that was found
    stays_inside : (moves : List (Label × ℕ)) (last i : ℕ) (triple : Triple) → slice_get found i ≡ Some triple
        → IsPath t.states triple.left moves last → IsTrue (is_accepting t.states last)
        → IsTrue (accepts_from a triple.middle (spelled read_of moves)) → IsTrue (accepts_from b triple.right (spelled write_of moves))
    stays_inside [] last i triple at path accepts accepted =
        inside_here (is_accepting t.states triple.left) (is_accepting a.states triple.middle) (is_accepting b.states triple.right)
        (all_done i triple at).0 (subst (λ p. IsTrue (is_accepting t.states p)) (sym path) accepts) accepted
    stays_inside (edge ∷ moves) last i triple at path accepts accepted = elim (all_done i triple at).1 [
      | inl skips ↦ skipped_inside (edge ∷ moves) last triple skips path accepts accepted
      | inr followed ↦ (let to = advance-accepts a triple.middle edge.0.read (spelled read_of moves) accepted in
          let after = followed edge path.0 to.0 to.1 in
          let right = or_no_state b (advance b triple.right edge.0.write) in
          accepts_behind b triple.right edge.0.write (spelled write_of moves)
          ∙ stays_inside moves last after.0 (triple_of edge.1 to.0 right) after.1 path.1 accepts to.2)
    ]

    pub walk_inside : IsImageIncluded t a b
    walk_inside w (u, accepted, r) =
        let start = so.starts r.start r.is_start in
        subst (λ v. IsTrue (accepts_from b 0 v)) r.run.writes
        (stays_inside r.run.moves r.run.last start.0 (triple_of r.start 0 0) start.1 r.run.path r.run.accepts
        (subst (λ v. IsTrue (accepts_from a 0 v)) (sym r.run.reads) accepted))

-- a word outside refutes the inclusion
pub outside_refutes : (t : Transducer) (a b : Automaton) → HasImageOutside t a b → IsImageIncluded t a b → ⊥
outside_refutes t a b (w, image, refused) included = true≢false (sym (included w image) ∙ refused)

-- a fact of a transducer and two automata, for others that are the same
pub carried : {t u : Transducer} {a c b d : Automaton} (fact : Transducer → Automaton → Automaton → Type 0) → t ≡ u → a ≡ c → b ≡ d
    → fact t a b → fact u c d
carried {t = t} {a = a} {c = c} {d = d} fact transducers first second is =
    subst (λ x. fact x c d) transducers (subst (λ x. fact t x d) first (subst (λ x. fact t a x) second is))

pub AddsPlaces-more : (old pending new : List ℕ) (from place : ℕ) → from ≤ place → AddsPlaces old pending from place → new ≡ pending ++ place ∷ []
    → AddsPlaces old new from (place + 1)
AddsPlaces-more old pending new from place above so pushed = subst (λ l. AddsPlaces old l from (place + 1)) (sym pushed) (record {
  kept = λ i h. Contains-append_left pending (place ∷ []) i (so.kept i h);
  added = λ i from below. elim (cases_lt i place) [
    | inl earlier ↦ Contains-append_left pending (place ∷ []) i (so.added i from earlier)
    | inr last ↦ subst (Contains (pending ++ place ∷ [])) (let e : place ≡ i = omega arith in e) (Contains-push pending place)
  ];
  only = λ i h. elim (Contains-push_cases pending place i h) [
    | inl earlier ↦ elim (so.only i earlier) [ inl was ↦ inl was | inr below ↦ inr (omega arith) ]
    | inr is ↦ inr (omega arith)
  ];
  count = omega (arith, length-append pending (place ∷ []), so.count);
})

-- a walk goes on: fewer places are left for triples, or fewer triples are pending
pub smaller : (old new waiting rest pending limit : ℕ) → waiting ≡ rest + 1 → old ≤ new → new ≤ limit → pending ≡ rest + (new - old)
    → 2 * (limit - new) + pending < 2 * (limit - old) + waiting
smaller old new waiting rest pending limit popped grows small adds = omega arith

-- nothing was popped
pub popped_none : (old rest : List ℕ) (o : Option ℕ) (n : ℕ) → (IsSome o → 0 < n) × (0 < n → IsSome o) → n ≡ length old → ((x : ℕ) → o ≡ Some x → ⊥) → old ≡ []
popped_none old rest None zero variant len none = nil_from_length old (sym len)
popped_none old rest None (suc n) variant len none = absurd (true≢false (sym (variant.1 (omega arith))))
popped_none old rest (Some x) n variant len none = absurd (none x refl)
