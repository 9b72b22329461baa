-- Lemmas on the numbering of control states and on the states made of them.
use Rattle.std.proofs.Common.{◌≡◌, ℕ, ◌+◌, ◌<◌, ◌≤◌, Bool, true, false, List, [], ◌∷◌, ◌++◌, length, slice_get, slice_index}
use Rattle.std.proofs.Common.{Some, None, Contains, refl, sym, ap, ◌∙◌, subst, inl, inr, arith, IsTrue, length-append}
use Rattle.std.proofs.Common.{if◌then◌else◌}
use mathlib.Core.Bool.{beq}
use Rattle.std.specs.List.{list_any}
use Rattle.std.proofs.lemmas.Bool.{cases_lt}
use Rattle.std.proofs.lemmas.Option.{same_Some, slice_get_within, none-some}
use Rattle.std.proofs.lemmas.List.Elements.{Contains-push_cases, Contains-append_left, Contains-push}
use Rattle.indexmap.specs.IndexSet.{insert_key}
use Rattle.word_automata.specs.Path.{Node}
use Rattle.transducers.specs.declared.Label.{Label}
use Rattle.transducers.specs.Combination.{exchange}
use Rattle.sequence.proofs.ForCallers.{slice_get-append_left, slice_get-push_last}
use Rattle.transducers.proofs.ForCallers.{slice_get-within}
use Rattle.array_moves.specs.declared.guard_table.ControlState.{ControlState}
use Rattle.array_moves.specs.declared.guard_table.GuardTable.{GuardTable}
use Rattle.array_moves.specs.private.ControlStates.{first_control, after_letter, after_move, can_end, is_final, Numbers, IsLetterEdge, IsMoveEdge}
use Rattle.array_moves.specs.private.ControlStates.{LetterEdges, ControlEdges, IsStateOf, AreStates, HasFirst, IsMachine}

-- the test whether two truth values are equal
pub beq_decides : (x y : Bool) → (beq x y ≡ true → x ≡ y) × (x ≡ y → beq x y ≡ true)
beq_decides true true = (λ _. refl, λ _. refl)
beq_decides true false = (λ e. sym e, λ e. sym e)
beq_decides false true = (λ e. e, λ e. e)
beq_decides false false = (λ _. refl, λ _. refl)

-- what an insert of a control state leaves, and its number
pub Numbers-insert_key : (eq : ControlState → ControlState → Bool) → ((x y : ControlState) → eq x y ≡ true → x ≡ y) → (old : List ControlState) (p q : ControlState) (j : ℕ)
    → slice_get (insert_key eq old p) j ≡ Some q → eq p q ≡ true → Numbers old (insert_key eq old p) p j
Numbers-insert_key eq same old p q j at is = record { stays = stays (list_any (eq p) old) refl; numbered = at ∙ ap Some (sym (same p q is)) }
  where
    stays : (b : Bool) → list_any (eq p) old ≡ b → (k : ℕ) (r : ControlState) → slice_get old k ≡ Some r → slice_get (insert_key eq old p) k ≡ Some r
    stays true e k r h = subst (λ l. slice_get l k ≡ Some r) (sym (ap (λ c. if c then old else old ++ p ∷ []) e)) h
    stays false e k r h =
        subst (λ l. slice_get l k ≡ Some r) (sym (ap (λ c. if c then old else old ++ p ∷ []) e)) (slice_get-append_left old (p ∷ []) k r h)

module _ (guard_table : GuardTable) (offset : ℕ) (p : ControlState) where
  -- edges stay so where control states are added
  IsLetterEdge-grows : (count : ℕ) (old new : List ControlState) (edge : Label × ℕ)
      → ((k : ℕ) (q : ControlState) → slice_get old k ≡ Some q → slice_get new k ≡ Some q) → IsLetterEdge guard_table offset count old p edge
      → IsLetterEdge guard_table offset count new p edge
  IsLetterEdge-grows count old new edge stays e = record {
    x = e.x;
    in_range = e.in_range;
    q = e.q;
    after = e.after;
    number = stays edge.1 e.q e.number;
    label = e.label;
  }

  module _ (count : ℕ) (old mid : List ControlState) (edges : List (Label × ℕ)) (so : LetterEdges guard_table offset count p old mid edges) where
    -- the next letter is not allowed
    pub LetterEdges-forbidden : after_letter guard_table p count ≡ None → LetterEdges guard_table offset (count + 1) p old mid edges
    LetterEdges-forbidden none =
        record {
          stays = so.stays;
          only = λ edge h. let e = so.only edge h in record {
            x = e.x;
            in_range = omega (arith, e.in_range);
            q = e.q;
            after = e.after;
            number = e.number;
            label = e.label;
          };
          all = λ x q h after. elim (cases_lt x count) [
            | inl lt ↦ so.all x q lt after
            | inr ge ↦ (let is : x ≡ count = omega arith in absurd
                (none-some q (sym none ∙ ap (λ y. after_letter guard_table p y) (sym is) ∙ after)))
          ];
        }

    -- the next letter is allowed, and the control state after it is numbered
    pub LetterEdges-allowed : (new : List ControlState) (q : ControlState) (j image : ℕ) → after_letter guard_table p count ≡ Some q → Numbers mid new q j
        → image ≡ slice_index guard_table.images.items count
        → LetterEdges guard_table offset (count + 1) p old new (edges ++ (exchange (count + offset) (image + offset), j) ∷ [])
    LetterEdges-allowed new q j image after numbers is_image =
        let last : Label × ℕ = (exchange (count + offset) (image + offset), j) in
        record {
          stays = λ k r h. numbers.stays k r (so.stays k r h);
          only = λ edge h. elim (Contains-push_cases edges last edge h) [
            | inl before ↦ (let e = so.only edge before in record {
              x = e.x;
              in_range = omega (arith, e.in_range);
              q = e.q;
              after = e.after;
              number = numbers.stays edge.1 e.q e.number;
              label = e.label;
            })
            | inr is ↦ subst (IsLetterEdge guard_table offset (count + 1) new p) is
                (record {
                  x = count;
                  in_range = omega arith;
                  q = q;
                  after = after;
                  number = numbers.numbered;
                  label = ap (λ y. exchange (count + offset) (y + offset)) is_image;
                })
          ];
          all = λ x r h after_x. elim (cases_lt x count) [
            | inl lt ↦ (let found = so.all x r lt after_x in
                (found.0, numbers.stays found.0 r found.1, Contains-append_left edges (last ∷ []) _ found.2))
            | inr ge ↦ (let is : count ≡ x = omega arith in
                let same : q ≡ r = same_Some _ _ (sym after ∙ ap (λ y. after_letter guard_table p y) is ∙ after_x) in
                let label : last ≡ (exchange (x + offset) (slice_index guard_table.images.items x + offset), j) =
                (λ i. (exchange (is i + offset) ((is_image ∙ ap (λ y. slice_index guard_table.images.items y) is) i + offset), j)) in
                (j, numbers.numbered ∙ ap Some same, subst (Contains (edges ++ last ∷ [])) label (Contains-push edges last)))
          ];
        }

    -- the control state has no move
    pub ControlEdges-still : after_move guard_table p ≡ None → ControlEdges guard_table offset count p old mid edges
    ControlEdges-still none =
        record {
          stays = so.stays;
          only = λ edge h. inl (so.only edge h);
          letters = so.all;
          move = λ q h. absurd (none-some q (sym none ∙ h));
        }

    -- the control state has a move, and the control state after it is numbered
    pub ControlEdges-moving : (new : List ControlState) (q : ControlState) (j : ℕ) → after_move guard_table p ≡ Some q → Numbers mid new q j
        → ControlEdges guard_table offset count p old new (edges ++ (exchange (guard_table.from + offset) (guard_table.into + offset), j) ∷ [])
    ControlEdges-moving new q j after numbers =
        let last : Label × ℕ = (exchange (guard_table.from + offset) (guard_table.into + offset), j) in
        record {
          stays = λ k r h. numbers.stays k r (so.stays k r h);
          only = λ edge h. elim (Contains-push_cases edges last edge h) [
            | inl before ↦ inl (IsLetterEdge-grows count mid new edge numbers.stays (so.only edge before))
            | inr is ↦ inr (subst (IsMoveEdge guard_table offset new p) is
                (record { q = q; after = after; number = numbers.numbered; label = refl }))
          ];
          letters = λ x r h after_x. let found = so.all x r h after_x in
              (found.0, numbers.stays found.0 r found.1, Contains-append_left edges (last ∷ []) _ found.2);
          move = λ r h. (j, numbers.numbered ∙ ap Some (same_Some _ _ (sym after ∙ h)), Contains-push edges last);
        }

module _ (guard_table : GuardTable) (offset count : ℕ) where
  -- the state of a control state stays so where control states are added
  IsStateOf-grows : (old new : List ControlState) (p : ControlState) (node : Node Label)
      → ((k : ℕ) (q : ControlState) → slice_get old k ≡ Some q → slice_get new k ≡ Some q) → IsStateOf guard_table offset count old p node
      → IsStateOf guard_table offset count new p node
  IsStateOf-grows old new p node stays so =
      record {
        accepts = so.accepts;
        only = λ edge h. elim (so.only edge h) [
          | inl letter ↦ inl (IsLetterEdge-grows guard_table offset p count old new edge stays letter)
          | inr move ↦ inr (record { q = move.q; after = move.after; number = stays edge.1 move.q move.number; label = move.label })
        ];
        letters = λ x q h after. let found = so.letters x q h after in (found.0, stays found.0 q found.1, found.2);
        move = λ q after. let found = so.move q after in (found.0, stays found.0 q found.1, found.2);
      }

  -- no state yet
  pub AreStates-none : (controls : List ControlState) → AreStates guard_table offset count controls []
  AreStates-none controls = record { within = omega arith; each = λ k p node h none. absurd (none-some node none) }

  -- one state more
  pub AreStates-more : (old new : List ControlState) (states : List (Node Label)) (p : ControlState) (node : Node Label)
      → AreStates guard_table offset count old states → slice_get old (length states) ≡ Some p
      → node.accepting ≡ is_final guard_table p → ControlEdges guard_table offset count p old new node.edges
      → AreStates guard_table offset count new (states ++ node ∷ [])
  AreStates-more old new states p node so at accepts edges =
      record {
        within = omega (arith, longer, slice_get_within new (length states) p (edges.stays (length states) p at));
        each = λ k q other h there. elim (cases_lt k (length states))
            [ inl lt ↦ earlier_state k q other lt h there | inr ge ↦ last_state k q other ge h there ];
      }
    where
      longer : length (states ++ node ∷ []) ≡ length states + 1
      longer = length-append states (node ∷ [])

      old_within : length states < length old
      old_within = slice_get_within old (length states) p at

      earlier_state : (k : ℕ) (q : ControlState) (other : Node Label) → k < length states → slice_get new k ≡ Some q
          → slice_get (states ++ node ∷ []) k ≡ Some other → IsStateOf guard_table offset count new q other
      earlier_state k q other lt h there =
          let state = slice_get-within states k lt in
          let control = slice_get-within old k (omega (arith, lt, old_within)) in
          let same_state : state.0 ≡ other = same_Some _ _ (sym (slice_get-append_left states (node ∷ []) k state.0 state.1) ∙ there) in
          let same_control : control.0 ≡ q = same_Some _ _ (sym (edges.stays k control.0 control.1) ∙ h) in
          subst (λ r. IsStateOf guard_table offset count new r other) same_control
          (subst (IsStateOf guard_table offset count new control.0) same_state
          (IsStateOf-grows old new control.0 state.0 edges.stays (so.each k control.0 state.0 control.1 state.1)))

      last_state : (k : ℕ) (q : ControlState) (other : Node Label) → length states ≤ k → slice_get new k ≡ Some q
          → slice_get (states ++ node ∷ []) k ≡ Some other → IsStateOf guard_table offset count new q other
      last_state k q other ge h there =
          let is : length states ≡ k = omega (arith, slice_get_within (states ++ node ∷ []) k other there, longer) in
          let same_state : node ≡ other = same_Some _ _ (sym (slice_get-push_last states node)
          ∙ ap (λ n. slice_get (states ++ node ∷ []) n) is ∙ there) in
          let same_control : p ≡ q = same_Some _ _ (sym (edges.stays (length states) p at) ∙ ap (λ n. slice_get new n) is ∙ h) in
          let made : IsStateOf guard_table offset count new p node = record {
            accepts = accepts;
            only = edges.only;
            letters = edges.letters;
            move = edges.move;
          } in
          subst (λ r. IsStateOf guard_table offset count new r other) same_control (subst (IsStateOf guard_table offset count new p) same_state made)

-- the states made so far, with the first control state as number 0 where the guards can be met
pub record IsGrowing (guard_table : GuardTable) (offset count : ℕ) (controls : List ControlState) (states : List (Node Label)) : Type 0 where
  pub are_states : AreStates guard_table offset count controls states
  pub first : IsTrue (can_end guard_table first_control) → slice_get controls 0 ≡ Some first_control
  pub none : can_end guard_table first_control ≡ false → controls ≡ []

module _ (guard_table : GuardTable) (offset count : ℕ) where
  pub IsGrowing-start : (controls : List ControlState) → HasFirst guard_table controls → IsGrowing guard_table offset count controls []
  IsGrowing-start controls first =
      record {
        are_states = AreStates-none guard_table offset count controls;
        first = λ h. ap (λ l. slice_get l 0) (first.first h);
        none = first.none;
      }

  pub IsGrowing-more : (old new : List ControlState) (states : List (Node Label)) (p : ControlState) (node : Node Label)
      → IsGrowing guard_table offset count old states → slice_get old (length states) ≡ Some p
      → node.accepting ≡ is_final guard_table p → ControlEdges guard_table offset count p old new node.edges
      → IsGrowing guard_table offset count new (states ++ node ∷ [])
  IsGrowing-more old new states p node so at accepts edges =
      record {
        are_states = AreStates-more guard_table offset count old new states p node so.are_states at accepts edges;
        first = λ h. edges.stays 0 first_control (so.first h);
        none = λ h. absurd (none-some p (ap (λ l. slice_get l (length states)) (sym (so.none h)) ∙ at));
      }

  pub IsMachine-end : (controls : List ControlState) (states : List (Node Label)) → IsGrowing guard_table offset count controls states
      → length controls ≤ length states → IsMachine guard_table offset count controls states
  IsMachine-end controls states so all = record {
    are_states = so.are_states;
    same_length = omega (arith, so.are_states.within);
    first = so.first;
    none = so.none;
  }
