-- Lemmas on the machine of an `at` move: it leads from one list to another exactly as the move does.
use Rattle.std.proofs.Common.{◌≡◌, ℕ, zero, suc, ◌+◌, ◌^◌, ◌<◌, ◌≤◌, Bool, true, false, List, [], ◌∷◌, ◌++◌, map, length, slice_get}
use Rattle.std.proofs.Common.{slice_index, get_or, Option, Some, None, Contains, All, refl, sym, ap, ◌∙◌, subst, inl, inr, arith, true≢false, ◌↔◌, ◌||◌, if◌then◌else◌}
use Rattle.std.proofs.lemmas.Option.{same_Some, none-some, slice_get_within, slice_get-get_or, get_or_from_slice_get}
use Rattle.std.proofs.lemmas.Bool.{or_left, or_right}
use Rattle.std.proofs.lemmas.List.Elements.{All-from_recursion}
use Rattle.std.specs.List.{range_with_len}
use Rattle.std.proofs.lemmas.List.{length-map}
use Rattle.std.proofs.lemmas.List.FromFn.{length-range_with_len}
use Rattle.word_automata.specs.Path.{Node, edges_of, is_accepting}
use Rattle.transducers.specs.declared.Label.{Label}
use Rattle.transducers.specs.Transducer.{IsValid, Relates}
use Rattle.transducers.specs.Combination.{exchange}
use Rattle.transducers.proofs.ForCallers.{slice_get-within, slice_get-map_cases, Contains-from_place, edges_of-at, is_accepting-at}
use Rattle.transducers.proofs.ForCallers.{slice_get-map_image, nothing_in_nil}
use Rattle.protocol_syntax.specs.declared.protocol.Move.TheVariants.{At}
use Rattle.protocol_model.specs.System.{Guard, AllBelow, IsValidMove}
use Rattle.protocol_model.specs.Moves.{table_value, IsAtMove}
use Rattle.array_moves.specs.declared.guard_table.ControlState.{ControlState}
use Rattle.array_moves.specs.declared.guard_table.GuardTable.{GuardTable}
use Rattle.protocol_model.specs.Raised.{IsRaisedMove}
use Rattle.protocol_model.proofs.ForCallers.{AllBelow-left, AllBelow-right}
use Rattle.array_moves.specs.private.Flags.{flag, no_flags, union_of, covers, effect_of}
use Rattle.array_moves.specs.private.ControlStates.{IsGuardTable, first_control, listed, with_effect, after_letter, can_end, after_move, HasRoom, starts_of}
use Rattle.array_moves.specs.private.ControlStates.{IsControlEdge, IsStateOf, IsMachine}
use Rattle.array_moves.proofs.LetterLemmas.{same_exchange, Changes, ExchangesLetters, HasLetters, Relates-raised, edges_valid}
use Rattle.array_moves.proofs.GuardLemmas.{flag-four, flag-none, flag_from_covers, covers_from_flags}
use Rattle.array_moves.proofs.RunLemmas.{slice_get-range, ReadsLetters, reach-ReadsLetters, guarded_from_ReadsLetters, ReadsLetters_from_guarded}
use Rattle.array_moves.proofs.RunLemmas.{table_value_in_range, listed-map}

-- a property of all elements, from one of the elements at each place, or of each element
pub All-from_places : {X : Type 0} (P : X → Type 0) (xs : List X) → ((k : ℕ) (x : X) → slice_get xs k ≡ Some x → P x) → All P xs
All-from_places P xs each k d h = each k (get_or xs k d) (slice_get-get_or xs k d h)

-- raised letters fit
pub has_room : (f t : ℕ) (guards : List Guard) (table : List (ℕ × ℕ)) (offset count : ℕ) (guard_table : GuardTable)
    → IsGuardTable f t guards table count guard_table → IsValidMove count (At f t guards table) → offset + count < 2 ^ 32 → HasRoom offset count guard_table
has_room f t guards table offset count guard_table is_guard_table valid fits =
    let images : List ℕ = map (table_value table) (range_with_len 0 count) in
    let each : All (λ y. y + offset < 2 ^ 32) images =
    All-from_places (λ y. y + offset < 2 ^ 32) images (λ k y at.
    let from = slice_get-map_cases (table_value table) (range_with_len 0 count) k y at in
    let within : k < count = omega (arith, slice_get_within (range_with_len 0 count) k from.0 from.1, length-range_with_len 0 count) in
    let x_is : k ≡ from.0 = same_Some _ _ (sym (slice_get-range count k within) ∙ from.1) in
    let value : table_value table k < count = table_value_in_range count table k valid.table_in_range within in
    let y_is : table_value table k ≡ y = ap (table_value table) x_is ∙ from.2 in
    omega (arith, value, y_is, fits)) in
    record {
      each_image = ap length is_guard_table.images_are ∙ length-map (range_with_len 0 count) (table_value table) ∙ length-range_with_len 0 count;
      image_fits = subst (All (λ y. y + offset < 2 ^ 32)) (sym is_guard_table.images_are) each;
      from_fits = omega (arith, is_guard_table.from_is, valid.in_range.0, fits);
      into_fits = omega (arith, is_guard_table.into_is, valid.in_range.1.0, fits);
      letters_fit = omega (arith, fits);
    }

-- what is read of two lists before the move, and behind it
record Crosses (f t : ℕ) (guards : List Guard) (table : List (ℕ × ℕ)) (count : ℕ) (guard_table : GuardTable) (met : List Bool) (old new : List ℕ) : Type
    0 where
  before : List ℕ
  after : List ℕ
  middle : List Bool
  last : List Bool
  was : old ≡ before ++ f ∷ after
  becomes : new ≡ map (table_value table) before ++ t ∷ map (table_value table) after
  first : ReadsLetters guards count false met before middle
  second : ReadsLetters guards count true middle after last
  covered : covers last guard_table.required ≡ true

module _ (f t : ℕ) (guards : List Guard) (table : List (ℕ × ℕ)) (count : ℕ) (guard_table : GuardTable)
    (is_guard_table : IsGuardTable f t guards table count guard_table) where
  image_is : (x : ℕ) → x < count → slice_index guard_table.images.items x ≡ table_value table x
  image_is x h =
      let at = slice_get-map_image (table_value table) (range_with_len 0 count) x x (slice_get-range count x h) in
      ap (λ l. get_or l x 0) is_guard_table.images_are ∙ get_or_from_slice_get (map (table_value table) (range_with_len 0 count)) x
      (table_value table x) 0 at

  effect_is : (moved : Bool) (x : ℕ) → x < count → listed (if moved then guard_table.behind.items else guard_table.before.items) x ≡ effect_of guards
      moved x
  effect_is true x h = ap (λ l. listed l x) is_guard_table.behind_is ∙ listed-map count (effect_of guards true) x h
  effect_is false x h = ap (λ l. listed l x) is_guard_table.before_is ∙ listed-map count (effect_of guards false) x h

  -- the control state after a letter, by its effect
  effect_from_after : (moved : Bool) (met : List Bool) (x : ℕ) (q : ControlState) → x < count
      → after_letter guard_table (record { moved = moved; met = met }) x ≡ Some q
      → (e : List Bool) × (effect_of guards moved x ≡ Some e) × (q ≡ record { moved = moved; met = union_of met e })
  effect_from_after moved met x q h after =
      by (effect_of guards moved x) refl (ap (with_effect (record { moved = moved; met = met })) (sym (effect_is moved x h)) ∙ after)
    where
      by : (o : Option (List Bool)) → effect_of guards moved x ≡ o → with_effect (record { moved = moved; met = met }) o ≡ Some q
          → (e : List Bool) × (effect_of guards moved x ≡ Some e) × (q ≡ record { moved = moved; met = union_of met e })
      by None is e = absurd (none-some q e)
      by (Some met') is e = (met', is, sym (same_Some _ _ e))

  after_from_effect : (moved : Bool) (met e : List Bool) (x : ℕ) → x < count → effect_of guards moved x ≡ Some e
      → after_letter guard_table (record { moved = moved; met = met }) x ≡ Some (record { moved = moved; met = union_of met e })
  after_from_effect moved met e x h is = ap (with_effect (record { moved = moved; met = met })) (effect_is moved x h ∙ is)

  -- the control state behind the move
  control_from_move : (met : List Bool) (q : ControlState) → after_move guard_table (record { moved = false; met = met }) ≡ Some q
      → q ≡ record { moved = true; met = met }
  control_from_move met q h = by (can_end guard_table (record { moved = true; met = met })) h
    where
      by : (b : Bool) → (if b then Some (let p : ControlState = record { moved = true; met = met } in p) else None) ≡ Some q
          → q ≡ record { moved = true; met = met }
      by true e = sym (same_Some _ _ e)
      by false e = absurd (none-some q e)

  move_from_end : (met : List Bool) → can_end guard_table (record { moved = true; met = met }) ≡ true
      → after_move guard_table (record { moved = false; met = met }) ≡ Some (record { moved = true; met = met })
  move_from_end met h = ap (λ b. if b then Some (let p : ControlState = record { moved = true; met = met } in p) else None) h

  -- a control state from which a list can be read to the end can end
  can_end-behind : (met last : List Bool) (s : List ℕ) → ReadsLetters guards count true met s last → covers last guard_table.required ≡ true
      → can_end guard_table (record { moved = true; met = met }) ≡ true
  can_end-behind met last s reads covered =
      covers_from_flags (union_of met guard_table.reach_behind) guard_table.required (λ k lt set.
      flag-four (λ j. flag met j || flag guard_table.reach_behind j) k lt
      ∙ elim (reach-ReadsLetters guards count true s met last k lt reads (flag_from_covers last guard_table.required covered k lt set)) [
        | inl before ↦ or_left (flag met k) (flag guard_table.reach_behind k) before
        | inr reach ↦ or_right (flag met k) (flag guard_table.reach_behind k) (ap (λ r. flag r k) is_guard_table.reach_behind_is ∙ reach)
      ])

  can_end-first : (middle last : List Bool) (s s' : List ℕ) → ReadsLetters guards count false no_flags s middle
      → ReadsLetters guards count true middle s' last → covers last guard_table.required ≡ true → can_end guard_table first_control ≡ true
  can_end-first middle last s s' first second covered =
      covers_from_flags (union_of (union_of no_flags guard_table.reach_before) guard_table.reach_behind) guard_table.required (λ k lt set.
      flag-four (λ j. flag (union_of no_flags guard_table.reach_before) j || flag guard_table.reach_behind j) k lt
      ∙ elim (reach-ReadsLetters guards count true s' middle last k lt second (flag_from_covers last guard_table.required covered k lt set)) [
        | inl earlier ↦ or_left (flag (union_of no_flags guard_table.reach_before) k) (flag guard_table.reach_behind k)
            (flag-four (λ j. flag no_flags j || flag guard_table.reach_before j) k lt
            ∙ elim (reach-ReadsLetters guards count false s no_flags middle k lt first earlier) [
              | inl none ↦ absurd (true≢false (sym none ∙ flag-none k))
              | inr reach ↦ or_right (flag no_flags k) (flag guard_table.reach_before k) (ap (λ r. flag r k) is_guard_table.reach_before_is ∙ reach)
            ])
        | inr reach ↦ or_right (flag (union_of no_flags guard_table.reach_before) k) (flag guard_table.reach_behind k)
            (ap (λ r. flag r k) is_guard_table.reach_behind_is ∙ reach)
      ])

  module _ (offset : ℕ) (controls : List ControlState) (states : List (Node Label)) (machine : IsMachine guard_table offset count controls states) where
    -- the state of a control state
    state_at : (k : ℕ) (p : ControlState) → slice_get controls k ≡ Some p
        → IsStateOf guard_table offset count controls p (record { accepting = is_accepting states k; edges = edges_of states k })
    state_at k p at =
        let found = slice_get-within states k (omega (arith, slice_get_within controls k p at, machine.same_length)) in
        subst (IsStateOf guard_table offset count controls p) (λ i. record {
          accepting = sym (is_accepting-at states k found.0 found.1) i;
          edges = sym (edges_of-at states k found.0 found.1) i;
        }) (machine.are_states.each k p found.0 at found.1)

    after_there : (s t' : List ℕ) (k : ℕ) (met : List Bool) → slice_get controls k ≡ Some (record { moved = true; met = met })
        → Changes offset states k s t'
        → (last : List Bool) × ReadsLetters guards count true met s last × (t' ≡ map (table_value table) s) × (covers last guard_table.required ≡ true)
    after_there [] [] k met at h =
        (met, refl, refl, sym (state_at k (record { moved = true; met = met }) at).accepts ∙ h)
    after_there [] (y ∷ t') k met at h = absurd h
    after_there (x ∷ s) [] k met at h = absurd h
    after_there (x ∷ s) (y ∷ t') k met at h =
        elim ((state_at k (record { moved = true; met = met }) at).only (exchange (x + offset) (y + offset), h.0) h.1) [
          | inl l ↦ (
              let same = same_exchange x y l.x (slice_index guard_table.images.items l.x) offset l.label in
              let e = effect_from_after true met l.x l.q l.in_range l.after in
              let rest = after_there s t' h.0 (union_of met e.0) (l.number ∙ ap Some e.2) h.2 in (
                rest.0,
                (e.0, subst (λ n. n < count) (sym same.0) l.in_range, ap (effect_of guards true) same.0 ∙ e.1, rest.1),
                (λ i. (same.1 ∙ image_is l.x l.in_range ∙ ap (table_value table) (sym same.0)) i ∷ rest.2 i),
                rest.3,
              ))
          | inr m ↦ absurd (none-some m.q m.after)
        ]

    before_there : (s t' : List ℕ) (k : ℕ) (met : List Bool) → slice_get controls k ≡ Some (record { moved = false; met = met })
        → Changes offset states k s t' → Crosses f t guards table count guard_table met s t'
    before_there [] [] k met at h =
        absurd (true≢false (sym h ∙ (state_at k (record { moved = false; met = met }) at).accepts))
    before_there [] (y ∷ t') k met at h = absurd h
    before_there (x ∷ s) [] k met at h = absurd h
    before_there (x ∷ s) (y ∷ t') k met at h =
        elim ((state_at k (record { moved = false; met = met }) at).only (exchange (x + offset) (y + offset), h.0) h.1) [
          | inl l ↦ (
              let same = same_exchange x y l.x (slice_index guard_table.images.items l.x) offset l.label in
              let e = effect_from_after false met l.x l.q l.in_range l.after in
              let rest = before_there s t' h.0 (union_of met e.0) (l.number ∙ ap Some e.2) h.2 in
              record {
                before = x ∷ rest.before;
                after = rest.after;
                middle = rest.middle;
                last = rest.last;
                was = ap (λ v. x ∷ v) rest.was;
                becomes = λ i. (same.1 ∙ image_is l.x l.in_range ∙ ap (table_value table) (sym same.0)) i ∷ rest.becomes i;
                first = (e.0, subst (λ n. n < count) (sym same.0) l.in_range, ap (effect_of guards false) same.0 ∙ e.1, rest.first);
                second = rest.second;
                covered = rest.covered;
              })
          | inr m ↦ (
              let same = same_exchange x y guard_table.from guard_table.into offset m.label in
              let q = control_from_move met m.q m.after in
              let rest = after_there s t' h.0 met (m.number ∙ ap Some q) h.2 in
              record {
                before = [];
                after = s;
                middle = met;
                last = rest.0;
                was = ap (λ v. v ∷ s) (same.0 ∙ is_guard_table.from_is);
                becomes = λ i. (same.1 ∙ is_guard_table.into_is) i ∷ rest.2 i;
                first = refl;
                second = rest.1;
                covered = rest.3;
              })
        ]

    after_back : (s : List ℕ) (k : ℕ) (met last : List Bool) → slice_get controls k ≡ Some (record { moved = true; met = met })
        → ReadsLetters guards count true met s last → covers last guard_table.required ≡ true → Changes offset states k s (map (table_value table) s)
    after_back [] k met last at h covered =
        (state_at k (record { moved = true; met = met }) at).accepts ∙ ap (λ m. covers m guard_table.required) h ∙ covered
    after_back (x ∷ s) k met last at h covered =
        let edge = (state_at k (record { moved = true; met = met }) at).letters x (record { moved = true; met = union_of met h.0 }) h.1
        (after_from_effect true met h.0 x h.1 h.2) in (
          edge.0,
          subst (λ y. Contains (edges_of states k) (exchange (x + offset) (y + offset), edge.0)) (image_is x h.1) edge.2,
          after_back s edge.0 (union_of met h.0) last edge.1 h.3 covered,
        )

    before_back : (before after : List ℕ) (k : ℕ) (met middle last : List Bool)
        → slice_get controls k ≡ Some (record { moved = false; met = met }) → ReadsLetters guards count false met before middle
        → ReadsLetters guards count true middle after last → covers last guard_table.required ≡ true
        → Changes offset states k (before ++ f ∷ after) (map (table_value table) before ++ t ∷ map (table_value table) after)
    before_back [] after k met middle last at h second covered =
        let reads : ReadsLetters guards count true met after last = subst (λ m. ReadsLetters guards count true m after last) (sym h) second in
        let edge = (state_at k (record { moved = false; met = met }) at).move (record { moved = true; met = met })
        (move_from_end met (can_end-behind met last after reads covered)) in
        let label : exchange (guard_table.from + offset) (guard_table.into + offset) ≡ exchange (f + offset) (t + offset) =
        (λ i. exchange (is_guard_table.from_is i + offset) (is_guard_table.into_is i + offset)) in (
          edge.0,
          subst (λ l. Contains (edges_of states k) (l, edge.0)) label edge.2,
          after_back after edge.0 met last edge.1 reads covered,
        )
    before_back (x ∷ before) after k met middle last at h second covered =
        let edge = (state_at k (record { moved = false; met = met }) at).letters x (record { moved = false; met = union_of met h.0 }) h.1
        (after_from_effect false met h.0 x h.1 h.2) in (
          edge.0,
          subst (λ y. Contains (edges_of states k) (exchange (x + offset) (y + offset), edge.0)) (image_is x h.1) edge.2,
          before_back before after edge.0 (union_of met h.0) middle last edge.1 h.3 second covered,
        )

    module _ (valid : IsValidMove count (At f t guards table)) where
      -- a change from the first control state is a move
      move_from_changes : slice_get controls 0 ≡ Some first_control → (s t' : List ℕ) → Changes offset states 0 s t'
          → IsAtMove f t guards table s t'
      move_from_changes first s t' h =
          let p = before_there s t' 0 no_flags first h in
          record {
            before = p.before;
            after = p.after;
            was = p.was;
            becomes = p.becomes;
            guarded = guarded_from_ReadsLetters guards count valid.limits p.before p.after p.middle p.last p.first p.second
                (ap (covers p.last) (sym is_guard_table.required_is) ∙ p.covered);
          }

      -- what can be read of the lists of a move
      move_reads : (s t' : List ℕ) → AllBelow count s → (m : IsAtMove f t guards table s t')
          → (middle last : List Bool) × ReadsLetters guards count false no_flags m.before middle × ReadsLetters guards count true middle m.after last
          × (covers last guard_table.required ≡ true)
      move_reads s t' below m =
          let whole : AllBelow count (m.before ++ f ∷ m.after) = subst (AllBelow count) m.was below in
          let rest : AllBelow count (f ∷ m.after) = AllBelow-right count m.before (f ∷ m.after) whole in
          let reads = ReadsLetters_from_guarded guards count valid.limits m.before m.after (AllBelow-left count m.before (f ∷ m.after) whole) rest.1
          m.guarded in
          (reads.0, reads.1, reads.2, reads.3, ap (covers reads.1) is_guard_table.required_is ∙ reads.4)

      -- where there is a move at all, the guards can be met from the first control state
      can_end_from_move : (s t' : List ℕ) → AllBelow count s → IsAtMove f t guards table s t' → can_end guard_table first_control ≡ true
      can_end_from_move s t' below m =
          let reads = move_reads s t' below m in
          can_end-first reads.0 reads.1 m.before m.after reads.2 reads.3 reads.4

      -- and a move is a change from there
      changes_from_move : (s t' : List ℕ) → AllBelow count s → IsAtMove f t guards table s t'
          → Changes offset states 0 s t'
      changes_from_move s t' below m =
          let reads = move_reads s t' below m in
          let changes = before_back m.before m.after 0 no_flags reads.0 reads.1 (machine.first (can_end_from_move s t' below m)) reads.2
          reads.3 reads.4 in
          subst (λ v. Changes offset states 0 v t') (sym m.was)
          (subst (λ v. Changes offset states 0 (m.before ++ f ∷ m.after) v) (sym m.becomes) changes)

      letters_of_edge : (p : ControlState) (edge : Label × ℕ) → IsControlEdge guard_table offset count controls p edge
          → ExchangesLetters offset count (length states) edge
      letters_of_edge p edge (inl l) = record {
        old = l.x;
        new = slice_index guard_table.images.items l.x;
        old_in_range = l.in_range;
        new_in_range = subst (λ y. y < count) (sym (image_is l.x l.in_range))
            (table_value_in_range count table l.x valid.table_in_range l.in_range);
        label = l.label;
        target_in_range = omega (arith, slice_get_within controls edge.1 l.q l.number, machine.same_length);
      }
      letters_of_edge p edge (inr m) = record {
        old = guard_table.from;
        new = guard_table.into;
        old_in_range = subst (λ x. x < count) (sym is_guard_table.from_is) valid.in_range.0;
        new_in_range = subst (λ x. x < count) (sym is_guard_table.into_is) valid.in_range.1.0;
        label = m.label;
        target_in_range = omega (arith, slice_get_within controls edge.1 m.q m.number, machine.same_length);
      }

      has_letters : HasLetters offset count states
      has_letters = All-from_places (λ node. All (ExchangesLetters offset count (length states)) node.edges) states (λ k node at.
          let control = slice_get-within controls k (omega (arith, slice_get_within states k node at, machine.same_length)) in
          let is_state = machine.are_states.each k control.0 node control.1 at in
          All-from_places (ExchangesLetters offset count (length states)) node.edges
          (λ j edge there. letters_of_edge control.0 edge (is_state.only edge (Contains-from_place node.edges j edge there))))

      in_range : (n : ℕ) → length states ≡ n → All (λ q. q < length states) (starts_of n)
      in_range zero e = All-from_recursion (λ q. q < length states) [] tt
      in_range (suc n) e = All-from_recursion (λ q. q < length states) (0 ∷ []) (omega arith, tt)

      pub at_machine : (letters : ℕ) → offset + count ≤ letters → (starts : List ℕ) → starts ≡ starts_of (length states)
          → IsValid (record { letters = letters; starts = starts; states = states })
          × ((u w : List ℕ) → Relates (record { letters = letters; starts = starts; states = states }) u w
          ↔ IsRaisedMove (IsAtMove f t guards table) offset count u w)
      at_machine letters fits starts is = (
        record {
          starts_in_range = subst (All (λ q. q < length states)) (sym is) (in_range (length states) refl);
          edges_in_range = edges_valid offset count states has_letters letters fits;
        },
        λ u w. by u w (can_end guard_table first_control) refl,
      )
        where
          some_start : (n : ℕ) → 0 < n → starts_of n ≡ 0 ∷ []
          some_start zero h = absurd (omega arith)
          some_start (suc n) h = refl

          by : (u w : List ℕ) (b : Bool) → can_end guard_table first_control ≡ b
              → Relates (record { letters = letters; starts = starts; states = states }) u w
              ↔ IsRaisedMove (IsAtMove f t guards table) offset count u w
          by u w true e =
              let first = machine.first e in
              let some : 0 < length states = omega (arith, slice_get_within controls 0 first_control first, machine.same_length) in
              subst (λ l. Relates (record { letters = letters; starts = l; states = states }) u w
              ↔ IsRaisedMove (IsAtMove f t guards table) offset count u w) (sym (is ∙ some_start (length states) some))
              (Relates-raised offset count states has_letters letters (IsAtMove f t guards table) (move_from_changes first) changes_from_move u w)
          by u w false e =
              let empty : length states ≡ 0 = machine.same_length ∙ ap length (machine.none e) in
              let nil : starts ≡ [] = is ∙ ap starts_of empty in (
                λ r. nothing_in_nil r.start (subst (λ l. Contains l r.start) nil r.is_start),
                λ m. absurd (true≢false (sym (can_end_from_move m.old m.new m.old_in_range m.leads) ∙ e)),
              )
