use Rattle.std.proofs.Common.{◌↔◌, ◌∙◌, ◌∷◌, [], ◌++◌, ap, sym, subst, refl, true, length, IsTrue}
use Rattle.std.specs.List.{list_any}
use Rattle.protocol_model.specs.Moves.{is_in}
use Rattle.protocol_moves.specs.Results.{IsEnabled}
use Rattle.protocol_moves.specs.private.Gathering.{some_below, can_change_at}
use Rattle.protocol_moves.proofs.EnabledMoves.{test_is, at_enabled, pair_enabled, ring_enabled, two_enabled, set_enabled, stack_enabled}
use Rattle.protocol_moves.proofs.Losses.{cut_enabled, loss_enabled}
use Rattle.protocol_moves.proofs.enabled.is_enabled.Goals as goal

pub returns-in-At : goal.returns-in-At
returns-in-At c =
    let list = c.args.list.now in
    let m = c.in-At in
    let is = c.has_start.ensures ∙ ap (λ guards. some_below (can_change_at m.from guards list) (length list)) c.as_slice.ensures in
    subst (λ move. IsTrue c.has_start.result ↔ IsEnabled move list) (sym m.is)
    (test_is c.has_start.result _ _ is (at_enabled m.from m.to m.guards m.map list))

pub returns-in-Pair : goal.returns-in-Pair
returns-in-Pair c =
    let list = c.args.list.now in
    let m = c.in-Pair in
    subst (λ move. IsTrue c.has_neighbours.result ↔ IsEnabled move list) (sym m.is)
    (test_is c.has_neighbours.result _ _ c.has_neighbours.ensures (pair_enabled m.a m.b m.c m.d list))

pub returns-in-Ring : goal.returns-in-Ring
returns-in-Ring c =
    let list = c.args.list.now in
    let m = c.in-Ring in
    subst (λ move. IsTrue c.has_ends.result ↔ IsEnabled move list) (sym m.is)
    (test_is c.has_ends.result _ _ c.has_ends.ensures (ring_enabled m.a m.b m.c m.d list))

pub returns-in-Two : goal.returns-in-Two
returns-in-Two c =
    let list = c.args.list.now in
    let m = c.in-Two in
    subst (λ move. IsTrue c.has_two.result ↔ IsEnabled move list) (sym m.is)
    (test_is c.has_two.result _ _ c.has_two.ensures (two_enabled m.a m.b m.c m.d list))

pub returns-in-Set : goal.returns-in-Set
returns-in-Set c =
    subst (λ move. IsTrue c.is_single.result ↔ IsEnabled move c.args.list.now) (sym c.in-Set.is)
    (set_enabled c.in-Set.from c.in-Set.to c.args.list.now c.is_single.result c.is_single.ensures)

pub returns-in-Send : goal.returns-in-Send
returns-in-Send c =
    subst (λ move. IsTrue true ↔ IsEnabled move c.args.list.now) (sym c.in-Send.is)
    (λ h. (c.args.list.now ++ c.in-Send.letter ∷ [], refl), λ m. refl)

pub returns-in-Stack : goal.returns-in-Stack
returns-in-Stack c =
    subst (λ move. IsTrue c.has_top-in-Stack.result ↔ IsEnabled move c.args.list.now) (sym c.in-Stack.is)
    (stack_enabled c.in-Stack.pop c.in-Stack.push c.args.list.now c.has_top-in-Stack.result c.has_top-in-Stack.ensures)

pub returns-in-Spawn : goal.returns-in-Spawn
returns-in-Spawn c =
    subst (λ move. IsTrue true ↔ IsEnabled move c.args.list.now) (sym c.in-Spawn.is)
    (λ h. (c.args.list.now ++ c.in-Spawn.letter ∷ [], refl), λ m. refl)

pub returns-in-Exit : goal.returns-in-Exit
returns-in-Exit c =
    subst (λ move. IsTrue c.has_any.result ↔ IsEnabled move c.args.list.now) (sym c.in-Exit.is)
    (test_is c.has_any.result _ _ c.has_any.ensures (cut_enabled c.in-Exit.letter c.args.list.now))

pub returns-in-Lose : goal.returns-in-Lose
returns-in-Lose c =
    let list = c.args.list.now in
    let m = c.in-Lose in
    let is = c.has_any-in-Lose.ensures ∙ ap (λ letters. list_any (is_in letters) list) c.as_slice-in-Lose.ensures in
    subst (λ move. IsTrue c.has_any-in-Lose.result ↔ IsEnabled move list) (sym m.is)
    (test_is c.has_any-in-Lose.result _ _ is (loss_enabled m.letters list))
