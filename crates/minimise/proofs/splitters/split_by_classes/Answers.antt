use Rattle.std.proofs.Common.{List, ℕ, sym, subst}
use Rattle.minimise.specs.private.Splitters.{AreListed, AreMovesInto, HasOrderedLetters, IsSaturated}
use Rattle.minimise.proofs.FoundMoves.{moves_saturated}
use Rattle.minimise.proofs.splitters.split_by_classes.Goals as goal

pub splitters-init : goal.splitters-init
splitters-init c = record { sound = λ m valid incoming apart. apart; listed = c.requires }

pub find_moves-requires : goal.find_moves-requires
find_moves-requires c =
    subst (λ (xs : List ℕ). AreListed xs c.splitters.members.items) (sym c.deref.ensures.value) c.splitters.invariant.listed

pub split_by_letters-requires-clause-listed : goal.split_by_letters-requires-clause-listed
split_by_letters-requires-clause-listed c =
    subst (λ (xs : List ℕ). AreListed xs c.find_moves.new.members.items) c.deref.ensures.value c.in_ok-find_moves.ensures.listed

pub split_by_letters-requires-clause-ordered : goal.split_by_letters-requires-clause-ordered
split_by_letters-requires-clause-ordered c =
    subst HasOrderedLetters (sym c.deref-in-splitters.ensures.value) c.in_ok-find_moves.ensures.ordered

pub splitters-preserved : goal.splitters-preserved
splitters-preserved c =
    let chains = c.args.incoming.now in
    let classes = c.splitters.classes.items in
    let found = c.find_moves.new.found.items in
    record {
      sound = λ m valid incoming apart.
          let before = c.splitters.invariant.sound m valid incoming apart in
          c.in_ok-split_by_letters.ensures.sound m
          (subst (IsSaturated m) (sym c.deref-in-splitters.ensures.value)
          (moves_saturated m valid chains incoming classes before c.in-Some.splitter found
          (subst (λ (xs : List ℕ). AreMovesInto chains xs c.in-Some.splitter found) c.deref.ensures.value c.in_ok-find_moves.ensures.moves)))
          before;
      listed = c.in_ok-split_by_letters.ensures.listed;
    }
