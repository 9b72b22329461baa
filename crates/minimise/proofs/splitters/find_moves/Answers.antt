use Rattle.std.proofs.Common.{ℕ, rules, subst, arith}
use Rattle.std.proofs.lemmas.List.Sorted.{Contains-permutation, IsPermutation-sym, IsNonDecreasingBy-from_sort_by_key}
use Rattle.minimise.specs.private.Splitters.{AddsMovesOf}
use Rattle.minimise.proofs.FoundMoves.{moves_of}
use Rattle.minimise.proofs.MemberLists.{listed_less, members_less}
use Rattle.minimise.proofs.splitters.find_moves.Goals as goal

pub returns-in_ok-put_moves-clause-listed : goal.returns-in_ok-put_moves-clause-listed
returns-in_ok-put_moves-clause-listed c =
    listed_less c.args.classes.now c.args.members.now.items c.args.class c.index_mut-list.result.now c.keep_members.new.list
    (let t = c.if-class-len.true in let n = c.len.ensures in omega arith) c.index_mut-list.ensures.value c.keep_members.ensures c.requires

pub returns-in_ok-put_moves-clause-moves : goal.returns-in_ok-put_moves-clause-moves
returns-in_ok-put_moves-clause-moves c =
    let chains = c.args.incoming.now in
    let classes = c.args.classes.now in
    let found = c.put_moves.new.found.items in
    let sorted = c.sort_unstable_by_key.new.self.items in
    let reordered = c.sort_unstable_by_key.ensures.permutation in
    moves_of chains classes c.args.class c.keep_members.new.list.items c.clear.new.self.items found sorted c.if-class-ne0.true c.clear.ensures.items
    (subst (λ states. AddsMovesOf chains classes c.args.class states c.clear.new.self.items found) c.deref.ensures.value c.in_ok-put_moves.ensures)
    (members_less classes c.args.members.now.items c.args.class c.index_mut-list.result.now c.keep_members.new.list
    (let t = c.if-class-len.true in let n = c.len.ensures in omega arith) c.index_mut-list.ensures.value c.keep_members.ensures c.requires c.if-class-ne0.true)
    (λ move there. Contains-permutation found sorted move reordered there)
    (λ move there. Contains-permutation sorted found move (IsPermutation-sym found sorted reordered) there)

pub returns-in_ok-put_moves-clause-ordered : goal.returns-in_ok-put_moves-clause-ordered
returns-in_ok-put_moves-clause-ordered c i j =
    IsNonDecreasingBy-from_sort_by_key (λ (move : ℕ × ℕ). move.0) _ c.sort_unstable_by_key.ensures.sorted (λ a r q k. search rules) i j (0, 0)
