use Rattle.std.proofs.Common.{◌≡◌, ℕ, Contains, length, subst, arith}
use Rattle.atoms.specs.private.Rows.{IsNumberAt, AreRowsOf}
use Rattle.atoms.proofs.Unions.{numbers_at}
use Rattle.atoms.proofs.RowsByState.{rows_none, rows_more, narrow_kept, room_kept}
use Rattle.atoms.proofs.rows.rows_of.Goals as goal

pub sets-init : goal.sets-init
sets-init c = record {
  narrow = c.in_ok-rows.ensures.narrow;
  rows = rows_none c.args.used.now c.args.sets.now c.args.states (length c.args.used.now) (length c.args.sets.now) c.in_ok-rows.rows.items c.in_ok-rows.ensures.rows;
  room = c.in_ok-rows.ensures.rows.room;
}

pub sets-preserved : goal.sets-preserved
sets-preserved c =
    let used = c.args.used.now in
    let sets = c.args.sets.now in
    let number = c.sets.number in
    let places = c.deref.result.now in
    let old = c.sets.rows.items in
    let new = c.add_number.new.rows.items in
    let before = c.sets.invariant in
    let same = numbers_at sets number c.index-sets-number.result c.in_ok-places.places.items places c.sets-test.true c.index-sets-number.is c.in_ok-places.ensures c.deref.ensures.value in
    record {
      narrow = narrow_kept (λ q k. (place : ℕ) × Contains places place × IsNumberAt used number place q k) old new c.add_number.ensures (length sets) before.narrow;
      rows = rows_more used sets c.args.states number places old new c.sets-test.true same before.room c.add_number.ensures before.rows;
      room = room_kept (λ q k. (place : ℕ) × Contains places place × IsNumberAt used number place q k) old new c.add_number.ensures used (length used) (length sets) before.room;
    }

pub returns-clause-rows : goal.returns-clause-rows
returns-clause-rows c =
    let end : c.sets.number ≡ length c.args.sets.now = (let t = c.sets-test.false in let l = c.sets.auto.number-end in omega arith) in
    subst (λ k. AreRowsOf c.args.used.now c.args.sets.now c.args.states k c.sets.rows.items) end c.sets.invariant.rows
