use Rattle.std.proofs.Common.{◌<◌, get_or, refl, arith}
use Rattle.std.proofs.lemmas.List.Elements.{All-get_or}
use Rattle.atoms.proofs.RowsByState.{empty_rows_none, empty_rows_more, narrow_empty, narrow_more}
use Rattle.atoms.proofs.rows.empty_rows.Goals as goal

pub used-init : goal.used-init
used-init c = record {
  narrow = narrow_empty c.args.count c.args.states c.in_ok-rows.rows.items c.in_ok-rows.ensures;
  rows = empty_rows_none c.args.used.now c.args.states c.args.count c.in_ok-rows.rows.items c.in_ok-rows.ensures;
}

pub used-preserved : goal.used-preserved
used-preserved c =
    let used = c.args.used.now in
    let state = get_or used c.used.state-index 0 in
    let before = c.used.invariant in
    let within : state < c.args.states = All-get_or (λ q. q < c.args.states) used c.used.state-index 0 c.used-test.true c.requires in
    record {
      narrow = narrow_more c.args.count state c.used.rows.items c.in_ok-row.row (let e = before.rows.size in omega arith) c.in_ok-row.ensures.room before.narrow;
      rows = empty_rows_more used c.used.state-index state c.args.states c.args.count c.used.rows.items c.in_ok-row.row refl within c.in_ok-row.ensures.none c.in_ok-row.ensures.room before.rows;
    }
