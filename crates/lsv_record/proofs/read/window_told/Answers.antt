use Rattle.lsv_record.proofs.Told.{no_space, no_rows, no_cols}
use Rattle.lsv_record.proofs.read.window_told.Goals as goal

pub returns-in_err-rows : goal.returns-in_err-rows
returns-in_err-rows c = rw c.from_residual.ensures (no_space c.args.delay c.args.rest.now c.in_err-rows.ensures.none)

pub returns-in_err-rows-2 : goal.returns-in_err-rows-2
returns-in_err-rows-2 c = rw c.from_residual-in_err-rows-2.ensures (no_rows c.args.delay c.args.rest.now c.in_ok-rows.rows.now c.in_ok-rows.cols.now c.in_ok-rows.ensures.found c.in_ok-rows.ensures.first c.in_err-rows-2.ensures)

pub returns-in_err-cols : goal.returns-in_err-cols
returns-in_err-cols c = rw c.from_residual-in_err-cols.ensures (no_cols c.args.delay c.args.rest.now c.in_ok-rows.rows.now c.in_ok-rows.cols.now c.in_ok-rows.ensures.found c.in_ok-rows.ensures.first c.in_err-cols.ensures)
