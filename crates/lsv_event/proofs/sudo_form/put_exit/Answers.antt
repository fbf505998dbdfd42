use Rattle.std.proofs.Common.{◌≡◌, arith, to_z, of_z, w32}
use Rattle.std.proofs.lemmas.Int.{to_z-of_z}
use Rattle.std.proofs.lemmas.Result.{on_ok_weaker}
use Rattle.lsv_event.proofs.Parts.{has_in_order}
use Rattle.lsv_event.proofs.sudo_form.put_exit.Goals as goal

pub returns : goal.returns
returns c = λ start parts has.
    let same : to_z w32 (of_z w32 c.args.exit.now.value) ≡ c.args.exit.now.value = grind (arith, to_z-of_z) in
    let log = c.in_ok-put_log.ensures start parts has in
    let value = rw same at (c.in_ok-put_value.ensures start _ log) in
    let signal = rw c.as_slice.ensures at (c.in_ok-add_unless_empty.ensures start _ value) in
    let error = rw c.as_slice-2.ensures at (c.in_ok-add_unless_empty-2.ensures start _ signal) in
    on_ok_weaker c.put_core.result (has_in_order start parts _ _ _ _ _ _) (c.put_core.ensures start _ error)
