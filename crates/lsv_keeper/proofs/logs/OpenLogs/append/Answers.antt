use Rattle.std.proofs.Common.{◌≡◌, ◌∙◌, Some, sym, ap, slice_get}
use Rattle.lsv_iolog.specs.Value.{is_complete}
use Rattle.lsv_keeper.specs.declared.logs.OpenLog.{OpenLog}
use Rattle.lsv_keeper.proofs.Opens.{one_open}
use Rattle.lsv_keeper.specs.Logs.{open_logs}
use Rattle.lsv_keeper.proofs.Placing.{entry_is, is_open, written_again, written_at}
use Rattle.lsv_keeper.proofs.logs.OpenLogs.append.Goals as goal

pub returns-in-Err : goal.returns-in-Err
returns-in-Err g c =
    let m = c.args.self.now.map in
    let its : OpenLog = c.in-Some-get_index_mut.its.now in
    let here : slice_get m.entries c.in-Some.at ≡ Some (c.args.log, its) = entry_is m.entries c.in-Some.at c.args.log its c.in-Some.ensures.found c.in-Some-get_index_mut.ensures.value in
    let unique = c.in-Some-get_index_mut.ensures.unique in
    (its, c.append.new.self, is_open m c.in-Some.at c.args.log its unique here, c.in-Err.ensures.refused, written_at m c.in-Some.at c.args.log its unique here c.append.new.self)

pub returns-in-Ok : goal.returns-in-Ok
returns-in-Ok g c =
    let m = c.args.self.now.map in
    let its : OpenLog = c.in-Some-get_index_mut.its.now in
    let here : slice_get m.entries c.in-Some.at ≡ Some (c.args.log, its) = entry_is m.entries c.in-Some.at c.args.log its c.in-Some.ensures.found c.in-Some-get_index_mut.ensures.value in
    let unique = c.in-Some-get_index_mut.ensures.unique in
    (its, c.append.new.self, is_open m c.in-Some.at c.args.log its unique here, c.in-Ok.ensures.staged, written_at m c.in-Some.at c.args.log its unique here c.append.new.self)

pub returns-then-is_complete : goal.returns-then-is_complete
returns-then-is_complete g c =
    let m = c.args.self.now.map in
    let its : OpenLog = c.in-Some-get_index_mut.its.now in
    let here : slice_get m.entries c.in-Some.at ≡ Some (c.args.log, its) = entry_is m.entries c.in-Some.at c.args.log its c.in-Some.ensures.found c.in-Some-get_index_mut.ensures.value in
    let unique = c.in-Some-get_index_mut.ensures.unique in (
      λ other it. ap (λ (o : OpenLog). is_complete o.log) (one_open (open_logs c.args.self.now) c.args.log other its it (is_open m c.in-Some.at c.args.log its unique here)) ∙ (sym c.is_complete.ensures ∙ c.if-is_complete.true),
      written_again m c.in-Some.at c.args.log its unique here,
    )
