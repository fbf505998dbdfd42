use Rattle.std.proofs.Common.{◌≡◌, ◌<◌, ◌≤◌, ℕ, length, get_or, arith, List, [], map, ap, ◌∙◌, add-one, Option, None}
use Rattle.std.specs.Vec.{with_items}
use Rattle.std.proofs.lemmas.List.{with_items_is}
use Rattle.lsv_record.specs.declared.records.Record.{Record}
use Rattle.lsv_session.specs.declared.connection.ConnId.{ConnId}
use Rattle.lsv_machine.specs.Machine.{LogState, Machine}
use Rattle.lsvt_model.specs.Starting.{all_promised}
use Rattle.lsvt_model.specs.Views.{last_of, logs_in, owner_in, state_in}
use Rattle.lsvt_model.specs.declared.connections.Connection.{Connection}
use Rattle.lsvt_model.specs.declared.logs.Log.{Log}
use Rattle.lsvt_model.proofs.StopLemmas.{all_stopped, logs_stopped, owners_stopped, stop_more, stopped}
use Rattle.lsvt_model.proofs.model.Model.stop.Goals as goal

pub loop-log-preserved : goal.loop-log-preserved
loop-log-preserved c =
    let xs = c.loop-log.log-items in
    let ys = c.deref_mut-log-items.result.now in
    let i = c.loop-log.log-index in
    let was = get_or xs i c.log-item.result in
    let below : i < length xs = omega arith in
    let on_records : List Record → Log = λ rs. record {
      number = (get_or c.loop-log.log-items c.loop-log.log-index c.log-item.result).number;
      head = (get_or c.loop-log.log-items c.loop-log.log-index c.log-item.result).head;
      records = (get_or c.loop-log.log-items c.loop-log.log-index c.log-item.result).records;
      exit = (get_or c.loop-log.log-items c.loop-log.log-index c.log-item.result).exit;
      cuts = (get_or c.loop-log.log-items c.loop-log.log-index c.log-item.result).cuts;
      promised = length rs;
      owner = None;
    } in
    let more = stop_more xs ys i c.log-item.result (on_records c.as_slice.result.now) below c.loop-log.invariant.passed c.loop-log.invariant.rest (ap on_records c.as_slice.ensures) in
    rw add-one (record { passed = more.passed; rest = more.rest })

pub returns : goal.returns
returns c =
    let xs = c.args.self.now.logs.items in
    let len : length c.loop-log.log-items ≡ c.args.self.now.logs.len = omega arith in
    let all : (with_items c.args.self.now.logs c.loop-log.log-items).items ≡ map stopped xs = with_items_is c.args.self.now.logs c.loop-log.log-items len ∙ (
    let past : length c.loop-log.log-items ≤ c.loop-log.log-index = omega arith in
    all_stopped c.loop-log.log-items c.deref_mut-log-items.result.now c.loop-log.log-index past c.loop-log.invariant.passed c.loop-log.invariant.rest ∙ ap (map stopped) c.deref_mut-log-items.ensures.value) in
    let made : List Connection → List ℕ → List ℕ → List ConnId → (ℕ → LogState) → (ℕ → Option ConnId) → Machine = λ conns w f no logs owner. record {
      texts = c.args.texts;
      logs = logs;
      states = state_in conns;
      owner = owner;
      last = last_of c.args.self.now.last;
      failed_draws = 0;
      waiting = w;
      lines = c.args.self.now.lines;
      fresh = f;
      noting = no;
    } in
    let on_conns : List Connection → Machine = λ x. made x c.clear-2.new.self.items c.truncate.new.self c.clear-3.new.self.items (logs_in (with_items c.args.self.now.logs c.loop-log.log-items).items) (owner_in (with_items c.args.self.now.logs c.loop-log.log-items).items) in
    let on_waiting : List ℕ → Machine = λ x. made [] x c.truncate.new.self c.clear-3.new.self.items (logs_in (with_items c.args.self.now.logs c.loop-log.log-items).items) (owner_in (with_items c.args.self.now.logs c.loop-log.log-items).items) in
    let on_fresh : List ℕ → Machine = λ x. made [] [] x c.clear-3.new.self.items (logs_in (with_items c.args.self.now.logs c.loop-log.log-items).items) (owner_in (with_items c.args.self.now.logs c.loop-log.log-items).items) in
    let on_noting : List ConnId → Machine = λ x. made [] [] [] x (logs_in (with_items c.args.self.now.logs c.loop-log.log-items).items) (owner_in (with_items c.args.self.now.logs c.loop-log.log-items).items) in
    let on_logs : List Log → Machine = λ x. made [] [] [] [] (logs_in x) (owner_in x) in
    let on_found : (ℕ → LogState) → Machine = λ x. made [] [] [] [] x (owner_in (map stopped c.args.self.now.logs.items)) in
    let on_owner : (ℕ → Option ConnId) → Machine = λ x. made [] [] [] [] (λ n. all_promised (logs_in c.args.self.now.logs.items n)) x in
    ap on_conns c.clear.ensures.items ∙ (ap on_waiting c.clear-2.ensures.items ∙ (ap on_fresh c.truncate.ensures ∙ (ap on_noting c.clear-3.ensures.items
    ∙ (ap on_logs all ∙ (ap on_found (logs_stopped xs) ∙ ap on_owner (owners_stopped xs))))))
