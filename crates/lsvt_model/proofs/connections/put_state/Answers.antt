use Rattle.std.proofs.Common.{◌≡◌, Some, None}
use Rattle.lsvt_model.specs.Inner.{connection_place}
use Rattle.lsvt_model.proofs.TableLemmas.{state_push, state_set}
use Rattle.lsvt_model.proofs.connections.put_state.Goals as goal

pub returns-in-Some : goal.returns-in-Some
returns-in-Some c =
    let at : connection_place c.args.connections.now.items c.args.id ≡ Some c.in-Some.place = cc in
    state_set c.args.connections.now.items c.args.id c.in-Some.place c.args.state at

pub returns-in_ok-push-in-None : goal.returns-in_ok-push-in-None
returns-in_ok-push-in-None c =
    let none : connection_place c.args.connections.now.items c.args.id ≡ None = cc in
    rw c.in_ok-push-in-None.ensures.items (state_push c.args.connections.now.items c.args.id c.args.state none)
