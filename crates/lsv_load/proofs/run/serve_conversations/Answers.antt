-- The port in memory was served, and it told its script.
use Rattle.std.proofs.Common.{◌≡◌, ◌∙◌, List, refl, rules, sym, subst, arith}
use Rattle.lsv_port.specs.Memory.Value.{TellsScript, port_state}
use Rattle.lsv_port.specs.declared.step.Step.{Step}
use Rattle.lsv_load.specs.Load.{load_script}
use Rattle.lsv_load.specs.Runs.{IsNew, ServesOne, view_of}
use Rattle.lsv_load.proofs.Running.{breaks_off, err_any}
use Rattle.lsv_load.proofs.Seated.{all_seated}
use Rattle.lsv_load.proofs.Sending.{tells_all}
use Rattle.lsv_load.proofs.run.serve_conversations.Goals as goal

pub returns-clause-ok : goal.returns-clause-ok
returns-clause-ok g c start made =
    let ran = c.in-Ok-served.ensures.ok (view_of c.new-port.result) start c.in-Ok.ensures.made made in
    let new = c.into_port-port.result in
    let one : ServesOne g.L.Lane.tells ran.0 (view_of c.new-port.result) (view_of new) = subst (ServesOne g.L.Lane.tells ran.0 (view_of c.new-port.result)) (sym c.into_port-port.ensures) (ran.3 tt) in
    let steps : c.new-port.result.script ≡ load_script c.args.count = c.new-port.ensures.script ∙ c.in_ok-load_script.ensures in
    let begun : IsNew c.args.count c.new-port.result = record { script = steps; opened = c.new-port.ensures.opened; going = c.new-port.ensures.stopped; well = c.new-port.ensures.failed; unasked = c.new-port.ensures.listens; unturned = c.new-port.ensures.turned; hears = c.new-port.ensures.deaf; sound = c.new-port.ensures.turns; unrefused = c.new-port.ensures.refused } in
    let script : TellsScript (load_script c.args.count) (port_state new) = subst (λ (xs : List Step). TellsScript xs (port_state new)) (one.served.goes_on.script ∙ steps) c.tells_its_script.ensures in (
      ran.0,
      ran.1,
      ran.2,
      record {
        old = c.new-port.result;
        new = new;
        begun = begun;
        served = one;
        seated = all_seated g.L.Lane.tells ran.0 c.new-port.result new c.args.count c.new-port.ensures.opened one (c.if-not-are_greeted.ensures refl);
        read = c.in_ok-are_read.ensures (search rules);
        script = script;
        all = tells_all c.args.count (port_state new) script one.stopped;
        unrefused = let none = c.if-refused-gt0.false in let is = c.refused.ensures in omega (arith, none, is);
      },
    )

pub returns-then-refused-gt0-clause-err : goal.returns-then-refused-gt0-clause-err
returns-then-refused-gt0-clause-err g c start made =
    let ran = c.in-Ok-served.ensures.ok (view_of c.new-port.result) start c.in-Ok.ensures.made made in
    let new = c.into_port-port.result in
    let one : ServesOne g.L.Lane.tells ran.0 (view_of c.new-port.result) (view_of new) = subst (ServesOne g.L.Lane.tells ran.0 (view_of c.new-port.result)) (sym c.into_port-port.ensures) (ran.3 tt) in
    let steps : c.new-port.result.script ≡ load_script c.args.count = c.new-port.ensures.script ∙ c.in_ok-load_script.ensures in
    let begun : IsNew c.args.count c.new-port.result = record { script = steps; opened = c.new-port.ensures.opened; going = c.new-port.ensures.stopped; well = c.new-port.ensures.failed; unasked = c.new-port.ensures.listens; unturned = c.new-port.ensures.turned; hears = c.new-port.ensures.deaf; sound = c.new-port.ensures.turns; unrefused = c.new-port.ensures.refused } in
    let script : TellsScript (load_script c.args.count) (port_state new) = subst (λ (xs : List Step). TellsScript xs (port_state new)) (one.served.goes_on.script ∙ steps) c.tells_its_script.ensures in
    (ran.0, ran.1, ran.2, breaks_off g.L.Lane.tells c.args.count c.new-port.result new ran.0 begun script one)

pub returns-then-not-are_greeted-clause-err : goal.returns-then-not-are_greeted-clause-err
returns-then-not-are_greeted-clause-err g c start made =
    let ran = c.in-Ok-served.ensures.ok (view_of c.new-port.result) start c.in-Ok.ensures.made made in
    let new = c.into_port-port.result in
    let one : ServesOne g.L.Lane.tells ran.0 (view_of c.new-port.result) (view_of new) = subst (ServesOne g.L.Lane.tells ran.0 (view_of c.new-port.result)) (sym c.into_port-port.ensures) (ran.3 tt) in
    let steps : c.new-port.result.script ≡ load_script c.args.count = c.new-port.ensures.script ∙ c.in_ok-load_script.ensures in
    let begun : IsNew c.args.count c.new-port.result = record { script = steps; opened = c.new-port.ensures.opened; going = c.new-port.ensures.stopped; well = c.new-port.ensures.failed; unasked = c.new-port.ensures.listens; unturned = c.new-port.ensures.turned; hears = c.new-port.ensures.deaf; sound = c.new-port.ensures.turns; unrefused = c.new-port.ensures.refused } in
    let script : TellsScript (load_script c.args.count) (port_state new) = subst (λ (xs : List Step). TellsScript xs (port_state new)) (one.served.goes_on.script ∙ steps) c.tells_its_script.ensures in
    (ran.0, ran.1, ran.2, breaks_off g.L.Lane.tells c.args.count c.new-port.result new ran.0 begun script one)

pub returns-in_err-are_read-clause-err : goal.returns-in_err-are_read-clause-err
returns-in_err-are_read-clause-err g c = err_any c.from_residual-in_err-are_read.result _ (λ start made.
    let ran = c.in-Ok-served.ensures.ok (view_of c.new-port.result) start c.in-Ok.ensures.made made in
    let new = c.into_port-port.result in
    let one : ServesOne g.L.Lane.tells ran.0 (view_of c.new-port.result) (view_of new) = subst (ServesOne g.L.Lane.tells ran.0 (view_of c.new-port.result)) (sym c.into_port-port.ensures) (ran.3 tt) in
    let steps : c.new-port.result.script ≡ load_script c.args.count = c.new-port.ensures.script ∙ c.in_ok-load_script.ensures in
    let begun : IsNew c.args.count c.new-port.result = record { script = steps; opened = c.new-port.ensures.opened; going = c.new-port.ensures.stopped; well = c.new-port.ensures.failed; unasked = c.new-port.ensures.listens; unturned = c.new-port.ensures.turned; hears = c.new-port.ensures.deaf; sound = c.new-port.ensures.turns; unrefused = c.new-port.ensures.refused } in
    let script : TellsScript (load_script c.args.count) (port_state new) = subst (λ (xs : List Step). TellsScript xs (port_state new)) (one.served.goes_on.script ∙ steps) c.tells_its_script.ensures in
    (ran.0, ran.1, ran.2, breaks_off g.L.Lane.tells c.args.count c.new-port.result new ran.0 begun script one))

pub returns-then-not-branch-clause-err : goal.returns-then-not-branch-clause-err
returns-then-not-branch-clause-err g c start made =
    let ran = c.in-Ok-served.ensures.ok (view_of c.new-port.result) start c.in-Ok.ensures.made made in
    let new = c.into_port-port.result in
    let one : ServesOne g.L.Lane.tells ran.0 (view_of c.new-port.result) (view_of new) = subst (ServesOne g.L.Lane.tells ran.0 (view_of c.new-port.result)) (sym c.into_port-port.ensures) (ran.3 tt) in
    let steps : c.new-port.result.script ≡ load_script c.args.count = c.new-port.ensures.script ∙ c.in_ok-load_script.ensures in
    let begun : IsNew c.args.count c.new-port.result = record { script = steps; opened = c.new-port.ensures.opened; going = c.new-port.ensures.stopped; well = c.new-port.ensures.failed; unasked = c.new-port.ensures.listens; unturned = c.new-port.ensures.turned; hears = c.new-port.ensures.deaf; sound = c.new-port.ensures.turns; unrefused = c.new-port.ensures.refused } in
    let script : TellsScript (load_script c.args.count) (port_state new) = subst (λ (xs : List Step). TellsScript xs (port_state new)) (one.served.goes_on.script ∙ steps) c.tells_its_script.ensures in
    (ran.0, ran.1, ran.2, breaks_off g.L.Lane.tells c.args.count c.new-port.result new ran.0 begun script one)
