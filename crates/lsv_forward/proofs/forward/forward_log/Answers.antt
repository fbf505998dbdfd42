-- What becomes of the log, by its opening and by its connection.
use Rattle.std.proofs.Common.{◌≡◌, ◌∙◌, ℕ, List, true, false, refl, sym}
use Rattle.lsv_bundle.specs.declared.fault.BundleFault.TheVariants as bundles
use Rattle.lsv_disk.specs.View.{DiskView}
use Rattle.lsv_iolog.specs.Recovered.{IsOfLog}
use Rattle.lsv_iolog.specs.declared.fault.ViewFault.TheVariants as logs
use Rattle.lsv_kept.specs.Kept.{IsAsBefore, IsOfRelay}
use Rattle.lsv_kept.specs.Value.{is_done}
use Rattle.lsv_link.specs.Link.{LinkState}
use Rattle.lsv_relay.specs.Value.{aim_of, state_of}
use Rattle.lsv_relay.specs.declared.fault.RelayFault.{RelayFault}
use Rattle.lsv_relay.specs.declared.fault.RelayFault.TheVariants as relays
use Rattle.lsv_forward.specs.Carried.{Carriage, IsEnded, IsOutOfMemory}
use Rattle.lsv_forward.specs.Inner.{Handles, HandlesPart, IsUnopened}
use Rattle.lsv_forward.specs.declared.outcome.Outcome.TheVariants.{Marked}
use Rattle.lsv_relay.proofs.Opening.{relayed_of}
use Rattle.lsv_forward.proofs.Drawing.{if_ok_map}
use Rattle.lsv_forward.proofs.Handling.{any_err, bare, cause_of_err, handles_ended, handles_judged, handles_marked, judges_unopened, if_err_map, mark_kept, no_mark_kept, one_at, part_ended, part_unopened, timed_after, touches_both}
use Rattle.lsv_forward.proofs.forward.forward_log.Goals as goal

pub returns-in-Err-clause-handles : goal.returns-in-Err-clause-handles
returns-in-Err-clause-handles g c =
    let old : DiskView = g.D.Disk.view c.args.disk.now in
    let new : DiskView = g.D.Disk.view c.open.new.disk in
    let link : LinkState = g.L.Link.state c.args.link.now in
    let host : List ℕ = c.args.host.now in
    let n : ℕ = c.args.number in
    let fault : RelayFault = c.in-Err.fault in
    let counts = g.L.Link.counts c.args.link.now in
    if_ok_map c.unopened.result (λ o. IsUnopened fault o) (λ o. Handles g.D.Disk.view host g.D.Disk.tells g.L.Link.tells n o old new link link counts counts)
    (λ o is. handles_judged g.D.Disk.view host g.D.Disk.tells g.L.Link.tells n o old new link counts (judges_unopened c.what_is_kept_is_one.ensures.undamaged g.D.Disk.tells n fault o old new c.in-Err.ensures.any_moment (record {
      word = c.in-Err.ensures.fault;
      why = λ told. c.in-Err.ensures.why told;
      reads = λ told. c.in-Err.ensures.reads told;
      touches = λ told. bare n (IsAsBefore n old) old new (c.in-Err.ensures.any_moment told);
      log = cause_of_err (IsOfLog n) fault (relays.Log logs.Disk) old new c.in-Err.ensures.log;
      state = cause_of_err (IsOfRelay n) fault (relays.State bundles.Disk) old new c.in-Err.ensures.state;
    }) is))
    c.unopened.ensures

pub returns-then-is_done-clause-handles : goal.returns-then-is_done-clause-handles
returns-then-is_done-clause-handles g c =
    let old : DiskView = g.D.Disk.view c.args.disk.now in
    let new : DiskView = g.D.Disk.view c.open.new.disk in
    let n : ℕ = c.args.number in
    let aim = aim_of c.in-Ok.relay in
    let done : is_done (state_of c.in-Ok.relay) ≡ true = sym c.is_done.ensures ∙ c.if-is_done.true in
    let kept = mark_kept c.what_is_kept_is_one.ensures.once c.what_is_kept_is_one.ensures.marked n aim in
    let timed = (λ (told : g.D.Disk.tells). (c.in-Ok.ensures.complete told).timed) in
    handles_marked g.D.Disk.view c.args.host.now g.D.Disk.tells g.L.Link.tells n Marked old new (g.L.Link.state c.args.link.now) (g.L.Link.counts c.args.link.now) c.in-Ok.ensures.any_moment
    (λ told. relayed_of n aim.total old.reads (timed told) (kept old.reads (state_of c.in-Ok.relay) done (c.in-Ok.ensures.kept told).0))
    (λ told. relayed_of n aim.total new.reads (timed_after n aim.total old new (bare n (IsAsBefore n old) old new (c.in-Ok.ensures.any_moment told)) (timed told)) (kept new.reads (state_of c.in-Ok.relay) done (c.in-Ok.ensures.kept told).1)) refl

pub returns-clause-handles : goal.returns-clause-handles
returns-clause-handles g c =
    let old : DiskView = g.D.Disk.view c.args.disk.now in
    let mid : DiskView = g.D.Disk.view c.open.new.disk in
    let new : DiskView = g.D.Disk.view c.run_one-end.new.disk in
    let link : LinkState = g.L.Link.state c.args.link.now in
    let link' : LinkState = g.L.Link.state c.run_one-end.new.link in
    let host : List ℕ = c.args.host.now in
    let n : ℕ = c.args.number in
    let undone : is_done (state_of c.in-Ok.relay) ≡ false = sym c.is_done.ensures ∙ c.if-is_done.false in
    let whole = c.in-Ok.ensures.opened.whole in
    let before = g.L.Link.counts c.args.link.now in
    let after = g.L.Link.counts c.run_one-end.new.link in
    let carried : Carriage _ = record { began = c.open.new.disk; from = c.in-Ok.relay; relay = c.run_one-end.new.self; disk = c.run_one-end.new.disk; before = before; after = after } in
    if_ok_map c.ended.result (λ o. IsEnded c.run_one-end.result o) (λ o. Handles g.D.Disk.view host g.D.Disk.tells g.L.Link.tells n o old new link link' before after)
    (λ o is. handles_ended g.D.Disk.view host g.D.Disk.tells g.L.Link.tells n old mid new link link' carried c.in-Ok.ensures.opened.number c.in-Ok.ensures.opened.host_is refl refl (λ told. (c.in-Ok.ensures.kept told).0)
    c.in-Ok.ensures.any_moment c.in-Ok.ensures.log.monotone (λ told. (c.in-Ok.ensures.complete told).timed)
    (λ told. no_mark_kept c.what_is_kept_is_one.ensures.once c.what_is_kept_is_one.ensures.marked n (aim_of c.in-Ok.relay) old.reads (state_of c.in-Ok.relay) undone (c.in-Ok.ensures.kept told).0) (λ told. (c.in-Ok.ensures.complete told).sound undone) c.run_one-end.result o
    (one_at g.D.Disk.view host g.D.Disk.tells g.L.Link.tells n c.in-Ok.relay.number mid new link link' carried c.run_one-end.result c.in-Ok.ensures.opened.number (record {
      ran = c.run_one-end.ensures.went undone whole;
      marked = λ told. c.run_one-end.ensures.marked told undone;
      unmarked = λ told. c.run_one-end.ensures.unmarked told undone whole;
      touches = λ told. c.run_one-end.ensures.touches told undone whole;
      log = c.run_one-end.ensures.log;
      state = c.run_one-end.ensures.state;
      now = λ told. g.met.D.Disk.only_now told c.run_one-end.new.disk;
      stood = c.a_crash_leaves_what_is_kept.ensures.leaves;
    })) is)
    c.ended.ensures.ended

pub returns-clause-part : goal.returns-clause-part
returns-clause-part g c =
    let old : DiskView = g.D.Disk.view c.args.disk.now in
    let mid : DiskView = g.D.Disk.view c.open.new.disk in
    let new : DiskView = g.D.Disk.view c.run_one-end.new.disk in
    let link : LinkState = g.L.Link.state c.args.link.now in
    let link' : LinkState = g.L.Link.state c.run_one-end.new.link in
    let host : List ℕ = c.args.host.now in
    let n : ℕ = c.args.number in
    let undone : is_done (state_of c.in-Ok.relay) ≡ false = sym c.is_done.ensures ∙ c.if-is_done.false in
    let whole = c.in-Ok.ensures.opened.whole in
    let before = g.L.Link.counts c.args.link.now in
    let after = g.L.Link.counts c.run_one-end.new.link in
    let carried : Carriage _ = record { began = c.open.new.disk; from = c.in-Ok.relay; relay = c.run_one-end.new.self; disk = c.run_one-end.new.disk; before = before; after = after } in
    if_err_map c.ended.result (λ none. IsOutOfMemory c.run_one-end.result) (λ none. HandlesPart g.D.Disk.view host g.D.Disk.tells g.L.Link.tells n old new link link' before after)
    (λ none is. part_ended g.D.Disk.view host g.D.Disk.tells g.L.Link.tells n old mid new link link' carried c.in-Ok.ensures.opened.number c.in-Ok.ensures.opened.host_is refl refl (λ told. (c.in-Ok.ensures.kept told).0)
    c.in-Ok.ensures.any_moment c.in-Ok.ensures.log.monotone (λ told. (c.in-Ok.ensures.complete told).timed)
    (λ told. no_mark_kept c.what_is_kept_is_one.ensures.once c.what_is_kept_is_one.ensures.marked n (aim_of c.in-Ok.relay) old.reads (state_of c.in-Ok.relay) undone (c.in-Ok.ensures.kept told).0) (λ told. (c.in-Ok.ensures.complete told).sound undone) c.run_one-end.result
    (one_at g.D.Disk.view host g.D.Disk.tells g.L.Link.tells n c.in-Ok.relay.number mid new link link' carried c.run_one-end.result c.in-Ok.ensures.opened.number (record {
      ran = c.run_one-end.ensures.went undone whole;
      marked = λ told. c.run_one-end.ensures.marked told undone;
      unmarked = λ told. c.run_one-end.ensures.unmarked told undone whole;
      touches = λ told. c.run_one-end.ensures.touches told undone whole;
      log = c.run_one-end.ensures.log;
      state = c.run_one-end.ensures.state;
      now = λ told. g.met.D.Disk.only_now told c.run_one-end.new.disk;
      stood = c.a_crash_leaves_what_is_kept.ensures.leaves;
    })) is)
    c.ended.ensures.memory

pub returns-in-Err-clause-part : goal.returns-in-Err-clause-part
returns-in-Err-clause-part g c =
    let old : DiskView = g.D.Disk.view c.args.disk.now in
    let new : DiskView = g.D.Disk.view c.open.new.disk in
    let link : LinkState = g.L.Link.state c.args.link.now in
    let counts = g.L.Link.counts c.args.link.now in
    any_err c.unopened.result (HandlesPart g.D.Disk.view c.args.host.now g.D.Disk.tells g.L.Link.tells c.args.number old new link link counts counts)
    (part_unopened g.D.Disk.view c.args.host.now g.D.Disk.tells g.L.Link.tells c.args.number old new link counts c.in-Err.ensures.any_moment)

pub returns-clause-touches : goal.returns-clause-touches
returns-clause-touches g c told =
    let old : DiskView = g.D.Disk.view c.args.disk.now in
    let undone : is_done (state_of c.in-Ok.relay) ≡ false = sym c.is_done.ensures ∙ c.if-is_done.false in
    touches_both c.args.number c.in-Ok.relay.number (IsAsBefore c.args.number old) old (g.D.Disk.view c.open.new.disk) (g.D.Disk.view c.run_one-end.new.disk) c.in-Ok.ensures.opened.number (c.in-Ok.ensures.any_moment told)
    (c.run_one-end.ensures.touches told undone c.in-Ok.ensures.opened.whole)

pub returns-then-is_done-clause-touches : goal.returns-then-is_done-clause-touches
returns-then-is_done-clause-touches g c told =
    let old : DiskView = g.D.Disk.view c.args.disk.now in
    bare c.args.number (IsAsBefore c.args.number old) old (g.D.Disk.view c.open.new.disk) (c.in-Ok.ensures.any_moment told)
