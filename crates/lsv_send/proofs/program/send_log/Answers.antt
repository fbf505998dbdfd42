use Rattle.std.proofs.Common.{[], ◌∙◌, ap, refl, sym, append-nil}
use Rattle.lsv_base.specs.LogNo.{log_no_in}
use Rattle.lsv_send_args.specs.Asked.{asked_in}
use Rattle.lsv_send.proofs.Opened.{ready_by, ready_over, sends_log, sends_nothing, source_of}
use Rattle.lsv_send.proofs.program.send_log.Goals as goal

pub returns-in-Err-clause-sends : goal.returns-in-Err-clause-sends
returns-in-Err-clause-sends g c = λ d l k. (
  [],
  sym (append-nil (g.K.Sink.put c.args.sink.now)),
  sends_nothing _ (asked_in c.args.request.now) _ c.in-Some.number _ c.in-Err.fault _ _ (sym (c.in-Some.ensures.computed ∙ ap log_no_in c.as_slice.ensures)) c.of_log.ensures (c.in-Err.ensures.not d) (record { link = refl; printed = refl }),
)

pub talk-requires : goal.talk-requires
talk-requires g c = record { begun = ready_by _ (asked_in c.args.request.now).what c.in-Some.number (g.D.Disk.view c.args.disk.now) (g.D.Disk.view c.open.new.disk) c.in-Ok.sender (λ d. c.open.ensures.reads d) c.in-Ok.ensures.new c.in-Ok.ensures.opens }

pub returns-clause-sends : goal.returns-clause-sends
returns-clause-sends g c = λ d l k.
    let o = c.in-Ok.ensures.opens d in
    let t = c.talk.ensures.talked d l k (source_of (asked_in c.args.request.now).what c.in-Some.number c.in-Ok.sender o.skipped) (ready_over (asked_in c.args.request.now).what c.in-Some.number (g.D.Disk.view c.args.disk.now) (g.D.Disk.view c.open.new.disk) c.in-Ok.sender (c.open.ensures.reads d) c.in-Ok.ensures.new o) in (
      t.0,
      t.1,
      sends_log _ (asked_in c.args.request.now) _ c.in-Some.number _ _ c.in-Ok.sender c.as_str.result.now c.talk.result _ _ (sym (c.in-Some.ensures.computed ∙ ap log_no_in c.as_slice.ensures)) c.as_str.ensures.value (c.open.ensures.reads d) c.of_talk.ensures o t.2,
    )
