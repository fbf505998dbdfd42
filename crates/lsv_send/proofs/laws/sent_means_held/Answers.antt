use Rattle.std.proofs.Common.{◌≡◌, ◌∙◌, refl, sym, ap}
use Rattle.lsv_dialogue.specs.Events.{heard}
use Rattle.lsv_upstream.specs.Held.{GetsPoint}
use Rattle.lsv_send.specs.Plan.{plan_of, resume_of}
use Rattle.lsv_send.proofs.Held.{came_there, point_read}
use Rattle.lsv_send.proofs.Storable.{storable}
use Rattle.lsv_send.proofs.Stored.{stored_sent}
use Rattle.lsv_send.proofs.laws.sent_means_held.Goals as goal

pub returns : goal.returns
returns g c = λ source image out conn log exit goes stop what opened skips holds exit_is w.
    let stored = storable source.number source.body source.head image log exit opened holds exit_is in
    let there = came_there w.far _ _ w.ended.cause.has in
    let s = stored_sent source image w.far w.ended.events log exit opened skips holds exit_is w.ended.talks there in (
      s.0,
      s.1,
      λ some n before r k served.
          let read = point_read c.nanoseconds_are_one_time.ensures.time s.0.aim w.ended.events (s.2.aim some) in
          let a = c.what_was_read_was_answered.ensures k (heard w.ended.events) r.events s.0.aim served.reads read in
          let at : GetsPoint n before r k s.0.aim = record { past = a.0; event = a.2; later = a.1; is = a.3; writing = served.writing a.0 a.1 a.2 a.3 a.4; brings = a.4 } in (
            at,
            c.a_sent_log_is_held.ensures.held n source.head log.records exit (resume_of goes) stop s.0 before r k stored served.lane served.runs (ap (λ what. plan_of what log.records source.head exit) (sym what) ∙ s.1) served.brings served.alike at,
          ),
    )
