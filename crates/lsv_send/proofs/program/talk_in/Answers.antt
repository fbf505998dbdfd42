use Rattle.std.proofs.Common.{◌≡◌, ap, refl}
use Rattle.std.proofs.lemmas.Result.{IfErr-weaker, IfOk-weaker}
use Rattle.lsv_send.specs.Begun.{Begun}
use Rattle.lsv_send.specs.Talks.{Begins}
use Rattle.lsv_send.specs.declared.world.World.{World}
use Rattle.lsv_send.proofs.Talking.{leaves_by, link_by, some_log, talked_by, talks_none, wants_first}
use Rattle.lsv_send.proofs.program.talk_in.Goals as goal

pub run-requires : goal.run-requires
run-requires g c =
    let start : Begun g.row.D.Denot g.D.Disk.tells = record { number = c.args.sender.now.log.number; source = λ d. (c.requires.begun.over d).0; disk = c.args.world.now.disk.now; printed = g.K.Sink.put c.args.world.now.sink.now; faults = g.K.Sink.faults c.args.world.now.sink.now; disk_name = c.args.world.now.disk.ghost_name; sink_name = c.args.world.now.sink.ghost_name } in
    let first : Begins g.D.Disk.tells = record { number = c.args.sender.now.log.number; source = λ d. (c.requires.begun.over d).0; disk = g.D.Disk.view c.args.world.now.disk.now; printed = g.K.Sink.put c.args.world.now.sink.now; faults = g.K.Sink.faults c.args.world.now.sink.now } in
    let begun = talks_none g.D.Disk.tells g.K.Sink.tells _ first c.args.sender.now c.requires.begun.what (λ t. g.met.D.Disk.only_now t c.args.world.now.disk.now) (refl, refl) c.requires.begun.new (λ d. (c.requires.begun.over d).1) in
    record { begun = (start, begun); wants = λ s. wants_first c.requires.begun.what c.args.sender.now.log.number c.args.sender.now c.requires.begun.new }

pub returns-clause-same : goal.returns-clause-same
returns-clause-same g c =
    let start : Begun g.row.D.Denot g.D.Disk.tells = record { number = c.args.sender.now.log.number; source = λ d. (c.requires.begun.over d).0; disk = c.args.world.now.disk.now; printed = g.K.Sink.put c.args.world.now.sink.now; faults = g.K.Sink.faults c.args.world.now.sink.now; disk_name = c.args.world.now.disk.ghost_name; sink_name = c.args.world.now.sink.ghost_name } in
    let first : Begins g.D.Disk.tells = record { number = c.args.sender.now.log.number; source = λ d. (c.requires.begun.over d).0; disk = g.D.Disk.view c.args.world.now.disk.now; printed = g.K.Sink.put c.args.world.now.sink.now; faults = g.K.Sink.faults c.args.world.now.sink.now } in
    let begun = talks_none g.D.Disk.tells g.K.Sink.tells _ first c.args.sender.now c.requires.begun.what (λ t. g.met.D.Disk.only_now t c.args.world.now.disk.now) (refl, refl) c.requires.begun.new (λ d. (c.requires.begun.over d).1) in
    let left = leaves_by g.D.Disk.tells g.K.Sink.tells first (λ (w : World g.row.D.Denot g.row.K.Denot). g.D.Disk.view w.disk.now) (λ w. g.K.Sink.put w.sink.now) (λ w. g.K.Sink.faults w.sink.now)
    (λ w. (w.disk.ghost_name ≡ c.args.world.now.disk.ghost_name) × (w.sink.ghost_name ≡ c.args.world.now.sink.ghost_name)) _ c.run.new.speaker c.run.new.world _ _ c.run.result
    (IfOk-weaker c.run.result _ _ (λ end h. let ran = h start begun in (ran.conn, ran.went)) c.run.ensures.ended) (IfErr-weaker c.run.result _ _ (λ fault h. let ran = h start begun in (ran.conn, ran.went)) c.run.ensures.broke) in
    left.0

pub returns-clause-reads : goal.returns-clause-reads
returns-clause-reads g c =
    let start : Begun g.row.D.Denot g.D.Disk.tells = record { number = c.args.sender.now.log.number; source = λ d. (c.requires.begun.over d).0; disk = c.args.world.now.disk.now; printed = g.K.Sink.put c.args.world.now.sink.now; faults = g.K.Sink.faults c.args.world.now.sink.now; disk_name = c.args.world.now.disk.ghost_name; sink_name = c.args.world.now.sink.ghost_name } in
    let first : Begins g.D.Disk.tells = record { number = c.args.sender.now.log.number; source = λ d. (c.requires.begun.over d).0; disk = g.D.Disk.view c.args.world.now.disk.now; printed = g.K.Sink.put c.args.world.now.sink.now; faults = g.K.Sink.faults c.args.world.now.sink.now } in
    let begun = talks_none g.D.Disk.tells g.K.Sink.tells _ first c.args.sender.now c.requires.begun.what (λ t. g.met.D.Disk.only_now t c.args.world.now.disk.now) (refl, refl) c.requires.begun.new (λ d. (c.requires.begun.over d).1) in
    let left = leaves_by g.D.Disk.tells g.K.Sink.tells first (λ (w : World g.row.D.Denot g.row.K.Denot). g.D.Disk.view w.disk.now) (λ w. g.K.Sink.put w.sink.now) (λ w. g.K.Sink.faults w.sink.now)
    (λ w. (w.disk.ghost_name ≡ c.args.world.now.disk.ghost_name) × (w.sink.ghost_name ≡ c.args.world.now.sink.ghost_name)) _ c.run.new.speaker c.run.new.world _ _ c.run.result
    (IfOk-weaker c.run.result _ _ (λ end h. let ran = h start begun in (ran.conn, ran.went)) c.run.ensures.ended) (IfErr-weaker c.run.result _ _ (λ fault h. let ran = h start begun in (ran.conn, ran.went)) c.run.ensures.broke) in
    left.1

pub returns-clause-disk : goal.returns-clause-disk
returns-clause-disk g c =
    let start : Begun g.row.D.Denot g.D.Disk.tells = record { number = c.args.sender.now.log.number; source = λ d. (c.requires.begun.over d).0; disk = c.args.world.now.disk.now; printed = g.K.Sink.put c.args.world.now.sink.now; faults = g.K.Sink.faults c.args.world.now.sink.now; disk_name = c.args.world.now.disk.ghost_name; sink_name = c.args.world.now.sink.ghost_name } in
    let first : Begins g.D.Disk.tells = record { number = c.args.sender.now.log.number; source = λ d. (c.requires.begun.over d).0; disk = g.D.Disk.view c.args.world.now.disk.now; printed = g.K.Sink.put c.args.world.now.sink.now; faults = g.K.Sink.faults c.args.world.now.sink.now } in
    let begun = talks_none g.D.Disk.tells g.K.Sink.tells _ first c.args.sender.now c.requires.begun.what (λ t. g.met.D.Disk.only_now t c.args.world.now.disk.now) (refl, refl) c.requires.begun.new (λ d. (c.requires.begun.over d).1) in
    let left = leaves_by g.D.Disk.tells g.K.Sink.tells first (λ (w : World g.row.D.Denot g.row.K.Denot). g.D.Disk.view w.disk.now) (λ w. g.K.Sink.put w.sink.now) (λ w. g.K.Sink.faults w.sink.now)
    (λ w. (w.disk.ghost_name ≡ c.args.world.now.disk.ghost_name) × (w.sink.ghost_name ≡ c.args.world.now.sink.ghost_name)) _ c.run.new.speaker c.run.new.world _ _ c.run.result
    (IfOk-weaker c.run.result _ _ (λ end h. let ran = h start begun in (ran.conn, ran.went)) c.run.ensures.ended) (IfErr-weaker c.run.result _ _ (λ fault h. let ran = h start begun in (ran.conn, ran.went)) c.run.ensures.broke) in
    some_log c.args.sender.now.log.number _ _ _ left.2

pub returns-clause-sink : goal.returns-clause-sink
returns-clause-sink g c =
    let start : Begun g.row.D.Denot g.D.Disk.tells = record { number = c.args.sender.now.log.number; source = λ d. (c.requires.begun.over d).0; disk = c.args.world.now.disk.now; printed = g.K.Sink.put c.args.world.now.sink.now; faults = g.K.Sink.faults c.args.world.now.sink.now; disk_name = c.args.world.now.disk.ghost_name; sink_name = c.args.world.now.sink.ghost_name } in
    let first : Begins g.D.Disk.tells = record { number = c.args.sender.now.log.number; source = λ d. (c.requires.begun.over d).0; disk = g.D.Disk.view c.args.world.now.disk.now; printed = g.K.Sink.put c.args.world.now.sink.now; faults = g.K.Sink.faults c.args.world.now.sink.now } in
    let begun = talks_none g.D.Disk.tells g.K.Sink.tells _ first c.args.sender.now c.requires.begun.what (λ t. g.met.D.Disk.only_now t c.args.world.now.disk.now) (refl, refl) c.requires.begun.new (λ d. (c.requires.begun.over d).1) in
    let left = leaves_by g.D.Disk.tells g.K.Sink.tells first (λ (w : World g.row.D.Denot g.row.K.Denot). g.D.Disk.view w.disk.now) (λ w. g.K.Sink.put w.sink.now) (λ w. g.K.Sink.faults w.sink.now)
    (λ w. (w.disk.ghost_name ≡ c.args.world.now.disk.ghost_name) × (w.sink.ghost_name ≡ c.args.world.now.sink.ghost_name)) _ c.run.new.speaker c.run.new.world _ _ c.run.result
    (IfOk-weaker c.run.result _ _ (λ end h. let ran = h start begun in (ran.conn, ran.went)) c.run.ensures.ended) (IfErr-weaker c.run.result _ _ (λ fault h. let ran = h start begun in (ran.conn, ran.went)) c.run.ensures.broke) in
    record { monotone = left.3; risen = left.4 }

pub returns-clause-talked : goal.returns-clause-talked
returns-clause-talked g c = λ d l k source ready.
    let start : Begun g.row.D.Denot g.D.Disk.tells = record { number = c.args.sender.now.log.number; source = λ t. source; disk = c.args.world.now.disk.now; printed = g.K.Sink.put c.args.world.now.sink.now; faults = g.K.Sink.faults c.args.world.now.sink.now; disk_name = c.args.world.now.disk.ghost_name; sink_name = c.args.world.now.sink.ghost_name } in
    let first : Begins g.D.Disk.tells = record { number = c.args.sender.now.log.number; source = λ t. source; disk = g.D.Disk.view c.args.world.now.disk.now; printed = g.K.Sink.put c.args.world.now.sink.now; faults = g.K.Sink.faults c.args.world.now.sink.now } in
    let begun = talks_none g.D.Disk.tells g.K.Sink.tells _ first c.args.sender.now c.requires.begun.what (λ t. g.met.D.Disk.only_now t c.args.world.now.disk.now) (refl, refl) c.requires.begun.new (λ t. ready) in
    talked_by g.D.Disk.tells g.K.Sink.tells first (λ (w : World g.row.D.Denot g.row.K.Denot). g.D.Disk.view w.disk.now) (λ w. g.K.Sink.put w.sink.now) (λ w. g.K.Sink.faults w.sink.now)
    (λ w. (w.disk.ghost_name ≡ c.args.world.now.disk.ghost_name) × (w.sink.ghost_name ≡ c.args.world.now.sink.ghost_name)) _ c.run.new.speaker c.run.new.world c.args.server.now _ _ _ _ c.run.result d k
    (IfOk-weaker c.run.result _ _ (λ end h. h start begun) c.run.ensures.ended) (IfErr-weaker c.run.result _ _ (λ fault h. h start begun) c.run.ensures.broke)

pub returns-clause-link : goal.returns-clause-link
returns-clause-link g c =
    let start : Begun g.row.D.Denot g.D.Disk.tells = record { number = c.args.sender.now.log.number; source = λ d. (c.requires.begun.over d).0; disk = c.args.world.now.disk.now; printed = g.K.Sink.put c.args.world.now.sink.now; faults = g.K.Sink.faults c.args.world.now.sink.now; disk_name = c.args.world.now.disk.ghost_name; sink_name = c.args.world.now.sink.ghost_name } in
    let first : Begins g.D.Disk.tells = record { number = c.args.sender.now.log.number; source = λ d. (c.requires.begun.over d).0; disk = g.D.Disk.view c.args.world.now.disk.now; printed = g.K.Sink.put c.args.world.now.sink.now; faults = g.K.Sink.faults c.args.world.now.sink.now } in
    let begun = talks_none g.D.Disk.tells g.K.Sink.tells _ first c.args.sender.now c.requires.begun.what (λ t. g.met.D.Disk.only_now t c.args.world.now.disk.now) (refl, refl) c.requires.begun.new (λ d. (c.requires.begun.over d).1) in
    link_by _ _ c.run.new.speaker c.run.new.world _ _ c.run.result (IfOk-weaker c.run.result _ _ (λ end h. let ran = h start begun in (ran.conn, ran.went)) c.run.ensures.ended) (IfErr-weaker c.run.result _ _ (λ fault h. let ran = h start begun in (ran.conn, ran.went)) c.run.ensures.broke)
