-- A piece that was read is shown after the log was looked at again.
use Rattle.std.proofs.Common.{◌≡◌, ◌∙◌, ◌++◌, List, [], Err, append-nil, refl, sym, ap, subst}
use Rattle.lsv_bundle.specs.declared.body.Body.{Body}
use Rattle.lsv_disk.specs.View.{DiskView}
use Rattle.lsv_disk.proofs.Composition.{reads_trans}
use Rattle.lsv_iolog.specs.Reading.{ViewState}
use Rattle.lsv_record.specs.declared.records.Record.{Record}
use Rattle.lsv_play.specs.Ahead.{ComesNext}
use Rattle.lsv_play.specs.Items.{IsPart}
use Rattle.lsv_play.specs.Playing.{AreAll, laid_at}
use Rattle.lsv_play.specs.Schedule.{play}
use Rattle.lsv_play.specs.declared.ahead.Next.{Next}
use Rattle.lsv_play.specs.declared.ahead.Next.TheVariants.{End, Fault}
use Rattle.lsv_play.specs.declared.fault.PlayFault.{PlayFault}
use Rattle.lsv_play.specs.declared.fault.PlayFault.TheVariants as faults
use Rattle.lsv_play.specs.declared.screen.Item.{Item}
use Rattle.lsv_play.proofs.Pieces.{ends_there, goes_on, look_before, none_shown, part_shown, some_before, stops_there}
use Rattle.lsv_play.proofs.ReadAhead.{at_log, not_cut, not_gone, reached_stays}
use Rattle.lsv_play.proofs.playing.play_piece.Goals as goal

pub returns-in_err-piece-clause-played : goal.returns-in_err-piece-clause-played
returns-in_err-piece-clause-played g c = λ told before first.
    let old : DiskView = g.D.Disk.view c.args.disk.now in
    let mid : DiskView = g.D.Disk.view c.read_ahead.new.disk in (
      [],
      λ shows. sym (append-nil (g.S.Screen.shown c.args.screen.now)),
      none_shown c.args.o.now c.args.log.now c.read_ahead.new.log old mid before c.read_ahead.ensures.same.0 c.read_ahead.ensures.same.1 (c.read_ahead.ensures.reads told) c.from_residual.result faults.NoMem c.from_residual.ensures.1
          (some_before c.args.o.now c.args.log.now old before first),
    )

pub returns-in_err-check_uncut-clause-played : goal.returns-in_err-check_uncut-clause-played
returns-in_err-check_uncut-clause-played g c = λ told before first.
    let old : DiskView = g.D.Disk.view c.args.disk.now in
    let mid : DiskView = g.D.Disk.view c.read_ahead.new.disk in
    let new : DiskView = g.D.Disk.view c.check_uncut.new.disk in
    let log : ViewState = c.read_ahead.new.log in
    let e : PlayFault = c.in_err-check_uncut.field-0.0 in
    let at = (c.in_ok-piece.ensures.piece told before first).reached in (
      [],
      λ shows. sym (append-nil (g.S.Screen.shown c.args.screen.now)),
      none_shown c.args.o.now c.args.log.now log old new before c.read_ahead.ensures.same.0 c.read_ahead.ensures.same.1 (reads_trans old mid new (c.read_ahead.ensures.reads told) (c.check_uncut.ensures.reads told))
          c.from_residual-in_err-check_uncut.result e c.from_residual-in_err-check_uncut.ensures.1
          (look_before c.args.o.now (laid_at c.args.log.now.number c.args.log.now.body old.reads) c.args.log.now.body (play c.args.o.now before) e c.in_err-check_uncut.ensures.fault
          (λ is. not_cut log mid.reads at.cuts (c.check_uncut.ensures.resumed told (c.in_err-check_uncut.was ∙ ap (λ (x : PlayFault). Err x) is)))
          (λ is. not_gone log.number log.body.extra mid.reads at.cuts (c.check_uncut.ensures.absent told (c.in_err-check_uncut.was ∙ ap (λ (x : PlayFault). Err x) is)))
          (some_before c.args.o.now c.args.log.now old before first)),
    )

pub returns-in_err-play-clause-played : goal.returns-in_err-play-clause-played
returns-in_err-play-clause-played g c = λ told before first.
    let old : DiskView = g.D.Disk.view c.args.disk.now in
    let mid : DiskView = g.D.Disk.view c.read_ahead.new.disk in
    let new : DiskView = g.D.Disk.view c.check_uncut.new.disk in
    let log : ViewState = c.read_ahead.new.log in
    let rs : List Record = c.in_ok-piece.piece.records in
    let part = c.in_err-play.ensures.part in
    let at = (c.in_ok-piece.ensures.piece told before first).reached in (
      part.0,
      part.2,
      part_shown c.args.o.now c.args.log.now log old new before c.read_ahead.ensures.same.0 c.read_ahead.ensures.same.1 (reads_trans old mid new (c.read_ahead.ensures.reads told) (c.check_uncut.ensures.reads told))
          c.from_residual-in_err-play.result faults.Screen refl c.from_residual-in_err-play.ensures.1 rs part.0 (reached_stays log (before ++ rs) mid new (c.check_uncut.ensures.reads told) at)
          (subst (λ (xs : List Record). IsPart part.0 (play c.args.o.now xs)) c.as_slice.ensures part.1),
    )

pub returns-in-More-clause-played : goal.returns-in-More-clause-played
returns-in-More-clause-played g c = λ told before first.
    let old : DiskView = g.D.Disk.view c.args.disk.now in
    let mid : DiskView = g.D.Disk.view c.read_ahead.new.disk in
    let new : DiskView = g.D.Disk.view c.check_uncut.new.disk in
    let log : ViewState = c.read_ahead.new.log in
    let rs : List Record = c.in_ok-piece.piece.records in
    let at = (c.in_ok-piece.ensures.piece told before first).reached in (
      play c.args.o.now rs,
      λ shows. c.in_ok-play.ensures.shown shows ∙ ap (λ (xs : List Record). g.S.Screen.shown c.args.screen.now ++ play c.args.o.now xs) c.as_slice.ensures,
      goes_on c.args.o.now c.args.log.now log old new before c.read_ahead.ensures.same.0 c.read_ahead.ensures.same.1 (reads_trans old mid new (c.read_ahead.ensures.reads told) (c.check_uncut.ensures.reads told))
          rs (play c.args.o.now rs) refl (reached_stays log (before ++ rs) mid new (c.check_uncut.ensures.reads told) at),
    )

pub returns-in-End-clause-played : goal.returns-in-End-clause-played
returns-in-End-clause-played g c = λ told before first.
    let old : DiskView = g.D.Disk.view c.args.disk.now in
    let mid : DiskView = g.D.Disk.view c.read_ahead.new.disk in
    let new : DiskView = g.D.Disk.view c.check_uncut.new.disk in
    let log : ViewState = c.read_ahead.new.log in
    let rs : List Record = c.in_ok-piece.piece.records in
    let piece = c.in_ok-piece.ensures.piece told before first in
    let all : AreAll (laid_at log.number log.body mid.reads) log.body (before ++ rs) = subst (λ (n : Next). ComesNext (laid_at log.number log.body mid.reads) log.body (before ++ rs) n) c.in-End.is piece.next in (
      play c.args.o.now rs,
      λ shows. c.in_ok-play.ensures.shown shows ∙ ap (λ (xs : List Record). g.S.Screen.shown c.args.screen.now ++ play c.args.o.now xs) c.as_slice.ensures,
      ends_there c.args.o.now c.args.log.now log old new before c.read_ahead.ensures.same.0 c.read_ahead.ensures.same.1 (reads_trans old mid new (c.read_ahead.ensures.reads told) (c.check_uncut.ensures.reads told))
          rs (play c.args.o.now rs) refl (at_log (λ n b i. AreAll (laid_at n b i) b (before ++ rs)) log log mid new refl refl (c.check_uncut.ensures.reads told) all),
    )

pub returns-clause-played : goal.returns-clause-played
returns-clause-played g c = λ told before first.
    let old : DiskView = g.D.Disk.view c.args.disk.now in
    let mid : DiskView = g.D.Disk.view c.read_ahead.new.disk in
    let new : DiskView = g.D.Disk.view c.check_uncut.new.disk in
    let log : ViewState = c.read_ahead.new.log in
    let rs : List Record = c.in_ok-piece.piece.records in
    let piece = c.in_ok-piece.ensures.piece told before first in
    let fault : ComesNext (laid_at log.number log.body mid.reads) log.body (before ++ rs) (Fault c.in-Fault.fault) = subst (λ (n : Next). ComesNext (laid_at log.number log.body mid.reads) log.body (before ++ rs) n) c.in-Fault.is piece.next in (
      play c.args.o.now rs,
      λ shows. c.in_ok-play.ensures.shown shows ∙ ap (λ (xs : List Record). g.S.Screen.shown c.args.screen.now ++ play c.args.o.now xs) c.as_slice.ensures,
      stops_there c.args.o.now c.args.log.now log old new before c.read_ahead.ensures.same.0 c.read_ahead.ensures.same.1 (reads_trans old mid new (c.read_ahead.ensures.reads told) (c.check_uncut.ensures.reads told))
          rs (play c.args.o.now rs) c.in-Fault.fault c.from.result c.from.ensures refl (reached_stays log (before ++ rs) mid new (c.check_uncut.ensures.reads told) piece.reached)
          (at_log (λ n b i. ComesNext (laid_at n b i) b (before ++ rs) (Fault c.in-Fault.fault)) log log mid new refl refl (c.check_uncut.ensures.reads told) fault),
    )
