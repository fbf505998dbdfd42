-- Piece after piece is put; the last one, or a fault, ends the playing.
use Rattle.std.proofs.Common.{◌≡◌, ◌∙◌, ◌++◌, List, Result, Ok, Err, refl, ap, subst, arith}
use Rattle.std.specs.Prelude.{Bool, true, false}
use Rattle.lsv_disk.specs.View.{DiskView}
use Rattle.lsv_disk.proofs.Composition.{reads_trans}
use Rattle.lsv_play.specs.Ahead.{PlaysOn}
use Rattle.lsv_play.specs.Playing.{laid_at}
use Rattle.lsv_play.specs.Schedule.{play}
use Rattle.lsv_play.specs.declared.fault.PlayFault.{PlayFault}
use Rattle.lsv_play.specs.declared.fault.PlayFault.TheVariants as faults
use Rattle.lsv_play.proofs.Pieces.{error_of, loop_ends, piece_ends, playing_goes_on, playing_starts, so_far}
use Rattle.lsv_play.proofs.Played.{err_same, memory_no_disk, memory_no_screen, ok_no_err, own_cause, own_none, screen_cause, screen_none}
use Rattle.lsv_play.proofs.playing.play_records.Goals as goal

pub pieces-init : goal.pieces-init
pieces-init g c =
    playing_starts g.D.Disk.tells g.S.Screen.tells c.args.o.now c.args.log.now (g.D.Disk.view c.args.disk.now) (g.S.Screen.shown c.args.screen.now) (g.S.Screen.faults c.args.screen.now)
    (λ told. g.met.D.Disk.only_now told c.args.disk.now)

pub pieces-preserved : goal.pieces-preserved
pieces-preserved g c =
    playing_goes_on g.D.Disk.tells g.S.Screen.tells c.args.o.now c.args.log.now c.pieces.log c.play_piece.new.log (g.D.Disk.view c.args.disk.now) (g.D.Disk.view c.pieces.disk) (g.D.Disk.view c.play_piece.new.disk)
    (g.S.Screen.shown c.args.screen.now) (g.S.Screen.shown c.pieces.screen) (g.S.Screen.shown c.play_piece.new.screen)
    (g.S.Screen.faults c.args.screen.now) (g.S.Screen.faults c.pieces.screen) (g.S.Screen.faults c.play_piece.new.screen) c.pieces.invariant
    c.play_piece.ensures.same.0 c.play_piece.ensures.same.1 (λ told. c.play_piece.ensures.reads told) c.play_piece.ensures.disk.monotone c.play_piece.ensures.screen.monotone
    (λ told rs first. let one = c.play_piece.ensures.played told rs first in (
      one.0,
      one.1,
      subst (λ (r : Result Bool PlayFault). PlaysOn c.args.o.now c.pieces.log c.play_piece.new.log (g.D.Disk.view c.pieces.disk) (g.D.Disk.view c.play_piece.new.disk) rs r one.0)
          (c.in_ok-is_end.was ∙ ap (λ (b : Bool). let r : Result Bool PlayFault = Ok b in r) c.if-is_end.false) one.2,
    ))

pub returns-in_err-is_end-clause-played : goal.returns-in_err-is_end-clause-played
returns-in_err-is_end-clause-played g c told first =
    let now : DiskView = g.D.Disk.view c.pieces.disk in
    let e : PlayFault = c.in_err-is_end.field-0.0 in
    let so = so_far g.D.Disk.tells g.S.Screen.tells c.args.o.now c.args.log.now c.pieces.log (g.D.Disk.view c.args.disk.now) now (g.S.Screen.shown c.args.screen.now) (g.S.Screen.shown c.pieces.screen)
    (g.S.Screen.faults c.args.screen.now) (g.S.Screen.faults c.pieces.screen) c.pieces.invariant told first in
    let one = c.play_piece.ensures.played told so.0 so.1 in
    let plays = subst (λ (r : Result Bool PlayFault). PlaysOn c.args.o.now c.pieces.log c.play_piece.new.log now (g.D.Disk.view c.play_piece.new.disk) so.0 r one.0) c.in_err-is_end.was one.2 in
    let puts = piece_ends g.D.Disk.tells g.S.Screen.tells c.args.o.now c.args.log.now c.pieces.log (g.D.Disk.view c.args.disk.now) now (g.S.Screen.shown c.args.screen.now) (g.S.Screen.shown c.pieces.screen)
    (g.S.Screen.faults c.args.screen.now) (g.S.Screen.faults c.pieces.screen) c.pieces.invariant told first c.from_residual.result (g.S.Screen.shown c.play_piece.new.screen) one.0 one.1
    (error_of c.args.o.now (laid_at c.pieces.log.number c.pieces.log.body now.reads) c.pieces.log.body c.from_residual.result e (play c.args.o.now so.0 ++ one.0) c.from_residual.ensures.1 plays) in
    (puts.put, puts.put_is, puts.plays)

pub returns-in_err-is_end-clause-reads : goal.returns-in_err-is_end-clause-reads
returns-in_err-is_end-clause-reads g c told = reads_trans (g.D.Disk.view c.args.disk.now) (g.D.Disk.view c.pieces.disk) (g.D.Disk.view c.play_piece.new.disk) (c.pieces.invariant.reads told) (c.play_piece.ensures.reads told)

pub returns-in_err-is_end-clause-disk : goal.returns-in_err-is_end-clause-disk
returns-in_err-is_end-clause-disk g c =
    own_cause c.args.log.now.number c.pieces.log.number _ _ (g.D.Disk.view c.args.disk.now) (g.D.Disk.view c.pieces.disk) (g.D.Disk.view c.play_piece.new.disk) c.pieces.invariant.number c.pieces.invariant.disk c.play_piece.ensures.disk
    (λ is. c.in_err-is_end.was ∙ ap (λ (x : PlayFault). let r : Result Bool PlayFault = Err x in r) (err_same c.from_residual.result c.in_err-is_end.field-0.0 faults.Disk c.from_residual.ensures.1 is))

pub returns-in_err-is_end-clause-screen : goal.returns-in_err-is_end-clause-screen
returns-in_err-is_end-clause-screen g c =
    screen_cause _ _ (g.S.Screen.faults c.args.screen.now) (g.S.Screen.faults c.pieces.screen) (g.S.Screen.faults c.play_piece.new.screen) c.pieces.invariant.screen c.play_piece.ensures.screen
    (λ is. c.in_err-is_end.was ∙ ap (λ (x : PlayFault). let r : Result Bool PlayFault = Err x in r) (err_same c.from_residual.result c.in_err-is_end.field-0.0 faults.Screen c.from_residual.ensures.1 is))

pub returns-then-is_end-clause-played : goal.returns-then-is_end-clause-played
returns-then-is_end-clause-played g c told first =
    let now : DiskView = g.D.Disk.view c.pieces.disk in
    let end : Result (Unit {0}) PlayFault = Ok tt in
    let so = so_far g.D.Disk.tells g.S.Screen.tells c.args.o.now c.args.log.now c.pieces.log (g.D.Disk.view c.args.disk.now) now (g.S.Screen.shown c.args.screen.now) (g.S.Screen.shown c.pieces.screen)
    (g.S.Screen.faults c.args.screen.now) (g.S.Screen.faults c.pieces.screen) c.pieces.invariant told first in
    let one = c.play_piece.ensures.played told so.0 so.1 in
    let plays = subst (λ (r : Result Bool PlayFault). PlaysOn c.args.o.now c.pieces.log c.play_piece.new.log now (g.D.Disk.view c.play_piece.new.disk) so.0 r one.0)
    (c.in_ok-is_end.was ∙ ap (λ (b : Bool). let r : Result Bool PlayFault = Ok b in r) c.if-is_end.true) one.2 in
    let puts = piece_ends g.D.Disk.tells g.S.Screen.tells c.args.o.now c.args.log.now c.pieces.log (g.D.Disk.view c.args.disk.now) now (g.S.Screen.shown c.args.screen.now) (g.S.Screen.shown c.pieces.screen)
    (g.S.Screen.faults c.args.screen.now) (g.S.Screen.faults c.pieces.screen) c.pieces.invariant told first end (g.S.Screen.shown c.play_piece.new.screen) one.0 one.1 plays in
    (puts.put, puts.put_is, puts.plays)

pub returns-then-is_end-clause-reads : goal.returns-then-is_end-clause-reads
returns-then-is_end-clause-reads g c told = reads_trans (g.D.Disk.view c.args.disk.now) (g.D.Disk.view c.pieces.disk) (g.D.Disk.view c.play_piece.new.disk) (c.pieces.invariant.reads told) (c.play_piece.ensures.reads told)

pub returns-then-is_end-clause-disk : goal.returns-then-is_end-clause-disk
returns-then-is_end-clause-disk g c =
    own_cause c.args.log.now.number c.pieces.log.number _ _ (g.D.Disk.view c.args.disk.now) (g.D.Disk.view c.pieces.disk) (g.D.Disk.view c.play_piece.new.disk) c.pieces.invariant.number c.pieces.invariant.disk c.play_piece.ensures.disk
    (λ is. absurd (ok_no_err _ (tt {0}) faults.Disk refl is))

pub returns-then-is_end-clause-screen : goal.returns-then-is_end-clause-screen
returns-then-is_end-clause-screen g c =
    screen_none _ (g.S.Screen.faults c.args.screen.now) (g.S.Screen.faults c.play_piece.new.screen) (omega (arith, c.pieces.invariant.screen, c.play_piece.ensures.screen.monotone)) (λ is. ok_no_err _ (tt {0}) faults.Screen refl is)

pub returns-clause-played : goal.returns-clause-played
returns-clause-played g c told first =
    let ended : Result (Unit {0}) PlayFault = Err faults.NoMem in
    let puts = loop_ends g.D.Disk.tells g.S.Screen.tells c.args.o.now c.args.log.now c.pieces.log (g.D.Disk.view c.args.disk.now) (g.D.Disk.view c.pieces.disk) (g.S.Screen.shown c.args.screen.now) (g.S.Screen.shown c.pieces.screen)
    (g.S.Screen.faults c.args.screen.now) (g.S.Screen.faults c.pieces.screen) c.pieces.invariant told first ended refl in
    (puts.put, puts.put_is, puts.plays)

pub returns-clause-reads : goal.returns-clause-reads
returns-clause-reads g c told = c.pieces.invariant.reads told

pub returns-clause-disk : goal.returns-clause-disk
returns-clause-disk g c =
    own_none c.args.log.now.number _ (g.D.Disk.view c.args.disk.now) (g.D.Disk.view c.pieces.disk) c.pieces.invariant.disk (λ is. memory_no_disk (err_same _ faults.NoMem faults.Disk refl is))

pub returns-clause-screen : goal.returns-clause-screen
returns-clause-screen g c =
    screen_none _ (g.S.Screen.faults c.args.screen.now) (g.S.Screen.faults c.pieces.screen) c.pieces.invariant.screen (λ is. memory_no_screen (err_same _ faults.NoMem faults.Screen refl is))
