-- A restart that is refused at once, accepted, or refused by what is found.
use Rattle.std.proofs.Common.{arith, ◌≡◌, List, true, false, refl, sym, ◌∙◌, ap, subst, inl, None}
use Rattle.std.specs.Prelude.{is_some}
use Rattle.lsv_request.specs.declared.request.Request.TheVariants as request
use Rattle.lsv_session.specs.Table.{Sessions}
use Rattle.lsv_session.specs.declared.connection.ConnId.{ConnId}
use Rattle.lsv_session.specs.declared.connection.ConnState.TheVariants.{Dead}
use Rattle.lsv_machine.specs.Answers.{Answer}
use Rattle.lsv_machine.specs.Failures.{AsksFor}
use Rattle.lsv_machine.specs.Machine.{is_dead}
use Rattle.lsv_keeper.specs.Rows.{NamesLog, Left, RowIs, AnswersWith}
use Rattle.lsv_keeper.specs.Value.{Owns, sessions_of}
use Rattle.lsv_keeper.specs.Views.{view_of}
use Rattle.lsv_keeper.specs.declared.outcome.Outcome.TheVariants as outcome
use Rattle.lsv_keeper.proofs.Reopening.{fault_stands}
use Rattle.lsv_keeper.proofs.RestartRows.{in_use, none_of, refused_row}
use Rattle.lsv_keeper.proofs.ResumedRows.{resumed_row}
use Rattle.lsv_keeper.proofs.Restarting.{asks_restart}
use Rattle.lsv_keeper.proofs.Syncing.{followed, of_none, owns_one, resumed_one, wider}
use Rattle.lsv_keeper.proofs.Causes.{does_caused, does_free, does_reserved, owns_does, quiet_then, quiet_told, refused_is, still, then_quiet}
use Rattle.lsv_request.specs.declared.refusal.Refusal.TheVariants.{DeviceFault, LogInUse}
use Rattle.lsv_keeper.proofs.SparingLemmas.{spares_none, spares_refused, spares_resumed}
use Rattle.lsv_disk.specs.View.{DiskView}
use Rattle.lsv_request.specs.declared.request.Restart.{Restart}
use Rattle.lsv_keeper.specs.Syncing.{GoesOnWith, Syncs}
use Rattle.lsv_keeper.specs.Value.{KeeperView}
use Rattle.lsv_keeper.proofs.Beginning.{reserved_keeps}
use Rattle.lsv_keeper.proofs.Making.{keeps_then}
use Rattle.lsv_keeper.proofs.keeper.Keeper.restart.Goals as goal

pub enter_state-requires-clause-stands : goal.enter_state-requires-clause-stands
enter_state-requires-clause-stands g c told =
    let old = c.requires.stands told in
    let one = c.resume.new.disk in
    let free = old.1.owner c.args.restart.log ∙ (sym c.owner.ensures ∙ none_of c.owner.result (sym c.is_some.ensures ∙ c.if-is_some.false)) in
    fault_stands (view_of c.args.self.now) (view_of c.resume.new.self) (g.D.Disk.view c.args.disk.now) (g.D.Disk.view one) old.0 c.args.restart.log c.args.restart.point
    (record { reads_itself = g.met.D.Disk.reads_itself told c.args.disk.now; is_now = g.met.D.Disk.is_now told c.args.disk.now; only_now = g.met.D.Disk.only_now told c.args.disk.now })
    (record { reads_itself = g.met.D.Disk.reads_itself told one; is_now = g.met.D.Disk.is_now told one; only_now = g.met.D.Disk.only_now told one })
    old.1 c.resume.ensures.reserved.same free c.in-Err.fault (c.in-Err.ensures.resumed.fault told)

-- what is synced for a restart of this log
of_log : (restart : Restart) (v v' : KeeperView) (old new : DiskView) → Syncs (λ n. n ≡ restart.log) v v' old new → Syncs (GoesOnWith (request.Restart restart)) v v' old new
of_log restart v v' old new s = wider (λ n. n ≡ restart.log) (GoesOnWith (request.Restart restart)) v v' old new (λ n e. (restart, refl, e)) s

pub returns-then-is_some : goal.returns-then-is_some
returns-then-is_some g c = record {
  done = λ now. record {
    keeps = (c.refuse.ensures.done now).frame.keeps;
    named = subst NamesLog (sym c.refuse.ensures.is) tt;
    row = λ told m job at conn asks.
        let a = asks_restart m job c.args.restart (subst (λ (k : ConnId). AsksFor (m.states k) job.body (request.Restart c.args.restart)) (sym conn) asks) in
        let owned : is_some (m.owner c.args.restart.log) ≡ true = ap is_some (at.owner c.args.restart.log ∙ sym c.owner.ensures) ∙ (sym c.is_some.ensures ∙ c.if-is_some.true) in
        (c.refuse.ensures.done now).row told m job at conn (subst (λ (k : ConnId). is_dead (m.states k) ≡ false) conn a.living, refl, in_use (view_of c.args.self.now) now m job c.args.restart c.args.conn conn a owned);
    syncs = λ told m at. of_log c.args.restart _ _ _ _ (of_none _ _ _ _ _ ((c.refuse.ensures.done now).frame.syncs told m at));
    spared = λ told m at. spares_none (view_of c.args.self.now) (view_of c.refuse.new.self) (g.D.Disk.view c.args.disk.now) (g.D.Disk.view c.refuse.new.disk) m at ((c.refuse.ensures.done now).frame.syncs told m at);
    does = does_free (quiet_told (λ e. let f : outcome.Refused LogInUse ≡ outcome.Refused DeviceFault = sym c.refuse.ensures.is ∙ e in cc) (c.refuse.ensures.done now).frame.does);
  };
}

pub returns-in-Ok : goal.returns-in-Ok
returns-in-Ok g c = record {
  done = λ now. record {
    keeps = keeps_then (view_of c.args.self.now) (view_of c.resume.new.self) (view_of c.own.new.self) (reserved_keeps (view_of c.args.self.now) (view_of c.resume.new.self) c.resume.ensures.reserved.same) c.resume.ensures.reserved.same.room_is c.own.ensures.keeps (let e = c.own.ensures.owed in omega arith);
    named = tt;
    row = λ told m job at conn asks answers tells.
        let one = c.resume.new.disk in
        let a = asks_restart m job c.args.restart (subst (λ (k : ConnId). AsksFor (m.states k) job.body (request.Restart c.args.restart)) (sym conn) asks) in
        let free = at.owner c.args.restart.log ∙ (sym c.owner.ensures ∙ none_of c.owner.result (sym c.is_some.ensures ∙ c.if-is_some.false)) in
        let owns = c.own.ensures.owns (ap (λ (s : Sessions). s.owner c.args.restart.log) c.resume.ensures.reserved.same.sessions_are ∙ (sym (at.owner c.args.restart.log) ∙ free)) in
        subst (λ (said : List Answer). RowIs (view_of c.args.self.now) now job said m (view_of c.own.new.self) (g.D.Disk.view c.args.disk.now) (g.D.Disk.view one)) (sym tells)
        (resumed_row (view_of c.args.self.now) (view_of c.resume.new.self) (view_of c.own.new.self) (g.D.Disk.view c.args.disk.now) (g.D.Disk.view one) m job now c.args.restart c.in-Ok.its
        (record { reads_itself = g.met.D.Disk.reads_itself told c.args.disk.now; is_now = g.met.D.Disk.is_now told c.args.disk.now; only_now = g.met.D.Disk.only_now told c.args.disk.now })
        (record { reads_itself = g.met.D.Disk.reads_itself told one; is_now = g.met.D.Disk.is_now told one; only_now = g.met.D.Disk.only_now told one })
        at c.resume.ensures.reserved.same a free c.resume.ensures.resumed.monotone (c.in-Ok.ensures.resumed.resumed told)
        (subst (λ (k : ConnId). Owns k c.args.restart.log c.in-Ok.its (view_of c.resume.new.self) (view_of c.own.new.self)) (sym conn) owns) c.own.ensures.keeps);
    syncs = λ told m at. of_log c.args.restart _ _ _ _ (
        let v = view_of c.args.self.now in
        let v1 = view_of c.resume.new.self in
        let n = c.args.restart.log in
        let old = g.D.Disk.view c.args.disk.now in
        let one = g.D.Disk.view c.resume.new.disk in
        let free = at.owner n ∙ (sym c.owner.ensures ∙ none_of c.owner.result (sym c.is_some.ensures ∙ c.if-is_some.false)) in
        let resumed = resumed_one n v v1 old one c.resume.ensures.reserved.same (c.resume.ensures.resumed.syncs told) in
        let owns = c.own.ensures.owns (ap (λ (s : Sessions). s.owner n) c.resume.ensures.reserved.same.sessions_are ∙ (sym (at.owner n) ∙ free)) in
        followed (λ i. i ≡ n) v v1 (view_of c.own.new.self) old one one resumed (owns_one n c.args.conn c.in-Ok.its v1 (view_of c.own.new.self) one owns));
    spared = λ told m at.
        spares_resumed c.args.restart.log c.args.restart.point (view_of c.args.self.now) (view_of c.resume.new.self) (g.D.Disk.view c.args.disk.now) (g.D.Disk.view c.resume.new.disk) m at (c.resume.ensures.resumed.syncs told)
        (view_of c.args.self.now).texts c.in-Ok.its (c.in-Ok.ensures.resumed.resumed told);
    does = does_free (
        let free : (sessions_of (view_of c.resume.new.self)).owner c.args.restart.log ≡ None = (ap (λ (s : Sessions). s.owner c.args.restart.log) c.resume.ensures.reserved.same.sessions_are ∙ (sym c.owner.ensures ∙ none_of c.owner.result (sym c.is_some.ensures ∙ c.if-is_some.false))) in
        quiet_then (λ e. absurd (cc)) (does_reserved {b = g.D.Disk.view c.resume.new.disk} (λ none. none) c.resume.ensures.resumed.monotone c.resume.ensures.reserved.same) (owns_does free c.in-Ok.ensures.resumed.whole (c.own.ensures.owns free) (still (g.D.Disk.view c.resume.new.disk))));
  };
}

pub returns-in-Err : goal.returns-in-Err
returns-in-Err g c = record {
  done = λ now. record {
    keeps = keeps_then (view_of c.args.self.now) (view_of c.resume.new.self) (view_of c.enter_state.new.self) (reserved_keeps (view_of c.args.self.now) (view_of c.resume.new.self) c.resume.ensures.reserved.same) c.resume.ensures.reserved.same.room_is c.enter_state.ensures.frame.keeps c.enter_state.ensures.enters.shrinks;
    named = tt;
    row = λ told m job at conn asks answers tells.
        let one = c.resume.new.disk in
        let a = asks_restart m job c.args.restart (subst (λ (k : ConnId). AsksFor (m.states k) job.body (request.Restart c.args.restart)) (sym conn) asks) in
        let free = at.owner c.args.restart.log ∙ (sym c.owner.ensures ∙ none_of c.owner.result (sym c.is_some.ensures ∙ c.if-is_some.false)) in
        refused_row (view_of c.args.self.now) (view_of c.resume.new.self) (view_of c.enter_state.new.self) (g.D.Disk.view c.args.disk.now) (g.D.Disk.view one) (g.D.Disk.view c.enter_state.new.disk) m job now c.args.restart
        (record { reads_itself = g.met.D.Disk.reads_itself told c.args.disk.now; is_now = g.met.D.Disk.is_now told c.args.disk.now; only_now = g.met.D.Disk.only_now told c.args.disk.now })
        (record { reads_itself = g.met.D.Disk.reads_itself told one; is_now = g.met.D.Disk.is_now told one; only_now = g.met.D.Disk.only_now told one })
        at c.resume.ensures.reserved.same a free c.resume.ensures.resumed.monotone c.in-Err.fault (c.in-Err.ensures.resumed.fault told)
        (λ m1 at1. subst (λ (k : ConnId). Left k Dead (view_of c.resume.new.self) m1 (view_of c.enter_state.new.self) (g.D.Disk.view one) (g.D.Disk.view c.enter_state.new.disk)) (sym conn) (c.enter_state.ensures.left told m1 at1))
        answers (subst (λ why. AnswersWith job.conn (outcome.Refused why) answers) c.restart_refusal.ensures tells);
    syncs = λ told m at. of_log c.args.restart _ _ _ _ (
        let v = view_of c.args.self.now in
        let v1 = view_of c.resume.new.self in
        let n = c.args.restart.log in
        let old = g.D.Disk.view c.args.disk.now in
        let one = g.D.Disk.view c.resume.new.disk in
        let free = at.owner n ∙ (sym c.owner.ensures ∙ none_of c.owner.result (sym c.is_some.ensures ∙ c.if-is_some.false)) in
        let resumed = resumed_one n v v1 old one c.resume.ensures.reserved.same (c.resume.ensures.resumed.syncs told) in
        let two = g.D.Disk.view c.enter_state.new.disk in
        let stands = fault_stands v v1 old one m n c.args.restart.point
        (record { reads_itself = g.met.D.Disk.reads_itself told c.args.disk.now; is_now = g.met.D.Disk.is_now told c.args.disk.now; only_now = g.met.D.Disk.only_now told c.args.disk.now })
        (record { reads_itself = g.met.D.Disk.reads_itself told c.resume.new.disk; is_now = g.met.D.Disk.is_now told c.resume.new.disk; only_now = g.met.D.Disk.only_now told c.resume.new.disk })
        at c.resume.ensures.reserved.same free c.in-Err.fault (c.in-Err.ensures.resumed.fault told) in
        followed (λ i. i ≡ n) v v1 (view_of c.enter_state.new.self) old one two resumed (of_none (λ i. i ≡ n) v1 (view_of c.enter_state.new.self) one two (c.enter_state.ensures.frame.syncs told stands.0 stands.1)));
    spared = λ told m at.
        let v = view_of c.args.self.now in
        let v1 = view_of c.resume.new.self in
        let n = c.args.restart.log in
        let old = g.D.Disk.view c.args.disk.now in
        let one = g.D.Disk.view c.resume.new.disk in
        let free = at.owner n ∙ (sym c.owner.ensures ∙ none_of c.owner.result (sym c.is_some.ensures ∙ c.if-is_some.false)) in
        let stands = fault_stands v v1 old one m n c.args.restart.point
        (record { reads_itself = g.met.D.Disk.reads_itself told c.args.disk.now; is_now = g.met.D.Disk.is_now told c.args.disk.now; only_now = g.met.D.Disk.only_now told c.args.disk.now })
        (record { reads_itself = g.met.D.Disk.reads_itself told c.resume.new.disk; is_now = g.met.D.Disk.is_now told c.resume.new.disk; only_now = g.met.D.Disk.only_now told c.resume.new.disk })
        at c.resume.ensures.reserved.same free c.in-Err.fault (c.in-Err.ensures.resumed.fault told) in
        spares_refused n c.args.restart.point v v1 old one m at (c.resume.ensures.resumed.syncs told) (view_of c.enter_state.new.self) (g.D.Disk.view c.enter_state.new.disk) c.in-Err.fault c.resume.ensures.reserved.same (c.in-Err.ensures.resumed.fault told)
        (c.enter_state.ensures.frame.syncs told stands.0 stands.1);
    does = does_free (
        then_quiet (λ e. sym c.restart_refusal.ensures ∙ refused_is c.restart_refusal.result e)
        (does_caused (λ all is. inl (c.in-Err.ensures.resumed.cause is)) (does_reserved (λ none. none) c.resume.ensures.resumed.monotone c.resume.ensures.reserved.same)) c.enter_state.ensures.frame.does);
  };
}
