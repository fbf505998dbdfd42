use Rattle.std.proofs.Common.{◌≡◌, ◌∷◌, ◌++◌, [], Some, sym, ◌∙◌, subst, map, None, refl, arith, ap, rules}
use Rattle.lsv_session.specs.declared.connection.ConnId.{ConnId}
use Rattle.lsv_session.specs.declared.connection.ConnState.TheVariants.{Dead}
use Rattle.lsv_machine.specs.Answers.{CommitPoint, reply_of, say}
use Rattle.lsv_machine.specs.Failures.{IsRefused}
use Rattle.lsv_keeper.specs.Leaving.{Departs}
use Rattle.lsv_keeper.specs.Views.{view_of}
use Rattle.lsv_keeper.proofs.TailRows.{committed_gives, lost_gives}
use Rattle.lsv_keeper.proofs.Syncing.{flushed_one}
use Rattle.lsv_keeper.proofs.Causes.{departs_goes, does_none, one_flushed, taken_then, waits_failed, waits_open}
use Rattle.lsv_keeper.proofs.Saying.{says_as, says_none, says_point, says_told}
use Rattle.lsv_keeper.specs.Causes.{IsAmong, StoreRose}
use Rattle.lsv_machine.proofs.Choices.{SomeOr.nothing, SomeOr.just, some_or}
use Rattle.lsv_keeper.specs.Value.{log_in}
use Rattle.lsv_request.specs.declared.refusal.Refusal.TheVariants.{DeviceFault}
use Rattle.lsv_keeper.specs.declared.outcome.Outcome.TheVariants as outcome
use Rattle.lsv_machine.specs.Machine.{without_log}
use Rattle.lsv_keeper.proofs.keeper.Keeper.flush_log.Goals as goal

one_conn : (j k : ConnId) → Some j ≡ Some k → j ≡ k
one_conn j k e = cc

pub returns-in-Some-flush-clause-log : goal.returns-in-Some-flush-clause-log
returns-in-Some-flush-clause-log g c = λ told m k at own.
    let k_is : c.in-Some.conn ≡ k = one_conn c.in-Some.conn k (c.in-Some.ensures ∙ sym (at.owner c.args.number) ∙ own) in
    committed_gives c.args.number k c.in-Some-flush.point (view_of c.args.self.now) c.flush.new.self m (g.D.Disk.view c.args.disk.now) (g.D.Disk.view c.flush.new.disk) c.args.out.now.items c.put_point.new.out.items
    (record { reads_itself = g.met.D.Disk.reads_itself told c.args.disk.now; is_now = g.met.D.Disk.is_now told c.args.disk.now; only_now = g.met.D.Disk.only_now told c.args.disk.now })
    (record { reads_itself = g.met.D.Disk.reads_itself told c.flush.new.disk; is_now = g.met.D.Disk.is_now told c.flush.new.disk; only_now = g.met.D.Disk.only_now told c.flush.new.disk }) at own
    (λ its value here rep. c.in-Some-flush.ensures.flushed told its value here rep)
    (subst (λ (j : ConnId). c.put_point.new.out.items ≡ c.args.out.now.items ++ map reply_of (say j (CommitPoint c.in-Some-flush.point) ∷ [])) k_is c.put_point.ensures.items)

pub returns-in-None-clause-log : goal.returns-in-None-clause-log
returns-in-None-clause-log g c = λ told m k at own.
    let k_is : c.in-Some.conn ≡ k = one_conn c.in-Some.conn k (c.in-Some.ensures ∙ sym (at.owner c.args.number) ∙ own) in
    lost_gives c.args.number k (view_of c.args.self.now) (view_of c.release.new.self) c.flush.new.self m (g.D.Disk.view c.args.disk.now) (g.D.Disk.view c.flush.new.disk) c.args.out.now.items c.put_replies.new.out.items c.put_replies.ensures.answers
    (record { reads_itself = g.met.D.Disk.reads_itself told c.args.disk.now; is_now = g.met.D.Disk.is_now told c.args.disk.now; only_now = g.met.D.Disk.only_now told c.args.disk.now })
    (record { reads_itself = g.met.D.Disk.reads_itself told c.flush.new.disk; is_now = g.met.D.Disk.is_now told c.flush.new.disk; only_now = g.met.D.Disk.only_now told c.flush.new.disk }) at own
    (λ its value here rep. c.in-None.ensures.flushed told its value here rep)
    (subst (λ (j : ConnId). Departs (Some c.args.number) j Dead (record (view_of c.args.self.now) { logs = c.flush.new.self }) (view_of c.release.new.self)) k_is c.release.ensures.departs)
    c.release.ensures.logs
    (subst (λ (j : ConnId). IsRefused j c.put_replies.ensures.answers) k_is c.put_replies.ensures.says)
    c.put_replies.ensures.items

pub returns-in_default-clause-frame : goal.returns-in_default-clause-frame
returns-in_default-clause-frame g c = record {
  set = record { lane = refl; lanes = refl; log_exit = refl; kind = refl; texts = refl };
  waiting = c.requires.none_waits;
  noting = refl;
  places = omega arith;
  replies = omega arith;
  syncs = search rules;
  does = does_none (λ none. none);
  waits = λ p n it. it;
}

pub returns-in_default-clause-says : goal.returns-in_default-clause-says
returns-in_default-clause-says g c p it whole = says_none (IsAmong p) _ c.args.out.now.items

pub returns-in-Some-flush-clause-frame : goal.returns-in-Some-flush-clause-frame
returns-in-Some-flush-clause-frame g c = record {
  set = record { lane = refl; lanes = refl; log_exit = refl; kind = refl; texts = refl };
  waiting = c.requires.none_waits;
  noting = refl;
  places = omega arith;
  replies = let r = c.put_point.ensures.room in omega (arith, r);
  syncs = λ told m k at own. flushed_one c.args.number k (view_of c.args.self.now) (Some c.in-Some-flush.point) _ _ m (g.D.Disk.view c.args.disk.now) (g.D.Disk.view c.flush.new.disk) at own (λ its value here rep. c.in-Some-flush.ensures.flushed told its value here rep);
  does =
      let k = c.in-Some-flush.ensures.keeps in
      let (its, whole, are) = k.flushed in
      one_flushed c.args.number its (view_of c.args.self.now) c.flush.new.self (g.D.Disk.view c.args.disk.now) (g.D.Disk.view c.flush.new.disk) k.monotone whole are;
  waits = λ p n it.
      let (its, whole, are) = c.in-Some-flush.ensures.keeps.flushed in
      waits_open p c.args.number its (view_of c.args.self.now) (record (view_of c.args.self.now) { logs = c.flush.new.self }) refl are n it;
}

pub returns-in-Some-flush-clause-says : goal.returns-in-Some-flush-clause-says
returns-in-Some-flush-clause-says g c p it whole =
    let mine = it c.in-Some.conn (sym c.in-Some.ensures) in
    says_as (λ j. j ≡ c.in-Some.conn) (IsAmong p) (λ j. ⊥) _ c.args.out.now.items c.put_point.new.out.items (λ j is. subst (IsAmong p) (sym is) mine.0) (λ j is none. absurd none) (says_point c.in-Some.conn c.in-Some-flush.point c.args.out.now.items c.put_point.new.out.items c.put_point.ensures.items)

pub returns-in-None-clause-frame : goal.returns-in-None-clause-frame
returns-in-None-clause-frame g c = record {
  set = let b = c.release.ensures.departs.beside in record { lane = b.lane; lanes = b.lanes; log_exit = b.log_exit; kind = b.kind; texts = b.texts };
  waiting = c.release.ensures.departs.waiting ∙ ap (without_log (Some c.args.number)) c.requires.none_waits;
  noting = c.release.ensures.departs.beside.noting;
  places = c.release.ensures.room;
  replies = c.put_replies.ensures.room;
  syncs = λ told m k at own. flushed_one c.args.number k (view_of c.args.self.now) None _ _ m (g.D.Disk.view c.args.disk.now) (g.D.Disk.view c.flush.new.disk) at own (λ its value here rep. c.in-None.ensures.flushed told its value here rep);
  does =
      let k = c.in-None.ensures.keeps in
      taken_then c.args.number c.flush.new.self (λ all none. absurd none) k.flushed.0
      (departs_goes c.args.number c.in-Some.conn Dead (record (view_of c.args.self.now) { logs = c.flush.new.self }) (view_of c.release.new.self) (g.D.Disk.view c.args.disk.now) (g.D.Disk.view c.flush.new.disk) refl c.release.ensures.departs c.release.ensures.logs (λ linked. sym c.in-Some.ensures) k.monotone);
  waits = λ p n it.
      waits_failed p c.args.number c.in-Some.conn Dead (view_of c.args.self.now) c.flush.new.self (view_of c.release.new.self) refl c.release.ensures.departs c.release.ensures.logs c.in-None.ensures.keeps.flushed.0 n it;
}

pub returns-in-None-clause-says : goal.returns-in-None-clause-says
returns-in-None-clause-says g c p it whole =
    let mine = it c.in-Some.conn (sym c.in-Some.ensures) in
    let t = c.put_replies.ensures in
    let rose : StoreRose (g.D.Disk.view c.args.disk.now) (g.D.Disk.view c.flush.new.disk) = elim (some_or (log_in (view_of c.args.self.now) c.args.number)) [
      | nothing none ↦ absurd (mine.1 none)
      | just its here ↦ c.in-None.ensures.keeps.flushed.1 its here (whole c.args.number its here)
    ] in
    says_as (λ j. j ≡ c.in-Some.conn) (IsAmong p) _ _ c.args.out.now.items c.put_replies.new.out.items (λ j is. subst (IsAmong p) (sym is) mine.0) (λ j is e. rose) (says_told c.in-Some.conn (outcome.Refused DeviceFault) t.answers c.args.out.now.items c.put_replies.new.out.items t.says t.items)
