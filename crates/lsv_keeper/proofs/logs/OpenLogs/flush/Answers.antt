use Rattle.std.proofs.Common.{◌≡◌, ◌∙◌, ℕ, nat_eq, Option, None, Some, ap, subst, sym, rules, false, true}
use Rattle.std.specs.Prelude.{is_err}
use Rattle.std.specs.HashMap as hash
use Rattle.lsv_iolog.specs.Represents.{Represents}
use Rattle.lsv_keeper.specs.Logs.{Flushes, open_logs, with_open}
use Rattle.lsv_keeper.specs.declared.logs.OpenLog.{OpenLog}
use Rattle.lsv_keeper.proofs.Opens.{flush_cause, one_open, put_at, put_twice}
use Rattle.lsv_keeper.proofs.Causes.{at_each, log_rose}
use Rattle.lsv_keeper.proofs.logs.OpenLogs.flush.Goals as goal

pub returns-in-Ok : goal.returns-in-Ok
returns-in-Ok g c = record {
  flushed = λ told its value here at.
      let n = c.args.log in
      let old : ℕ → Option OpenLog = open_logs c.args.self.now in
      let its_now : OpenLog = c.in_ok-its.its.now in
      let after : OpenLog = record { log = c.flush.new.self; mask = its_now.mask } in
      let look : old n ≡ Some its_now = ap (λ (k : ℕ). hash.get nat_eq c.args.self.now.map k) (sym c.get.ensures.value) ∙ sym c.in_ok-its.ensures.value in
      let same : its_now ≡ its = one_open old n its_now its look here in
      let at' : Represents its_now.log value (g.D.Disk.view c.args.disk.now) = subst (λ (o : OpenLog). Represents o.log value (g.D.Disk.view c.args.disk.now)) (sym same) at in
      let mid : hash.get nat_eq (c.get_mut.follows.lender after) ≡ with_open n (Some after) old =
      put_at old (hash.get nat_eq (c.get_mut.follows.lender after)) c.get.result n (Some after) c.get.ensures.value ((c.get_mut.follows.holds after).3 (search rules)).0 in
      subst (λ (o : OpenLog). Flushes n o value (Some c.in-Ok.point) old (hash.get nat_eq (c.get_mut.follows.lender after)) (g.D.Disk.view c.args.disk.now) (g.D.Disk.view c.flush.new.disk)) same (record {
        moments = c.flush.ensures.any_moment told value at';
        calls = c.flush.ensures.calls told;
        monotone = c.flush.ensures.cause.monotone;
        leaves = (c.in-Ok.ensures.elapsed, (c.flush.new.self, c.flush.ensures.counts.number, c.in-Ok.ensures.represents told value at', mid));
      });
  keeps =
      let n = c.args.log in
      let old : ℕ → Option OpenLog = open_logs c.args.self.now in
      let its_now : OpenLog = c.in_ok-its.its.now in
      let after : OpenLog = record { log = c.flush.new.self; mask = its_now.mask } in
      let look : old n ≡ Some its_now = ap (λ (k : ℕ). hash.get nat_eq c.args.self.now.map k) (sym c.get.ensures.value) ∙ sym c.in_ok-its.ensures.value in
      let mid : hash.get nat_eq (c.get_mut.follows.lender after) ≡ with_open n (Some after) old =
      put_at old (hash.get nat_eq (c.get_mut.follows.lender after)) c.get.result n (Some after) c.get.ensures.value ((c.get_mut.follows.holds after).3 (search rules)).0 in
      record { monotone = c.flush.ensures.cause.monotone; flushed = (after, c.in-Ok.ensures.whole.1, at_each (hash.get nat_eq (c.get_mut.follows.lender after)) (with_open n (Some after) old) mid) };
}

pub returns-in-Err : goal.returns-in-Err
returns-in-Err g c = record {
  flushed = λ told its value here at.
      let n = c.args.log in
      let old : ℕ → Option OpenLog = open_logs c.args.self.now in
      let its_now : OpenLog = c.in_ok-its.its.now in
      let after : OpenLog = record { log = c.flush.new.self; mask = its_now.mask } in
      let look : old n ≡ Some its_now = ap (λ (k : ℕ). hash.get nat_eq c.args.self.now.map k) (sym c.get.ensures.value) ∙ sym c.in_ok-its.ensures.value in
      let same : its_now ≡ its = one_open old n its_now its look here in
      let at' : Represents its_now.log value (g.D.Disk.view c.args.disk.now) = subst (λ (o : OpenLog). Represents o.log value (g.D.Disk.view c.args.disk.now)) (sym same) at in
      let mid : hash.get nat_eq (c.get_mut.follows.lender after) ≡ with_open n (Some after) old =
      put_at old (hash.get nat_eq (c.get_mut.follows.lender after)) c.get.result n (Some after) c.get.ensures.value ((c.get_mut.follows.holds after).3 (search rules)).0 in
      subst (λ (o : OpenLog). Flushes n o value None old (open_logs c.take.new.self) (g.D.Disk.view c.args.disk.now) (g.D.Disk.view c.flush.new.disk)) same (record {
        moments = c.flush.ensures.any_moment told value at';
        calls = c.flush.ensures.calls told;
        monotone = c.flush.ensures.cause.monotone;
        leaves = (
          c.take.ensures.rest ∙ ap (λ (f : ℕ → Option OpenLog). with_open n None f) mid ∙ put_twice old n (Some after) None,
          flush_cause c.flush.result _ c.flush.ensures.fault c.flush.ensures.cause.risen
              (λ broken. let e : false ≡ true = sym at'.whole ∙ c.flush.ensures.broken.0 broken in cc) (ap is_err c.in-Err.is),
        );
      });
  keeps =
      let n = c.args.log in
      let old : ℕ → Option OpenLog = open_logs c.args.self.now in
      let its_now : OpenLog = c.in_ok-its.its.now in
      let after : OpenLog = record { log = c.flush.new.self; mask = its_now.mask } in
      let look : old n ≡ Some its_now = ap (λ (k : ℕ). hash.get nat_eq c.args.self.now.map k) (sym c.get.ensures.value) ∙ sym c.in_ok-its.ensures.value in
      let mid : hash.get nat_eq (c.get_mut.follows.lender after) ≡ with_open n (Some after) old =
      put_at old (hash.get nat_eq (c.get_mut.follows.lender after)) c.get.result n (Some after) c.get.ensures.value ((c.get_mut.follows.holds after).3 (search rules)).0 in
      record {
        monotone = c.flush.ensures.cause.monotone;
        flushed = (
          at_each (open_logs c.take.new.self) (with_open n None old) (c.take.ensures.rest ∙ ap (λ (f : ℕ → Option OpenLog). with_open n None f) mid ∙ put_twice old n (Some after) None),
          λ its here whole.
              let same : its_now ≡ its = one_open old n its_now its look here in
              log_rose its_now.log.number (g.D.Disk.view c.args.disk.now) (g.D.Disk.view c.flush.new.disk) (flush_cause c.flush.result _ c.flush.ensures.fault c.flush.ensures.cause.risen
              (λ broken. let e : false ≡ true = sym (subst (λ (o : OpenLog). o.log.is_broken ≡ false) (sym same) whole) ∙ c.flush.ensures.broken.0 broken in cc) (ap is_err c.in-Err.is)),
        );
      };
}
