-- One connection begins, and what is answered of it.
use Rattle.std.proofs.Common.{◌≡◌, ◌∙◌, ap, rules, subst, sym}
use Rattle.lsv_dialogue.specs.declared.ends.End.{End}
use Rattle.lsv_dialogue.specs.declared.ends.TalkFault.{TalkFault}
use Rattle.std.proofs.Common.{Result}
use Rattle.lsv_relay.specs.Ends.{Talked}
use Rattle.lsv_relay.specs.Inner.{IsRelay}
use Rattle.lsv_relay.specs.Value.{RelayView, is_broken}
use Rattle.lsv_relay.specs.declared.fault.RelayFault.{RelayFault}
use Rattle.lsv_relay.proofs.Running.{continues, is_answered, leaves_at, leaves_unmarked, log, marks, not_done_at, over_stands, over_whole, spoke_begins, state, talked_run, touches, unbegun_wants, went}
use Rattle.lsv_relay.proofs.relay.Relay.run_one.Goals as goal

pub run-end-requires : goal.run-end-requires
run-end-requires g c = record {
  begun = (
    (c.args.disk.now, c.args.self.now),
    spoke_begins g.D.Disk.tells g.D.Disk.view c.args.disk.now c.args.self.now (c.requires.unbegun (sym c.is_done.ensures ∙ c.if-is_done.false) (ap is_broken (sym c.self.view_is) ∙ (sym c.is_broken.ensures ∙ c.if-is_broken.false))) (ap is_broken (sym c.self.view_is) ∙ (sym c.is_broken.ensures ∙ c.if-is_broken.false)) (subst (λ (r : RelayView). r.keeping.number ≡ r.number) c.self.view_is c.self.invariant.number)
        (λ told. g.met.D.Disk.only_now told c.args.disk.now) (λ told. c.requires.stands told (ap is_broken (sym c.self.view_is) ∙ (sym c.is_broken.ensures ∙ c.if-is_broken.false)))
        (λ told. leaves_at c.self.inside.core.keeping c.args.self.now (g.D.Disk.view c.args.disk.now) (ap (λ (r : RelayView). r.keeping) c.self.view_is) c.a_crash_leaves_what_stands.ensures (ap is_broken (sym c.self.view_is) ∙ (sym c.is_broken.ensures ∙ c.if-is_broken.false)) (not_done_at c.args.self.now (sym c.is_done.ensures ∙ c.if-is_done.false)) (c.requires.stands told (ap is_broken (sym c.self.view_is) ∙ (sym c.is_broken.ensures ∙ c.if-is_broken.false)))),
  );
  wants = λ start. unbegun_wants c.args.self.now (subst IsRelay c.self.view_is c.self.invariant) (c.requires.unbegun (sym c.is_done.ensures ∙ c.if-is_done.false) (ap is_broken (sym c.self.view_is) ∙ (sym c.is_broken.ensures ∙ c.if-is_broken.false))) (ap is_broken (sym c.self.view_is) ∙ (sym c.is_broken.ensures ∙ c.if-is_broken.false));
}

pub close-requires-clause-over : goal.close-requires-clause-over
close-requires-clause-over g c is =
    let t = talked_run g.D.Disk.tells g.L.Link.tells g.D.Disk.view c.args.disk.now c.args.self.now c.run-end.new.speaker c.run-end.new.world (g.L.Link.counts c.args.link.now) (g.L.Link.counts c.run-end.new.link) c.args.host.now (g.L.Link.state c.args.link.now) (g.L.Link.state c.run-end.new.link) c.run-end.result c.run-end.ensures.ended c.run-end.ensures.broke (spoke_begins g.D.Disk.tells g.D.Disk.view c.args.disk.now c.args.self.now (c.requires.unbegun (sym c.is_done.ensures ∙ c.if-is_done.false) (ap is_broken (sym c.self.view_is) ∙ (sym c.is_broken.ensures ∙ c.if-is_broken.false))) (ap is_broken (sym c.self.view_is) ∙ (sym c.is_broken.ensures ∙ c.if-is_broken.false)) (subst (λ (r : RelayView). r.keeping.number ≡ r.number) c.self.view_is c.self.invariant.number)
    (λ told. g.met.D.Disk.only_now told c.args.disk.now) (λ told. c.requires.stands told (ap is_broken (sym c.self.view_is) ∙ (sym c.is_broken.ensures ∙ c.if-is_broken.false)))
    (λ told. leaves_at c.self.inside.core.keeping c.args.self.now (g.D.Disk.view c.args.disk.now) (ap (λ (r : RelayView). r.keeping) c.self.view_is) c.a_crash_leaves_what_stands.ensures (ap is_broken (sym c.self.view_is) ∙ (sym c.is_broken.ensures ∙ c.if-is_broken.false)) (not_done_at c.args.self.now (sym c.is_done.ensures ∙ c.if-is_done.false)) (c.requires.stands told (ap is_broken (sym c.self.view_is) ∙ (sym c.is_broken.ensures ∙ c.if-is_broken.false))))) in
    over_whole g.D.Disk.tells g.L.Link.tells g.D.Disk.view c.args.disk.now c.args.self.now c.run-end.new.speaker c.run-end.new.world (g.L.Link.counts c.args.link.now) (g.L.Link.counts c.run-end.new.link) t.conn (subst (λ (e : Result End (TalkFault RelayFault)). Talked g.D.Disk.tells g.L.Link.tells g.D.Disk.view c.args.disk.now c.args.self.now e c.run-end.new.speaker c.run-end.new.world (g.L.Link.counts c.args.link.now) (g.L.Link.counts c.run-end.new.link) t.conn) is t.went)

pub close-requires-clause-stands : goal.close-requires-clause-stands
close-requires-clause-stands g c told is =
    let t = talked_run g.D.Disk.tells g.L.Link.tells g.D.Disk.view c.args.disk.now c.args.self.now c.run-end.new.speaker c.run-end.new.world (g.L.Link.counts c.args.link.now) (g.L.Link.counts c.run-end.new.link) c.args.host.now (g.L.Link.state c.args.link.now) (g.L.Link.state c.run-end.new.link) c.run-end.result c.run-end.ensures.ended c.run-end.ensures.broke (spoke_begins g.D.Disk.tells g.D.Disk.view c.args.disk.now c.args.self.now (c.requires.unbegun (sym c.is_done.ensures ∙ c.if-is_done.false) (ap is_broken (sym c.self.view_is) ∙ (sym c.is_broken.ensures ∙ c.if-is_broken.false))) (ap is_broken (sym c.self.view_is) ∙ (sym c.is_broken.ensures ∙ c.if-is_broken.false)) (subst (λ (r : RelayView). r.keeping.number ≡ r.number) c.self.view_is c.self.invariant.number)
    (λ told. g.met.D.Disk.only_now told c.args.disk.now) (λ told. c.requires.stands told (ap is_broken (sym c.self.view_is) ∙ (sym c.is_broken.ensures ∙ c.if-is_broken.false)))
    (λ told. leaves_at c.self.inside.core.keeping c.args.self.now (g.D.Disk.view c.args.disk.now) (ap (λ (r : RelayView). r.keeping) c.self.view_is) c.a_crash_leaves_what_stands.ensures (ap is_broken (sym c.self.view_is) ∙ (sym c.is_broken.ensures ∙ c.if-is_broken.false)) (not_done_at c.args.self.now (sym c.is_done.ensures ∙ c.if-is_done.false)) (c.requires.stands told (ap is_broken (sym c.self.view_is) ∙ (sym c.is_broken.ensures ∙ c.if-is_broken.false))))) in
    over_stands g.D.Disk.tells g.L.Link.tells g.D.Disk.view c.args.disk.now c.args.self.now c.run-end.new.speaker c.run-end.new.world (g.L.Link.counts c.args.link.now) (g.L.Link.counts c.run-end.new.link) t.conn (subst (λ (e : Result End (TalkFault RelayFault)). Talked g.D.Disk.tells g.L.Link.tells g.D.Disk.view c.args.disk.now c.args.self.now e c.run-end.new.speaker c.run-end.new.world (g.L.Link.counts c.args.link.now) (g.L.Link.counts c.run-end.new.link) t.conn) is t.went) told

pub returns : goal.returns
returns g c =
    let t = talked_run g.D.Disk.tells g.L.Link.tells g.D.Disk.view c.args.disk.now c.args.self.now c.run-end.new.speaker c.run-end.new.world (g.L.Link.counts c.args.link.now) (g.L.Link.counts c.run-end.new.link) c.args.host.now (g.L.Link.state c.args.link.now) (g.L.Link.state c.run-end.new.link) c.run-end.result c.run-end.ensures.ended c.run-end.ensures.broke (spoke_begins g.D.Disk.tells g.D.Disk.view c.args.disk.now c.args.self.now (c.requires.unbegun (sym c.is_done.ensures ∙ c.if-is_done.false) (ap is_broken (sym c.self.view_is) ∙ (sym c.is_broken.ensures ∙ c.if-is_broken.false))) (ap is_broken (sym c.self.view_is) ∙ (sym c.is_broken.ensures ∙ c.if-is_broken.false)) (subst (λ (r : RelayView). r.keeping.number ≡ r.number) c.self.view_is c.self.invariant.number)
    (λ told. g.met.D.Disk.only_now told c.args.disk.now) (λ told. c.requires.stands told (ap is_broken (sym c.self.view_is) ∙ (sym c.is_broken.ensures ∙ c.if-is_broken.false)))
    (λ told. leaves_at c.self.inside.core.keeping c.args.self.now (g.D.Disk.view c.args.disk.now) (ap (λ (r : RelayView). r.keeping) c.self.view_is) c.a_crash_leaves_what_stands.ensures (ap is_broken (sym c.self.view_is) ∙ (sym c.is_broken.ensures ∙ c.if-is_broken.false)) (not_done_at c.args.self.now (sym c.is_done.ensures ∙ c.if-is_done.false)) (c.requires.stands told (ap is_broken (sym c.self.view_is) ∙ (sym c.is_broken.ensures ∙ c.if-is_broken.false))))) in
    let undone = (sym c.is_done.ensures ∙ c.if-is_done.false) in
    let own = subst (λ (r : RelayView). r.keeping.number ≡ r.number) c.self-2.view_is c.self-2.invariant.number in
    let left = λ (told : g.D.Disk.tells). leaves_at c.self-2.inside.core.keeping c.run-end.new.speaker (g.D.Disk.view c.run-end.new.world) (ap (λ (r : RelayView). r.keeping) c.self-2.view_is) c.a_crash_leaves_what_stands-2.ensures in
    record {
      done = is_answered g.D.Disk.tells g.L.Link.tells g.D.Disk.view c.args.disk.now c.args.self.now c.run-end.new.speaker c.run-end.new.world (g.L.Link.counts c.args.link.now) (g.L.Link.counts c.run-end.new.link) t.conn c.close.new.self c.close.new.disk c.run-end.result c.close.result t.went c.close.ensures.closes c.close.ensures.cause undone (λ told. g.met.D.Disk.only_now told c.run-end.new.world);
      already = search rules;
      broken = search rules;
      went = λ _ whole. record { conn = t.conn; added = t.added; went = went g.D.Disk.tells g.L.Link.tells g.D.Disk.view c.args.disk.now c.args.self.now c.run-end.new.speaker c.run-end.new.world (g.L.Link.counts c.args.link.now) (g.L.Link.counts c.run-end.new.link) t.conn c.close.new.self c.close.new.disk c.run-end.result c.close.result t.went c.close.ensures.closes c.close.ensures.cause undone (λ told. g.met.D.Disk.only_now told c.run-end.new.world) };
      marked = λ told _. marks g.D.Disk.tells g.L.Link.tells g.D.Disk.view c.args.disk.now c.args.self.now c.run-end.new.speaker c.run-end.new.world (g.L.Link.counts c.args.link.now) (g.L.Link.counts c.run-end.new.link) t.conn c.close.new.self c.close.new.disk c.run-end.result c.close.result t.went c.close.ensures.closes c.close.ensures.cause undone (λ told. g.met.D.Disk.only_now told c.run-end.new.world) c.what_is_kept_is_one.ensures.once c.what_is_kept_is_one.ensures.marked (λ told. g.met.D.Disk.reads_itself told c.close.new.disk) own left told;
      unmarked = λ told _ whole. leaves_unmarked g.D.Disk.tells g.L.Link.tells g.D.Disk.view c.args.disk.now c.args.self.now c.run-end.new.speaker c.run-end.new.world (g.L.Link.counts c.args.link.now) (g.L.Link.counts c.run-end.new.link) t.conn c.close.new.self c.close.new.disk c.run-end.result c.close.result t.went c.close.ensures.closes c.close.ensures.cause undone (λ told. g.met.D.Disk.only_now told c.run-end.new.world) c.what_is_kept_is_one.ensures.once c.what_is_kept_is_one.ensures.marked (λ told. g.met.D.Disk.reads_itself told c.close.new.disk) own left told;
      touches = λ told _ whole. touches g.D.Disk.tells g.L.Link.tells g.D.Disk.view c.args.disk.now c.args.self.now c.run-end.new.speaker c.run-end.new.world (g.L.Link.counts c.args.link.now) (g.L.Link.counts c.run-end.new.link) t.conn c.close.new.self c.close.new.disk c.run-end.result c.close.result t.went c.close.ensures.closes c.close.ensures.cause undone (λ told. g.met.D.Disk.only_now told c.run-end.new.world) told;
      log = log g.D.Disk.tells g.L.Link.tells g.D.Disk.view c.args.disk.now c.args.self.now c.run-end.new.speaker c.run-end.new.world (g.L.Link.counts c.args.link.now) (g.L.Link.counts c.run-end.new.link) t.conn c.close.new.self c.close.new.disk c.run-end.result c.close.result t.went c.close.ensures.closes c.close.ensures.cause undone (λ told. g.met.D.Disk.only_now told c.run-end.new.world);
      state = state g.D.Disk.tells g.L.Link.tells g.D.Disk.view c.args.disk.now c.args.self.now c.run-end.new.speaker c.run-end.new.world (g.L.Link.counts c.args.link.now) (g.L.Link.counts c.run-end.new.link) t.conn c.close.new.self c.close.new.disk c.run-end.result c.close.result t.went c.close.ensures.closes c.close.ensures.cause undone (λ told. g.met.D.Disk.only_now told c.run-end.new.world);
      continues = continues g.D.Disk.tells g.L.Link.tells g.D.Disk.view c.args.disk.now c.args.self.now c.run-end.new.speaker c.run-end.new.world (g.L.Link.counts c.args.link.now) (g.L.Link.counts c.run-end.new.link) t.conn c.close.new.self c.close.new.disk c.run-end.result c.close.result t.went c.close.ensures.closes c.close.ensures.cause undone (λ told. g.met.D.Disk.only_now told c.run-end.new.world);
    }
