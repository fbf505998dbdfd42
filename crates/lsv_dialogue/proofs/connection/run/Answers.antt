use Rattle.std.proofs.Common.{sym, ◌∙◌, subst}
use Rattle.std.proofs.lemmas.Result.{IfErr-weaker, IfOk-weaker}
use Rattle.lsv_link.specs.Link.{LinkCounts, open_of, unused}
use Rattle.std.specs.Prelude.{false}
use Rattle.lsv_dialogue.specs.Ends.{Broke, Ended}
use Rattle.lsv_dialogue.proofs.RunLemmas.{adds_closed_by, adds_refused_by, ended_unreached, fresh_by, not_err, same_counts}
use Rattle.lsv_dialogue.proofs.connection.run.Goals as goal

pub returns-then-is_err-clause-ended : goal.returns-then-is_err-clause-ended
returns-then-is_err-clause-ended g c = λ start talks.
    let failed = sym c.is_err.ensures.value ∙ c.if-is_err.true in
    record {
      conn = unused c.args.host.now false;
      added = λ t. adds_refused_by c.connect.result c.args.host.now _ _ failed (c.connect.ensures.change t);
      went = ended_unreached (g.S.Speaker.manner start) g.L.Link.tells _ _ _ _ c.args.host.now talks (c.requires.wants start) c.connect.ensures.cause.continues (c.connect.ensures.cause.risen failed) (record { full = c.connect.ensures.cause.full; waits = c.connect.ensures.cause.waits });
    }

pub converse-ended-requires-clause-fresh : goal.converse-ended-requires-clause-fresh
converse-ended-requires-clause-fresh g c = λ t. fresh_by c.connect.result c.args.host.now _ _ (sym c.is_err.ensures.value ∙ c.if-is_err.false) (c.connect.ensures.change t)

pub returns-clause-ended : goal.returns-clause-ended
returns-clause-ended g c =
    let went = sym c.is_err.ensures.value ∙ c.if-is_err.false in
    let before = same_counts (g.L.Link.counts c.args.link.now) (g.L.Link.counts c.connect.new.self) (c.connect.ensures.cause.made (not_err c.connect.result went)) c.connect.ensures.cause.full c.connect.ensures.cause.waits in
    IfOk-weaker c.converse-ended.result _ _
    (λ end h start talks.
    record {
      conn = open_of (g.L.Link.state c.converse-ended.new.link);
      added = λ t. adds_closed_by c.connect.result c.args.host.now _ _ _ _ went (c.connect.ensures.change t) (c.converse-ended.ensures.stays t) (c.close.ensures.change t);
      went = subst (λ (x : LinkCounts). Ended (g.S.Speaker.manner start) g.L.Link.tells c.converse-ended.new.speaker c.converse-ended.new.world (g.L.Link.counts c.args.link.now) x (open_of (g.L.Link.state c.converse-ended.new.link)) end) (sym c.close.ensures.same)
          (subst (λ (x : LinkCounts). Ended (g.S.Speaker.manner start) g.L.Link.tells c.converse-ended.new.speaker c.converse-ended.new.world x (g.L.Link.counts c.converse-ended.new.link) (open_of (g.L.Link.state c.converse-ended.new.link)) end) before (h start talks));
    })
    c.converse-ended.ensures.ended

pub returns-clause-broke : goal.returns-clause-broke
returns-clause-broke g c =
    let went = sym c.is_err.ensures.value ∙ c.if-is_err.false in
    let before = same_counts (g.L.Link.counts c.args.link.now) (g.L.Link.counts c.connect.new.self) (c.connect.ensures.cause.made (not_err c.connect.result went)) c.connect.ensures.cause.full c.connect.ensures.cause.waits in
    IfErr-weaker c.converse-ended.result _ _
    (λ fault h start talks.
    record {
      conn = open_of (g.L.Link.state c.converse-ended.new.link);
      added = λ t. adds_closed_by c.connect.result c.args.host.now _ _ _ _ went (c.connect.ensures.change t) (c.converse-ended.ensures.stays t) (c.close.ensures.change t);
      went = subst (λ (x : LinkCounts). Broke (g.S.Speaker.manner start) g.L.Link.tells c.converse-ended.new.speaker c.converse-ended.new.world (g.L.Link.counts c.args.link.now) x (open_of (g.L.Link.state c.converse-ended.new.link)) fault) (sym c.close.ensures.same)
          (subst (λ (x : LinkCounts). Broke (g.S.Speaker.manner start) g.L.Link.tells c.converse-ended.new.speaker c.converse-ended.new.world x (g.L.Link.counts c.converse-ended.new.link) (open_of (g.L.Link.state c.converse-ended.new.link)) fault) before (h start talks));
    })
    c.converse-ended.ensures.broke
