use Rattle.std.proofs.Common.{◌++◌, List, ℕ, sym, ◌∙◌, ap, subst, take, arith}
use Rattle.lsv_link.specs.Link.{LinkCounts}
use Rattle.lsv_port.specs.declared.port.Gave.TheVariants as gave
use Rattle.lsv_dialogue.specs.Stands.{HasPut, Writes}
use Rattle.lsv_dialogue.proofs.LinkLemmas.{continues_then, stays_connected, taken_front, writes_more, writes_one, writes_renewed, written_renewed}
use Rattle.lsv_dialogue.proofs.put.write_all.Goals as goal

pub writes-preserved : goal.writes-preserved
writes-preserved g c =
    let (front, is, wrote) = c.writes.invariant.puts in
    let whole = taken_front c.args.bytes.now front c.writes.rest.now c.in-Bytes.count is in
    let more : g.L.Link.tells → Writes (front ++ take c.in-Bytes.count c.writes.rest.now) (g.L.Link.state c.args.link.now) (g.L.Link.state c.write.new.self) =
    λ t. writes_more front (take c.in-Bytes.count c.writes.rest.now) (g.L.Link.state c.args.link.now) (g.L.Link.state c.writes.link) (g.L.Link.state c.write.new.self) (wrote t)
    (writes_one c.in-Bytes.count c.writes.rest.now (g.L.Link.state c.writes.link) (g.L.Link.state c.write.new.self) (c.writes.invariant.connected t) (c.in-Bytes.ensures.change t)) in
    let all : g.L.Link.tells → Writes (front ++ take c.in-Bytes.count c.writes.rest.now) (g.L.Link.state c.args.link.now) (g.L.Link.state c.renew_past-left.new.link) =
    λ t. writes_renewed (front ++ take c.in-Bytes.count c.writes.rest.now) c.renew_past-left.result _ _ _ (more t) (c.renew_past-left.ensures.renews t) in
    record {
      puts = (front ++ take c.in-Bytes.count c.writes.rest.now, whole ∙ ap (λ (x : List ℕ). (front ++ take c.in-Bytes.count c.writes.rest.now) ++ x) (sym c.split_at.ensures.back), all);
      spent = λ t. let old = c.writes.invariant.spent t in let same = written_renewed (gave.Bytes c.in-Bytes.count) c.writes.rest.now (g.L.Link.state c.writes.link) (g.L.Link.state c.write.new.self) (c.writes.invariant.connected t) (c.in-Bytes.ensures.change t) in let new = (c.renew_past-left.ensures.renews t).renewed in let few = c.renew_past-left.ensures.few in omega (arith, old, same, new, few);
      connected = λ t. stays_connected (g.L.Link.state c.args.link.now) (g.L.Link.state c.renew_past-left.new.link) (all t).stays;
      counts = subst (λ (x : LinkCounts). HasPut (Unit {0}) (Unit {0}) (g.L.Link.counts c.args.link.now) x) (sym c.renew_past-left.ensures.same) (record {
        continues = continues_then _ _ _ c.writes.invariant.counts.continues c.in-Bytes.ensures.cause.continues;
        faults = λ t. c.in-Bytes.ensures.cause.answered (λ e. cc) ∙ c.writes.invariant.counts.faults tt;
        full = λ t. c.in-Bytes.ensures.cause.put (λ e. cc) ∙ c.writes.invariant.counts.full tt;
        waits = c.in-Bytes.ensures.cause.waits ∙ c.writes.invariant.counts.waits;
      });
    }
