use Rattle.std.proofs.Common.{◌≡◌, ◌≢◌, ℕ, true, sym, ap, subst, ◌∙◌, rules}
use Rattle.lsv_port.specs.Port.{LinkState, closed, is_over}
use Rattle.lsv_live.specs.declared.end.End.{End}
use Rattle.lsv_live.specs.Ends.{EndStands}
use Rattle.lsv_live.proofs.EndLemmas.{alone_change, alone_then, stands_broke}
use Rattle.lsv_live.proofs.end.End.send.Goals as goal

pub returns-then-write_out-clause-step : goal.returns-then-write_out-clause-step
returns-then-write_out-clause-step g c = λ told.
    let n = c.args.self.now.number in
    let here : c.args.self.now.is_open ≡ true = search rules in
    let number : c.write_out.new.self.number ≡ n = ap (λ (e : End). e.number) c.write_out.ensures.is in
    let first = c.write_out.ensures.alone told in
    let then = c.close.ensures.change told in
    let over = is_over (g.P.Port.state c.write_out.new.port) in
    let s = (g.P.Port.state c.args.port.now).link n in
    let t = (g.P.Port.state c.write_out.new.port).link n in
    let at : (g.P.Port.state c.close.new.port).link n ≡ closed over t = subst (λ (k : ℕ). (g.P.Port.state c.close.new.port).link k ≡ closed over ((g.P.Port.state c.write_out.new.port).link k)) number then.this in
    record {
      number = c.close.ensures.is.number ∙ number;
      alone = alone_then n (g.P.Port.state c.args.port.now) (g.P.Port.state c.write_out.new.port) (g.P.Port.state c.close.new.port) first
          (alone_change n (closed over t) (g.P.Port.state c.write_out.new.port) (g.P.Port.state c.close.new.port) (record { this = at; others = subst (λ (k : ℕ). (m : ℕ) → m ≢ k → (g.P.Port.state c.close.new.port).link m ≡ (g.P.Port.state c.write_out.new.port).link m) number then.others; opened = then.opened; stopped = then.stopped; failed = then.failed }));
      goes = λ taken said h. subst (λ (x : LinkState). EndStands c.close.new.self x taken said) (sym at)
          (stands_broke c.args.self.now c.write_out.new.self c.close.new.self s t over taken said (c.write_out.ensures.writes told) (c.write_out.ensures.failed told c.if-write_out.true) here c.close.ensures.is h);
    }
