use Rattle.std.proofs.Common.{true, false, refl, sym, ap, subst, ◌∙◌, inr}
use Rattle.lsv_port.specs.Port.{LinkState, after_read, closed, is_over}
use Rattle.lsv_port.specs.declared.port.Took.TheVariants as took
use Rattle.lsv_live.specs.Ends.{EndStands}
use Rattle.lsv_live.proofs.EndLemmas.{alone_change, alone_then, stands_closed}
use Rattle.lsv_live.proofs.end.End.read.Goals as goal

pub returns-in-Bytes-clause-step : goal.returns-in-Bytes-clause-step
returns-in-Bytes-clause-step g c = λ told.
    let s = (g.P.Port.state c.args.port.now).link c.args.self.now.number in
    let change = c.in-Bytes.ensures.change told in
    record {
      number = c.take.ensures.same.0;
      alone = alone_change c.args.self.now.number (after_read (took.Bytes c.in-Bytes.count) c.read.new.buf s) (g.P.Port.state c.args.port.now) (g.P.Port.state c.read.new.self) change;
      goes = λ taken said h. subst (λ (x : LinkState). EndStands c.take.new.self x taken said) (sym change.this) (c.take.ensures.goes s (after_read (took.Bytes c.in-Bytes.count) c.read.new.buf s) taken said refl h);
    }

pub returns-in-Failed-clause-step : goal.returns-in-Failed-clause-step
returns-in-Failed-clause-step g c = λ told.
    let n = c.args.self.now.number in
    let s = (g.P.Port.state c.args.port.now).link n in
    let over = is_over (g.P.Port.state c.read.new.self) in
    let first = c.in-Failed.ensures.change told in
    let then = c.close.ensures.change told in
    record {
      number = c.close.ensures.is.number;
      alone = alone_then n (g.P.Port.state c.args.port.now) (g.P.Port.state c.read.new.self) (g.P.Port.state c.close.new.port)
          (alone_change n (after_read took.Failed c.read.new.buf s) (g.P.Port.state c.args.port.now) (g.P.Port.state c.read.new.self) first)
          (alone_change n (closed over ((g.P.Port.state c.read.new.self).link n)) (g.P.Port.state c.read.new.self) (g.P.Port.state c.close.new.port) then);
      goes = λ taken said h. subst (λ (x : LinkState). EndStands c.close.new.self x taken said) (sym (then.this ∙ ap (closed over) first.this))
          (stands_closed c.args.self.now c.close.new.self s false s.full true true true over taken said c.requires.open c.close.ensures.is (λ e. refl) (λ e. inr refl) (λ e. refl) (λ e. refl) h);
    }
