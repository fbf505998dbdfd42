-- Ledgers of a port, over several calls.
use Rattle.std.proofs.Common.{◌≡◌, List, [], ◌++◌, refl, sym, ap, ◌∙◌, append-nil, append_assoc, arith}
use Rattle.lsv_port.specs.Ledger.{AreMore, Continues, GoesOn, Noted, PortLedger}

-- nothing was called
pub continues_same : (port : PortLedger) → Continues port port
continues_same port = record { script = refl; listens = refl; turned = λ e. e; deaf = refl; turns = omega arith; links = λ l. omega arith }

-- two calls in a row
pub continues_then : (before mid now : PortLedger) → Continues before mid → Continues mid now → Continues before now
continues_then before mid now first second = record {
  script = second.script ∙ first.script;
  listens = second.listens ∙ first.listens;
  turned = λ e. second.turned (first.turned e);
  deaf = second.deaf ∙ first.deaf;
  turns = omega (arith, first.turns, second.turns);
  links = λ l. omega (arith, first.links l, second.links l);
}

more_none : (old new : List Noted) → new ≡ old → AreMore old new
more_none old new e = record { more = []; are = e ∙ sym (append-nil old) }

more_then : (before mid now : List Noted) → AreMore before mid → AreMore mid now → AreMore before now
more_then before mid now first second = record {
  more = first.more ++ second.more;
  are = second.are ∙ ap (λ (l : List Noted). l ++ second.more) first.are ∙ append_assoc before first.more second.more;
}

-- a port that was asked to listen on nothing more goes on
pub goes_on : (before now : PortLedger) → Continues before now → GoesOn before now
goes_on before now h = record { script = h.script; listens = more_none before.listens now.listens h.listens; turned = h.turned; deaf = omega (arith, h.deaf); turns = h.turns; links = h.links }

pub goes_on_same : (port : PortLedger) → GoesOn port port
goes_on_same port = goes_on port port (continues_same port)

pub goes_on_then : (before mid now : PortLedger) → GoesOn before mid → GoesOn mid now → GoesOn before now
goes_on_then before mid now first second = record {
  script = second.script ∙ first.script;
  listens = more_then before.listens mid.listens now.listens first.listens second.listens;
  turned = λ e. second.turned (first.turned e);
  deaf = omega (arith, first.deaf, second.deaf);
  turns = omega (arith, first.turns, second.turns);
  links = λ l. omega (arith, first.links l, second.links l);
}
