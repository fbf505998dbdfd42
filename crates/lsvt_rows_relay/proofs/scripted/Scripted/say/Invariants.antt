use Rattle.std.proofs.Common.{◌≡◌, length}
use Rattle.lsvt_rows_relay.proofs.scripted.Scripted.say.Given as goal

-- a message for each round
abbrev pub invariant-loop : goal.invariant-loop
invariant-loop l = length l.messages.items ≡ l.counter
