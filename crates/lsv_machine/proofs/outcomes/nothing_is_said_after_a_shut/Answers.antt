use Rattle.std.proofs.Common.{inl, inr}
use Rattle.lsv_machine.proofs.Silent.{silence, step_sound, tail_sound}
use Rattle.lsv_machine.proofs.outcomes.nothing_is_said_after_a_shut.Goals as goal

pub returns : goal.returns
returns c = record {
  dead = λ set k h m end s d e r. silence set k h m end s (inl (d, e)) r;
  gone = λ set k h m end s d e j r. silence set k h m end s (inr (d, e, j)) r;
  job = step_sound;
  tail = tail_sound;
}
