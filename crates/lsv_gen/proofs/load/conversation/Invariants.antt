use Rattle.std.proofs.Common.{◌≡◌, ◌∷◌}
use Rattle.lsv_gen.specs.Load as load
use Rattle.lsv_gen.proofs.load.conversation.Given as goal

-- the messages so far, and how long the outputs among them take
abbrev pub invariant-loop-before : goal.invariant-loop-before
invariant-loop-before l = record {
  out : l.out ≡ load.frames (load.hello ∷ load.accept l.i ∷ load.outputs l.before);
  duration : l.duration ≡ load.duration l.before;
}
