use Rattle.std.proofs.Common.{◌≡◌, ◌∙◌, ◌≤◌, ◌+◌, ◌%◌, ◌++◌, ◌∷◌, ap, length, subst, sym, arith}
use Rattle.lsv_gen.specs.Load.{accept, duration, frames, hello, outputs}
use Rattle.lsv_msg.specs.Messages.{client_bytes}
use Rattle.lsv_msg.specs.declared.messages.ClientMessage.{ClientMessage}
use Rattle.lsv_wire.specs.Frame.{frame_of}
use Rattle.lsv_gen.proofs.Short.{accept_short, exit_short, hello_short, output_short}
use Rattle.lsv_gen.proofs.Sums.{duration_more, duration_short, frames_end, frames_more}
use Rattle.lsv_gen.proofs.load.conversation.Goals as goal

pub overflow_add-duration-in-loop-before : goal.overflow_add-duration-in-loop-before
overflow_add-duration-in-loop-before c =
    let short = duration_short c.loop-before.before (omega arith) in
    let is = c.loop-before.invariant.duration in
    omega arith

pub loop-before-preserved : goal.loop-before-preserved
loop-before-preserved c = record {
  out = frames_more c.args.i c.loop-before.before c.loop-before.out c.put-in-loop-before.new.out c.loop-before.invariant.out
      (c.in_ok-put-3.ensures ∙ ap (λ (m : ClientMessage). c.loop-before.out ++ frame_of (client_bytes m)) c.in_ok-output.ensures);
  duration = ap (λ d. d + (c.loop-before.before + 1)) c.loop-before.invariant.duration ∙ sym (duration_more c.loop-before.before);
}

pub exit-requires-clause-short : goal.exit-requires-clause-short
exit-requires-clause-short c =
    let short = duration_short c.loop-before.before (omega arith) in
    let is = c.loop-before.invariant.duration in
    omega arith

pub exit-requires-clause-duration : goal.exit-requires-clause-duration
exit-requires-clause-duration c =
    let all : c.loop-before.before ≡ c.args.i % 50 + 1 = omega arith in
    c.loop-before.invariant.duration ∙ ap duration all

pub returns : goal.returns
returns c =
    let all : c.loop-before.before ≡ c.args.i % 50 + 1 = omega arith in
    frames_end c.args.i c.loop-before.out c.put-3.new.out (c.loop-before.invariant.out ∙ ap (λ n. frames (hello ∷ accept c.args.i ∷ outputs n)) all)
    (c.in_ok-put-4.ensures ∙ ap (λ (m : ClientMessage). c.loop-before.out ++ frame_of (client_bytes m)) c.in_ok-exit.ensures)

pub put-requires : goal.put-requires
put-requires c = let P : ClientMessage → Type 0 = λ m. length (client_bytes m) ≤ 2097152 in subst P (sym c.in_ok-hello.ensures) hello_short

pub put-requires-2 : goal.put-requires-2
put-requires-2 c = let P : ClientMessage → Type 0 = λ m. length (client_bytes m) ≤ 2097152 in subst P (sym c.in_ok-accept.ensures) (accept_short c.args.i)

pub put-requires-in-loop-before : goal.put-requires-in-loop-before
put-requires-in-loop-before c =
    let P : ClientMessage → Type 0 = λ m. length (client_bytes m) ≤ 2097152 in subst P (sym c.in_ok-output.ensures) (output_short (c.loop-before.before + 1))

pub put-requires-3 : goal.put-requires-3
put-requires-3 c = let P : ClientMessage → Type 0 = λ m. length (client_bytes m) ≤ 2097152 in subst P (sym c.in_ok-exit.ensures) (exit_short c.args.i)
