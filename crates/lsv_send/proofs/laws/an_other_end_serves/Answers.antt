use Rattle.std.proofs.Common.{◌≡◌, ◌∙◌, ◌++◌, [], List, Option, Some, sym, ap, subst, append-nil}
use Rattle.std.specs.List.{AllByRecursion}
use Rattle.lsv_dialogue.specs.Events.{heard, said}
use Rattle.lsv_msg.specs.Fitting.{FitsClient}
use Rattle.lsv_msg.specs.declared.messages.ClientMessage.{ClientMessage}
use Rattle.lsv_msg.specs.declared.messages.ServerMessage.{ServerMessage}
use Rattle.lsv_transcript.specs.Plan.{Plan}
use Rattle.lsv_transcript.specs.Transcript.{all_of}
use Rattle.lsv_upstream.specs.Talked.{IsTalked}
use Rattle.lsv_send.proofs.Held.{came_there}
use Rattle.lsv_send.proofs.Stored.{stored_sent}
use Rattle.lsv_send.proofs.laws.an_other_end_serves.Goals as goal

one_plan : (a b : Plan) → Some a ≡ Some b → a ≡ b
one_plan a b is = cc

pub returns : goal.returns
returns g c = λ source image out conn log exit opened skips holds exit_is w tells plan plan_is n before r k other.
    let there = came_there w.far _ _ w.ended.cause.has in
    let s = stored_sent source image w.far w.ended.events log exit opened skips holds exit_is w.ended.talks there in
    let same : s.0 ≡ plan = one_plan s.0 plan (sym s.1 ∙ plan_is) in
    let all : said w.ended.events ≡ all_of plan.transcript = s.2.said_is ∙ ap (λ (p : Plan). all_of p.transcript) same in
    let m = w.ended.matches in
    let p = m.puts in
    let talked : IsTalked (all_of plan.transcript) (heard w.ended.events) r k = record {
      talk = record { events = w.ended.events; refused = w.ended.refused; rest = w.ended.rest; conn = conn; before = out.before; after = out.after };
      hears = m.hears tells;
      puts = record { front = p.front; unsent = p.unsent; is = p.is; sendable = p.sendable; bytes = λ _. p.bytes tells };
      fits = subst (λ (l : List ClientMessage). AllByRecursion FitsClient l) (sym all) other.fits;
      later = [];
      says = append-nil (said w.ended.events) ∙ all;
      reads = ap (λ (l : List ServerMessage). heard w.ended.events ++ l) w.ended.cause.left ∙ append-nil (heard w.ended.events);
      other = other.other;
    } in
    record {
      lane = other.lane;
      runs = other.runs;
      brings = c.a_conversation_is_a_visit.ensures.brings (all_of plan.transcript) (heard w.ended.events) r k talked;
      reads = c.a_conversation_is_a_visit.ensures.reads (all_of plan.transcript) (heard w.ended.events) r k talked;
      writing = other.writing;
      alike = other.alike;
    }
