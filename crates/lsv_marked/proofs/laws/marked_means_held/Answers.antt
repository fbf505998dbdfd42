use Rattle.std.proofs.Common.{◌≡◌, ◌∙◌, ◌++◌, inl, inr, ℕ, Bool, List, Option, Some, Ok, sym, ap, subst, append-nil}
use Rattle.std.specs.List.{AllByRecursion}
use Rattle.std.specs.Prelude.{if◌then◌else◌}
use Rattle.lsv_dialogue.specs.Events.{heard, said}
use Rattle.lsv_dialogue.specs.declared.ends.Wants.TheVariants as wants
use Rattle.lsv_info.specs.declared.times.Exit.{Exit}
use Rattle.lsv_iolog.specs.Recovered.{HoldsLog}
use Rattle.lsv_iolog.proofs.Replaying.{local_replay}
use Rattle.lsv_msg.specs.Fitting.{FitsClient}
use Rattle.lsv_msg.specs.declared.messages.ClientMessage.{ClientMessage}
use Rattle.lsv_msg.specs.declared.messages.ServerMessage.{ServerMessage}
use Rattle.lsv_record.specs.Records.{elapsed}
use Rattle.lsv_relay.proofs.Stored.{part_said}
use Rattle.lsv_relay.specs.Transcripts.{begins_at}
use Rattle.lsv_relay.specs.Value.{state_of}
use Rattle.lsv_transcript.specs.Transcript.{KeptPlace, all_of, may_say, relayed}
use Rattle.lsv_upstream.specs.Relayed.{IsAcknowledged, IsRelayed, PlaysLog, Visit}
use Rattle.lsv_upstream.specs.Jobs.{IsReadExit}
use Rattle.lsv_upstream.specs.Talked.{IsTalked, ReadPoint}
use Rattle.lsv_marked.proofs.Over.{came_whole, was_talked}
use Rattle.lsv_marked.proofs.Put.{all_front, front_of_front, may_front}
use Rattle.lsv_marked.proofs.Read.{point_heard}
use Rattle.lsv_marked.proofs.laws.marked_means_held.Goals as goal

some_same : (a b : Exit) → Some a ≡ Some b → a ≡ b
some_same a b is = cc

pub returns : goal.returns
returns g c = λ from to n conn carries told links.
    let old = g.D.Disk.view c.args.old.now in
    let new = g.D.Disk.view c.args.new.now in
    let w = was_talked g.D.Disk.tells g.L.Link.tells g.D.Disk.view from to old new n conn carries in (
      w,
      λ log head text exit replays head_ok some exit_ok lane lanes m runs visits b.
          let e = w.ended in
          let began = g.D.Disk.view w.began in
          let disk = g.D.Disk.view w.found in
          let state = state_of w.from in
          let talks = e.talks.1 told in
          let whole = came_whole w.talked g.L.Link.tells _ e.cause.has in
          let quiet = e.cause.said_all (ap (λ (x : Bool). if x then wants.End else wants.More) whole) in
          let holds_n : HoldsLog n log disk.reads = local_replay old.reads disk.reads n (Some log) (w.same told) replays in
          let holds : HoldsLog w.talked.number log disk.reads = subst (λ (k : ℕ). HoldsLog k log disk.reads) (sym w.number) holds_n in
          let point = point_heard c.what_is_relayed.ensures.whole c.nanoseconds_are_one_time.ensures.time began state w.talked disk e.events log holds whole talks quiet in
          let part = part_said began state w.talked disk e.events log head text exit holds head_ok some exit_ok talks in
          let all = front_of_front (said e.events) (may_say (begins_at log.records head (Some exit) state) (heard e.events)) (all_of (begins_at log.records head (Some exit) state)) part (may_front (begins_at log.records head (Some exit) state) (heard e.events)) in
          let v = b.visit in
          let same : all_of (begins_at log.records head (Some exit) state) ≡ all_of (relayed log.records head (Some exit) v.kept) = ap (λ (k : Option KeptPlace). all_of (relayed log.records head (Some exit) k)) (sym b.kept_is) in
          let says : said e.events ++ all.0 ≡ all_of (relayed log.records head (Some exit) v.kept) = sym all.1 ∙ same in
          let m_ = e.matches in
          let p = m_.puts in
          let talked : IsTalked (all_of (relayed log.records head (Some exit) v.kept)) v.read b.at.its v.conn = record {
            talk = record { events = e.events; refused = e.refused; rest = e.rest; conn = conn; before = w.before; after = w.after };
            hears = m_.hears links;
            puts = record { front = p.front; unsent = p.unsent; is = p.is; sendable = p.sendable; bytes = λ _. p.bytes links };
            fits = all_front (said e.events) all.0 (subst (λ (l : List ClientMessage). AllByRecursion FitsClient l) (sym says) b.fits);
            later = all.0;
            says = says;
            reads = ap (λ (l : List ServerMessage). heard e.events ++ l) e.cause.left ∙ append-nil (heard e.events) ∙ sym b.read_is;
            other = b.other;
          } in
          let visit = c.a_conversation_is_a_visit.ensures in
          let plays : PlaysLog head log.records (Some exit) runs v = record {
            at = b.at;
            jobs = visit.brings (all_of (relayed log.records head (Some exit) v.kept)) v.read b.at.its v.conn talked;
            read = visit.reads (all_of (relayed log.records head (Some exit) v.kept)) v.read b.at.its v.conn talked;
          } in
          let brought : IsRelayed lane lanes m head log.records (Some exit) runs visits = record {
            of_lane = b.of_lane;
            whole = b.whole;
            each = λ u one. elim (b.others u one) [ inl this ↦ subst (λ (x : Visit). PlaysLog head log.records (Some exit) runs x) (sym this) plays | inr is ↦ is ];
            kept = b.kept;
            alone = b.alone;
          } in
          let read = subst (λ (l : List ServerMessage). ReadPoint l (elapsed log.records)) (sym b.read_is) point in
          let (past, later, event, at, has) = c.what_was_read_was_answered.ensures v.conn v.read b.at.its.events (elapsed log.records) plays.read read in
          let a : IsAcknowledged m log.records runs visits = record {
            visit = v;
            among = b.among;
            run = b.at;
            at = record { past = past; event = event; later = later; is = at; writing = b.writing past later event at has; brings = has };
          } in
          let exits : IsReadExit (Some exit) = λ x is. (text, exit_ok ∙ ap Ok (some_same exit x is)) in
          (a, c.a_relayed_log_is_held.ensures.held lane lanes m head log.records (Some exit) runs visits (c.what_is_replayed_is_storable.ensures old.reads n log head (Some exit) replays head_ok exits) brought a),
    )
