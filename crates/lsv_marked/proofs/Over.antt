-- A log that was relayed: its conversation is over.
use Rattle.std.proofs.Common.{◌≡◌, ◌∙◌, ℕ, Result, Ok, Err, refl, sym, ap, subst}
use Rattle.lsv_dialogue.specs.Ends.{Conversation, Ended, HasCome}
use Rattle.lsv_dialogue.specs.Ends.{HasCome.AtOnce, HasCome.AtEnd, HasCome.InSilence}
use Rattle.lsv_dialogue.specs.declared.ends.End.{End}
use Rattle.lsv_dialogue.specs.declared.ends.End.TheVariants as ends
use Rattle.lsv_dialogue.specs.declared.ends.TalkFault.{TalkFault}
use Rattle.lsv_dialogue.specs.declared.ends.Wants.{Wants}
use Rattle.lsv_dialogue.specs.declared.ends.Wants.TheVariants as wants
use Rattle.lsv_disk.specs.View.{DiskView}
use Rattle.lsv_disk.specs.declared.file.Owner.TheVariants as owners
use Rattle.lsv_forward.specs.Carried.{Carries, IsEnded}
use Rattle.lsv_forward.specs.declared.outcome.Outcome.TheVariants as outcomes
use Rattle.lsv_iolog.specs.Recovered.{SameFiles}
use Rattle.lsv_link.specs.Link.{LinkCounts}
use Rattle.lsv_link.specs.declared.connection.Connection.{Connection}
use Rattle.lsv_marked.specs.Brought.{WasTalked}
use Rattle.lsv_relay.specs.Ends.{Closes, Marks, Talked, manner_of}
use Rattle.lsv_relay.specs.Value.{RelayView, wants_of}
use Rattle.lsv_relay.specs.declared.fault.RelayFault.{RelayFault}
use Rattle.lsv_relay.specs.declared.run.RelayEnd.{RelayEnd}
use Rattle.lsv_relay.specs.declared.run.RelayEnd.TheVariants as relays
use Rattle.std.specs.Prelude.{Bool, true, false, if◌then◌else◌}

done_of : (answer : Result RelayEnd RelayFault) → IsEnded answer outcomes.Relayed → answer ≡ Ok relays.Done
done_of (Ok relays.Done) is = refl
done_of (Ok (relays.Pending cause)) is = absurd (let no : outcomes.Relayed ≡ outcomes.Pending cause = is in cc)
done_of (Err fault) is = absurd (let no : outcomes.Relayed ≡ outcomes.Failed fault = is.1 in cc)

over_of : {D : Type 0} (tells : Type 0) (view : D → DiskView) (n : ℕ) (end : Result End (TalkFault RelayFault)) (talked : RelayView) (found : D) (answer : Result RelayEnd RelayFault) (relay : RelayView) (disk : D)
    → Closes tells view n end talked found answer relay disk → answer ≡ Ok relays.Done → end ≡ Ok ends.Over
over_of tells view n (Ok ends.Over) talked found answer relay disk closed done = refl
over_of tells view n (Ok (ends.Stopped cause)) talked found answer relay disk closed done = absurd (let no = sym closed.said ∙ done in cc)
over_of tells view n (Err fault) talked found answer relay disk closed done = absurd (let no = sym closed.said ∙ done in cc)

log_no_relay : (n m : ℕ) → owners.Log n ≡ owners.Relay m → ⊥
log_no_relay n m e = cc

module _ {D : Type 0} (tells links : Type 0) (view : D → DiskView) (from to : LinkCounts) (old new : DiskView) (n : ℕ) (conn : Connection) (c : Carries tells links view from to old new n (λ answer. IsEnded answer outcomes.Relayed) conn) where
  over : c.went.end ≡ Ok ends.Over
  over = over_of tells view c.carriage.from.number c.went.end c.went.talked c.went.found c.answer c.carriage.relay c.carriage.disk c.went.closed (done_of c.answer c.is)

  ended : Ended (manner_of tells view (c.carriage.began, c.carriage.from)) links c.went.talked c.went.found c.carriage.before c.carriage.after conn ends.Over
  ended = subst (λ (e : Result End (TalkFault RelayFault)). Talked tells links view c.carriage.began c.carriage.from e c.went.talked c.went.found c.carriage.before c.carriage.after conn) over c.went.talk

  marks : Marks tells view c.carriage.from.number c.went.talked c.went.found c.answer c.carriage.relay c.carriage.disk
  marks = subst (λ (e : Result End (TalkFault RelayFault)). Closes tells view c.carriage.from.number e c.went.talked c.went.found c.answer c.carriage.relay c.carriage.disk) over c.went.closed

  same : tells → SameFiles n old.reads (view c.went.found).reads
  same told file own = sym ((marks.changes told).moments.elsewhere.same file (λ t. log_no_relay n c.carriage.from.number (sym own ∙ t))) ∙ c.same_ended told file own

  pub was_talked : WasTalked tells links view old n conn
  was_talked = record {
    began = c.carriage.began;
    from = c.carriage.from;
    talked = c.went.talked;
    found = c.went.found;
    before = c.carriage.before;
    after = c.carriage.after;
    number = ended.talks.0.number ∙ c.number;
    kept = c.kept;
    same = same;
    ended = ended;
  }

-- ---- The relay has what it wants

not_more : (want : Wants) (tells : Type 0) (c : Conversation) → HasCome want tells c → want ≡ wants.More → ⊥
not_more want tells c (AtOnce is waited) e = let no : wants.Nothing ≡ wants.More = sym is ∙ e in cc
not_more want tells c (AtEnd is ended rest waited) e = let no : wants.End ≡ wants.More = sym is ∙ e in cc
not_more want tells c (InSilence is silence rest waited) e = let no : wants.End ≡ wants.More = sym is ∙ e in cc

pub came_whole : (relay : RelayView) (tells : Type 0) (c : Conversation) → HasCome (wants_of relay) tells c → relay.meter.whole ≡ true
came_whole relay tells c has = go relay.meter.whole refl
  where
    go : (b : Bool) → relay.meter.whole ≡ b → b ≡ true
    go true e = refl
    go false e = absurd (not_more (wants_of relay) tells c has (ap (λ (b : Bool). if b then wants.End else wants.More) e))
