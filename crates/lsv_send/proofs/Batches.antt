-- A batch of records that is said, and an ending that follows it.
use Rattle.std.proofs.Common.{◌≡◌, ◌∙◌, ◌++◌, ◌∷◌, ◌+◌, ◌<◌, ◌≤◌, ◌^◌, ◌⊎◌, inl, inr, ℕ, Bool, true, false, nat_eq, List, [], length, map, refl, sym, ap, subst, append-nil, arith, Option, Some, None, Result, Ok, Err, IfErr, IsTrue}
use Rattle.std.specs.Prelude.{min, ◌-◌}
use Rattle.lsv_bundle.specs.declared.body.Body.{Body}
use Rattle.lsv_dialogue.specs.Events.{Event, all_said, heard}
use Rattle.lsv_disk.specs.Throughout.{OnlyReads}
use Rattle.lsv_disk.specs.View.{DiskView, Image}
use Rattle.lsv_disk.specs.declared.file.Part.{Part}
use Rattle.lsv_disk.specs.declared.file.Part.TheVariants as parts
use Rattle.lsv_disk.proofs.Composition.{reads_trans}
use Rattle.lsv_iolog.specs.Faults.{IsNextFault}
use Rattle.lsv_iolog.specs.Reading.{IsBehind, IsFaultBehind, IsWhole, ViewState, committed_laid}
use Rattle.lsv_iolog.specs.declared.fault.ViewFault.{ViewFault}
use Rattle.lsv_iolog.specs.declared.fault.ViewFault.TheVariants as views
use Rattle.lsv_msg.specs.declared.messages.ClientMessage.{ClientMessage}
use Rattle.lsv_play.specs.Playing.{laid_at}
use Rattle.lsv_play.proofs.Played.{same_image}
use Rattle.lsv_record.specs.declared.laid.Laid.{Laid}
use Rattle.lsv_record.specs.declared.records.Record.{Record}
use Rattle.lsv_request.specs.Stored.{record_message}
use Rattle.lsv_transcript.specs.Reading.{GivesNext}
use Rattle.lsv_transcript.specs.declared.messages.Batch.{Batch}
use Rattle.lsv_send.specs.Faults.{IsFaulty, LacksExit}
use Rattle.lsv_send.specs.Handing.{AreTaken, CanRecord, IsPast}
use Rattle.lsv_send.specs.Opening.{stop_of}
use Rattle.lsv_send.specs.Talks.{Ends, IsOf, Start, Told, most_of}
use Rattle.lsv_send.specs.declared.sender.Sender.{Sender}
use Rattle.lsv_send.specs.declared.sender.Place.{Place}
use Rattle.lsv_send.specs.declared.sender.Place.TheVariants.{Opening, Closing, Over}
use Rattle.lsv_send.proofs.Exits.{empty_by}
use Rattle.lsv_send.proofs.Telling.{can_begin, can_stand, is_done_soon, laid_here, taken_past, taken_whole, told_ending, told_opening, told_over, told_silent}

-- ---- whether there is a message

pub none_by : (ms slice : List ClientMessage) (b : Bool) → slice ≡ ms → b ≡ nat_eq (length slice) 0 → b ≡ true → ms ≡ []
none_by ms slice b is test so = empty_by ms (ap (λ (xs : List ClientMessage). nat_eq (length xs) 0) (sym is) ∙ sym test ∙ so)

pub some_by : (ms slice : List ClientMessage) (b : Bool) → slice ≡ ms → b ≡ nat_eq (length slice) 0 → b ≡ false → ms ≡ [] → ⊥
some_by ms slice b is test other none = let no : true ≡ false = sym (ap (λ (xs : List ClientMessage). nat_eq (length xs) 0) (is ∙ none)) ∙ sym test ∙ other in cc

-- ---- the log's end

more_none : (more : List Record) → [] ≡ map record_message more → more ≡ []
more_none [] is = refl
more_none (r ∷ more) is = absurd cc

most_some : (stop : Option ℕ) (room : ℕ) → 0 < room → most_of stop room ≡ 0 → ⊥
most_some None room some is = omega (arith, some, is)
most_some (Some time) room some is = omega (arith, is)

-- there is no record, so all were said
pub whole_taken : (start : Start) (s : Sender) (log : ViewState) (disk mid : DiskView) (events : List Event) (batch : Batch) (room most : ℕ) → 0 < room → IsOf start.source s → CanRecord s.place s.known → log.number ≡ s.log.number → log.body ≡ s.log.body
    → OnlyReads disk mid → ((records : List Record) → IsBehind s.log records disk → GivesNext log mid records batch most) → most ≡ most_of s.stop room → batch.messages ≡ [] → (t : Told start s disk events)
    → AreTaken (laid_at start.source.number start.source.body start.disk.reads) start.source.body (stop_of start.source.what) (start.source.skipped ++ t.hands.more)
whole_taken start s log disk mid events batch room most some is can number body reads gives most_is none t =
    let records = start.source.skipped ++ t.hands.more in
    let g = gives records (can_stand s.place s.known s.log records disk can t.stands) in
    let all = reads_trans start.disk disk mid t.reads reads in
    let no_more : g.more ≡ [] = more_none g.more (sym none ∙ g.messages_are) in
    let behind : IsBehind log records mid = subst (λ (rs : List Record). IsBehind log rs mid) (ap (λ (rs : List Record). records ++ rs) no_more ∙ append-nil records) g.behind in
    let whole : IsWhole log records mid = elim (g.end none) [ inl zero ↦ absurd (most_some s.stop room some (sym most_is ∙ zero)) | inr whole ↦ whole ] in
    taken_whole start.source (stop_of start.source.what) log start.disk mid records (number ∙ is.number) (body ∙ is.body) all behind whole

-- the next record ends after the stop, so all up to it were said
pub past_taken : (start : Start) (s : Sender) (log : ViewState) (disk mid : DiskView) (events : List Event) (batch : Batch) (room most through : ℕ) → IsOf start.source s → CanRecord s.place s.known → log.number ≡ s.log.number → log.body ≡ s.log.body
    → OnlyReads disk mid → ((records : List Record) → IsBehind s.log records disk → GivesNext log mid records batch most) → most ≡ most_of s.stop room → length batch.messages ≤ most → (batch.messages ≡ [] → ⊥) → through ≡ min (s.sent + batch.elapsed) (2 ^ 64 - 1) → IsPast s.stop through → (t : Told start s disk events)
    → AreTaken (laid_at start.source.number start.source.body start.disk.reads) start.source.body (stop_of start.source.what) (start.source.skipped ++ t.hands.more)
past_taken start s log disk mid events batch room most through is can number body reads gives most_is few some sum past t =
    let records = start.source.skipped ++ t.hands.more in
    let g = gives records (can_stand s.place s.known s.log records disk can t.stands) in
    let all = reads_trans start.disk disk mid t.reads reads in
    subst (λ (o : Option ℕ). AreTaken (laid_at start.source.number start.source.body start.disk.reads) start.source.body o records) is.stop
    (taken_past start.source s.stop log start.disk mid records batch room most through s.sent (number ∙ is.number) (body ∙ is.body) all g (omega (arith, few, most_is)) some t.hands.sent sum past)

-- an ending follows
pub told_end : (start : Start) (s new : Sender) (log : ViewState) (disk mid later : DiskView) (events : List Event) (ms : List ClientMessage) → IsOf start.source s → CanRecord s.place s.known → log.number ≡ s.log.number → log.body ≡ s.log.body
    → OnlyReads disk mid → OnlyReads mid later → Ends (record s { log = log }) new mid.reads ms → (t : Told start s disk events)
    → AreTaken (laid_at start.source.number start.source.body start.disk.reads) start.source.body (stop_of start.source.what) (start.source.skipped ++ t.hands.more) → Told start new later (events ++ all_said ms)
told_end start s new log disk mid later events ms is can number body reads rest ends t taken =
    told_ending start s new log disk later mid.reads events ms is can number body (same_image start.disk mid (reads_trans start.disk disk mid t.reads reads)) ends (reads_trans disk mid later reads rest) t taken

-- ---- without records

-- the opening
pub told_opened : (start : Start) (s new : Sender) (disk : DiskView) (events : List Event) (ms : List ClientMessage) → IsOf start.source s → s.place ≡ Opening → ms ≡ s.opening → new ≡ record s { opening = []; place = s.begins; reached = false } → Told start s disk events
    → Told start new disk (events ++ all_said ms)
told_opened start s new disk events ms is at said_is new_is t =
    subst (λ (n : Sender). Told start n disk (events ++ all_said ms)) (sym new_is) (subst (λ (xs : List ClientMessage). Told start (record s { opening = []; place = s.begins; reached = false }) disk (events ++ all_said xs)) (sym said_is) (told_opening start s disk events is at t))

-- nothing
pub told_none_said : (start : Start) (s : Sender) (disk : DiskView) (events : List Event) (ms : List ClientMessage) → ms ≡ [] → Told start s disk events → Told start s disk (events ++ all_said ms)
told_none_said start s disk events ms none t = subst (λ (xs : List ClientMessage). Told start s disk (events ++ all_said xs)) (sym none) (told_silent start s disk events t)

-- nothing, since all was said
pub told_all_said : (start : Start) (s : Sender) (disk : DiskView) (events : List Event) (ms : List ClientMessage) → ms ≡ [] → is_done_soon s.place ≡ true → Told start s disk events → Told start (record s { place = Over }) disk (events ++ all_said ms)
told_all_said start s disk events ms none done t = subst (λ (xs : List ClientMessage). Told start (record s { place = Over }) disk (events ++ all_said xs)) (sym none) (told_over start s disk events done t)

pub done_either : (place : Place) → (place ≡ Closing) ⊎ (place ≡ Over) → is_done_soon place ≡ true
done_either place (inl is) = ap is_done_soon is
done_either place (inr is) = ap is_done_soon is

-- ---- a fault

-- by what the fault is
pub by_fault : {T : Type 0} (r : Result T ViewFault) (Q : ViewFault → Type 0) → IfErr r IsNextFault → Q views.Disk → Q views.NoMem → ((part : Part) → r ≡ Err (views.Damaged part) → Q (views.Damaged part)) → IfErr r Q
by_fault (Ok x) Q fault disk memory damaged = tt
by_fault (Err (views.Damaged part)) Q fault disk memory damaged = damaged part refl
by_fault (Err views.Disk) Q fault disk memory damaged = disk
by_fault (Err views.NoMem) Q fault disk memory damaged = memory
by_fault (Err views.Absent) Q fault disk memory damaged = absurd fault

pub at_fault : {T : Type 0} (r : Result T ViewFault) (x : ViewFault) (Q : ViewFault → Type 0) → r ≡ Err x → IfErr r Q → Q x
at_fault r x Q is all = subst (λ (s : Result _ ViewFault). IfErr s Q) is all

-- the exit is at fault
pub faulty_exit : (start : Start) (s : Sender) (log : ViewState) (disk mid : DiskView) (events : List Event) (part : Part) → IsOf start.source s → CanRecord s.place s.known → log.number ≡ s.log.number → log.body ≡ s.log.body → OnlyReads disk mid → (t : Told start s disk events)
    → AreTaken (laid_at start.source.number start.source.body start.disk.reads) start.source.body (stop_of start.source.what) (start.source.skipped ++ t.hands.more)
    → (part ≡ parts.Exit) × (s.stop ≡ None) × LacksExit log.number log.body mid.reads → IsFaulty start.source start.disk.reads (start.source.skipped ++ t.hands.more) part
faulty_exit start s log disk mid events part is can number body reads t taken (exit, none, lacks) =
    let all = reads_trans start.disk disk mid t.reads reads in
    inr (record {
      part_is = exit;
      begins = can_begin s.place s.known start.source start.disk.reads t.hands.more t.hands.exit (heard events) can t.hands.says t.hands.waited;
      stop = sym is.stop ∙ none;
      taken = taken;
      lacks = subst (λ (n : ℕ). LacksExit n start.source.body start.disk.reads) (number ∙ is.number)
          (subst (λ (b : Body). LacksExit log.number b start.disk.reads) (body ∙ is.body) (subst (λ (i : Image). LacksExit log.number log.body i) (same_image start.disk mid all) lacks));
    })

-- the records are at fault
pub faulty_records : (start : Start) (s : Sender) (disk : DiskView) (events : List Event) (part : Part) → IsOf start.source s → CanRecord s.place s.known → ((records : List Record) → IsBehind s.log records disk → IsFaultBehind (committed_laid s.log.number s.log.body disk) s.log.body records part)
    → (t : Told start s disk events) → IsFaulty start.source start.disk.reads (start.source.skipped ++ t.hands.more) part
faulty_records start s disk events part is can fault t =
    let records = start.source.skipped ++ t.hands.more in
    let h = fault records (can_stand s.place s.known s.log records disk can t.stands) in
    inl (subst (λ (l : Laid). IsFaultBehind l start.source.body records part) (laid_here start.source.number start.source.body s.log start.disk disk is.number is.body (same_image start.disk disk t.reads))
    (subst (λ (b : Body). IsFaultBehind (committed_laid s.log.number s.log.body disk) b records part) is.body h))

pub not_past : (b : Bool) (P : Type 0) → (IsTrue b → P) × (P → IsTrue b) → P → b ≡ false → ⊥
not_past b P decides p other = let no : true ≡ false = sym (decides.1 p) ∙ other in cc
