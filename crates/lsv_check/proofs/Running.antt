-- What a run puts.
use Rattle.std.proofs.Common.{◌≡◌, ◌∙◌, ◌++◌, ◌⊎◌, ◌≤◌, inl, inr, ℕ, zero, suc, Bool, true, false, nat_lt, if◌then◌else◌, List, [], Option, Some, None, refl, sym, ap, subst, append_assoc, arith}
use Rattle.std.proofs.Math.Path.{fun_ext}
use Rattle.std.proofs.lemmas.Bool.{ltb-true}
use Rattle.lsv_defs.specs.Pieces.{IsPrefix}
use Rattle.lsv_disk.specs.declared.file.FileId.{FileId}
use Rattle.lsv_disk.specs.Throughout.{OnlyReads}
use Rattle.lsv_disk.specs.View.{DiskView, HasOwnCause, Image, IsUntouched}
use Rattle.lsv_disk.proofs.Composition.{risen_first, risen_second, unchanged_reads}
use Rattle.lsv_check_args.specs.Request.{Asked, Asks, IsUsage}
use Rattle.lsv_check_args.specs.declared.request.Form.{Form}
use Rattle.lsv_replay.specs.Replay.{IsOnlyRead}
use Rattle.lsv_replay.specs.declared.fault.ListFault.{ListFault}
use Rattle.lsv_replay.specs.declared.fault.ListFault.TheVariants as lists
use Rattle.lsv_check.specs.Checks.{AreNumbers, AreUnknown, ChecksAll, ChecksBy, ChecksLanes, ChecksNone, ChecksSome, ChecksWhole, EndsWith, IsLaneFault, IsReadHere, IsSeen, LanesEnd, LanesStop, at_least_damaged, count_of, lanes_asked, last_lines, line_of_numbers, numbers_at, status_with, with_numbers}
use Rattle.lsv_check.specs.declared.numbers.Numbers.{Numbers}
use Rattle.lsv_check.specs.declared.numbers.Numbers.TheVariants as found
use Rattle.lsv_check.specs.declared.numbers.Seen.{Seen}
use Rattle.lsv_tally.proofs.Walking.{are_wider as events_wider, part_wider, walked_wider}
use Rattle.lsv_tally.specs.Walks.{HasUnread as HasUnreadEvents, IsOfEvents, Walked as WalkedEvents, put_all as put_events}
use Rattle.lsv_tally.specs.declared.walk.EventSums.{EventSums}
use Rattle.lsv_verdict.proofs.Judging.{IsWithin, failed_wider}
use Rattle.lsv_verdict.proofs.Walking.{are_wider as judged_wider_all}
use Rattle.lsv_verdict.specs.Sums.{sums_of}
use Rattle.lsv_verdict.specs.Verdicts.{Counts, HasFailed, IsChecked, IsOfNumbers, counts_of}
use Rattle.lsv_verdict.specs.Walks.{AreJudged, HasUnread, Walked, WalkedPart, first_numbers, is_whole, put_all, status_at}
use Rattle.lsv_verdict.specs.declared.status.CheckStatus.{CheckStatus}
use Rattle.lsv_verdict.specs.declared.status.CheckStatus.TheVariants as statuses
use Rattle.lsv_verdict.specs.declared.sums.Sums.{Sums}
use Rattle.lsv_verdict.specs.declared.verdict.Verdict.{Verdict}
use Rattle.lsv_verdict.specs.declared.walk.Stop.{Stop}
use Rattle.lsv_verdict.specs.declared.walk.Stop.TheVariants as stops

-- the places were noted, and then files were read
pub read_only : (old mid new : DiskView) → IsUntouched old mid → OnlyReads mid new → IsOnlyRead old new
read_only old mid new root reads = record {
  quiet = record {
    same = λ f. unchanged_reads mid new reads.unchanged f ∙ root.quiet.same f;
    crash = λ f c is. root.quiet.crash f c (reads.unchanged.elsewhere.crash f (λ never. never) c is);
  };
  each = λ k image from to is. let since : mid.moment ≤ k = omega (arith, root.moment) in λ f. root.quiet.crash f (image f) (reads.unchanged.beside k image since to is f (λ never. never));
  counts = record { writes = λ f. reads.counts.writes f ∙ root.counts.writes f; syncs = λ f. reads.counts.syncs f ∙ root.counts.syncs f };
}

pub rooted_image : (old mid : DiskView) → IsUntouched old mid → mid.reads ≡ old.reads
rooted_image old mid root = fun_ext (λ f. root.quiet.same f)

-- ---- words

some_none : {A : Type 0} (o : Option A) (a : A) → o ≡ Some a → o ≡ None → ⊥
some_none o a some none = cc

true_false : (b : Bool) → b ≡ true → b ≡ false → ⊥
true_false b is no_ = cc

-- words that ask for something are a command
pub asks_or_usage : (words : List (List ℕ)) (asked : Asked) → Asks words asked → IsUsage words → ⊥
asks_or_usage words asked asks (inl text) = true_false _ asks.text text
asks_or_usage words asked asks (inr (inl refused)) = refused asks.taken
asks_or_usage words asked asks (inr (inr none)) = some_none _ asked asks.asks none

-- ---- a first part is one of more

prefix_behind : (front more whole all : List ℕ) → IsPrefix more whole → all ≡ front ++ whole → IsPrefix (front ++ more) all
prefix_behind front more whole all (rest, is) same = (rest, same ∙ ap (λ (bytes : List ℕ). front ++ bytes) is ∙ sym (append_assoc front more rest))

-- ---- how a run ends

-- a status of a run that put all
abbrev IsEnd : CheckStatus → Type 0
IsEnd statuses.Sound = Unit {0}
IsEnd statuses.Damaged = Unit {0}
IsEnd statuses.ReadFault = Unit {0}
IsEnd statuses.Usage = ⊥
IsEnd statuses.WriteFault = ⊥
IsEnd statuses.NoMem = ⊥

end_by : (a b c d : Bool) → IsEnd (if a then statuses.ReadFault else (if b then at_least_damaged (if c then statuses.ReadFault else if d then statuses.Damaged else statuses.Sound) else (if c then statuses.ReadFault else if d then statuses.Damaged else statuses.Sound)))
end_by true b c d = tt
end_by false true true d = tt
end_by false true false true = tt
end_by false true false false = tt
end_by false false true d = tt
end_by false false false true = tt
end_by false false false false = tt

is_end : (sums : Sums) (events : EventSums) → IsEnd (status_with sums events)
is_end sums events = end_by (nat_lt 0 events.unread) (nat_lt 0 events.damaged) (nat_lt 0 sums.unread) (nat_lt 0 sums.damaged)

damage_end : (status : CheckStatus) → IsEnd status → IsEnd (at_least_damaged status)
damage_end statuses.Sound is = tt
damage_end statuses.Damaged is = tt
damage_end statuses.ReadFault is = tt
damage_end statuses.Usage is = absurd is
damage_end statuses.WriteFault is = absurd is
damage_end statuses.NoMem is = absurd is

numbers_end : (numbers : Numbers) (status : CheckStatus) → IsEnd status → IsEnd (with_numbers numbers status)
numbers_end found.Sound status is = is
numbers_end found.Damaged status is = damage_end status is
numbers_end found.Unread status is = tt

pub no_usage : (numbers : Numbers) (sums : Sums) (events : EventSums) → with_numbers numbers (status_with sums events) ≡ statuses.Usage → ⊥
no_usage numbers sums events is = subst IsEnd is (numbers_end numbers (status_with sums events) (is_end sums events))

pub no_write : (numbers : Numbers) (sums : Sums) (events : EventSums) → with_numbers numbers (status_with sums events) ≡ statuses.WriteFault → ⊥
no_write numbers sums events is = subst IsEnd is (numbers_end numbers (status_with sums events) (is_end sums events))

pub none_usage : (numbers : Numbers) → with_numbers numbers statuses.Sound ≡ statuses.Usage → ⊥
none_usage numbers is = subst IsEnd is (numbers_end numbers statuses.Sound tt)

pub none_write : (numbers : Numbers) → with_numbers numbers statuses.Sound ≡ statuses.WriteFault → ⊥
none_write numbers is = subst IsEnd is (numbers_end numbers statuses.Sound tt)

-- a run that ends with a read fault has an unread log, or an unread event log
fault_by : (a b c d : Bool) → (if a then statuses.ReadFault else (if b then at_least_damaged (if c then statuses.ReadFault else if d then statuses.Damaged else statuses.Sound) else (if c then statuses.ReadFault else if d then statuses.Damaged else statuses.Sound))) ≡ statuses.ReadFault
    → (a ≡ true) ⊎ (c ≡ true)
fault_by true b c d is = inl refl
fault_by false b true d is = inr refl
fault_by false true false true is = absurd (let no_ : ⊥ = cc in no_)
fault_by false true false false is = absurd (let no_ : ⊥ = cc in no_)
fault_by false false false true is = absurd (let no_ : ⊥ = cc in no_)
fault_by false false false false is = absurd (let no_ : ⊥ = cc in no_)

some_unread : (sums : Sums) (events : EventSums) → status_with sums events ≡ statuses.ReadFault → HasUnreadEvents events ⊎ HasUnread sums
some_unread sums events is = elim (fault_by (nat_lt 0 events.unread) (nat_lt 0 events.damaged) (nat_lt 0 sums.unread) (nat_lt 0 sums.damaged) is) [
  | inl e ↦ inl (ltb-true 0 events.unread e)
  | inr e ↦ inr (ltb-true 0 sums.unread e)
]

-- or the number files weren't read
damage_fault : (status : CheckStatus) → at_least_damaged status ≡ statuses.ReadFault → status ≡ statuses.ReadFault
damage_fault statuses.Sound is = absurd (let no_ : ⊥ = cc in no_)
damage_fault statuses.Damaged is = is
damage_fault statuses.ReadFault is = is
damage_fault statuses.Usage is = absurd (let no_ : ⊥ = cc in no_)
damage_fault statuses.WriteFault is = absurd (let no_ : ⊥ = cc in no_)
damage_fault statuses.NoMem is = absurd (let no_ : ⊥ = cc in no_)

pub numbers_fault : (numbers : Numbers) (status : CheckStatus) → with_numbers numbers status ≡ statuses.ReadFault → (numbers ≡ found.Unread) ⊎ (status ≡ statuses.ReadFault)
numbers_fault found.Sound status is = inr is
numbers_fault found.Damaged status is = inr (damage_fault status is)
numbers_fault found.Unread status is = inl refl

-- nothing but a read of the number files failed, if their line alone is put
pub none_fault : (numbers : Numbers) → with_numbers numbers statuses.Sound ≡ statuses.ReadFault → numbers ≡ found.Unread
none_fault found.Sound is = absurd (let no_ : ⊥ = cc in no_)
none_fault found.Damaged is = absurd (let no_ : ⊥ = cc in no_)
none_fault found.Unread is = refl

pub disk_fault : (fault : ListFault) (numbers : Numbers) → numbers_at fault ≡ Some numbers → numbers ≡ found.Unread → fault ≡ lists.Disk
disk_fault (lists.Damaged part) numbers some is = absurd (let no_ : ⊥ = cc in no_)
disk_fault lists.Disk numbers some is = refl
disk_fault lists.Screen numbers some is = absurd (let no_ : ⊥ = cc in no_)
disk_fault lists.NoMem numbers some is = absurd (let no_ : ⊥ = cc in no_)

-- of which none is the first, if no log is
events_unread : (sums : Sums) (events : EventSums) → sums.unread ≡ 0 → HasUnreadEvents events ⊎ HasUnread sums → HasUnreadEvents events
events_unread sums events none (inl some) = some
events_unread sums events none (inr some) = absurd (let no_ : ⊥ = omega (arith, none, some) in no_)

-- the cause of a fault after the logs is a read of the number files, or of an event log's
pub rest_cause : (numbers : Numbers) (sums : Sums) (events : EventSums) (status : CheckStatus) (old mid new : DiskView) → (status ≡ statuses.ReadFault → with_numbers numbers (status_with sums events) ≡ statuses.ReadFault)
    → HasOwnCause IsOfNumbers (numbers ≡ found.Unread) old mid → HasOwnCause IsOfEvents (HasUnreadEvents events) mid new → HasOwnCause IsReadHere (IsLaneFault sums status) old new
rest_cause numbers sums events status old mid new with_is seen read = record {
  monotone = λ f. let one = seen.monotone f in let two = read.monotone f in omega (arith, one, two);
  risen = λ failed. by failed.1 (numbers_fault numbers (status_with sums events) (with_is failed.0));
} where
  by : sums.unread ≡ 0 → (numbers ≡ found.Unread) ⊎ (status_with sums events ≡ statuses.ReadFault) → HasFailed IsReadHere (counts_of old new)
  by none (inl is) = let r = seen.risen is in (r.0, inl (1, inr r.1), risen_first (old.faults r.0) (mid.faults r.0) (new.faults r.0) r.2 (read.monotone r.0))
  by none (inr is) = let r = read.risen (events_unread sums events none (some_unread sums events is)) in (r.0, inr r.1, risen_second (old.faults r.0) (mid.faults r.0) (new.faults r.0) (seen.monotone r.0) r.2)

stop_fault : (stop : Stop) → status_at stop ≡ statuses.ReadFault → ⊥
stop_fault stops.Sink is = cc
stop_fault stops.NoMem is = cc

pub stop_cause : (stop : Stop) (sums : Sums) (status : CheckStatus) (old mid new : DiskView) → status ≡ status_at stop → ((f : FileId) → old.faults f ≤ mid.faults f) → ((f : FileId) → mid.faults f ≤ new.faults f) → HasOwnCause IsReadHere (IsLaneFault sums status) old new
stop_cause stop sums status old mid new is one two = record {
  monotone = λ f. let a = one f in let b = two f in omega (arith, a, b);
  risen = λ failed. absurd (stop_fault stop (sym is ∙ failed.0));
}

-- the cause of a fault is a read of a log's files, or one after them
pub all_cause : (sums : Sums) (status : CheckStatus) (old mid new : DiskView) → HasOwnCause IsChecked (HasUnread sums) old mid → HasOwnCause IsReadHere (IsLaneFault sums status) mid new → HasOwnCause IsReadHere (status ≡ statuses.ReadFault) old new
all_cause sums status old mid new logs lanes = record {
  monotone = λ f. let one = logs.monotone f in let two = lanes.monotone f in omega (arith, one, two);
  risen = λ is. by sums.unread refl is;
} where
  by : (n : ℕ) → sums.unread ≡ n → status ≡ statuses.ReadFault → HasFailed IsReadHere (counts_of old new)
  by zero none is = let r = lanes.risen (is, none) in (r.0, r.1, risen_second (old.faults r.0) (mid.faults r.0) (new.faults r.0) (logs.monotone r.0) r.2)
  by (suc n) some is = let r = logs.risen (omega (arith, some)) in (r.0, inl r.1, risen_first (old.faults r.0) (mid.faults r.0) (new.faults r.0) r.2 (lanes.monotone r.0))

-- ---- what is put

module _ (asked : Asked) (image : Image) (counts : Counts) where
  some_status : (stop : Stop) (status : CheckStatus) (put : List ℕ) → status ≡ status_at stop → ChecksSome asked image counts put → ChecksBy asked image counts status put
  some_status stop status put is some = subst (λ (s : CheckStatus). ChecksBy asked image counts s put) (sym is) (by stop) where
    by : (stop : Stop) → ChecksBy asked image counts (status_at stop) put
    by stops.Sink = some
    by stops.NoMem = inr some

  -- the line of the number files alone is put
  none_of : (numbers : Numbers) (put : List ℕ) → AreUnknown asked image counts numbers → put ≡ line_of_numbers asked.form numbers → ChecksNone asked image counts (with_numbers numbers statuses.Sound) put
  none_of numbers put unknown is = record { numbers = numbers; unknown = unknown; put_is = is; status_is = refl }

  none_by : (numbers : Numbers) (put : List ℕ) → AreUnknown asked image counts numbers → put ≡ line_of_numbers asked.form numbers → ChecksBy asked image counts (with_numbers numbers statuses.Sound) put
  none_by found.Sound put unknown is = absurd unknown
  none_by found.Damaged put unknown is = inr (none_of found.Damaged put unknown is)
  none_by found.Unread put unknown is = inr (none_of found.Unread put unknown is)

  pub none_checks : (numbers : Numbers) (status : CheckStatus) (put : List ℕ) → AreUnknown asked image counts numbers → EndsWith (line_of_numbers asked.form numbers) (with_numbers numbers statuses.Sound) status put → ChecksBy asked image counts status put
  none_checks numbers status put unknown (inl (is, put_is)) = subst (λ (s : CheckStatus). ChecksBy asked image counts s put) (sym is) (none_by numbers put unknown put_is)
  none_checks numbers status put unknown (inr (stop, is, part)) = some_status stop status put is (inr (inr (record {
    status = with_numbers numbers statuses.Sound;
    whole = line_of_numbers asked.form numbers;
    all = inr (none_of numbers (line_of_numbers asked.form numbers) unknown refl);
    part = part;
  })))

  -- what a fault of the number files says of them is so
  pub are_unknown : (fault : ListFault) (numbers : Numbers) → numbers_at fault ≡ Some numbers → ((part : _) → fault ≡ lists.Damaged part → count_of asked.numbers image ≡ None) → (fault ≡ lists.Disk → (asked.numbers ≡ []) × HasFailed IsOfNumbers counts)
      → AreUnknown asked image counts numbers
  are_unknown (lists.Damaged part) numbers some none needed = subst (λ (n : Numbers). AreUnknown asked image counts n) (let is : found.Damaged ≡ numbers = cc in is) (none part refl)
  are_unknown lists.Disk numbers some none needed = subst (λ (n : Numbers). AreUnknown asked image counts n) (let is : found.Unread ≡ numbers = cc in is) (needed refl)
  are_unknown lists.Screen numbers some none needed = absurd (let no_ : ⊥ = cc in no_)
  are_unknown lists.NoMem numbers some none needed = absurd (let no_ : ⊥ = cc in no_)

  -- a walk over the logs stopped
  pub stopped_checks : (count : ℕ) (stop : Stop) (status : CheckStatus) (put : List ℕ) → status ≡ status_at stop → count_of asked.numbers image ≡ Some count → WalkedPart asked.form asked.numbers image counts count put → ChecksBy asked image counts status put
  stopped_checks count stop status put is known part = some_status stop status put is (inl (record {
    all = count;
    all_is = known;
    count = part.count;
    within = part.within;
    verdicts = part.verdicts;
    are = part.are;
    part = part.part;
  }))

  module _ (count : ℕ) (sums : Sums) (put : List ℕ) (known : count_of asked.numbers image ≡ Some count) (to : Walked asked.form asked.numbers image counts count sums put) where
    abbrev form : Form
    form = asked.form

    all_of : (seen : Seen) → IsSeen asked.events image counts seen → (events : EventSums) (lines : List ℕ) → WalkedEvents form image counts seen.lanes events lines
        → ChecksAll asked image counts (with_numbers seen.numbers (status_with sums events)) (put ++ (lines ++ last_lines form seen.numbers sums))
    all_of seen seen_is events lines read = record {
      count = count;
      count_is = known;
      verdicts = to.verdicts;
      are = to.are;
      seen = seen;
      seen_is = seen_is;
      events = read.verdicts;
      events_are = read.are;
      put_is = ap (λ (bytes : List ℕ). bytes ++ (lines ++ last_lines form seen.numbers sums)) to.put_is
          ∙ ap (λ (bytes : List ℕ). put_all form to.verdicts ++ (bytes ++ last_lines form seen.numbers sums)) read.put_is
          ∙ ap (λ (s : Sums). put_all form to.verdicts ++ (put_events form read.verdicts ++ last_lines form seen.numbers s)) to.sums_are;
      status_is = ap (λ (s : Sums). with_numbers seen.numbers (status_with s events)) to.sums_are ∙ ap (λ (e : EventSums). with_numbers seen.numbers (status_with (sums_of to.verdicts) e)) read.sums_are;
    }

    all_by : (status : CheckStatus) (whole : List ℕ) → IsEnd status → ChecksAll asked image counts status whole → ChecksBy asked image counts status whole
    all_by statuses.Sound whole end all = all
    all_by statuses.Damaged whole end all = inl all
    all_by statuses.ReadFault whole end all = inl all
    all_by statuses.Usage whole end all = absurd end
    all_by statuses.WriteFault whole end all = absurd end
    all_by statuses.NoMem whole end all = absurd end

    ended : (more : List ℕ) (status : CheckStatus) (lanes : LanesEnd asked image counts sums status more) → ChecksBy asked image counts status (put ++ (lanes.lines ++ lanes.front))
    ended more status lanes = by lanes.ends where
      numbers : Numbers
      numbers = lanes.seen.numbers

      end : CheckStatus
      end = with_numbers numbers (status_with sums lanes.events)

      whole : List ℕ
      whole = put ++ (lanes.lines ++ last_lines form numbers sums)

      all : ChecksAll asked image counts end whole
      all = all_of lanes.seen lanes.seen_is lanes.events lanes.lines lanes.walked

      by : EndsWith (last_lines form numbers sums) end status lanes.front → ChecksBy asked image counts status (put ++ (lanes.lines ++ lanes.front))
      by (inl (is, front_is)) =
          subst (λ (s : CheckStatus). ChecksBy asked image counts s (put ++ (lanes.lines ++ lanes.front))) (sym is)
          (subst (λ (bytes : List ℕ). ChecksBy asked image counts end (put ++ (lanes.lines ++ bytes))) (sym front_is)
          (all_by end whole (numbers_end numbers (status_with sums lanes.events) (is_end sums lanes.events)) all))
      by (inr (stop, is, part)) = some_status stop status (put ++ (lanes.lines ++ lanes.front)) is (inr (inr (record {
        status = end;
        whole = whole;
        all = inl all;
        part = prefix_behind put (lanes.lines ++ lanes.front) (lanes.lines ++ last_lines form numbers sums) whole (prefix_behind lanes.lines lanes.front (last_lines form numbers sums) (lanes.lines ++ last_lines form numbers sums) part refl) refl;
      })))

    stopped : (more : List ℕ) (status : CheckStatus) → LanesStop asked image counts status more → ChecksBy asked image counts status (put ++ more)
    stopped more status lanes = some_status lanes.stop status (put ++ more) lanes.status_is (inr (inl (record {
      count = count;
      count_is = known;
      verdicts = to.verdicts;
      are = to.are;
      lanes = lanes.part.lanes;
      within = omega (arith, lanes.part.within, lanes.within);
      events = lanes.part.verdicts;
      events_are = lanes.part.are;
      part = prefix_behind put more (put_events form lanes.part.verdicts) (put_all form to.verdicts ++ put_events form lanes.part.verdicts) lanes.part.part (ap (λ (bytes : List ℕ). bytes ++ put_events form lanes.part.verdicts) (sym to.put_is));
    })))

    -- after the logs the event logs are read
    pub lanes_checks : (more : List ℕ) (status : CheckStatus) → ChecksLanes asked image counts sums status more → ChecksBy asked image counts status (put ++ more)
    lanes_checks more status (inl lanes) = subst (λ (bytes : List ℕ). ChecksBy asked image counts status (put ++ bytes)) (sym lanes.put_is) (ended more status lanes)
    lanes_checks more status (inr lanes) = stopped more status lanes

-- the event logs that are read are of those that are asked for
pub seen_within : (events : List ℕ) (image : Image) (counts : Counts) (seen : Seen) → IsSeen events image counts seen → seen.lanes ≤ lanes_asked events image
seen_within events image counts seen (are, inl is) = omega (arith, is)
seen_within events image counts seen (are, inr (unread, none)) = omega (arith, none)

-- what was seen of the number files, over more calls
pub numbers_wider : (image : Image) (inner outer : Counts) (numbers : Numbers) → IsWithin inner outer → AreNumbers image inner numbers → AreNumbers image outer numbers
numbers_wider image inner outer found.Sound within are = are
numbers_wider image inner outer found.Damaged within are = are
numbers_wider image inner outer found.Unread within are = failed_wider IsOfNumbers inner outer within are

pub seen_wider : (events : List ℕ) (image : Image) (inner outer : Counts) (seen : Seen) → IsWithin inner outer → IsSeen events image inner seen → IsSeen events image outer seen
seen_wider events image inner outer seen within is = (numbers_wider image inner outer seen.numbers within is.0, is.1)

-- what is put of the event logs, over more calls
pub lanes_wider : (asked : Asked) (image : Image) (inner outer : Counts) (sums : Sums) (status : CheckStatus) (put : List ℕ) → IsWithin inner outer → ChecksLanes asked image inner sums status put → ChecksLanes asked image outer sums status put
lanes_wider asked image inner outer sums status put within (inl lanes) = inl (record {
  seen = lanes.seen;
  seen_is = seen_wider asked.events image inner outer lanes.seen within lanes.seen_is;
  events = lanes.events;
  lines = lanes.lines;
  walked = walked_wider asked.form image inner outer lanes.seen.lanes lanes.events lanes.lines within lanes.walked;
  front = lanes.front;
  ends = lanes.ends;
  put_is = lanes.put_is;
})
lanes_wider asked image inner outer sums status put within (inr lanes) = inr (record {
  stop = lanes.stop;
  status_is = lanes.status_is;
  lanes = lanes.lanes;
  within = lanes.within;
  part = part_wider asked.form image inner outer lanes.lanes put within lanes.part;
})

-- ---- what is put, over more calls

module _ (asked : Asked) (image : Image) (inner outer : Counts) (within : IsWithin inner outer) where
  judged_are : (ns : List ℕ) (vs : List (Option Verdict)) → AreJudged asked.form (is_whole asked.numbers) image inner ns vs → AreJudged asked.form (is_whole asked.numbers) image outer ns vs
  judged_are ns vs are = judged_wider_all asked.form (is_whole asked.numbers) image inner outer ns vs within are

  all_wider : (status : CheckStatus) (put : List ℕ) → ChecksAll asked image inner status put → ChecksAll asked image outer status put
  all_wider status put all = record {
    count = all.count;
    count_is = all.count_is;
    verdicts = all.verdicts;
    are = judged_are (first_numbers asked.numbers all.count) all.verdicts all.are;
    seen = all.seen;
    seen_is = seen_wider asked.events image inner outer all.seen within all.seen_is;
    events = all.events;
    events_are = events_wider image inner outer all.seen.lanes all.events within all.events_are;
    put_is = all.put_is;
    status_is = all.status_is;
  }

  unknown_wider : (numbers : Numbers) → AreUnknown asked image inner numbers → AreUnknown asked image outer numbers
  unknown_wider found.Sound unknown = unknown
  unknown_wider found.Damaged unknown = unknown
  unknown_wider found.Unread unknown = (unknown.0, failed_wider IsOfNumbers inner outer within unknown.1)

  whole_wider : (status : CheckStatus) (put : List ℕ) → ChecksWhole asked image inner status put → ChecksWhole asked image outer status put
  whole_wider status put (inl all) = inl (all_wider status put all)
  whole_wider status put (inr none) = inr (record { numbers = none.numbers; unknown = unknown_wider none.numbers none.unknown; put_is = none.put_is; status_is = none.status_is })

  some_wider : (put : List ℕ) → ChecksSome asked image inner put → ChecksSome asked image outer put
  some_wider put (inl logs) = inl (record { all = logs.all; all_is = logs.all_is; count = logs.count; within = logs.within; verdicts = logs.verdicts; are = judged_are (first_numbers asked.numbers logs.count) logs.verdicts logs.are; part = logs.part })
  some_wider put (inr (inl events)) = inr (inl (record {
    count = events.count;
    count_is = events.count_is;
    verdicts = events.verdicts;
    are = judged_are (first_numbers asked.numbers events.count) events.verdicts events.are;
    lanes = events.lanes;
    within = events.within;
    events = events.events;
    events_are = events_wider image inner outer events.lanes events.events within events.events_are;
    part = events.part;
  }))
  some_wider put (inr (inr sums)) = inr (inr (record { status = sums.status; whole = sums.whole; all = whole_wider sums.status sums.whole sums.all; part = sums.part }))

  memory_wider : (put : List ℕ) → ChecksBy asked image inner statuses.NoMem put → ChecksBy asked image outer statuses.NoMem put
  memory_wider put (inl none) = inl none
  memory_wider put (inr some) = inr (some_wider put some)

  pub checks_wider : (status : CheckStatus) (put : List ℕ) → ChecksBy asked image inner status put → ChecksBy asked image outer status put
  checks_wider statuses.Sound put is = all_wider statuses.Sound put is
  checks_wider statuses.Damaged put is = whole_wider statuses.Damaged put is
  checks_wider statuses.ReadFault put is = whole_wider statuses.ReadFault put is
  checks_wider statuses.WriteFault put is = some_wider put is
  checks_wider statuses.NoMem put is = memory_wider put is
  checks_wider statuses.Usage put is = absurd is

-- the same number of faults before
pub same_counts : (old mid new : DiskView) → ((g : FileId) → mid.faults g ≡ old.faults g) → counts_of mid new ≡ counts_of old new
same_counts old mid new same = ap (λ (f : FileId → ℕ). let c : Counts = record { before = f; now = new.faults } in c) (fun_ext same)
