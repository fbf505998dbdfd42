-- How long the files of an open log are, and whether they take a record.
use Rattle.std.proofs.Common.{◌≡◌, ◌≢◌, ◌≤◌, ◌<◌, ◌+◌, ◌^◌, ℕ, List, [], ◌∷◌, ◌++◌, length, refl, sym, ◌∙◌, ap, subst, inl, inr, arith, Option, Some, None, length-append}
use Rattle.std.specs.Prelude.{◌&&◌, nat_le, nat_lt, Bool, true, false, option_map}
use Rattle.std.proofs.lemmas.Bool.Decides.{nat_tests}
use Rattle.lsv_disk.specs.View.{DiskView, IsCrashImage}
use Rattle.lsv_disk.specs.declared.file.Part.{Part}
use Rattle.lsv_disk.specs.declared.file.Part.TheVariants.{Exit, Timing}
use Rattle.lsv_bundle.specs.declared.body.Body.{Body}
use Rattle.lsv_bundle.specs.declared.shape.Shape.{Shape}
use Rattle.lsv_bundle.specs.declared.shape.Shape.TheVariants as shapes
use Rattle.lsv_bundle.specs.Body.{length_of}
use Rattle.lsv_bundle.specs.Calls.{IsFull}
use Rattle.lsv_bundle.specs.Committed.{Committed, HoldsEntry, committed}
use Rattle.lsv_bundle.specs.Shape.{IsPart}
use Rattle.lsv_bundle.specs.Value.{BundleView, committed_length, next_length, staged}
use Rattle.lsv_bundle.proofs.Laws.{represents_holds}
use Rattle.lsv_iolog.specs.Recovered.{HasExit, laid_in, owner_of, part_of}
use Rattle.lsv_iolog.specs.Represents.{Represents}
use Rattle.lsv_iolog.specs.Room.{IsDataFull, IsFullOf, IsRoomFor}
use Rattle.lsv_iolog.specs.Value.{IoLogView, LogValue, all_of, flushed, is_complete}
use Rattle.lsv_iolog.specs.declared.fault.LogFault.{LogFault}
use Rattle.lsv_iolog.specs.declared.fault.LogFault.TheVariants as faults
use Rattle.lsv_iolog.proofs.Representing.{holds_as}
use Rattle.lsv_iolog.proofs.Staging.{stream_part}
use Rattle.lsv_record.specs.Layout.{layout_of}
use Rattle.lsv_record.specs.Lines.{told_delay}
use Rattle.lsv_record.specs.Records.{data_in, delay_of, elapsed, event_of, line_of, shape_of, shaped_line, stream_of, timing_of}
use Rattle.lsv_record.specs.declared.laid.Laid.{Laid}
use Rattle.lsv_record.specs.declared.records.Record.{Record}
use Rattle.lsv_record.specs.declared.records.Record.TheVariants.{Io, Winsize, Suspend}
use Rattle.lsv_record.specs.declared.records.Shaped.{Shaped}
use Rattle.lsv_record.specs.declared.records.Stream.{Stream}
use Rattle.lsv_record.specs.declared.records.Stream.TheVariants as stream
use Rattle.lsv_record.proofs.Layouts.{stream_of-append, stream_of-push, timing_of-append, timing_of-push}
use Rattle.lsv_machine.specs.Work.{files_take, fits_file, stream_takes, takes}
use Rattle.lsv_machine.proofs.Choices.{EqOr.equal, EqOr.unequal, eq_or}
use Rattle.lsv_keeper.specs.Logs.{IsAppendFault}

-- ---- The last entry

mapped_body : (f : Body → Committed) → ((body : Body) → (f body).body ≡ body) → (o : Option Body) (entry : Committed) → option_map f o ≡ Some entry → o ≡ Some entry.body
mapped_body f its None entry e = absurd (cc)
mapped_body f its (Some body) entry e = let same : f body ≡ entry = cc in ap Some (sym (its body) ∙ ap (λ (c : Committed). c.body) same)

last_body : (b : BundleView) (disk : DiskView) (entry : Committed) → committed b disk ≡ Some entry → b.last ≡ Some entry.body
last_body b disk entry e = mapped_body _ (λ body. refl) b.last entry e

-- a log without an exit isn't complete
pub going_log : (log : IoLogView) (value : LogValue) (disk : DiskView) → Represents log value disk → value.stored.exit ≡ None → is_complete log ≡ false
going_log log value disk at going =
    let last = last_body log.bundle disk at.entry at.committed in
    let none = subst (λ (o : Option (List ℕ)). HasExit at.entry.body.kind (at.entry.bytes Exit) o) going at.is.exit in
    elim (eq_or at.entry.body.kind 3) [ equal p t ↦ absurd (none.0 p) | unequal p t ↦ rw (last, t) refl ]

-- ---- How long the files are with what is staged

-- with what is staged the files have as many bytes as these records
pub record Sizes (log : IoLogView) (records : List Record) : Type 0 where
  pub timing : next_length log.bundle Timing ≡ length (timing_of records)
  pub streams : (s : Stream) → next_length log.bundle (part_of s) ≡ length (stream_of s records)

committed_long : (log : IoLogView) (value : LogValue) (disk : DiskView) (part : Part) → IsPart shapes.Log part → IsCrashImage disk disk.reads → (at : Represents log value disk)
    → committed_length log.bundle part ≡ length (at.entry.bytes part)
committed_long log value disk part is here at =
    let holds : HoldsEntry (owner_of log.number) shapes.Log at.entry disk.reads =
    holds_as log.bundle.owner (owner_of log.number) log.bundle.shape shapes.Log (committed log.bundle disk) (Some at.entry) disk.reads at.owner at.shape at.committed
    (represents_holds log.bundle disk at.bundle disk.reads (λ f own. here f)) in
    let long : length_of at.entry.body part ≡ committed_length log.bundle part =
    at.bundle.lengths at.entry.body (last_body log.bundle disk at.entry at.committed) part (subst (λ (s : Shape). IsPart s part) (sym at.shape) is) in
    sym long ∙ sym (holds.lengths part is)

sum_of : (n : ℕ) (a b c d all : List ℕ) → n ≡ length a → a ≡ c → b ≡ d → all ≡ c ++ d → n + length b ≡ length all
sum_of n a b c d all long e f g =
    let h : length c + length d ≡ length (c ++ d) = omega (arith, length-append {A = ℕ}) in
    ap (λ (x : ℕ). x + length b) long ∙ ap (λ (x : List ℕ). length x + length b) e ∙ ap (λ (x : List ℕ). length c + length x) f ∙ h ∙ ap length (sym g)

laid_stream : (bytes : Part → List ℕ) (s : Stream) (records : List Record) → laid_in bytes ≡ layout_of records
    → bytes (part_of s) ≡ stream_of s records
laid_stream bytes stream.Stdin records e = ap (λ (l : Laid). l.stdin) e
laid_stream bytes stream.Stdout records e = ap (λ (l : Laid). l.stdout) e
laid_stream bytes stream.Stderr records e = ap (λ (l : Laid). l.stderr) e
laid_stream bytes stream.Ttyin records e = ap (λ (l : Laid). l.ttyin) e
laid_stream bytes stream.Ttyout records e = ap (λ (l : Laid). l.ttyout) e

pub sizes : (log : IoLogView) (value : LogValue) (disk : DiskView) → IsCrashImage disk disk.reads → Represents log value disk → Sizes log (all_of value)
sizes log value disk here at = record {
  timing = sum_of (committed_length log.bundle Timing) (at.entry.bytes Timing) (staged log.bundle Timing) (timing_of value.stored.records) (timing_of value.staged) (timing_of (all_of value))
      (committed_long log value disk Timing tt here at) (ap (λ (l : Laid). l.timing) at.is.layout) (ap (λ (l : Laid). l.timing) at.staged.layout) (timing_of-append value.stored.records value.staged);
  streams = λ s. sum_of (committed_length log.bundle (part_of s)) (at.entry.bytes (part_of s)) (staged log.bundle (part_of s)) (stream_of s value.stored.records) (stream_of s value.staged) (stream_of s (all_of value))
      (committed_long log value disk (part_of s) (stream_part s) here at) (laid_stream at.entry.bytes s value.stored.records at.is.layout) (laid_stream (staged log.bundle) s value.staged at.staged.layout)
      (stream_of-append s value.stored.records value.staged);
}

-- ---- Whether they take a record

at_most : (a b : ℕ) → (b < a → ⊥) → nat_le a b ≡ true
at_most a b no_more = go (nat_le a b) refl
  where
    go : (t : Bool) → nat_le a b ≡ t → nat_le a b ≡ true
    go true e = e
    go false e = absurd (no_more (grind (arith, nat_tests)))

more_than : (a b : ℕ) → b < a → nat_le a b ≡ false
more_than a b more = go (nat_le a b) refl
  where
    go : (t : Bool) → nat_le a b ≡ t → nat_le a b ≡ false
    go true e = absurd (let le : a ≤ b = grind (arith, nat_tests) in omega arith)
    go false e = e

below_it : (a b : ℕ) → a < b → nat_lt a b ≡ true
below_it a b below = go (nat_lt a b) refl
  where
    go : (t : Bool) → nat_lt a b ≡ t → nat_lt a b ≡ true
    go true e = e
    go false e = absurd (let le : b ≤ a = grind (arith, nat_tests) in omega arith)

not_below : (a b : ℕ) → b ≤ a → nat_lt a b ≡ false
not_below a b le = go (nat_lt a b) refl
  where
    go : (t : Bool) → nat_lt a b ≡ t → nat_lt a b ≡ false
    go true e = absurd (let lt : a < b = grind (arith, nat_tests) in omega arith)
    go false e = e

and_false : (b : Bool) → b && false ≡ false
and_false true = refl
and_false false = refl

pub delay_told : (r : Record) → delay_of r ≡ told_delay (shape_of r)
delay_told (Io delay s bytes) = refl
delay_told (Winsize delay rows cols) = refl
delay_told (Suspend delay signal) = refl

pub same_delay : (r stored : Record) → shape_of stored ≡ shape_of r → delay_of stored ≡ delay_of r
same_delay r stored e = delay_told stored ∙ ap told_delay e ∙ sym (delay_told r)

timing_long : (log : IoLogView) (records : List Record) (r stored : Record) → Sizes log records → shape_of stored ≡ shape_of r
    → length (timing_of (records ++ r ∷ [])) ≡ next_length log.bundle Timing + length (line_of stored)
timing_long log records r stored s e =
    let h : length (timing_of records ++ line_of r) ≡ length (timing_of records) + length (line_of r) = omega (arith, length-append {A = ℕ}) in
    ap length (timing_of-push records r) ∙ h ∙ ap (λ (x : ℕ). x + length (line_of r)) (sym s.timing) ∙ ap (λ (x : Shaped). next_length log.bundle Timing + length (shaped_line x)) (sym e)

own_data : (delay : ℕ) (s : Stream) (bytes : List ℕ) → data_in s (Io delay s bytes) ≡ bytes
own_data delay s bytes = elim (eq_or (event_of s) (event_of s)) [ equal p t ↦ rw t refl | unequal p t ↦ absurd (p refl) ]

stream_long : (log : IoLogView) (records : List Record) (delay : ℕ) (s : Stream) (bytes : List ℕ) → Sizes log records
    → length (stream_of s (records ++ Io delay s bytes ∷ [])) ≡ next_length log.bundle (part_of s) + length bytes
stream_long log records delay s bytes sized =
    let h : length (stream_of s records ++ bytes) ≡ length (stream_of s records) + length bytes = omega (arith, length-append {A = ℕ}) in
    ap length (stream_of-push s records (Io delay s bytes)) ∙ ap (λ (x : List ℕ). length (stream_of s records ++ x)) (own_data delay s bytes) ∙ h ∙ ap (λ (x : ℕ). x + length bytes) (sym (sized.streams s))

no_room : (records : List Record) (delay n : ℕ) (s : Stream) (bytes : List ℕ) → length (stream_of s (records ++ Io delay s bytes ∷ [])) ≡ n → (2 ^ 40 < n → ⊥) → stream_takes records (Io delay s bytes) ≡ true
no_room records delay n s bytes long no_more = at_most (length (stream_of s (records ++ Io delay s bytes ∷ []))) (2 ^ 40) (λ more. no_more (subst (λ (x : ℕ). 2 ^ 40 < x) long more))

stream_room : (log : IoLogView) (records : List Record) (r stored : Record) → Sizes log records → shape_of stored ≡ shape_of r → ((part : Part) → IsDataFull log.bundle stored part → ⊥) → stream_takes records r ≡ true
stream_room log records (Io d s b) (Io d' s' b') sized e room =
    let es : s' ≡ s = cc in
    let el : length b' ≡ length b = cc in
    let long : length (stream_of s (records ++ Io d s b ∷ [])) ≡ next_length log.bundle (part_of s') + length b' =
    stream_long log records d s b sized ∙ ap (λ (x : Stream). next_length log.bundle (part_of x) + length b) (sym es) ∙ ap (λ (x : ℕ). next_length log.bundle (part_of s') + x) (sym el) in
    no_room records d (next_length log.bundle (part_of s') + length b') s b long (λ more. room (part_of s') (refl, more))
stream_room log records (Io d s b) (Winsize d' rows' cols') sized e room = absurd (cc)
stream_room log records (Io d s b) (Suspend d' signal') sized e room = absurd (cc)
stream_room log records (Winsize d rows cols) stored sized e room = refl
stream_room log records (Suspend d signal) stored sized e room = refl

stream_full : (log : IoLogView) (records : List Record) (r stored : Record) (part : Part) → Sizes log records → shape_of stored ≡ shape_of r → IsDataFull log.bundle stored part → stream_takes records r ≡ false
stream_full log records (Io d s b) (Io d' s' b') part sized e full =
    let es : s' ≡ s = cc in
    let el : length b' ≡ length b = cc in
    let long : length (stream_of s (records ++ Io d s b ∷ [])) ≡ next_length log.bundle (part_of s') + length b' =
    stream_long log records d s b sized ∙ ap (λ (x : Stream). next_length log.bundle (part_of x) + length b) (sym es) ∙ ap (λ (x : ℕ). next_length log.bundle (part_of s') + x) (sym el) in
    more_than (length (stream_of s (records ++ Io d s b ∷ []))) (2 ^ 40) (subst (λ (x : ℕ). 2 ^ 40 < x) (sym long) full.1)
stream_full log records (Io d s b) (Winsize d' rows' cols') part sized e full = absurd full
stream_full log records (Io d s b) (Suspend d' signal') part sized e full = absurd full
stream_full log records (Winsize d rows cols) (Io d' s' b') part sized e full = absurd (cc)
stream_full log records (Winsize d rows cols) (Winsize d' rows' cols') part sized e full = absurd full
stream_full log records (Winsize d rows cols) (Suspend d' signal') part sized e full = absurd full
stream_full log records (Suspend d signal) (Io d' s' b') part sized e full = absurd (cc)
stream_full log records (Suspend d signal) (Winsize d' rows' cols') part sized e full = absurd full
stream_full log records (Suspend d signal) (Suspend d' signal') part sized e full = absurd full

-- where there is room in the files of the log, they take the record
pub room_takes : (log : IoLogView) (records : List Record) (r stored : Record) → Sizes log records → shape_of stored ≡ shape_of r → IsRoomFor log.bundle stored → files_take records r ≡ true
room_takes log records r stored sized e room =
    let not_full : 2 ^ 40 < next_length log.bundle Timing + length (line_of stored) → ⊥ = λ full. room Timing (inl (refl, full)) in
    let timing : nat_le (length (timing_of (records ++ r ∷ []))) (2 ^ 40) ≡ true =
    at_most (length (timing_of (records ++ r ∷ []))) (2 ^ 40) (λ more. not_full (subst (λ (x : ℕ). 2 ^ 40 < x) (timing_long log records r stored sized e) more)) in
    rw timing (stream_room log records r stored sized e (λ part full. room part (inr (not_full, full))))

-- and where a file is full, they don't
pub full_takes : (log : IoLogView) (records : List Record) (r stored : Record) (part : Part) → Sizes log records → shape_of stored ≡ shape_of r → IsFullOf log.bundle stored part → files_take records r ≡ false
full_takes log records r stored part sized e (inl (is, full)) =
    let timing : nat_le (length (timing_of (records ++ r ∷ []))) (2 ^ 40) ≡ false =
    more_than (length (timing_of (records ++ r ∷ []))) (2 ^ 40) (subst (λ (x : ℕ). 2 ^ 40 < x) (sym (timing_long log records r stored sized e)) full) in
    rw timing refl
full_takes log records r stored part sized e (inr (room, full)) = rw (stream_full log records r stored part sized e full) (and_false (nat_le (length (timing_of (records ++ r ∷ []))) (2 ^ 40)))

-- a log takes the record that was staged
pub takes_it : (log : IoLogView) (value : LogValue) (disk : DiskView) (r stored : Record) → IsCrashImage disk disk.reads → Represents log value disk → shape_of stored ≡ shape_of r
    → IsRoomFor log.bundle stored → log.elapsed + delay_of stored < 2 ^ 63 → takes (flushed value) r ≡ true
takes_it log value disk r stored here at e room time =
    let t : elapsed (all_of value) + delay_of r < 2 ^ 63 = subst (λ (x : ℕ). elapsed (all_of value) + x < 2 ^ 63) (same_delay r stored e) (subst (λ (x : ℕ). x + delay_of stored < 2 ^ 63) at.time time) in
    rw (below_it (elapsed (all_of value) + delay_of r) (2 ^ 63) t) (room_takes log (all_of value) r stored (sizes log value disk here at) e room)

-- and none that it refused, where memory was ample
pub takes_not : (log : IoLogView) (value : LogValue) (disk : DiskView) (r stored : Record) (fault : LogFault) → IsCrashImage disk disk.reads → Represents log value disk → shape_of stored ≡ shape_of r
    → IsAppendFault log stored fault → fault ≢ faults.NoMem → takes (flushed value) r ≡ false
takes_not log value disk r stored (faults.TooLong point) here at e long ample =
    let t : 2 ^ 63 ≤ elapsed (all_of value) + delay_of r = subst (λ (x : ℕ). 2 ^ 63 ≤ elapsed (all_of value) + x) (same_delay r stored e) (subst (λ (x : ℕ). 2 ^ 63 ≤ x + delay_of stored) at.time long) in
    rw (not_below (elapsed (all_of value) + delay_of r) (2 ^ 63) t) refl
takes_not log value disk r stored (faults.Full part) here at e (time, full) ample =
    rw (full_takes log (all_of value) r stored part (sizes log value disk here at) e full) (and_false (nat_lt (elapsed (all_of value) + delay_of r) (2 ^ 63)))
takes_not log value disk r stored faults.Broken here at e broken ample = absurd (let f : false ≡ true = sym at.whole ∙ broken in cc)
takes_not log value disk r stored faults.NoMem here at e none ample = absurd (ample refl)
takes_not log value disk r stored faults.Absent here at e none ample = absurd none
takes_not log value disk r stored (faults.Damaged part) here at e none ample = absurd none
takes_not log value disk r stored faults.Complete here at e none ample = absurd none
takes_not log value disk r stored (faults.NoPoint point) here at e none ample = absurd none
takes_not log value disk r stored faults.Disk here at e none ample = absurd none

-- ---- The text of an exit

exit_empty : (log : IoLogView) (value : LogValue) (disk : DiskView) → IsCrashImage disk disk.reads → Represents log value disk → value.stored.exit ≡ None → next_length log.bundle Exit ≡ 0
exit_empty log value disk here at going =
    let none = subst (λ (o : Option (List ℕ)). HasExit at.entry.body.kind (at.entry.bytes Exit) o) going at.is.exit in
    let long : committed_length log.bundle Exit ≡ 0 = committed_long log value disk Exit tt here at ∙ ap length none.1 in
    let staged_none : length (staged log.bundle Exit) ≡ 0 = ap length at.staged.exit in
    omega arith

-- an exit fits where there is room for it in its file, and only there
pub exit_fits : (log : IoLogView) (value : LogValue) (disk : DiskView) (text : List ℕ) → IsCrashImage disk disk.reads → Represents log value disk → value.stored.exit ≡ None
    → (IsFull log.bundle Exit (length text) → ⊥) → fits_file text ≡ true
exit_fits log value disk text here at going room =
    let none = exit_empty log value disk here at going in
    at_most (length text) (2 ^ 40) (λ more. room (omega arith))

pub exit_full : (log : IoLogView) (value : LogValue) (disk : DiskView) (text : List ℕ) → IsCrashImage disk disk.reads → Represents log value disk → value.stored.exit ≡ None
    → IsFull log.bundle Exit (length text) → fits_file text ≡ false
exit_full log value disk text here at going full =
    let none = exit_empty log value disk here at going in
    more_than (length text) (2 ^ 40) (omega arith)
