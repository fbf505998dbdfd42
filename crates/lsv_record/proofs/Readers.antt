-- A layout that is read from its first line to its last.
use Rattle.std.proofs.Common.{◌≡◌, ℕ, ◌+◌, ◌^◌, ◌<◌, ◌≤◌, cond, nat_eq, inl, inr, List, [], ◌∷◌, ◌++◌, length, take, drop, get_or, set, ◌⊎◌, arith, refl, sym, ap, ◌∙◌, subst, lit<, append_assoc, append-nil, length-append, get_or-set_same, get_or-set_other, eq-eqb, length-set}
use Rattle.std.proofs.lemmas.Bool.{cases_eq, ne_eqb}
use Rattle.std.proofs.lemmas.List.{drop_at, take-append-drop}
use Rattle.std.proofs.lemmas.List.Elements.{All-nil, All-push}
use Rattle.lsv_defs.specs.Pieces.{IsPrefix}
use Rattle.lsv_record.specs.declared.laid.Laid.{Laid}
use Rattle.lsv_record.specs.declared.log.Reader.{Reader}
use Rattle.lsv_record.specs.declared.records.Record.{Record}
use Rattle.lsv_record.specs.declared.records.Record.TheVariants as records
use Rattle.lsv_record.specs.declared.records.Stream.{Stream}
use Rattle.lsv_record.specs.declared.records.Stream.TheVariants.{Stdin, Stdout, Stderr, Ttyin, Ttyout}
use Rattle.lsv_record.specs.declared.records.Shaped.{Shaped}
use Rattle.lsv_record.specs.declared.records.Shaped.TheVariants.{Io}
use Rattle.lsv_record.specs.Records.{event_of, shape_of, shaped_line, line_of, delay_of, data_in, timing_of, stream_of, elapsed, IsGood, IsValid}
use Rattle.lsv_record.specs.Layout.{stream_in}
use Rattle.lsv_record.specs.Lines.{IsLineAt}
use Rattle.lsv_record.specs.Inner.Reader.{IsBehind, IsTaken}
use Rattle.lsv_record.proofs.Layouts.{timing_of-push, stream_of-push, elapsed-push}

-- the stream of an event
at_event : ℕ → Stream
at_event event = cond (nat_eq event 0) Stdin (cond (nat_eq event 1) Stdout (cond (nat_eq event 2) Stderr (cond (nat_eq event 3) Ttyin Ttyout)))

at_its_event : (s : Stream) → at_event (event_of s) ≡ s
unfolding at_event
at_its_event Stdin = refl
at_its_event Stdout = refl
at_its_event Stderr = refl
at_its_event Ttyin = refl
at_its_event Ttyout = refl

pub event_once : (s t : Stream) → event_of s ≡ event_of t → s ≡ t
event_once s t e = sym (at_its_event s) ∙ ap at_event e ∙ at_its_event t

pub event_below : (s : Stream) → event_of s < 5
event_below Stdin = lit< tt
event_below Stdout = lit< tt
event_below Stderr = lit< tt
event_below Ttyin = lit< tt
event_below Ttyout = lit< tt

pub prefix_length : (a b : List ℕ) → IsPrefix a b → length a ≤ length b
prefix_length a b f = omega (arith, length-append a f.0, ap length f.1)

-- what was taken of a stream is there
pub taken_within : (l : Laid) (reader : Reader) (s : Stream) → IsBehind l reader → get_or reader.taken (event_of s) 0 ≤ length (stream_in s l)
taken_within l reader s behind = omega (arith, behind.taken s, prefix_length (stream_of s reader.records) (stream_in s l) (behind.begins.streams s))

abbrev zeros : List ℕ
zeros = 0 ∷ 0 ∷ 0 ∷ 0 ∷ 0 ∷ []

abbrev none : List ℕ
none = []

-- before the first record
pub at_start : (l : Laid) (rs : List Record) → rs ≡ [] → IsBehind l (record { records = rs; at = 0; elapsed = 0; taken = zeros })
at_start l rs e = subst (λ (qs : List Record). IsBehind l (record { records = qs; at = 0; elapsed = 0; taken = zeros })) (sym e)
    (record {
      begins = record { valid = All-nil IsValid; time = lit< tt; timing = (l.timing, refl); streams = λ s. (stream_in s l, refl) };
      offset = refl;
      time = refl;
      five = refl;
      taken = none_taken;
    })
  where
    none_taken : (s : Stream) → get_or zeros (event_of s) 0 ≡ length none
    none_taken Stdin = refl
    none_taken Stdout = refl
    none_taken Stderr = refl
    none_taken Ttyin = refl
    none_taken Ttyout = refl

-- a record without data
pub nothing_taken : (l : Laid) (told : Shaped) (old new : Reader) (r : Record) → IsBehind l old → shape_of r ≡ told → new.records ≡ old.records → new.at ≡ old.at → new.elapsed ≡ old.elapsed + delay_of r → new.elapsed < 2 ^ 63 → new.taken ≡ old.taken → ((s : Stream) → data_in s r ≡ []) → IsTaken l told old new r
nothing_taken l told old new r behind shape records offset time in_time taken none = record {
  shape = shape;
  records = records;
  offset = offset;
  time = time;
  in_time = in_time;
  five = ap length taken ∙ behind.five;
  taken = λ s. ap (λ (t : List ℕ). get_or t (event_of s) 0) taken ∙ omega (arith, ap length (none s));
  fits = λ s. let prefix = behind.begins.streams s in (prefix.0, prefix.1 ∙ ap (λ (t : List ℕ). t ++ prefix.0) (sym (append-nil (stream_of s old.records)) ∙ ap (λ (t : List ℕ). stream_of s old.records ++ t) (sym (none s))));
}

-- the count of a stream, where this many bytes were taken of one
pub counted : (taken : List ℕ) (s stream : Stream) (bytes : List ℕ) (count : ℕ) → length taken ≡ 5 → length bytes ≡ count →
    get_or (set taken (event_of stream) (get_or taken (event_of stream) 0 + count)) (event_of s) 0 ≡ get_or taken (event_of s) 0 + length (cond (nat_eq (event_of s) (event_of stream)) bytes [])
counted taken s stream bytes count five long = by_case (cases_eq (event_of s) (event_of stream))
  where
    by_case : (event_of s ≡ event_of stream) ⊎ (event_of s ≡ event_of stream → ⊥) → get_or (set taken (event_of stream) (get_or taken (event_of stream) 0 + count)) (event_of s) 0 ≡ get_or taken (event_of s) 0 + length (cond (nat_eq (event_of s) (event_of stream)) bytes [])
    by_case (inl same) =
        let below = event_below stream in
        let put : get_or (set taken (event_of stream) (get_or taken (event_of stream) 0 + count)) (event_of stream) 0 ≡ get_or taken (event_of stream) 0 + count = get_or-set_same taken (event_of stream) _ 0 (omega arith) in
        rw (same, eq-eqb (event_of stream) (event_of stream) refl) (put ∙ ap (λ (n : ℕ). get_or taken (event_of stream) 0 + n) (sym long))
    by_case (inr other) =
        rw (ne_eqb (event_of s) (event_of stream) other) (get_or-set_other taken (event_of stream) (event_of s) _ 0 other ∙ omega arith)

-- the next bytes of a stream are a prefix of what it has left
next_bytes : (prefix stream bytes : List ℕ) (count : ℕ) → IsPrefix prefix stream → bytes ≡ take count (drop (length prefix) stream) → IsPrefix (prefix ++ bytes) stream
next_bytes prefix stream bytes count f e =
    let rest : drop (length prefix) stream ≡ f.0 = ap (drop (length prefix)) f.1 ∙ drop_at prefix f.0 (length prefix) refl in
    let split : f.0 ≡ bytes ++ drop count f.0 = sym (take-append-drop count f.0) ∙ ap (λ (t : List ℕ). t ++ drop count f.0) (ap (take count) (sym rest) ∙ sym e) in
    (drop count f.0, f.1 ∙ (ap (λ (t : List ℕ). prefix ++ t) split ∙ sym (append_assoc prefix bytes (drop count f.0))))

pub fitting : (l : Laid) (old : Reader) (s stream : Stream) (bytes : List ℕ) (count : ℕ) → IsBehind l old → bytes ≡ take count (drop (get_or old.taken (event_of stream) 0) (stream_in stream l)) → IsPrefix (stream_of s old.records ++ cond (nat_eq (event_of s) (event_of stream)) bytes []) (stream_in s l)
fitting l old s stream bytes count behind e = by_case (cases_eq (event_of s) (event_of stream))
  where
    by_case : (event_of s ≡ event_of stream) ⊎ (event_of s ≡ event_of stream → ⊥) → IsPrefix (stream_of s old.records ++ cond (nat_eq (event_of s) (event_of stream)) bytes []) (stream_in s l)
    by_case (inl same) =
        let there : bytes ≡ take count (drop (length (stream_of stream old.records)) (stream_in stream l)) = e ∙ ap (λ (n : ℕ). take count (drop n (stream_in stream l))) (behind.taken stream) in
        let prefix = next_bytes (stream_of stream old.records) (stream_in stream l) bytes count (behind.begins.streams stream) there in
        subst (λ (t : Stream). IsPrefix (stream_of t old.records ++ cond (nat_eq (event_of t) (event_of stream)) bytes []) (stream_in t l)) (sym (event_once s stream same))
        (rw (eq-eqb (event_of stream) (event_of stream) refl) prefix)
    by_case (inr other) =
        let prefix = behind.begins.streams s in
        rw (ne_eqb (event_of s) (event_of stream) other, append-nil) prefix

-- data of a stream
pub data_taken : (l : Laid) (told : Shaped) (old new : Reader) (delay : ℕ) (stream : Stream) (bytes : List ℕ) (count event : ℕ) → IsBehind l old → event ≡ event_of stream → told ≡ Io delay stream count → length bytes ≡ count → bytes ≡ take count (drop (get_or old.taken event 0) (stream_in stream l)) →
    new.records ≡ old.records → new.at ≡ old.at → new.elapsed ≡ old.elapsed + delay → new.elapsed < 2 ^ 63 → new.taken ≡ set old.taken event (get_or old.taken event 0 + count) → IsTaken l told old new (records.Io delay stream bytes)
data_taken l told old new delay stream bytes count event behind at_event told_is long bytes_are records offset time in_time taken =
    let taken_is : new.taken ≡ set old.taken (event_of stream) (get_or old.taken (event_of stream) 0 + count) = taken ∙ ap (λ (k : ℕ). set old.taken k (get_or old.taken k 0 + count)) at_event in
    let there : bytes ≡ take count (drop (get_or old.taken (event_of stream) 0) (stream_in stream l)) = bytes_are ∙ ap (λ (k : ℕ). take count (drop (get_or old.taken k 0) (stream_in stream l))) at_event in
    record {
      shape = ap (Io delay stream) long ∙ sym told_is;
      records = records;
      offset = offset;
      time = time;
      in_time = in_time;
      five = ap length taken_is ∙ (length-set old.taken (event_of stream) _ ∙ behind.five);
      taken = λ s. ap (λ (t : List ℕ). get_or t (event_of s) 0) taken_is ∙ counted old.taken s stream bytes count behind.five long;
      fits = λ s. fitting l old s stream bytes count behind there;
    }

-- the record is kept after the others
pub kept : (l : Laid) (told : Shaped) (old mid new : Reader) (r : Record) (next : ℕ) → IsBehind l old → IsTaken l told old mid r → IsLineAt l.timing old.at told next → new.records ≡ mid.records ++ r ∷ [] → new.at ≡ next → new.elapsed ≡ mid.elapsed → new.taken ≡ mid.taken → IsBehind l new
kept l told old mid new r next behind step line records offset time taken =
    let rs = old.records in
    let records_are : new.records ≡ rs ++ r ∷ [] = records ∙ ap (λ (qs : List Record). qs ++ r ∷ []) step.records in
    let line_is : shaped_line told ≡ line_of r = ap shaped_line (sym step.shape) in
    let timing_is : timing_of (rs ++ r ∷ []) ≡ timing_of rs ++ line_of r = timing_of-push rs r in
    let prefix = behind.begins.timing in
    let rest_is : drop old.at l.timing ≡ prefix.0 = ap (λ (k : ℕ). drop k l.timing) behind.offset ∙ (ap (drop (length (timing_of rs))) prefix.1 ∙ drop_at (timing_of rs) prefix.0 (length (timing_of rs)) refl) in
    let rest_spelled : prefix.0 ≡ line_of r ++ drop next l.timing = sym rest_is ∙ (line.spelled ∙ ap (λ (t : List ℕ). t ++ drop next l.timing) line_is) in
    let time_is : elapsed (rs ++ r ∷ []) ≡ elapsed rs + delay_of r = elapsed-push rs r in
    let behind_new : IsBehind l (record { records = rs ++ r ∷ []; at = new.at; elapsed = new.elapsed; taken = new.taken }) =
    record {
      begins = record {
        valid = All-push IsValid rs r behind.begins.valid (subst IsGood (sym step.shape) line.good);
        time = omega (arith, step.time, step.in_time, behind.time);
        timing = (drop next l.timing, prefix.1 ∙ (ap (λ (t : List ℕ). timing_of rs ++ t) rest_spelled ∙ (sym (append_assoc (timing_of rs) (line_of r) (drop next l.timing)) ∙ ap (λ (t : List ℕ). t ++ drop next l.timing) (sym timing_is))));
        streams = λ s. subst (λ (t : List ℕ). IsPrefix t (stream_in s l)) (sym (stream_of-push s rs r)) (step.fits s);
      };
      offset = offset ∙ (line.after ∙ omega (arith, behind.offset, ap length line_is, ap length timing_is, length-append (timing_of rs) (line_of r)));
      time = omega (arith, step.time, behind.time);
      five = ap length taken ∙ step.five;
      taken = λ s. ap (λ (t : List ℕ). get_or t (event_of s) 0) taken ∙ (step.taken s ∙ omega (arith, behind.taken s, ap length (stream_of-push s rs r), length-append (stream_of s rs) (data_in s r)));
    } in
    subst (λ (qs : List Record). IsBehind l (record { records = qs; at = new.at; elapsed = new.elapsed; taken = new.taken })) (sym records_are) behind_new
