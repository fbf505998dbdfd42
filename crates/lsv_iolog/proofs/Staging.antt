-- A record is staged: its line, and then its data; or neither.
use Rattle.std.proofs.Common.{◌≡◌, ◌≢◌, inl, inr, ℕ, ◌+◌, ◌<◌, ◌≤◌, ◌^◌, List, [], ◌∷◌, ◌++◌, length, take, refl, sym, ◌∙◌, ap, subst, arith, append-nil, length-append}
use Rattle.std.proofs.lemmas.List.{take_at}
use Rattle.lsv_disk.specs.declared.file.Part.{Part}
use Rattle.lsv_disk.specs.declared.file.Part.TheVariants.{Head, Exit, Timing, Stdin, Stdout, Stderr, Ttyin, Ttyout, Lines, Id, Commit, Slots}
use Rattle.lsv_bundle.specs.declared.shape.Shape.{Shape}
use Rattle.lsv_bundle.specs.declared.shape.Shape.TheVariants as shapes
use Rattle.lsv_bundle.specs.Calls.{IsFull}
use Rattle.lsv_bundle.specs.Shape.{IsPart}
use Rattle.lsv_bundle.specs.Value.{BundleView, staged, committed_length, next_length, IsStaged}
use Rattle.lsv_bundle.proofs.Laws.{staging_lengths}
use Rattle.lsv_record.specs.declared.records.Record.{Record}
use Rattle.lsv_record.specs.declared.records.Record.TheVariants.{Io, Winsize, Suspend}
use Rattle.lsv_record.specs.declared.records.Shaped.{Shaped}
use Rattle.lsv_record.specs.declared.records.Stream.{Stream}
use Rattle.lsv_record.specs.declared.records.Stream.TheVariants as stream
use Rattle.lsv_record.specs.Records.{data_in, line_of, shaped_line, shape_of, text_of, delay_of}
use Rattle.lsv_iolog.specs.Recovered.{part_of}
use Rattle.lsv_iolog.specs.Room.{IsDataFull, IsFullOf, IsRoomFor}
use Rattle.lsv_iolog.specs.Inner.Staging.{StagesIn}
use Rattle.lsv_iolog.specs.Inner.Invariant.{IsIoLog}
use Rattle.lsv_iolog.specs.Value.{IoLogView}
use Rattle.lsv_iolog.specs.Represents.{Stages}

-- a part of a log is a part of its files
pub of_log : (b : BundleView) (part : Part) → b.shape ≡ shapes.Log → IsPart shapes.Log part → IsPart b.shape part
of_log b part shape is = subst (λ (s : Shape). IsPart s part) (sym shape) is

-- each stream has a file
pub stream_part : (s : Stream) → IsPart shapes.Log (part_of s)
stream_part stream.Stdin = tt
stream_part stream.Stdout = tt
stream_part stream.Stderr = tt
stream_part stream.Ttyin = tt
stream_part stream.Ttyout = tt

not_timing : (s : Stream) → part_of s ≢ Timing
not_timing stream.Stdin = λ e. cc
not_timing stream.Stdout = λ e. cc
not_timing stream.Stderr = λ e. cc
not_timing stream.Ttyin = λ e. cc
not_timing stream.Ttyout = λ e. cc

-- nothing more is staged
pub no_data : (b : BundleView) (r : Record) → ((s : Stream) → data_in s r ≡ []) → StagesIn [] r b b
no_data b r none = record {
  timing = sym (append-nil (staged b Timing));
  streams = λ s. sym (append-nil (staged b (part_of s))) ∙ ap (λ (xs : List ℕ). staged b (part_of s) ++ xs) (sym (none s));
  head = refl;
  exit = refl;
  same = refl;
}

-- data of one stream are staged
stream_staged : (b c : BundleView) (delay : ℕ) (bytes : List ℕ) (s t : Stream) → b.shape ≡ shapes.Log → IsStaged (part_of s) (staged b (part_of s) ++ bytes) b c → staged c (part_of t) ≡ staged b (part_of t) ++ data_in t (Io delay s bytes)
stream_staged b c delay bytes stream.Stdin stream.Stdin shape is = is.staged_is
stream_staged b c delay bytes stream.Stdin stream.Stdout shape is = is.others Stdout (of_log b Stdout shape tt) (λ e. cc) ∙ sym (append-nil (staged b Stdout))
stream_staged b c delay bytes stream.Stdin stream.Stderr shape is = is.others Stderr (of_log b Stderr shape tt) (λ e. cc) ∙ sym (append-nil (staged b Stderr))
stream_staged b c delay bytes stream.Stdin stream.Ttyin shape is = is.others Ttyin (of_log b Ttyin shape tt) (λ e. cc) ∙ sym (append-nil (staged b Ttyin))
stream_staged b c delay bytes stream.Stdin stream.Ttyout shape is = is.others Ttyout (of_log b Ttyout shape tt) (λ e. cc) ∙ sym (append-nil (staged b Ttyout))
stream_staged b c delay bytes stream.Stdout stream.Stdin shape is = is.others Stdin (of_log b Stdin shape tt) (λ e. cc) ∙ sym (append-nil (staged b Stdin))
stream_staged b c delay bytes stream.Stdout stream.Stdout shape is = is.staged_is
stream_staged b c delay bytes stream.Stdout stream.Stderr shape is = is.others Stderr (of_log b Stderr shape tt) (λ e. cc) ∙ sym (append-nil (staged b Stderr))
stream_staged b c delay bytes stream.Stdout stream.Ttyin shape is = is.others Ttyin (of_log b Ttyin shape tt) (λ e. cc) ∙ sym (append-nil (staged b Ttyin))
stream_staged b c delay bytes stream.Stdout stream.Ttyout shape is = is.others Ttyout (of_log b Ttyout shape tt) (λ e. cc) ∙ sym (append-nil (staged b Ttyout))
stream_staged b c delay bytes stream.Stderr stream.Stdin shape is = is.others Stdin (of_log b Stdin shape tt) (λ e. cc) ∙ sym (append-nil (staged b Stdin))
stream_staged b c delay bytes stream.Stderr stream.Stdout shape is = is.others Stdout (of_log b Stdout shape tt) (λ e. cc) ∙ sym (append-nil (staged b Stdout))
stream_staged b c delay bytes stream.Stderr stream.Stderr shape is = is.staged_is
stream_staged b c delay bytes stream.Stderr stream.Ttyin shape is = is.others Ttyin (of_log b Ttyin shape tt) (λ e. cc) ∙ sym (append-nil (staged b Ttyin))
stream_staged b c delay bytes stream.Stderr stream.Ttyout shape is = is.others Ttyout (of_log b Ttyout shape tt) (λ e. cc) ∙ sym (append-nil (staged b Ttyout))
stream_staged b c delay bytes stream.Ttyin stream.Stdin shape is = is.others Stdin (of_log b Stdin shape tt) (λ e. cc) ∙ sym (append-nil (staged b Stdin))
stream_staged b c delay bytes stream.Ttyin stream.Stdout shape is = is.others Stdout (of_log b Stdout shape tt) (λ e. cc) ∙ sym (append-nil (staged b Stdout))
stream_staged b c delay bytes stream.Ttyin stream.Stderr shape is = is.others Stderr (of_log b Stderr shape tt) (λ e. cc) ∙ sym (append-nil (staged b Stderr))
stream_staged b c delay bytes stream.Ttyin stream.Ttyin shape is = is.staged_is
stream_staged b c delay bytes stream.Ttyin stream.Ttyout shape is = is.others Ttyout (of_log b Ttyout shape tt) (λ e. cc) ∙ sym (append-nil (staged b Ttyout))
stream_staged b c delay bytes stream.Ttyout stream.Stdin shape is = is.others Stdin (of_log b Stdin shape tt) (λ e. cc) ∙ sym (append-nil (staged b Stdin))
stream_staged b c delay bytes stream.Ttyout stream.Stdout shape is = is.others Stdout (of_log b Stdout shape tt) (λ e. cc) ∙ sym (append-nil (staged b Stdout))
stream_staged b c delay bytes stream.Ttyout stream.Stderr shape is = is.others Stderr (of_log b Stderr shape tt) (λ e. cc) ∙ sym (append-nil (staged b Stderr))
stream_staged b c delay bytes stream.Ttyout stream.Ttyin shape is = is.others Ttyin (of_log b Ttyin shape tt) (λ e. cc) ∙ sym (append-nil (staged b Ttyin))
stream_staged b c delay bytes stream.Ttyout stream.Ttyout shape is = is.staged_is

timing_stays : (b c : BundleView) (bytes : List ℕ) (s : Stream) → b.shape ≡ shapes.Log → IsStaged (part_of s) bytes b c → staged c Timing ≡ staged b Timing
timing_stays b c bytes stream.Stdin shape is = is.others Timing (of_log b Timing shape tt) (λ e. cc)
timing_stays b c bytes stream.Stdout shape is = is.others Timing (of_log b Timing shape tt) (λ e. cc)
timing_stays b c bytes stream.Stderr shape is = is.others Timing (of_log b Timing shape tt) (λ e. cc)
timing_stays b c bytes stream.Ttyin shape is = is.others Timing (of_log b Timing shape tt) (λ e. cc)
timing_stays b c bytes stream.Ttyout shape is = is.others Timing (of_log b Timing shape tt) (λ e. cc)

head_stays : (b c : BundleView) (bytes : List ℕ) (s : Stream) → b.shape ≡ shapes.Log → IsStaged (part_of s) bytes b c → staged c Head ≡ staged b Head
head_stays b c bytes stream.Stdin shape is = is.others Head (of_log b Head shape tt) (λ e. cc)
head_stays b c bytes stream.Stdout shape is = is.others Head (of_log b Head shape tt) (λ e. cc)
head_stays b c bytes stream.Stderr shape is = is.others Head (of_log b Head shape tt) (λ e. cc)
head_stays b c bytes stream.Ttyin shape is = is.others Head (of_log b Head shape tt) (λ e. cc)
head_stays b c bytes stream.Ttyout shape is = is.others Head (of_log b Head shape tt) (λ e. cc)

exit_stays : (b c : BundleView) (bytes : List ℕ) (s : Stream) → b.shape ≡ shapes.Log → IsStaged (part_of s) bytes b c → staged c Exit ≡ staged b Exit
exit_stays b c bytes stream.Stdin shape is = is.others Exit (of_log b Exit shape tt) (λ e. cc)
exit_stays b c bytes stream.Stdout shape is = is.others Exit (of_log b Exit shape tt) (λ e. cc)
exit_stays b c bytes stream.Stderr shape is = is.others Exit (of_log b Exit shape tt) (λ e. cc)
exit_stays b c bytes stream.Ttyin shape is = is.others Exit (of_log b Exit shape tt) (λ e. cc)
exit_stays b c bytes stream.Ttyout shape is = is.others Exit (of_log b Exit shape tt) (λ e. cc)

pub data_staged : (b c : BundleView) (delay : ℕ) (bytes : List ℕ) (s : Stream) → b.shape ≡ shapes.Log → IsStaged (part_of s) (staged b (part_of s) ++ bytes) b c → StagesIn [] (Io delay s bytes) b c
data_staged b c delay bytes s shape is = record {
  timing = timing_stays b c (staged b (part_of s) ++ bytes) s shape is ∙ sym (append-nil (staged b Timing));
  streams = λ t. stream_staged b c delay bytes s t shape is;
  head = head_stays b c (staged b (part_of s) ++ bytes) s shape is;
  exit = exit_stays b c (staged b (part_of s) ++ bytes) s shape is;
  same = is.same;
}

-- a line is staged, and then data
pub line_then_data : (b m c : BundleView) (line : List ℕ) (r : Record) → b.shape ≡ shapes.Log → IsStaged Timing (staged b Timing ++ line) b m → StagesIn [] r m c → StagesIn line r b c
line_then_data b m c line r shape one two = record {
  timing = two.timing ∙ append-nil (staged m Timing) ∙ one.staged_is;
  streams = λ s. two.streams s ∙ ap (λ (xs : List ℕ). xs ++ data_in s r) (one.others (part_of s) (of_log b (part_of s) shape (stream_part s)) (not_timing s));
  head = two.head ∙ one.others Head (of_log b Head shape tt) (λ e. cc);
  exit = two.exit ∙ one.others Exit (of_log b Exit shape tt) (λ e. cc);
  same = two.same ∙ one.same;
}

-- the line is taken back
pub line_undone : (b m c : BundleView) (line : List ℕ) (keep : ℕ) → b.shape ≡ shapes.Log → length (staged b Timing) ≡ keep → IsStaged Timing (staged b Timing ++ line) b m → IsStaged Timing (take keep (staged m Timing)) m c
    → (p : Part) → IsPart m.shape p → staged c p ≡ staged b p
line_undone b m c line keep shape long one two p is = at p (subst (λ (s : Shape). IsPart s p) (ap (λ (v : BundleView). v.shape) one.same ∙ shape) is) where
  m_shape : m.shape ≡ shapes.Log
  m_shape = ap (λ (v : BundleView). v.shape) one.same ∙ shape

  other : (q : Part) → IsPart shapes.Log q → q ≢ Timing → staged c q ≡ staged b q
  other q of differs = two.others q (of_log m q m_shape of) differs ∙ one.others q (of_log b q shape of) differs

  at : (q : Part) → IsPart shapes.Log q → staged c q ≡ staged b q
  at Timing of = two.staged_is ∙ ap (take keep) one.staged_is ∙ take_at (staged b Timing) line keep long
  at Head of = other Head of (λ e. cc)
  at Exit of = other Exit of (λ e. cc)
  at Stdin of = other Stdin of (λ e. cc)
  at Stdout of = other Stdout of (λ e. cc)
  at Stderr of = other Stderr of (λ e. cc)
  at Ttyin of = other Ttyin of (λ e. cc)
  at Ttyout of = other Ttyout of (λ e. cc)
  at Lines of = absurd of
  at Id of = absurd of
  at Commit of = absurd of
  at Slots of = absurd of

-- a line has its line feed
pub some_line : (told : Shaped) → 1 ≤ length (shaped_line told)
some_line told = omega (arith, length-append (text_of told) (10 ∷ []))

-- where a stream's file would be too long with the line staged, it would be without
full_before : (b m : BundleView) (line : List ℕ) (r : Record) (part : Part) → b.shape ≡ shapes.Log → IsStaged Timing (staged b Timing ++ line) b m → IsDataFull m r part → IsDataFull b r part
full_before b m line (Io delay s bytes) part shape one full = (full.0, subst (λ (k : ℕ). 2 ^ 40 < k + length bytes) (same_next s) full.1) where
  same_next : (t : Stream) → next_length m (part_of t) ≡ next_length b (part_of t)
  same_next t = ap (λ (k : ℕ). k + length (staged m (part_of t))) (staging_lengths b m one.same (part_of t))
      ∙ ap (λ (xs : List ℕ). committed_length b (part_of t) + length xs) (one.others (part_of t) (of_log b (part_of t) shape (stream_part t)) (not_timing t))
full_before b m line (Winsize delay rows cols) part shape one full = absurd full
full_before b m line (Suspend delay signal) part shape one full = absurd full

full_after : (b m : BundleView) (line : List ℕ) (r : Record) (part : Part) → b.shape ≡ shapes.Log → IsStaged Timing (staged b Timing ++ line) b m → IsDataFull b r part → IsDataFull m r part
full_after b m line (Io delay s bytes) part shape one full = (full.0, subst (λ (k : ℕ). 2 ^ 40 < k + length bytes) (sym (same_next s)) full.1) where
  same_next : (t : Stream) → next_length m (part_of t) ≡ next_length b (part_of t)
  same_next t = ap (λ (k : ℕ). k + length (staged m (part_of t))) (staging_lengths b m one.same (part_of t))
      ∙ ap (λ (xs : List ℕ). committed_length b (part_of t) + length xs) (one.others (part_of t) (of_log b (part_of t) shape (stream_part t)) (not_timing t))
full_after b m line (Winsize delay rows cols) part shape one full = absurd full
full_after b m line (Suspend delay signal) part shape one full = absurd full

-- which file would be too long
pub line_full : (b m : BundleView) (line : List ℕ) (r : Record) (part : Part) → b.shape ≡ shapes.Log → line ≡ line_of r → IsStaged Timing (staged b Timing ++ line) b m → (IsFull b Timing (length line) → ⊥) → IsDataFull m r part → IsFullOf b r part
line_full b m line r part shape same one room full = inr ((λ timing. room (subst (λ (xs : List ℕ). IsFull b Timing (length xs)) (sym same) timing)), full_before b m line r part shape one full)

pub line_room : (b m : BundleView) (line : List ℕ) (r : Record) → b.shape ≡ shapes.Log → line ≡ line_of r → IsStaged Timing (staged b Timing ++ line) b m → (IsFull b Timing (length line) → ⊥) → ((part : Part) → IsDataFull m r part → ⊥) → IsRoomFor b r
line_room b m line r shape same one room data_room part full = elim full [
  | inl timing ↦ room (subst (λ (xs : List ℕ). IsFull b Timing (length xs)) (sym same) timing.1)
  | inr stream_full ↦ data_room part (full_after b m line r part shape one stream_full.1)
]

-- how many bytes of timing are committed next
pub next_timing : (b c : BundleView) (line : List ℕ) (r : Record) → StagesIn line r b c → next_length c Timing ≡ next_length b Timing + length line
next_timing b c line r is =
    ap (λ (k : ℕ). k + length (staged c Timing)) (staging_lengths b c is.same Timing)
    ∙ ap (λ (xs : List ℕ). committed_length b Timing + length xs) is.timing
    ∙ omega (arith, length-append (staged b Timing) line)

-- a log with one record more staged
abbrev pub one_more : IoLogView → BundleView → ℕ → IoLogView
one_more old files time = record { number = old.number; head = old.head; count = old.count + 1; elapsed = time; is_broken = old.is_broken; bundle = files }

timing_small : (b c : BundleView) (line : List ℕ) (r : Record) → line ≡ line_of r → StagesIn line r b c → IsRoomFor b r → next_length c Timing ≤ 2 ^ 40
timing_small b c line r same is room =
    let next = next_timing b c line r is in
    let long : length line ≡ length (line_of r) = ap length same in
    let fits : 2 ^ 40 < next_length b Timing + length (line_of r) → ⊥ = λ full. room Timing (inl (refl, full)) in
    omega (arith, next, long, fits)

-- keeps what is true of every log
pub one_more_invariant : (old : IoLogView) (files : BundleView) (line : List ℕ) (r : Record) (time : ℕ) → IsIoLog old → line ≡ line_of r → StagesIn line r old.bundle files → IsRoomFor old.bundle r → time < 2 ^ 63 → IsIoLog (one_more old files time)
one_more_invariant old files line r time inv same is room in_time = record {
  files = record {
    owner = ap (λ (v : BundleView). v.owner) is.same ∙ inv.files.owner;
    shape = ap (λ (v : BundleView). v.shape) is.same ∙ inv.files.shape;
    entry = λ none. inv.files.entry (sym (ap (λ (v : BundleView). v.last) is.same) ∙ none);
    lengths = λ body last part of. inv.files.lengths body (sym (ap (λ (v : BundleView). v.last) is.same) ∙ last) part of ∙ sym (staging_lengths old.bundle files is.same part);
  };
  whole = λ whole. ap (λ (v : BundleView). v.is_broken) is.same ∙ inv.whole whole;
  time = in_time;
  lines =
      let next = next_timing old.bundle files line r is in
      let long : length line ≡ length (line_of r) = ap length same in
      let some = some_line (shape_of r) in
      let lines = inv.lines in
      omega (arith, next, long, some, lines);
  small = timing_small old.bundle files line r same is room;
}

-- and stages the record
pub one_more_stages : (old : IoLogView) (files : BundleView) (line : List ℕ) (r : Record) (time : ℕ) → line ≡ line_of r → StagesIn line r old.bundle files → IsRoomFor old.bundle r → time ≡ old.elapsed + delay_of r → time < 2 ^ 63 → Stages old r (one_more old files time)
one_more_stages old files line r time same is room sum in_time = record {
  timing = is.timing ∙ ap (λ (xs : List ℕ). staged old.bundle Timing ++ xs) same;
  streams = is.streams;
  head_bytes = is.head;
  exit_bytes = is.exit;
  committed = is.same;
  small = timing_small old.bundle files line r same is room;
  number = refl;
  head = refl;
  is_broken = refl;
  count = refl;
  elapsed = sum;
  in_time = in_time;
}
