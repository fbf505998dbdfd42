-- Which of the three holds of an image: the log is absent, or a stored log is there, or it is damaged.
use Rattle.std.proofs.Common.{◌≡◌, ◌≢◌, inl, inr, ℕ, zero, suc, ◌<◌, ◌≤◌, ◌^◌, List, [], ◌∷◌, ◌++◌, length, take, map, All, Option, Some, None, Result, Ok, Err, refl, sym, ◌∙◌, ap, subst, arith, slice_index}
use Rattle.std.proofs.lemmas.List.{length-map}
use Rattle.std.proofs.lemmas.List.Elements.{All-nil, All-cons, All-head, All-tail}
use Rattle.lsv_disk.specs.declared.file.Part.{Part}
use Rattle.lsv_disk.specs.declared.file.Part.TheVariants.{Head, Exit, Timing, Stdin, Stdout, Stderr, Ttyin, Ttyout, Lines, Id, Commit, Slots}
use Rattle.lsv_disk.specs.Bytes.{bytes_of}
use Rattle.lsv_disk.specs.Files.{file_of}
use Rattle.lsv_disk.specs.View.{Image}
use Rattle.lsv_journal.specs.Last.{LastAt}
use Rattle.lsv_bundle.specs.declared.body.Body.{Body}
use Rattle.lsv_bundle.specs.declared.shape.Shape.TheVariants as shapes
use Rattle.lsv_bundle.specs.Body.{encoded, length_of, IsBody}
use Rattle.lsv_iolog.specs.Damage.{AreLines, IsFirstUnfit, IsFault, HasFault, IsDamagedAt}
use Rattle.lsv_bundle.specs.Shape.{parts_of, index_of, IsPart, on_shape, journal_of}
use Rattle.lsv_bundle.specs.Committed.{Committed, HasPrefix, HoldsEntry, IsShort, IsFirstShort}
use Rattle.lsv_bundle.proofs.Laws.{one_body}
use Rattle.lsv_info.specs.declared.times.Head as info
use Rattle.lsv_info.specs.declared.fault.InfoFault.{InfoFault}
use Rattle.lsv_info.specs.Reading.{head_of}
use Rattle.lsv_record.specs.declared.records.Record.{Record}
use Rattle.lsv_record.specs.declared.records.Shaped.{Shaped}
use Rattle.lsv_record.specs.declared.records.Stream.{Stream}
use Rattle.lsv_record.specs.declared.records.Stream.TheVariants as streams
use Rattle.lsv_record.specs.declared.laid.Laid.{Laid}
use Rattle.lsv_record.specs.Layout.{layout_of, stream_in}
use Rattle.lsv_record.specs.Points.{Stored}
use Rattle.lsv_record.specs.Records.{shape_of, stream_of, elapsed, IsGood, IsValid}
use Rattle.lsv_record.specs.Tally.{told_data, told_elapsed}
use Rattle.lsv_record.proofs.Layouts.{layout_is_texts}
use Rattle.lsv_record.proofs.Tallies.{lines_are_records, lines_are_timing, lines_tell_time, lines_tell_data}
use Rattle.std.proofs.Common.{length-append}
use Rattle.lsv_iolog.specs.Recovered.{owner_of, part_of, laid_in, HasExit, IsHeadText, IsLog, ReplaysNothing, Decided}
use Rattle.lsv_iolog.proofs.Replaying.{on_log, one_entry}
use Rattle.lsv_iolog.proofs.Opening.{not_short, has_taken, is_log_same}
use Rattle.lsv_iolog.proofs.Deciding.{dec_nat, dec_less, dec_list, dec_both, dec_as, dec_below, dec_listed, AreLinesOf, dec_lines, same_lines}

-- a text of a head
head_is : (r : Result info.Head InfoFault) → Dec ((head : info.Head) × (r ≡ Ok head))
head_is (Ok head) = yes (head, refl)
head_is (Err e) = no (λ x. let same : Err e ≡ Ok x.0 = x.1 in cc)

-- an exit where the kind asks for one
some_exit : (kind : ℕ) (b : ℕ) (bs : List ℕ) → (text : Option (List ℕ)) × HasExit kind (b ∷ bs) text → kind ≡ 3
some_exit kind b bs (None, x) = let same : b ∷ bs ≡ [] = x.1 in absurd (let no_ : ⊥ = cc in no_)
some_exit kind b bs (Some text, x) = x.0

no_exit : (kind : ℕ) → (text : Option (List ℕ)) × HasExit kind [] text → kind ≢ 3
no_exit kind (None, x) = x.0
no_exit kind (Some text, x) = absurd (x.2 (sym x.1))

dec_exit : (kind : ℕ) (bytes : List ℕ) → Dec ((text : Option (List ℕ)) × HasExit kind bytes text)
dec_exit kind [] = elim (dec_nat kind 3) [
  | yes e ↦ no (λ x. no_exit kind x e)
  | no other ↦ yes (None, (other, refl))
]
dec_exit kind (b ∷ bs) = elim (dec_nat kind 3) [
  | yes e ↦ yes (Some (b ∷ bs), (e, refl, (λ x. let same : b ∷ bs ≡ [] = x in let no_ : ⊥ = cc in no_)))
  | no other ↦ no (λ x. other (some_exit kind b bs x))
]

-- the lines come to what the entry says
record Told (entry : Committed) (lines : List Shaped) : Type 0 where
  count : entry.body.count ≡ length lines
  time : entry.body.elapsed ≡ told_elapsed lines
  in_time : told_elapsed lines < 2 ^ 63
  fits : (s : Stream) → length (stream_in s (laid_in entry.bytes)) ≡ told_data s lines

each_stream : (P : Stream → Type 0) → P streams.Stdin × (P streams.Stdout × (P streams.Stderr × (P streams.Ttyin × P streams.Ttyout))) → (s : Stream) → P s
each_stream P h streams.Stdin = h.0
each_stream P h streams.Stdout = h.1.0
each_stream P h streams.Stderr = h.1.1.0
each_stream P h streams.Ttyin = h.1.1.1.0
each_stream P h streams.Ttyout = h.1.1.1.1

dec_streams : (P : Stream → Type 0) → ((s : Stream) → Dec (P s)) → Dec ((s : Stream) → P s)
dec_streams P d = dec_as (dec_both (d streams.Stdin) (dec_both (d streams.Stdout) (dec_both (d streams.Stderr) (dec_both (d streams.Ttyin) (d streams.Ttyout)))))
    (each_stream P) (λ h. (h streams.Stdin, (h streams.Stdout, (h streams.Stderr, (h streams.Ttyin, h streams.Ttyout)))))

dec_told : (entry : Committed) (lines : List Shaped) → Dec (Told entry lines)
dec_told entry lines = dec_as
    (dec_both (dec_nat entry.body.count (length lines)) (dec_both (dec_nat entry.body.elapsed (told_elapsed lines)) (dec_both (dec_less (told_elapsed lines) (2 ^ 63))
    (dec_streams _ (λ s. dec_nat (length (stream_in s (laid_in entry.bytes))) (told_data s lines))))))
    (λ h. record { count = h.0; time = h.1.0; in_time = h.1.1.0; fits = h.1.1.1 }) (λ t. (t.count, (t.time, (t.in_time, t.fits))))

good_shapes : (rs : List Record) → All IsValid rs → All IsGood (map shape_of rs)
good_shapes [] valid = All-nil IsGood
good_shapes (r ∷ rs) valid = All-cons IsGood (shape_of r) (map shape_of rs) (All-head IsValid r rs valid) (good_shapes rs (All-tail IsValid r rs valid))

stream_laid : (s : Stream) (rs : List Record) → stream_in s (layout_of rs) ≡ stream_of s rs
stream_laid streams.Stdin rs = refl
stream_laid streams.Stdout rs = refl
stream_laid streams.Stderr rs = refl
stream_laid streams.Ttyin rs = refl
stream_laid streams.Ttyout rs = refl

-- the lines of a log are those of its entry
lines_of_log : (entry : Committed) (log : Stored) → IsLog entry log → AreLinesOf (entry.bytes Timing) (map shape_of log.records)
lines_of_log entry log is = (good_shapes log.records is.valid, ap (λ (l : Laid). l.timing) is.layout ∙ sym (lines_are_timing log.records))

told_of_log : (entry : Committed) (log : Stored) → IsLog entry log → Told entry (map shape_of log.records)
told_of_log entry log is = record {
  count = is.count ∙ sym (length-map log.records shape_of);
  time = is.time ∙ sym (lines_tell_time log.records);
  in_time = subst (λ (k : ℕ). k < 2 ^ 63) (sym (lines_tell_time log.records)) is.in_time;
  fits = λ s. ap (λ (l : Laid). length (stream_in s l)) is.layout ∙ ap length (stream_laid s log.records) ∙ sym (lines_tell_data s log.records);
}

-- and lines that come to it are a log's
log_of_lines : (entry : Committed) (head : info.Head) (exit : Option (List ℕ)) (lines : List Shaped) → head_of (entry.bytes Head) ≡ Ok head → HasExit entry.body.kind (entry.bytes Exit) exit
    → AreLinesOf (entry.bytes Timing) lines → Told entry lines → length (entry.bytes Timing) ≤ 2 ^ 40 → (log : Stored) × IsLog entry log
log_of_lines entry head exit lines is_head has_exit are told small =
    let laid = lines_are_records (laid_in entry.bytes) lines are.0 are.1 told.fits in
    let shapes : map shape_of laid.0 ≡ lines = laid.3 in
    let time : told_elapsed lines ≡ elapsed laid.0 = ap told_elapsed (sym shapes) ∙ lines_tell_time laid.0 in (
      record { head = entry.bytes Head; records = laid.0; exit = exit; cuts = entry.body.extra },
      record {
        head = refl;
        is_head = (head, is_head);
        exit = has_exit;
        valid = laid.2;
        layout = (layout_is_texts (laid_in entry.bytes) laid.0).0 laid.1;
        count = told.count ∙ ap length (sym shapes) ∙ length-map laid.0 shape_of;
        time = told.time ∙ time;
        in_time = subst (λ (k : ℕ). k < 2 ^ 63) time told.in_time;
        small = small;
        cuts = refl;
      },
    )

dec_log : (entry : Committed) → Dec ((log : Stored) × IsLog entry log)
dec_log entry = elim (head_is (head_of (entry.bytes Head))) [
  | no none ↦ no (λ x. let h : IsHeadText (entry.bytes Head) = subst IsHeadText (sym x.1.head) x.1.is_head in none h)
  | yes head ↦ elim (dec_exit entry.body.kind (entry.bytes Exit)) [
    | no none ↦ no (λ x. none (x.0.exit, x.1.exit))
    | yes exit ↦ elim (dec_lines (length (entry.bytes Timing)) (entry.bytes Timing) (let x : length (entry.bytes Timing) ≤ length (entry.bytes Timing) = omega arith in x)) [
      | no none ↦ no (λ x. none (map shape_of x.0.records, lines_of_log entry x.0 x.1))
      | yes lines ↦ elim (dec_told entry lines.0) [
        | no none ↦ no (λ x. none (subst (Told entry) (same_lines (map shape_of x.0.records) lines.0 (lines_of_log entry x.0 x.1).0 lines.1.0 (sym (lines_of_log entry x.0 x.1).1 ∙ lines.1.1)) (told_of_log entry x.0 x.1)))
        | yes told ↦ elim (dec_less (2 ^ 40) (length (entry.bytes Timing))) [
          | yes long ↦ no (λ x. let small : length (entry.bytes Timing) ≤ 2 ^ 40 = x.1.small in let over : 2 ^ 40 < length (entry.bytes Timing) = long in let no_ : ⊥ = omega arith in no_)
          | no small ↦ yes (log_of_lines entry head.0 exit.0 lines.0 head.1 exit.1 lines.1 told (let x : length (entry.bytes Timing) ≤ 2 ^ 40 = omega (arith, small) in x))
        ]
      ]
    ]
  ]
]

-- lengths of 64 bits
small_at : (xs : List ℕ) → All (λ n. n < 2 ^ 64) xs → (i : ℕ) → slice_index xs i < 2 ^ 64
small_at [] all i = let x : zero < 2 ^ 64 = omega arith in x
small_at (x ∷ xs) all zero = All-head (λ n. n < 2 ^ 64) x xs all
small_at (x ∷ xs) all (suc i) = small_at xs (All-tail (λ n. n < 2 ^ 64) x xs all) i

all_small : (xs : List ℕ) → ((i : ℕ) → slice_index xs i < 2 ^ 64) → All (λ n. n < 2 ^ 64) xs
all_small [] small = All-nil (λ n. n < 2 ^ 64)
all_small (x ∷ xs) small = All-cons (λ n. n < 2 ^ 64) x xs (small zero) (all_small xs (λ i. small (suc i)))

first_same : (a b : ℕ) (xs ys : List ℕ) → a ∷ xs ≡ b ∷ ys → a ≡ b
first_same a b xs ys e = cc

-- the body that these bytes are
abbrev body_as : ℕ → ℕ → ℕ → List ℕ → ℕ → Body
body_as kind count elapsed lens extra = record { kind = kind; count = count; elapsed = elapsed; lens = lens; extra = extra }

module _ (k : ℕ) (bytes : List ℕ) where
  abbrev Found : Type 0
  Found = (count : ℕ) × (count < 2 ^ 64) × ((time : ℕ) × (time < 2 ^ 64) × ((extra : ℕ) × (extra < 2 ^ 64) × ((lens : List ℕ) × (length lens ≡ 8) × All (λ n. n < 2 ^ 64) lens × (encoded (body_as k count time lens extra) ≡ k ∷ bytes))))

  dec_found : Dec Found
  dec_found = dec_below _ (λ count. dec_below _ (λ time. dec_below _ (λ extra. dec_listed (λ n. n < 2 ^ 64) (2 ^ 64) (λ n small. small) (λ n. dec_less n (2 ^ 64)) _ (λ lens. dec_list (encoded (body_as k count time lens extra)) (k ∷ bytes)) 8) (2 ^ 64)) (2 ^ 64)) (2 ^ 64)

  found_body : Found → (body : Body) × IsBody body × (encoded body ≡ k ∷ bytes)
  found_body h =
      let lens = h.2.2.2 in
      (body_as k h.0 h.2.0 lens.0 h.2.2.0, record { count = h.1; elapsed = h.2.1; eight = lens.1; lens = small_at lens.0 lens.2; extra = h.2.2.1 }, lens.3)

  body_found : (body : Body) × IsBody body × (encoded body ≡ k ∷ bytes) → Found
  unfolding encoded
  body_found (body, is, e) =
      let kind : body.kind ≡ k = first_same _ _ _ _ e in (
        body.count,
        is.count,
        (
          body.elapsed,
          is.elapsed,
          (
            body.extra,
            is.extra,
            (
              body.lens,
              is.eight,
              all_small body.lens is.lens,
              subst (λ (c : ℕ). encoded (body_as c body.count body.elapsed body.lens body.extra) ≡ k ∷ bytes) kind e,
            ),
          ),
        ),
      )

no_bytes : (body : Body) × IsBody body × (encoded body ≡ []) → ⊥
unfolding encoded
no_bytes (body, is, e) = cc

dec_body : (bytes : List ℕ) → Dec ((body : Body) × IsBody body × (encoded body ≡ bytes))
dec_body [] = no no_bytes
dec_body (k ∷ bytes) = dec_as (dec_found k bytes) (found_body k bytes) (body_found k bytes)

-- the files are long enough
dec_short : (file : Option (List ℕ)) (n : ℕ) → Dec (IsShort file n → ⊥)
dec_short None n = no (λ whole. whole tt)
dec_short (Some bytes) n = elim (dec_less (length bytes) n) [
  | yes short ↦ no (λ whole. whole short)
  | no whole ↦ yes whole
]

each_part : (P : Part → Type 0) → P Head × (P Exit × (P Timing × (P Stdin × (P Stdout × (P Stderr × (P Ttyin × P Ttyout)))))) → (part : Part) → IsPart shapes.Log part → P part
each_part P h Head is = h.0
each_part P h Exit is = h.1.0
each_part P h Timing is = h.1.1.0
each_part P h Stdin is = h.1.1.1.0
each_part P h Stdout is = h.1.1.1.1.0
each_part P h Stderr is = h.1.1.1.1.1.0
each_part P h Ttyin is = h.1.1.1.1.1.1.0
each_part P h Ttyout is = h.1.1.1.1.1.1.1
each_part P h Lines is = absurd is
each_part P h Id is = absurd is
each_part P h Commit is = absurd is
each_part P h Slots is = absurd is

dec_parts : (P : Part → Type 0) → ((part : Part) → Dec (P part)) → Dec ((part : Part) → IsPart shapes.Log part → P part)
dec_parts P d = dec_as
    (dec_both (d Head) (dec_both (d Exit) (dec_both (d Timing) (dec_both (d Stdin) (dec_both (d Stdout) (dec_both (d Stderr) (dec_both (d Ttyin) (d Ttyout))))))))
    (each_part P) (λ h. (h Head tt, (h Exit tt, (h Timing tt, (h Stdin tt, (h Stdout tt, (h Stderr tt, (h Ttyin tt, h Ttyout tt))))))))

-- a file with a beginning of this many bytes isn't short
begun : (bytes : List ℕ) (file : Option (List ℕ)) (n : ℕ) → length bytes ≡ n → HasPrefix bytes file → IsShort file n → ⊥
begun bytes None n long has short = has
begun bytes (Some file) n long has short =
    let all : length file ≡ length (bytes ++ has.0) = ap length has.1 in let few : length file < n = short in let no_ : ⊥ = omega (arith, length-append bytes has.0, all, few, long) in no_

module _ (n : ℕ) (image : Image) where
  -- what the entry of this body commits, as the files are
  entry_at : Body → Committed
  entry_at body = record { body = body; bytes = on_shape shapes.Log (λ part. take (length_of body part) (bytes_of (image (file_of (owner_of n) part)))) }

  holds_at : (body : Body) → IsBody body → LastAt 89 (journal_of (owner_of n)) image ≡ Some (encoded body) → ((part : Part) → IsPart shapes.Log part → IsShort (image (file_of (owner_of n) part)) (length_of body part) → ⊥)
      → HoldsEntry (owner_of n) shapes.Log (entry_at body) image
  unfolding entry_at
  holds_at body is last whole = record {
    is_body = is;
    last = last;
    lengths = λ part of. ap length (on_log _ part of) ∙ not_short (image (file_of (owner_of n) part)) (length_of body part) (whole part of);
    bytes = λ part of. subst (λ (xs : List ℕ). HasPrefix xs (image (file_of (owner_of n) part))) (sym (on_log _ part of)) (has_taken (image (file_of (owner_of n) part)) (length_of body part) (whole part of));
  }

  same_bytes : (a b : List ℕ) → Some a ≡ Some b → a ≡ b
  same_bytes a b e = cc

  none_some : (a : List ℕ) → Some a ≡ None → ⊥
  none_some a e = cc

  -- no body is in these bytes
  no_body : (bytes : List ℕ) → LastAt 89 (journal_of (owner_of n)) image ≡ Some bytes → ((body : Body) × IsBody body × (encoded body ≡ bytes) → ⊥) → ReplaysNothing image n
  no_body bytes last none None is = none_some bytes (sym last ∙ is)
  no_body bytes last none (Some log) is = none (is.entry.body, is.holds.is_body, same_bytes (encoded is.entry.body) bytes (sym is.holds.last ∙ last))

  same_body : (body : Body) (entry : Committed) → IsBody body → LastAt 89 (journal_of (owner_of n)) image ≡ Some (encoded body) → HoldsEntry (owner_of n) shapes.Log entry image → entry.body ≡ body
  same_body body entry is last holds = one_body entry.body body holds.is_body is (same_bytes (encoded entry.body) (encoded body) (sym holds.last ∙ last))

  -- a file is short
  no_files : (body : Body) → IsBody body → LastAt 89 (journal_of (owner_of n)) image ≡ Some (encoded body) → (((part : Part) → IsPart shapes.Log part → IsShort (image (file_of (owner_of n) part)) (length_of body part) → ⊥) → ⊥) → ReplaysNothing image n
  no_files body is last none None absent = none_some (encoded body) (sym last ∙ absent)
  no_files body is last none (Some log) there = none (λ part of. begun (there.entry.bytes part) (image (file_of (owner_of n) part)) (length_of body part)
      (there.holds.lengths part of ∙ ap (λ (b : Body). length_of b part) (same_body body there.entry is last there.holds)) (there.holds.bytes part of))

  -- what is committed is no log
  no_log : (body : Body) → LastAt 89 (journal_of (owner_of n)) image ≡ Some (encoded body) → HoldsEntry (owner_of n) shapes.Log (entry_at body) image → ((log : Stored) × IsLog (entry_at body) log → ⊥) → ReplaysNothing image n
  no_log body last holds none None absent = none_some (encoded body) (sym last ∙ absent)
  no_log body last holds none (Some log) there =
      let same = one_entry n image there.entry (entry_at body) there.holds holds in
      none (log, is_log_same there.entry (entry_at body) log same.0 (λ part of. sym (same.1 part of)) there.is)

  by_last : (last : Option (List ℕ)) → LastAt 89 (journal_of (owner_of n)) image ≡ last → Decided image n
  by_last None e = inl e
  by_last (Some bytes) e = elim (dec_body bytes) [
    | no none ↦ inr (inr (no_body bytes e none))
    | yes b ↦ elim (dec_parts _ (λ part. dec_short (image (file_of (owner_of n) part)) (length_of b.0 part))) [
      | no none ↦ inr (inr (no_files b.0 b.1 (e ∙ ap Some (sym b.2)) none))
      | yes whole ↦ elim (dec_log (entry_at b.0)) [
        | no none ↦ inr (inr (no_log b.0 (e ∙ ap Some (sym b.2)) (holds_at b.0 b.1 (e ∙ ap Some (sym b.2)) whole) none))
        | yes log ↦ inr (inl (log.0, record { entry = entry_at b.0; holds = holds_at b.0 b.1 (e ∙ ap Some (sym b.2)) whole; is = log.1 }))
      ]
    ]
  ]

pub decided : (image : Image) (n : ℕ) → Decided image n
decided image n = by_last n image (LastAt 89 (journal_of (owner_of n)) image) refl

-- a part that is short or at fault: no log is there
short_of : (n : ℕ) (image : Image) (lengths : List ℕ) (part : Part) (parts : List Part) → All (IsPart shapes.Log) parts → IsFirstShort (owner_of n) image lengths parts part
    → (p : Part) × IsPart shapes.Log p × IsShort (image (file_of (owner_of n) p)) (slice_index lengths (index_of p))
short_of n image lengths part [] all first = absurd first
short_of n image lengths part (p ∷ ps) all (inl x) = (p, All-head (IsPart shapes.Log) p ps all, x.1)
short_of n image lengths part (p ∷ ps) all (inr x) = short_of n image lengths part ps (All-tail (IsPart shapes.Log) p ps all) x.1

log_parts : All (IsPart shapes.Log) (parts_of shapes.Log)
log_parts = All-cons (IsPart shapes.Log) Head (Exit ∷ Timing ∷ Stdin ∷ Stdout ∷ Stderr ∷ Ttyin ∷ Ttyout ∷ []) tt (All-cons (IsPart shapes.Log) Exit (Timing ∷ Stdin ∷ Stdout ∷ Stderr ∷ Ttyin ∷ Ttyout ∷ []) tt (All-cons (IsPart shapes.Log) Timing (Stdin ∷ Stdout ∷ Stderr ∷ Ttyin ∷ Ttyout ∷ []) tt (All-cons (IsPart shapes.Log) Stdin (Stdout ∷ Stderr ∷ Ttyin ∷ Ttyout ∷ []) tt (All-cons (IsPart shapes.Log) Stdout (Stderr ∷ Ttyin ∷ Ttyout ∷ []) tt (All-cons (IsPart shapes.Log) Stderr (Ttyin ∷ Ttyout ∷ []) tt (All-cons (IsPart shapes.Log) Ttyin (Ttyout ∷ []) tt (All-cons (IsPart shapes.Log) Ttyout [] tt (All-nil (IsPart shapes.Log)))))))))

are_of_log : (entry : Committed) (log : Stored) → IsLog entry log → AreLines entry (map shape_of log.records)
are_of_log entry log is =
    let told = told_of_log entry log is in
    record { good = (lines_of_log entry log is).0; text = (lines_of_log entry log is).1; count = told.count; time = told.time; in_time = told.in_time; small = is.small }

-- of a log each stream fits its lines
unfit : (entry : Committed) (log : Stored) (before : List Stream) (s : Stream) → length (entry.bytes (part_of s)) ≡ length (stream_in s (laid_in entry.bytes)) → IsFirstUnfit entry before s → IsLog entry log → ⊥
unfit entry log before s same fault is =
    let lines : map shape_of log.records ≡ fault.lines = same_lines (map shape_of log.records) fault.lines (lines_of_log entry log is).0 fault.are.good (sym (lines_of_log entry log is).1 ∙ fault.are.text) in
    fault.unfit (same ∙ (told_of_log entry log is).fits s ∙ ap (told_data s) lines)

no_fault : (entry : Committed) (log : Stored) (part : Part) → IsFault entry part → IsLog entry log → ⊥
no_fault entry log Head fault is = fault (subst IsHeadText (sym is.head) is.is_head)
no_fault entry log Exit fault is = fault.1 (log.exit, is.exit)
no_fault entry log Timing fault is = fault.2 (map shape_of log.records) (are_of_log entry log is)
no_fault entry log Stdin fault is = unfit entry log _ streams.Stdin refl fault is
no_fault entry log Stdout fault is = unfit entry log _ streams.Stdout refl fault is
no_fault entry log Stderr fault is = unfit entry log _ streams.Stderr refl fault is
no_fault entry log Ttyin fault is = unfit entry log _ streams.Ttyin refl fault is
no_fault entry log Ttyout fault is = unfit entry log _ streams.Ttyout refl fault is
no_fault entry log Lines fault is = fault
no_fault entry log Id fault is = fault
no_fault entry log Commit fault is = fault
no_fault entry log Slots fault is = fault

fault_found : (n : ℕ) (image : Image) (part : Part) → HasFault n part image → ReplaysNothing image n
fault_found n image part fault None absent = none_some n image (encoded fault.entry.body) (sym fault.holds.last ∙ absent)
fault_found n image part fault (Some log) there =
    let same = one_entry n image there.entry fault.entry there.holds fault.holds in
    no_fault fault.entry log part fault.fault (is_log_same there.entry fault.entry log same.0 (λ p of. sym (same.1 p of)) there.is)

pub damaged : (image : Image) (n : ℕ) (part : Part) → IsDamagedAt n part image → ReplaysNothing image n
damaged image n part (inl short) =
    let one = short_of n image short.body.lens part (parts_of shapes.Log) log_parts short.first in
    no_files n image short.body short.entry.is_body short.entry.last (λ whole. whole one.0 one.1 one.2)
damaged image n part (inr fault) = fault_found n image part fault
