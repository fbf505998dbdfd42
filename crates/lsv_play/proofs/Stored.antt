-- A log that the disk holds is played as it is.
use Rattle.std.proofs.Common.{◌≡◌, ◌∙◌, ◌++◌, ◌⊎◌, ◌≤◌, inl, inr, ℕ, List, [], ◌∷◌, Option, Some, None, Result, Ok, Err, length, length-append, take, drop, sym, ap, subst, append-nil, arith}
use Rattle.std.proofs.lemmas.List.{take-append-drop}
use Rattle.lsv_disk.specs.declared.file.Part.{Part}
use Rattle.lsv_disk.specs.Bytes.{bytes_of}
use Rattle.lsv_disk.specs.Files.{file_of}
use Rattle.lsv_disk.specs.View.{Image}
use Rattle.lsv_bundle.specs.declared.body.Body.{Body}
use Rattle.lsv_bundle.specs.declared.shape.Shape.TheVariants as shapes
use Rattle.lsv_bundle.specs.Body.{encoded, length_of}
use Rattle.lsv_bundle.specs.Committed.{HasPrefix}
use Rattle.lsv_bundle.specs.Shape.{IsPart as IsPartOf}
use Rattle.lsv_info.specs.declared.times.Head.{Head}
use Rattle.lsv_iolog.specs.Recovered.{HoldsLog, Replays, owner_of}
use Rattle.lsv_bundle.proofs.Laws.{one_body}
use Rattle.lsv_iolog.proofs.Replaying.{prefix_same, same_laid}
use Rattle.lsv_iolog.proofs.Viewing.{all_there}
use Rattle.lsv_record.specs.declared.laid.Laid.{Laid}
use Rattle.lsv_record.specs.declared.records.Record.{Record}
use Rattle.lsv_record.specs.Layout.{Begins, IsLayout, layout_of}
use Rattle.lsv_record.specs.Lines.{OneBegins}
use Rattle.lsv_record.specs.Points.{Stored}
use Rattle.lsv_record.specs.Records.{line_of, shape_of, text_of, timing_of}
use Rattle.lsv_record.proofs.Layouts.{layout_is_texts, timing_of-append}
use Rattle.lsv_record.proofs.Once.{laid_is_read, one_begins, one_layout}
use Rattle.lsv_play.specs.declared.options.Options.{Options}
use Rattle.lsv_play.specs.declared.screen.Item.{Item}
use Rattle.lsv_play.specs.Items.{IsPart}
use Rattle.lsv_play.specs.Schedule.{play}
use Rattle.lsv_play.proofs.Parts.{part_of_more, part_whole, play_append}
use Rattle.lsv_play.specs.Playing.{IsOpened, Plays, PlaysRecords, laid_at, text_at}
use Rattle.lsv_play.specs.declared.fault.PlayFault.{PlayFault}
use Rattle.lsv_play.specs.declared.fault.PlayFault.TheVariants.{Absent, Damaged, Resumed, Disk, Screen, NoMem}

-- ---- the bytes that are committed are the log's

taken_begins : (file : Option (List ℕ)) (k : ℕ) (prefix : List ℕ) → HasPrefix prefix file → HasPrefix (take k (bytes_of file)) file
taken_begins None k prefix is = absurd is
taken_begins (Some bytes) k prefix is = (drop k bytes, sym (take-append-drop k bytes))

some_encoded : (a b : List ℕ) → Some a ≡ Some b → a ≡ b
some_encoded a b e = cc

none_some : (xs : List ℕ) → None ≡ Some xs → ⊥
none_some xs e = cc

module _ (n : ℕ) (body : Body) (head : Head) (image : Image) (log : Stored) (opened : IsOpened n body head image) (holds : HoldsLog n log image) where
  pub same_body : body ≡ holds.entry.body
  same_body = one_body body holds.entry.body opened.entry.is_body holds.holds.is_body (some_encoded (encoded body) (encoded holds.entry.body) (sym opened.entry.last ∙ holds.holds.last))

  same_text : (part : Part) → IsPartOf shapes.Log part → text_at n body image part ≡ holds.entry.bytes part
  same_text part is =
      prefix_same (text_at n body image part) (holds.entry.bytes part) (image (file_of (owner_of n) part))
      (all_there (image (file_of (owner_of n) part)) (length_of body part) (opened.there part is) ∙ ap (λ (b : Body). length_of b part) same_body ∙ sym (holds.holds.lengths part is))
      (taken_begins (image (file_of (owner_of n) part)) (length_of body part) (holds.entry.bytes part) (holds.holds.bytes part is)) (holds.holds.bytes part is)

  same_layout : laid_at n body image ≡ layout_of log.records
  same_layout = same_laid (text_at n body image) holds.entry.bytes same_text ∙ holds.is.layout

  pub is_layout : IsLayout (laid_at n body image) log.records
  is_layout = (layout_is_texts (laid_at n body image) log.records).1 same_layout

  pub begins_log : Begins (laid_at n body image) log.records
  begins_log = (laid_is_read (laid_at n body image) log.records holds.is.valid holds.is.in_time is_layout).begins

-- ---- records that begin the bytes are the first of the log's

line_some : (r : Record) → 1 ≤ length (line_of r)
line_some r = omega (arith, length-append (text_of (shape_of r)) (10 ∷ []))

-- a layout has no room for records after its own
no_more : (l : Laid) (rs : List Record) (r : Record) (more : List Record) → IsLayout l rs → Begins l (rs ++ r ∷ more) → ⊥
no_more l rs r more laid begins =
    let rest = begins.timing in
    omega (
      arith,
      ap length rest.1,
      length-append (timing_of (rs ++ r ∷ more)) rest.0,
      ap length (timing_of-append rs (r ∷ more)),
      length-append (timing_of rs) (timing_of (r ∷ more)),
      length-append (line_of r) (timing_of more),
      line_some r,
      ap length laid.timing,
    )

pub some_of_all : (l : Laid) (all rs : List Record) → IsLayout l all → Begins l all → Begins l rs → OneBegins rs all → (more : List Record) × (all ≡ rs ++ more)
some_of_all l all rs laid begins begun (inl (more, e)) = (more, e)
some_of_all l all rs laid begins begun (inr ([], e)) = ([], sym (append-nil all) ∙ (sym e ∙ sym (append-nil rs)))
some_of_all l all rs laid begins begun (inr (r ∷ more, e)) = absurd (no_more l all r more laid (subst (Begins l) e begun))

pub play_part : (o : Options) (put : List Item) (rs more all : List Record) → all ≡ rs ++ more → IsPart put (play o rs) → IsPart put (play o all)
play_part o put rs more all e part = subst (IsPart put) (sym (ap (play o) e ∙ play_append o rs more)) (part_of_more put (play o rs) (play o more) part)

first_part : (o : Options) (l : Laid) (put : List Item) (all rs : List Record) → IsLayout l all → Begins l all → Begins l rs → IsPart put (play o rs) → IsPart put (play o all)
first_part o l put all rs laid begins begun part = let some = some_of_all l all rs laid begins begun (one_begins l rs all begun begins) in play_part o put rs some.0 all some.1 part

whole_part : (o : Options) (put : List Item) (rs : List Record) → put ≡ play o rs → IsPart put (play o rs)
whole_part o put rs e = subst (λ (items : List Item). IsPart items (play o rs)) (sym e) (part_whole (play o rs))

records_part : {T : Type 0} (o : Options) (l : Laid) (body : Body) (r : Result T PlayFault) (put : List Item) (all : List Record) → IsLayout l all → Begins l all → PlaysRecords o l body r put → IsPart put (play o all)
records_part o l body (Ok end) put all laid begins is = first_part o l put all is.0 laid begins is.1.begins (whole_part o put is.0 is.2)
records_part o l body (Err (Damaged part)) put all laid begins is = first_part o l put all is.0 laid begins is.1.begins (whole_part o put is.0 is.2)
records_part o l body (Err Disk) put all laid begins is = first_part o l put all is.0 laid begins is.1.begins is.2
records_part o l body (Err Screen) put all laid begins is = first_part o l put all is.0 laid begins is.1.begins is.2
records_part o l body (Err NoMem) put all laid begins is = first_part o l put all is.0 laid begins is.1.begins is.2
records_part o l body (Err Absent) put all laid begins is = absurd is
records_part o l body (Err Resumed) put all laid begins is = absurd is

-- ---- the law

pub stored_part : {T : Type 0} (o : Options) (n : ℕ) (image : Image) (r : Result T PlayFault) (put : List Item) (log : Stored) → Replays image n (Some log) → Plays o n image r put → IsPart put (play o log.records)
stored_part o n image r put log holds (inl (not_opened, none)) = subst (λ (items : List Item). IsPart items (play o log.records)) (sym none) tt
stored_part o n image r put log holds (inr is) =
    records_part o (laid_at n is.body image) is.body r put log.records (is_layout n is.body is.head image log is.opened holds) (begins_log n is.body is.head image log is.opened holds) is.records

pub stored_whole : {T : Type 0} (o : Options) (n : ℕ) (image : Image) (end : T) (put : List Item) (log : Stored) → Replays image n (Some log) → Plays o n image (Ok end) put → put ≡ play o log.records
stored_whole o n image end put log holds (inl (not_opened, none)) = absurd not_opened
stored_whole o n image end put log holds (inr is) =
    let all = is.records in
    all.2 ∙ ap (play o) (one_layout (laid_at n is.body image) all.0 log.records all.1.begins.valid holds.is.valid all.1.layout (is_layout n is.body is.head image log is.opened holds))

pub stored_there : (T : Type 0) (o : Options) (n : ℕ) (image : Image) (put : List Item) (log : Stored) → Replays image n (Some log) → Plays {T = T} o n image (Err Absent) put → ⊥
stored_there T o n image put log holds (inl (absent, none)) = none_some (encoded holds.entry.body) (sym absent ∙ holds.holds.last)
stored_there T o n image put log holds (inr is) = is.records

pub played_uncut : (T : Type 0) (o : Options) (n : ℕ) (image : Image) (put : List Item) → Plays {T = T} o n image (Err Resumed) put → ⊥
played_uncut T o n image put (inl (cut, none)) = cut
played_uncut T o n image put (inr is) = is.records
