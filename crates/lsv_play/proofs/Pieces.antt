-- Pieces of a log that are played one after another, and what is put of them by the end.
use Rattle.std.proofs.Common.{◌≡◌, ◌∙◌, ◌++◌, ℕ, ◌≤◌, List, [], ◌∷◌, Result, Ok, Err, IsErrAnd, refl, sym, ap, subst, append-nil, append_assoc, arith}
use Rattle.std.specs.Prelude.{Bool, true, false}
use Rattle.lsv_disk.specs.declared.file.FileId.{FileId}
use Rattle.lsv_disk.specs.declared.file.Part.{Part}
use Rattle.lsv_disk.specs.Throughout.{OnlyReads}
use Rattle.lsv_disk.specs.View.{DiskView, Image}
use Rattle.lsv_disk.proofs.Composition.{OnlyNow, reads_trans}
use Rattle.lsv_bundle.specs.Committed.{HasEntry}
use Rattle.lsv_bundle.specs.declared.body.Body.{Body}
use Rattle.lsv_iolog.specs.Faults.{IsNextFault}
use Rattle.lsv_iolog.specs.Reading.{IsBehind, IsFaultBehind, ViewState}
use Rattle.lsv_iolog.specs.Recovered.{owner_of}
use Rattle.lsv_iolog.specs.declared.fault.ViewFault.{ViewFault}
use Rattle.lsv_iolog.specs.declared.fault.ViewFault.TheVariants as views
use Rattle.lsv_iolog.proofs.Scans.{reads_nothing}
use Rattle.lsv_record.specs.declared.laid.Laid.{Laid}
use Rattle.lsv_record.specs.declared.records.Record.{Record}
use Rattle.lsv_play.specs.Ahead.{ComesNext, IsLookFault, IsReached, PlaysOn}
use Rattle.lsv_play.specs.Faults.{of_log}
use Rattle.lsv_play.specs.Items.{IsPart}
use Rattle.lsv_play.specs.Playing.{AreAll, AreGiven, PlaysRecords, PlaysSome, laid_at}
use Rattle.lsv_play.specs.Schedule.{play}
use Rattle.lsv_play.specs.declared.ahead.Next.TheVariants.{More, End, Fault}
use Rattle.lsv_play.specs.declared.ahead.Piece.{Piece}
use Rattle.lsv_play.specs.declared.fault.PlayFault.{PlayFault}
use Rattle.lsv_play.specs.declared.fault.PlayFault.TheVariants as faults
use Rattle.lsv_play.specs.declared.options.Options.{Options}
use Rattle.lsv_play.specs.declared.screen.Item.{Item}
use Rattle.lsv_play.proofs.ReadAhead.{back_log}
use Rattle.lsv_play.proofs.Parts.{part_behind, part_whole, play_append}
use Rattle.lsv_play.proofs.Played.{err_as, none_split, same_image}

-- ---- one piece

-- records that were read through are given
pub given_there : (view : ViewState) (rs : List Record) (disk : DiskView) → IsReached view rs disk → AreGiven (laid_at view.number view.body disk.reads) view.body rs
given_there view rs disk is = record { begins = is.behind.begins; sound = is.sound }

-- all that is put so far is a first part
pub some_before : (o : Options) (view : ViewState) (disk : DiskView) (before : List Record) → IsReached view before disk → PlaysSome o (laid_at view.number view.body disk.reads) view.body (play o before)
some_before o view disk before is = (before, given_there view before disk is, part_whole (play o before))

-- a look failed, and the log isn't cut or gone
pub look_before : (o : Options) (l : Laid) (body : Body) (put : List Item) (e : PlayFault) → IsLookFault e → (e ≡ faults.Resumed → ⊥) → (e ≡ faults.Absent → ⊥) → PlaysSome o l body put → PlaysRecords {T = Unit {0}} o l body (Err e) put
look_before o l body put faults.Resumed is uncut there some = absurd (uncut refl)
look_before o l body put faults.Absent is uncut there some = absurd (there refl)
look_before o l body put faults.Disk is uncut there some = some
look_before o l body put (faults.Damaged part) is uncut there some = absurd is
look_before o l body put faults.Screen is uncut there some = absurd is
look_before o l body put faults.NoMem is uncut there some = absurd is

-- a log that was just opened was read through no records
pub reached_first : (n : ℕ) (view : ViewState) (old new : DiskView) → view.number ≡ n → OnlyReads old new → HasEntry (owner_of n) view.body old.reads → IsBehind view [] new → IsReached view [] new
reached_first n view old new number reads entry behind = record {
  behind = behind;
  sound = λ before r more e. absurd (none_split before r more e);
  cuts = (
    view.body,
    subst (λ (i : Image). HasEntry (owner_of view.number) view.body i) (sym (same_image old new reads)) (subst (λ (k : ℕ). HasEntry (owner_of k) view.body old.reads) (sym number) entry),
    refl,
  );
}

module _ (o : Options) (old new : ViewState) (was now : DiskView) (before : List Record) (number : new.number ≡ old.number) (body : new.body ≡ old.body) (reads : OnlyReads was now) where
  back : (P : ℕ → Body → Image → Type 0) → P new.number new.body now.reads → P old.number old.body was.reads
  back P p = back_log P old new was now number body reads p

  -- nothing is shown of a piece, if memory or a read failed
  pub none_shown : (r : Result Bool PlayFault) (e : PlayFault) → IsErrAnd r (λ x. x ≡ e) → PlaysRecords {T = Unit {0}} o (laid_at old.number old.body was.reads) old.body (Err e) (play o before) → PlaysOn o old new was now before r []
  none_shown r e err is =
      subst (λ (x : Result Bool PlayFault). PlaysOn o old new was now before x []) (err_as r e err)
      (subst (λ (put : List Item). PlaysRecords {T = Unit {0}} o (laid_at old.number old.body was.reads) old.body (Err e) put) (sym (append-nil (play o before))) is)

  -- all of a piece is shown up to a fault of the screen
  pub part_shown : (r : Result Bool PlayFault) (e : PlayFault) → e ≡ faults.Screen → IsErrAnd r (λ x. x ≡ e) → (more : List Record) (put : List Item) → IsReached new (before ++ more) now → IsPart put (play o more) → PlaysOn o old new was now before r put
  part_shown r e screen err more put is part =
      subst (λ (x : Result Bool PlayFault). PlaysOn o old new was now before x put) (err_as r faults.Screen (subst (λ (x : PlayFault). IsErrAnd r (λ y. y ≡ x)) screen err)) (
        before ++ more,
        back (λ n b i. AreGiven (laid_at n b i) b (before ++ more)) (given_there new (before ++ more) now is),
        subst (IsPart (play o before ++ put)) (sym (play_append o before more)) (part_behind (play o before) put (play o more) part),
      )

  -- a piece is shown, and more may come
  pub goes_on : (more : List Record) (put : List Item) → put ≡ play o more → IsReached new (before ++ more) now → PlaysOn o old new was now before (Ok false) put
  goes_on more put all is = (more, is, all)

  all_put : (more : List Record) (put : List Item) → put ≡ play o more → play o before ++ put ≡ play o (before ++ more)
  all_put more put all = ap (λ (items : List Item). play o before ++ items) all ∙ sym (play_append o before more)

  -- it is shown, and the log ends
  pub ends_there : (more : List Record) (put : List Item) → put ≡ play o more → AreAll (laid_at new.number new.body now.reads) new.body (before ++ more) → PlaysOn o old new was now before (Ok true) put
  ends_there more put all is = (before ++ more, back (λ n b i. AreAll (laid_at n b i) b (before ++ more)) is, all_put more put all)

  fault_put : (more : List Record) (put : List Item) (e : ViewFault) → put ≡ play o more → IsReached new (before ++ more) now → ComesNext (laid_at new.number new.body now.reads) new.body (before ++ more) (Fault e)
      → PlaysRecords {T = Unit {0}} o (laid_at old.number old.body was.reads) old.body (Err (of_log e)) (play o before ++ put)
  fault_put more put views.Absent all is next = absurd next.0
  fault_put more put (views.Damaged part) all is next =
      let given = back (λ n b i. AreGiven (laid_at n b i) b (before ++ more)) (given_there new (before ++ more) now is) in (
        before ++ more,
        record { begins = given.begins; sound = given.sound; fault = back (λ n b i. IsFaultBehind (laid_at n b i) b (before ++ more) part) (next.1 part refl) },
        all_put more put all,
      )
  fault_put more put views.Disk all is next = (
    before ++ more,
    back (λ n b i. AreGiven (laid_at n b i) b (before ++ more)) (given_there new (before ++ more) now is),
    subst (λ (items : List Item). IsPart items (play o (before ++ more))) (sym (all_put more put all)) (part_whole (play o (before ++ more))),
  )
  fault_put more put views.NoMem all is next = (
    before ++ more,
    back (λ n b i. AreGiven (laid_at n b i) b (before ++ more)) (given_there new (before ++ more) now is),
    subst (λ (items : List Item). IsPart items (play o (before ++ more))) (sym (all_put more put all)) (part_whole (play o (before ++ more))),
  )

  -- it is shown, and the log isn't read on
  pub stops_there : (more : List Record) (put : List Item) (e : ViewFault) (d : PlayFault) → d ≡ of_log e → put ≡ play o more → IsReached new (before ++ more) now
      → ComesNext (laid_at new.number new.body now.reads) new.body (before ++ more) (Fault e) → PlaysOn o old new was now before (Err d) put
  stops_there more put e d same all is next =
      subst (λ (x : PlayFault). PlaysRecords {T = Unit {0}} o (laid_at old.number old.body was.reads) old.body (Err x) (play o before ++ put)) (sym same) (fault_put more put e all is next)

-- ---- a loop over pieces

-- it only read, and the log was read through records that are put
pub record IsPlaying (tells shows : Type 0) (o : Options) (start log : ViewState) (old now : DiskView) (before shown : List Item) (failed fails : ℕ) : Type 0 where
  pub number : log.number ≡ start.number
  pub body : log.body ≡ start.body
  pub disk : (f : FileId) → old.faults f ≤ now.faults f
  pub screen : failed ≤ fails
  pub reads : tells → OnlyReads old now
  pub reached : tells → IsReached start [] old → (rs : List Record) × IsReached log rs now × (shows → shown ≡ before ++ play o rs)

-- at first
pub playing_starts : (tells shows : Type 0) (o : Options) (log : ViewState) (disk : DiskView) (shown : List Item) (fails : ℕ) → (tells → OnlyNow disk) → IsPlaying tells shows o log log disk disk shown shown fails fails
playing_starts tells shows o log disk shown fails now = record {
  number = refl;
  body = refl;
  disk = λ f. omega arith;
  screen = omega arith;
  reads = λ told. reads_nothing disk (now told);
  reached = λ told is. ([], is, (λ told_too. sym (append-nil shown)));
}

-- with one piece more
pub playing_goes_on : (tells shows : Type 0) (o : Options) (start log next : ViewState) (old now later : DiskView) (before shown more : List Item) (failed fails fails' : ℕ)
    → IsPlaying tells shows o start log old now before shown failed fails → next.number ≡ log.number → next.body ≡ log.body → (tells → OnlyReads now later) → ((f : FileId) → now.faults f ≤ later.faults f) → fails ≤ fails'
    → (tells → (rs : List Record) → IsReached log rs now → (put : List Item) × (shows → more ≡ shown ++ put) × PlaysOn o log next now later rs (Ok false) put) → IsPlaying tells shows o start next old later before more failed fails'
playing_goes_on tells shows o start log next old now later before shown more failed fails fails' is number body reads disk screen played = record {
  number = number ∙ is.number;
  body = body ∙ is.body;
  disk = λ f. omega (arith, is.disk f, disk f);
  screen = omega (arith, is.screen, screen);
  reads = λ told. reads_trans old now later (is.reads told) (reads told);
  reached = λ told first.
      let so_far = is.reached told first in
      let one = played told so_far.0 so_far.1 in (
        so_far.0 ++ one.2.0,
        one.2.1,
        λ told_too. one.1 told_too ∙ ap (λ (items : List Item). items ++ one.0) (so_far.2 told_too) ∙ append_assoc before (play o so_far.0) one.0
            ∙ ap (λ (items : List Item). before ++ (play o so_far.0 ++ items)) one.2.2 ∙ ap (λ (items : List Item). before ++ items) (sym (play_append o so_far.0 one.2.0)),
      );
}

-- what is put of a log's records, if their playing came to this
pub record Puts {T : Type 0} (shows : Type 0) (o : Options) (l : Laid) (body : Body) (r : Result T PlayFault) (before shown : List Item) : Type 0 where
  pub put : List Item
  pub put_is : shows → shown ≡ before ++ put
  pub plays : PlaysRecords o l body r put

module _ (tells shows : Type 0) (o : Options) (start log : ViewState) (old now : DiskView) (before shown : List Item) (failed fails : ℕ) (is : IsPlaying tells shows o start log old now before shown failed fails)
    (told : tells) (first : IsReached start [] old) where
  abbrev pub so_far : (rs : List Record) × IsReached log rs now × (shows → shown ≡ before ++ play o rs)
  so_far = is.reached told first

  -- the playing ends with a piece
  pub piece_ends : {T : Type 0} (r : Result T PlayFault) (after put : List Item) → (shows → after ≡ shown ++ put) → PlaysRecords o (laid_at log.number log.body now.reads) log.body r (play o so_far.0 ++ put)
      → Puts shows o (laid_at start.number start.body old.reads) start.body r before after
  piece_ends {T} r after put put_is plays = record {
    put = play o so_far.0 ++ put;
    put_is = λ told_too. put_is told_too ∙ ap (λ (items : List Item). items ++ put) (so_far.2 told_too) ∙ append_assoc before (play o so_far.0) put;
    plays = back_log (λ n b i. PlaysRecords o (laid_at n b i) b r (play o so_far.0 ++ put)) start log old now is.number is.body (is.reads told) plays;
  }

  -- the loop ends
  pub loop_ends : {T : Type 0} (r : Result T PlayFault) → IsErrAnd r (λ x. x ≡ faults.NoMem) → Puts shows o (laid_at start.number start.body old.reads) start.body r before shown
  loop_ends {T} r err = record {
    put = play o so_far.0;
    put_is = so_far.2;
    plays = subst (λ (x : Result T PlayFault). PlaysRecords o (laid_at start.number start.body old.reads) start.body x (play o so_far.0)) (err_as r faults.NoMem err) (
      so_far.0,
      back_log (λ n b i. AreGiven (laid_at n b i) b so_far.0) start log old now is.number is.body (is.reads told) (given_there log so_far.0 now so_far.1),
      part_whole (play o so_far.0),
    );
  }

-- an error of a piece is one of the whole
pub error_of : (o : Options) (l : Laid) (body : Body) (r : Result (Unit {0}) PlayFault) (e : PlayFault) (put : List Item) → IsErrAnd r (λ x. x ≡ e) → PlaysRecords {T = Unit {0}} o l body (Err e) put → PlaysRecords o l body r put
error_of o l body r e put err is = subst (λ (x : Result (Unit {0}) PlayFault). PlaysRecords o l body x put) (err_as r e err) is
