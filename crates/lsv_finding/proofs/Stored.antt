-- What reads whole is a stored log, and each finding is what recovery says.
use Rattle.std.proofs.Common.{◌≡◌, ◌≢◌, ◌∙◌, ◌⊎◌, inl, inr, ℕ, zero, suc, ◌≤◌, ◌^◌, List, [], ◌∷◌, length, false, Option, Some, None, refl, sym, ap, subst, arith}
use Rattle.lsv_disk.specs.declared.file.Part.{Part}
use Rattle.lsv_disk.specs.declared.file.Part.TheVariants.{Head as HeadPart, Exit as ExitPart, Timing}
use Rattle.lsv_disk.specs.View.{DiskView, Image}
use Rattle.lsv_bundle.specs.declared.body.Body.{Body}
use Rattle.lsv_bundle.specs.declared.shape.Shape.TheVariants as shapes
use Rattle.lsv_bundle.specs.Body.{encoded, length_of}
use Rattle.lsv_bundle.specs.Committed.{Committed, HoldsEntry}
use Rattle.lsv_bundle.specs.Shape.{journal_of, on_shape}
use Rattle.lsv_journal.specs.Last.{LastAt}
use Rattle.lsv_info.specs.declared.times.Head.{Head}
use Rattle.lsv_iolog.specs.Damage.{IsViewDamage}
use Rattle.lsv_iolog.specs.Reading.{IsSoundBehind}
use Rattle.lsv_iolog.specs.Recovered.{HasExit, HoldsLog, Replays, ReplaysNothing, owner_of}
use Rattle.lsv_iolog.proofs.Committing.{at_most}
use Rattle.lsv_iolog.proofs.Decided as decided
use Rattle.lsv_iolog.proofs.Replaying.{on_log, one_replay, same_laid}
use Rattle.lsv_iolog.proofs.Viewing.{entry_holds}
use Rattle.lsv_record.specs.declared.records.Record.{Record}
use Rattle.lsv_record.specs.Points.{Stored}
use Rattle.lsv_record.proofs.Layouts.{layout_is_texts}
use Rattle.lsv_play.specs.declared.options.Options.{Options}
use Rattle.lsv_play.specs.Playing.{AreAll, IsOpened, laid_at, text_at}
use Rattle.lsv_play.specs.Schedule.{play}
use Rattle.lsv_play.proofs.Stored.{same_body}
use Rattle.lsv_play.proofs.Undamaged.{stored_undamaged}
use Rattle.lsv_finding.specs.Findings.{Finding, Nowhere, Unlisted, Closed, Broken, Sound, HasExitLength, IsAbsent, IsBreak, IsDamage, IsFinding, IsStored, Means}

-- ---- what reads whole

no_bytes : (xs : List ℕ) → length xs ≡ 0 → xs ≡ []
no_bytes [] none = refl
no_bytes (x ∷ xs) none = absurd (let no_ : ⊥ = omega (arith, none) in no_)

pub is_three : (k : ℕ) → (k ≡ 3) ⊎ (k ≢ 3)
is_three zero = inr (λ e. cc)
is_three (suc zero) = inr (λ e. cc)
is_three (suc (suc zero)) = inr (λ e. cc)
is_three (suc (suc (suc zero))) = inl refl
is_three (suc (suc (suc (suc k)))) = inr (λ e. let no_ : ⊥ = omega (arith, e) in no_)

exit_there : (kind : ℕ) (bytes : List ℕ) (n : ℕ) → length bytes ≡ n → (kind ≡ 3 → n ≢ 0) → (kind ≢ 3 → n ≡ 0) → (exit : Option (List ℕ)) × HasExit kind bytes exit
exit_there kind bytes n long some none = elim (is_three kind) [
  | inl three ↦ (Some bytes, (three, refl, λ empty. some three (sym long ∙ ap length empty)))
  | inr other ↦ (None, (other, no_bytes bytes (long ∙ none other)))
]

-- a disk that reads as an image
view_of : Image → DiskView
view_of image = record {
  reads = image;
  crash_states = λ file c. Unit {0};
  moment = 0;
  crash_images_at = λ k other. Unit {0};
  faults = λ file. 0;
  writes = λ file. 0;
  syncs = λ file. 0;
  places = None;
}

module _ (n : ℕ) (image : Image) (body : Body) (head : Head) (opened : IsOpened n body head image) where
  -- the entry with its bytes
  abbrev pub entry_in : Committed
  entry_in = record { body = body; bytes = on_shape shapes.Log (text_at n body image) }

  pub holds_entry : HoldsEntry (owner_of n) shapes.Log entry_in image
  unfolding view_of
  holds_entry = entry_holds n body (view_of image) opened.entry (record { each = opened.there })

  -- the exit fits the entry, as its length does
  pub exit_in : HasExitLength body → (exit : Option (List ℕ)) × HasExit body.kind (text_at n body image ExitPart) exit
  exit_in fits = exit_there body.kind (text_at n body image ExitPart) (length_of body ExitPart) (sym (ap length (on_log (text_at n body image) ExitPart tt)) ∙ holds_entry.lengths ExitPart tt) fits.some fits.none

  -- the log with these records and this exit
  abbrev pub log_in : List Record → Option (List ℕ) → Stored
  log_in records exit = record { head = text_at n body image HeadPart; records = records; exit = exit; cuts = body.extra }

  pub whole_is_stored : (records : List Record) (exit : Option (List ℕ)) → AreAll (laid_at n body image) body records → IsSoundBehind (laid_at n body image) body records → HasExit body.kind (text_at n body image ExitPart) exit
      → Replays image n (Some (log_in records exit))
  whole_is_stored records exit all sound exits =
      let text = text_at n body image in
      record {
        entry = entry_in;
        holds = holds_entry;
        is = record {
          head = on_log text HeadPart tt;
          is_head = (head, opened.head_is);
          exit = subst (λ (bytes : List ℕ). HasExit body.kind bytes exit) (sym (on_log text ExitPart tt)) exits;
          valid = all.begins.valid;
          layout = same_laid entry_in.bytes text (λ part own. on_log text part own) ∙ (layout_is_texts (laid_at n body image) records).0 all.layout;
          count = all.count;
          time = all.time;
          in_time = all.begins.time;
          small = subst (λ (xs : List ℕ). length xs ≤ 2 ^ 40) (sym (on_log text Timing tt)) (at_most (length (text Timing)) (2 ^ 40) (λ more. sound Timing (inr (inr (inr more)))));
          cuts = refl;
        };
      }

-- ---- what recovery says of a finding

none_entry : (o : Option (List ℕ)) (bytes : List ℕ) → o ≡ None → o ≡ Some bytes → ⊥
none_entry o bytes none some = cc

-- no log that is opened is absent
opened_there : (n : ℕ) (image : Image) (body : Body) (head : Head) → IsOpened n body head image → Replays image n None → ⊥
opened_there n image body head opened none = none_entry (LastAt 89 (journal_of (owner_of n)) image) (encoded body) none opened.entry.last

-- a log with a part at fault is damaged
closed_nothing : (n : ℕ) (image : Image) (part : Part) → IsViewDamage n part image → ReplaysNothing image n
closed_nothing n image part (inl damaged) = decided.damaged image n part (inl damaged)
closed_nothing n image part (inr faulty) = decided.damaged image n HeadPart (inr faulty.1)

exit_fits : (kind : ℕ) (bytes : List ℕ) (exit : Option (List ℕ)) (n : ℕ) → length bytes ≡ n → HasExit kind bytes exit → (kind ≡ 3 → n ≢ 0) × (kind ≢ 3 → n ≡ 0)
exit_fits kind bytes None n long exits = ((λ three. absurd (exits.0 three)), (λ other. sym long ∙ ap length exits.1))
exit_fits kind bytes (Some text) n long exits = ((λ three zero_. exits.2 (sym exits.1 ∙ no_bytes bytes (long ∙ zero_))), (λ other. absurd (other exits.0)))

-- a stored log's exit is as long as its entry asks for
stored_fits : (n : ℕ) (image : Image) (body : Body) (head : Head) (log : Stored) → IsOpened n body head image → HoldsLog n log image → HasExitLength body
stored_fits n image body head log opened holds =
    let fits = exit_fits holds.entry.body.kind (holds.entry.bytes ExitPart) log.exit (length_of holds.entry.body ExitPart) (holds.holds.lengths ExitPart tt) holds.is.exit in
    subst (λ (b : Body). HasExitLength b) (sym (same_body n body head image log opened holds)) (record { some = fits.0; none = fits.1 })

-- any way of playing
some_way : Options
some_way = record { streams = false ∷ false ∷ false ∷ false ∷ false ∷ []; longest = None; speed = 1; suspended = false; runs = omega arith }

break_nothing : (n : ℕ) (image : Image) (body : Body) (head : Head) (records : List Record) (part : Part) → IsOpened n body head image → IsBreak image n body records part → ReplaysNothing image n
break_nothing n image body head records part opened is_break None none = opened_there n image body head opened none
break_nothing n image body head records part opened (inl unfit) (Some log) holds = unfit.unfit (stored_fits n image body head log opened holds)
break_nothing n image body head records part opened (inr (fits, before)) (Some log) holds =
    stored_undamaged (Unit {0}) some_way n image (play some_way records) log part holds (inr (record { body = body; head = head; opened = opened; records = (records, before, refl) }))

pub means : (image : Image) (n : ℕ) (f : Finding) → IsFinding image n f → Means image n f
means image n Nowhere is = is.0
means image n (Unlisted part) is = is.0
means image n (Closed part) is = closed_nothing n image part is
means image n (Broken head body records part) is = break_nothing n image body head records part is.0 is.1
means image n (Sound head body log exit) is = is.1

some_none : (log : Stored) → Some log ≡ None → ⊥
some_none log e = cc

same_log : (a b : Stored) → Some a ≡ Some b → a ≡ b
same_log a b e = cc

pub means_stored : (image : Image) (n : ℕ) (f : Finding) (log : Stored) → Means image n f → Replays image n (Some log) → IsStored log f
means_stored image n Nowhere log is holds = some_none log (one_replay image n (Some log) None holds is)
means_stored image n (Unlisted part) log is holds = some_none log (one_replay image n (Some log) None holds is)
means_stored image n (Closed part) log is holds = is (Some log) holds
means_stored image n (Broken head body records part) log is holds = is (Some log) holds
means_stored image n (Sound head body found exit) log is holds = same_log found log (one_replay image n (Some found) (Some log) is holds)

pub means_absent : (image : Image) (n : ℕ) (f : Finding) → Means image n f → Replays image n None → IsAbsent f
means_absent image n Nowhere is none = tt
means_absent image n (Unlisted part) is none = tt
means_absent image n (Closed part) is none = is None none
means_absent image n (Broken head body records part) is none = is None none
means_absent image n (Sound head body found exit) is none = some_none found (one_replay image n (Some found) None is none)

pub means_damage : (image : Image) (n : ℕ) (f : Finding) → Means image n f → ReplaysNothing image n → IsDamage f
means_damage image n Nowhere is nothing = nothing None is
means_damage image n (Unlisted part) is nothing = nothing None is
means_damage image n (Closed part) is nothing = tt
means_damage image n (Broken head body records part) is nothing = tt
means_damage image n (Sound head body found exit) is nothing = nothing (Some found) is
