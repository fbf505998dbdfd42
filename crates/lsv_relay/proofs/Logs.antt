-- A log that is read stays as it was on a disk whose calls touch none of its files.
use Rattle.std.proofs.Common.{◌≡◌, inl, inr, ℕ, List, take, Option, Some, refl, sym, ◌∙◌, ap, subst}
use Rattle.lsv_disk.specs.Bytes.{bytes_of}
use Rattle.lsv_disk.specs.Files.{file_of}
use Rattle.lsv_disk.specs.View.{DiskView, Elsewhere}
use Rattle.lsv_disk.specs.declared.file.FileId.{FileId}
use Rattle.lsv_disk.specs.declared.file.Owner.TheVariants as owners
use Rattle.lsv_disk.specs.declared.file.Part.{Part}
use Rattle.lsv_disk.specs.declared.file.Part.TheVariants.{Head as HeadPart, Timing}
use Rattle.lsv_journal.specs.Last.{IsOwn}
use Rattle.lsv_journal.proofs.Laws.{own_alone, own_cases}
use Rattle.lsv_bundle.specs.Body.{length_of}
use Rattle.lsv_bundle.specs.Committed.{HasEntry, IsShort}
use Rattle.lsv_bundle.specs.Shape.{journal_of}
use Rattle.lsv_bundle.specs.declared.body.Body.{Body}
use Rattle.lsv_info.specs.Reading.{head_of}
use Rattle.lsv_iolog.specs.Reading.{IsBehind, IsWhole, IsWindowOf, ViewState, committed_laid, committed_text}
use Rattle.lsv_iolog.specs.Recovered as logs
use Rattle.lsv_kept.specs.Kept.{IsOfRelay}
use Rattle.lsv_record.specs.Layout.{Begins, IsLayout}
use Rattle.lsv_record.specs.Points.{first}
use Rattle.lsv_record.specs.declared.laid.Laid.{Laid}
use Rattle.lsv_record.specs.declared.records.Record.{Record}
use Rattle.lsv_relay.specs.Talks.{AreAllOf, HasLog, IsWay, Way, Way.Resumes, Way.Anew}
use Rattle.lsv_kept.specs.declared.state.State.{State}

-- the files of log n read the same
abbrev pub SameLog : ℕ → DiskView → DiskView → Type 0
SameLog n old new = (file : FileId) → logs.IsOfLog n file → new.reads file ≡ old.reads file

pub relay_apart : (n : ℕ) (file : FileId) → logs.IsOfLog n file → IsOfRelay n file → ⊥
relay_apart n file one two = let h : owners.Log n ≡ owners.Relay n = sym one ∙ two in cc (h)

pub log_elsewhere : (n : ℕ) (old new : DiskView) → Elsewhere (IsOfRelay n) old new → SameLog n old new
log_elsewhere n old new elsewhere file own = elsewhere.same file (relay_apart n file own)

pub same_back : (n : ℕ) (old new : DiskView) → SameLog n old new → SameLog n new old
same_back n old new same file own = sym (same file own)

module _ (n : ℕ) (old new : DiskView) (same : SameLog n old new) where
  pub text_stays : (body : Body) (part : Part) → committed_text n body new part ≡ committed_text n body old part
  text_stays body part = ap (λ (o : Option (List ℕ)). take (length_of body part) (bytes_of o)) (same (file_of (logs.owner_of n) part) refl)

  texts_stay : (body : Body) → committed_text n body new ≡ committed_text n body old
  texts_stay body i part = text_stays body part i

  pub laid_stays : (body : Body) → committed_laid n body new ≡ committed_laid n body old
  laid_stays body = ap logs.laid_in (texts_stay body)

  own_file : (g : FileId) → IsOwn (journal_of (logs.owner_of n)) g → logs.IsOfLog n g
  own_file g is = elim (own_cases (journal_of (logs.owner_of n)) g is) [ inl one ↦ ap (λ (f : FileId). f.owner) one | inr two ↦ ap (λ (f : FileId). f.owner) two ]

  pub entry_stays : (body : Body) → HasEntry (logs.owner_of n) body old.reads → HasEntry (logs.owner_of n) body new.reads
  entry_stays body entry = record { is_body = entry.is_body; last = own_alone 89 (journal_of (logs.owner_of n)) old.reads new.reads (λ g is. same g (own_file g is)) ∙ entry.last }

  pub behind_here : (view : ViewState) (records : List Record) → view.number ≡ n → IsBehind view records old → IsBehind view records new
  behind_here view records is behind = record {
    begins = subst (λ (l : Laid). Begins l records) (sym laid) behind.begins;
    given = behind.given;
    there = λ part of short. behind.there part of (subst (λ (o : Option (List ℕ)). IsShort o (length_of view.body part)) (same (file_of (logs.owner_of view.number) part) (ap logs.owner_of is)) short);
    window = subst (λ (text : List ℕ). IsWindowOf text view.start view.window view.given.timing) (sym timing) behind.window;
  }
    where
      laid : committed_laid view.number view.body new ≡ committed_laid view.number view.body old
      laid = ap (λ (k : ℕ). committed_laid k view.body new) is ∙ laid_stays view.body ∙ sym (ap (λ (k : ℕ). committed_laid k view.body old) is)

      timing : committed_text view.number view.body new Timing ≡ committed_text view.number view.body old Timing
      timing = ap (λ (k : ℕ). committed_text k view.body new Timing) is ∙ text_stays view.body Timing ∙ sym (ap (λ (k : ℕ). committed_text k view.body old Timing) is)

  pub log_stays : (view : ViewState) (records : List Record) → HasLog n view records old → HasLog n view records new
  log_stays view records log = record {
    number = log.number;
    entry = entry_stays view.body log.entry;
    complete = log.complete;
    head = ap head_of (text_stays view.body HeadPart) ∙ log.head;
    behind = behind_here view records log.number log.behind;
  }

  pub whole_stays : (view : ViewState) (records : List Record) → view.number ≡ n → IsWhole view records old → IsWhole view records new
  whole_stays view records is whole = record {
    layout = subst (λ (l : Laid). IsLayout l records) (sym (ap (λ (k : ℕ). committed_laid k view.body new) is ∙ laid_stays view.body ∙ sym (ap (λ (k : ℕ). committed_laid k view.body old) is))) whole.layout;
    count = whole.count;
    time = whole.time;
  }

  pub all_stay : (records : List Record) → AreAllOf n old records → AreAllOf n new records
  all_stay records all = record {
    body = all.body;
    entry = entry_stays all.body all.entry;
    begins = subst (λ (l : Laid). Begins l records) (sym (laid_stays all.body)) all.begins;
    layout = subst (λ (l : Laid). IsLayout l records) (sym (laid_stays all.body)) all.layout;
    count = all.count;
    time = all.time;
  }

-- the way stays one, also with more records read
pub way_stays : (state : State) (n : ℕ) (old new : DiskView) (records more : List Record) (way : Way) → SameLog n old new → IsWay state n old records way → (first_more : (point k : ℕ) → first records point ≡ Some k → first more point ≡ Some k) → IsWay state n new more way
way_stays state n old new records more (Resumes id point k) same is further = (is.0, further point k is.1)
way_stays state n old new records more Anew same is further = λ id point at rs all. is id point at rs (all_stay n new old (same_back n old new same) rs all)
