-- A log that was read to its end is one that the disk replays.
use Rattle.std.proofs.Common.{◌≡◌, ◌≢◌, ◌∙◌, ◌⊎◌, inl, inr, ◌<◌, ◌≤◌, ◌^◌, ◌==◌, ℕ, zero, suc, Bool, List, [], ◌∷◌, length, take, drop, cond, Option, Some, None, refl, sym, ap, subst, arith}
use Rattle.std.specs.Prelude.{true, false, is_some}
use Rattle.std.proofs.lemmas.Bool.Decides.{nat_tests}
use Rattle.std.proofs.lemmas.List.{take-append-drop}
use Rattle.lsv_disk.specs.declared.file.Part.{Part}
use Rattle.lsv_disk.specs.declared.file.Part.TheVariants.{Head as HeadPart, Exit, Timing}
use Rattle.lsv_disk.specs.Bytes.{bytes_of}
use Rattle.lsv_disk.specs.Files.{file_of}
use Rattle.lsv_disk.specs.View.{Image}
use Rattle.lsv_bundle.specs.declared.body.Body.{Body}
use Rattle.lsv_bundle.specs.declared.shape.Shape.TheVariants as shapes
use Rattle.lsv_bundle.specs.Body.{length_of}
use Rattle.lsv_bundle.specs.Committed.{Committed, HasPrefix, HoldsEntry, IsShort}
use Rattle.lsv_bundle.specs.Shape.{IsPart, on_shape}
use Rattle.lsv_info.specs.declared.times.Head.{Head}
use Rattle.lsv_iolog.specs.Recovered.{HasExit, HoldsLog, IsLog, Replays, owner_of}
use Rattle.lsv_iolog.proofs.Replaying.{on_log, same_laid}
use Rattle.lsv_iolog.proofs.Viewing.{all_there}
use Rattle.lsv_play.specs.Playing.{AreAll, IsOpened, laid_at, text_at}
use Rattle.lsv_play.proofs.Stored.{same_body}
use Rattle.lsv_record.specs.declared.records.Record.{Record}
use Rattle.lsv_record.specs.Points.{Stored}
use Rattle.lsv_record.proofs.Layouts.{layout_is_texts}
use Rattle.lsv_load.specs.Faults.{IsFitting}

-- ---- The exit

is_three : (k : ℕ) → (k ≡ 3) ⊎ (k ≢ 3)
is_three zero = inr (λ e. cc)
is_three (suc zero) = inr (λ e. cc)
is_three (suc (suc zero)) = inr (λ e. cc)
is_three (suc (suc (suc zero))) = inl refl
is_three (suc (suc (suc (suc k)))) = inr (λ e. let no_ : ⊥ = omega (arith, e) in no_)

true_or_false : (b : Bool) → (b ≡ true) ⊎ (b ≡ false)
true_or_false true = inl refl
true_or_false false = inr refl

same_number : (m n : ℕ) → (m == n) ≡ true → m ≡ n
same_number m n e = grind (arith, nat_tests)

not_three : (k : ℕ) → k ≢ 3 → (k == 3) ≡ false
not_three k ne = elim (true_or_false (k == 3)) [ inl three ↦ absurd (ne (same_number k 3 three)) | inr other ↦ other ]

no_bytes : (xs : List ℕ) → length xs ≡ 0 → xs ≡ []
no_bytes [] none = refl
no_bytes (x ∷ xs) none = absurd (let no_ : ⊥ = omega (arith, none) in no_)

some_bytes : (xs : List ℕ) (k : ℕ) → length xs ≡ k → (xs ≡ [] → ⊥) → 0 < k
some_bytes [] k e some = absurd (some refl)
some_bytes (x ∷ xs) k e some = omega (arith, e)

-- the text of the exit, where the log is complete
abbrev pub exit_for : ℕ → List ℕ → Option (List ℕ)
exit_for kind text = cond (kind == 3) (Some text) None

pub exit_some : (kind : ℕ) (text : List ℕ) → (kind == 3) ≡ is_some (exit_for kind text)
exit_some kind text = at (kind == 3) where
  at : (b : Bool) → b ≡ is_some (cond b (Some text) None)
  at true = refl
  at false = refl

has_exit : (kind : ℕ) (bytes text : List ℕ) → bytes ≡ text → (kind ≡ 3 → 0 < length text) → (kind ≢ 3 → length text ≡ 0) → HasExit kind bytes (exit_for kind text)
has_exit kind bytes text same some none = elim (is_three kind) [
  | inl three ↦ subst (λ (b : Bool). HasExit kind bytes (cond b (Some text) None)) (sym (ap (λ (k : ℕ). k == 3) three)) (three, same, λ empty. let no_ : ⊥ = omega (arith, some three, ap length empty) in no_)
  | inr other ↦ subst (λ (b : Bool). HasExit kind bytes (cond b (Some text) None)) (sym (not_three kind other)) (other, same ∙ no_bytes text (none other))
]

-- ---- The log

begins_there : (file : Option (List ℕ)) (n : ℕ) → (IsShort file n → ⊥) → HasPrefix (take n (bytes_of file)) file
begins_there None n enough = absurd (enough tt)
begins_there (Some bytes) n enough = (drop n bytes, sym (take-append-drop n bytes))

-- the log of these records, by its last entry
abbrev pub log_of : ℕ → Body → Image → List Record → Stored
log_of n body image records = record { head = text_at n body image HeadPart; records = records; exit = exit_for body.kind (text_at n body image Exit); cuts = body.extra }

-- an entry with the bytes that it commits
abbrev entry_at : ℕ → Body → Image → Committed
entry_at n body image = record { body = body; bytes = on_shape shapes.Log (text_at n body image) }

module _ (n : ℕ) (body : Body) (head : Head) (image : Image) (opened : IsOpened n body head image) where
  long : (part : Part) → IsPart shapes.Log part → length (text_at n body image part) ≡ length_of body part
  long part own = all_there (image (file_of (owner_of n) part)) (length_of body part) (opened.there part own)

  holds_entry : HoldsEntry (owner_of n) shapes.Log (entry_at n body image) image
  holds_entry = record {
    is_body = opened.entry.is_body;
    last = opened.entry.last;
    lengths = λ part own. ap length (on_log (text_at n body image) part own) ∙ long part own;
    bytes = λ part own. subst (λ (xs : List ℕ). HasPrefix xs (image (file_of (owner_of n) part))) (sym (on_log (text_at n body image) part own))
        (begins_there (image (file_of (owner_of n) part)) (length_of body part) (opened.there part own));
  }

  is_log : (records : List Record) → IsFitting body → AreAll (laid_at n body image) body records → IsLog (entry_at n body image) (log_of n body image records)
  is_log records fits all = record {
    head = on_log (text_at n body image) HeadPart tt;
    is_head = (head, opened.head_is);
    exit = has_exit body.kind (on_shape shapes.Log (text_at n body image) Exit) (text_at n body image Exit) (on_log (text_at n body image) Exit tt)
        (λ three. let some = fits.some three in let e = long Exit tt in omega (arith, some, e)) (λ other. long Exit tt ∙ fits.none other);
    valid = all.begins.valid;
    layout = same_laid (on_shape shapes.Log (text_at n body image)) (text_at n body image) (on_log (text_at n body image)) ∙ (layout_is_texts (laid_at n body image) records).0 all.layout;
    count = all.count;
    time = all.time;
    in_time = all.begins.time;
    small = let e = ap length (on_log (text_at n body image) Timing tt) in let w = long Timing tt in let small = fits.small in omega (arith, e, w, small);
    cuts = refl;
  }

  -- the disk replays it
  pub replays_log : (records : List Record) → IsFitting body → AreAll (laid_at n body image) body records → Replays image n (Some (log_of n body image records))
  replays_log records fits all = record { entry = entry_at n body image; holds = holds_entry; is = is_log records fits all }

  -- where there is a log, its entry fits
  exit_fits : (kind : ℕ) (bytes : List ℕ) (exit : Option (List ℕ)) (k : ℕ) → length bytes ≡ k → HasExit kind bytes exit → (kind ≡ 3 → 0 < k) × (kind ≢ 3 → k ≡ 0)
  exit_fits kind bytes None k e has = (λ three. absurd (has.0 three), λ other. sym e ∙ ap length has.1)
  exit_fits kind bytes (Some text) k e has = (λ three. some_bytes bytes k e (λ empty. has.2 (sym has.1 ∙ empty)), λ other. absurd (other has.0))

  pub entry_fits : (log : Stored) → HoldsLog n log image → IsFitting body
  entry_fits log holds =
      let both = exit_fits holds.entry.body.kind (holds.entry.bytes Exit) log.exit (length_of holds.entry.body Exit) (holds.holds.lengths Exit tt) holds.is.exit in
      let small : length_of holds.entry.body Timing ≤ 2 ^ 40 = let e = holds.holds.lengths Timing tt in let s = holds.is.small in omega (arith, e, s) in
      subst IsFitting (sym (same_body n body head image log opened holds)) (record { some = both.0; none = both.1; small = small })
