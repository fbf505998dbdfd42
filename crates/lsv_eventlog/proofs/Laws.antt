-- The lemmas that crates above use: what an image holds of an event log, and how an event log stays represented.
use Rattle.std.proofs.Common.{◌≡◌, ◌≢◌, ◌⊎◌, inl, inr, ℕ, ◌+◌, List, [], ◌∷◌, ◌++◌, length, take, map, Option, Some, None, option_map, refl, sym, ◌∙◌, ap, subst}
use Rattle.std.specs.Prelude.{slice_index}
use Rattle.std.proofs.lemmas.List.{take_at, length-take-le}
use Rattle.lsv_disk.specs.declared.file.FileId.{FileId}
use Rattle.lsv_disk.specs.declared.file.Owner.{Owner}
use Rattle.lsv_disk.specs.declared.file.Owner.TheVariants.{Events}
use Rattle.lsv_disk.specs.declared.file.Part.{Part}
use Rattle.lsv_disk.specs.declared.file.Part.TheVariants.{Lines}
use Rattle.lsv_disk.specs.Bytes.{bytes_of}
use Rattle.lsv_disk.specs.Files.{file_of}
use Rattle.lsv_disk.specs.View.{Image, DiskView, IsCrashImage, Elsewhere}
use Rattle.lsv_journal.specs.Last.{IsAbsent}
use Rattle.lsv_bundle.specs.declared.body.Body.{Body}
use Rattle.lsv_bundle.specs.declared.shape.Shape.{Shape}
use Rattle.lsv_bundle.specs.declared.shape.Shape.TheVariants as shapes
use Rattle.lsv_bundle.specs.Body.{encoded, length_of}
use Rattle.lsv_bundle.specs.Shape.{on_shape, parts_of, journal_of}
use Rattle.lsv_bundle.specs.Value.{BundleView, FileView, committed_length}
use Rattle.lsv_bundle.specs.Committed.{Committed, HasPrefix, HoldsEntry, BundleHolds, committed, committed_bytes}
use Rattle.lsv_bundle.specs.Represents as bundles
use Rattle.lsv_bundle.proofs.Laws.{of_owner, holds_alone, holds_absent, one_body, represents_holds, owner_represents, staging_represents, staging_lengths}
use Rattle.lsv_eventlog.specs.Inner.{IsEventLog}
use Rattle.lsv_eventlog.specs.Recovered.{HoldsLines, IsOfEventLog, SameFiles}
use Rattle.lsv_eventlog.specs.Value.{EventLogView, IsAdded, Represents, added_text, committed_text, text_length}

-- the files of an event log are its lane's
pub of_lane : (lane : ℕ) (file : FileId) → IsOfEventLog lane file → file.owner ≡ Events lane
of_lane lane file is = of_owner (Events lane) shapes.Lines file is

-- of an event log the text alone is a data file
pub on_lines : (bytes : Part → List ℕ) → on_shape shapes.Lines bytes Lines ≡ bytes Lines
unfolding on_shape
on_lines bytes = refl

-- two beginnings of one file that are as long are the same
prefix_same : (xs ys : List ℕ) (file : Option (List ℕ)) → length xs ≡ length ys → HasPrefix xs file → HasPrefix ys file → xs ≡ ys
prefix_same xs ys None long one two = absurd one
prefix_same xs ys (Some bytes) long one two =
    sym (take_at xs one.0 (length xs) refl) ∙ ap (take (length xs)) (sym one.1 ∙ two.1) ∙ take_at ys two.0 (length xs) (sym long)

some_encoded : (a b : List ℕ) → Some a ≡ Some b → a ≡ b
some_encoded a b e = cc

none_some : (xs : List ℕ) → None ≡ Some xs → ⊥
none_some xs e = cc

one_entry : (lane : ℕ) (image : Image) (a b : Committed) → HoldsEntry (Events lane) shapes.Lines a image → HoldsEntry (Events lane) shapes.Lines b image → a.bytes Lines ≡ b.bytes Lines
one_entry lane image a b one two =
    let body : a.body ≡ b.body = one_body a.body b.body one.is_body two.is_body (some_encoded (encoded a.body) (encoded b.body) (sym one.last ∙ two.last)) in
    prefix_same (a.bytes Lines) (b.bytes Lines) (image (file_of (Events lane) Lines))
    (one.lengths Lines refl ∙ ap (λ (c : Body). length_of c Lines) body ∙ sym (two.lengths Lines refl)) (one.bytes Lines refl) (two.bytes Lines refl)

-- an image holds one text of an event log
pub one_text : (image : Image) (lane : ℕ) (text other : List ℕ) → HoldsLines image lane text → HoldsLines image lane other → text ≡ other
one_text image lane text other (inl one) (inl two) = one.1 ∙ sym two.1
one_text image lane text other (inl one) (inr (entry, holds, is)) = absurd (none_some (encoded entry.body) (sym one.0 ∙ holds.last))
one_text image lane text other (inr (entry, holds, is)) (inl two) = absurd (none_some (encoded entry.body) (sym two.0 ∙ holds.last))
one_text image lane text other (inr (a, one, is)) (inr (b, two, of)) = sym is ∙ one_entry lane image a b one two ∙ of

-- which depends on the log's files alone
pub local_text : (image other : Image) (lane : ℕ) (text : List ℕ) → SameFiles lane image other → HoldsLines image lane text → HoldsLines other lane text
local_text image other lane text same (inl one) = inl (holds_alone (Events lane) shapes.Lines None image other same one.0, one.1)
local_text image other lane text same (inr (entry, holds, is)) = inr (entry, holds_alone (Events lane) shapes.Lines (Some entry) image other same holds, is)

-- where its journal is absent, it holds none
pub absent_text : (image : Image) (lane : ℕ) → IsAbsent (journal_of (Events lane)) image → HoldsLines image lane []
absent_text image lane absent = inl (holds_absent (Events lane) shapes.Lines image absent, refl)

-- what a bundle holds, as the lines of an event log
pub held_text : (lane : ℕ) (entry : Option Committed) (image : Image) → BundleHolds (Events lane) shapes.Lines entry image → (c : Committed) → entry ≡ Some c → HoldsLines image lane (c.bytes Lines)
held_text lane entry image holds c is = inr (c, subst (λ (e : Option Committed). BundleHolds (Events lane) shapes.Lines e image) is holds, refl)

-- the entry that is committed
pub committed_is : (bundle : BundleView) (disk : DiskView) → bundle.last ≢ None → (c : Committed) × (committed bundle disk ≡ Some c) × (c.bytes ≡ on_shape bundle.shape (committed_bytes bundle disk))
committed_is bundle disk some = go bundle.last refl
  where
    go : (last : Option Body) → bundle.last ≡ last → (c : Committed) × (committed bundle disk ≡ Some c) × (c.bytes ≡ on_shape bundle.shape (committed_bytes bundle disk))
    go None e = absurd (some e)
    go (Some body) e = (record { body = body; bytes = on_shape bundle.shape (committed_bytes bundle disk) }, ap (λ (l : Option Body). option_map (λ (b : Body). let c : Committed = record { body = b; bytes = on_shape bundle.shape (committed_bytes bundle disk) } in c) l) e, refl)

-- an image that holds what a bundle has committed holds its lines
pub bundle_text : (lane : ℕ) (bundle : BundleView) (disk : DiskView) (image : Image) → bundle.owner ≡ Events lane → bundle.shape ≡ shapes.Lines → bundle.last ≢ None
    → BundleHolds bundle.owner bundle.shape (committed bundle disk) image → HoldsLines image lane (committed_bytes bundle disk Lines)
bundle_text lane bundle disk image owner shape some holds =
    let found = committed_is bundle disk some in
    let there : BundleHolds (Events lane) shapes.Lines (committed bundle disk) image =
    subst (λ (o : Owner). BundleHolds o shapes.Lines (committed bundle disk) image) owner (subst (λ (s : Shape). BundleHolds bundle.owner s (committed bundle disk) image) shape holds) in
    let bytes : found.0.bytes Lines ≡ committed_bytes bundle disk Lines = ap (λ (b : Part → List ℕ). b Lines) found.2 ∙ ap (λ (s : Shape). on_shape s (committed_bytes bundle disk) Lines) shape ∙ on_lines (committed_bytes bundle disk) in
    subst (HoldsLines image lane) bytes (held_text lane (committed bundle disk) image there found.0 found.1)

-- each crash image of a disk at which an event log stands holds its committed lines
pub every_image : (log : EventLogView) (disk : DiskView) → IsEventLog log → Represents log disk → (image : Image) → IsCrashImage disk image → HoldsLines image log.lane (committed_text log disk)
every_image log disk is at image left = bundle_text log.lane log.bundle disk image is.owner is.shape is.entry (represents_holds log.bundle disk at image (λ file own. left file))

-- an event log stays represented, with the same committed lines, where calls touched no file of its lane's event log
pub log_stays : (log : EventLogView) (Touched : FileId → Type 0) (old new : DiskView) → IsEventLog log → Elsewhere Touched old new → ((file : FileId) → file.owner ≡ Events log.lane → Touched file → ⊥)
    → Represents log old → Represents log new × (committed_text log new ≡ committed_text log old)
log_stays log Touched old new is elsewhere other at =
    let apart : (file : FileId) → file.owner ≡ log.bundle.owner → Touched file → ⊥ = λ file own. other file (own ∙ is.owner) in (
      owner_represents log.bundle Touched old new elsewhere apart at,
      ap (λ (o : Option (List ℕ)). take (committed_length log.bundle Lines) (bytes_of o)) (elsewhere.same (file_of log.bundle.owner Lines) (apart (file_of log.bundle.owner Lines) refl)),
    )

-- and with a line that is added
pub log_added : (old new : EventLogView) (disk : DiskView) (line : List ℕ) → IsAdded line old new → Represents old disk → Represents new disk × (committed_text new disk ≡ committed_text old disk)
log_added old new disk line is at = (
  staging_represents old.bundle new.bundle disk is.others at,
  ap (λ (n : ℕ). take n (bytes_of (disk.reads (file_of new.bundle.owner Lines)))) (staging_lengths old.bundle new.bundle is.others Lines)
      ∙ ap (λ (b : BundleView). take (committed_length old.bundle Lines) (bytes_of (disk.reads (file_of b.owner Lines)))) is.others,
)

-- the committed bytes of the one data file are as many as its value says
file_is_long : (owner : Owner) (disk : DiskView) (files : List FileView) → map (λ f. f.part) files ≡ Lines ∷ [] → bundles.Each (bundles.IsDurableFile owner disk) files
    → length (take (slice_index (map (λ f. f.committed) files) 0) (bytes_of (disk.reads (file_of owner Lines)))) ≡ slice_index (map (λ f. f.committed) files) 0
file_is_long owner disk [] parts each = absurd (let none : ⊥ = cc in none)
file_is_long owner disk (f ∷ files) parts each =
    let part : f.part ≡ Lines = cc in
    let there : disk.reads (file_of owner Lines) ≡ Some each.0.content = sym (ap (λ (p : Part). disk.reads (file_of owner p)) part) ∙ each.0.there in
    ap (λ (o : Option (List ℕ)). length (take f.committed (bytes_of o))) there ∙ length-take-le f.committed each.0.content each.0.enough

-- how long its text is
pub text_is_long : (log : EventLogView) (disk : DiskView) → IsEventLog log → Represents log disk → text_length log ≡ length (committed_text log disk) + length (added_text log)
text_is_long log disk is at =
    let parts : map (λ (f : FileView). f.part) log.bundle.files ≡ Lines ∷ [] = at.well_formed.parts ∙ ap parts_of is.shape in
    ap (λ (n : ℕ). n + length (added_text log)) (sym (file_is_long log.bundle.owner disk log.bundle.files parts at.files))
