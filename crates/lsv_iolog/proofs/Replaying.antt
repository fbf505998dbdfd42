-- What an image holds of a log: it hangs on the log's files alone, it is one thing, and which is decided.
use Rattle.std.proofs.Common.{◌≡◌, ℕ, List, length, take, Option, Some, None, refl, sym, ◌∙◌, ap, subst}
use Rattle.std.proofs.lemmas.List.{take_at}
use Rattle.lsv_disk.specs.declared.file.FileId.{FileId}
use Rattle.lsv_disk.specs.declared.file.Part.{Part}
use Rattle.lsv_disk.specs.declared.file.Part.TheVariants.{Head, Exit, Timing, Stdin, Stdout, Stderr, Ttyin, Ttyout, Lines, Id, Commit, Slots}
use Rattle.lsv_disk.specs.Files.{file_of}
use Rattle.lsv_disk.specs.View.{Image}
use Rattle.lsv_bundle.specs.declared.body.Body.{Body}
use Rattle.lsv_bundle.specs.declared.shape.Shape.TheVariants as shapes
use Rattle.lsv_bundle.specs.Body.{encoded, length_of}
use Rattle.lsv_bundle.specs.Shape.{IsPart, on_shape, journal_of}
use Rattle.lsv_bundle.specs.Committed.{Committed, HasPrefix, HoldsEntry}
use Rattle.lsv_bundle.proofs.Laws.{of_owner, holds_alone, holds_absent, one_body}
use Rattle.lsv_record.specs.Layout.{layout_of}
use Rattle.lsv_record.specs.Points.{Stored}
use Rattle.lsv_record.proofs.Layouts.{layout_is_texts}
use Rattle.lsv_record.proofs.Once.{one_layout}
use Rattle.lsv_iolog.specs.Recovered.{owner_of, IsOfLog, laid_in, HasExit, IsLog, Replays, SameFiles, SameLog}

-- of a log each data file is of its shape
pub on_log : (bytes : Part → List ℕ) (part : Part) → IsPart shapes.Log part → on_shape shapes.Log bytes part ≡ bytes part
unfolding on_shape
on_log bytes Head is = refl
on_log bytes Exit is = refl
on_log bytes Timing is = refl
on_log bytes Stdin is = refl
on_log bytes Stdout is = refl
on_log bytes Stderr is = refl
on_log bytes Ttyin is = refl
on_log bytes Ttyout is = refl
on_log bytes Lines is = absurd is
on_log bytes Id is = absurd is
on_log bytes Commit is = absurd is
on_log bytes Slots is = absurd is

-- files with the same bytes have the same layout
pub same_laid : (a b : Part → List ℕ) → ((part : Part) → IsPart shapes.Log part → a part ≡ b part) → laid_in a ≡ laid_in b
same_laid a b same = λ i. record { timing = same Timing tt i; stdin = same Stdin tt i; stdout = same Stdout tt i; stderr = same Stderr tt i; ttyin = same Ttyin tt i; ttyout = same Ttyout tt i }

-- two beginnings of one file that are as long are the same
pub prefix_same : (xs ys : List ℕ) (file : Option (List ℕ)) → length xs ≡ length ys → HasPrefix xs file → HasPrefix ys file → xs ≡ ys
prefix_same xs ys None long one two = absurd one
prefix_same xs ys (Some bytes) long one two =
    sym (take_at xs one.0 (length xs) refl) ∙ ap (take (length xs)) (sym one.1 ∙ two.1) ∙ take_at ys two.0 (length xs) (sym long)

-- an entry has one exit, or none
one_exit : (kind : ℕ) (bytes : List ℕ) (a b : Option (List ℕ)) → HasExit kind bytes a → HasExit kind bytes b → a ≡ b
one_exit kind bytes None None x y = refl
one_exit kind bytes None (Some t) x y = absurd (x.0 y.0)
one_exit kind bytes (Some s) None x y = absurd (y.0 x.0)
one_exit kind bytes (Some s) (Some t) x y = ap Some (sym x.1 ∙ y.1)

-- entries with one body and the same bytes are of one log
pub one_log : (a b : Committed) (x y : Stored) → a.body ≡ b.body → ((part : Part) → IsPart shapes.Log part → a.bytes part ≡ b.bytes part) → IsLog a x → IsLog b y → x ≡ y
one_log a b x y body bytes is of =
    let head : x.head ≡ y.head = sym is.head ∙ bytes Head tt ∙ of.head in
    let layout : layout_of x.records ≡ layout_of y.records = sym is.layout ∙ same_laid a.bytes b.bytes bytes ∙ of.layout in
    let records : x.records ≡ y.records = one_layout (layout_of x.records) x.records y.records is.valid of.valid
    ((layout_is_texts (layout_of x.records) x.records).1 refl) ((layout_is_texts (layout_of x.records) y.records).1 layout) in
    let same : HasExit b.body.kind (b.bytes Exit) x.exit = subst (λ (k : ℕ). HasExit k (b.bytes Exit) x.exit) (ap (λ (c : Body). c.kind) body)
    (subst (λ (bs : List ℕ). HasExit a.body.kind bs x.exit) (bytes Exit tt) is.exit) in
    let exit : x.exit ≡ y.exit = one_exit b.body.kind (b.bytes Exit) x.exit y.exit same of.exit in
    let cuts : x.cuts ≡ y.cuts = sym is.cuts ∙ ap (λ (c : Body). c.extra) body ∙ of.cuts in
    λ i. record { head = head i; records = records i; exit = exit i; cuts = cuts i }

some_encoded : (a b : List ℕ) → Some a ≡ Some b → a ≡ b
some_encoded a b e = cc

-- an image has one entry of a log
pub one_entry : (n : ℕ) (image : Image) (a b : Committed) → HoldsEntry (owner_of n) shapes.Log a image → HoldsEntry (owner_of n) shapes.Log b image
    → (a.body ≡ b.body) × ((part : Part) → IsPart shapes.Log part → a.bytes part ≡ b.bytes part)
one_entry n image a b one two =
    let body : a.body ≡ b.body = one_body a.body b.body one.is_body two.is_body (some_encoded (encoded a.body) (encoded b.body) (sym one.last ∙ two.last)) in (
      body,
      λ part is. prefix_same (a.bytes part) (b.bytes part) (image (file_of (owner_of n) part))
          (one.lengths part is ∙ ap (λ (c : Body). length_of c part) body ∙ sym (two.lengths part is)) (one.bytes part is) (two.bytes part is),
    )

none_some : (xs : List ℕ) → None ≡ Some xs → ⊥
none_some xs e = cc

-- one image replays as one thing
pub one_replay : (image : Image) (n : ℕ) (r s : Option Stored) → Replays image n r → Replays image n s → r ≡ s
one_replay image n None None x y = refl
one_replay image n None (Some b) x y = absurd (none_some (encoded y.entry.body) (sym x ∙ y.holds.last))
one_replay image n (Some a) None x y = absurd (none_some (encoded x.entry.body) (sym y ∙ x.holds.last))
one_replay image n (Some a) (Some b) x y =
    let both = one_entry n image x.entry y.entry x.holds y.holds in
    ap Some (one_log x.entry y.entry a b both.0 both.1 x.is y.is)

-- it hangs on the files of the log's owner alone
pub local_replay : (a b : Image) (n : ℕ) (r : Option Stored) → SameFiles n a b → Replays a n r → Replays b n r
local_replay a b n None same x = holds_alone (owner_of n) shapes.Log None a b (λ f own. same f (of_owner (owner_of n) shapes.Log f own)) x
local_replay a b n (Some log) same x = record {
  entry = x.entry;
  holds = holds_alone (owner_of n) shapes.Log (Some x.entry) a b (λ f own. same f (of_owner (owner_of n) shapes.Log f own)) x.holds;
  is = x.is;
}

pub same_files : (a b : Image) (n : ℕ) → SameFiles n a b → SameLog n a b
same_files a b n same = record { forth = λ r. local_replay a b n r same; back = λ r. local_replay b a n r (λ f of. sym (same f of)) }

-- where no file of the log is there, it replays as absent
pub absent_replay : (image : Image) (n : ℕ) → ((f : FileId) → IsOfLog n f → image f ≡ None) → Replays image n None
absent_replay image n none = holds_absent (owner_of n) shapes.Log image (none (journal_of (owner_of n)) refl, none (file_of (owner_of n) Commit) refl)
