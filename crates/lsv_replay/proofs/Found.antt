-- A log that the disk holds is found as it is.
use Rattle.std.proofs.Common.{◌≡◌, ◌∙◌, inl, inr, ℕ, List, Option, Some, None, Ok, take, drop, refl, sym, ap}
use Rattle.std.proofs.lemmas.List.{take-append-drop}
use Rattle.lsv_disk.specs.declared.file.Part.TheVariants.{Head as HeadPart}
use Rattle.lsv_disk.specs.Bytes.{bytes_of}
use Rattle.lsv_disk.specs.Files.{file_of}
use Rattle.lsv_disk.specs.View.{Image}
use Rattle.lsv_bundle.specs.declared.body.Body.{Body}
use Rattle.lsv_bundle.specs.Body.{encoded, length_of}
use Rattle.lsv_bundle.specs.Committed.{HasPrefix}
use Rattle.lsv_bundle.proofs.Laws.{one_body}
use Rattle.lsv_info.specs.declared.times.Head.{Head}
use Rattle.lsv_info.specs.Reading.{head_of}
use Rattle.lsv_iolog.specs.Recovered.{HoldsLog, Replays, owner_of}
use Rattle.lsv_iolog.proofs.Replaying.{prefix_same}
use Rattle.lsv_iolog.proofs.Viewing.{all_there as file_long}
use Rattle.lsv_record.specs.Points.{Stored}
use Rattle.lsv_play.specs.Playing.{IsOpened, text_at}
use Rattle.lsv_play.proofs.Undamaged.{no_view_damage}
use Rattle.lsv_replay.specs.Listing.{Found, Nowhere, Faulty, There, IsFound}

none_some : {X : Type 0} (o : Option X) (x : X) → o ≡ None → o ≡ Some x → ⊥
none_some o x one two = cc

one_some : (o : Option (List ℕ)) (a b : List ℕ) → o ≡ Some a → o ≡ Some b → a ≡ b
one_some o a b one two = cc

module _ (n : ℕ) (image : Image) (log : Stored) (holds : HoldsLog n log image) where
  taken_begins : (file : Option (List ℕ)) (k : ℕ) (prefix : List ℕ) → HasPrefix prefix file → HasPrefix (take k (bytes_of file)) file
  taken_begins None k prefix is = absurd is
  taken_begins (Some bytes) k prefix is = (drop k bytes, sym (take-append-drop k bytes))

  own_head : (body : Body) (head : Head) → IsOpened n body head image → head_of log.head ≡ Ok head
  own_head body head opened =
      let same : body ≡ holds.entry.body =
      one_body body holds.entry.body opened.entry.is_body holds.holds.is_body (one_some _ (encoded body) (encoded holds.entry.body) opened.entry.last holds.holds.last) in
      let text : text_at n body image HeadPart ≡ holds.entry.bytes HeadPart =
      prefix_same (text_at n body image HeadPart) (holds.entry.bytes HeadPart) (image (file_of (owner_of n) HeadPart))
      (file_long (image (file_of (owner_of n) HeadPart)) (length_of body HeadPart) (opened.there HeadPart tt) ∙ ap (λ (b : Body). length_of b HeadPart) same ∙ sym (holds.holds.lengths HeadPart tt))
      (taken_begins (image (file_of (owner_of n) HeadPart)) (length_of body HeadPart) (holds.entry.bytes HeadPart) (holds.holds.bytes HeadPart tt)) (holds.holds.bytes HeadPart tt) in
      ap (λ (bytes : List ℕ). head_of bytes) (sym (text ∙ holds.is.head)) ∙ opened.head_is

pub stored_found : (image : Image) (n : ℕ) (log : Stored) (found : Found) → Replays image n (Some log) → IsFound image n found → (head : Head) × (head_of log.head ≡ Ok head) × (found ≡ There head)
stored_found image n log Nowhere holds none = absurd (none_some _ _ none holds.holds.last)
stored_found image n log (Faulty part) holds damage = absurd (no_view_damage n image log holds part damage)
stored_found image n log (There head) holds is = (head, own_head n image log holds is.0 head is.1, refl)

pub absent_found : (image : Image) (n : ℕ) (found : Found) → Replays image n None → IsFound image n found → found ≡ Nowhere
absent_found image n Nowhere none is = refl
absent_found image n (Faulty part) none (inl damaged) = absurd (none_some _ _ none damaged.entry.last)
absent_found image n (Faulty part) none (inr faulty) = absurd (none_some _ _ none faulty.1.holds.last)
absent_found image n (There head) none is = absurd (none_some _ _ none is.1.entry.last)
