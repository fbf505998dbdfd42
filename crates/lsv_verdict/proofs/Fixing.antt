-- A digest fixes the bytes that it is made of.
use Rattle.std.proofs.Common.{◌≡◌, ◌≢◌, ◌∙◌, ◌⊎◌, ◌++◌, ◌<◌, ◌≤◌, ◌^◌, ℕ, inl, inr, Bool, true, false, List, [], ◌∷◌, length, take, arith, refl, sym, ap, append_assoc}
use Rattle.std.specs.Int.{from_be_bytes, w64}
use Rattle.std.specs.Str.{bytes_eq}
use Rattle.std.proofs.lemmas.Nat.{from_be_bytes-to_be_bytes_8}
use Rattle.std.proofs.lemmas.Slice.Eq.{bytes_eq-Decides}
use Rattle.sha2.specs.Sha256.{sha256}
use Rattle.lsv_base.specs.LogNo.{digits_of, number_of}
use Rattle.lsv_base.proofs.Digits.{number_of-digits_of}
use Rattle.lsv_disk.specs.declared.file.Part.{Part}
use Rattle.lsv_disk.specs.declared.file.Part.TheVariants.{Head, Exit, Timing, Stdin, Stdout, Stderr, Ttyin, Ttyout, Lines, Id, Commit, Slots}
use Rattle.lsv_disk.specs.Files.{file_of}
use Rattle.lsv_disk.specs.View.{Image}
use Rattle.lsv_bundle.specs.declared.body.Body.{Body}
use Rattle.lsv_bundle.specs.declared.shape.Shape.TheVariants as shapes
use Rattle.lsv_bundle.specs.Body.{IsBody, length_of, number}
use Rattle.lsv_bundle.specs.Shape.{IsPart, index_of, parts_of}
use Rattle.lsv_iolog.specs.Reading.{AreThere}
use Rattle.lsv_iolog.specs.Recovered.{owner_of}
use Rattle.lsv_iolog.proofs.Viewing.{all_there}
use Rattle.lsv_play.specs.Playing.{text_at}
use Rattle.lsv_verdict.specs.Sealed.{AreParts, Collide, HaveSameBytes, IsDigest, sealed_bytes, sealed_part, sealed_parts}

-- equal texts whose first parts are as long have equal parts
parts : (xs ys us vs : List ℕ) → length xs ≡ length ys → xs ++ us ≡ ys ++ vs → (xs ≡ ys) × (us ≡ vs)
parts [] [] us vs long same = (refl, same)
parts [] (y ∷ ys) us vs long same = absurd (let no_ : ⊥ = omega (arith, long) in no_)
parts (x ∷ xs) [] us vs long same = absurd (let no_ : ⊥ = omega (arith, long) in no_)
parts (x ∷ xs) (y ∷ ys) us vs long same =
    let head : x ≡ y = cc in
    let tail : xs ++ us ≡ ys ++ vs = cc in
    let rest = parts xs ys us vs (omega (arith, long)) tail in
    (let more = rest.0 in cc, rest.1)

-- eight bytes are those of one number
number_same : (m n : ℕ) → m < 2 ^ 64 → n < 2 ^ 64 → number m ≡ number n → m ≡ n
number_same m n fits fits' same = sym (from_be_bytes-to_be_bytes_8 m fits) ∙ ap (from_be_bytes w64) same ∙ from_be_bytes-to_be_bytes_8 n fits'

module _ (image other : Image) (n m : ℕ) (body also : Body) (is_body : IsBody body) (is_also : IsBody also) (there : AreThere (owner_of n) body image) (are_there : AreThere (owner_of m) also other) where
  -- these files have the same bytes
  abbrev AreSame : List Part → Type 0
  AreSame [] = Unit {0}
  AreSame (part ∷ rest) = (text_at n body image part ≡ text_at m also other part) × AreSame rest

  one_part : (part : Part) (us vs : List ℕ) → IsPart shapes.Log part → sealed_part image n body part ++ us ≡ sealed_part other m also part ++ vs → (text_at n body image part ≡ text_at m also other part) × (us ≡ vs)
  one_part part us vs own same =
      let whole : number (length_of body part) ++ (text_at n body image part ++ us) ≡ number (length_of also part) ++ (text_at m also other part ++ vs)
      = sym (append_assoc (number (length_of body part)) (text_at n body image part) us) ∙ same ∙ append_assoc (number (length_of also part)) (text_at m also other part) vs in
      let first = parts (number (length_of body part)) (number (length_of also part)) (text_at n body image part ++ us) (text_at m also other part ++ vs) refl whole in
      let one_length : length_of body part ≡ length_of also part = number_same (length_of body part) (length_of also part) (is_body.lens (index_of part)) (is_also.lens (index_of part)) first.0 in
      let long : length (text_at n body image part) ≡ length (text_at m also other part)
      = all_there (image (file_of (owner_of n) part)) (length_of body part) (there part own) ∙ one_length ∙ sym (all_there (other (file_of (owner_of m) part)) (length_of also part) (are_there part own)) in
      parts (text_at n body image part) (text_at m also other part) us vs long first.1

  same_parts : (list : List Part) → AreParts list → sealed_parts image n body list ≡ sealed_parts other m also list → AreSame list
  same_parts [] own same = tt
  same_parts (part ∷ rest) own same =
      let one = one_part part (sealed_parts image n body rest) (sealed_parts other m also rest) own.0 same in
      (one.0, same_parts rest own.1 one.1)

  pub same_bytes : n ≤ 2176782335 → m ≤ 2176782335 → sealed_bytes image n body ≡ sealed_bytes other m also → HaveSameBytes image n body other m also
  same_bytes few fewer same =
      let first = parts (digits_of n) (digits_of m) (sealed_parts image n body (parts_of shapes.Log)) (sealed_parts other m also (parts_of shapes.Log)) refl same in
      let all = same_parts (parts_of shapes.Log) (tt, (tt, (tt, (tt, (tt, (tt, (tt, (tt, tt)))))))) first.1 in
      record {
        number = sym (number_of-digits_of n few) ∙ ap number_of first.0 ∙ number_of-digits_of m fewer;
        bytes = λ part own. by part own all;
      } where
        by : (part : Part) → IsPart shapes.Log part → AreSame (parts_of shapes.Log) → text_at n body image part ≡ text_at m also other part
        by Head own all = all.0
        by Exit own all = all.1.0
        by Timing own all = all.1.1.0
        by Stdin own all = all.1.1.1.0
        by Stdout own all = all.1.1.1.1.0
        by Stderr own all = all.1.1.1.1.1.0
        by Ttyin own all = all.1.1.1.1.1.1.0
        by Ttyout own all = all.1.1.1.1.1.1.1.0
        by Lines own all = absurd own
        by Id own all = absurd own
        by Commit own all = absurd own
        by Slots own all = absurd own

pub fixes : (image other : Image) (n m : ℕ) (digest : List ℕ) → n ≤ 2176782335 → m ≤ 2176782335 → (a : IsDigest image n digest) → (b : IsDigest other m digest)
    → HaveSameBytes image n a.body other m b.body ⊎ Collide (sealed_bytes image n a.body) (sealed_bytes other m b.body)
fixes image other n m digest few fewer a b = by (bytes_eq (sealed_bytes image n a.body) (sealed_bytes other m b.body)) refl
  where
    by : (r : Bool) → bytes_eq (sealed_bytes image n a.body) (sealed_bytes other m b.body) ≡ r → HaveSameBytes image n a.body other m b.body ⊎ Collide (sealed_bytes image n a.body) (sealed_bytes other m b.body)
    by true is = inl (same_bytes image other n m a.body b.body a.entry.is_body b.entry.is_body a.there b.there few fewer ((bytes_eq-Decides (sealed_bytes image n a.body) (sealed_bytes other m b.body)).0 is))
    by false is = inr ((λ e. absurd (let yes = (bytes_eq-Decides (sealed_bytes image n a.body) (sealed_bytes other m b.body)).1 e in cc)), sym a.is ∙ b.is)
