-- A seal: log after log, each with the digest of its content, and a value after each that is made of all before it.
use Rattle.std.specs.Prelude.{◌≡◌, ◌≢◌, ◌≤◌, ◌++◌, ℕ, List, [], ◌∷◌, length, Contains, fold}
use Rattle.hex.specs.Hex.{encode_lower}
use Rattle.lsv_base.specs.LogNo.{digits_of}
use Rattle.sha2.specs.Sha256.{sha256}

-- a log that is sealed: its number, and the digest of its committed bytes
pub record Sealed : Type 0 where
  pub number : ℕ
  pub digest : List ℕ

-- it has a log's number, and a digest of 64 hexadecimal digits
pub record IsSealed (s : Sealed) : Type 0 where
  pub first : 1 ≤ s.number
  pub last : s.number ≤ 2176782335
  pub long : length s.digest ≡ 64

-- the SHA-256 of a text, as hexadecimal digits
abbrev pub shown : List ℕ → List ℕ
shown text = encode_lower (sha256 text)

-- the text that the value after one log more is made of: the value before, the log's six digits, and its digest
abbrev pub text_after : List ℕ → Sealed → List ℕ
text_after before s = before ++ (digits_of s.number ++ s.digest)

-- the value after one log more
abbrev pub next : List ℕ → Sealed → List ℕ
next before s = shown (text_after before s)

-- the value of no log
abbrev pub first : List ℕ
first = shown []

-- the value of a seal
abbrev pub chain : List Sealed → List ℕ
chain sealed = fold next first sealed

-- the texts that the values after this one are made of
abbrev pub texts_from : List ℕ → List Sealed → List (List ℕ)
texts_from before [] = []
texts_from before (s ∷ more) = text_after before s ∷ texts_from (next before s) more

-- the texts that the values of a seal are made of
abbrev pub texts : List Sealed → List (List ℕ)
texts sealed = [] ∷ texts_from first sealed

-- two different texts, one of each seal, have one SHA-256
pub record Collides (a b : List Sealed) : Type 0 where
  pub one : List ℕ
  pub other : List ℕ
  pub of_a : Contains (texts a) one
  pub of_b : Contains (texts b) other
  pub differ : one ≢ other
  pub same : shown one ≡ shown other
