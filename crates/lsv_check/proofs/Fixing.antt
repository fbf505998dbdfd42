-- A value of a seal fixes the bytes of the sealed logs.
use Rattle.std.proofs.Common.{◌≡◌, ◌∙◌, ◌⊎◌, ◌<◌, inl, inr, ℕ, zero, suc, List, [], ◌∷◌, arith, sym, ap, subst}
use Rattle.std.specs.List.{All}
use Rattle.std.specs.Int.{to_be_bytes, w32}
use Rattle.std.specs.List.{slice_index}
use Rattle.std.proofs.lemmas.List.Elements.{All-append, All-cons, All-from_recursion, All-head, All-nil, All-tail}
use Rattle.hex.specs.Hex.{IsBytes, decode_of, encode_lower}
use Rattle.hex.proofs.HexLemmas.{decode_of-encode_lower}
use Rattle.sha2.specs.Sha256.{digest_bytes, final_hash, initial_hash_256, sha256}
use Rattle.lsv_check.specs.Seals.{IsSameIn, IsSealedOf}
use Rattle.lsv_disk.specs.View.{Image}
use Rattle.lsv_seal.proofs.Chains.{fixes as chain_fixes}
use Rattle.lsv_seal.specs.Chain.{Collides, IsSealed, Sealed, chain}
use Rattle.lsv_verdict.proofs.Fixing.{fixes as digest_fixes}
use Rattle.lsv_verdict.specs.Sealed.{IsDigest, sealed_bytes}

-- ---- a digest is of bytes

abbrev IsByte : ℕ → Type 0
IsByte byte = byte < 256

word_bytes : (n : ℕ) → All IsByte (to_be_bytes w32 n)
word_bytes n = All-from_recursion IsByte (to_be_bytes w32 n) (omega arith, (omega arith, (omega arith, (omega arith, tt))))

digest_all : (h : List ℕ) (n : ℕ) → All IsByte (digest_bytes h n)
unfolding digest_bytes
digest_all h zero = All-nil IsByte
digest_all h (suc n) = All-append IsByte (digest_bytes h n) (to_be_bytes w32 (slice_index h n)) (digest_all h n) (word_bytes (slice_index h n))

are_bytes : (xs : List ℕ) → All IsByte xs → IsBytes xs
are_bytes [] all i = omega arith
are_bytes (x ∷ xs) all zero = All-head IsByte x xs all
are_bytes (x ∷ xs) all (suc i) = are_bytes xs (All-tail IsByte x xs all) i

sha256_bytes : (text : List ℕ) → IsBytes (sha256 text)
unfolding sha256
sha256_bytes text = are_bytes (sha256 text) (digest_all (final_hash initial_hash_256 text) 8)

-- a digest is one text alone
one_digest : (one two : List ℕ) → IsBytes one → IsBytes two → encode_lower one ≡ encode_lower two → one ≡ two
one_digest one two bytes also same =
    let is = sym (decode_of-encode_lower one bytes) ∙ ap decode_of same ∙ decode_of-encode_lower two also in
    cc

module _ (image other : Image) where
  sealed_all : (some : Image) (a : List Sealed) → All (IsSealedOf some) a → All IsSealed a
  sealed_all some [] of_a = All-nil IsSealed
  sealed_all some (s ∷ a) of_a = All-cons IsSealed s a (All-head (IsSealedOf some) s a of_a).sealed (sealed_all some a (All-tail (IsSealedOf some) s a of_a))

  same_digest : (s : Sealed) (a : IsSealedOf image s) (b : IsSealedOf other s) → a.digest ≡ b.digest
  same_digest s a b = one_digest a.digest b.digest (subst IsBytes (sym a.is.is) (sha256_bytes (sealed_bytes image s.number a.is.body))) (subst IsBytes (sym b.is.is) (sha256_bytes (sealed_bytes other s.number b.is.body))) (sym a.shown ∙ b.shown)

  same_one : (s : Sealed) → IsSealedOf image s → IsSealedOf other s → IsSameIn image other s
  same_one s a b =
      let also : IsDigest other s.number a.digest = subst (IsDigest other s.number) (sym (same_digest s a b)) b.is in
      record {
        one = a.is.body;
        two = also.body;
        entry = a.is.entry;
        also = also.entry;
        same = digest_fixes image other s.number s.number a.digest a.sealed.last a.sealed.last a.is also;
      }

  same_all : (a : List Sealed) → All (IsSealedOf image) a → All (IsSealedOf other) a → All (IsSameIn image other) a
  same_all [] of_one of_other = All-nil (IsSameIn image other)
  same_all (s ∷ a) of_one of_other = All-cons (IsSameIn image other) s a (same_one s (All-head (IsSealedOf image) s a of_one) (All-head (IsSealedOf other) s a of_other)) (same_all a (All-tail (IsSealedOf image) s a of_one) (All-tail (IsSealedOf other) s a of_other))

  pub fixes : (a b : List Sealed) → All (IsSealedOf image) a → All (IsSealedOf other) b → chain a ≡ chain b → ((a ≡ b) × All (IsSameIn image other) a) ⊎ Collides a b
  fixes a b of_a of_b same = elim (chain_fixes a b (sealed_all image a of_a) (sealed_all other b of_b) same) [
    | inl is ↦ inl (is, same_all a of_a (subst (All (IsSealedOf other)) (sym is) of_b))
    | inr collide ↦ inr collide
  ]
