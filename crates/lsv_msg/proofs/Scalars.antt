-- Numbers, bools and texts are read back.
use Rattle.std.proofs.Common.{◌≡◌, ℕ, ℤ, pos, negsuc, ◌%◌, ◌^◌, ◌<◌, Bool, true, false, List, [], length, Ok, refl, sym, ap, ◌∙◌, arith}
use Rattle.std.specs.Prelude.{FitsSigned}
use Rattle.std.specs.Int.{w32, w64, cast_signed, cast_unsigned}
use Rattle.std.proofs.lemmas.Bool.{eqb-true}
use Rattle.std.proofs.lemmas.Int.{ints, to_z-of_z}
use Rattle.std.proofs.lemmas.List.{nil_from_length}
use Rattle.std.proofs.Math.Facts.{Fits-of_z}
use Rattle.lsv_wire.specs.declared.field.FieldValue.TheVariants.{Varint, Range}
use Rattle.lsv_msg.specs.Format.{is_zero, int64, int32, flag, text}
use Rattle.lsv_msg.proofs.Back.{WrittenIsRead, KindBack, ScalarBack, inside_short}

below_64 : (n : ℤ) → FitsSigned w64 n → cast_unsigned w64 n < 2 ^ 64
below_64 n fits = (Fits-of_z {w = w64} {z = n} fits).fits

wider : (n : ℤ) → FitsSigned w32 n → FitsSigned w64 n
wider n fits = record { sfits = omega (arith, ints, fits.sfits) }

low_bits : (n : ℤ) → FitsSigned w32 n → cast_unsigned w64 n % 2 ^ 32 ≡ cast_unsigned w32 n
low_bits (pos k) fits = omega (arith, ints, fits.sfits)
low_bits (negsuc k) fits = omega (arith, ints, fits.sfits)

zero_is : (n : ℤ) → is_zero n ≡ true → pos 0 ≡ n
zero_is (pos k) e = ap (λ (j : ℕ). pos j) (sym (eqb-true k 0 e))
zero_is (negsuc k) e = absurd cc

pub int64_back : WrittenIsRead → KindBack int64.kind (FitsSigned w64)
int64_back w bytes rest at number n fits is_number small is =
    let f = w.number bytes rest at number (cast_unsigned w64 n) is_number.first is_number.last (below_64 n fits) is in
    record { value = Varint (cast_unsigned w64 n); next = f.0; stands = record { is = f.1; fields = f.2; behind = f.3 }; reads = ap (λ (m : ℤ). Ok m) (to_z-of_z w64 n fits) }

pub int32_back : WrittenIsRead → KindBack int32.kind (FitsSigned w32)
int32_back w bytes rest at number n fits is_number small is =
    let f = w.number bytes rest at number (cast_unsigned w64 n) is_number.first is_number.last (below_64 n (wider n fits)) is in
    record {
      value = Varint (cast_unsigned w64 n);
      next = f.0;
      stands = record { is = f.1; fields = f.2; behind = f.3 };
      reads = ap (λ (k : ℕ). Ok (cast_signed w32 k)) (low_bits n fits) ∙ ap (λ (m : ℤ). Ok m) (to_z-of_z w32 n fits);
    }

pub flag_back : WrittenIsRead → KindBack flag.kind (λ b. Unit {0})
flag_back w bytes rest at number true fits is_number small is =
    let f = w.number bytes rest at number 1 is_number.first is_number.last (omega arith) is in
    record { value = Varint 1; next = f.0; stands = record { is = f.1; fields = f.2; behind = f.3 }; reads = refl }
flag_back w bytes rest at number false fits is_number small is =
    let f = w.number bytes rest at number 0 is_number.first is_number.last (omega arith) is in
    record { value = Varint 0; next = f.0; stands = record { is = f.1; fields = f.2; behind = f.3 }; reads = refl }

pub text_back : WrittenIsRead → KindBack text.kind (λ b. Unit {0})
text_back w bytes rest at number b fits is_number small is =
    let f = w.bytes bytes rest b at number is_number.first is_number.last (inside_short number bytes b rest at small is) is in
    record { value = Range f.0 f.1; next = f.1; stands = record { is = f.2; fields = f.3; behind = f.5 }; reads = ap (λ (t : List ℕ). Ok t) f.4 }

pub int64_again : WrittenIsRead → ScalarBack int64 (FitsSigned w64)
int64_again w = record { kind = int64_back w; default = zero_is }

pub int32_again : WrittenIsRead → ScalarBack int32 (FitsSigned w32)
int32_again w = record { kind = int32_back w; default = zero_is }

false_is : (b : Bool) → flag.is_default b ≡ true → false ≡ b
false_is true e = absurd cc
false_is false e = refl

pub flag_again : WrittenIsRead → ScalarBack flag (λ b. Unit {0})
flag_again w = record { kind = flag_back w; default = false_is }

empty_is : (b : List ℕ) → text.is_default b ≡ true → [] ≡ b
empty_is b e = sym (nil_from_length b (eqb-true (length b) 0 e))

pub text_again : WrittenIsRead → ScalarBack text (λ b. Unit {0})
text_again w = record { kind = text_back w; default = empty_is }
