-- What the fields of an entry hold: numbers of 64 bits with a sign, as the program's values always do.
use Rattle.std.specs.Prelude.{FitsSigned}
use Rattle.std.specs.Int.{w64}
use Rattle.std.specs.List.{AllByRecursion}
use Rattle.lsv_info.specs.declared.info.Entry.{Entry}
use Rattle.lsv_info.specs.declared.info.Value.{Value}
use Rattle.lsv_info.specs.declared.info.Value.TheVariants.{Num, Text, Texts, Nums}

abbrev pub FitsValue : Value → Type 0
FitsValue (Num n) = FitsSigned w64 n
FitsValue (Text bytes) = Unit {0}
FitsValue (Texts texts) = Unit {0}
FitsValue (Nums numbers) = AllByRecursion (FitsSigned w64) numbers

abbrev pub FitsEntry : Entry → Type 0
FitsEntry entry = FitsValue entry.value
