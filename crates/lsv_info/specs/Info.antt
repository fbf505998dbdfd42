-- What the entries of a command's information say of a key.
use Rattle.std.specs.Prelude.{ℕ, List, Option, Some, None, find, reverse}
use Rattle.std.specs.Option.{option_map, option_and_then}
use Rattle.std.specs.Str.{bytes_eq}
use Rattle.lsv_info.specs.declared.info.Entry.{Entry}
use Rattle.lsv_info.specs.declared.info.Info.{Info}
use Rattle.lsv_info.specs.declared.info.Value.{Value}
use Rattle.lsv_info.specs.declared.info.Value.TheVariants.{Num, Text, Texts, Nums}

-- the entry that counts for a key: of several the last
abbrev pub counting : List Entry → List ℕ → Option Entry
counting entries key = find (λ entry. bytes_eq entry.key key) (reverse entries)

-- the bytes of a value that is one text
abbrev pub text_in : Value → Option (List ℕ)
text_in (Num n) = None
text_in (Text bytes) = Some bytes
text_in (Texts texts) = None
text_in (Nums numbers) = None

-- the text of the entry that counts for a key
abbrev pub text_of : Info → List ℕ → Option (List ℕ)
text_of info key = option_and_then (λ entry. text_in entry.value) (counting info.entries key)

-- the value of the entry that counts for a key
abbrev pub value_of : Info → List ℕ → Option Value
value_of info key = option_map (λ entry. entry.value) (counting info.entries key)
