-- The head and the exit that a text is: a member that is missing or has another form is at fault, and the first such one is named.
use Rattle.std.specs.Prelude.{◌≡◌, ⊤, ℕ, ℤ, pos, negsuc, ◌^◌, nat_lt, List, [], ◌∷◌, if◌then◌else◌, Option, Some, None, option_map, is_some, Result, Ok, Err, codes}
use Rattle.std.specs.Option.{option_and_then}
use Rattle.std.specs.Str.{is_utf8}
use Rattle.lsv_base.specs.Time.{nanos_of}
use Rattle.lsv_base.specs.declared.time.TimeSpec.{TimeSpec}
use Rattle.lsv_info.specs.declared.fault.InfoFault.{InfoFault}
use Rattle.lsv_info.specs.declared.fault.InfoFault.TheVariants.{NotJson, NotInfo, NoMem}
use Rattle.lsv_info.specs.declared.info.Entry.{Entry}
use Rattle.lsv_info.specs.declared.info.Value.{Value}
use Rattle.lsv_info.specs.declared.info.Value.TheVariants.{Num, Text, Texts, Nums}
use Rattle.lsv_info.specs.declared.times.Head.{Head}
use Rattle.lsv_info.specs.declared.times.Exit.{Exit}
use Rattle.serde_json.specs.Data.{Data, null, boolean, number, string, array, object, Items, no_items, item, Members, no_members, member}
use Rattle.serde_json.specs.Find.{get, as_bool, as_number, as_str, as_object, as_i64}
use Rattle.serde_json.specs.Read.{read}

-- the JSON value that bytes are: of a key that comes twice in one object the last counts
abbrev pub json_in : List ℕ → Option Data
json_in bytes = if is_utf8 bytes then read bytes else None

-- a number of 64 bits with a sign
abbrev pub number_in : Data → Option ℤ
number_in json = option_and_then as_i64 (as_number json)

-- a number of 32 bits with a sign
abbrev pub if_small : ℤ → Option ℤ
if_small (pos n) = if nat_lt n (2 ^ 31) then Some (pos n) else None
if_small (negsuc n) = if nat_lt n (2 ^ 31) then Some (negsuc n) else None

abbrev pub small_in : Data → Option ℤ
small_in json = option_and_then if_small (number_in json)

-- a list of strings, and a list of such numbers
abbrev pub with_first : {A : Type 0} → Option A → Option (List A) → Option (List A)
with_first first rest = option_and_then (λ a. option_map (λ more. a ∷ more) rest) first

abbrev pub texts_in : Items → Option (List (List ℕ))
texts_in no_items = Some []
texts_in (item json items) = with_first (as_str json) (texts_in items)

abbrev pub numbers_in : Items → Option (List ℤ)
numbers_in no_items = Some []
numbers_in (item json items) = with_first (number_in json) (numbers_in items)

-- an array is of texts where all its items are, so also where it is empty, and else of numbers
abbrev pub unless_texts : Option (List (List ℕ)) → Option (List ℤ) → Option Value
unless_texts (Some texts) numbers = Some (Texts texts)
unless_texts None numbers = option_map Nums numbers

-- the value of an entry
abbrev pub value_in : Data → Option Value
value_in null = None
value_in (boolean b) = None
value_in (number n) = option_map Num (as_i64 n)
value_in (string text) = Some (Text text)
value_in (array items) = unless_texts (texts_in items) (numbers_in items)
value_in (object _) = None

-- what a member gives, or else that it is at fault
abbrev pub needed : {A : Type 0} → List ℕ → Option A → Result A InfoFault
needed key (Some a) = Ok a
needed key None = Err (NotInfo key)

abbrev pub and_then : {A B : Type 0} → Result A InfoFault → (A → Result B InfoFault) → Result B InfoFault
and_then (Ok a) next = next a
and_then (Err fault) next = Err fault

-- the entries that these members are, each judged before the next: a read object has them in byte order of their keys
abbrev pub entries_in : Members → Result (List Entry) InfoFault
entries_in no_members = Ok []
entries_in (member key json members) =
    and_then (needed key (value_in json)) (λ value. and_then (entries_in members) (λ entries. Ok (record { key = key; value = value } ∷ entries)))

-- a valid time
abbrev pub if_valid : TimeSpec → Option TimeSpec
if_valid time = if is_some (nanos_of time) then Some time else None

abbrev pub time_in : Data → Option TimeSpec
time_in json =
    option_and_then (λ sec. option_and_then (λ nsec. if_valid (record { sec = sec; nsec = nsec })) (option_and_then small_in (get (codes "nanoseconds") json)))
    (option_and_then number_in (get (codes "seconds") json))

-- the head of an object: `info` is judged before `submit_time`
abbrev pub head_in : Data → Result Head InfoFault
head_in json =
    and_then (needed (codes "info") (option_and_then as_object (get (codes "info") json))) (λ members.
    and_then (entries_in members) (λ entries.
    and_then (needed (codes "submit_time") (option_and_then time_in (get (codes "submit_time") json))) (λ submit.
    Ok (record { submit = submit; info = record { entries = entries } }))))

-- a string that may be missing, and is then empty
abbrev pub text_or_empty : Option Data → Option (List ℕ)
text_or_empty None = Some []
text_or_empty (Some json) = as_str json

-- the exit of an object, its members judged in byte order of their keys
abbrev pub exit_in : Data → Result Exit InfoFault
exit_in json =
    and_then (needed (codes "dumped_core") (option_and_then as_bool (get (codes "dumped_core") json))) (λ dumped.
    and_then (needed (codes "error") (text_or_empty (get (codes "error") json))) (λ error.
    and_then (needed (codes "exit_value") (option_and_then small_in (get (codes "exit_value") json))) (λ value.
    and_then (needed (codes "run_time") (option_and_then time_in (get (codes "run_time") json))) (λ run.
    and_then (needed (codes "signal") (text_or_empty (get (codes "signal") json))) (λ signal.
    Ok (record { run = run; value = value; dumped = dumped; signal = signal; error = error }))))))

-- what bytes are, where they are JSON
abbrev pub if_json : {A : Type 0} → (Data → Result A InfoFault) → Option Data → Result A InfoFault
if_json meaning (Some json) = meaning json
if_json meaning None = Err NotJson

-- the head, or the fault, that bytes are
unfoldable pub head_of : List ℕ → Result Head InfoFault
head_of bytes = if_json head_in (json_in bytes)

-- the exit, or the fault, that bytes are
unfoldable pub exit_of : List ℕ → Result Exit InfoFault
exit_of bytes = if_json exit_in (json_in bytes)

-- for private clauses: an answer is the meaning, unless it is out of memory
abbrev pub Fails : {A : Type 0} → InfoFault → Result A InfoFault → Type 0
Fails NotJson meaning = meaning ≡ Err NotJson
Fails (NotInfo key) meaning = meaning ≡ Err (NotInfo key)
Fails NoMem meaning = ⊤

abbrev pub Gives : {A : Type 0} → Result A InfoFault → Result A InfoFault → Type 0
Gives (Ok a) meaning = meaning ≡ Ok a
Gives (Err fault) meaning = Fails fault meaning
