-- The settings of lines and one more.
use Rattle.std.proofs.Common.{◌≡◌, ◌∙◌, ℕ, Bool, true, false, ◌&&◌, List, [], ◌∷◌, ◌++◌, Option, Some, None, cond, codes, map, find, ap, ap₂, refl, sym}
use Rattle.std.proofs.Math.Path.{fun_ext}
use Rattle.std.specs.Char.{to_ascii_lowercase}
use Rattle.std.specs.List.{filter_map, cons_option}
use Rattle.std.specs.Option.{option_or}
use Rattle.std.specs.Str.{bytes_eq, str_eq_ignore_ascii_case}
use Rattle.std.proofs.lemmas.List.Elements.{filter_map-append}
use Rattle.lsv_conf.specs.Inner.{HasNames, placed_setting, values_of, with_given, with_value}
use Rattle.lsv_conf.specs.Lines.{Empty, Section, Placed}
use Rattle.lsv_conf.specs.Settings.{note_by, noted, notes_of, settings_by, settings_of, told, value_by, value_of}
use Rattle.lsv_conf.specs.Table.{Row, row_of, table}
use Rattle.lsv_conf.specs.declared.row.Values.{Values}
use Rattle.lsv_conf.specs.declared.conf.Note.{Note}
use Rattle.lsv_conf.specs.declared.row.Key.{Key}
use Rattle.lsv_conf.specs.declared.row.Key.TheVariants as key

no_more : {A : Type 0} (xs : List A) → xs ++ [] ≡ xs
no_more [] = refl
no_more (x ∷ xs) = ap (λ rest. x ∷ rest) (no_more xs)

or_none : {A : Type 0} (o : Option A) → option_or o None ≡ o
or_none None = refl
or_none (Some x) = refl

or_assoc : {A : Type 0} (o p q : Option A) → option_or (option_or o p) q ≡ option_or o (option_or p q)
or_assoc None p q = refl
or_assoc (Some x) p q = refl

value_of-push : (lines : List Placed) (p : Placed) (s k : List ℕ) → value_of (lines ++ p ∷ []) s k ≡ option_or (value_by s k p.line p.section) (value_of lines s k)
value_of-push [] p s k = sym (or_none (value_by s k p.line p.section))
value_of-push (q ∷ lines) p s k = ap (λ v. option_or v (value_by s k q.line q.section)) (value_of-push lines p s k) ∙ or_assoc (value_by s k p.line p.section) (value_of lines s k) (value_by s k q.line q.section)

notes_of-push : (lines : List Placed) (p : Placed) → notes_of (lines ++ p ∷ []) ≡ notes_of lines ++ cons_option (note_by p.number p.line p.section) []
notes_of-push lines p = filter_map-append (λ q. note_by q.number q.line q.section) lines (p ∷ [])

-- the settings of lines and one more, by what that one gives
pushed : (lines : List Placed) (p : Placed) → settings_of (lines ++ p ∷ []) ≡ settings_by (λ s k. option_or (value_by s k p.line p.section) (value_of lines s k)) (notes_of lines ++ cons_option (note_by p.number p.line p.section) [])
pushed lines p = ap₂ settings_by (fun_ext (λ s. fun_ext (λ k. value_of-push lines p s k))) (notes_of-push lines p)

-- a line that is no setting changes nothing
pub pushed_empty : (lines : List Placed) (n : ℕ) (section : Option (List ℕ)) → settings_of lines ≡ settings_of (lines ++ record { number = n; section = section; line = Empty } ∷ [])
pushed_empty lines n section = sym (pushed lines (record { number = n; section = section; line = Empty }) ∙ ap (settings_by (value_of lines)) (no_more (notes_of lines)))

pub pushed_section : (lines : List Placed) (n : ℕ) (section : Option (List ℕ)) (name : List ℕ) → settings_of lines ≡ settings_of (lines ++ record { number = n; section = section; line = Section name } ∷ [])
pushed_section lines n section name = sym (pushed lines (record { number = n; section = section; line = Section name }) ∙ ap (settings_by (value_of lines)) (no_more (notes_of lines)))

given_or : (t : Bool) (value : List ℕ) (o : Option (List ℕ)) → option_or (cond t (Some value) None) o ≡ cond t (Some value) o
given_or true value o = refl
given_or false value o = refl

pushed_setting : (lines : List Placed) (n : ℕ) (section key value : List ℕ) → settings_of (lines ++ placed_setting n section key value ∷ []) ≡ settings_by (with_given section key value (value_of lines)) (notes_of lines ++ cons_option (noted n key (row_of section key)) [])
pushed_setting lines n section key value =
    pushed lines (placed_setting n section key value)
    ∙ ap (λ g. settings_by g (notes_of lines ++ cons_option (noted n key (row_of section key)) [])) (fun_ext (λ s. fun_ext (λ k. given_or (str_eq_ignore_ascii_case section s && str_eq_ignore_ascii_case key k) value (value_of lines s k))))

-- the same by names in small letters
abbrev with_low : List ℕ → List ℕ → List ℕ → (List ℕ → List ℕ → Option (List ℕ)) → List ℕ → List ℕ → Option (List ℕ)
with_low section key value given s k = cond (bytes_eq section (map to_ascii_lowercase s) && bytes_eq key (map to_ascii_lowercase k)) (Some value) (given s k)

abbrev row_low : List ℕ → List ℕ → Option Row
row_low section key = find (λ r. bytes_eq section (map to_ascii_lowercase r.section) && bytes_eq key (map to_ascii_lowercase r.key)) table

-- a key's value among names in small letters
low_set : (k : Key) (section name value : List ℕ) (given : List ℕ → List ℕ → Option (List ℕ)) (notes : List Note) → HasNames k section name → settings_by (with_given section name value given) notes ≡ with_value k value (settings_by given notes)
low_set key.ListenAddress section name value given notes e = ap₂ (λ s n. settings_by (with_low s n value given) notes) e.0 e.1
low_set key.RelayHost section name value given notes e = ap₂ (λ s n. settings_by (with_low s n value given) notes) e.0 e.1
low_set key.StoreFirst section name value given notes e = ap₂ (λ s n. settings_by (with_low s n value given) notes) e.0 e.1
low_set key.IologDir section name value given notes e = ap₂ (λ s n. settings_by (with_low s n value given) notes) e.0 e.1
low_set key.IologFile section name value given notes e = ap₂ (λ s n. settings_by (with_low s n value given) notes) e.0 e.1
low_set key.LogPasswords section name value given notes e = ap₂ (λ s n. settings_by (with_low s n value given) notes) e.0 e.1
low_set key.Prompts section name value given notes e = ap₂ (λ s n. settings_by (with_low s n value given) notes) e.0 e.1
low_set key.LogFormat section name value given notes e = ap₂ (λ s n. settings_by (with_low s n value given) notes) e.0 e.1
low_set key.LogExit section name value given notes e = ap₂ (λ s n. settings_by (with_low s n value given) notes) e.0 e.1
low_set key.Path section name value given notes e = ap₂ (λ s n. settings_by (with_low s n value given) notes) e.0 e.1

abbrev values_in : Option Row → Option Values
values_in None = None
values_in (Some r) = Some r.values

-- a known key has a row, of what it takes
low_row : (k : Key) (section name : List ℕ) → HasNames k section name → values_in (row_of section name) ≡ Some (values_of k)
low_row key.ListenAddress section name e = ap₂ (λ s n. values_in (row_low s n)) e.0 e.1
low_row key.RelayHost section name e = ap₂ (λ s n. values_in (row_low s n)) e.0 e.1
low_row key.StoreFirst section name e = ap₂ (λ s n. values_in (row_low s n)) e.0 e.1
low_row key.IologDir section name e = ap₂ (λ s n. values_in (row_low s n)) e.0 e.1
low_row key.IologFile section name e = ap₂ (λ s n. values_in (row_low s n)) e.0 e.1
low_row key.LogPasswords section name e = ap₂ (λ s n. values_in (row_low s n)) e.0 e.1
low_row key.Prompts section name e = ap₂ (λ s n. values_in (row_low s n)) e.0 e.1
low_row key.LogFormat section name e = ap₂ (λ s n. values_in (row_low s n)) e.0 e.1
low_row key.LogExit section name e = ap₂ (λ s n. values_in (row_low s n)) e.0 e.1
low_row key.Path section name e = ap₂ (λ s n. values_in (row_low s n)) e.0 e.1

no_note : (o : Option Row) (values : Values) (n : ℕ) (key : List ℕ) → values_in o ≡ Some values → noted n key o ≡ None
no_note None values n key e = absurd (cc)
no_note (Some r) values n key e = refl

-- a value for a known key
pub pushed_known : (k : Key) (lines : List Placed) (n : ℕ) (section name value : List ℕ) → HasNames k section name → with_value k value (settings_of lines) ≡ settings_of (lines ++ placed_setting n section name value ∷ [])
pushed_known k lines n section name value e =
    sym (pushed_setting lines n section name value
    ∙ ap (λ o. settings_by (with_given section name value (value_of lines)) (notes_of lines ++ cons_option o [])) (no_note (row_of section name) (values_of k) n name (low_row k section name e))
    ∙ ap (settings_by (with_given section name value (value_of lines))) (no_more (notes_of lines))
    ∙ low_set k section name value (value_of lines) (notes_of lines) e)

-- where a test passes nowhere, it doesn't pass in front
none_first : {A : Type 0} (t : Bool) (x : A) (o : Option A) → cond t (Some x) o ≡ None → (t ≡ false) × (o ≡ None)
none_first true x o e = absurd (cc)
none_first false x o e = (refl, e)

-- the settings depend on what is given for the keys of the table alone
by_keys : (f g : List ℕ → List ℕ → Option (List ℕ)) (notes : List Note)
    → f (codes "server") (codes "listen_address") ≡ g (codes "server") (codes "listen_address") → f (codes "relay") (codes "relay_host") ≡ g (codes "relay") (codes "relay_host")
    → f (codes "relay") (codes "store_first") ≡ g (codes "relay") (codes "store_first") → f (codes "iolog") (codes "iolog_dir") ≡ g (codes "iolog") (codes "iolog_dir")
    → f (codes "iolog") (codes "log_passwords") ≡ g (codes "iolog") (codes "log_passwords") → f (codes "iolog") (codes "prompts") ≡ g (codes "iolog") (codes "prompts")
    → f (codes "eventlog") (codes "log_format") ≡ g (codes "eventlog") (codes "log_format") → f (codes "eventlog") (codes "log_exit") ≡ g (codes "eventlog") (codes "log_exit")
    → f (codes "logfile") (codes "path") ≡ g (codes "logfile") (codes "path") → settings_by f notes ≡ settings_by g notes
by_keys f g notes a b c d e h i j k = rw (a, b, c, d, e, h, i, j, k) refl

not_given : (t : Bool) (value : List ℕ) (o : Option (List ℕ)) → t ≡ false → cond t (Some value) o ≡ o
not_given true value o e = absurd (cc)
not_given false value o e = refl

unknown_set : (section name value : List ℕ) (given : List ℕ → List ℕ → Option (List ℕ)) (notes : List Note) → row_of section name ≡ None → settings_by (with_given section name value given) notes ≡ settings_by given notes
unknown_set section name value given notes none =
    let a = none_first _ _ _ none in
    let b = none_first _ _ _ a.1 in
    let c = none_first _ _ _ b.1 in
    let d = none_first _ _ _ c.1 in
    let e = none_first _ _ _ d.1 in
    let f = none_first _ _ _ e.1 in
    let g = none_first _ _ _ f.1 in
    let h = none_first _ _ _ g.1 in
    let i = none_first _ _ _ h.1 in
    let j = none_first _ _ _ i.1 in
    by_keys (with_given section name value given) given notes
    (not_given _ value _ a.0) (not_given _ value _ b.0) (not_given _ value _ c.0) (not_given _ value _ d.0) (not_given _ value _ f.0) (not_given _ value _ g.0) (not_given _ value _ h.0) (not_given _ value _ i.0) (not_given _ value _ j.0)

abbrev pub note_of : (n : ℕ) (key : List ℕ) → Note
note_of n key = record { line = told n; key = key }

-- a key that is not known
pub pushed_unknown : (lines : List Placed) (n : ℕ) (section name value : List ℕ) → row_of section name ≡ None → record (settings_of lines) { notes = notes_of lines ++ note_of n name ∷ [] } ≡ settings_of (lines ++ placed_setting n section name value ∷ [])
pushed_unknown lines n section name value none =
    sym (pushed_setting lines n section name value
    ∙ ap (λ o. settings_by (with_given section name value (value_of lines)) (notes_of lines ++ cons_option (noted n name o) [])) none
    ∙ unknown_set section name value (value_of lines) (notes_of lines ++ note_of n name ∷ []) none)
