-- The keys that the settings file may set, each with its section, the values that it takes, and its default.
use Rattle.std.specs.Prelude.{ℕ, List, [], ◌∷◌, Option, Some, None, Bool, ◌&&◌, codes, find}
use Rattle.std.specs.Str.{str_eq_ignore_ascii_case}
use Prim.Native.String.{String}
use Rattle.lsv_conf.specs.declared.row.Values.{Values}
use Rattle.lsv_conf.specs.declared.row.Values.TheVariants.{Listening, Upstream, Truth, Path, Sequence, Format, Texts}

-- a key of a section: its name, what it takes, and the value that counts where none is given
pub record Row : Type 0 where
  pub section : List ℕ
  pub key : List ℕ
  pub values : Values
  pub default : Option (List ℕ)

abbrev pub row : String → String → Values → Row
row section key values = record { section = codes section; key = codes key; values = values; default = None }

-- a row with a default
abbrev pub or : Row → String → Row
or r value = record r { default = Some (codes value) }

-- the table of keys
abbrev pub table : List Row
table =
    or (row "server" "listen_address" Listening) "*:30343" ∷
    row "relay" "relay_host" Upstream ∷
    or (row "relay" "store_first" Truth) "false" ∷
    or (row "iolog" "iolog_dir" Path) "/var/log/sudo-io" ∷
    or (row "iolog" "iolog_file" Sequence) "%{seq}" ∷
    or (row "iolog" "log_passwords" Truth) "true" ∷
    or (row "iolog" "prompts" Texts) "assword:,assword for" ∷
    or (row "eventlog" "log_format" Format) "sudo" ∷
    or (row "eventlog" "log_exit" Truth) "false" ∷
    or (row "logfile" "path" Path) "/var/log/sudo.log" ∷ []

-- whether a row has these names, without regard to the case of ASCII letters
abbrev pub has_names : List ℕ → List ℕ → Row → Bool
has_names section key r = str_eq_ignore_ascii_case section r.section && str_eq_ignore_ascii_case key r.key

-- the row of these names, where the key is known
abbrev pub row_of : List ℕ → List ℕ → Option Row
row_of section key = find (has_names section key) table
