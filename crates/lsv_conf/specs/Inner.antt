-- What proofs alone need: no public clause cites it.
use Rattle.std.specs.Prelude.{◌≡◌, ℕ, List, [], ◌∷◌, ◌++◌, Option, Some, None, Bool, true, ◌&&◌, codes, map, length, nat_le, unwrap_or, if◌then◌else◌}
use Rattle.std.specs.List.{list_all}
use Rattle.std.specs.Option.{option_map_or}
use Rattle.std.specs.Char.{to_ascii_lowercase}
use Prim.Native.String.{String}
use Rattle.lsv_conf.specs.Lines as spec
use Rattle.std.specs.Str.{is_utf8, str_eq_ignore_ascii_case}
use Rattle.lsv_conf.specs.Lines.{Placed}
use Rattle.lsv_conf.specs.Settings.{Settings, is_true}
use Rattle.lsv_conf.specs.Values.{is_prompt, kind_of, prompts_of, with_port}
use Rattle.lsv_conf.specs.declared.row.Values.{Values}
use Rattle.lsv_conf.specs.declared.row.Values.TheVariants.{Listening, Upstream, Truth, Sequence, Format, Texts}
use Rattle.lsv_conf.specs.declared.row.Values.TheVariants as values
use Rattle.lsv_event.specs.declared.event.Kind.TheVariants.{Sudo}
use Rattle.lsv_conf.specs.declared.draft.Draft.{Draft}
use Rattle.lsv_conf.specs.declared.line.Line.{Line}
use Rattle.lsv_conf.specs.declared.line.Line.TheVariants.{Empty, Section, Setting, Bad}
use Rattle.lsv_conf.specs.declared.row.Key.{Key}
use Rattle.lsv_conf.specs.declared.row.Key.TheVariants.{ListenAddress, RelayHost, StoreFirst, IologDir, IologFile, LogPasswords, Prompts, LogFormat, LogExit, Path}

-- what a line of the program says
abbrev pub said : Line → spec.Line
said Empty = spec.Empty
said (Section name) = spec.Section name.now
said (Setting key value) = spec.Setting key.now value.now
said Bad = spec.Bad

-- whether these may be the prompts
abbrev pub are_prompts : List (List ℕ) → Bool
are_prompts prompts = nat_le (length prompts) 16 && list_all is_prompt prompts

-- the two names are these but for the case of ASCII letters
abbrev pub AreNames : String → String → List ℕ → List ℕ → Type 0
AreNames s k section key = (map to_ascii_lowercase section ≡ codes s) × (map to_ascii_lowercase key ≡ codes k)

-- the two names are those of a key
abbrev pub HasNames : Key → List ℕ → List ℕ → Type 0
HasNames ListenAddress = AreNames "server" "listen_address"
HasNames RelayHost = AreNames "relay" "relay_host"
HasNames StoreFirst = AreNames "relay" "store_first"
HasNames IologDir = AreNames "iolog" "iolog_dir"
HasNames IologFile = AreNames "iolog" "iolog_file"
HasNames LogPasswords = AreNames "iolog" "log_passwords"
HasNames Prompts = AreNames "iolog" "prompts"
HasNames LogFormat = AreNames "eventlog" "log_format"
HasNames LogExit = AreNames "eventlog" "log_exit"
HasNames Path = AreNames "logfile" "path"

-- what a key takes
abbrev pub values_of : Key → Values
values_of ListenAddress = Listening
values_of RelayHost = Upstream
values_of StoreFirst = Truth
values_of IologDir = values.Path
values_of IologFile = Sequence
values_of LogPasswords = Truth
values_of Prompts = Texts
values_of LogFormat = Format
values_of LogExit = Truth
values_of Path = values.Path

-- the settings with this value for a key
abbrev pub with_value : Key → List ℕ → Settings → Settings
with_value ListenAddress value s = record s { listen = with_port value }
with_value RelayHost value s = record s { relay_host = Some (with_port value) }
with_value StoreFirst value s = record s { store_first = is_true value }
with_value IologDir value s = record s { iolog_dir = value }
with_value IologFile value s = s
with_value LogPasswords value s = record s { log_passwords = is_true value }
with_value Prompts value s = record s { prompts = prompts_of value }
with_value LogFormat value s = record s { format = unwrap_or (kind_of value) Sudo }
with_value LogExit value s = record s { log_exit = is_true value }
with_value Path value s = record s { path = value }

-- the settings that a draft has
abbrev pub shown : Draft → Settings
shown d = record {
  listen = d.listen;
  relay_host = d.relay_host;
  store_first = d.store_first;
  iolog_dir = d.iolog_dir;
  log_passwords = d.log_passwords;
  format = d.format;
  log_exit = d.log_exit;
  path = d.path;
  notes = d.notes;
  prompts = d.prompts;
}

-- nothing is given for any key
abbrev pub nothing_given : List ℕ → List ℕ → Option (List ℕ)
nothing_given section key = None

-- a line in a text
abbrev pub at : ℕ → Option (List ℕ) → List ℕ → Placed
at number section bytes = record { number = number; section = section; line = spec.line_of bytes }

-- the same of what it is
abbrev pub placed_line : ℕ → Option (List ℕ) → spec.Line → Placed
placed_line number section line = record { number = number; section = section; line = line }

-- a setting in a text
abbrev pub placed_setting : ℕ → List ℕ → List ℕ → List ℕ → Placed
placed_setting number section key value = record { number = number; section = Some section; line = spec.Setting key value }

-- what is given, with one value more
abbrev pub with_given : List ℕ → List ℕ → List ℕ → (List ℕ → List ℕ → Option (List ℕ)) → List ℕ → List ℕ → Option (List ℕ)
with_given section key value given s k = if str_eq_ignore_ascii_case section s && str_eq_ignore_ascii_case key k then Some value else given s k

-- each text of the settings is UTF-8
pub record AreTexts (s : Settings) : Type 0 where
  pub listen : is_utf8 s.listen ≡ true
  pub relay_host : option_map_or is_utf8 s.relay_host true ≡ true
  pub iolog_dir : is_utf8 s.iolog_dir ≡ true
  pub path : is_utf8 s.path ≡ true
  pub notes : list_all (λ note. is_utf8 note.key) s.notes ≡ true
  pub prompts : list_all is_utf8 s.prompts ≡ true
