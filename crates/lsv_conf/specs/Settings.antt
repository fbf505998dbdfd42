-- What the lines of a settings file set.
use Rattle.std.specs.Prelude.{ℕ, ◌-◌, ◌^◌, List, [], ◌∷◌, Option, Some, None, Bool, false, ◌&&◌, min, codes, unwrap_or, option_map, if◌then◌else◌}
use Rattle.std.specs.List.{filter_map}
use Rattle.std.specs.Option.{option_or, option_and_then}
use Rattle.std.specs.Str.{str_eq_ignore_ascii_case}
use Prim.Native.String.{String}
use Rattle.lsv_conf.specs.Lines.{Line, Empty, Section, Setting, Bad, Placed}
use Rattle.lsv_conf.specs.Table.{Row, row_of}
use Rattle.lsv_conf.specs.Values.{kind_of, prompts_of, truth_of, with_port}
use Rattle.lsv_event.specs.declared.event.Kind.{Kind}
use Rattle.lsv_event.specs.declared.event.Kind.TheVariants.{Sudo}
use Rattle.lsv_conf.specs.declared.conf.Note.{Note}
use Rattle.lsv_conf.specs.declared.conf.Conf.{Conf}

-- the value that a line gives the key of these names, where it gives one
abbrev pub value_by : List ℕ → List ℕ → Line → Option (List ℕ) → Option (List ℕ)
value_by section key Empty at = None
value_by section key (Section name) at = None
value_by section key Bad at = None
value_by section key (Setting k value) None = None
value_by section key (Setting k value) (Some name) = if str_eq_ignore_ascii_case name section && str_eq_ignore_ascii_case k key then Some value else None

-- the last value that the lines give a key
abbrev pub value_of : List Placed → List ℕ → List ℕ → Option (List ℕ)
value_of [] section key = None
value_of (p ∷ more) section key = option_or (value_of more section key) (value_by section key p.line p.section)

-- a line's number as it is told
abbrev pub told : ℕ → ℕ
told number = min number (2 ^ 32 - 1)

-- a note of a key, where no row of the table has it
abbrev pub noted : ℕ → List ℕ → Option Row → Option Note
noted number key None = Some (record { line = told number; key = key })
noted number key (Some r) = None

-- the note of a line whose key is passed over
abbrev pub note_by : ℕ → Line → Option (List ℕ) → Option Note
note_by number Empty at = None
note_by number (Section name) at = None
note_by number Bad at = None
note_by number (Setting key value) None = None
note_by number (Setting key value) (Some name) = noted number key (row_of name key)

-- the notes of all keys that are passed over, in order
abbrev pub notes_of : List Placed → List Note
notes_of lines = filter_map (λ p. note_by p.number p.line p.section) lines

-- the settings
pub record Settings : Type 0 where
  pub listen : List ℕ
  pub relay_host : Option (List ℕ)
  pub store_first : Bool
  pub iolog_dir : List ℕ
  pub log_passwords : Bool
  pub format : Kind
  pub log_exit : Bool
  pub path : List ℕ
  pub notes : List Note
  pub prompts : List (List ℕ)

-- the value that counts for a key of the table: the last one that is given, else its default, if it has one
abbrev pub counting : (List ℕ → List ℕ → Option (List ℕ)) → String → String → Option (List ℕ)
counting given section key = option_or (given (codes section) (codes key)) (option_and_then (λ r. r.default) (row_of (codes section) (codes key)))

-- the same where there is a default
abbrev pub text_in : (List ℕ → List ℕ → Option (List ℕ)) → String → String → List ℕ
text_in given section key = unwrap_or (counting given section key) []

-- whether a text is a truth value that says true
abbrev pub is_true : List ℕ → Bool
is_true value = unwrap_or (truth_of value) false

-- the settings by what is given for each key
abbrev pub settings_by : (List ℕ → List ℕ → Option (List ℕ)) → List Note → Settings
settings_by given notes = record {
  listen = with_port (text_in given "server" "listen_address");
  relay_host = option_map with_port (counting given "relay" "relay_host");
  store_first = is_true (text_in given "relay" "store_first");
  iolog_dir = text_in given "iolog" "iolog_dir";
  log_passwords = is_true (text_in given "iolog" "log_passwords");
  format = unwrap_or (kind_of (text_in given "eventlog" "log_format")) Sudo;
  log_exit = is_true (text_in given "eventlog" "log_exit");
  path = text_in given "logfile" "path";
  notes = notes;
  prompts = prompts_of (text_in given "iolog" "prompts");
}

-- what the lines set
abbrev pub settings_of : List Placed → Settings
settings_of lines = settings_by (value_of lines) (notes_of lines)

-- the settings that a value of the program has
abbrev pub settings_in : Conf → Settings
settings_in conf = record {
  listen = conf.listen;
  relay_host = conf.relay_host;
  store_first = conf.store_first;
  iolog_dir = conf.iolog_dir;
  log_passwords = conf.log_passwords;
  format = conf.format;
  log_exit = conf.log_exit;
  path = conf.path;
  notes = conf.notes;
  prompts = conf.prompts;
}
