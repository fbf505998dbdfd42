-- What the words of the program and its settings file ask for.
use Rattle.std.specs.Prelude.{◌≡◌, ℕ, List, [], Option, Some, None, IsTrue, unwrap_or, if◌then◌else◌}
use Rattle.std.specs.List.{list_all}
use Rattle.std.specs.Str.{is_utf8}
use Rattle.clap.specs.Words.{fault_of}
use Rattle.lsv_args.specs.Commands.{commands}
use Rattle.lsv_args.specs.Reading.{Asked, Once, Serve, Load, Relay, Check, asked}
use Rattle.lsv_conf.specs.Lines.{Placed, lines_of}
use Rattle.lsv_conf.specs.Settings.{settings_of}
use Rattle.lsv_conf.specs.Settings as conf
use Rattle.lsv_machine.specs.Machine.{Settings}
use Rattle.lsv_port.specs.Ledger.{Listening}
use Rattle.lsv_once.specs.Once.{once_settings}

-- the words ask for this: each is UTF-8, clap takes them, and this is what they say
pub record Asks (words : List (List ℕ)) (a : Asked) : Type 0 where
  pub text : IsTrue (list_all is_utf8 words)
  pub taken : fault_of commands words ≡ []
  pub is : asked words ≡ Some a

-- how many lanes' disks must be such as this server's runs leave
abbrev pub lanes_by : Asked → ℕ
lanes_by (Once o) = 1
lanes_by (Serve o) = o.lanes
lanes_by (Load o count) = 1
lanes_by (Relay o) = 0
lanes_by (Check o) = 0

-- the lines of a settings file that was found so: where there is none, they are those of an empty one
abbrev pub lines_in : Option (List ℕ) → List Placed
lines_in found = lines_of (unwrap_or found [])

-- what it sets
abbrev pub set_by : Option (List ℕ) → conf.Settings
set_by found = settings_of (lines_in found)

-- the settings of the machine: those of one lane, with the form of event lines and the lines of exits as they are set
abbrev pub machine_of : conf.Settings → Settings
machine_of set = once_settings set.format set.log_exit

-- the texts after which what is typed is masked: where passwords are stored as they are typed, none
abbrev pub prompts_of : conf.Settings → List (List ℕ)
prompts_of set = if set.log_passwords then [] else set.prompts

-- what each port is asked to listen on: the address that the settings name, with the number of --stop-after
abbrev pub listening_by : conf.Settings → (stop_after : Option ℕ) → Listening
listening_by set stop_after = record { address = set.listen; stop_after = stop_after }

-- the host to which logs are relayed: none if the settings name none, or don't ask for it
abbrev pub upstream_of : conf.Settings → Option (List ℕ)
upstream_of set = if set.store_first then set.relay_host else None

-- this holds of the settings file as it was found, which is as the texts tell it, where they tell
abbrev pub AsFound : (tells : Type 0) (file : List ℕ) (texts : List ℕ → Option (List ℕ)) (Holds : Option (List ℕ) → Type 0) → Type 0
AsFound tells file texts Holds = (found : Option (List ℕ)) × (tells → found ≡ texts file) × Holds found
