-- What the words of the command line ask for, and when they are none.
use Rattle.std.specs.Prelude.{◌≡◌, ◌≢◌, ◌⊎◌, ℕ, List, [], Some, Ok, Err, IsTrue, false}
use Rattle.std.specs.List.{list_all}
use Rattle.std.specs.Str.{is_utf8}
use Rattle.clap.specs.Faults.{fault_of}
use Rattle.lsv_base.specs.LogNo.{log_no_in}
use Rattle.lsv_send_args.specs.Program.{program}
use Rattle.lsv_send_args.specs.Request.{Asked, Sending}
use Rattle.lsv_send_args.specs.Request as requests
use Rattle.lsv_send_args.specs.declared.fault.Unfit.{Unfit}

-- the words are no command: one isn't UTF-8, or clap refuses them, or a value or a pair of options is out of its form
abbrev pub IsUsage : List (List ℕ) → Type 0
IsUsage words = (list_all is_utf8 words ≡ false) ⊎ (fault_of program words ≢ []) ⊎ ((unfit : Unfit) × (requests.asked words ≡ Err unfit))

-- the words are a command, and ask for this
pub record Asks (words : List (List ℕ)) (asked : Asked) : Type 0 where
  pub text : IsTrue (list_all is_utf8 words)
  pub taken : fault_of program words ≡ []
  pub asks : requests.asked words ≡ Ok asked

-- the words ask to send this of the log of this number to this server
pub record AsksForLog (words : List (List ℕ)) (n : ℕ) (what : Sending) (server : List ℕ) : Type 0 where
  pub asked : Asked
  pub asks : Asks words asked
  pub number : log_no_in asked.number ≡ Some n
  pub what_is : asked.what ≡ what
  pub server_is : asked.server ≡ server
