-- What an expression says of the head of a log, by cases.
use Rattle.std.specs.Prelude.{ℕ, ℤ, pos, ◌+ℤ◌, ◌*ℤ◌, ◌*◌, int_le, List, Option, Some, None, Bool, true, false, not, ◌&&◌, ◌||◌, option_map, codes}
use Rattle.std.specs.Option.{option_and_then, option_map_or}
use Rattle.std.specs.Str.{bytes_eq}
use Rattle.std.specs.Str.Lossy.{utf8_lossy}
use Rattle.lsv_base.specs.declared.time.TimeSpec.{TimeSpec}
use Rattle.lsv_info.specs.declared.times.Head.{Head}
use Rattle.lsv_info.specs.Info.{text_of}
use Rattle.lsv_event.specs.SudoLine.{command_text, terminal}
use Rattle.lsv_search.specs.declared.name.Name.{Name}
use Rattle.lsv_search.specs.declared.name.Name.TheVariants as names
use Rattle.lsv_search.specs.declared.test.Test.{Test}
use Rattle.lsv_search.specs.declared.test.Test.TheVariants.{Command, Cwd, FromDate, Group, Host, Runas, ToDate, Tty, User}
use Rattle.lsv_search.specs.Names.{name_in}
use Rattle.lsv_search.specs.Dates.{date_in}
use Rattle.lsv_search.specs.Patterns.{is_found}
use Rattle.lsv_search.specs.Grammar.{Expression, Alone, Or, Conjunction, Single, And, Beside, Factor, Not, Enclosed}
use Rattle.lsv_search.specs.Grammar as grammar

-- a time in nanoseconds
abbrev pub value_of : TimeSpec → ℤ
value_of time = time.sec *ℤ pos 1000000000 +ℤ time.nsec

-- a moment's seconds in nanoseconds
abbrev pub moment : ℕ → ℤ
moment seconds = pos (seconds * 1000000000)

-- there is a text, and it passes
abbrev pub has : (List ℕ → Bool) → Option (List ℕ) → Bool
has passes text = option_map_or passes text false

-- what a test says of a head; a missing text makes it false
abbrev pub says : Test → Head → Bool
says (Command pattern) head = has (λ text. is_found pattern (utf8_lossy text)) (command_text head.info)
says (Cwd word) head = has (λ text. bytes_eq text word) (text_of head.info (codes "submitcwd"))
says (Group word) head = has (λ text. bytes_eq text word) (text_of head.info (codes "rungroup"))
says (Host word) head = has (λ text. bytes_eq text word) (text_of head.info (codes "submithost"))
says (Runas word) head = has (λ text. bytes_eq text word) (text_of head.info (codes "runuser"))
says (Tty word) head = has (λ text. bytes_eq (terminal text) (terminal word)) (text_of head.info (codes "ttyname"))
says (User word) head = has (λ text. bytes_eq text word) (text_of head.info (codes "submituser"))
says (FromDate seconds) head = int_le (moment seconds) (value_of head.submit)
says (ToDate seconds) head = int_le (value_of head.submit) (moment seconds)

-- the test that a name and its argument are
abbrev pub test_of : Name → List ℕ → Option Test
test_of names.Command word = Some (Command word)
test_of names.Cwd word = Some (Cwd word)
test_of names.FromDate word = option_map FromDate (date_in word)
test_of names.Group word = Some (Group word)
test_of names.Host word = Some (Host word)
test_of names.Runas word = Some (Runas word)
test_of names.ToDate word = option_map ToDate (date_in word)
test_of names.Tty word = Some (Tty word)
test_of names.User word = Some (User word)

-- the test that a word and its argument are, by the name that the word stands for
abbrev pub test_in : List ℕ → List ℕ → Option Test
test_in word argument = option_and_then (λ name. test_of name argument) (name_in word)

-- what an expression says of a head
abbrev mutual
  pub holds : Expression → Head → Bool
  holds (Alone c) head = conjunction_holds c head
  holds (Or e c) head = holds e head || conjunction_holds c head

  pub conjunction_holds : Conjunction → Head → Bool
  conjunction_holds (Single f) head = factor_holds f head
  conjunction_holds (And c f) head = conjunction_holds c head && factor_holds f head
  conjunction_holds (Beside c f) head = conjunction_holds c head && factor_holds f head

  pub factor_holds : Factor → Head → Bool
  factor_holds (Not f) head = not (factor_holds f head)
  factor_holds (Enclosed e) head = holds e head
  factor_holds (grammar.Test name argument) head = option_map_or (λ test. says test head) (test_in name argument) false

-- a log of this head is searched for: each is, if there is no expression
abbrev pub matches : Option Expression → Head → Bool
matches None head = true
matches (Some e) head = holds e head
