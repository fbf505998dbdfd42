-- The listing of the logs that the disk holds, if none is damaged.
use Rattle.std.specs.Prelude.{ℕ, suc, List, [], ◌∷◌, ◌++◌, length, Option, Some, None, Result, Ok, Err}
use Rattle.lsv_disk.specs.View.{Image}
use Rattle.lsv_info.specs.declared.fault.InfoFault.{InfoFault}
use Rattle.lsv_info.specs.declared.times.Head.{Head}
use Rattle.lsv_info.specs.Reading.{head_of}
use Rattle.lsv_iolog.specs.Recovered.{Replays}
use Rattle.lsv_play.specs.declared.screen.Item.{Item}
use Rattle.lsv_record.specs.Points.{Stored}
use Rattle.lsv_search.specs.Grammar.{Expression}
use Rattle.lsv_replay.specs.Listing.{There, line_if}

-- the disk holds these logs from 1 on, a log or none for each number; the last stands first
abbrev pub AreHeld : Image → List (Option Stored) → Type 0
AreHeld image [] = Unit {0}
AreHeld image (log ∷ before) = Replays image (suc (length before)) log × AreHeld image before

-- the line of a head that was read, if it is searched for
abbrev pub line_read : Option Expression → ℕ → Result Head InfoFault → List Item
line_read searched n (Ok head) = line_if searched n (There head)
line_read searched n (Err fault) = []

-- the line of a log that is stored and searched for
abbrev pub line_held : Option Expression → ℕ → Option Stored → List Item
line_held searched n None = []
line_held searched n (Some log) = line_read searched n (head_of log.head)

-- the lines of these logs, by rising number
abbrev pub listing_held : Option Expression → List (Option Stored) → List Item
listing_held searched [] = []
listing_held searched (log ∷ before) = listing_held searched before ++ line_held searched (suc (length before)) log
