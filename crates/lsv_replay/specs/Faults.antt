-- A fault of what a listing reads, as one of the listing.
use Rattle.std.specs.Prelude.{◌≡◌, Option, Some, None, Result, Ok, Err}
use Rattle.lsv_disk.specs.declared.file.Part.{Part}
use Rattle.lsv_disk.specs.declared.file.Part.TheVariants.{Slots}
use Rattle.lsv_iolog.specs.declared.fault.ViewFault.{ViewFault}
use Rattle.lsv_iolog.specs.declared.fault.ViewFault.TheVariants as views
use Rattle.lsv_seq.specs.declared.fault.SeqFault.{SeqFault}
use Rattle.lsv_seq.specs.declared.fault.SeqFault.TheVariants as seqs
use Rattle.lsv_replay.specs.declared.fault.ListFault.{ListFault}
use Rattle.lsv_replay.specs.declared.fault.ListFault.TheVariants.{Damaged, Disk, Screen, NoMem}

-- a fault of a number file
abbrev pub of_numbers : SeqFault → ListFault
of_numbers seqs.Disk = Disk
of_numbers (seqs.LanesDiffer kept asked) = Damaged Slots
of_numbers seqs.Damaged = Damaged Slots

-- the faults of number files: one is damaged, or a call failed
abbrev pub IsNumbersFault : ListFault → Type 0
IsNumbersFault (Damaged part) = part ≡ Slots
IsNumbersFault Disk = Unit {0}
IsNumbersFault Screen = ⊥
IsNumbersFault NoMem = ⊥

-- what a log that isn't opened is to a listing: a damaged one has its part
abbrev pub of_log : ViewFault → Result (Option Part) ListFault
of_log views.Absent = Ok None
of_log (views.Damaged part) = Ok (Some part)
of_log views.Disk = Err Disk
of_log views.NoMem = Err NoMem
