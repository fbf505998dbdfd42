-- The faults of a log and of a view, and how one becomes the other.
use Rattle.std.specs.Prelude.{◌≡◌}
use Rattle.lsv_bundle.specs.declared.fault.BundleFault.{BundleFault}
use Rattle.lsv_bundle.specs.declared.fault.BundleFault.TheVariants as bundles
use Rattle.lsv_disk.specs.declared.file.Part.TheVariants.{Timing}
use Rattle.lsv_record.specs.declared.tally.TimingFault.{TimingFault}
use Rattle.lsv_record.specs.declared.tally.TimingFault.TheVariants as timing
use Rattle.lsv_iolog.specs.declared.fault.LogFault.{LogFault}
use Rattle.lsv_iolog.specs.declared.fault.LogFault.TheVariants as logs
use Rattle.lsv_iolog.specs.declared.fault.ViewFault.{ViewFault}
use Rattle.lsv_iolog.specs.declared.fault.ViewFault.TheVariants as views

-- the same fault, of the log
abbrev pub fault_of : BundleFault → LogFault
fault_of bundles.Disk = logs.Disk
fault_of bundles.Broken = logs.Broken
fault_of (bundles.Damaged part) = logs.Damaged part
fault_of (bundles.Full part) = logs.Full part
fault_of bundles.NoMem = logs.NoMem

-- the same fault of a view, of the log
abbrev pub of_view : ViewFault → LogFault
of_view views.Absent = logs.Absent
of_view (views.Damaged part) = logs.Damaged part
of_view views.Disk = logs.Disk
of_view views.NoMem = logs.NoMem

-- a fault of files that are viewed is this one of the view; no others come of viewing
abbrev pub IsOfFiles : BundleFault → ViewFault → Type 0
IsOfFiles bundles.Disk fault = fault ≡ views.Disk
IsOfFiles (bundles.Damaged part) fault = fault ≡ views.Damaged part
IsOfFiles bundles.NoMem fault = ⊥
IsOfFiles bundles.Broken fault = ⊥
IsOfFiles (bundles.Full part) fault = ⊥

-- a fault of a line of timing, of the view
abbrev pub fault_of_timing : TimingFault → ViewFault
fault_of_timing timing.NoMem = views.NoMem
fault_of_timing timing.BadLine = views.Damaged Timing
fault_of_timing timing.TooLong = views.Damaged Timing

-- the faults of a log that is opened
abbrev pub IsOpenFault : LogFault → Type 0
IsOpenFault logs.Absent = Unit {0}
IsOpenFault (logs.Damaged part) = Unit {0}
IsOpenFault logs.Disk = Unit {0}
IsOpenFault logs.NoMem = Unit {0}
IsOpenFault logs.Complete = ⊥
IsOpenFault (logs.NoPoint point) = ⊥
IsOpenFault logs.Broken = ⊥
IsOpenFault (logs.Full part) = ⊥
IsOpenFault (logs.TooLong point) = ⊥

-- the faults of reading the next record: a log that is viewed isn't absent
abbrev pub IsNextFault : ViewFault → Type 0
IsNextFault (views.Damaged part) = Unit {0}
IsNextFault views.Disk = Unit {0}
IsNextFault views.NoMem = Unit {0}
IsNextFault views.Absent = ⊥
