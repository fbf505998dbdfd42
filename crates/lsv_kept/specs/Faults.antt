-- The faults of keeping something.
use Rattle.lsv_bundle.specs.declared.fault.BundleFault.{BundleFault}
use Rattle.lsv_bundle.specs.declared.fault.BundleFault.TheVariants as faults

-- a device call failed, or one failed before, or memory ran out
abbrev pub IsCommitFault : BundleFault → Type 0
IsCommitFault faults.Disk = Unit {0}
IsCommitFault faults.Broken = Unit {0}
IsCommitFault faults.NoMem = Unit {0}
IsCommitFault (faults.Damaged part) = ⊥
IsCommitFault (faults.Full part) = ⊥
