-- Why a run of `once` ended as it did.
use Rattle.lsv_defs.specs.Causes.{HasRisen}
use Rattle.lsv_lane.specs.Store.{HasStoreCause}
use Rattle.lsv_once.specs.declared.once.OnceEnd.{OnceEnd}
use Rattle.lsv_once.specs.declared.once.OnceEnd.TheVariants.{Served, ReadFault, WriteFault, Store, NoMem}
use Rattle.lsv_once.specs.World.{World}

-- why a run ended so: a read failed, or a write, or the store wasn't opened
abbrev pub HasOnceCause : (old new : World) → OnceEnd → Type 0
HasOnceCause old new Served = Unit {0}
HasOnceCause old new ReadFault = HasRisen old.wires.read_faults new.wires.read_faults
HasOnceCause old new WriteFault = HasRisen old.wires.write_faults new.wires.write_faults
HasOnceCause old new NoMem = Unit {0}
HasOnceCause old new (Store fault) = HasStoreCause old.disk_tells 0 1 old.disk new.disk fault
