-- How a run ended, as the program tells it.
use Rattle.std.specs.Prelude.{ℕ, List, [], ◌++◌, codes}
use Rattle.std.specs.Fmt.{decimal}
use Rattle.lsv_serve.specs.declared.status.Status.{Status}
use Rattle.lsv_serve.specs.declared.status.Status.TheVariants.{NoUpstream, Pending, Served, Usage, Conf, Store, ReadFault, WriteFault, PortFault, NoMem}

-- the exit status of the program
abbrev pub number_of : Status → ℕ
number_of Served = 0
number_of Usage = 2
number_of (Conf line) = 3
number_of (Store fault) = 4
number_of ReadFault = 5
number_of WriteFault = 6
number_of PortFault = 7
number_of NoUpstream = 1
number_of (Pending left) = 8
number_of NoMem = 9

-- what the program prints after its name
abbrev pub text_of : Status → List ℕ
text_of Served = []
text_of Usage = codes "usage"
text_of (Conf line) = codes "settings line " ++ decimal line
text_of (Store fault) = codes "store"
text_of ReadFault = codes "read fault"
text_of WriteFault = codes "write fault"
text_of PortFault = codes "port fault"
text_of NoUpstream = codes "no upstream"
text_of (Pending left) = decimal left ++ codes " logs pending"
text_of NoMem = codes "out of memory"
