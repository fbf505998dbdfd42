-- How a run ended, as the program reports it.
use Rattle.std.specs.Prelude.{ℕ, List, [], codes}
use Rattle.lsv_verdict.specs.declared.status.CheckStatus.{CheckStatus}
use Rattle.lsv_verdict.specs.declared.status.CheckStatus.TheVariants.{Sound, Usage, Damaged, ReadFault, WriteFault, NoMem}

-- the exit status of the program
abbrev pub number_of : CheckStatus → ℕ
number_of Sound = 0
number_of Usage = 2
number_of Damaged = 4
number_of ReadFault = 5
number_of WriteFault = 6
number_of NoMem = 9

-- what the program prints after its name
abbrev pub text_of : CheckStatus → List ℕ
text_of Sound = []
text_of Usage = codes "usage"
text_of Damaged = codes "damage found"
text_of ReadFault = codes "read fault"
text_of WriteFault = codes "write fault"
text_of NoMem = codes "out of memory"
