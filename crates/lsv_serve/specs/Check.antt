-- What a run of `check` comes to.
use Rattle.std.specs.Prelude.{◌≡◌, ℕ, List, Option, None}
use Rattle.lsv_conf.specs.Lines.{first_refused}
use Rattle.lsv_serve.specs.Causes.{HasConfCause}
use Rattle.lsv_serve.specs.Program.{lines_in}
use Rattle.lsv_serve.specs.declared.status.Status.{Status}
use Rattle.lsv_serve.specs.declared.status.Status.TheVariants.{NoUpstream, Pending, Served, Usage, Conf, Store, ReadFault, WriteFault, PortFault, NoMem}

-- how a run of `check` ended, by the settings file as it was found: no line of it is refused, or its settings weren't read, and why
abbrev pub ChecksAs : (found : Option (List ℕ)) (faults faults' : ℕ) → Status → Type 0
ChecksAs found faults faults' Served = first_refused (lines_in found) ≡ None
ChecksAs found faults faults' (Conf line) = HasConfCause (lines_in found) faults faults' line
ChecksAs found faults faults' NoMem = Unit {0}
ChecksAs found faults faults' NoUpstream = ⊥
ChecksAs found faults faults' Usage = ⊥
ChecksAs found faults faults' (Store fault) = ⊥
ChecksAs found faults faults' ReadFault = ⊥
ChecksAs found faults faults' WriteFault = ⊥
ChecksAs found faults faults' PortFault = ⊥
ChecksAs found faults faults' (Pending left) = ⊥
