-- The line that parts of a text make.
use Rattle.lsv_seal.specs.declared.line.Line.{Line}
use Rattle.lsv_seal.specs.declared.line.Parts.{Parts}

abbrev pub line_in : Parts → Line
line_in p = record { number = p.number; time = p.time.now; digest = p.digest.now; value = p.value.now }
