use Rattle.lsv_search.proofs.Compiled.{compiled_is_pattern}
use Rattle.lsv_search.proofs.pattern.Pattern.new.Goals as goal

pub returns-in-Ok-clause-pattern : goal.returns-in-Ok-clause-pattern
returns-in-Ok-clause-pattern c = compiled_is_pattern c.in-Ok.regex _ c.in-Ok.ensures.source c.in-Ok.ensures.config c.in-Ok.ensures.read
