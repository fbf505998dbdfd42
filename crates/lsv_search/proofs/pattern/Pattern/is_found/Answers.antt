use Rattle.std.proofs.Common.{◌∙◌, ap, is_some, arith}
use Rattle.regex_hir.specs.Re.{Re}
use Rattle.regex_hir.specs.Find.{find_str}
use Rattle.lsv_search.specs.Patterns.{is_found}
use Rattle.lsv_search.proofs.Compiled.{compiled_is_found}
use Rattle.lsv_search.proofs.pattern.Pattern.is_found.Goals as goal

pub returns : goal.returns
returns c =
    c.is_match.ensures.found
    ∙ (ap (λ (re : Re). is_some (find_str re c.args.text.now 0)) c.in_ok-matcher.ensures.pattern
    ∙ (compiled_is_found c.self.inside.regex c.args.text.now c.self.invariant.1 c.self.invariant.0 (λ k. let fits = c.type_inv.text k in omega (arith, fits.fits)) ∙ ap (λ pattern. is_found pattern c.args.text.now) c.self.view_is))
