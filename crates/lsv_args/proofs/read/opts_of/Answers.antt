use Rattle.std.proofs.Common.{◌∙◌, ℕ, Bor, List, Option, codes, ap, unwrap_or}
use Rattle.std.specs.Str.{is_utf8}
use Rattle.clap.specs.Words.{found_of}
use Rattle.clap.proofs.WalkLemmas.{first_value-rows}
use Rattle.std.proofs.lemmas.Str.{is_utf8-from_IsUtf8}
use Rattle.lsv_args.proofs.Parsed.{options_same, unwrapped}
use Rattle.lsv_args.proofs.read.opts_of.Goals as goal

pub invariant_of-result : goal.invariant_of-result
invariant_of-result c = record { conf_is_text = ap is_utf8 c.in_ok-of.ensures ∙ is_utf8-from_IsUtf8 c.as_bytes.result.now c.as_bytes.ensures.utf8 }

pub returns : goal.returns
returns c =
    options_same _ _ _ _ _ _ _ _
    (c.in_ok-of.ensures ∙ c.as_bytes.ensures.value ∙ ap (λ (b : Bor (List ℕ)). b.now) c.unwrap_or-conf.ensures ∙ unwrapped c.get_str.result _
    ∙ ap (λ (o : Option (List ℕ)). unwrap_or o (codes "/etc/sudo_logsrvd.conf")) (c.get_str.ensures ∙ first_value-rows (found_of c.args.found.now) (codes "conf")))
    (c.unwrap_or.ensures ∙ ap (λ (o : Option ℕ). unwrap_or o 1) c.number.ensures)
    (c.unwrap_or-2.ensures ∙ ap (λ (o : Option ℕ). unwrap_or o 4) c.number-2.ensures)
    c.number-3.ensures
