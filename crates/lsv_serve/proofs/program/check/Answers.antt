use Rattle.std.proofs.Common.{refl, List, ℕ, Option}
use Rattle.lsv_serve.specs.Program.{lines_in}
use Rattle.lsv_serve.proofs.ProgramLemmas.{checks_unread, unread_file, unread_line}
use Rattle.lsv_serve.proofs.program.check.Goals as goal

pub returns-in-Err-clause-checks : goal.returns-in-Err-clause-checks
returns-in-Err-clause-checks g c =
    let found : Option (List ℕ) = g.T.Texts.texts c.args.texts.now c.args.opts.now.conf in
    let before = g.T.Texts.faults c.args.texts.now in
    let after = g.T.Texts.faults c.found_file.new.texts in
    (found, λ told. refl, checks_unread found before after c.in-Err.status (unread_file (lines_in found) before after c.in-Err.status c.in-Err.ensures.err))

pub returns-clause-checks : goal.returns-clause-checks
returns-clause-checks g c =
    let found : Option (List ℕ) = c.in-Ok.found in
    let before = g.T.Texts.faults c.args.texts.now in
    let after = g.T.Texts.faults c.found_file.new.texts in
    (found, λ told. c.in-Ok.ensures.ok told, checks_unread found before after c.in-Err-conf_in.status (unread_line (lines_in found) before after c.in-Err-conf_in.status c.in-Err-conf_in.ensures.err))

pub returns-in-Ok-conf_in-clause-checks : goal.returns-in-Ok-conf_in-clause-checks
returns-in-Ok-conf_in-clause-checks g c = (c.in-Ok.found, λ told. c.in-Ok.ensures.ok told, c.in-Ok-conf_in.ensures.none_refused)
