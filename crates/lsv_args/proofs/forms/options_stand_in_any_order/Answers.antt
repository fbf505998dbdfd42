use Rattle.lsv_args.proofs.CheckForms.{check_asked, check_taken}
use Rattle.lsv_args.proofs.FormLemmas.{serve_asked, serve_taken}
use Rattle.lsv_args.proofs.OtherForms.{load_asked, load_taken, once_asked, once_taken}
use Rattle.lsv_args.proofs.RelayForms.{relay_asked, relay_taken}
use Rattle.lsv_args.proofs.forms.options_stand_in_any_order.Goals as goal

pub returns-clause-taken : goal.returns-clause-taken
returns-clause-taken c = serve_taken

pub returns-clause-asked : goal.returns-clause-asked
returns-clause-asked c = serve_asked

pub returns-clause-once_taken : goal.returns-clause-once_taken
returns-clause-once_taken c = once_taken

pub returns-clause-once_asked : goal.returns-clause-once_asked
returns-clause-once_asked c = once_asked

pub returns-clause-load_taken : goal.returns-clause-load_taken
returns-clause-load_taken c = load_taken

pub returns-clause-load_asked : goal.returns-clause-load_asked
returns-clause-load_asked c = load_asked

pub returns-clause-relay_taken : goal.returns-clause-relay_taken
returns-clause-relay_taken c = relay_taken

pub returns-clause-relay_asked : goal.returns-clause-relay_asked
returns-clause-relay_asked c = relay_asked

pub returns-clause-check_taken : goal.returns-clause-check_taken
returns-clause-check_taken c = check_taken

pub returns-clause-check_asked : goal.returns-clause-check_asked
returns-clause-check_asked c = check_asked
