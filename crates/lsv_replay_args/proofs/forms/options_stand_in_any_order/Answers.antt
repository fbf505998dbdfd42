use Rattle.lsv_replay_args.proofs.FormLemmas.{form_asked, form_follows, form_lists, form_only, form_plays, form_refused, form_taken}
use Rattle.lsv_replay_args.proofs.forms.options_stand_in_any_order.Goals as goal

pub returns-clause-taken : goal.returns-clause-taken
returns-clause-taken c = form_taken

pub returns-clause-asked : goal.returns-clause-asked
returns-clause-asked c = form_asked

pub returns-clause-plays : goal.returns-clause-plays
returns-clause-plays c = form_plays

pub returns-clause-follows : goal.returns-clause-follows
returns-clause-follows c = form_follows

pub returns-clause-lists : goal.returns-clause-lists
returns-clause-lists c = form_lists

pub returns-clause-refused : goal.returns-clause-refused
returns-clause-refused c = form_refused

pub returns-clause-only : goal.returns-clause-only
returns-clause-only c = form_only
