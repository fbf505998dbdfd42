use Rattle.std.proofs.Common.{◌≡◌, ◌∙◌, ◌≤◌, Ok, Option, Some, ap, option_map, sym, subst, rules}
use Rattle.lsv_conf.specs.Inner.{AreTexts, shown}
use Rattle.lsv_conf.specs.Lines.{first_refused, lines_of}
use Rattle.lsv_conf.specs.Refusals.{found_in, lines_in, refused_lines}
use Rattle.lsv_conf.specs.Settings.{told}
use Rattle.lsv_conf.specs.declared.refused.Refusals.{Refusals}
use Rattle.lsv_conf.specs.declared.refused.Refused.{Refused}
use Rattle.lsv_conf.proofs.Cuts.{left_less}
use Rattle.lsv_conf.proofs.Taking.{taking_end, taking_next, taking_refused, taking_start}
use Rattle.lsv_conf.proofs.Utf8.{settings_are_text}
use Rattle.lsv_conf.proofs.read.read_conf.Goals as goal

pub loop-rest-smaller : goal.loop-rest-smaller
loop-rest-smaller c = rw c.in-Some.is (left_less 10 c.in-Some.bytes.now c.cut.result.1 c.cut.ensures.behind)

pub loop-rest-init : goal.loop-rest-init
loop-rest-init c = taking_start c.args.text (shown c.in_ok-draft.draft) c.in_ok-draft.ensures

pub loop-rest-preserved : goal.loop-rest-preserved
loop-rest-preserved c =
    taking_next c.args.text.now (shown c.loop-rest.draft) (shown c.take_line.new.draft) (found_in c.loop-rest.refused) (found_in c.add.new.found) c.loop-rest.number c.saturating_add-number.result c.loop-rest.section c.section_after-section.result c.loop-rest.rest c.cut.result.1 c.in-Some.bytes c.cut.result.0.now c.in_ok-why.why
    c.in-Some.is c.cut.ensures.before c.cut.ensures.behind c.section_after-section.ensures c.in_ok-why.ensures.refused c.in_ok-add.ensures (search rules) (λ none. c.in_ok-why.ensures.settings (ap (λ (w : Option Refused). Ok w) none)) c.loop-rest.invariant

pub finish-requires : goal.finish-requires
finish-requires c =
    subst AreTexts (sym (taking_end c.args.text.now (shown c.loop-rest.draft) c.loop-rest.refused c.loop-rest.number c.loop-rest.section c.loop-rest.rest c.in-None.is c.in_default.is c.loop-rest.invariant).0) (settings_are_text c.args.text.now)

pub returns-in-None-clause-settings : goal.returns-in-None-clause-settings
returns-in-None-clause-settings c = c.finish.ensures ∙ (taking_end c.args.text.now (shown c.loop-rest.draft) c.loop-rest.refused c.loop-rest.number c.loop-rest.section c.loop-rest.rest c.in-None.is c.in_default.is c.loop-rest.invariant).0

pub returns-in-None-clause-none_refused : goal.returns-in-None-clause-none_refused
returns-in-None-clause-none_refused c = (taking_end c.args.text.now (shown c.loop-rest.draft) c.loop-rest.refused c.loop-rest.number c.loop-rest.section c.loop-rest.rest c.in-None.is c.in_default.is c.loop-rest.invariant).1

pub returns-in-Some-refused-clause-refused : goal.returns-in-Some-refused-clause-refused
returns-in-Some-refused-clause-refused c = λ refused is.
    let same : c.in-Some-refused.refused ≡ refused = cc in
    subst (λ (r : Refusals). option_map told (first_refused (lines_of c.args.text.now)) ≡ Some r.first.line) same
    (taking_refused c.args.text.now (shown c.loop-rest.draft) c.loop-rest.refused c.in-Some-refused.refused c.loop-rest.number c.loop-rest.section c.loop-rest.rest c.in-Some-refused.is c.in_default.is c.loop-rest.invariant).1

pub returns-in-Some-refused-clause-counted : goal.returns-in-Some-refused-clause-counted
returns-in-Some-refused-clause-counted c = λ refused is.
    let same : c.in-Some-refused.refused ≡ refused = cc in
    subst (λ (r : Refusals). 1 ≤ r.first.line) same
    (taking_refused c.args.text.now (shown c.loop-rest.draft) c.loop-rest.refused c.in-Some-refused.refused c.loop-rest.number c.loop-rest.section c.loop-rest.rest c.in-Some-refused.is c.in_default.is c.loop-rest.invariant).2

pub returns-in-Some-refused-clause-reasons : goal.returns-in-Some-refused-clause-reasons
returns-in-Some-refused-clause-reasons c = λ refused is.
    let same : c.in-Some-refused.refused ≡ refused = cc in
    subst (λ (r : Refusals). lines_in r ≡ refused_lines c.args.text.now) same
    (taking_refused c.args.text.now (shown c.loop-rest.draft) c.loop-rest.refused c.in-Some-refused.refused c.loop-rest.number c.loop-rest.section c.loop-rest.rest c.in-Some-refused.is c.in_default.is c.loop-rest.invariant).0
