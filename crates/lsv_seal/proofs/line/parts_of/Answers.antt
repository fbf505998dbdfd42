-- Each way in which a text is no line's, and the line that it is.
use Rattle.std.proofs.Common.{◌∙◌, ◌++◌, ◌∷◌, ◌==◌, ℕ, List, [], ap, length, refl, sym}
use Rattle.std.proofs.lemmas.Bool.{eqb-true}
use Rattle.std.proofs.lemmas.List.{nil_from_length}
use Rattle.lsv_base.specs.LogNo.{digits_of}
use Rattle.lsv_seal.proofs.Lines.{digest_long, first_cut, fourth_cut, in_form, line_made, moment_long, no_test, number_read, second_cut, text_made, third_cut}
use Rattle.lsv_seal.proofs.line.parts_of.Goals as goal
use Rattle.lsv_seal.proofs.line.parts_of.Goals.{else-is_in_form-via-then-is_in_form+else-is_empty, else-is_in_form-via-else-is_in_form}

pub returns-in_err-digits-clause-none : goal.returns-in_err-digits-clause-none
returns-in_err-digits-clause-none c = λ none l is same.
    c.in_err-digits.ensures.none refl (digits_of l.number) (l.time ++ (32 ∷ (l.digest ++ (32 ∷ (l.value ++ 10 ∷ []))))) refl same

pub returns-in_err-time-clause-none : goal.returns-in_err-time-clause-none
returns-in_err-time-clause-none c = λ none l is same.
    let one = first_cut l is c.args.text.now same c.in_ok-digits.digits.now c.in_ok-digits.rest.now c.in_ok-digits.ensures.some.0 c.in_ok-digits.ensures.some.1 in
    c.in_err-time.ensures.none refl l.time (l.digest ++ (32 ∷ (l.value ++ 10 ∷ []))) (moment_long l.time is.time) one.1

pub returns-in_err-digest-clause-none : goal.returns-in_err-digest-clause-none
returns-in_err-digest-clause-none c = λ none l is same.
    let one = first_cut l is c.args.text.now same c.in_ok-digits.digits.now c.in_ok-digits.rest.now c.in_ok-digits.ensures.some.0 c.in_ok-digits.ensures.some.1 in
    let two = second_cut l is c.args.text.now same c.in_ok-digits.rest.now c.in_ok-time.time.now c.in_ok-time.rest.now one.1 c.in_ok-time.ensures.some.0 c.in_ok-time.ensures.some.1 in
    c.in_err-digest.ensures.none refl l.digest (l.value ++ 10 ∷ []) (digest_long l.digest is.digest) two.1

pub returns-in_err-value-clause-none : goal.returns-in_err-value-clause-none
returns-in_err-value-clause-none c = λ none l is same.
    let one = first_cut l is c.args.text.now same c.in_ok-digits.digits.now c.in_ok-digits.rest.now c.in_ok-digits.ensures.some.0 c.in_ok-digits.ensures.some.1 in
    let two = second_cut l is c.args.text.now same c.in_ok-digits.rest.now c.in_ok-time.time.now c.in_ok-time.rest.now one.1 c.in_ok-time.ensures.some.0 c.in_ok-time.ensures.some.1 in
    let three = third_cut l is c.args.text.now same c.in_ok-time.rest.now c.in_ok-digest.digest.now c.in_ok-digest.rest.now two.1 c.in_ok-digest.ensures.some.0 c.in_ok-digest.ensures.some.1 in
    c.in_err-value.ensures.none refl l.value [] (digest_long l.value is.value) three.1

pub returns-in_err-number-clause-none : goal.returns-in_err-number-clause-none
returns-in_err-number-clause-none c = λ none l is same.
    let one = first_cut l is c.args.text.now same c.in_ok-digits.digits.now c.in_ok-digits.rest.now c.in_ok-digits.ensures.some.0 c.in_ok-digits.ensures.some.1 in
    let read = number_read l is c.args.text.now same c.in_ok-digits.digits.now one.0 in
    let computed = c.in_err-number.ensures.computed in
    absurd (cc)

pub returns-clause-none : goal.returns-clause-none
returns-clause-none c = λ none l is same.
    let one = first_cut l is c.args.text.now same c.in_ok-digits.digits.now c.in_ok-digits.rest.now c.in_ok-digits.ensures.some.0 c.in_ok-digits.ensures.some.1 in
    let two = second_cut l is c.args.text.now same c.in_ok-digits.rest.now c.in_ok-time.time.now c.in_ok-time.rest.now one.1 c.in_ok-time.ensures.some.0 c.in_ok-time.ensures.some.1 in
    let three = third_cut l is c.args.text.now same c.in_ok-time.rest.now c.in_ok-digest.digest.now c.in_ok-digest.rest.now two.1 c.in_ok-digest.ensures.some.0 c.in_ok-digest.ensures.some.1 in
    let four = fourth_cut l is c.args.text.now same c.in_ok-digest.rest.now c.in_ok-value.value.now c.in_ok-value.rest.now three.1 c.in_ok-value.ensures.some.0 c.in_ok-value.ensures.some.1 in
    elim c.else-is_in_form.branch [
      | else-is_in_form-via-then-is_in_form+else-is_empty w ↦ no_test _ _ w.is_empty.ensures w.if-is_empty.false (ap (λ (l : List ℕ). length l == 0) four.1)
      | else-is_in_form-via-else-is_in_form w ↦
          no_test _ _ c.is_in_form.ensures w.if-is_in_form.false (in_form l is c.args.text.now same c.in_ok-time.time.now c.in_ok-digest.digest.now c.in_ok-value.value.now two.0 three.0 four.0)
    ]

pub returns-then-is_empty-clause-some : goal.returns-then-is_empty-clause-some
returns-then-is_empty-clause-some c =
    let none = nil_from_length c.in_ok-value.rest.now (eqb-true (length c.in_ok-value.rest.now) 0 (sym c.is_empty.ensures ∙ c.if-is_empty.true)) in (
      line_made c.in_ok-number.number c.in_ok-digits.digits.now c.in_ok-time.time.now c.in_ok-digest.digest.now c.in_ok-value.value.now c.args.text.now c.in_ok-digits.rest.now c.in_ok-time.rest.now c.in_ok-digest.rest.now c.in_ok-value.rest.now
          c.in_ok-number.ensures.computed (sym c.is_in_form.ensures ∙ c.if-is_in_form.true),
      text_made c.in_ok-number.number c.in_ok-digits.digits.now c.in_ok-time.time.now c.in_ok-digest.digest.now c.in_ok-value.value.now c.args.text.now c.in_ok-digits.rest.now c.in_ok-time.rest.now c.in_ok-digest.rest.now c.in_ok-value.rest.now
          c.in_ok-number.ensures.computed c.in_ok-digits.ensures.some.1 c.in_ok-time.ensures.some.1 c.in_ok-digest.ensures.some.1 c.in_ok-value.ensures.some.1 none,
    )
