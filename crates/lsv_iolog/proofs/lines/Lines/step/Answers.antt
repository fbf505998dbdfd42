-- What a step of the tally reads from the window stands in the text.
use Rattle.std.proofs.Common.{◌≡◌, ℕ, ◌+◌, ◌-◌, ◌≤◌, List, Option, Some, None, IfSome, Result, Err, length, take, drop, sym, ap, subst, inl, inr}
use Rattle.lsv_disk.specs.declared.file.Part.TheVariants.{Timing}
use Rattle.lsv_bundle.specs.Body.{length_of}
use Rattle.lsv_record.specs.declared.records.Shaped.{Shaped}
use Rattle.lsv_record.specs.declared.tally.TimingFault.{TimingFault}
use Rattle.lsv_record.specs.Lines.{IsWindow, IsLineAt}
use Rattle.lsv_iolog.specs.declared.fault.ViewFault.TheVariants as views
use Rattle.lsv_iolog.specs.Reading.{IsWindowOf}
use Rattle.lsv_iolog.specs.Inner.Scanning.{Scan, IsBadLine}
use Rattle.lsv_iolog.proofs.Windows.{window_rest, slice_rest}
use Rattle.lsv_iolog.proofs.Results.{given_timing, timing_is}
use Rattle.lsv_iolog.proofs.lines.Lines.step.Goals as goal

if_some_map : {X : Type 0} (o : Option X) (P Q : X → Type 0) → ((x : X) → P x → Q x) → IfSome o P → IfSome o Q
if_some_map (Some x) P Q f p = f x p
if_some_map None P Q f p = tt

pub returns-clause-line : goal.returns-clause-line
returns-clause-line c =
    let now : Scan = c.args.self.now in
    let was : Scan = record { view = c.self.inside.view; tally = c.self.inside.tally; start = c.self.inside.start; window = c.self.inside.window } in
    let from : ℕ = c.timing.result - c.self.inside.start in
    if_some_map c.in_ok-line.line
    (λ told. (text : List ℕ) → IsWindow text c.self.inside.tally.timing (take (length c.as_slice.result.now - from) (drop from c.as_slice.result.now)) c.is_last-is_last.result → IsLineAt text c.self.inside.tally.timing told c.step.new.self.timing)
    (λ told. (text : List ℕ) → IsWindowOf text now.start now.window now.tally.timing → length text ≤ length_of now.view.body Timing → IsLineAt text now.tally.timing told c.step.new.self.timing)
    (λ told stands text is short.
    let is_in : IsWindowOf text was.start was.window was.tally.timing = subst (λ (v : Scan). IsWindowOf text v.start v.window v.tally.timing) (sym c.self.view_is) is in
    let short_in : length text ≤ length_of was.view.body Timing = subst (λ (v : Scan). length text ≤ length_of v.view.body Timing) (sym c.self.view_is) short in
    let rest = window_rest text was.window was.start was.tally.timing (length_of was.view.body Timing) c.is_last-is_last.result is_in short_in
    (λ yes_. subst (λ (v : Scan). v.start + length v.window ≡ length_of v.view.body Timing) (sym c.self.view_is) (c.is_last-is_last.ensures.0 yes_)) in
    let at : IsWindow text was.tally.timing (take (length c.as_slice.result.now - from) (drop from c.as_slice.result.now)) c.is_last-is_last.result =
    subst (λ (xs : List ℕ). IsWindow text was.tally.timing xs c.is_last-is_last.result) (sym (slice_rest c.as_slice.result.now from)) (
    subst (λ (xs : List ℕ). IsWindow text was.tally.timing (drop from xs) c.is_last-is_last.result) (sym c.as_slice.ensures)
    (subst (λ (k : ℕ). IsWindow text was.tally.timing (drop (k - was.start) was.window) c.is_last-is_last.result) (sym c.timing.ensures) rest)) in
    subst (λ (v : Scan). IsLineAt text v.tally.timing told c.step.new.self.timing) c.self.view_is (stands text at))
    c.in_ok-line.ensures.line

pub returns-in_err-line-clause-bad : goal.returns-in_err-line-clause-bad
returns-in_err-line-clause-bad c is_damaged text is short =
    let now : Scan = c.args.self.now in
    let was : Scan = record { view = c.self.inside.view; tally = c.self.inside.tally; start = c.self.inside.start; window = c.self.inside.window } in
    let from : ℕ = c.timing.result - c.self.inside.start in
    let is_in : IsWindowOf text was.start was.window was.tally.timing = subst (λ (v : Scan). IsWindowOf text v.start v.window v.tally.timing) (sym c.self.view_is) is in
    let short_in : length text ≤ length_of was.view.body Timing = subst (λ (v : Scan). length text ≤ length_of v.view.body Timing) (sym c.self.view_is) short in
    let rest = window_rest text was.window was.start was.tally.timing (length_of was.view.body Timing) c.is_last-is_last.result is_in short_in
    (λ yes_. subst (λ (v : Scan). v.start + length v.window ≡ length_of v.view.body Timing) (sym c.self.view_is) (c.is_last-is_last.ensures.0 yes_)) in
    let at : IsWindow text was.tally.timing (take (length c.as_slice.result.now - from) (drop from c.as_slice.result.now)) c.is_last-is_last.result =
    subst (λ (xs : List ℕ). IsWindow text was.tally.timing xs c.is_last-is_last.result) (sym (slice_rest c.as_slice.result.now from)) (
    subst (λ (xs : List ℕ). IsWindow text was.tally.timing (drop from xs) c.is_last-is_last.result) (sym c.as_slice.ensures)
    (subst (λ (k : ℕ). IsWindow text was.tally.timing (drop (k - was.start) was.window) c.is_last-is_last.result) (sym c.timing.ensures) rest)) in
    let told : IsBadLine text was.tally = elim (timing_is c.in_err-line.field-0.0 (given_timing c.from_residual.result c.in_err-line.field-0.0 (views.Damaged Timing) c.from_residual.ensures.1 is_damaged)) [
      | inl bad ↦ inr (inl (c.in_err-line.ensures.bad (ap (λ (x : TimingFault). let y : Result (Option Shaped) TimingFault = Err x in y) bad) text at))
      | inr long ↦ inr (inr (c.in_err-line.ensures.too_long (ap (λ (x : TimingFault). let y : Result (Option Shaped) TimingFault = Err x in y) long) text at))
    ] in
    subst (λ (v : Scan). IsBadLine text v.tally) c.self.view_is told
