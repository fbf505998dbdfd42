use Rattle.std.proofs.Common.{◌≡◌, ◌∙◌, ◌++◌, ◌∷◌, [], ap, sym}
use Rattle.lsv_record.specs.declared.records.Record.{Record}
use Rattle.lsv_record.specs.declared.records.Record.TheVariants.{Io}
use Rattle.lsv_record.specs.declared.records.Stream.{Stream}
use Rattle.lsv_record.specs.declared.records.Stream.TheVariants.{Ttyin, Ttyout}
use Rattle.lsv_mask.specs.Masking.{seen}
use Rattle.lsv_mask.proofs.Steps.{after_other, after_typed, after_output, other_stream, other_record}
use Rattle.lsv_mask.proofs.mask.Mask.see.Goals as goal

pub returns-in-Ttyin : goal.returns-in-Ttyin
returns-in-Ttyin g c = λ texts rs e.
    let is : c.args.r.now ≡ Io c.in-Io.delay Ttyin c.as_slice.result.now =
    c.in-Io.is ∙ (ap (λ (s : Stream). Io c.in-Io.delay s c.in-Io.bytes) c.in-Ttyin.is ∙ ap (Io c.in-Io.delay Ttyin) (sym c.as_slice.ensures)) in
    after_typed c.args.self.now c.see_typed.new.self c.in-Io.delay c.as_slice.result.now c.see_typed.ensures texts rs e ∙ ap (λ (r : Record). seen texts (rs ++ r ∷ [])) (sym is)

pub returns-in-Ttyout : goal.returns-in-Ttyout
returns-in-Ttyout g c = λ texts rs e.
    let is : c.args.r.now ≡ Io c.in-Io.delay Ttyout c.as_slice-in-Ttyout.result.now =
    c.in-Io.is ∙ (ap (λ (s : Stream). Io c.in-Io.delay s c.in-Io.bytes) c.in-Ttyout.is ∙ ap (Io c.in-Io.delay Ttyout) (sym c.as_slice-in-Ttyout.ensures)) in
    after_output c.args.self.now c.see_output.new.self c.in-Io.delay c.as_slice-in-Ttyout.result.now c.see_output.ensures.none c.see_output.ensures.some texts rs e ∙ ap (λ (r : Record). seen texts (rs ++ r ∷ [])) (sym is)

pub returns-in_default-stream : goal.returns-in_default-stream
returns-in_default-stream g c = λ texts rs e.
    after_other c.args.self.now _ (other_stream c.in-Io.delay c.in-Io.stream c.in-Io.bytes c.in_default-stream.not-Ttyin c.in_default-stream.not-Ttyout) texts rs e ∙ ap (λ (r : Record). seen texts (rs ++ r ∷ [])) (sym c.in-Io.is)

pub returns-in_default : goal.returns-in_default
returns-in_default g c = after_other c.args.self.now c.args.r.now (other_record c.args.r.now c.in_default.not-Io)
