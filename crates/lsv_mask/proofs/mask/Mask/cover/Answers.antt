use Rattle.std.proofs.Common.{◌≡◌, ◌∙◌, ◌++◌, ◌∷◌, [], ap, length, refl, sym}
use Rattle.lsv_record.specs.Records.{shape_of}
use Rattle.lsv_record.specs.declared.records.Record.{Record}
use Rattle.lsv_record.specs.declared.records.Record.TheVariants.{Io}
use Rattle.lsv_record.specs.declared.records.Shaped.TheVariants as shapes
use Rattle.lsv_record.specs.declared.records.Stream.{Stream}
use Rattle.lsv_record.specs.declared.records.Stream.TheVariants.{Ttyin, Ttyout}
use Rattle.lsv_mask.specs.Masking.{covered, seen}
use Rattle.lsv_mask.proofs.Covers.{length_typed}
use Rattle.lsv_mask.proofs.Steps.{after_other, after_typed, after_output, after_stored, typed_covered, other_stream, other_record, IsOther}
use Rattle.lsv_mask.proofs.mask.Mask.cover.Goals as goal

pub returns-in-Ttyin-clause-mask : goal.returns-in-Ttyin-clause-mask
returns-in-Ttyin-clause-mask g c = λ texts rs e.
    let is : c.args.r.now ≡ Io c.in-Io.delay Ttyin c.in-Io.bytes = c.in-Io.is ∙ ap (λ (s : Stream). Io c.in-Io.delay s c.in-Io.bytes) c.in-Ttyin.is in
    after_typed c.args.self.now c.cover_typed.new.self c.in-Io.delay c.in-Io.bytes c.cover_typed.ensures.mask texts rs e ∙ ap (λ (r : Record). seen texts (rs ++ r ∷ [])) (sym is)

pub returns-in-Ttyin-clause-stored : goal.returns-in-Ttyin-clause-stored
returns-in-Ttyin-clause-stored g c = λ texts rs e.
    let same : Io c.in-Io.delay c.in-Io.stream c.cover_typed.new.bytes ≡ covered texts rs (Io c.in-Io.delay Ttyin c.in-Io.bytes) =
    ap (λ (s : Stream). Io c.in-Io.delay s c.cover_typed.new.bytes) c.in-Ttyin.is ∙ typed_covered c.args.self.now c.in-Io.delay c.in-Io.bytes c.cover_typed.new.bytes c.cover_typed.ensures.covered texts rs e in
    after_stored c.cover_typed.new.self texts rs (Io c.in-Io.delay Ttyin c.in-Io.bytes) _ (after_typed c.args.self.now c.cover_typed.new.self c.in-Io.delay c.in-Io.bytes c.cover_typed.ensures.mask texts rs e) same

pub returns-in-Ttyin-clause-shape : goal.returns-in-Ttyin-clause-shape
returns-in-Ttyin-clause-shape g c =
    ap (shapes.Io c.in-Io.delay c.in-Io.stream) (ap length c.cover_typed.ensures.covered ∙ length_typed c.args.self.now.is_hot c.in-Io.bytes) ∙ ap shape_of (sym c.in-Io.is)

pub returns-in-Ttyout-clause-mask : goal.returns-in-Ttyout-clause-mask
returns-in-Ttyout-clause-mask g c = λ texts rs e.
    let is : c.args.r.now ≡ Io c.in-Io.delay Ttyout c.as_slice.result.now = c.in-Io.is ∙ (ap (λ (s : Stream). Io c.in-Io.delay s c.in-Io.bytes) c.in-Ttyout.is ∙ ap (Io c.in-Io.delay Ttyout) (sym c.as_slice.ensures)) in
    after_output c.args.self.now c.see_output.new.self c.in-Io.delay c.as_slice.result.now c.see_output.ensures.none c.see_output.ensures.some texts rs e ∙ ap (λ (r : Record). seen texts (rs ++ r ∷ [])) (sym is)

pub returns-in-Ttyout-clause-stored : goal.returns-in-Ttyout-clause-stored
returns-in-Ttyout-clause-stored g c = λ texts rs e.
    let is : Io c.in-Io.delay c.in-Io.stream c.in-Io.bytes ≡ Io c.in-Io.delay Ttyout c.as_slice.result.now = ap (λ (s : Stream). Io c.in-Io.delay s c.in-Io.bytes) c.in-Ttyout.is ∙ ap (Io c.in-Io.delay Ttyout) (sym c.as_slice.ensures) in
    after_output c.args.self.now c.see_output.new.self c.in-Io.delay c.as_slice.result.now c.see_output.ensures.none c.see_output.ensures.some texts rs e ∙ ap (λ (r : Record). seen texts (rs ++ r ∷ [])) (sym is)

pub returns-in_default-stream : goal.returns-in_default-stream
returns-in_default-stream g c =
    let other : IsOther (Io c.in-Io.delay c.in-Io.stream c.in-Io.bytes) = other_stream c.in-Io.delay c.in-Io.stream c.in-Io.bytes c.in_default-stream.not-Ttyin c.in_default-stream.not-Ttyout in
    record {
      covered = λ texts rs e. sym (ap (covered texts rs) c.in-Io.is ∙ other.as_it_is texts rs);
      mask = λ texts rs e. after_other c.args.self.now _ other texts rs e ∙ ap (λ (r : Record). seen texts (rs ++ r ∷ [])) (sym c.in-Io.is);
      stored = after_other c.args.self.now _ other;
      shape = ap shape_of (sym c.in-Io.is);
    }

pub returns-in_default : goal.returns-in_default
returns-in_default g c =
    let other : IsOther c.args.r.now = other_record c.args.r.now c.in_default.not-Io in
    record {
      covered = λ texts rs e. sym (other.as_it_is texts rs);
      mask = after_other c.args.self.now c.args.r.now other;
      stored = after_other c.args.self.now c.args.r.now other;
      shape = refl;
    }
