-- The line is put, and the record is staged.
use Rattle.std.proofs.Common.{◌≡◌, ℕ, ◌+◌, List, ◌++◌, length, sym, ◌∙◌, ap, subst, rules, length-append}
use Rattle.lsv_disk.specs.declared.file.Part.TheVariants.{Timing}
use Rattle.lsv_bundle.specs.Value.{staged}
use Rattle.lsv_record.specs.Records.{line_of, delay_of}
use Rattle.lsv_iolog.specs.Room.{IsRoomFor}
use Rattle.lsv_iolog.specs.Value.{IoLogView}
use Rattle.lsv_iolog.specs.Represents.{Stages}
use Rattle.lsv_iolog.proofs.Staging.{one_more, one_more_invariant, one_more_stages}
use Rattle.lsv_iolog.proofs.log.IoLog.append.Goals as goal

pub invariant_of-self-2 : goal.invariant_of-self-2
invariant_of-self-2 c =
    let old : IoLogView = record { number = c.self.inside.number; head = c.self.inside.head; count = c.self.inside.count; elapsed = c.self.inside.elapsed; is_broken = c.self.inside.is_broken; bundle = c.self.inside.bundle } in
    let line : c.put_line.new.out ≡ line_of c.args.r.now = c.in_ok-put_line.ensures.ok ∙ ap (λ (xs : List ℕ). xs ++ line_of c.args.r.now) c.truncate.ensures in
    let is = c.in_ok-stage_record.ensures.staged in (
      one_more_invariant old c.stage_record.new.bundle c.put_line.new.out c.args.r.now c.nanos-self-inside.result c.self.invariant.0 line is c.in_ok-stage_record.ensures.room c.nanos-self-inside.ensures.small,
      ap length is.timing ∙ length-append (staged c.self.inside.bundle Timing) c.put_line.new.out ∙ ap (λ (k : ℕ). k + length c.put_line.new.out) c.self.invariant.1 ∙ ap (λ (xs : List ℕ). c.self.inside.staged_timing + length xs) (sym c.as_slice.ensures),
    )

pub returns-clause-staged : goal.returns-clause-staged
returns-clause-staged c =
    let old : IoLogView = record { number = c.self.inside.number; head = c.self.inside.head; count = c.self.inside.count; elapsed = c.self.inside.elapsed; is_broken = c.self.inside.is_broken; bundle = c.self.inside.bundle } in
    let line : c.put_line.new.out ≡ line_of c.args.r.now = c.in_ok-put_line.ensures.ok ∙ ap (λ (xs : List ℕ). xs ++ line_of c.args.r.now) c.truncate.ensures in
    let sum : c.nanos-self-inside.result ≡ c.args.self.now.elapsed + delay_of c.args.r.now = search rules in
    let time : c.nanos-self-inside.result ≡ old.elapsed + delay_of c.args.r.now = subst (λ (v : IoLogView). c.nanos-self-inside.result ≡ v.elapsed + delay_of c.args.r.now) (sym c.self.view_is) sum in
    subst (λ (v : IoLogView). Stages v c.args.r.now (one_more old c.stage_record.new.bundle c.nanos-self-inside.result)) c.self.view_is
    (one_more_stages old c.stage_record.new.bundle c.put_line.new.out c.args.r.now c.nanos-self-inside.result line c.in_ok-stage_record.ensures.staged c.in_ok-stage_record.ensures.room time c.nanos-self-inside.ensures.small)

pub returns-clause-room : goal.returns-clause-room
returns-clause-room c = (
  ap (λ (v : IoLogView). v.is_broken) (sym c.self.view_is) ∙ c.if-self.false,
  subst (λ (v : IoLogView). IsRoomFor v.bundle c.args.r.now) c.self.view_is c.in_ok-stage_record.ensures.room,
)
