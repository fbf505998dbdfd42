use Rattle.std.proofs.Common.{◌≡◌, get_or, set, sym, ap, ◌∙◌}
use Rattle.lsv_worker.specs.Worker.{conn_at}
use Rattle.lsv_worker.specs.declared.link.Link.{Link}
use Rattle.lsv_worker.proofs.Tables.{open_at, same_default}
use Rattle.lsv_worker.proofs.Taking.{own_conn, stands_took}
use Rattle.lsv_worker.proofs.Passing.{remain_here, remain_set, set_same}
use Rattle.lsv_worker.proofs.worker.take_at.Goals as goal

pub take-requires : goal.take-requires
take-requires g c =
    let old : Link = get_or c.args.links.now c.args.place c.index-links-place.result in
    let is : old ≡ get_or c.args.links.now c.args.place old = same_default c.args.links.now c.args.place c.index-links-place.result old c.requires.within in
    record { is_open = λ told live. let b = c.requires.at told in open_at b.1.set c.args.links.now (g.P.Port.state c.args.port.now) b.1.jobs b.1.replies c.args.place old c.requires.within is b.1.stands live }

pub returns-clause-took : goal.returns-clause-took
returns-clause-took g c = λ told set jobs replies to h.
    let old : Link = get_or c.args.links.now c.args.place c.index-links-place.result in
    let is : old ≡ get_or c.args.links.now c.args.place old = same_default c.args.links.now c.args.place c.index-links-place.result old c.requires.within in
    let own : c.args.reply.now.conn ≡ old.conn = to ∙ ap (conn_at set) (sym (c.requires.seq c.index-links-place.result)) ∙ sym (own_conn set c.args.links.now c.args.place old (g.P.Port.state c.args.port.now) jobs replies c.requires.within is h) in
    stands_took set c.args.links.now c.args.place old c.take.new.self (g.P.Port.state c.args.port.now) (g.P.Port.state c.take.new.port) jobs replies c.args.reply.now c.requires.within is own (c.take.ensures.takes told own) h

pub returns-clause-remains : goal.returns-clause-remains
returns-clause-remains g c =
    let old : Link = get_or c.args.links.now c.args.place c.index-links-place.result in
    let is : old ≡ get_or c.args.links.now c.args.place old = same_default c.args.links.now c.args.place c.index-links-place.result old c.requires.within in
    remain_set c.args.links.now c.args.links.now c.args.place old c.take.new.self c.requires.within is c.take.ensures.remains (remain_here c.args.links.now)

pub returns-clause-ignored : goal.returns-clause-ignored
returns-clause-ignored g c = λ body last there.
    let old : Link = get_or c.args.links.now c.args.place c.index-links-place.result in
    let is : old ≡ get_or c.args.links.now c.args.place old = same_default c.args.links.now c.args.place c.index-links-place.result old c.requires.within in
    let same = c.take.ensures.ignored body last (there c.index-links-place.result) in
    (ap (λ (l : Link). set c.args.links.now c.args.place l) same.0 ∙ set_same c.args.links.now c.args.place old c.requires.within is, same.1)
