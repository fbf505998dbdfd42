use Rattle.std.proofs.Common.{arith, replicate, ℕ}
use Rattle.lsv_disk.specs.Bytes.{bytes_of}
use Rattle.lsv_journal.proofs.Fronts.{seen_more, length_by}
use Rattle.lsv_journal.proofs.gates.more_entries.Goals as goal

pub returns-clause-more : goal.returns-clause-more
returns-clause-more g c told =
    let file = (g.D.Disk.view c.args.disk.now).reads c.args.f in
    seen_more c.args.size c.args.at c.args.total 4096 c.in_ok-count.count c.min-seen.result (bytes_of file) (replicate {A = ℕ} 4096 0) c.read_at.new.buf (length_by file c.args.total (c.requires.total told)) (omega (arith, c.requires.size)) (c.in_ok-count.ensures.count told) (c.in_ok-count.ensures.bytes told) c.min-seen.ensures c.front.result c.front.ensures.takes
