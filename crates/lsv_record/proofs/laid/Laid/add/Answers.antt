use Rattle.lsv_record.proofs.Layouts.{data_laid_on}
use Rattle.lsv_record.proofs.laid.Laid.add.Goals as goal

pub returns-else-is_err-clause-layout : goal.returns-else-is_err-clause-layout
returns-else-is_err-clause-layout c =
    data_laid_on _ _ c.add_data-added.result c.args.self.now c.add_data-added.new.self c.put_line.new.out c.in-Io.delay c.in-Io.stream c.in-Io.bytes c.args.r.now c.in-Io.is c.in_ok-put_line.ensures.ok c.add_data-added.ensures.timing (rw c.as_slice.ensures at c.add_data-added.ensures.streams)
