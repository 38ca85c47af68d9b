use Rattle.opening_lists.proofs.CsvSteps.{read_says}
use Rattle.opening_lists.proofs.csv_records.Records.read.Goals as goal

pub returns-clause-next : goal.returns-clause-next
returns-clause-next c =
    rw (← c.self.view_is) ((read_says c.self.inside.reader c.read_byte_record.new.self c.read_byte_record.result c.in-Ok.found _ c.self.invariant c.in-Ok.is c.read_byte_record.ensures.failed c.in-Ok.ensures.reads).0)

pub returns-clause-end : goal.returns-clause-end
returns-clause-end c =
    rw (← c.self.view_is) ((read_says c.self.inside.reader c.read_byte_record.new.self c.read_byte_record.result c.in-Ok.found _ c.self.invariant c.in-Ok.is c.read_byte_record.ensures.failed c.in-Ok.ensures.reads).1)
