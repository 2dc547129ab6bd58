use Rattle.report.proofs.ReportLaws.{properties-read}
use Rattle.report.proofs.calls.properties_of.Goals as goal

pub returns : goal.returns
returns c = properties-read _ _ _ _ _ c.type_name.ensures c.read_table.ensures
