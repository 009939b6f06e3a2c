use Rattle.labels.proofs.Computed.{table}
use Rattle.labels.proofs.theorems.table_stands.Goals as goal

pub returns : goal.returns
returns c = table
