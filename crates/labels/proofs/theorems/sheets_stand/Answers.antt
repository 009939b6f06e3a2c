use Rattle.labels.proofs.Sheet.{all_sheets_hold}
use Rattle.labels.proofs.theorems.sheets_stand.Goals as goal

pub returns : goal.returns
returns c = all_sheets_hold
