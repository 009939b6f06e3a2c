use Rattle.labels.proofs.Groups.{all_groups_cover}
use Rattle.labels.proofs.theorems.groups_stand.Goals as goal

pub returns : goal.returns
returns c = all_groups_cover
