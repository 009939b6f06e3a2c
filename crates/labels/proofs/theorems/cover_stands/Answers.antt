use Rattle.labels.proofs.Covering.{all_covers}
use Rattle.labels.proofs.Tags.{all_tag_covers}
use Rattle.labels.proofs.theorems.cover_stands.Goals as goal

pub returns : goal.returns
returns c = record { labels = all_covers; tags = all_tag_covers }
