use Rattle.labels.proofs.Covering.{all_relates}
use Rattle.labels.proofs.Tags.{all_tag_relates}
use Rattle.labels.proofs.theorems.relation_stands.Goals as goal

pub returns : goal.returns
returns c = record { labels = all_relates; tags = all_tag_relates }
