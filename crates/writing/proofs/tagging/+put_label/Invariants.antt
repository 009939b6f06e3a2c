use Rattle.writing.proofs.tagging.+put_label.Given as goal

abbrev pub decreases-put_label : goal.decreases-put_label
decreases-put_label g l = l.v
