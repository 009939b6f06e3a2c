use Rattle.std.proofs.Common.{rules}
use Rattle.codes.proofs.Descents.{left_room, right_room}
use Rattle.codes.proofs.bisection.+descend.Goals as goal

pub descend-requires : goal.descend-requires
descend-requires t c = search (rules, left_room)

pub descend-requires-else-i-half : goal.descend-requires-else-i-half
descend-requires-else-i-half t c = search (rules, right_room)
