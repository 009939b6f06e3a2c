-- Lines of a text, which end with a line feed, with or without a carriage return before it.
use Rattle.std.specs.Prelude.{ℕ, ◌+◌, ◌-◌, Bool, cond, not, ◌&&◌, List, length, take, drop, ◌==◌, nat_lt, slice_index}
use Rattle.std.specs.List.{prefix_len}

-- the bytes '\n' and '\r'
abbrev pub feed : ℕ
feed = 10

abbrev pub carriage : ℕ
carriage = 13

-- the byte does not end a line
abbrev pub in_line : ℕ → Bool
in_line b = not (b == feed)

-- the bytes before the first line feed, or all
abbrev pub line_of : List ℕ → List ℕ
line_of bs = take (prefix_len in_line bs) bs

-- the bytes after the first line feed, or none
abbrev pub after_line : List ℕ → List ℕ
after_line bs = drop (prefix_len in_line bs + 1) bs

-- a line without the carriage return that it may end with
abbrev pub without_return : List ℕ → List ℕ
without_return bs = cond (nat_lt 0 (length bs) && slice_index bs (length bs - 1) == carriage) (take (length bs - 1) bs) bs
