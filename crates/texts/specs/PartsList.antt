-- A parts list: a text whose lines begin with a level.
use Rattle.std.specs.Prelude.{ℕ, zero, suc, Bool, cond, ◌||◌, List, [], ◌∷◌, length, take, Some, None, Option, ◌==◌, nat_le, slice_index}
use Rattle.std.specs.List.{prefix_len}
use Rattle.texts.specs.Lines.{line_of, after_line, without_return}
use Rattle.texts.specs.Numbers.{is_digit, number_of}

-- the greatest level
abbrev pub most_level : ℕ
most_level = 65535

-- a level ends with a space, a tab or the line
abbrev pub ends_level : List ℕ → ℕ → Bool
ends_level line i = nat_le (length line) i || (slice_index line i == 32 || slice_index line i == 9)

-- the level of a line: the digits that it begins with, if they end so, as a number
abbrev pub level_of : List ℕ → Option ℕ
level_of line = cond (ends_level line (prefix_len is_digit line)) (number_of most_level (take (prefix_len is_digit line) line)) None

-- the level of one line more, in front of those of the lines after it; an empty line has none
abbrev pub in_front : Option ℕ → Option (List ℕ) → Option (List ℕ)
in_front (Some l) (Some ls) = Some (l ∷ ls)
in_front (Some l) None = None
in_front None ls = None

abbrev pub line_then : List ℕ → Option (List ℕ) → Option (List ℕ)
line_then line ls = cond (length line == 0) ls (in_front (level_of line) ls)

-- the levels of the first k lines, or none where a line that is not empty has no level
abbrev pub levels_of : ℕ → List ℕ → Option (List ℕ)
levels_of zero text = Some []
levels_of (suc k) text = line_then (without_return (line_of text)) (levels_of k (after_line text))

-- the levels of a text, which has no more lines than bytes
abbrev pub list_levels : List ℕ → Option (List ℕ)
list_levels text = levels_of (length text) text
