-- The layout of a tag, on any bytes. What stands past the end is taken for 0.
use Rattle.std.specs.Prelude.{ℕ, zero, suc, ◌+◌, ◌-◌, ◌*◌, ◌/◌, ◌%◌, ◌^◌, Bool, true, ◌&&◌, List, length, ◌==◌, nat_le, nat_lt, slice_index}
use Rattle.formats.specs.Limits.{most_field_bits, most_body_bits, most_depth}

-- two bytes, low byte first
abbrev pub pair_at : List ℕ → ℕ → ℕ
pair_at bs o = slice_index bs o + 256 * slice_index bs (o + 1)

abbrev pub tree_of : List ℕ → ℕ
tree_of bs = pair_at bs 0

abbrev pub count_of : List ℕ → ℕ
count_of bs = slice_index bs 2

-- where field i ends, in bits
abbrev pub end_at : List ℕ → ℕ → ℕ
end_at bs i = pair_at bs (3 + 2 * i)

-- where field i begins, in bits
abbrev pub begin_at : List ℕ → ℕ → ℕ
begin_at bs zero = 0
begin_at bs (suc i) = end_at bs i

-- the depth of the path field 2 * j
abbrev pub depth_at : List ℕ → ℕ → ℕ
depth_at bs j = pair_at bs (3 + 2 * count_of bs + 2 * j)

-- the least number that may stand as depth entry j
abbrev pub least_at : List ℕ → ℕ → ℕ
least_at bs zero = 0
least_at bs (suc j) = depth_at bs j + 1

-- where the body begins, in bytes
abbrev pub head_of : List ℕ → ℕ
head_of bs = 3 * count_of bs + 4

-- the bits of the body
abbrev pub bits_of : List ℕ → ℕ
bits_of bs = end_at bs (count_of bs - 1)

abbrev pub size_of : List ℕ → ℕ
size_of bs = head_of bs + (bits_of bs + 7) / 8

-- p holds of each number below n
abbrev pub all_below : (ℕ → Bool) → ℕ → Bool
all_below p zero = true
all_below p (suc n) = p n && all_below p n

-- an end e may follow an end b
abbrev pub end_step : ℕ → ℕ → Bool
end_step b e = nat_lt b e && (nat_le e (b + most_field_bits) && nat_le e most_body_bits)

-- a depth d that is to be at least m
abbrev pub depth_step : ℕ → ℕ → Bool
depth_step m d = nat_le m d && nat_le d most_depth

abbrev pub end_fine : List ℕ → ℕ → Bool
end_fine bs i = end_step (begin_at bs i) (end_at bs i)

abbrev pub ends_fine : List ℕ → ℕ → Bool
ends_fine bs n = all_below (end_fine bs) n

abbrev pub depth_fine : List ℕ → ℕ → Bool
depth_fine bs j = depth_step (least_at bs j) (depth_at bs j)

abbrev pub depths_fine : List ℕ → ℕ → Bool
depths_fine bs n = all_below (depth_fine bs) n

-- how many bits of the last byte are not of the body
abbrev pub spare_of : ℕ → ℕ
spare_of l = (l + 7) / 8 * 8 - l

-- what stands in the last byte's unused bits
abbrev pub spare_at : List ℕ → ℕ
spare_at bs = slice_index bs (length bs - 1) % 2 ^ spare_of (bits_of bs)

-- bit i of a row of bytes, the high bit of the first byte being bit 0
abbrev pub bit_at : List ℕ → ℕ → Bool
bit_at bs i = slice_index bs (i / 8) / 2 ^ (7 - i % 8) % 2 == 1
