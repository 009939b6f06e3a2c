-- The limits of the format, each in one place.
use Rattle.std.specs.Prelude.{ℕ}

-- the fields of a tag
abbrev pub most_fields : ℕ
most_fields = 63

-- the bits of one field
abbrev pub most_field_bits : ℕ
most_field_bits = 32

-- the bits of a body
abbrev pub most_body_bits : ℕ
most_body_bits = 1024

abbrev pub most_depth : ℕ
most_depth = 32766

abbrev pub most_number : ℕ
most_number = 65535

-- the bytes of a tag: 3 * 63 + 4 and 1,024 bits
abbrev pub most_tag_bytes : ℕ
most_tag_bytes = 321
