-- Writing over a part of a row.
use Rattle.std.specs.Prelude.{◌≡◌, ℕ, ◌+◌, ◌≤◌, List, ◌++◌, length, take, drop}

-- xs with bs written over it from a place on, and the rest as it was
unfoldable pub put : {A : Type 0} → ℕ → List A → List A → List A
put at bs xs = take at xs ++ (bs ++ drop (at + length bs) xs)

-- ys is xs with bs written over it from a place on, where there is room for them
pub record Wrote {A : Type 0} (at : ℕ) (bs xs ys : List A) : Type 0 where
  pub room : at + length bs ≤ length xs
  pub is : ys ≡ put at bs xs
