-- Lists of bytes.
use Rattle.std.proofs.Common.{ℕ, zero, suc, ◌<◌, List, [], ◌∷◌, ◌++◌, arith}
use Rattle.std.proofs.lemmas.Grind.{common_steps}
use Rattle.std.proofs.lemmas.Bool.Decides.{nat_tests}
use Rattle.std.specs.List.{between}
use Rattle.formats.specs.Theorems.{Bytes}

pub bytes_append : (xs ys : List ℕ) → Bytes xs → Bytes ys → Bytes (xs ++ ys)
bytes_append xs ys p q i = grind (arith, nat_tests, common_steps)

pub bytes_between : (xs : List ℕ) (a e : ℕ) → Bytes xs → Bytes (between a e xs)
bytes_between xs a e p i = grind (arith, nat_tests, common_steps)

pub byte_one : (b : ℕ) → b < 256 → Bytes (b ∷ [])
byte_one b h zero = h
byte_one b h (suc i) = omega arith
