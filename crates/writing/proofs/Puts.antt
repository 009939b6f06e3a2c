-- One write after another.
use Rattle.std.proofs.Common.{◌≡◌, ℕ, suc, ◌+◌, ◌-◌, ◌/◌, ◌%◌, ◌<◌, ◌≤◌, List, [], ◌∷◌, ◌++◌, length, get_or, take, drop, set, sym, refl, ap, ◌∙◌, subst, arith}
use Rattle.std.proofs.lemmas.List.{append_assoc, length-append, length-take-le, length-drop, take_at, drop_at, drop-drop, take-append-drop, set_split, set-get_or, get_or-append_right, get_or-drop, append-nil, drop_all}
use Rattle.std.specs.Int.{byte_at, to_le_bytes, w16, w32}
use Rattle.formats.specs.Models.{two}
use Rattle.labels.specs.Sheet.{four}
use borrow.Rule.Slice.PartMut.{put_mid}
use Rattle.writing.specs.Writes.{Wrote, put}

module _ {A : Type 0} where
  -- a write of a part is a `put`
  pub put_mid_lem : (a k : ℕ) (bs xs : List A) → length bs ≡ k → put_mid a k xs bs ≡ put a bs xs
  unfolding put
  put_mid_lem a k bs xs e = ap (λ zs. take a xs ++ (bs ++ zs)) (drop-drop k a xs ∙ ap (λ n. drop (a + n) xs) (sym e))

  pub length_put : (a : ℕ) (bs xs : List A) → a + length bs ≤ length xs → length (put a bs xs) ≡ length xs
  unfolding put
  length_put a bs xs h =
      let le : a ≤ length xs = omega arith in
      simp (length-append, length-take-le, length-drop) (omega arith)

  -- one write right after another
  put_put : (a b : ℕ) (bs cs xs : List A) → a + length bs ≤ length xs → b ≡ a + length bs → put b cs (put a bs xs) ≡ put a (bs ++ cs) xs
  unfolding put
  put_put a b bs cs xs h e =
      let le : a ≤ length xs = omega arith in
      let whole = sym (append_assoc (take a xs) bs (drop (a + length bs) xs)) in
      let len : length (take a xs ++ bs) ≡ b = simp (length-append, length-take-le) (omega arith) in
      let tk = ap (take b) whole ∙ take_at (take a xs ++ bs) (drop (a + length bs) xs) b len in
      let dp = ap (drop b) whole ∙ drop_at (take a xs ++ bs) (drop (a + length bs) xs) b len in
      let far : (a + length bs) + length cs ≡ a + length (bs ++ cs) = simp length-append (omega arith) in
      let dp2 = sym (drop-drop (length cs) b (put a bs xs)) ∙ ap (drop (length cs)) dp ∙ drop-drop (length cs) (a + length bs) xs ∙ ap (λ n. drop n xs) far in
      ap (λ zs. zs ++ (cs ++ drop (b + length cs) (put a bs xs))) tk ∙ ap (λ zs. (take a xs ++ bs) ++ (cs ++ zs)) dp2 ∙ simp append_assoc

  pub then : {a b : ℕ} {ws bs xs ys zs : List A} → Wrote a ws xs ys → Wrote b bs ys zs → b ≡ a + length ws → Wrote a (ws ++ bs) xs zs
  then {a} {b} {ws} {bs} {xs} {ys} {zs} p q e =
      let n : length ys ≡ length xs = ap length p.is ∙ length_put a ws xs p.room in
      record {
        room = simp length-append (omega (arith, q.room));
        is = q.is ∙ ap (put b bs) p.is ∙ put_put a b ws bs xs p.room e;
      }

  -- what lies past a write is as it was
  pub getD_past_write : {a : ℕ} {ws xs ys : List A} → Wrote a ws xs ys → (j : ℕ) (d : A) → a + length ws ≤ j → get_or ys j d ≡ get_or xs j d
  unfolding put
  getD_past_write {a} {ws} {xs} {ys} w j d le =
      let room = w.room in
      let la : a ≤ length xs = omega arith in
      let n : length (take a xs ++ ws) ≡ a + length ws = simp (length-append, length-take-le) refl in
      let e : (a + length ws) + (j - (a + length ws)) ≡ j = omega arith in
      ap (λ zs. get_or zs j d) (w.is ∙ sym (append_assoc (take a xs) ws (drop (a + length ws) xs)))
      ∙ get_or-append_right (take a xs ++ ws) (drop (a + length ws) xs) (a + length ws) j d n le
      ∙ get_or-drop (a + length ws) xs (j - (a + length ws)) d
      ∙ ap (λ k. get_or xs k d) e

  pub wrote_nil : (a : ℕ) (xs : List A) → a ≤ length xs → Wrote a [] xs xs
  unfolding put
  wrote_nil a xs le = record { room = omega arith; is = sym (ap (λ n. take a xs ++ drop n xs) (omega arith) ∙ take-append-drop a xs) }

  pub wrote_set : (j : ℕ) (b : A) (xs : List A) → j < length xs → Wrote j (b ∷ []) xs (set xs j b)
  unfolding put
  wrote_set j b xs lt =
      let e : suc j ≡ j + 1 = omega arith in
      record { room = omega arith; is = set_split xs j b lt ∙ ap (λ n. take j xs ++ b ∷ drop n xs) e }

  -- what stands there already
  pub wrote_same : (j : ℕ) (b d : A) (xs : List A) → j < length xs → get_or xs j d ≡ b → Wrote j (b ∷ []) xs xs
  wrote_same j b d xs lt e =
      subst (λ (zs : List A). Wrote j (b ∷ []) xs zs) (ap (set xs j) (sym e) ∙ set-get_or xs j d) (wrote_set j b xs lt)

  -- a row that is overwritten whole
  pub wrote_all : {bs xs ys : List A} → Wrote 0 bs xs ys → length xs ≡ length bs → ys ≡ bs
  unfolding put
  wrote_all {bs} {xs} {ys} w e = w.is ∙ ap (λ zs. bs ++ zs) (drop_all (0 + length bs) xs (omega arith)) ∙ append-nil bs

  -- the first part of a row written whole, and then some of the other
  pub wrote_both : (a : ℕ) (ws bs xs ys : List A) → length ws ≡ a → a ≤ length xs → Wrote 0 bs (drop a xs) ys → Wrote 0 (ws ++ bs) xs (ws ++ ys)
  unfolding put
  wrote_both a ws bs xs ys n le w =
      let far : a + (0 + length bs) ≡ 0 + length (ws ++ bs) = simp length-append (omega arith) in
      let room = w.room in
      record {
        room = simp length-append (omega (arith, length-drop a xs));
        is = ap (λ zs. ws ++ zs) (w.is ∙ ap (λ zs. bs ++ zs) (drop-drop (0 + length bs) a xs ∙ ap (λ k. drop k xs) far)) ∙ sym (append_assoc ws bs (drop (0 + length (ws ++ bs)) xs));
      }

  -- a part of a row that is overwritten whole
  pub wrote_part : (a k : ℕ) (bs xs ys : List A) → ys ≡ bs → length bs ≡ k → a + k ≤ length xs → Wrote a bs xs (put_mid a k xs ys)
  wrote_part a k bs xs ys e n le = record { room = omega arith; is = ap (put_mid a k xs) e ∙ put_mid_lem a k bs xs n }

-- ---- numbers as bytes

two_bytes : (x : ℕ) → x < 65536 → to_le_bytes w16 x ≡ two x
two_bytes x lt = let high : byte_at 1 x ≡ x / 256 = omega arith in ap (λ y. byte_at 0 x ∷ y ∷ []) high

pub wrote_two : {a : ℕ} {bs xs ys : List ℕ} (x : ℕ) → x < 65536 → bs ≡ to_le_bytes w16 x → Wrote a bs xs ys → Wrote a (two x) xs ys
wrote_two {a} {bs} {xs} {ys} x lt e w = subst (λ (cs : List ℕ). Wrote a cs xs ys) (e ∙ two_bytes x lt) w

four_bytes : (x : ℕ) → x < 4294967296 → to_le_bytes w32 x ≡ four x
four_bytes x lt =
    let e0 : byte_at 0 x ≡ x % 65536 % 256 = omega arith in
    let e1 : byte_at 1 x ≡ x % 65536 / 256 = omega arith in
    let e2 : byte_at 2 x ≡ x / 65536 % 256 = omega arith in
    let e3 : byte_at 3 x ≡ x / 65536 / 256 = omega arith in
    λ i. e0 i ∷ e1 i ∷ e2 i ∷ e3 i ∷ []

pub wrote_four : {a : ℕ} {bs xs ys : List ℕ} (x : ℕ) → x < 4294967296 → bs ≡ to_le_bytes w32 x → Wrote a bs xs ys → Wrote a (four x) xs ys
wrote_four {a} {bs} {xs} {ys} x lt e w = subst (λ (cs : List ℕ). Wrote a cs xs ys) (e ∙ four_bytes x lt) w
