-- A cover can be cut out, and is no deeper than either label.
use Rattle.std.proofs.Common.{◌≡◌, ℕ, suc, ◌+◌, ◌%◌, ◌<◌, ◌≤◌, Bool, true, false, cond, not, ◌||◌, eqb, ltb, [], ◌∷◌, ◌++◌, length, take, Some, None, Option, sym, refl, ap, ◌∙◌, subst, ⊎_elim, arith}
use Rattle.std.proofs.lemmas.Bool.{cases_Bool, eqb-true, ltb-true, or_parts, not-false}
use Rattle.formats.specs.declared.answers.Side.{Side}
use Rattle.formats.specs.declared.answers.Side.TheVariants.{First, Second}
use Rattle.formats.specs.declared.answers.Part.{Part}
use Rattle.formats.specs.Label.{Word, Field, path, branch, Label, word_in, Chain}
use Rattle.formats.specs.Theorems.{Shared}
use Rattle.formats.specs.Pairs.{same_word, zero_first, begins, unlike, misplaced, first_apart, nth_field, two_depths, clash_at, clash, cover_at, cover, side_of, depth_in, last_depth}

-- depths
pub end_last : (xs : Label) (x : Field) → last_depth (xs ++ (x ∷ [])) ≡ depth_in x
unfolding last_depth
end_last [] x = refl
end_last (a ∷ []) x = refl
end_last (a ∷ b ∷ xs) x = end_last (b ∷ xs) x

end_up : (x y : Field) (l : Label) → last_depth l ≤ last_depth (x ∷ y ∷ l)
unfolding last_depth
end_up x y [] = omega arith
end_up x y (z ∷ l) = omega arith

end_down : (x : Field) (b : Word) (l : Label) → last_depth (x ∷ branch b ∷ l) ≤ last_depth l
unfolding last_depth
end_down x b [] = omega arith
end_down x b (z ∷ l) = omega arith

chain_end : (low : ℕ) (l : Label) → Chain low l → low ≤ last_depth l
unfolding last_depth
chain_end low [] h = absurd h
chain_end low (path w d ∷ []) h = h.1
chain_end low (path w d ∷ branch b ∷ l) h = let r = chain_end (suc d) l h.4 in let u = end_up (path w d) (branch b) l in let k = h.1 in omega arith
chain_end low (path w d ∷ path b e ∷ l) h = absurd h
chain_end low (branch w ∷ l) h = absurd h

first_end : (low : ℕ) (w : Word) (d : ℕ) (l : Label) → Chain low (path w d ∷ l) → d ≤ last_depth (path w d ∷ l)
unfolding last_depth
first_end low w d [] h = omega arith
first_end low w d (branch b ∷ l) h = let r = chain_end (suc d) l h.4 in let u = end_up (path w d) (branch b) l in omega arith
first_end low w d (path b e ∷ l) h = absurd h

-- one field more in front of both
abbrev bump : Part → Part
bump p = record { side = p.side; fields = suc p.fields }

cover_same : (x y : Field) (l m : Label) → same_word (word_in x) (word_in y) ≡ true → cover (x ∷ l) (y ∷ m) ≡ bump (cover l m)
unfolding cover first_apart nth_field
cover_same x y l m s = rw s (go (first_apart l m) (nth_field l (first_apart l m)) (nth_field m (first_apart l m)))
  where
    go : (j : ℕ) (p q : Option Field) → cover_at (suc (length l)) (suc (length m)) (suc j) p q ≡ bump (cover_at (length l) (length m) j p q)
    go j None q = refl
    go j (Some p) None = refl
    go j (Some (branch a)) (Some q) = refl
    go j (Some (path a d)) (Some q) = let z : suc j + 1 ≡ suc (j + 1) = omega arith in pick (zero_first a (word_in q)) z
      where
        pick : (t : Bool) {i : ℕ} {k : ℕ} → i ≡ suc k → cond {A = Part} t (record { side = First; fields = i }) (record { side = Second; fields = i }) ≡ bump (cond {A = Part} t (record { side = First; fields = k }) (record { side = Second; fields = k }))
        pick true e = λ t. record { side = First; fields = e t }
        pick false e = λ t. record { side = Second; fields = e t }

clash_same : (x y : Field) (l m : Label) → same_word (word_in x) (word_in y) ≡ true → clash (x ∷ l) (y ∷ m) ≡ false → (unlike x y ≡ false) × (clash l m ≡ false)
unfolding clash first_apart nth_field two_depths
clash_same x y l m s h =
    let e : clash (x ∷ l) (y ∷ m) ≡ ((unlike x y || two_depths (first_apart l m) l m) || clash_at (nth_field l (first_apart l m)) (nth_field m (first_apart l m))) = rw s refl in
    let p = or_parts _ _ (sym e ∙ h) in
    let q = or_parts _ _ p.0 in
    let r = p.1 in
    let z = q.1 in
    (q.0, λ t. z t || r t)

clash_apart : (x y : Field) (l m : Label) → same_word (word_in x) (word_in y) ≡ false → clash (x ∷ l) (y ∷ m) ≡ false → misplaced x y ≡ false
unfolding clash first_apart nth_field two_depths
clash_apart x y l m s h =
    let e : clash (x ∷ l) (y ∷ m) ≡ (begins (word_in x) (word_in y) || (begins (word_in y) (word_in x) || misplaced x y)) = rw s refl in
    let p = or_parts (begins (word_in x) (word_in y)) (begins (word_in y) (word_in x) || misplaced x y) (sym e ∙ h) in
    (or_parts (begins (word_in y) (word_in x)) (misplaced x y) p.1).1

cover_apart : (w v : Word) (d e : ℕ) (l m : Label) → same_word w v ≡ false → cover (path w d ∷ l) (path v e ∷ m) ≡ cond {A = Part} (zero_first w v) (record { side = First; fields = 1 }) (record { side = Second; fields = 1 })
unfolding cover first_apart nth_field
cover_apart w v d e l m s = rw s refl

cover_branch : (w v : Word) (l m : Label) → same_word w v ≡ false → cover (branch w ∷ l) (branch v ∷ m) ≡ record { side = First; fields = 0 }
unfolding cover first_apart nth_field
cover_branch w v l m s = rw s refl

cover_none : (m : Label) → cover [] m ≡ record { side = First; fields = 0 }
unfolding cover first_apart nth_field
cover_none m = refl

cover_none' : (x : Field) (l : Label) → cover (x ∷ l) [] ≡ record { side = Second; fields = 0 }
unfolding cover first_apart nth_field
cover_none' x l = refl

-- a cover of one path field, of the first or of the second
shared_first : (w : Word) (d : ℕ) (l m : Label) → d ≤ last_depth (path w d ∷ l) → d ≤ last_depth m → Shared (path w d ∷ l) m (record { side = First; fields = 1 })
unfolding last_depth
shared_first w d l m p q = record { odd = refl; within = omega arith; first = p; second = q }

shared_second : (v : Word) (e : ℕ) (l m : Label) → e ≤ last_depth l → e ≤ last_depth (path v e ∷ m) → Shared l (path v e ∷ m) (record { side = Second; fields = 1 })
unfolding last_depth
shared_second v e l m p q = record { odd = refl; within = omega arith; first = p; second = q }

in_order : (w v : Word) (d e : ℕ) → misplaced (path w d) (path v e) ≡ false → (t : Bool) → zero_first w v ≡ t → cond t (not (ltb d e)) (not (ltb e d)) ≡ false
in_order w v d e h t z = sym (ap (λ b. cond b (not (ltb d e)) (not (ltb e d))) z) ∙ h

shared_apart : (low : ℕ) (w v : Word) (d e : ℕ) (l m : Label) → Chain low (path w d ∷ l) → Chain low (path v e ∷ m) → misplaced (path w d) (path v e) ≡ false → (t : Bool) → zero_first w v ≡ t → Shared (path w d ∷ l) (path v e ∷ m) (cond {A = Part} t (record { side = First; fields = 1 }) (record { side = Second; fields = 1 }))
shared_apart low w v d e l m g h c true z =
    let k : d < e = ltb-true d e (not-false (ltb d e) (in_order w v d e c true z)) in
    let r = first_end low v e m h in
    shared_first w d l (path v e ∷ m) (first_end low w d l g) (omega arith)
shared_apart low w v d e l m g h c false z =
    let k : e < d = ltb-true e d (not-false (ltb e d) (in_order w v d e c false z)) in
    let r = first_end low w d l g in
    shared_second v e (path w d ∷ l) m (omega arith) (first_end low v e m h)

shared_more : (x y : Field) (b c : Word) (l m : Label) (p : Part) → Shared l m p → Shared (x ∷ branch b ∷ l) (y ∷ branch c ∷ m) (bump (bump p))
shared_more x y b c l m p g = go p.side p.fields g.odd g.within g.first g.second
  where
    go : (s : Side) (n : ℕ) → n % 2 ≡ 1 → n ≤ length (side_of s l m) → last_depth (take n (side_of s l m)) ≤ last_depth l → last_depth (take n (side_of s l m)) ≤ last_depth m → Shared (x ∷ branch b ∷ l) (y ∷ branch c ∷ m) (record { side = s; fields = suc (suc n) })
    go First n o w f k =
        let d = end_down x b (take n l) in
        let u = end_up x (branch b) l in
        let v = end_up y (branch c) m in
        record { odd = omega arith; within = omega arith; first = omega arith; second = omega arith }
    go Second n o w f k =
        let d = end_down y c (take n m) in
        let u = end_up x (branch b) l in
        let v = end_up y (branch c) m in
        record { odd = omega arith; within = omega arith; first = omega arith; second = omega arith }

alike : (w v : Word) (d e : ℕ) → unlike (path w d) (path v e) ≡ false → d ≡ e
alike w v d e h = eqb-true d e (not-false (eqb d e) h)

-- after the first path fields
split : (low : ℕ) (w v : Word) (d e : ℕ) (l m : Label) → Chain low (path w d ∷ l) → Chain low (path v e ∷ m) → clash (path w d ∷ l) (path v e ∷ m) ≡ false → (d ≡ e → clash l m ≡ false → Shared (path w d ∷ l) (path v e ∷ m) (bump (cover l m))) → Shared (path w d ∷ l) (path v e ∷ m) (cover (path w d ∷ l) (path v e ∷ m))
split low w v d e l m g h c more =
    ⊎_elim
    (λ s.
    let k = clash_same (path w d) (path v e) l m s c in
    subst (Shared (path w d ∷ l) (path v e ∷ m)) (sym (cover_same (path w d) (path v e) l m s)) (more (alike w v d e k.0) k.1))
    (λ s.
    subst (Shared (path w d ∷ l) (path v e ∷ m)) (sym (cover_apart w v d e l m s))
    (shared_apart low w v d e l m g h (clash_apart (path w d) (path v e) l m s c) (zero_first w v) refl))
    (cases_Bool (same_word w v))

pub shared : (low : ℕ) (l m : Label) → Chain low l → Chain low m → clash l m ≡ false → Shared l m (cover l m)
shared low [] m g h c = absurd g
shared low (branch w ∷ l) m g h c = absurd g
shared low (path w d ∷ path b f ∷ l) m g h c = absurd g
shared low (path w d ∷ []) [] g h c = absurd h
shared low (path w d ∷ []) (branch v ∷ m) g h c = absurd h
shared low (path w d ∷ []) (path v e ∷ m) g h c =
    split low w v d e [] m g h c
    (λ q k.
    let r = first_end low v e m h in
    subst (Shared (path w d ∷ []) (path v e ∷ m)) (sym (ap bump (cover_none m))) (shared_first w d [] (path v e ∷ m) (first_end low w d [] g) (omega arith)))
shared low (path w d ∷ branch b ∷ l) [] g h c = absurd h
shared low (path w d ∷ branch b ∷ l) (branch v ∷ m) g h c = absurd h
shared low (path w d ∷ branch b ∷ l) (path v e ∷ path f z ∷ m) g h c = absurd h
shared low (path w d ∷ branch b ∷ l) (path v e ∷ []) g h c =
    split low w v d e (branch b ∷ l) [] g h c
    (λ q k.
    let r = first_end low w d (branch b ∷ l) g in
    subst (Shared (path w d ∷ branch b ∷ l) (path v e ∷ [])) (sym (ap bump (cover_none' (branch b) l))) (shared_second v e (path w d ∷ branch b ∷ l) [] (omega arith) (first_end low v e [] h)))
shared low (path w d ∷ branch b ∷ l) (path v e ∷ branch f ∷ m) g h c =
    split low w v d e (branch b ∷ l) (branch f ∷ m) g h c
    (λ q k.
    ⊎_elim
    (λ s.
    let r = shared (suc d) l m g.4 (subst (λ n. Chain (suc n) m) (sym q) h.4) (clash_same (branch b) (branch f) l m s k).1 in
    subst (Shared (path w d ∷ branch b ∷ l) (path v e ∷ branch f ∷ m)) (sym (ap bump (cover_same (branch b) (branch f) l m s))) (shared_more (path w d) (path v e) b f l m (cover l m) r))
    (λ s.
    let r = first_end low v e (branch f ∷ m) h in
    subst (Shared (path w d ∷ branch b ∷ l) (path v e ∷ branch f ∷ m)) (sym (ap bump (cover_branch b f l m s))) (shared_first w d (branch b ∷ l) (path v e ∷ branch f ∷ m) (first_end low w d (branch b ∷ l) g) (omega arith)))
    (cases_Bool (same_word b f)))
