-- The words of a line, cut off from left to right.
use Rattle.shm_text.proofs.Names.{common_steps, arith, ◌≡◌, ◌≤◌, ◌<◌, ◌+◌, ◌-◌, ◌++◌, ◌∙◌, ap, sym, refl, ℕ, List, [], ◌∷◌, zero, suc, true, false, Bool, length, take, drop, append_assoc, append-nil, length-drop, get_or, eqb, All, filter, not, ◌&&◌, list_all, slice_split_at, slice_split_none, take_all, take-append-drop, drop-drop, get_or-drop, drop-cons, add-one, All-more, list_all_more, nat_tests, is_allowed, is_space, words_of, with_word}

-- the front of a list may be taken before the whole is
pub take-take_append : {A : Type 0} → (n : ℕ) (xs ys : List A) → take n (take n xs ++ ys) ≡ take n (xs ++ ys)
take-take_append zero xs ys = refl
take-take_append (suc n) [] ys = refl
take-take_append (suc n) (x ∷ xs) ys = ap (λ l. x ∷ l) (take-take_append n xs ys)

-- a word ends at a space
pub words_of-cut : (w : List ℕ) (s : ℕ) (rest : List ℕ) → All (λ b. is_space b ≡ false) w → is_space s ≡ true → words_of (w ++ s ∷ rest) ≡ with_word w ++ words_of rest
words_of-cut w s rest inside space = grind (arith, common_steps, slice_split_at)

-- the last word ends at the line's end
pub words_of-last : (w : List ℕ) → All (λ b. is_space b ≡ false) w → words_of w ≡ with_word w
words_of-last w inside = ap (filter (λ w. not (eqb (length w) 0))) (slice_split_none is_space w inside)

with_none : (w : List ℕ) → eqb (length w) 0 ≡ true → with_word w ≡ []
with_none w e = rw e refl

pub kept_none : (found : List (List ℕ)) (w : List ℕ) → length found ≤ 8 → eqb (length w) 0 ≡ true → found ≡ take 8 (found ++ with_word w)
kept_none found w room none = rw (with_none w none, append-nil) (sym (take_all 8 found room))

below : (n : ℕ) → n ≤ 8 → eqb n 8 ≡ false → n < 8
below n fits not_full = grind (arith, nat_tests)

pub room_for : {A : Type 0} (found : List A) (texts : List (List ℕ)) → length texts ≡ length found → length found ≤ 8 → eqb (length found) 8 ≡ false → length texts < 8
room_for found texts same fits not_full = rw same (below (length found) fits not_full)

-- the line at a space, from where a word began
pub at_space : (line : List ℕ) (start at : ℕ) → start ≤ at → at < length line → drop start line ≡ take (at - start) (drop start line) ++ get_or line at 0 ∷ drop (at + 1) line
at_space line start at begun within =
    let k = at - start in
    let there : start + k ≡ at = omega arith in
    let rest : drop k (drop start line) ≡ get_or line at 0 ∷ drop (at + 1) line = rw (drop-drop, there, add-one) (drop-cons line at 0 within) in
    sym (take-append-drop k (drop start line)) ∙ ap (λ l. take k (drop start line) ++ l) rest

-- a space ends a word, which is kept
pub scanned : (line : List ℕ) (start at : ℕ) (found next : List (List ℕ)) → start ≤ at → at < length line → is_space (get_or line at 0) ≡ true
    → All (λ b. is_space b ≡ false) (take (at - start) (drop start line)) → take 8 (words_of line) ≡ take 8 (found ++ words_of (drop start line))
    → next ≡ take 8 (found ++ with_word (take (at - start) (drop start line))) → take 8 (words_of line) ≡ take 8 (next ++ words_of (drop (at + 1) line))
scanned line start at found next begun within space inside words kept =
    let w = take (at - start) (drop start line) in
    let rest = words_of (drop (at + 1) line) in
    let cut : words_of (drop start line) ≡ with_word w ++ rest = ap words_of (at_space line start at begun within) ∙ words_of-cut w (get_or line at 0) (drop (at + 1) line) inside space in
    words
    ∙ ap (λ l. take 8 (found ++ l)) cut
    ∙ ap (take 8) (sym (append_assoc found (with_word w) rest))
    ∙ sym (take-take_append 8 (found ++ with_word w) rest)
    ∙ ap (λ l. take 8 (l ++ rest)) (sym kept)

-- the last word ends where the line does
pub scanned_all : (line : List ℕ) (start at : ℕ) (found next : List (List ℕ)) → start ≤ at → length line ≤ at
    → All (λ b. is_space b ≡ false) (take (at - start) (drop start line)) → take 8 (words_of line) ≡ take 8 (found ++ words_of (drop start line))
    → next ≡ take 8 (found ++ with_word (take (length line - start) (drop start line))) → next ≡ take 8 (words_of line)
scanned_all line start at found next begun done inside words kept =
    let whole : take (at - start) (drop start line) ≡ drop start line = take_all (at - start) (drop start line) (omega (arith, length-drop start line)) in
    let rest : take (length line - start) (drop start line) ≡ drop start line = take_all (length line - start) (drop start line) (omega (arith, length-drop start line)) in
    kept ∙ ap (λ l. take 8 (found ++ l)) (ap with_word rest ∙ sym (words_of-last (drop start line) (rw whole at inside))) ∙ sym words

and_true : (a b : Bool) → b ≡ true → a ≡ (a && b)
and_true a b e = grind (arith, common_steps)

and_false : (a b : Bool) → b ≡ false → false ≡ (a && b)
and_false a b e = grind (arith, common_steps)

-- what the tests of a byte mean
pub of_word : (b : ℕ) → (is_allowed b && not (is_space b)) ≡ true → (is_allowed b ≡ true) × (is_space b ≡ false)
of_word b e = grind (arith, nat_tests)

pub of_space : (b : ℕ) → is_space b ≡ true → is_allowed b ≡ true
of_space b e = grind (arith, nat_tests)

pub of_neither : (b : ℕ) → (is_allowed b && not (is_space b)) ≡ false → is_space b ≡ false → is_allowed b ≡ false
of_neither b e space = grind (arith, nat_tests)

-- one more byte, which is not a space
pub more_inside : (line : List ℕ) (start at : ℕ) → start ≤ at → at < length line → is_space (get_or line at 0) ≡ false
    → All (λ b. is_space b ≡ false) (take (at - start) (drop start line)) → All (λ b. is_space b ≡ false) (take (at + 1 - start) (drop start line))
more_inside line start at begun within space inside =
    let n : at + 1 - start ≡ (at - start) + 1 = omega arith in
    let there : start + (at - start) ≡ at = omega arith in
    let last : is_space (get_or (drop start line) (at - start) 0) ≡ false = rw (get_or-drop, there) space in
    rw n (All-more (λ b. is_space b ≡ false) (drop start line) (at - start) 0 (omega (arith, length-drop start line)) inside last)

-- one more byte, allowed or not
pub more_allowed : (line : List ℕ) (at : ℕ) (allowed : Bool) → at < length line → is_allowed (get_or line at 0) ≡ true → allowed ≡ list_all is_allowed (take at line) → allowed ≡ list_all is_allowed (take (at + 1) line)
more_allowed line at allowed within here so_far = so_far ∙ and_true (list_all is_allowed (take at line)) (is_allowed (get_or line at 0)) here ∙ sym (list_all_more is_allowed line at 0 within)

pub not_allowed : (line : List ℕ) (at : ℕ) → at < length line → is_allowed (get_or line at 0) ≡ false → false ≡ list_all is_allowed (take (at + 1) line)
not_allowed line at within here = and_false (list_all is_allowed (take at line)) (is_allowed (get_or line at 0)) here ∙ sym (list_all_more is_allowed line at 0 within)

-- there is no byte between a place and itself
pub none_inside : (line : List ℕ) (at : ℕ) → All (λ b. is_space b ≡ false) (take (at - at) (drop at line))
none_inside line at = grind (arith, common_steps)
