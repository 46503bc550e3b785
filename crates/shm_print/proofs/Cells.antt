-- Texts that are padded to cells of a listing.
use Rattle.std.proofs.Common.{arith, ◌≡◌, ◌-◌, ◌/◌, ◌%◌, ◌^◌, ℕ, zero, suc, List, ◌∷◌, ◌++◌, refl, ap, length, append_assoc, length-append}
use Rattle.std.proofs.lemmas.List.{length-replicate}
use Rattle.std.proofs.lemmas.Bool.{le-ltb}
use Rattle.std.specs.Prelude.{ℤ, pos, negsuc, replicate, codes}
use Rattle.std.specs.Fmt.{decimal, signed_decimal, styled_decimal, styled_signed_decimal, padded_integral, format_spec, char_count, fill_text}
use Rattle.std.proofs.lemmas.Fmt.{decimal_digit}
use Rattle.shm_base.specs.declared.call.ShmidDs.{ShmidDs}
use Rattle.shm_print.specs.Listing.{cell, segment_line}
use Rattle.shm_print.specs.Text.{key_text, mode_text, status_text}
use lib.Utf8.{encode}

filled : (n : ℕ) → fill_text (format_spec 32 1 0 10 (2 ^ 64 - 1)) n ≡ replicate n 32
unfolding encode
filled zero = refl
filled (suc n) = ap (λ (t : List ℕ). 32 ∷ t) (filled n)

number-cell : (n : ℕ) → styled_decimal (format_spec 32 1 0 10 (2 ^ 64 - 1)) n ++ codes " " ≡ cell (decimal n)
unfolding padded_integral char_count
number-cell n =
    let lacks : 10 - length (decimal n) - 0 - 0 - 0 ≡ 10 - length (decimal n) = omega arith in
    rw (filled, append_assoc, lacks) refl

id-cell : (z : ℤ) → styled_signed_decimal (format_spec 32 1 0 10 (2 ^ 64 - 1)) z ++ codes " " ≡ cell (signed_decimal z)
unfolding padded_integral char_count
id-cell (pos n) = rw (le-ltb n 0 (omega arith)) (number-cell n)
id-cell (negsuc n) =
    let lacks : 10 - length (decimal (suc n)) - 1 - 0 - 0 ≡ 10 - suc (length (decimal (suc n))) = omega arith in
    rw (filled, lacks) (append_assoc (45 ∷ decimal (suc n)) _ _)

key-cell : (k : ℕ) → key_text k ++ codes " " ≡ cell (key_text k)
unfolding padded_integral char_count
key-cell k =
    let none : 10 - length (key_text k) ≡ 0 = simp (length-append, length-replicate) (omega arith) in
    rw none refl

mode-cell : (m : ℕ) → mode_text m ++ codes "        " ≡ cell (mode_text m)
mode-cell m = rw (decimal_digit (m / 64 % 8) (omega arith), decimal_digit (m / 8 % 8) (omega arith), decimal_digit (m % 8) (omega arith)) refl

joined : (a b c d e f s t end : List ℕ) {a' b' c' d' e' f' : List ℕ} → a ++ s ≡ a' → b ++ s ≡ b' → c ++ s ≡ c' → d ++ t ≡ d' → e ++ s ≡ e' → f ++ s ≡ f'
    → (a ++ (s ++ (b ++ (s ++ (c ++ (s ++ (d ++ t))))))) ++ (e ++ (s ++ (f ++ (s ++ end)))) ≡ a' ++ (b' ++ (c' ++ (d' ++ (e' ++ (f' ++ end)))))
joined a b c d e f s t end p q r u v w = rw (← p, ← q, ← r, ← u, ← v, ← w) (simp append_assoc refl)

-- the line as it is written, up to the cell of the mode
pub line_of_cells : (id held : ℤ) (shown : ShmidDs) (a b c d : _) (head : List ℕ) → held ≡ id → a ≡ format_spec 32 1 0 10 (2 ^ 64 - 1) → b ≡ format_spec 32 1 0 10 (2 ^ 64 - 1) → c ≡ format_spec 32 1 0 10 (2 ^ 64 - 1) → d ≡ format_spec 32 1 0 10 (2 ^ 64 - 1)
    → head ≡ key_text shown.key ++ (codes " " ++ (styled_signed_decimal a held ++ (codes " " ++ (styled_decimal b shown.perm.uid ++ (codes " " ++ (mode_text shown.perm.mode ++ codes "        "))))))
    → head ++ (styled_decimal c shown.size ++ (codes " " ++ (styled_decimal d shown.nattch ++ (codes " " ++ (status_text shown.status ++ codes "\n"))))) ≡ segment_line id shown
line_of_cells id held shown a b c d head same p q r t is =
    let number = styled_decimal (format_spec 32 1 0 10 (2 ^ 64 - 1)) in
    rw (is, same, p, q, r, t)
    (joined (key_text shown.key) (styled_signed_decimal (format_spec 32 1 0 10 (2 ^ 64 - 1)) id) (number shown.perm.uid) (mode_text shown.perm.mode) (number shown.size) (number shown.nattch) (codes " ") (codes "        ") (status_text shown.status ++ codes "\n")
    (key-cell shown.key) (id-cell id) (number-cell shown.perm.uid) (mode-cell shown.perm.mode) (number-cell shown.size) (number-cell shown.nattch))
