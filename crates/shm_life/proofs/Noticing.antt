-- What a table says of the segments that were destroyed.
use Rattle.shm_life.proofs.Names.{◌≡◌, ◌<◌, ◌≤◌, ◌/◌, ◌%◌, ◌^◌, ◌&&◌, ◌∙◌, ℕ, Bool, true, false, List, Some, None, Option, nat_lt, length, slice_get, refl, sym, ap, arith, inl, inr, cases_lt, nat_tests, common_steps, slice_get_past, Found, Invalid, Look, Removed, destroyed_at, destroyed_in, look, look_entry, look_segment, Entry, Segment, IsAllTold, is_untold, told_at, pos}

abbrev is_removed : Look → Bool
is_removed Removed = true
is_removed (Found i x) = false
is_removed Invalid = false

segment-there : (i : ℕ) (o : Option Segment) → is_removed (look_segment i o) ≡ false
segment-there i None = refl
segment-there i (Some x) = refl

entry-removed : (i sequence : ℕ) (o : Option Entry) → is_removed (look_entry i sequence o) ≡ nat_lt sequence (destroyed_in o)
entry-removed i sequence None = grind (arith, nat_tests)
entry-removed i sequence (Some e) = grind (arith, nat_tests, common_steps, segment-there i e.segment)

-- WHAT A HOST WAS TOLD

past-untold : (table : List Entry) (told : List ℕ) (i : ℕ) → length table ≤ i → is_untold table told i ≡ false
past-untold table told i over =
    let none : destroyed_at table i ≡ 0 = ap destroyed_in (slice_get_past table i over) in
    rw none (grind (arith, nat_tests))

-- what is false of a conjunction
not-both : (n sequence count : ℕ) → nat_lt n 65536 && nat_lt n count ≡ false → sequence < 65536 → nat_lt sequence count ≡ true → sequence < n
not-both n sequence count none low gone = grind (arith, nat_tests, none, low, gone)

told-low : (table : List Entry) (told : List ℕ) (seg : ℕ) → is_untold table told (seg % 32768) ≡ false → seg < 2 ^ 31 → look table (pos seg) ≡ Removed → seg / 32768 < told_at told (seg % 32768)
told-low table told seg none low removed =
    let gone : nat_lt (seg / 32768) (destroyed_at table (seg % 32768)) ≡ true =
    sym (entry-removed (seg % 32768) (seg / 32768) (slice_get table (seg % 32768))) ∙ ap is_removed removed in
    not-both (told_at told (seg % 32768)) (seg / 32768) (destroyed_at table (seg % 32768)) none (omega (arith, low)) gone

pub all-told : (table : List Entry) (told : List ℕ) → ((i : ℕ) → i < length table → is_untold table told i ≡ false) → IsAllTold table told
all-told table told none =
    let each : (i : ℕ) → is_untold table told i ≡ false = λ i. elim (cases_lt i (length table)) [
      | inl l ↦ none i l
      | inr n ↦ past-untold table told i (omega (arith, n))
    ] in
    record { none = each; all = λ seg low removed. told-low table told seg (each (seg % 32768)) low removed }
