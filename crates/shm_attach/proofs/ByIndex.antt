-- The keys of tables by segment index, through the changes of their list.
use Rattle.shm_attach.proofs.Names.{◌≡◌, ◌≢◌, ℕ, zero, suc, ◌%◌, ◌<◌, ◌≤◌, if◌then◌else◌, nat_eq, List, [], ◌∷◌, length, Option, Some, None, inl, inr, cases_eq, cases_lt, refl, sym, ap, ◌∙◌, arith, set, eq-eqb, ne_eqb, none-some, true≢false, IsSome, get_or-set_same, get_or-set_other}
use Rattle.shm_attach.specs.Keys.{AreInPlace, IsAt, entry_at, key_at, key_for}
use Rattle.shm_attach.specs.declared.keys.Keyed.{Keyed}

beyond : (es : List (Option Keyed)) (i : ℕ) → length es ≤ i → entry_at es i ≡ None
beyond [] i le = refl
beyond (e ∷ es) zero le = absurd (omega (arith, le))
beyond (e ∷ es) (suc i) le = beyond es i (omega (arith, le))

pub key-entry : (es : List (Option Keyed)) (id : ℕ) (o : Option Keyed) → entry_at es (id % 32768) ≡ o → key_at es id ≡ key_for id o
unfolding key_at
key-entry es id o at = ap (key_for id) at

pub key-same : (es fs : List (Option Keyed)) → ((i : ℕ) → entry_at fs i ≡ entry_at es i) → (id : ℕ) → key_at fs id ≡ key_at es id
unfolding key_at
key-same es fs same id = ap (key_for id) (same (id % 32768))

other : (e : Keyed) (id : ℕ) → e.seg ≢ id → key_for id (Some e) ≡ None
other e id ne = rw (ne_eqb e.seg id ne) refl

own : (e : Keyed) → key_for e.seg (Some e) ≡ Some e.key
own e = rw (eq-eqb e.seg e.seg refl) refl

-- WHO IS AT AN INDEX

abbrev IsAlone : List (Option Keyed) → ℕ → Type 0
IsAlone es seg = (id : ℕ) → id % 32768 ≡ seg % 32768 → id ≢ seg → key_at es id ≡ None

pub alone-none : (es : List (Option Keyed)) (seg : ℕ) → entry_at es (seg % 32768) ≡ None → IsAlone es seg
alone-none es seg at id same ne = key-entry es id None (rw same at)

pub alone-own : (es : List (Option Keyed)) (seg : ℕ) (e : Keyed) → entry_at es (seg % 32768) ≡ Some e → e.seg ≡ seg → IsAlone es seg
alone-own es seg e at is id same ne = key-entry es id (Some e) (rw same at) ∙ other e id (λ h. ne (sym h ∙ is))

pub alone-other : (es : List (Option Keyed)) (seg : ℕ) (e : Keyed) → AreInPlace es → entry_at es (seg % 32768) ≡ Some e → e.seg ≢ seg → IsAlone es seg → ⊥
alone-other es seg e placed at ne alone =
    let here : IsAt (seg % 32768) (Some e) = rw at at (placed (seg % 32768)) in
    let none = alone e.seg here ne in
    absurd (none-some e.key (sym none ∙ (key-entry es e.seg (Some e) (rw here at) ∙ own e)))

-- A KEY IS PUT OR REMOVED

pub put-key : (es : List (Option Keyed)) (seg key : ℕ) → seg % 32768 < length es → ((id : ℕ) → id % 32768 ≡ seg % 32768 → key_at es id ≡ None) → (id : ℕ)
    → key_at (set es (seg % 32768) (Some (record { seg = seg; key = key }))) id ≡ (if nat_eq seg id then Some key else key_at es id)
put-key es seg key lt free id =
    let e : Keyed = record { seg = seg; key = key } in
    elim (cases_eq (id % 32768) (seg % 32768)) [
      | inl same ↦
          let now = key-entry (set es (seg % 32768) (Some e)) id (Some e) (rw same (get_or-set_same es (seg % 32768) (Some e) None lt)) in
          rw (now, free id same) refl
      | inr ne ↦
          let now = key-entry (set es (seg % 32768) (Some e)) id (entry_at es (id % 32768)) (get_or-set_other es (seg % 32768) (id % 32768) (Some e) None ne) in
          let apart : seg ≢ id = λ h. ne (ap (λ (n : ℕ). n % 32768) (sym h)) in
          rw (ne_eqb seg id apart) (now ∙ sym (key-entry es id (entry_at es (id % 32768)) refl))
    ]

-- a segment with a key has an entry
there : (es : List (Option Keyed)) (seg : ℕ) (o : Option Keyed) → entry_at es (seg % 32768) ≡ o → IsSome (key_at es seg) → (id : ℕ) → id % 32768 ≡ seg % 32768 → seg ≢ id → key_at es id ≡ None
there es seg None at some id same ne = absurd (true≢false (sym (rw (key-entry es seg None at) at some)))
there es seg (Some e) at some id same ne = elim (cases_eq e.seg seg) [
  | inl is ↦ alone-own es seg e at is id same (λ h. ne (sym h))
  | inr other-seg ↦ absurd (true≢false (sym (rw (key-entry es seg (Some e) at, other e seg other-seg) at some)))
]

pub within : (es : List (Option Keyed)) (seg : ℕ) → IsSome (key_at es seg) → seg % 32768 < length es
within es seg some = elim (cases_lt (seg % 32768) (length es)) [
  | inl lt ↦ lt
  | inr le ↦ absurd (true≢false (sym (rw (key-entry es seg None (beyond es (seg % 32768) le)) at some)))
]

pub remove-key : (es : List (Option Keyed)) (seg : ℕ) → IsSome (key_at es seg) → (id : ℕ)
    → key_at (set es (seg % 32768) None) id ≡ (if nat_eq seg id then None else key_at es id)
remove-key es seg some id =
    elim (cases_eq (id % 32768) (seg % 32768)) [
      | inl same ↦
          let now = key-entry (set es (seg % 32768) None) id None (rw same (get_or-set_same es (seg % 32768) None None (within es seg some))) in
          elim (cases_eq seg id) [
            | inl is ↦ rw (now, eq-eqb seg id is) refl
            | inr ne ↦ rw (now, ne_eqb seg id ne) (sym (there es seg (entry_at es (seg % 32768)) refl some id same ne))
          ]
      | inr ne ↦
          let now = key-entry (set es (seg % 32768) None) id (entry_at es (id % 32768)) (get_or-set_other es (seg % 32768) (id % 32768) None None ne) in
          let apart : seg ≢ id = λ h. ne (ap (λ (n : ℕ). n % 32768) (sym h)) in
          rw (ne_eqb seg id apart) (now ∙ sym (key-entry es id (entry_at es (id % 32768)) refl))
    ]
