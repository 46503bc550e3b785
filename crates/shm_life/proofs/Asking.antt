-- What holds of each answer to shmget. Also how a fact follows from both branches of a test (`pick`, `pick_by`), and `is-zero`.
use Rattle.shm_life.proofs.Names.{◌≡◌, ◌≢◌, ◌⊎◌, ◌≤◌, ◌+◌, ◌==◌, ℕ, Bool, true, false, not, nat_le, nat_lt, pos, List, Option, Some, None, if◌then◌else◌, inl, inr, refl, sym, ap, subst, arith, not-false, common_steps, within, Caller, Outcome, gives, refuses, Look, Found, Removed, Invalid, destroyed_at, find_key, free_index, identifier, with_segment, grants, wish_of, reserved, segment_count, slots, Entry, Machine, Segment, pages_of, creates, creates_at, creates_small, gets, huge_errno, new_segment, shmget, wants_creation, wants_no_other, Id, Errno, Eacces, Eexist, Einval, Enoent, Enomem, Enospc, Esrch, GetFlags}

pub pick : (P : Outcome → Type 0) (b : Bool) (o p : Outcome) → P o → P p → P (if b then o else p)
pick P true o p h k = h
pick P false o p h k = k

pub pick_by : (P : Outcome → Type 0) (b : Bool) (o p : Outcome) → (b ≡ true → P o) → (b ≡ false → P p) → P (if b then o else p)
pick_by P true o p h k = h refl
pick_by P false o p h k = k refl

-- no segment has the key
abbrev pub IsFree : List Entry → ℕ → Type 0
IsFree t key = (i : ℕ) (x : Segment) → find_key t key ≡ Found i x → ⊥

pub is-zero : (key : ℕ) → (key == 0) ≡ true → key ≡ 0
is-zero key h = grind (arith, common_steps)

not-zero : (key : ℕ) → (key == 0) ≡ false → key ≢ 0
not-zero key h same = grind (arith, common_steps)

within-low : (size most : ℕ) → not (within 1 most size) ≡ false → 1 ≤ size
within-low size most h = grind (arith, common_steps)

huge-other : (s : Machine) (c : Caller) (flags : GetFlags) → huge_errno s c flags ≢ Some Esrch
huge-other s c flags is = grind (arith, common_steps)

-- what holds of each refusal, of the segment that has the key, and of each new segment
module _ (s : Machine) (n : ℕ) (c : Caller) (size mode : ℕ) (P : ℕ → Outcome → Type 0)
    (refused : (key : ℕ) (e : Errno) → e ≢ Esrch → P key (refuses s e))
    (got : (key i : ℕ) (x : Segment) → key ≢ 0 → find_key s.table key ≡ Found i x → grants c.cred x.perm (wish_of s.limits.rules mode) ≡ true → P key (gives s (Id (pos (identifier i (destroyed_at s.table i))))))
    (made : (key i : ℕ) → (key ≡ 0) ⊎ IsFree s.table key → 1 ≤ size → free_index s.table ≡ Some i
    → P key (gives (record s { table = with_segment s.table i (new_segment n c key size mode) }) (Id (pos (identifier i (destroyed_at s.table i)))))) where
  at-index : (key : ℕ) → (key ≡ 0) ⊎ IsFree s.table key → 1 ≤ size → (o : Option ℕ) → free_index s.table ≡ o → P key (creates_at s n c key size mode o)
  at-index key free some None is = refused key Enospc (λ e. cc e)
  at-index key free some (Some i) is = pick (P key) (nat_lt (slots s.areas) (reserved s.table + pages_of size)) _ _ (refused key Enomem (λ e. cc e)) (made key i free some is)

  small : (key : ℕ) → (key ≡ 0) ⊎ IsFree s.table key → 1 ≤ size → (o : Option Errno) → o ≢ Some Esrch → P key (creates_small s n c key size mode o)
  small key free some (Some e) other = refused key e (λ same. other (ap (λ x. Some x) same))
  small key free some None other = pick (P key) (nat_le s.limits.shmmni (segment_count s.table)) _ _ (refused key Enospc (λ e. cc e)) (at-index key free some (free_index s.table) refl)

  created : (key : ℕ) (flags : GetFlags) → (key ≡ 0) ⊎ IsFree s.table key → P key (creates s n c key size mode flags)
  created key flags free =
      pick_by (P key) (not (within 1 s.limits.shmmax size)) _ _ (λ h. refused key Einval (λ e. cc e))
      (λ h. pick (P key) (nat_lt s.limits.shmall (reserved s.table + pages_of size)) _ _ (refused key Enospc (λ e. cc e))
      (small key free (within-low size s.limits.shmmax h) (huge_errno s c flags) (huge-other s c flags)))

  found : (key : ℕ) (flags : GetFlags) (l : Look) → key ≢ 0 → find_key s.table key ≡ l → P key (gets s n c key size mode flags l)
  found key flags (Found i x) named is =
      pick (P key) (wants_no_other flags) _ _ (refused key Eexist (λ e. cc e))
      (pick (P key) (nat_lt x.size size) _ _ (refused key Einval (λ e. cc e))
      (pick_by (P key) (not (grants c.cred x.perm (wish_of s.limits.rules mode))) _ _ (λ h. refused key Eacces (λ e. cc e))
      (λ h. got key i x named is (not-false (grants c.cred x.perm (wish_of s.limits.rules mode)) h))))
  found key flags Removed named is = pick (P key) (wants_creation flags) _ _ (created key flags (inr (λ i x other. cc (is, other)))) (refused key Enoent (λ e. cc e))
  found key flags Invalid named is = pick (P key) (wants_creation flags) _ _ (created key flags (inr (λ i x other. cc (is, other)))) (refused key Enoent (λ e. cc e))

  pub by-shmget : (key : ℕ) (flags : GetFlags) → P key (shmget s n c key size mode flags)
  by-shmget key flags =
      pick_by (P key) (key == 0) _ _ (λ h. subst (λ k. P k (creates s n c 0 size mode flags)) (sym (is-zero key h)) (created 0 flags (inl refl)))
      (λ h. found key flags (find_key s.table key) (not-zero key h) refl)
