-- A segment with a piece exists.
use Rattle.shm_laws.proofs.Names.{rounded, ◌≡◌, ◌⊎◌, ℕ, suc, zero, ◌+◌, ◌*◌, ◌≤◌, List, [], ◌∷◌, map, Some, slice_set, refl, ap, subst, inl, inr, arith, common_steps, cases_eq, sum_by-cons, ProcessCall, Event, Process, Segment, Piece, Runner, Machine, Opening, start_of, runner_at_start, cut, pieces_of, attach_count, Caller, Outcome, caller_of, acts, pieces_with, IsMove, one_more, pieces_of-inserted, pieces_of-cut_cons, pieces_of-filter, Stands, IsDue, PiecesNameWhatStands, piece_for, pieces_beside, protected-none, caller-at, had-count}
use Rattle.shm_laws.proofs.Refusing.{by-move}
use Rattle.shm_laws.proofs.Handing.{Attaches, Hands, hands-acts, by-hands}
use Rattle.shm_laws.proofs.Stepping.{Moved, removed}
use Rattle.shm_laws.proofs.Fates.{IsMachineSound}
use Rattle.shm_laws.proofs.Removing.{just, stands-or-gone, same-runners}

-- COUNTS

-- no count rises by more than the pieces that one process gets
count-set : (rs : List Runner) (i : ℕ) (r : Runner) (id : ℕ) → attach_count (slice_set rs i r) id ≤ attach_count rs id + pieces_of id r.pieces
count-set [] i r id = omega arith
count-set (x ∷ xs) zero r id = grind (arith, common_steps, sum_by-cons)
count-set (x ∷ xs) (suc i) r id = grind (arith, common_steps, sum_by-cons, count-set xs i r id)

caller-count : (s : Machine) (pid : ℕ) (c : Caller) (id : ℕ) → caller_of s pid ≡ Some c → pieces_of id c.pieces ≤ attach_count s.runners id
caller-count s pid c id found = had-count s.runners c.index _ id (caller-at pid s.runners c found).there

-- a cut makes no first piece
cut-none : (id from to : ℕ) (ps : List Piece) → pieces_of id ps ≡ 0 → pieces_of id (cut from to ps) ≡ 0
cut-none id from to [] none = refl
cut-none id from to (p ∷ ps) none = grind (arith, common_steps, one_more, pieces_of-cut_cons, cut-none id from to ps)

-- EACH CALL

abbrev First : Machine → List Runner → Type 0
First s rs = (id : ℕ) → attach_count s.runners id ≡ 0 → (attach_count rs id ≡ 0) ⊎ ((x : Segment) × Stands s id x)

module _ (s : Machine) (c : Caller) (mine : (id : ℕ) → attach_count s.runners id ≡ 0 → pieces_of id c.pieces ≡ 0) where
  abbrev FirstIn : List Piece → Type 0
  FirstIn ps = (id : ℕ) → attach_count s.runners id ≡ 0 → (pieces_of id ps ≡ 0) ⊎ ((x : Segment) × Stands s id x)

  -- the process at an index gets pieces only of some segments that exist
  set-first : (i : ℕ) (r : Runner) → FirstIn r.pieces → First s (slice_set s.runners i r)
  set-first i r own id none = grind (arith, common_steps, count-set, arith)

  first-attaches : (call : ProcessCall) (o : Outcome) (k : Attaches s c call o) → FirstIn (pieces_with c k.flags k.place)
  first-attaches call o k id none =
      let left = cut-none id k.place.base (k.place.base + 4096 * k.place.pages) c.pieces (mine id none) in
      let more = pieces_of-inserted id (piece_for k.flags k.place) (pieces_beside c k.place) in
      elim (cases_eq k.place.seg id) [
        | inl h ↦ inr (k.there.segment, subst (λ n. Stands s n k.there.segment) h k.there.stands)
        | inr apart ↦ inl (grind (arith, common_steps, left, more))
      ]

  first-hands : (call : ProcessCall) (o : Outcome) → Hands s c call o → First s o.state.runners
  first-hands call o =
      by-hands s c call o (First s) (λ i r. FirstIn r.pieces) (λ id none. inl none) set-first (first-attaches call o)
      (λ k id none. inl (let le = pieces_of-filter id k.stays c.pieces in let z = mine id none in omega (arith, le, z)))
      (λ k id none. inl (mine id none))
      (λ k id none. inl (cut-none id k.addr (k.addr + rounded k.len) c.pieces (mine id none)))
      (λ k id none. inl (protected-none s.limits.most_pieces k.writable k.addr k.len id c.pieces (mine id none)))
      (λ k id none. inl (mine id none))

pub first-move : (s : Machine) (n : ℕ) (e : Event) (t : Machine) → IsMove s n e t → First s t.runners
first-move s n e t =
    by-move s n e t (λ r u. First s u.runners)
    (λ c is. first-hands s c (λ id none. let le = caller-count s e.pid c id is in omega (arith, le, none)) e.call (acts s n c e.call) (hands-acts s n c e.call))
    (λ r no id none. inl none)

-- ONE MOVE

-- what had pieces and was destroyed lost them
pub pieces-after : (s : Machine) (e : Event) (t : Machine) → IsMachineSound s → Moved s e t → PiecesNameWhatStands s → First s t.runners → PiecesNameWhatStands t
pieces-after s e t sound k all first id some =
    elim (cases_eq (attach_count s.runners id) 0) [
      | inl none ↦ elim (first id none) [ inl h ↦ absurd (omega (arith, h, some)) | inr h ↦ on h.0 h.1 ]
      | inr had ↦ (let x = all id (omega (arith, had)) in on x.0 x.1)
    ]
  where
    not_due : (x : Segment) → Stands s id x → IsDue s e t id x → ⊥
    not_due x stood (inr d) = omega (arith, some, d.after)
    not_due x stood (inl d) =
        let r : removed e.call e.reply ≡ Some id = rw (d.call, d.reply) refl in
        let same : attach_count t.runners id ≡ attach_count s.runners id = ap (λ rs. attach_count rs id) (same-runners s t e sound k id x stood r) in
        omega (arith, some, same, d.bare)

    on : (x : Segment) → Stands s id x → (y : Segment) × Stands t id y
    on x stood =
        elim (stands-or-gone s t e sound k id x stood) [
          | inl h ↦ (h.0, h.1)
          | inr gone ↦ absurd (not_due x stood (just s t e sound k id x stood gone))
        ]

none-start : (ps : List Process) (id : ℕ) → attach_count (map runner_at_start ps) id ≡ 0
none-start [] id = refl
none-start (p ∷ ps) id = grind (arith, common_steps, sum_by-cons, none-start ps id)

pub pieces-start : (o : Opening) → PiecesNameWhatStands (start_of o)
pieces-start o id some = absurd (let none = none-start o.processes id in omega (arith, some, none))
