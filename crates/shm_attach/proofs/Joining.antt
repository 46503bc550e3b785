-- Processes that join and leave keep the invariant.
use Rattle.shm_base.specs.Bounds.{within}
use Rattle.shm_attach.proofs.Names.{true, false, none-some, eq-eqb, ne_eqb, ◌≢◌, option_map, sum_by-set, Life, Live, Cred, Process, runner_at_start, with_life_at, caller_seen, IsCaller, All-nil, Piece, cases_Bool, sum_by-cons, get_or_from_slice_get, keys_of, ◌≡◌, ℕ, zero, suc, ◌+◌, ◌-◌, ◌<◌, ◌≤◌, nat_eq, ◌==◌, if◌then◌else◌, List, [], ◌∷◌, ◌++◌, length, get_or, set, take, Option, Some, None, slice_get, refl, ap, sym, ◌∙◌, subst, arith, common_steps, cases_eq, cases_lt, length-map, slice_get-map, length-take, length-set, get_or-map, get_or-take, map-set, slice_get-get_or, slice_get_within, sum_by-append, All, insert_entry, attach_count, pieces_of, bare_all, runner_view, runners_view, life_view, pieces_at, life_at, stored_in, HasTable, HaveRoom, AreTablesSound, no_reservations, is_live, Tables, Runner, sum_by-swap_remove, swap_remove, IfSome, slice_set, min, nat_le, Ok, take-map, get_or-set_other, get_or-set_at, slice_get_past, most_in, with_cred, Standing, standing, standing_from, joins, LAST_PID, MOST_PROCESSES, life_at_start, Caller, ◌⊎◌, inl, inr, position}
use Rattle.shm_base.specs.State as flat
use Rattle.shm_attach.proofs.Callers.{first, first-there, first-position, first-none, no_place, nobody, caller_there}
use Rattle.shm_attach.proofs.HavingTables.{pieces_at-bare, pieces_at-entry}
use Rattle.shm_attach.proofs.Keeping.{with_life_at-within}
use Rattle.shm_attach.proofs.Starts.{view-insert_entry}
use Rattle.shm_attach.proofs.Processes.{first_runner}

-- THE PROCESS WITH A PID

abbrev as_standing : ℕ → flat.Runner → Option Standing
as_standing i r = Some (record { index = i; runner = r })

standing-first : (n pid : ℕ) (rs : List flat.Runner) → standing_from n pid rs ≡ first as_standing n pid rs
standing-first n pid [] = refl
standing-first n pid (r ∷ rs) = ap (λ o. if r.pid == pid then as_standing n r else o) (standing-first (n + 1) pid rs)

-- its position
pub record IsThere (pid : ℕ) (rs : List flat.Runner) (x : Standing) : Type 0 where
  pub there : slice_get rs x.index ≡ Some x.runner
  pub named : x.runner.pid ≡ pid

pub there-found : (pid : ℕ) (rs : List flat.Runner) (x : Standing) → standing pid rs ≡ Some x → IsThere pid rs x
there-found pid rs x found =
    let t = first-there as_standing 0 pid rs x (sym (standing-first 0 pid rs) ∙ found) in
    let is : record { index = 0 + t.place; runner = t.runner } ≡ x = cc t.said in
    let at : 0 + t.place ≡ t.place = omega arith in
    record { there = ap (slice_get rs) (sym (ap (λ (s : Standing). s.index) is) ∙ at) ∙ t.there ∙ ap (λ (s : Standing). Some s.runner) is; named = ap (λ (s : Standing). s.runner.pid) (sym is) ∙ t.named }

pub standing-there : (pid : ℕ) (rs : List flat.Runner) (x : Standing) → standing pid rs ≡ Some x → slice_get rs x.index ≡ Some x.runner
standing-there pid rs x found = (there-found pid rs x found).there

pub standing-position : (pid i : ℕ) (es : List (ℕ × Runner)) (e : ℕ × Runner) → position (nat_eq pid) (keys_of es) ≡ Some i → slice_get es i ≡ Some e
    → standing pid (runners_view es) ≡ Some (record { index = i; runner = record { pid = pid; life = life_view e.1.life; pieces = pieces_at (runners_view es) i } })
standing-position pid i es e found at =
    let is : standing pid (runners_view es) ≡ Some (record { index = i; runner = runner_view e }) =
    standing-first 0 pid (runners_view es) ∙ first-position as_standing pid i es e found at in
    let named : e.0 ≡ pid = (there-found pid (runners_view es) (record { index = i; runner = runner_view e }) is).named in
    rw (pieces_at-entry es i e at, ← named) (rw (← named) at is)

pub standing-absent : (pid : ℕ) (es : List (ℕ × Runner)) → None ≡ position (nat_eq pid) (keys_of es) → standing pid (runners_view es) ≡ None
standing-absent pid es none = standing-first 0 pid (runners_view es) ∙ first-none as_standing 0 pid es (no_place pid es none)

-- no process has it
pub absent-from : (n pid : ℕ) (rs : List flat.Runner) → standing_from n pid rs ≡ None → (k : ℕ) (d : flat.Runner) → k < length rs → (get_or rs k d).pid ≢ pid
absent-from n pid [] none k d l = absurd (omega arith)
absent-from n pid (r ∷ rs) none zero d l = λ same. none-some _ (sym (rw (eq-eqb r.pid pid same) at none))
absent-from n pid (r ∷ rs) none (suc k) d l = elim (cases_eq r.pid pid) [
  | inl own ↦ absurd (none-some _ (sym (rw (eq-eqb r.pid pid own) at none)))
  | inr other ↦ absent-from (n + 1) pid rs (rw (ne_eqb r.pid pid other) at none) k d (omega arith)
]

-- a new process is shown after the others
pub shown-behind : (pid : ℕ) (es : List (ℕ × Runner)) (r : Runner) → standing pid (runners_view es) ≡ None → runners_view (insert_entry nat_eq es pid r) ≡ runners_view es ++ runner_view (pid, r) ∷ []
shown-behind pid es r none =
    view-insert_entry es pid r
    (λ j l same.
    absent-from 0 pid (runners_view es) none j first_runner (omega (arith, l, length-map es runner_view)) (ap (λ (x : flat.Runner). x.pid) (get_or-map runner_view es j nobody first_runner l) ∙ same))

pub joins-behind : (most : ℕ) (p : Process) (rs : List flat.Runner) → 1 ≤ p.pid → p.pid ≤ LAST_PID → standing p.pid rs ≡ None → length rs < most
    → joins most p rs ≡ Ok (rs ++ runner_at_start p ∷ [])
joins-behind most p rs low high none few =
    let in_range : within 1 LAST_PID p.pid ≡ true = grind (arith, common_steps) in
    let room : nat_le most (length rs) ≡ false = grind (arith, common_steps) in
    rw (in_range, none, room) refl

pub asleep : (l : Life) → ((cred : Cred) → l ≡ Live cred → ⊥) → is_live (life_view l) ≡ false
asleep l never = grind arith

-- A SOUND LIST IN WHICH EACH PROCESS WAS THERE BEFORE, OR HAS NO PIECE

abbrev pub IsOld : List (ℕ × Runner) → Option (ℕ × Runner) → Type 0
IsOld es o = ((k : ℕ) × (o ≡ slice_get es k)) ⊎ (stored_in o ≡ [])

module _ (es fs : List (ℕ × Runner)) (j k : ℕ) (same : slice_get fs j ≡ slice_get es k) where
  pieces-same : pieces_at (runners_view fs) j ≡ pieces_at (runners_view es) k
  pieces-same = pieces_at-bare fs j ∙ ap (λ o. bare_all (stored_in o)) same ∙ sym (pieces_at-bare es k)

  life-same : life_at (runners_view fs) j ≡ life_at (runners_view es) k
  life-same = grind (arith, common_steps, slice_get-map)

pieces-none : (fs : List (ℕ × Runner)) (j : ℕ) → stored_in (slice_get fs j) ≡ [] → pieces_at (runners_view fs) j ≡ []
pieces-none fs j none = pieces_at-bare fs j ∙ ap bare_all none

pub sound-old : (es fs : List (ℕ × Runner)) (t : Tables) → AreTablesSound no_reservations es t
    → ((id : ℕ) → attach_count (runners_view fs) id ≡ attach_count (runners_view es) id) → length fs ≤ MOST_PROCESSES → ((j : ℕ) → IsOld es (slice_get fs j))
    → AreTablesSound no_reservations fs t
sound-old es fs t sound same few each =
    record {
      exact =
          record {
            counts = λ id. omega (arith, sound.exact.counts id, same id);
            processes = omega (arith, few, length-map fs runner_view);
            pieces = λ j.
                elim (each j) [
                  | inl o ↦ rw (pieces-same es fs j o.0 o.1) (sound.exact.pieces o.0)
                  | inr none ↦ rw (pieces-none fs j none) (omega arith)
                ];
            idle = λ j asleep.
                elim (each j) [
                  | inl o ↦ pieces-same es fs j o.0 o.1 ∙ sound.exact.idle o.0 (sym (ap is_live (life-same es fs j o.0 o.1)) ∙ asleep)
                  | inr none ↦ pieces-none fs j none
                ];
            arranged = λ j.
                elim (each j) [
                  | inl o ↦ rw (pieces-same es fs j o.0 o.1) (sound.exact.arranged o.0)
                  | inr none ↦ rw (pieces-none fs j none) tt
                ];
          };
      tied = sound.tied;
      tables = λ j.
          elim (each j) [
            | inl o ↦ subst (λ (x : Option (ℕ × Runner)). All (HasTable t.slab) (stored_in x)) (sym o.1) (sound.tables o.0)
            | inr none ↦ subst (λ (ps : List Piece). All (HasTable t.slab) ps) (sym none) (All-nil (HasTable t.slab))
          ];
    }

-- A NEW PROCESS

pub each-inserted : (es : List (ℕ × Runner)) (k : ℕ) (r : Runner) → r.space.pieces ≡ [] → (j : ℕ) → IsOld es (slice_get (insert_entry nat_eq es k r) j)
each-inserted [] k r none zero = inr none
each-inserted [] k r none (suc j) = inr refl
each-inserted (e ∷ es) k r none zero =
    elim (cases_Bool (nat_eq k e.0)) [ inl same ↦ rw same (inr none) | inr other ↦ rw other (inl (0, refl)) ]
each-inserted (e ∷ es) k r none (suc j) =
    elim (cases_Bool (nat_eq k e.0)) [
      | inl same ↦ rw same (inl (suc j, refl))
      | inr other ↦ rw other (later (each-inserted es k r none j))
    ]
  where
    later : {o : Option (ℕ × Runner)} → IsOld es o → IsOld (e ∷ es) o
    later (inl x) = inl (suc x.0, x.1)
    later (inr x) = inr x

pub attach_count-behind : (id : ℕ) (rs : List flat.Runner) (r : flat.Runner) → r.pieces ≡ [] → attach_count (rs ++ r ∷ []) id ≡ attach_count rs id
attach_count-behind id rs r none =
    let own : pieces_of id r.pieces ≡ 0 = rw none refl in
    omega (arith, sum_by-append (λ (x : flat.Runner). pieces_of id x.pieces) rs (r ∷ []), sum_by-cons (λ (x : flat.Runner). pieces_of id x.pieces) r [], own)

-- A PROCESS THAT LEAVES

module _ (es : List (ℕ × Runner)) (i : ℕ) (d : ℕ × Runner) (lt : i < length es) where
  abbrev last : ℕ × Runner
  last = get_or es (length es - 1) d

  pub length-left : length (swap_remove es i d) + 1 ≡ length es
  length-left =
      let size : length (swap_remove es i d) ≡ min (length es - 1) (length (set es i last)) = length-take (length es - 1) (set es i last) in
      omega (arith, lt, size, length-set es i last)

  stays : (j : ℕ) → j < length (swap_remove es i d) → get_or (swap_remove es i d) j d ≡ get_or (set es i last) j d
  stays j l = get_or-take (length es - 1) (set es i last) j d (omega (arith, l, length-left))

  -- each of the others is still there
  pub swapped : (j : ℕ) → j < length (swap_remove es i d) → (k : ℕ) × (slice_get (swap_remove es i d) j ≡ slice_get es k) × (k < length es)
  swapped j l =
      let at : slice_get (swap_remove es i d) j ≡ Some (get_or (set es i last) j d) = slice_get-get_or (swap_remove es i d) j d l ∙ ap (λ x. Some x) (stays j l) in
      let end : length es - 1 < length es = omega (arith, lt) in
      elim (cases_eq j i) [
        | inl same ↦
            (length es - 1, at ∙ ap (λ x. Some x) (get_or-set_at es i j last d same lt) ∙ sym (slice_get-get_or es (length es - 1) d end), end)
        | inr other ↦
            let within : j < length es = omega (arith, l, length-left) in
            (j, at ∙ ap (λ x. Some x) (get_or-set_other es i j last d other) ∙ sym (slice_get-get_or es j d within), within)
      ]

  pub each-left : (j : ℕ) → IsOld es (slice_get (swap_remove es i d) j)
  each-left j =
      elim (cases_lt j (length (swap_remove es i d))) [
        | inl l ↦ inl ((swapped j l).0, (swapped j l).1)
        | inr past ↦ inr (ap stored_in (slice_get_past (swap_remove es i d) j past))
      ]

  pub shown-left : runners_view (swap_remove es i d) ≡ swap_remove (runners_view es) i (runner_view d)
  shown-left =
      sym (take-map runner_view (length es - 1) (set es i last))
      ∙ ap (take (length es - 1)) (map-set runner_view es i last ∙ ap (set (runners_view es) i) (sym (get_or-map runner_view es (length es - 1) d (runner_view d) (omega (arith, lt)))))
      ∙ ap (λ n. take (n - 1) (set (runners_view es) i (get_or (runners_view es) (n - 1) (runner_view d)))) (sym (length-map es runner_view))

  pub room-left : (most : ℕ) → HaveRoom most es → HaveRoom most (swap_remove es i d)
  room-left most room =
      record {
        bound = room.bound;
        each = λ j l. ap most_in (swapped j l).1 ∙ room.each (swapped j l).0 (swapped j l).2;
      }

pub attach_count-left : (id : ℕ) (rs : List flat.Runner) (i : ℕ) (r : flat.Runner) → slice_get rs i ≡ Some r → r.pieces ≡ [] → attach_count (swap_remove rs i r) id ≡ attach_count rs id
attach_count-left id rs i r at none =
    let f = λ (x : flat.Runner). pieces_of id x.pieces in
    let own : f (get_or rs i r) ≡ 0 = ap f (get_or_from_slice_get rs i r r at) ∙ ap (pieces_of id) none in
    omega (arith, sum_by-swap_remove f rs i r (slice_get_within rs i r at), own)

-- the entry that is taken out is that of the process
pub record IsOut (es fs : List (ℕ × Runner)) (i : ℕ) (r : flat.Runner) : Type 0 where
  pub entry : ℕ × Runner
  pub within : i < length es
  pub shown : runner_view entry ≡ r
  pub left : fs ≡ swap_remove es i entry

pub out_there : (es fs : List (ℕ × Runner)) (i : ℕ) (r : flat.Runner) (o : Option (ℕ × Runner)) → o ≡ slice_get es i → IfSome o (λ e. fs ≡ swap_remove es i e)
    → slice_get (runners_view es) i ≡ Some r → IsOut es fs i r
out_there es fs i r None is out at = absurd (none-some r (ap (option_map runner_view) is ∙ sym (slice_get-map runner_view es i) ∙ at))
out_there es fs i r (Some e) is out at =
    record {
      entry = e;
      within = slice_get_within es i e (sym is);
      shown = cc (ap (option_map runner_view) is ∙ sym (slice_get-map runner_view es i) ∙ at);
      left = out;
    }

-- ANOTHER STATE OF A PROCESS

pub attach_count-life : (id i : ℕ) (l : flat.Life) (rs : List flat.Runner) → i < length rs → attach_count (with_life_at rs i l) id ≡ attach_count rs id
attach_count-life id i l rs lt =
    let r = get_or rs i first_runner in
    let sum = sum_by-set (λ (x : flat.Runner). pieces_of id x.pieces) rs i (record r { life = l }) first_runner lt in
    rw (with_life_at-within rs i l lt) (omega (arith, sum))

pub started-again : (p : Process) (i : ℕ) (l : flat.Life) (rs : List flat.Runner) → slice_get rs i ≡ Some (record { pid = p.pid; life = l; pieces = pieces_at rs i }) → pieces_at rs i ≡ []
    → with_life_at rs i (life_at_start p.born) ≡ slice_set rs i (runner_at_start p)
started-again p i l rs at none = grind (arith, common_steps)

pub recredited : (c : Caller) (cred : Cred) (rs : List flat.Runner) → IsCaller c rs → with_life_at rs c.index (flat.Live cred) ≡ with_cred rs (caller_seen c rs) cred
recredited c cred rs is = let there = caller_there c rs is in grind (arith, common_steps)
