-- The processes as they are declared.
use Rattle.shm_attach.proofs.Names.{life_view, most_at, ◌≡◌, ◌≢◌, ℕ, zero, suc, ◌+◌, ◌<◌, ◌≤◌, nat_eq, List, [], ◌∷◌, ◌++◌, length, map, get_or, take, refl, ap, sym, ◌∙◌, arith, ne_eqb, length-take, common_steps, length-map, get_or-take, take_more, map-append, sum_by-cons, insert_entry, runner_at_start, pieces_of, attach_count, Process, Tables, runner_view, runners_view, pieces_at, AreCountsExact, no_reservations, Slab, bare, bare_all, counted, stored_at, AllHaveTables, Runner, TableView, MOST_PROCESSES}
use Rattle.shm_base.specs.State as flat
use Rattle.shm_attach.proofs.HavingTables.{pieces_at-bare}
use Rattle.shm_attach.proofs.Callers.{nobody}

-- a process under a new pid comes after the others
pub view-insert_entry : (es : List (ℕ × Runner)) (k : ℕ) (r : Runner) → ((j : ℕ) → j < length es → (get_or es j nobody).0 ≢ k)
    → runners_view (insert_entry nat_eq es k r) ≡ runners_view es ++ runner_view (k, r) ∷ []
view-insert_entry [] k r others = refl
view-insert_entry (e ∷ es) k r others =
    rw (ne_eqb k e.0 (λ same. others 0 (omega arith) (sym same)))
    (ap (λ (rs : List flat.Runner). runner_view e ∷ rs) (view-insert_entry es k r (λ j l. others (suc j) (omega arith))))

pub key-declared : (es : List (ℕ × Runner)) (qs : List Process) (j : ℕ) (d : Process) → runners_view es ≡ map runner_at_start qs → j < length es
    → (get_or es j nobody).0 ≡ (get_or qs j d).pid
key-declared [] qs j d same l = absurd (omega arith)
key-declared (e ∷ es) [] j d same l = absurd (cc same)
key-declared (e ∷ es) (q ∷ qs) zero d same l = grind arith
key-declared (e ∷ es) (q ∷ qs) (suc j) d same l = key-declared es qs j d (cc same) (omega arith)

-- one more process
pub view-more : (es : List (ℕ × Runner)) (ps : List Process) (i : ℕ) (d : Process) (r : Runner) → runners_view es ≡ map runner_at_start (take i ps) → i < length ps
    → ((a b : ℕ) (e : Process) → a < b → b < length ps → (get_or ps a e).pid ≢ (get_or ps b e).pid)
    → runner_view ((get_or ps i d).pid, r) ≡ runner_at_start (get_or ps i d)
    → runners_view (insert_entry nat_eq es (get_or ps i d).pid r) ≡ map runner_at_start (take (i + 1) ps)
view-more es ps i d r same lt apart new =
    let shown : length (map runner_at_start (take i ps)) ≡ length es = sym (ap length same) ∙ length-map es runner_view in
    let long : length es ≡ i = omega (arith, shown, length-map (take i ps) runner_at_start, length-take i ps, lt) in
    view-insert_entry es (get_or ps i d).pid r
    (λ j l own.
    let within : j < i = omega (arith, l, long) in
    apart j i d within lt (sym (ap (λ (p : Process). p.pid) (get_or-take i ps j d within)) ∙ sym (key-declared es (take i ps) j d same l) ∙ own))
    ∙ rw (same, new, take_more ps i d lt) (sym (map-append runner_at_start (take i ps) (get_or ps i d ∷ [])))

attach_count-start : (id : ℕ) (ps : List Process) → attach_count (map runner_at_start ps) id ≡ 0
attach_count-start id [] = refl
attach_count-start id (p ∷ ps) = sum_by-cons (λ (r : flat.Runner). pieces_of id r.pieces) (runner_at_start p) (map runner_at_start ps) ∙ omega (arith, attach_count-start id ps)

pieces_at-start : (ps : List Process) (i : ℕ) → pieces_at (map runner_at_start ps) i ≡ []
pieces_at-start [] i = refl
pieces_at-start (p ∷ ps) zero = refl
pieces_at-start (p ∷ ps) (suc i) = pieces_at-start ps i

pub IsExact-start : (ps : List Process) (c : Tables) → length ps ≤ MOST_PROCESSES → ((id : ℕ) → counted c id ≡ 0) → AreCountsExact no_reservations (map runner_at_start ps) c
IsExact-start ps c few none = grind (arith, common_steps, attach_count-start, length-map, pieces_at-start)

-- no piece has a table yet
pub AllHaveTables-start : (es : List (ℕ × Runner)) (ps : List Process) (t : Slab TableView) → runners_view es ≡ map runner_at_start ps → AllHaveTables es t
AllHaveTables-start es ps t same i k d lt =
    let none : bare_all (stored_at es i) ≡ [] = sym (pieces_at-bare es i) ∙ ap (λ (rs : List flat.Runner). pieces_at rs i) same ∙ pieces_at-start ps i in
    absurd (omega (arith, lt, length-map (stored_at es i) bare, ap length none))

-- one more process has room for its pieces
pub room-more : (most : ℕ) (es : List (ℕ × Runner)) (k : ℕ) (r : Runner) → ((i : ℕ) → i < length es → most_at es i ≡ most) → r.space.most ≡ most
    → (i : ℕ) → i < length (insert_entry nat_eq es k r) → most_at (insert_entry nat_eq es k r) i ≡ most
room-more most [] k r each own zero lt = own
room-more most [] k r each own (suc i) lt = absurd (omega (arith, lt))
room-more most (e ∷ es) k r each own zero lt = grind (arith, common_steps, each 0)
room-more most (e ∷ es) k r each own (suc i) lt = grind (arith, common_steps, each (suc i), (room-more most es k r (λ j within. each (suc j) (omega (arith, within))) own i))

-- a process that is added after the others begins without pieces
pub started : (es fs : List (ℕ × Runner)) (ps : List Process) (i : ℕ) (d : Process) (r : Runner) → fs ≡ insert_entry nat_eq es (get_or ps i d).pid r
    → runners_view es ≡ map runner_at_start (take i ps) → i < length ps
    → ((a b : ℕ) (e : Process) → a < b → b < length ps → (get_or ps a e).pid ≢ (get_or ps b e).pid)
    → life_view r.life ≡ flat.life_at_start (get_or ps i d).born → r.space.pieces ≡ []
    → runners_view fs ≡ map runner_at_start (take (i + 1) ps)
started es fs ps i d r is same lt apart life none =
    let new : runner_view ((get_or ps i d).pid, r) ≡ runner_at_start (get_or ps i d) = grind (arith, common_steps, life, none) in
    ap runners_view is ∙ view-more es ps i d r same lt apart new

pub started-room : (most : ℕ) (es fs : List (ℕ × Runner)) (k : ℕ) (r : Runner) → fs ≡ insert_entry nat_eq es k r → ((i : ℕ) → i < length es → most_at es i ≡ most) → r.space.most ≡ most
    → (i : ℕ) → i < length fs → most_at fs i ≡ most
started-room most es fs k r is each own = rw is (room-more most es k r each own)
