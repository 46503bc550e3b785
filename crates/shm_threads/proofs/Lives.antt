-- What events make of the lives of processes: who has ended stays ended, a child is not born before a fork of it, and a live
-- process lives until it exits.
use Rattle.shm_threads.proofs.Names.{◌≡◌, ◌≢◌, ℕ, ◌+◌, ◌==◌, Bool, true, false, List, [], ◌∷◌, Option, Some, None, if◌then◌else◌, is_some, MatchBool, slice_set, inl, inr, refl, sym, ap, subst, ◌∙◌, arith, eq-eqb, ne_eqb, eqb-true, true≢false, cases_eq, none-some, same_Some, IsMove, is_refusal, Ended, Life, Live, Machine, Piece, Runner, Unborn, Caller, Outcome, caller_by, caller_from, caller_of, acts, detaches, is_unborn, pieces_with, unborn_from, ProcessCall, Exec, Exit, Shmdt, Event, Reply, Done, Cred, protects_pieces, rounded, cut, origin_of, hands_pieces, Hands, Leaves, hands-acts, by-move, life_from, is_end, is_fork_of}
use Rattle.std.proofs.Common.{zero, suc}
use Rattle.shm_threads.specs.declared.transcript.Answer.TheVariants.{Reply as Replied}
use Rattle.shm_threads.proofs.Ages.{Ages, IsLive}

-- THE FIRST PROCESS WITH A PID

abbrev is_alive : Option Life → Bool
is_alive None = false
is_alive (Some Unborn) = false
is_alive (Some (Live cred)) = true
is_alive (Some Ended) = false

alive-by : (n pid : ℕ) (ps : List Piece) (life : Life) → is_some (caller_by n pid ps life) ≡ is_alive (Some life)
alive-by n pid ps Unborn = refl
alive-by n pid ps (Live cred) = refl
alive-by n pid ps Ended = refl

alive-from : (n pid : ℕ) (rs : List Runner) → is_some (caller_from n pid rs) ≡ is_alive (life_from pid rs)
alive-from n pid [] = refl
alive-from n pid (r ∷ rs) =
    elim (cases_eq r.pid pid) [
      | inl same ↦ rw (eq-eqb r.pid pid same) (alive-by n pid r.pieces r.life)
      | inr other ↦ rw (ne_eqb r.pid pid other) (alive-from (n + 1) pid rs)
    ]

live-is : (l : Option Life) → is_alive l ≡ true → (cred : Cred) × (l ≡ Some (Live cred))
live-is None alive = absurd (cc alive)
live-is (Some Unborn) alive = absurd (cc alive)
live-is (Some (Live cred)) alive = (cred, refl)
live-is (Some Ended) alive = absurd (cc alive)

-- who calls is live, and only who is live calls
pub lives : (m : Machine) (pid : ℕ) → is_some (caller_of m pid) ≡ true → IsLive pid m.runners
lives m pid calls = live-is (life_from pid m.runners) (sym (alive-from 0 pid m.runners) ∙ calls)

pub calls : (m : Machine) (pid : ℕ) → IsLive pid m.runners → is_some (caller_of m pid) ≡ true
calls m pid live = alive-from 0 pid m.runners ∙ ap is_alive live.1

-- the process at this place is the first with the pid, and has this life
abbrev FirstAt : ℕ → Life → List Runner → ℕ → Type 0
FirstAt pid life [] k = ⊥
FirstAt pid life (r ∷ rs) zero = (r.pid ≡ pid) × (r.life ≡ life)
FirstAt pid life (r ∷ rs) (suc k) = (r.pid ≢ pid) × FirstAt pid life rs k

first-life : (pid : ℕ) (life : Life) (rs : List Runner) (k : ℕ) → FirstAt pid life rs k → life_from pid rs ≡ Some life
first-life pid life [] k at = absurd at
first-life pid life (r ∷ rs) zero at = rw (eq-eqb r.pid pid at.0) (ap (λ (l : Life). Some l) at.1)
first-life pid life (r ∷ rs) (suc k) at = rw (ne_eqb r.pid pid at.0) (first-life pid life rs k at.1)

-- where it is set, only its life changes
first-set :
    (pid : ℕ) (life : Life) (rs : List Runner) (k : ℕ) (new : Runner) → FirstAt pid life rs k → new.pid ≡ pid
    → (q : ℕ) → life_from q (slice_set rs k new) ≡ (if pid == q then Some new.life else life_from q rs)
first-set pid life [] k new at named q = absurd at
first-set pid life (r ∷ rs) zero new at named q =
    elim (cases_eq pid q) [
      | inl same ↦ rw (eq-eqb pid q same, eq-eqb new.pid q (named ∙ same)) refl
      | inr other ↦ rw (ne_eqb pid q other, ne_eqb new.pid q (λ e. other (sym named ∙ e)), ne_eqb r.pid q (λ e. other (sym at.0 ∙ e))) refl
    ]
first-set pid life (r ∷ rs) (suc k) new at named q =
    elim (cases_eq r.pid q) [
      | inl same ↦ rw (eq-eqb r.pid q same, ne_eqb pid q (λ e. at.0 (same ∙ sym e))) refl
      | inr other ↦ rw (ne_eqb r.pid q other) (first-set pid life rs k new at.1 named q)
    ]

-- a caller is the first process with its pid, and lives
record CallerFirst (n pid : ℕ) (rs : List Runner) (c : Caller) : Type 0 where
  place : ℕ
  at : n + place ≡ c.index
  own : c.pid ≡ pid
  first : FirstAt pid (Live c.cred) rs place

caller-here : (n pid : ℕ) (r : Runner) (rs : List Runner) (life : Life) (c : Caller) → r.pid ≡ pid → r.life ≡ life → caller_by n pid r.pieces life ≡ Some c → CallerFirst n pid (r ∷ rs) c
caller-here n pid r rs Unborn c named lives found = absurd (none-some c found)
caller-here n pid r rs (Live cred) c named lives found =
    let same = same_Some _ _ found in
    let none : n + 0 ≡ n = omega arith in
    record {
      place = 0;
      at = none ∙ ap (λ (x : Caller). x.index) same;
      own = sym (ap (λ (x : Caller). x.pid) same);
      first = (named, lives ∙ ap (λ (x : Caller). Live x.cred) same);
    }
caller-here n pid r rs Ended c named lives found = absurd (none-some c found)

caller-first : (n pid : ℕ) (rs : List Runner) (c : Caller) → caller_from n pid rs ≡ Some c → CallerFirst n pid rs c
caller-first n pid [] c found = absurd (none-some c found)
caller-first n pid (r ∷ rs) c found =
    elim (cases_eq r.pid pid) [
      | inl same ↦ caller-here n pid r rs r.life c same refl (rw (eq-eqb r.pid pid same) at found)
      | inr other ↦
          let more = caller-first (n + 1) pid rs c (rw (ne_eqb r.pid pid other) at found) in
          record { place = suc more.place; at = omega (arith, more.at); own = more.own; first = (other, more.first) }
    ]

-- a child that may be born is the first process with its pid, and is not born
record ChildFirst (n pid : ℕ) (rs : List Runner) (index : ℕ) : Type 0 where
  place : ℕ
  at : n + place ≡ index
  first : FirstAt pid Unborn rs place

child-here : (n pid : ℕ) (r : Runner) (rs : List Runner) (life : Life) (index : ℕ) → r.pid ≡ pid → r.life ≡ life → (if is_unborn life then Some n else None) ≡ Some index → ChildFirst n pid (r ∷ rs) index
child-here n pid r rs Unborn index named lives found =
    let same : n ≡ index = same_Some _ _ found in
    record { place = 0; at = omega (arith, same); first = (named, lives) }
child-here n pid r rs (Live cred) index named lives found = absurd (none-some index found)
child-here n pid r rs Ended index named lives found = absurd (none-some index found)

child-first : (n pid : ℕ) (rs : List Runner) (index : ℕ) → unborn_from n pid rs ≡ Some index → ChildFirst n pid rs index
child-first n pid [] index found = absurd (none-some index found)
child-first n pid (r ∷ rs) index found =
    elim (cases_eq r.pid pid) [
      | inl same ↦ child-here n pid r rs r.life index same refl (rw (eq-eqb r.pid pid same) at found)
      | inr other ↦
          let more = child-first (n + 1) pid rs index (rw (ne_eqb r.pid pid other) at found) in
          record { place = suc more.place; at = omega (arith, more.at); first = (other, more.first) }
    ]

-- ONE EVENT

-- the life of a process that a call sets, if it is another's
module _ (pid : ℕ) (life : Life) (rs : List Runner) (k : ℕ) (new : Runner) (first : FirstAt pid life rs k) (named : new.pid ≡ pid) where
  set-own : life_from pid (slice_set rs k new) ≡ Some new.life
  set-own = first-set pid life rs k new first named pid ∙ rw (eq-eqb pid pid refl) refl

  set-other : (q : ℕ) → pid ≢ q → life_from q (slice_set rs k new) ≡ life_from q rs
  set-other q apart = first-set pid life rs k new first named q ∙ rw (ne_eqb pid q apart) refl

  had : (q : ℕ) (l : Life) → pid ≡ q → life_from q rs ≡ Some l → life ≡ l
  had q l same is = same_Some _ _ (sym (first-life pid life rs k first) ∙ ap (λ (p : ℕ). life_from p rs) same ∙ is)

abbrev Still : ProcessCall → Reply → Type 0
Still call reply = (q : ℕ) → is_fork_of q call reply ≡ true → ⊥

-- no life changes
ages-same : (e : Event) (olds news : List Runner) → news ≡ olds → Still e.call e.reply → is_end e.call (Replied e.reply) ≡ false → Ages e olds news
ages-same e olds news same still goes =
    record {
      ended = λ q life. ap (life_from q) same ∙ life;
      unborn = λ q life none. ap (life_from q) same ∙ life;
      born = λ q life forked. absurd (still q forked);
      live = λ q apart live. (live.0, ap (life_from q) same ∙ live.1);
      own = rw goes (λ live. (live.0, ap (life_from e.pid) same ∙ live.1));
    }

abbrev LivesOn : Life → Type 0
LivesOn life = (cred : Cred) × (life ≡ Live cred)

-- the caller is set, which lives on or has ended
ages-own : (e : Event) (cred : Cred) (rs : List Runner) (k : ℕ) (new : Runner) → FirstAt e.pid (Live cred) rs k → new.pid ≡ e.pid → Still e.call e.reply
    → MatchBool (is_end e.call (Replied e.reply)) (new.life ≡ Ended) (LivesOn new.life) → Ages e rs (slice_set rs k new)
ages-own e cred rs k new first named still life =
    let lives : Life = Live cred in
    record {
      ended = λ q is. set-other e.pid lives rs k new first named q (λ same. absurd (cc (had e.pid lives rs k new first named q Ended same is))) ∙ is;
      unborn = λ q is none. set-other e.pid lives rs k new first named q (λ same. absurd (cc (had e.pid lives rs k new first named q Unborn same is))) ∙ is;
      born = λ q is forked. absurd (still q forked);
      live = λ q apart is. (is.0, set-other e.pid lives rs k new first named q (λ same. apart (sym same)) ∙ is.1);
      own = by (is_end e.call (Replied e.reply)) life;
    }
  where
    by : (b : Bool) → MatchBool b (new.life ≡ Ended) (LivesOn new.life) → MatchBool b (life_from e.pid (slice_set rs k new) ≡ Some Ended) (IsLive e.pid rs → IsLive e.pid (slice_set rs k new))
    by true ended = set-own e.pid (Live cred) rs k new first named ∙ ap (λ (l : Life). Some l) ended
    by false lives = λ is. (lives.0, set-own e.pid (Live cred) rs k new first named ∙ ap (λ (l : Life). Some l) lives.1)

-- a child is set, which lives
ages-child : (e : Event) (child : ℕ) (cred : Cred) (rs : List Runner) (k : ℕ) (new : Runner) → FirstAt child Unborn rs k → new.pid ≡ child → new.life ≡ Live cred
    → ((q : ℕ) → is_fork_of q e.call e.reply ≡ (child == q)) → is_end e.call (Replied e.reply) ≡ false → Ages e rs (slice_set rs k new)
ages-child e child cred rs k new first named life forks goes =
    record {
      ended = λ q is. set-other child Unborn rs k new first named q (λ same. absurd (cc (had child Unborn rs k new first named q Ended same is))) ∙ is;
      unborn = λ q is none. set-other child Unborn rs k new first named q (λ same. true≢false (sym (eq-eqb child q same) ∙ sym (forks q) ∙ none)) ∙ is;
      born = λ q is forked. (let same : child ≡ q = eqb-true child q (sym (forks q) ∙ forked) in (cred, subst (λ (p : ℕ). life_from p (slice_set rs k new) ≡ Some (Live cred)) same born));
      live = λ q apart is. kept q is;
      own = rw goes (kept e.pid);
    }
  where
    born : life_from child (slice_set rs k new) ≡ Some (Live cred)
    born = set-own child Unborn rs k new first named ∙ ap (λ (l : Life). Some l) life

    kept : (q : ℕ) → IsLive q rs → IsLive q (slice_set rs k new)
    kept q is = (is.0, set-other child Unborn rs k new first named q (λ same. absurd (cc (had child Unborn rs k new first named q (Live is.0) same is.1))) ∙ is.1)

fork-shows : (q : ℕ) (call : ProcessCall) (reply : Reply) → is_fork_of q call reply ≡ true → (hands_pieces call ≡ true) × (is_refusal reply ≡ false)
fork-shows q call reply forked = (grind arith, grind arith)

refused-goes : (call : ProcessCall) (reply : Reply) → is_refusal reply ≡ true → is_end call (Replied reply) ≡ false
refused-goes call reply refused = grind arith

abbrev event : ℕ → ProcessCall → Reply → Event
event pid call reply = record { pid = pid; call = call; reply = reply }

module _ (s : Machine) (n pid : ℕ) (c : Caller) (live : caller_of s pid ≡ Some c) where
  mine : CallerFirst 0 pid s.runners c
  mine = caller-first 0 pid s.runners c live

  -- the caller is set
  set-caller : (call : ProcessCall) (reply : Reply) (new : Runner) → new.pid ≡ c.pid → Still call reply
      → MatchBool (is_end call (Replied reply)) (new.life ≡ Ended) (LivesOn new.life) → Ages (event pid call reply) s.runners (slice_set s.runners c.index new)
  set-caller call reply new named still life =
      let place : mine.place ≡ c.index = omega (arith, mine.at) in
      subst (λ (k : ℕ). Ages (event pid call reply) s.runners (slice_set s.runners k new)) place
      (ages-own (event pid call reply) c.cred s.runners mine.place new mine.first (named ∙ mine.own) still life)

  ages-detaches : (addr : ℕ) (o : Option Piece) → let d = detaches s n c addr o in Ages (event pid (Shmdt addr) d.reply) s.runners d.state.runners
  ages-detaches addr None = ages-same (event pid (Shmdt addr) _) s.runners s.runners refl (λ q forked. absurd (cc forked)) refl
  ages-detaches addr (Some p) = set-caller (Shmdt addr) Done _ refl (λ q forked. absurd (cc forked)) (c.cred, refl)

  -- a call that takes no piece from the caller
  ages-hands : (call : ProcessCall) (o : Outcome) → Hands s c call o → is_end call (Replied o.reply) ≡ false → ((l : Leaves s c call o) → ⊥) → Ages (event pid call o.reply) s.runners o.state.runners
  ages-hands call o (inl k) goes stays = ages-same (event pid call o.reply) s.runners o.state.runners k.runners still goes
    where
      still : Still call o.reply
      still q forked =
          let shows = fork-shows q call o.reply forked in
          elim k.why [
            | inl none ↦ true≢false (sym shows.0 ∙ none)
            | inr refused ↦ true≢false (sym refused ∙ shows.1)
          ]
  ages-hands call o (inr (inl k)) goes stays =
      let new : Runner = record { pid = c.pid; life = Live c.cred; pieces = pieces_with c k.flags k.place } in
      let still : Still call o.reply = λ q forked. absurd (let no = rw k.asked at forked in cc no) in
      rw k.runners (set-caller call o.reply new refl still (rw goes (c.cred, refl)))
  ages-hands call o (inr (inr (inl k))) goes stays = absurd (stays k)
  ages-hands call o (inr (inr (inr (inl k)))) goes stays =
      let child = child-first 0 k.child s.runners k.index k.unborn in
      let new : Runner = record { pid = k.child; life = Live c.cred; pieces = c.pieces } in
      let place : child.place ≡ k.index = omega (arith, child.at) in
      rw k.runners
      (subst (λ (i : ℕ). Ages (event pid call o.reply) s.runners (slice_set s.runners i new)) place
      (ages-child (event pid call o.reply) k.child c.cred s.runners child.place new child.first refl refl (λ q. rw (k.asked, k.answer) refl) goes))
  ages-hands call o (inr (inr (inr (inr (inl k))))) goes stays =
      let new : Runner = record { pid = c.pid; life = Live c.cred; pieces = cut k.addr (k.addr + rounded k.len) c.pieces } in
      let still : Still call o.reply = λ q forked. absurd (let no = rw k.asked at forked in cc no) in
      rw k.runners (set-caller call o.reply new refl still (rw goes (c.cred, refl)))
  ages-hands call o (inr (inr (inr (inr (inr (inl k)))))) goes stays =
      let new : Runner = record { pid = c.pid; life = Live c.cred; pieces = (protects_pieces s.limits.most_pieces k.writable k.addr k.len c.pieces).pieces } in
      let still : Still call o.reply = λ q forked. absurd (let no = rw k.asked at forked in cc no) in
      rw k.runners (set-caller call o.reply new refl still (rw goes (c.cred, refl)))
  ages-hands call o (inr (inr (inr (inr (inr (inr k)))))) goes stays =
      let new : Runner = record { pid = c.pid; life = Live k.cred; pieces = c.pieces } in
      let still : Still call o.reply = λ q forked. absurd (let no = rw k.asked at forked in cc no) in
      rw k.runners (set-caller call o.reply new refl still (rw goes (k.cred, refl)))

  ages-acts : (call : ProcessCall) → let o = acts s n c call in Ages (event pid call o.reply) s.runners o.state.runners
  ages-acts Exit = set-caller Exit Done _ refl (λ q forked. absurd (cc forked)) refl
  ages-acts Exec = set-caller Exec Done _ refl (λ q forked. absurd (cc forked)) (c.cred, refl)
  ages-acts (Shmdt addr) = ages-detaches addr (origin_of addr c.pieces)
  ages-acts call = ages-hands call (acts s n c call) (hands-acts s n c call) refl (λ l. elim l.taken [ inl d ↦ absurd (cc d.2) | inr x ↦ elim x.0 [ inl e ↦ absurd (cc e) | inr e ↦ absurd (cc e) ] ])

pub ages-move : (s : Machine) (n : ℕ) (e : Event) (t : Machine) → IsMove s n e t → Ages e s.runners t.runners
ages-move s n e t =
    by-move s n e t (λ r u. Ages (event e.pid e.call r) s.runners u.runners)
    (λ c is. ages-acts s n e.pid c is e.call)
    (λ r refused. ages-same (event e.pid e.call r) s.runners s.runners refl (λ q forked. true≢false (sym refused ∙ (fork-shows q e.call r forked).1)) (refused-goes e.call r refused))
