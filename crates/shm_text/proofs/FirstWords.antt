-- The first words of a line decide what it says.
use Rattle.shm_text.proofs.Names.{arith, ◌≡◌, ◌≤◌, ◌<◌, ◌+◌, refl, ℕ, List, take, length, eqb, Bool, true, false, is_some, codes, nat_lt, not, ◌&&◌, ◌||◌, if◌then◌else◌, nat_tests, length-take, common_steps, word_at, FaultKind, TooMany, Number, LineCall, Verb, ◌>>=◌, required_number, call_by, call_with, SeenView, taker, is_skipped, is_command, with_room, command, word_at_is, declared_pid, command_of}
use Rattle.std.specs.Prelude.{Result, Ok, Err}
use Rattle.shm_text.specs.declared.calls.Verb.TheVariants as verbs
use Rattle.shm_text.specs.Calls.{shmget_call, shmat_call, xadd_call, load_call, store_call, swap_call, cas_call, munmap_call, mprotect_call, set_call, fork_call, setuid_call, swapoff_call, call_words}
use Rattle.shm_text.specs.Reading.{sizes_item, limits_item, head_item, rules_item, process_item, child_item, declaration, flush_item, command_item, body_item, words_item}

pub short : (ws : List (List ℕ)) (k : ℕ) → k < 8 → eqb (length (take 8 ws)) k ≡ eqb (length ws) k
short ws k h = rw length-take (grind (arith, nat_tests))

pub early : (ws : List (List ℕ)) (i : ℕ) → i < 8 → word_at (take 8 ws) i ≡ word_at ws i
early ws i h = grind (arith, common_steps)

-- the operands of a call are among the first words
call_by-take : (verb : Verb) (taken : Bool) (ws : List (List ℕ)) (i : ℕ) → i ≤ 4 → call_by verb taken (take 8 ws) i ≡ call_by verb taken ws i
unfolding shmget_call shmat_call xadd_call load_call store_call swap_call cas_call munmap_call mprotect_call set_call fork_call setuid_call swapoff_call
call_by-take verbs.Shmget taken ws i h = rw (early ws i (omega arith), early ws (i + 1) (omega arith), early ws (i + 2) (omega arith)) refl
call_by-take verbs.Shmat taken ws i h = rw (early ws i (omega arith), early ws (i + 1) (omega arith), early ws (i + 2) (omega arith)) refl
call_by-take verbs.Xadd taken ws i h = rw (early ws i (omega arith), early ws (i + 1) (omega arith)) refl
call_by-take verbs.Shmdt taken ws i h = rw (early ws i (omega arith)) refl
call_by-take verbs.Load taken ws i h = rw (early ws i (omega arith), early ws (i + 1) (omega arith)) refl
call_by-take verbs.Store taken ws i h = rw (early ws i (omega arith), early ws (i + 1) (omega arith)) refl
call_by-take verbs.Swap taken ws i h = rw (early ws i (omega arith), early ws (i + 1) (omega arith)) refl
call_by-take verbs.Cas taken ws i h = rw (early ws i (omega arith), early ws (i + 1) (omega arith), early ws (i + 2) (omega arith)) refl
call_by-take verbs.Stat taken ws i h = rw (early ws i (omega arith)) refl
call_by-take verbs.Set taken ws i h = rw (early ws i (omega arith), early ws (i + 1) (omega arith), early ws (i + 2) (omega arith), early ws (i + 3) (omega arith)) refl
call_by-take verbs.Rmid taken ws i h = rw (early ws i (omega arith)) refl
call_by-take verbs.Lock taken ws i h = rw (early ws i (omega arith)) refl
call_by-take verbs.Unlock taken ws i h = rw (early ws i (omega arith)) refl
call_by-take verbs.Fork taken ws i h = rw (early ws i (omega arith)) refl
call_by-take verbs.Exec taken ws i h = refl
call_by-take verbs.Exit taken ws i h = refl
call_by-take verbs.Swapoff taken ws i h = rw (early ws i (omega arith)) refl
call_by-take verbs.Munmap taken ws i h = rw (early ws i (omega arith), early ws (i + 1) (omega arith)) refl
call_by-take verbs.Mprotect taken ws i h = rw (early ws i (omega arith), early ws (i + 1) (omega arith), early ws (i + 2) (omega arith)) refl
call_by-take verbs.Setuid taken ws i h = rw (early ws i (omega arith), early ws (i + 1) (omega arith)) refl

call_plain-take : (ws : List (List ℕ)) (found : Result Verb FaultKind) → (found >>= call_with (take 8 ws) false) ≡ (found >>= call_with ws false)
call_plain-take ws found = grind (arith, common_steps, short, call_by-take)

call_words-take : (ws : List (List ℕ)) (taken : Bool) → call_words (take 8 ws) taken ≡ call_words ws taken
unfolding call_words
call_words-take ws taken = grind (arith, common_steps, early, call_plain-take, short, call_by-take)

taker-take : (ws : List (List ℕ)) → taker (take 8 ws) ≡ taker ws
taker-take ws = rw (early ws 1 (omega arith), early ws 2 (omega arith)) refl

flush_item-take : (ws : List (List ℕ)) → flush_item (take 8 ws) ≡ flush_item ws
unfolding flush_item
flush_item-take ws = rw (short ws 3 (omega arith), early ws 1 (omega arith), early ws 2 (omega arith)) refl

command_item-take : (seen : SeenView) (ws : List (List ℕ)) → command_item seen (take 8 ws) ≡ command_item seen ws
unfolding command_item
command_item-take seen ws =
    rw (
      flush_item-take ws,
      taker-take ws,
      call_words-take ws (is_some (taker ws)),
      early ws 0 (omega arith),
    ) refl

pub words_item-take : (seen : SeenView) (ws : List (List ℕ)) → words_item seen (take 8 ws) ≡ words_item seen ws
unfolding words_item body_item head_item sizes_item limits_item rules_item declaration process_item child_item
words_item-take seen ws =
    rw (
      command_item-take seen ws,
      short ws 6 (omega arith),
      short ws 4 (omega arith),
      short ws 2 (omega arith),
      early ws 0 (omega arith),
      early ws 1 (omega arith),
      early ws 2 (omega arith),
      early ws 3 (omega arith),
      early ws 4 (omega arith),
      early ws 5 (omega arith),
    ) refl

pub is_skipped-take : (ws : List (List ℕ)) → is_skipped (take 8 ws) ≡ is_skipped ws
is_skipped-take ws = rw (short ws 0 (omega arith), early ws 0 (omega arith)) refl

-- a line after the limits is a command, if it begins with no other word
chosen : {A : Type 0} → (F : A → A) (limits zero process child rules : Bool) (ruled declared flushed command first : A) → (limits && (not zero && (not process && (not child && not rules)))) ≡ true
    → (if limits then (if rules then ruled else if process || child then declared else F (if zero then flushed else command)) else first) ≡ F command
chosen F limits zero process child rules ruled declared flushed command first is = grind (arith, common_steps)

pub command_words : (seen : SeenView) (ws : List (List ℕ)) → is_command seen ws ≡ true
    → words_item seen ws ≡ with_room seen (required_number (word_at ws 0) >>= λ pid. command seen pid (taker ws) ws)
unfolding words_item body_item command_item
command_words seen ws is =
    chosen (with_room seen) (is_some seen.limits) (word_at_is ws 0 (codes "0")) (word_at_is ws 0 (codes "process")) (word_at_is ws 0 (codes "child")) (word_at_is ws 0 (codes "rules")) (rules_item seen ws) (declaration seen ws) (flush_item ws)
    (required_number (word_at ws 0) >>= λ pid. command seen pid (taker ws) ws)
    (head_item seen ws)
    is

-- the call and the pid can be read
pub command_said : (seen : SeenView) (ws : List (List ℕ)) (number : Number) (call : LineCall) (pid : ℕ) → is_command seen ws ≡ true
    → required_number (word_at ws 0) ≡ Ok number → call_words ws (is_some (taker ws)) ≡ Ok call → declared_pid seen number call ≡ Ok pid
    → words_item seen ws ≡ (if nat_lt seen.commands 100000 then Ok (command_of pid (taker ws) call) else Err TooMany)
command_said seen ws number call pid is first said declared = grind (arith, common_steps, command_words)

pub ruleset same_words = (words_item-take, is_skipped-take)
