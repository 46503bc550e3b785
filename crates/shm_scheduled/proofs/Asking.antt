-- The entries of a transcript are the calls that a script's process makes next.
use Rattle.std.proofs.Common.{◌≡◌, ◌≤◌, ℕ, ◌==◌, ◌++◌, Bool, true, false, List, [], ◌∷◌, map, length, get_or, Option, Some, None, drop, MatchBool, inl, inr, refl, sym, ap, subst, ◌∙◌, arith, true≢false}
use Rattle.std.proofs.lemmas.Bool.{cases_Bool, or_parts}
use Rattle.shm_base.specs.Calls.{ProcessCall}
use Rattle.shm_base.specs.declared.call.Event.{Event}
use Rattle.shm_base.specs.declared.call.Reply.{Reply}
use Rattle.shm_text.specs.Form.{CommandView}
use Rattle.shm_text.specs.Variables.{call_of, values_after}
use Rattle.shm_text.specs.declared.script.Line.{Line}
use Rattle.shm_text.specs.declared.script.Line.TheVariants.{Command, Flush}
use Rattle.shm_schedules.specs.Schedules.{next_call, reply_of}
use Rattle.shm_threads.specs.Transcripts.{Follows, commands_of, events_of, is_end, reply_in, transcript_events}
use Rattle.shm_threads.specs.declared.transcript.Answer.{Answer}
use Rattle.shm_threads.specs.declared.transcript.Answer.TheVariants.{Reply as Replied, HostMemory}
use Rattle.shm_threads.specs.declared.transcript.Entry.{Entry}
use Rattle.shm_runner.specs.Marks.{has_mark, is_marked}

-- a line of another process is passed over
pub skipped : (pid : ℕ) (values : List (Option ℕ)) (c : CommandView) (ls : List Line) (replies : List Reply) → c.pid == pid ≡ false → next_call pid values (Command c ∷ ls) replies ≡ next_call pid values ls replies
skipped pid values c ls [] other = rw other refl
skipped pid values c ls (r ∷ replies) other = rw other refl

-- an entry without a mark has a reply
answered : (a : Answer) → is_marked a ≡ false → (r : Reply) × (a ≡ Replied r)
answered (Replied r) clear = (r, refl)
answered HostMemory clear = absurd (true≢false clear)

-- the entries that are left, if this one does not end them
left : (b : Bool) (es : List Entry) (Rest : Type 0) → MatchBool b (es ≡ []) Rest → b ≡ false → Rest
left true es Rest h e = absurd (true≢false e)
left false es Rest h e = h

last : (b : Bool) (es : List Entry) (Rest : Type 0) → MatchBool b (es ≡ []) Rest → b ≡ true → es ≡ []
last true es Rest h e = h
last false es Rest h e = absurd (true≢false (sym e))

-- no event is left if the list is at its end
pub none-more : (olds : List Event) (e : Event) (more : List Event) → [] ≡ olds ++ e ∷ more → ⊥
none-more [] e more is = absurd (cc is)
none-more (o ∷ olds) e more is = absurd (cc is)

-- one entry, that of the next call or of one before it
module _ (pid : ℕ) (values : List (Option ℕ)) (c : CommandView) (ls : List Line) (own : c.pid == pid ≡ true) (x : Entry) (xs : List Entry) (line : x.call ≡ call_of values c.call)
    (rest : MatchBool (is_end x.call x.answer) (xs ≡ []) (Follows (values_after values c.var (reply_in x.answer)) (commands_of pid ls) xs)) (r : Reply) (reply : x.answer ≡ Replied r) where
  -- the rest follows, after this reply
  follows_on : is_end x.call x.answer ≡ false → Follows (values_after values c.var (Some r)) (commands_of pid ls) xs
  follows_on goes =
      subst (λ (a : Answer). Follows (values_after values c.var (reply_in a)) (commands_of pid ls) xs) reply
      (left (is_end x.call x.answer) xs _ rest goes)

  own_events : transcript_events pid (x ∷ xs) ≡ record { pid = pid; call = x.call; reply = r } ∷ transcript_events pid xs
  own_events = ap (λ (a : Answer). events_of pid x.call a (transcript_events pid xs)) reply

  own_asked : (olds : List Event) (e : Event) (more : List Event)
      → ((os : List Event) → Follows (values_after values c.var (Some r)) (commands_of pid ls) xs → transcript_events pid xs ≡ os ++ e ∷ more → next_call pid (values_after values c.var (Some r)) ls (map reply_of os) ≡ Some e.call)
      → transcript_events pid (x ∷ xs) ≡ olds ++ e ∷ more → next_call pid values (Command c ∷ ls) (map reply_of olds) ≡ Some e.call
  own_asked [] e more next told =
      let first : x.call ≡ e.call = ap (λ (l : List Event). (get_or l 0 e).call) (sym own_events ∙ told) in
      rw own (ap (λ (k : ProcessCall). Some k) (sym line ∙ first))
  own_asked (o ∷ os) e more next told =
      let all = sym own_events ∙ told in
      let first : r ≡ o.reply = ap (λ (l : List Event). (get_or l 0 e).reply) all in
      let others : transcript_events pid xs ≡ os ++ e ∷ more = ap (λ (l : List Event). drop 1 l) all in
      rw own (subst (λ (y : Reply). next_call pid (values_after values c.var (Some y)) ls (map reply_of os) ≡ Some e.call) first
      (elim (cases_Bool (is_end x.call x.answer)) [
        | inl ends ↦ absurd (none-more os e more (sym (ap (transcript_events pid) (last (is_end x.call x.answer) xs _ rest ends)) ∙ others))
        | inr goes ↦ next os (follows_on goes) others
      ]))

-- the call after these lines, whatever the earlier replies were
abbrev IsAsked : ℕ → List (Option ℕ) → List Line → Event → List Event → List Entry → List Event → Type 0
IsAsked pid values ls e more es olds =
    Follows values (commands_of pid ls) es → has_mark es ≡ false → transcript_events pid es ≡ olds ++ e ∷ more → next_call pid values ls (map reply_of olds) ≡ Some e.call

own_line :
    (pid : ℕ) (values : List (Option ℕ)) (c : CommandView) (ls : List Line) (olds : List Event) (e : Event) (more : List Event)
    → ((later : List (Option ℕ)) (xs : List Entry) (os : List Event) → IsAsked pid later ls e more xs os)
    → c.pid == pid ≡ true → (es : List Entry) → Follows values (c ∷ commands_of pid ls) es → has_mark es ≡ false → transcript_events pid es ≡ olds ++ e ∷ more
    → next_call pid values (Command c ∷ ls) (map reply_of olds) ≡ Some e.call
own_line pid values c ls olds e more next own [] follows clear told = absurd follows
own_line pid values c ls olds e more next own (x ∷ xs) follows clear told =
    let parts = or_parts (is_marked x.answer) (has_mark xs) clear in
    let r = answered x.answer parts.0 in
    own_asked pid values c ls own x xs follows.0 follows.1 r.0 r.1 olds e more (λ os goes others. next (values_after values c.var (Some r.0)) xs os goes parts.1 others) told

-- the call of an event is the next one of its process after the events before it
pub asked : (pid : ℕ) (values : List (Option ℕ)) (ls : List Line) (es : List Entry) (olds : List Event) (e : Event) (more : List Event) → IsAsked pid values ls e more es olds
asked pid values [] [] olds e more follows clear told = absurd (none-more olds e more told)
asked pid values [] (x ∷ xs) olds e more follows clear told = absurd follows
asked pid values (Flush pages ∷ ls) es olds e more follows clear told = asked pid values ls es olds e more follows clear told
asked pid values (Command c ∷ ls) es olds e more follows clear told =
    elim (cases_Bool (c.pid == pid)) [
      | inl own ↦ own_line pid values c ls olds e more (λ later xs os. asked pid later ls xs os e more) own es (rw own at follows) clear told
      | inr other ↦ skipped pid values c ls (map reply_of olds) other ∙ asked pid values ls es olds e more (rw other at follows) clear told
    ]

-- a process without lines asks for no call
pub none-left : (pid : ℕ) (values : List (Option ℕ)) (ls : List Line) → length (commands_of pid ls) ≤ 0 → next_call pid values ls [] ≡ None
none-left pid values [] none = refl
none-left pid values (Flush pages ∷ ls) none = none-left pid values ls none
none-left pid values (Command c ∷ ls) none =
    elim (cases_Bool (c.pid == pid)) [
      | inl own ↦ (let some : length (c ∷ commands_of pid ls) ≤ 0 = rw own at none in absurd (omega (arith, some)))
      | inr other ↦ rw other (none-left pid values ls (rw other at none))
    ]

-- after all its lines a process has no call left
abbrev IsOut : ℕ → List (Option ℕ) → List Line → List Entry → Type 0
IsOut pid values ls es = next_call pid values ls (map reply_of (transcript_events pid es)) ≡ None

own_made :
    (pid : ℕ) (values : List (Option ℕ)) (c : CommandView) (ls : List Line)
    → ((later : List (Option ℕ)) (xs : List Entry) → Follows later (commands_of pid ls) xs → has_mark xs ≡ false → length (commands_of pid ls) ≤ length xs → IsOut pid later ls xs)
    → c.pid == pid ≡ true → (es : List Entry) → Follows values (c ∷ commands_of pid ls) es → has_mark es ≡ false → length (c ∷ commands_of pid ls) ≤ length es → IsOut pid values (Command c ∷ ls) es
own_made pid values c ls next own [] follows clear all = absurd follows
own_made pid values c ls next own (x ∷ xs) follows clear all =
    let parts = or_parts (is_marked x.answer) (has_mark xs) clear in
    let r = answered x.answer parts.0 in
    let events = own_events pid values c ls own x xs follows.0 follows.1 r.0 r.1 in
    let later = values_after values c.var (Some r.0) in
    let rest : length (commands_of pid ls) ≤ length xs = omega (arith, all) in
    rw events (rw own (elim (cases_Bool (is_end x.call x.answer)) [
      | inl ends ↦
          let none : xs ≡ [] = last (is_end x.call x.answer) xs _ follows.1 ends in
          subst (IsOut pid later ls) (sym none) (none-left pid later ls (subst (λ (ys : List Entry). length (commands_of pid ls) ≤ length ys) none rest))
      | inr goes ↦ next later xs (follows_on pid values c ls own x xs follows.0 follows.1 r.0 r.1 goes) parts.1 rest
    ]))

pub all-made : (pid : ℕ) (values : List (Option ℕ)) (ls : List Line) (es : List Entry) → Follows values (commands_of pid ls) es → has_mark es ≡ false → length (commands_of pid ls) ≤ length es → IsOut pid values ls es
all-made pid values [] es follows clear all = refl
all-made pid values (Flush pages ∷ ls) es follows clear all = all-made pid values ls es follows clear all
all-made pid values (Command c ∷ ls) es follows clear all =
    elim (cases_Bool (c.pid == pid)) [
      | inl own ↦ own_made pid values c ls (λ later xs. all-made pid later ls xs) own es (rw own at follows) clear (rw own at all)
      | inr other ↦ skipped pid values c ls (map reply_of (transcript_events pid es)) other ∙ all-made pid values ls es (rw other at follows) clear (rw other at all)
    ]
