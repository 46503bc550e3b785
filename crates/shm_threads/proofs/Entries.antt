-- One more entry of a strand, and one more event of the history.
use Rattle.shm_threads.proofs.Names.{◌≡◌, ◌≢◌, ◌<◌, ◌≤◌, ◌+◌, ◌++◌, ◌==◌, ℕ, Bool, true, false, List, [], ◌∷◌, Option, length, drop, MatchBool, subst, sym, ap, ◌∙◌, refl, append-nil, append_assoc, eq-eqb, ne_eqb, get_or, or_from, or_parts, drop_all, drop_more, length_push, filter-append, ProcessCall, own_part, Event, CommandView, call_of, no_values, values_after, IsUnderway, Follows, events_of, is_end, is_fork_of, is_forked, reply_in, transcript_events, Answer, HostMemory, Entry}
use Rattle.shm_threads.specs.declared.transcript.Answer.TheVariants.{Reply as Replied}

-- EVENTS

before : (pid : ℕ) (call : ProcessCall) (a : Answer) (rest more all : List Event) → all ≡ rest ++ more → events_of pid call a all ≡ events_of pid call a rest ++ more
before pid call (Replied r) rest more all is = ap (λ (l : List Event). record { pid = pid; call = call; reply = r } ∷ l) is
before pid call HostMemory rest more all is = is

pub events-append : (pid : ℕ) (es fs : List Entry) → transcript_events pid (es ++ fs) ≡ transcript_events pid es ++ transcript_events pid fs
events-append pid [] fs = refl
events-append pid (e ∷ es) fs = before pid e.call e.answer (transcript_events pid es) (transcript_events pid fs) (transcript_events pid (es ++ fs)) (events-append pid es fs)

pub own-same : (pid : ℕ) (h : List Event) (e : Event) → e.pid ≡ pid → own_part pid (h ++ e ∷ []) ≡ own_part pid h ++ e ∷ []
own-same pid h e own =
    let first : own_part pid (e ∷ []) ≡ e ∷ [] = rw (eq-eqb e.pid pid own) refl in
    filter-append (λ (x : Event). x.pid == pid) h (e ∷ []) ∙ ap (λ (l : List Event). own_part pid h ++ l) first

pub own-other : (pid : ℕ) (h : List Event) (e : Event) → e.pid ≢ pid → own_part pid (h ++ e ∷ []) ≡ own_part pid h
own-other pid h e other =
    let none : own_part pid (e ∷ []) ≡ [] = rw (ne_eqb e.pid pid other) refl in
    filter-append (λ (x : Event). x.pid == pid) h (e ∷ []) ∙ ap (λ (l : List Event). own_part pid h ++ l) none ∙ append-nil (own_part pid h)

pub unforked-more : (child : ℕ) (h : List Event) (e : Event) → is_forked child h ≡ false → is_fork_of child e.call e.reply ≡ false → is_forked child (h ++ e ∷ []) ≡ false
unforked-more child [] e none other = or_from (is_fork_of child e.call e.reply) false other refl
unforked-more child (x ∷ h) e none other =
    let parts = or_parts (is_fork_of child x.call x.reply) (is_forked child h) none in
    or_from (is_fork_of child x.call x.reply) (is_forked child (h ++ e ∷ [])) parts.0 (unforked-more child h e parts.1 other)

-- LINES

goes-on : (b : Bool) (P Q : Type 0) → b ≡ false → Q → MatchBool b P Q
goes-on true P Q is q = absurd (cc is)
goes-on false P Q is q = q

ends : (b : Bool) (P Q : Type 0) → b ≡ true → P → MatchBool b P Q
ends true P Q is p = p
ends false P Q is p = absurd (cc is)

module _ (cs : List CommandView) (values : List (Option ℕ)) (es : List Entry) (under : IsUnderway cs values es) where
  pub underway-whole : length cs ≤ length es → Follows no_values cs es
  underway-whole le =
      let none : Follows values (drop (length es) cs) [] = rw (drop_all (length es) cs le) tt in
      subst (λ (l : List Entry). Follows no_values cs l) (append-nil es) (under [] none)

  module _ (c : CommandView) (e : Entry) (lt : length es < length cs) (next : get_or cs (length es) c ≡ c) (line : e.call ≡ call_of values c.call) where
    rest : drop (length es) cs ≡ c ∷ drop (length es + 1) cs
    rest = drop_more cs (length es) c lt ∙ ap (λ (x : CommandView). x ∷ drop (length es + 1) cs) next

    pub underway-ends : is_end e.call e.answer ≡ true → Follows no_values cs (es ++ e ∷ [])
    underway-ends end =
        let last : Follows values (drop (length es) cs) (e ∷ []) = rw rest (line, ends (is_end e.call e.answer) _ _ end refl) in
        under (e ∷ []) last

    pub underway-next : is_end e.call e.answer ≡ false → IsUnderway cs (values_after values c.var (reply_in e.answer)) (es ++ e ∷ [])
    underway-next goes =
        λ more follows.
        let later : Follows (values_after values c.var (reply_in e.answer)) (drop (length es + 1) cs) more = subst (λ (k : ℕ). Follows (values_after values c.var (reply_in e.answer)) (drop k cs) more) (length_push es e) follows in
        let all : Follows values (drop (length es) cs) (e ∷ more) = rw rest (line, goes-on (is_end e.call e.answer) _ _ goes later) in
        subst (λ (l : List Entry). Follows no_values cs l) (sym (append_assoc es (e ∷ []) more)) (under (e ∷ more) all)
