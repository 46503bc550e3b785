-- A step of a run: one strand has one more entry, and the others stay as they are.
use Rattle.shm_threads.proofs.Names.{◌≡◌, ◌≢◌, ◌<◌, ◌++◌, ℕ, Bool, true, false, List, [], ◌∷◌, Option, Some, None, length, MatchBool, All, subst, sym, ap, ◌∙◌, refl, inl, inr, get_or, cases_Bool, All-push, own_part, Ended, Life, Live, Machine, Runner, Unborn, Event, CommandView, ScriptView, call_of, no_values, values_after, IsStrand, IsUnderway, StandsAt, life_from, Follows, IsMarkAllowed, commands_of, is_end, is_fork_of, reply_in, transcript_events, Strand, Entry}
use Rattle.shm_threads.proofs.Ages.{Ages, IsLive}
use Rattle.shm_threads.proofs.Entries.{events-append, own-other, underway-ends, underway-next, unforked-more}

-- ANOTHER PROCESS'S EVENT

module _ (script : ScriptView) (h : List Event) (e : Event) (s : Strand) (olds news : List Runner) (ages : Ages e olds news) (apart : s.pid ≢ e.pid) where
  at-live : IsLive s.pid news → IsUnderway (commands_of s.pid script.lines) s.vars s.entries.items → StandsAt script (h ++ e ∷ []) s (life_from s.pid news)
  at-live live under = subst (StandsAt script (h ++ e ∷ []) s) (sym live.1) under

  stands-other : (l : Option Life) → life_from s.pid olds ≡ l → StandsAt script h s l → StandsAt script (h ++ e ∷ []) s (life_from s.pid news)
  stands-other None is at = absurd at
  stands-other (Some Unborn) is at =
      elim (cases_Bool (is_fork_of s.pid e.call e.reply)) [
        | inl forked ↦ at-live (ages.born s.pid is forked) (rw (at.1, at.2) (λ more follows. follows))
        | inr other ↦ subst (StandsAt script (h ++ e ∷ []) s) (sym (ages.unborn s.pid is other)) (at.0, at.1, at.2, unforked-more s.pid h e at.3 other)
      ]
  stands-other (Some (Live cred)) is at = at-live (ages.live s.pid apart (cred, is)) at
  stands-other (Some Ended) is at = subst (StandsAt script (h ++ e ∷ []) s) (sym (ages.ended s.pid is)) at

pub strand-other : (script : ScriptView) (m n : Machine) (h : List Event) (e : Event) (s : Strand) → Ages e m.runners n.runners → s.pid ≢ e.pid → IsStrand script m h s → IsStrand script n (h ++ e ∷ []) s
strand-other script m n h e s ages apart is =
    record {
      lines = is.lines;
      room = is.room;
      place = stands-other script h e s m.runners n.runners ages apart (life_from s.pid m.runners) refl is.place;
      own = is.own ∙ sym (own-other s.pid h e (λ same. apart (sym same)));
      marks = is.marks;
    }

-- ITS OWN

-- what was noted of a call: one more entry
pub record Notes (s : Strand) (e : Entry) (c : CommandView) (t : Strand) : Type 0 where
  pub call : e.call ≡ call_of s.vars c.call
  pub pid : t.pid ≡ s.pid
  pub lines : t.lines ≡ s.lines
  pub values : t.vars ≡ values_after s.vars c.var (reply_in e.answer)
  pub entries : t.entries.items ≡ s.entries.items ++ e ∷ []
  pub room : t.entries.room ≡ s.entries.room

module _ (script : ScriptView) (m n : Machine) (h after : List Event) (s t : Strand) (e : Entry) (c : CommandView) (notes : Notes s e c t) (is : IsStrand script m h s)
    (less : length s.entries.items < length (commands_of s.pid script.lines)) (next : get_or (commands_of s.pid script.lines) (length s.entries.items) c ≡ c) (live : IsLive s.pid m.runners)
    (aged : MatchBool (is_end e.call e.answer) (life_from s.pid n.runners ≡ Some Ended) (IsLive s.pid n.runners))
    (own : own_part s.pid after ≡ own_part s.pid h ++ transcript_events s.pid (e ∷ [])) (mark : IsMarkAllowed e) where
  abbrev cs : List CommandView
  cs = commands_of s.pid script.lines

  under : IsUnderway cs s.vars s.entries.items
  under = subst (StandsAt script h s) live.1 is.place

  stands : (b : Bool) → is_end e.call e.answer ≡ b → MatchBool b (life_from s.pid n.runners ≡ Some Ended) (IsLive s.pid n.runners) → StandsAt script after t (life_from t.pid n.runners)
  stands true end ended =
      let all : Follows no_values cs (s.entries.items ++ e ∷ []) = underway-ends cs s.vars s.entries.items under c e less next notes.call end in
      let here : StandsAt script after t (Some Ended) = rw (notes.pid, notes.entries) all in
      subst (StandsAt script after t) (sym (ap (λ (p : ℕ). life_from p n.runners) notes.pid ∙ ended)) here
  stands false goes lives =
      let more : IsUnderway cs (values_after s.vars c.var (reply_in e.answer)) (s.entries.items ++ e ∷ []) = underway-next cs s.vars s.entries.items under c e less next notes.call goes in
      let here : StandsAt script after t (Some (Live lives.0)) = rw (notes.pid, notes.entries, notes.values) more in
      subst (StandsAt script after t) (sym (ap (λ (p : ℕ). life_from p n.runners) notes.pid ∙ lives.1)) here

  pub strand-own : IsStrand script n after t
  strand-own =
      record {
        lines = rw (notes.lines, notes.pid) is.lines;
        room = rw (notes.lines, notes.room) is.room;
        place = stands (is_end e.call e.answer) refl aged;
        own = rw (notes.pid, notes.entries) (events-append s.pid s.entries.items (e ∷ []) ∙ ap (λ (l : List Event). l ++ transcript_events s.pid (e ∷ [])) is.own ∙ sym own);
        marks = subst (All IsMarkAllowed) (sym notes.entries) (All-push IsMarkAllowed s.entries.items e is.marks mark);
      }
