-- No move gives a process other credentials than it asked for.
use Rattle.shm_laws.proofs.Names.{IsAskedFor, Setuid, subst, ◌≡◌, ◌≢◌, ◌⊎◌, ℕ, List, get_or, Some, slice_get, slice_set, refl, sym, ap, ◌∙◌, inl, inr, cases_eq, slice_get-get_or, Fork, Event, Live, Ended, Runner, Machine, Cred, Caller, Outcome, caller_of, acts, IsMove, child_at, first_runner, life_in, get-set_other, IsBornWith, KeepsCredentials, Life, CallerAt, caller-at}
use Rattle.shm_laws.proofs.Callers.{caller-there}
use Rattle.shm_laws.proofs.Handing.{Credits, Forks, Hands, by-hands, hands-acts}
use Rattle.shm_laws.proofs.Refusing.{by-move}
use Rattle.shm_laws.proofs.Turning.{set-got}

-- a process that had the credentials, or is born with them
abbrev Had : Machine → Event → ℕ → ℕ → Cred → Type 0
Had s e k pid cred = (old : Runner) × (slice_get s.runners k ≡ Some old) × (old.pid ≡ pid) × ((old.life ≡ Live cred) ⊎ (IsAskedFor e old cred ⊎ IsBornWith s e old cred))

abbrev KeepsIn : Machine → Event → List Runner → Type 0
KeepsIn s e rs = (k : ℕ) (now : Runner) (cred : Cred) → slice_get rs k ≡ Some now → now.life ≡ Live cred → Had s e k now.pid cred

had-same : (s : Machine) (e : Event) → KeepsIn s e s.runners
had-same s e k now cred is live = (now, is, refl, inl live)

-- one process is set
had-set : (s : Machine) (e : Event) (i : ℕ) (r : Runner) → ((cred : Cred) → r.life ≡ Live cred → Had s e i r.pid cred) → KeepsIn s e (slice_set s.runners i r)
had-set s e i r own k now cred is live = by (cases_eq i k)
  where
    by : (i ≡ k) ⊎ (i ≢ k) → Had s e k now.pid cred
    by (inl here) =
        let there : slice_get (slice_set s.runners i r) i ≡ Some now = ap (slice_get (slice_set s.runners i r)) here ∙ is in
        let same : r ≡ now = set-got s.runners i r now there in
        let h = own cred (ap (λ (q : Runner). q.life) same ∙ live) in
        (h.0, ap (slice_get s.runners) (sym here) ∙ h.1, h.2 ∙ ap (λ (q : Runner). q.pid) same, h.3)
    by (inr apart) = had-same s e k now cred (sym (get-set_other s.runners i k r apart) ∙ is) live

module _ (s : Machine) (pid : ℕ) (c : Caller) (live : caller_of s pid ≡ Some c) (e : Event) (own : e.pid ≡ pid) where
  at : CallerAt pid s.runners c
  at = caller-at pid s.runners c live

  -- the caller has its credentials
  mine : (cred : Cred) → Live c.cred ≡ Live cred → Had s e c.index c.pid cred
  mine cred same = (record { pid = pid; life = Live c.cred; pieces = c.pieces }, at.there, sym at.own, inl same)

  module _ (o : Outcome) (told : e.reply ≡ o.reply) where
    left : (life : Life) (cred : Cred) → (life ≡ Live c.cred) ⊎ (life ≡ Ended) → life ≡ Live cred → Had s e c.index c.pid cred
    left life cred (inl h) lives = mine cred (sym h ∙ lives)
    left life cred (inr h) lives = absurd (cc (sym h ∙ lives))

    asks : (k : Credits s c e.call o) (cred : Cred) → Live k.cred ≡ Live cred → Had s e c.index c.pid cred
    asks k cred same =
        let same : k.cred ≡ cred = cc same in (
          record { pid = c.pid; life = Live c.cred; pieces = c.pieces },
          caller-there s pid c live,
          refl,
          inr (inl (record { own = own ∙ sym at.own; call = subst (λ (x : Cred). e.call ≡ Setuid x.uid x.gid) same k.asked; reply = told ∙ k.answer })),
        )

    born : (k : Forks s c e.call o) (cred : Cred) → Live c.cred ≡ Live cred → Had s e k.index k.child cred
    born k cred same =
        let old : Runner = get_or s.runners k.index first_runner in
        let child = child_at k.child k.index s.runners k.unborn in
        let there : slice_get s.runners k.index ≡ Some old = slice_get-get_or s.runners k.index first_runner child.within in (
          old,
          there,
          child.named,
          inr (inr (record {
            life = sym (ap life_in there) ∙ child.unborn;
            call = k.asked ∙ ap Fork (sym child.named);
            reply = told ∙ k.answer;
            parent = c;
            live = ap (caller_of s) own ∙ live;
            inherits = cc (sym same);
          })),
        )

    had-hands : Hands s c e.call o → KeepsIn s e o.state.runners
    had-hands =
        by-hands s c e.call o (KeepsIn s e) (λ i r. (cred : Cred) → r.life ≡ Live cred → Had s e i r.pid cred) (had-same s e) (had-set s e)
        (λ k. mine) (λ k cred. left k.life cred k.who) born (λ k. mine) (λ k. mine) asks

pub keeps-credentials : (s : Machine) (n : ℕ) (e : Event) (t : Machine) → IsMove s n e t → KeepsCredentials s e t
keeps-credentials s n e t =
    by-move s n e t (λ r u. KeepsCredentials s (record { pid = e.pid; call = e.call; reply = r }) u)
    (λ c is. had-hands s e.pid c is (record { pid = e.pid; call = e.call; reply = (acts s n c e.call).reply }) refl (acts s n c e.call) refl (hands-acts s n c e.call))
    (λ r no. had-same s (record { pid = e.pid; call = e.call; reply = r }))
