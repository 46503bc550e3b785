-- A granted rmid marks its segment or destroys it, nothing else marks, and a mark stays.
use Rattle.shm_laws.proofs.Names.{◌≡◌, ◌⊎◌, ℕ, Bool, false, true, ◌||◌, List, [], ◌∷◌, ◌++◌, refl, sym, ap, ◌∙◌, inl, inr, arith, common_steps, true≢false, Event, Machine, Opening, Rmid, pos, IsHistory, Since, Began, Lasted, IsMarked, IsRemoval, Removes, KeepsMarks, AreRemoved}
use Rattle.shm_laws.proofs.Stepping.{Moved, removed}
use Rattle.shm_laws.proofs.Fates.{IsMachineSound, names}
use Rattle.shm_laws.proofs.Removing.{removal, removal-finds, mark-stays}
use Rattle.shm_laws.proofs.Naming.{Before, came-from}

-- ONE MOVE

pub removes-move : (s : Machine) (e : Event) (t : Machine) → IsMachineSound s → Moved s e t → Removes s e t
removes-move s e t sound k id r =
    let x = removal-finds s t e id k r in
    removal s t e sound k id x.0 x.1 (ap (λ a. removed a e.reply) r.call ∙ ap (λ a. removed (Rmid (pos id)) a) r.reply)

pub keeps-marks : (s : Machine) (e : Event) (t : Machine) → IsMachineSound s → Moved s e t → KeepsMarks s e t
keeps-marks s e t sound k id mark = mark-stays s t e sound k id mark.segment mark.stands mark.dest

-- what a call removed it names
names-removed : (e : Event) (id : ℕ) → names (removed e.call e.reply) id ≡ true → IsRemoval e id
names-removed e id h = grind (arith, common_steps)

-- a marked segment was marked before, or is removed now
marked-before : (s : Machine) (e : Event) (t : Machine) → IsMachineSound s → Moved s e t → (id : ℕ) → IsMarked t id → IsMarked s id ⊎ IsRemoval e id
marked-before s e t sound k id mark = by (came-from s t e sound k id mark.segment mark.stands)
  where
    by : Before s e id mark.segment → IsMarked s id ⊎ IsRemoval e id
    by (inr new) = absurd (true≢false (sym mark.dest ∙ new.dest))
    by (inl old) = either (names (removed e.call e.reply) id) refl
      where
        either : (b : Bool) → names (removed e.call e.reply) id ≡ b → IsMarked s id ⊎ IsRemoval e id
        either true h = inr (names-removed e id h)
        either false h = inl (record { segment = old.segment; stands = old.stood; dest = ap (λ b. b || old.segment.dest) (sym h) ∙ sym old.dest ∙ mark.dest })

-- kept by each move
pub removed-on : (o : Opening) (before : List Event) (s : Machine) (e : Event) (t : Machine) → IsHistory o before s → IsMachineSound s → Moved s e t → AreRemoved o before s → AreRemoved o (before ++ e ∷ []) t
removed-on o before s e t h sound k marks id mark = from (marked-before s e t sound k id mark)
  where
    from : IsMarked s id ⊎ IsRemoval e id → Since o (λ u f. IsRemoval f id) (λ u f. IsMarked u id) (before ++ e ∷ [])
    from (inr r) = Began before s e h r
    from (inl stood) = Lasted before s e h stood (marks id stood)
