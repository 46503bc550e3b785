-- Equality of effects.
use Rattle.std.specs.Prelude.{◌≡◌, Bool, ◌&&◌}
use Rattle.std.specs.Bool.{Decides}
use Rattle.std.specs.Cmp.{unsigned_Decides}
use Rattle.std.specs.Cmp.Lexicographic.{pointwise, pointwise_decides}
use Rattle.std.specs.Hash as fed
use Rattle.std.proofs.Common.{rules}
use Rattle.std.proofs.lemmas.Bool.Decides.{Decides-and, Decides-at, Decides-like}
use Rattle.shm_schedules.specs.Same.{and-true, same-call}
use Rattle.shm_outcomes.specs.Changes.{Effects}
use Rattle.shm_outcomes.specs.declared.effects.CallBy.{CallBy}
use Rattle.shm_outcomes.specs.declared.effects.Change.{Change}
use Rattle.shm_outcomes.specs.declared.effects.Change.TheVariants.{Made, Wrote}
use Rattle.shm_outcomes.specs.declared.effects.Write.{Write}
use Rattle.shm_outcomes.specs.contracts.effects.CallByPartialEq.TheImpl as call_by
use Rattle.shm_outcomes.specs.contracts.effects.ChangePartialEq.TheImpl as change
use Rattle.shm_outcomes.specs.contracts.effects.WritePartialEq.TheImpl as write
use Rattle.shm_outcomes.specs.contracts.effects.WriteHash.TheImpl as write_hash

same-write : (a b : Write) → Decides (write.ghosts.eq a b) (a ≡ b)
same-write a b =
    Decides-like _ (λ t i. record { index = t.0 i; at = t.1.0 i; byte = t.1.1 i }) (λ e. (λ i. (e i).index, (λ i. (e i).at, λ i. (e i).byte)))
    (Decides-and _ _ (unsigned_Decides _ _) (Decides-and _ _ (unsigned_Decides _ _) (unsigned_Decides _ _)))

same-call-by : (a b : CallBy) → Decides (call_by.ghosts.eq a b) (a ≡ b)
same-call-by a b =
    Decides-like _ (λ t i. record { pid = t.0 i; call = t.1 i }) (λ e. (λ i. (e i).pid, λ i. (e i).call))
    (Decides-and _ _ (unsigned_Decides _ _) (Decides-at _ _ (and-true _) (same-call a.call b.call)))

same-change : (a b : Change) → Decides (change.ghosts.eq a b) (a ≡ b)
same-change (Wrote w) b = search (same-write, rules)
same-change (Made c) b = search (same-call-by, rules)

-- whether the effects of two runs are the same
abbrev pub effects_eq : Effects → Effects → Bool
effects_eq a b = pointwise write.ghosts.eq a.writes b.writes && pointwise change.ghosts.eq a.past b.past

pub same-effects : (a b : Effects) → Decides (effects_eq a b) (a ≡ b)
same-effects a b =
    Decides-like _ (λ t i. record { writes = t.0 i; past = t.1 i }) (λ e. (λ i. (e i).writes, λ i. (e i).past))
    (Decides-and _ _ (pointwise_decides same-write a.writes b.writes) (pointwise_decides same-change a.past b.past))

-- what a hasher is fed for effects: the bytes that were written since the last other change
abbrev pub effects_hash : Effects → fed.HashWrites
effects_hash t = fed.slice write_hash.ghosts.hash_input t.writes
