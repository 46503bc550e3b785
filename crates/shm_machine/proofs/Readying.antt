-- An access that was made, and one for which no way could be made.
use Rattle.std.proofs.Common.{ℕ, Bool, ap, subst}
use Rattle.shm_base.specs.Calls.{ProcessCall}
use Rattle.shm_base.specs.State.{Machine as Flat}
use Rattle.shm_base.specs.declared.call.Reply.{Reply}
use Rattle.shm_fault.proofs.Lending.{stay-trans}
use Rattle.shm_fault.specs.Placing.{places}
use Rattle.shm_life.specs.Lending.{KeepsLoans, pages_asked}
use Rattle.shm_life.specs.SystemState.{SystemState, Replied}
use Rattle.shm_machine.specs.Ready.{AccessMade, IsReady}

-- making way does not change the flat machine, so the pages are those that were asked for before it
pub made : (call : ProcessCall) (reply : Reply) (before mid after : SystemState) (pid addr len : ℕ) (puts : Bool) → IsReady (pages_asked before.machine pid addr len puts) before mid
    → KeepsLoans (pages_asked mid.machine pid addr len puts) mid.memory after.memory → Replied mid pid call reply after → AccessMade (pages_asked before.machine pid addr len puts) before pid call reply after
made call reply before mid after pid addr len puts ready keeps access =
    let same = ap (λ (s : SystemState). s.machine) ready.rest in
    let stays = subst (λ (m : Flat). KeepsLoans (pages_asked m pid addr len puts) mid.memory after.memory) same keeps in
    record { mid = mid; ready = ready; access = access; stay = stay-trans (places before.memory) (places mid.memory) (places after.memory) ready.ready.stay (stays ready.ready.ok.0) }
