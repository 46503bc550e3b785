-- Each refusal has its code.
use Rattle.nogcuvema.proofs.Names.{ℕ, List, Err, inr, subst, ProcessCall, Reply, Machine, Refusal, Answered, Progress, ReadTo, WrittenTo, stop_code, ReadBy, WrittenBy, refusal_code, AnswersFor}
use Rattle.std.specs.Prelude.{Result}
use Rattle.nogcuvema.specs.Answers.{AnswersBy}
use Rattle.std.proofs.Common.{◌≡◌, Ok, inl, refl}
use Rattle.shm_machine.specs.Stretched.{CopiedTo}
use Rattle.nogcuvema.specs.Through.{CopiedBy}

pub refused : (before after : Machine) (pid code : ℕ) (call : ProcessCall) (reply : Reply) (refusal : Refusal) → code ≡ refusal_code refusal → Answered before.system pid call (Err refusal) after.system
    → AnswersFor before pid call reply code after
refused before after pid code call reply refusal is answered = inr (refusal, is, answered)

-- the same for what a call did
pub not_accessed : (did : Result Reply Refusal → Machine → Type 0) (after : Machine) (code : ℕ) (reply : Reply) (refusal : Refusal) → code ≡ refusal_code refusal → did (Err refusal) after → AnswersBy did reply code after
not_accessed did after code reply refusal is answered = inr (refusal, is, answered)

-- the same, if the call is written in another way
pub refused_alike : (before after : Machine) (pid code : ℕ) (asked call : ProcessCall) (reply : Reply) (refusal : Refusal) → asked ≡ call → code ≡ refusal_code refusal → Answered before.system pid asked (Err refusal) after.system
    → AnswersFor before pid call reply code after
refused_alike before after pid code asked call reply refusal same is answered =
    inr (refusal, is, subst (λ (c : ProcessCall). Answered before.system pid c (Err refusal) after.system) same answered)

-- a reply to a call that is written in another way
pub done_alike : (before after : Machine) (pid : ℕ) (asked call : ProcessCall) (reply : Reply) → asked ≡ call → Answered before.system pid asked (Ok reply) after.system → AnswersFor before pid call reply 0 after
done_alike before after pid asked call reply same answered = inl (refl, subst (λ (c : ProcessCall). Answered before.system pid c (Ok reply) after.system) same answered)

-- AS FAR AS IT CAME

pub read_by : (before after : Machine) (pid addr code : ℕ) (old new : List ℕ) (p : Progress) → code ≡ stop_code p.stopped → ReadTo before.system pid addr old p new after.system
    → ReadBy before pid addr old code new p.done after
read_by before after pid addr code old new p is read = (p.stopped, is, read)

pub written_by : (before after : Machine) (pid addr code : ℕ) (bytes : List ℕ) (p : Progress) → code ≡ stop_code p.stopped → WrittenTo before.system pid addr bytes p after.system
    → WrittenBy before pid addr bytes code p.done after
written_by before after pid addr code bytes p is written = (p.stopped, is, written)

pub copied_by : (before after : Machine) (from to : ℕ × ℕ) (size done_old code : ℕ) (p : Progress) → code ≡ stop_code p.stopped → CopiedTo before.system from to size p after.system
    → CopiedBy before from to size done_old code p.done after
copied_by before after from to size done_old code p is copied = inl (p.stopped, is, copied)
