use Rattle.shm_program.proofs.Names.{rules, ◌≡◌, ◌<◌, ◌∙◌, ap, sym, ℕ, List, Option, Some, set, get_or, length, HolderView, values_of, with_values, values_after}
use Rattle.shm_program.proofs.Holders.{values_at, set_at}
use Rattle.shm_program.proofs.values.take_reply.Goals as goal

pub returns-then-holder-pid : goal.returns-then-holder-pid
returns-then-holder-pid c =
    let hs : List HolderView = c.loop-index.holders.items in
    let i : ℕ = c.loop-index.index in
    let pid : ℕ = c.pid-pid.result in
    let x : HolderView = record { pid = c.holder.inside.pid; values = c.holder.inside.vars } in
    let after : List (Option ℕ) → List (Option ℕ) = λ values. values_after values c.args.command.now.var (Some c.args.reply.now) in
    let within : i < length hs = search rules in
    let here : x ≡ get_or hs i x = search rules in
    let same : x.pid ≡ pid = c.if-holder-pid.true in
    let found : values_of hs pid ≡ x.values = c.loop-index.invariant.found ∙ values_at hs i x pid within here same in
    ap (λ (values : List (Option ℕ)). set hs i (record { pid = x.pid; values = values })) c.took.ensures
    ∙ set_at hs i x pid (after x.values) within here same
    ∙ sym (c.loop-index.invariant.set (after x.values))
    ∙ ap (λ (values : List (Option ℕ)). with_values hs pid (after values)) (sym found)
    ∙ ap (λ (l : List HolderView). with_values l pid (after (values_of l pid))) c.loop-index.invariant.same
    ∙ ap (λ (p : ℕ). with_values c.args.holders.now.items p (after (values_of c.args.holders.now.items p))) c.pid-pid.ensures.value
