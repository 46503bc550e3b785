use Rattle.std.proofs.Common.{ap, sym, ◌∙◌, List, ℕ, rules}
use Rattle.std.proofs.lemmas.Result.{err_from_is_err_and}
use Rattle.shm_life.specs.Start.{start_error}
use Rattle.shm_machine.proofs.Sizes.{pager-sizes, pager-areas, first-error, few-areas}
use Rattle.shm_machine.proofs.machine.Machine.open.Goals as goal

pub pagers_for-requires : goal.pagers_for-requires
pagers_for-requires c = few-areas c.args.limits c.args.areas.now (sym (c.first_area_error.ensures (λ area. area.slots) (λ area slots gives. search rules)) ∙ c.in_default.is)

pub returns-clause-opened : goal.returns-clause-opened
returns-clause-opened c =
    rw (← pager-sizes c.args.failures.now c.in-Ok.pagers.items c.args.areas.now c.in-Ok.ensures, ← pager-areas c.args.failures.now c.in-Ok.pagers.items c.args.areas.now c.in-Ok.ensures) c.in_ok-system.ensures.started

pub returns-clause-ok : goal.returns-clause-ok
returns-clause-ok c =
    ap (λ (ns : List ℕ). start_error c.args.limits ns c.args.processes.now) (sym (pager-sizes c.args.failures.now c.in-Ok.pagers.items c.args.areas.now c.in-Ok.ensures)) ∙ c.in_ok-system.ensures.ok

pub returns-in_err-system-clause-err : goal.returns-in_err-system-clause-err
returns-in_err-system-clause-err c =
    let sizes = pager-sizes c.args.failures.now c.in-Ok.pagers.items c.args.areas.now c.in-Ok.ensures in
    let err = err_from_is_err_and c.from_residual.result c.from_residual.ensures.1 in
    rw (err.1, err.2) (first-error c.args.limits _ _ _ c.args.processes.now sizes c.in_err-system.ensures.err)
