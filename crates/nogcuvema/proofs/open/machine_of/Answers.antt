use Rattle.nogcuvema.proofs.Names.{sym, ◌∙◌, rules, are_kinds, are_there}
use Rattle.std.proofs.Common.{true, ◌≡◌, arith, inr}
use Rattle.std.specs.Prelude.{◌+◌}
use Rattle.shm_life.specs.Start.{error_number}
use Rattle.nogcuvema.proofs.Standing.{opens, area-refused}
use Rattle.nogcuvema.proofs.open.machine_of.Goals as goal

pub returns-in-Ok-open-clause-ok : goal.returns-in-Ok-open-clause-ok
returns-in-Ok-open-clause-ok c =
    let kinds : are_kinds c.args.areas.now ≡ true = search rules in
    let there : are_there c.args.areas.now c.args.failures.now ≡ true = search rules in
    opens c.args.limits.now c.args.areas.now c.args.failures.now c.args.processes.now c.in-Ok.bounds c.deref.result.now c.deref-2.result.now c.deref-3.result.now c.in-Ok-open.machine
    (sym c.in-Ok.ensures) kinds there (c.deref.ensures.value ∙ c.in-Ok-areas_of.ensures) (c.deref-2.ensures.value ∙ c.in-Ok-failures_of.ensures) (c.deref-3.ensures.value ∙ c.in-Ok-processes_of.ensures)
    c.in-Ok-open.ensures.ok c.in-Ok-open.ensures.opened

pub returns-in-Some-clause-err : goal.returns-in-Some-clause-err
returns-in-Some-clause-err c =
    let kinds : are_kinds c.args.areas.now ≡ true = search rules in
    let there : are_there c.args.areas.now c.args.failures.now ≡ true = search rules in
    let number : 2020 + c.from-in-Some.result ≡ 2020 + error_number c.in-Some.error = search rules in
    let same = area-refused c.args.limits.now c.args.areas.now c.args.failures.now c.args.processes.now c.in-Ok.bounds (sym c.in-Ok.ensures) kinds there c.in-Some.error c.in-Some.ensures in
    ((λ zero. absurd (omega (arith, zero))), inr (number ∙ same))
