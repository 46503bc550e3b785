use Rattle.std.proofs.Common.{refl, arith}
use Rattle.shm_base.specs.declared.paging.Span.{Span}
use Rattle.shm_fault.specs.Store.{held}
use Rattle.shm_store_tests.proofs.Trials.{three-fit}
use Rattle.shm_store_tests.proofs.paging.span_at.Goals as goal

pub returns-clause-fit : goal.returns-clause-fit
returns-clause-fit g c =
    let p : Span = record { seg = 0; at = c.args.at; len = 1; frame = c.frame-frame.result } in
    three-fit (held c.args.store.now) p c.requires.0 c.requires.1 refl (omega arith) refl
