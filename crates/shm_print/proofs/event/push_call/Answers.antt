use Rattle.std.specs.Prelude.{codes}
use Rattle.shm_print.proofs.Pushed.{operands_pushed}
use Rattle.shm_print.proofs.event.push_call.Goals as goal

pub returns-in_ok-push_at_bytes-in-CompareExchange : goal.returns-in_ok-push_at_bytes-in-CompareExchange
returns-in_ok-push_at_bytes-in-CompareExchange c =
    rw (c.in-CompareExchange.is, ← c.as_slice-in-CompareExchange.ensures.value, ← c.as_slice-in-CompareExchange-2.ensures.value)
    (operands_pushed c.push_operand.result _ _ _ (codes "cas ") _ _ _ c.in_ok-push_at_bytes-in-CompareExchange.ensures c.push_operand.ensures)
