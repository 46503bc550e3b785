use Rattle.shm_life.proofs.Names.{◌∙◌, IsCaller, ap, subst, sym, MachineView}
use Rattle.shm_life.proofs.Paged.{may-write, page-seen-of}
use Rattle.shm_life.proofs.kernel.Kernel.page_at.Goals as goal

pub returns : goal.returns
returns g c =
    let access = rw (← c.as_slice.ensures.value) at c.in_ok-spans.ensures.fit in
    let wanted = rw (← c.as_slice.ensures.value) at c.in_ok-spans.ensures.places in
    let found = c.in_ok-caller.ensures.ok_part in
    let pid = rw found at c.caller.ensures.pid in
    let known = rw found at c.caller.ensures.live in
    let live = subst (IsCaller c.in_ok-caller.caller) (ap (λ (v : MachineView). v.flat.runners) c.self.view_is) known in
    let may = c.is_ok-is_writable.ensures.value ∙ may-write c.spans_of-2.result _ c.spans_of-2.ensures.places c.spans_of-2.ensures.none in
    rw c.page_at.ensures (sym (page-seen-of c.args.self.now.flat c.in_ok-caller.caller c.args.pid c.args.addr c.as_slice.result.now _ _ pid live access c.in-len1-up.len_at_least wanted may))
