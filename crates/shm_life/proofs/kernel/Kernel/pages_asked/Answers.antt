use Rattle.shm_life.proofs.Names.{◌∙◌, IsCaller, ap, subst, sym, MachineView}
use Rattle.shm_life.proofs.Lending.{asked-from, one-found, same-found, two-found}
use Rattle.shm_life.proofs.kernel.Kernel.pages_asked.Goals as goal

pub returns-in-len1-clause-pages : goal.returns-in-len1-clause-pages
returns-in-len1-clause-pages g c =
    let access = rw (← c.as_slice.ensures.value) at c.in-Ok.ensures.fit in
    let wanted = rw (← c.as_slice.ensures.value) at c.in-Ok.ensures.places in
    let live = subst (IsCaller c.in-Some.caller) (ap (λ (v : MachineView). v.flat.runners) c.self.view_is) c.in-Some.ensures.live in
    (one-found _ c.as_slice.result.now _ _ _ access c.in-len1.len_at_least c.in-len1.len_below c.page_at.ensures).0 ∙ sym (asked-from c.args.self.now.flat c.in-Some.caller c.args.pid c.args.addr c.args.len c.args.write c.as_slice.result.now c.in-Some.ensures.pid live wanted)

pub returns-then-eq-clause-pages : goal.returns-then-eq-clause-pages
returns-then-eq-clause-pages g c =
    let access = rw (← c.as_slice.ensures.value) at c.in-Ok.ensures.fit in
    let wanted = rw (← c.as_slice.ensures.value) at c.in-Ok.ensures.places in
    let live = subst (IsCaller c.in-Some.caller) (ap (λ (v : MachineView). v.flat.runners) c.self.view_is) c.in-Some.ensures.live in
    (same-found _ c.as_slice.result.now _ _ _ _ access c.in-len2-up.len_at_least c.page_at-first.ensures c.page_at-second.ensures (sym c.eq.ensures ∙ c.if-eq.true)).0 ∙ sym (asked-from c.args.self.now.flat c.in-Some.caller c.args.pid c.args.addr c.args.len c.args.write c.as_slice.result.now c.in-Some.ensures.pid live wanted)

pub returns-else-eq-clause-pages : goal.returns-else-eq-clause-pages
returns-else-eq-clause-pages g c =
    let access = rw (← c.as_slice.ensures.value) at c.in-Ok.ensures.fit in
    let wanted = rw (← c.as_slice.ensures.value) at c.in-Ok.ensures.places in
    let live = subst (IsCaller c.in-Some.caller) (ap (λ (v : MachineView). v.flat.runners) c.self.view_is) c.in-Some.ensures.live in
    (two-found _ c.as_slice.result.now _ _ _ _ access c.in-len2-up.len_at_least c.page_at-first.ensures c.page_at-second.ensures (sym c.eq.ensures ∙ c.if-eq.false)).0 ∙ sym (asked-from c.args.self.now.flat c.in-Some.caller c.args.pid c.args.addr c.args.len c.args.write c.as_slice.result.now c.in-Some.ensures.pid live wanted)
