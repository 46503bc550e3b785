use Rattle.std.proofs.lemmas.Grind.{common_steps}
use Rattle.std.proofs.Common.{◌≡◌, ap, arith}
use Rattle.shm_pager_core.specs.Pages.{pager_seen}
use Rattle.shm_fault.specs.Held.{with_zeros}
use Rattle.shm_fault.specs.Store.{held, fresh_store}
use Rattle.shm_store_tests.proofs.Trials.{fresh-free, fresh-held, added}
use Rattle.shm_store_tests.proofs.paging.store_over.Goals as goal

pub new-requires-2-clause-free : goal.new-requires-2-clause-free
new-requires-2-clause-free g c = λ area slot. rw c.in_ok-swap.ensures (fresh-free (λ p. pager_seen g.P.Pager.content g.P.Pager.failed g.P.Pager.most g.P.Pager.calls p) c.args.pagers.items area slot)

pub add_segment-requires-clause-new : goal.add_segment-requires-clause-new
add_segment-requires-clause-new g c = grind (arith, common_steps, fresh-held)

pub add_segment-requires-clause-room : goal.add_segment-requires-clause-room
add_segment-requires-clause-room g c = grind (arith, common_steps, fresh-held)

pub returns : goal.returns
returns g c =
    let s = c.in_ok-store.store in
    let made : held s ≡ held (fresh_store s.frames c.in_ok-swap.swap) = ap held c.in_ok-store.ensures.fresh in
    let is : held c.add_segment.new.store ≡ with_zeros (held s) 0 3 = c.in_ok-add_segment.ensures.held in
    rw (is, made, fresh-held s.frames c.in_ok-swap.swap) (added 3)
