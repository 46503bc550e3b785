use Rattle.shm_fault.proofs.Names.{ℕ, arith, length-take, rules, held}
use Rattle.shm_fault.proofs.Written.{no_span}
use Rattle.shm_fault.proofs.Pasted.{fits-pasted}
use Rattle.shm_fault.proofs.Puts.{put-two}
use Rattle.shm_fault.proofs.store.PageStore.store_two.Goals as goal

pub store-requires-2-clause-fit : goal.store-requires-2-clause-fit
store-requires-2-clause-fit g c =
    rw c.store.ensures.written (fits-pasted (held c.args.self.now) c.args.first c.args.second _ (omega (arith, length-take {A = ℕ})) (c.requires.spans.fit 0 no_span (omega arith)) (c.requires.spans.fit 1 no_span (omega arith)))

pub returns : goal.returns
returns g c =
    put-two c.args.first c.args.second c.args.bytes.now c.args.self.now c.store.new.self c.store-2.new.self
    c.split_at.ensures.front c.split_at.ensures.back (search rules) c.store.ensures c.store-2.ensures
