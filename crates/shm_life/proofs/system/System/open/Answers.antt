use Rattle.shm_life.proofs.Names.{length, refl, true, ◌≡◌, ◌∙◌, arith, All-nil, is_range, HostRange}
use Rattle.shm_life.proofs.Opens.{is_open, sizes-new, owners-new, fresh-kept}
use Rattle.shm_life.proofs.system.System.open.Goals as goal

pub new-requires-clause-areas : goal.new-requires-clause-areas
new-requires-clause-areas g c = (is_open c.args.limits (λ p. length (g.P.Pager.content p)) c.args.pagers.items c.args.processes.now (rw c.most_processes.ensures.value at c.most_processes.ensures.range.1) (rw c.most_slots.ensures.value at c.most_slots.ensures.range.1) c.requires.none).areas

pub new-requires-clause-sizes : goal.new-requires-clause-sizes
new-requires-clause-sizes g c = (is_open c.args.limits (λ p. length (g.P.Pager.content p)) c.args.pagers.items c.args.processes.now (rw c.most_processes.ensures.value at c.most_processes.ensures.range.1) (rw c.most_slots.ensures.value at c.most_slots.ensures.range.1) c.requires.none).sizes

pub new-requires-2-clause-free : goal.new-requires-2-clause-free
new-requires-2-clause-free g c = λ area slot. rw c.in_ok-new.ensures (owners-new g.P.Pager.content g.P.Pager.failed g.P.Pager.most g.P.Pager.calls c.args.pagers.items area slot)

pub new-requires-3-clause-apart : goal.new-requires-3-clause-apart
new-requires-3-clause-apart g c = (is_open c.args.limits (λ p. length (g.P.Pager.content p)) c.args.pagers.items c.args.processes.now (rw c.most_processes.ensures.value at c.most_processes.ensures.range.1) (rw c.most_slots.ensures.value at c.most_slots.ensures.range.1) c.requires.none).apart

pub invariant_of-kernel : goal.invariant_of-kernel
invariant_of-kernel g c = (
  record {
    kept = rw (c.in_ok-new-2.ensures.table, c.in_ok-new-3.ensures.runners) (let it = is_open c.args.limits (λ p. length (g.P.Pager.content p)) c.args.pagers.items c.args.processes.now (rw c.most_processes.ensures.value at c.most_processes.ensures.range.1) (rw c.most_slots.ensures.value at c.most_slots.ensures.range.1) c.requires.none in
        fresh-kept c.args.limits c.args.processes.now (rw c.shmall.ensures.value at c.shmall.ensures.range) (rw c.lockable.ensures.value at c.lockable.ensures.range) it.declared it.apart);
    frames = c.in_ok-new-2.ensures.frames ∙ c.frames.ensures.value;
    room = rw c.lockable.ensures.value at c.lockable.ensures.room;
    translated = rw c.in_ok-new-3.ensures.translations (λ k d lt. absurd (omega (arith, lt)));
  },
  c.in_ok-new-3.ensures.most ∙ c.most_pieces.ensures.value,
  rw c.new-4.ensures.items (All-nil (λ (r : HostRange). is_range r ≡ true)),
)

pub returns : goal.returns
returns g c = record {
  opening = rw (c.in_ok-from_slice.ensures.items, c.in_ok-sizes_of.ensures, c.deref.ensures.value) refl;
  calls = refl;
  clock = refl;
  changes = refl;
  machine =
      rw (c.in_ok-new-2.ensures.memory, c.in_ok-new-2.ensures.table, c.in_ok-new.ensures, sizes-new g.P.Pager.content g.P.Pager.failed g.P.Pager.most g.P.Pager.calls c.args.pagers.items, c.in_ok-new-3.ensures.runners, c.new-4.ensures.items, c.in_ok-from_slice.ensures.items, c.in_ok-sizes_of.ensures, c.deref.ensures.value) refl;
  memory = rw (← c.in_ok-new.ensures) c.in_ok-new-2.ensures.memory;
}

pub new-requires-3-clause-few : goal.new-requires-3-clause-few
new-requires-3-clause-few g c = (is_open c.args.limits (λ p. length (g.P.Pager.content p)) c.args.pagers.items c.args.processes.now (rw c.most_processes.ensures.value at c.most_processes.ensures.range.1) (rw c.most_slots.ensures.value at c.most_slots.ensures.range.1) c.requires.none).few
