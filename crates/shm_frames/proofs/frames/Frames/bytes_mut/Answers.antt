use Rattle.std.proofs.Common.{◌<◌, ◌+◌, refl, sym, ◌∙◌, arith, length, length-set}
use Rattle.std.proofs.lemmas.List.{get_or_read}
use Rattle.shm_base.specs.Page.{zero_page}
use Rattle.shm_base.proofs.Stored.{within-padded}
use Rattle.shm_frames.proofs.Shown.{AreFramesShown, shown, length-shown, reach-shown, paste-shown, bytes-shown}
use Rattle.shm_frames.proofs.Counts.{kept-reach, loans-reach}
use Rattle.shm_frames.proofs.frames.Frames.bytes_mut.Goals as goal
use Rattle.shm_frames.proofs.frames.Frames.bytes_mut.Goals.{After-self, After-reach}

there : (c : After-self) → c.args.frame < c.self.inside.count
there c = omega (arith, c.requires, length-shown (shown c.self.inside c.self.invariant.0 c.self.view_is))

pub reach-requires-clause-entries : goal.reach-requires-clause-entries
reach-requires-clause-entries c = let o = goal.at.reach-requires-clause-entries c in omega (arith, there o.After-self, c.self.invariant.1)

pub reach-requires-clause-bytes : goal.reach-requires-clause-bytes
reach-requires-clause-bytes c = let o = goal.at.reach-requires-clause-bytes c in omega (arith, there o.After-self, c.self.invariant.2)

-- the frames after this one has an entry
reached : (c : After-reach) → c.args.frame < c.self.inside.count → AreFramesShown c.reach.new.table.items c.reach.new.pages.items c.self.inside.count c.args.self.now
reached c in_count = rw (c.reach.ensures.table, c.reach.ensures.pages) (reach-shown (shown c.self.inside c.self.invariant.0 c.self.view_is) c.args.frame in_count)

pub invariant_of-self-lent : goal.invariant_of-self-lent
invariant_of-self-lent c =
    let o = goal.at.invariant_of-self-lent c in
    let used = (reached o.After-reach (there o.After-self)).used in
    λ w. (
      record { beside = length-set c.reach.new.pages.items c.args.frame w ∙ used.beside; within = used.within; few = used.few },
      rw c.reach.ensures.entries c.self.invariant.1,
      rw c.reach.ensures.rooms c.self.invariant.2,
      rw c.reach.ensures.table (kept-reach c.self.inside.table.items c.self.inside.first_free c.self.inside.resident c.self.inside.dirty (c.args.frame + 1) c.self.invariant.3),
      rw c.reach.ensures.table (loans-reach c.self.inside.table.items c.self.inside.lent (c.args.frame + 1) c.self.invariant.4),
    )

pub returns : goal.returns
returns c =
    let o = goal.at.returns c in
    let r = reached o.After-reach (there o.After-self) in
    let stored : c.args.frame < length c.reach.new.pages.items = rw c.reach.ensures.pages (within-padded c.self.inside.pages.items (c.args.frame + 1) c.args.frame zero_page (omega arith)) in (
      (refl, λ w. paste-shown r c.args.frame w stored),
      record {
        writes_back = tt;
        value = get_or_read c.reach.new.pages.items c.args.frame c.index_mut.result.now stored c.index_mut.ensures.value zero_page ∙ sym (bytes-shown r c.args.frame c.requires);
      },
    )
