use Rattle.std.proofs.Common.{◌≡◌, ◌<◌, ◌≤◌, ◌+◌, ◌∙◌, length, set, sym, ap, arith}
use Rattle.std.proofs.lemmas.List.{get_or_past, set-get_or}
use Rattle.shm_base.specs.Page.{zero_page}
use Rattle.shm_frames.specs.Frame.{no_frame, frame_at}
use Rattle.shm_frames.specs.Table.{all_frames}
use Rattle.shm_frames.proofs.Shown.{shown, length-shown, reach-shown, paste-shown, bytes-shown}
use Rattle.shm_frames.proofs.Counts.{kept-reach, loans-reach}
use Rattle.shm_frames.proofs.frames.Frames.clear.Goals as goal
use Rattle.shm_frames.proofs.frames.Frames.clear.Goals.{After-self}

there : (c : After-self) → c.args.frame < c.self.inside.count
there c = omega (arith, c.requires, length-shown (shown c.self.inside c.self.invariant.0 c.self.view_is))

pub reach-requires-clause-entries : goal.reach-requires-clause-entries
reach-requires-clause-entries c = let o = goal.at.reach-requires-clause-entries c in omega (arith, there o.After-self, c.self.invariant.1)

pub reach-requires-clause-bytes : goal.reach-requires-clause-bytes
reach-requires-clause-bytes c = let o = goal.at.reach-requires-clause-bytes c in omega (arith, there o.After-self, c.self.invariant.2)

pub invariant_of-self : goal.invariant_of-self
invariant_of-self c =
    let o = goal.at.invariant_of-self c in
    let s = shown c.self.inside c.self.invariant.0 c.self.view_is in (
      rw (c.reach.ensures.table, c.reach.ensures.pages) (reach-shown s c.args.frame (there o.After-self)).used,
      rw c.reach.ensures.entries c.self.invariant.1,
      rw c.reach.ensures.rooms c.self.invariant.2,
      rw c.reach.ensures.table (kept-reach c.self.inside.table.items c.self.inside.first_free c.self.inside.resident c.self.inside.dirty (c.args.frame + 1) c.self.invariant.3),
      rw c.reach.ensures.table (loans-reach c.self.inside.table.items c.self.inside.lent (c.args.frame + 1) c.self.invariant.4),
    )

pub returns-then-frame-len : goal.returns-then-frame-len
returns-then-frame-len c =
    let o = goal.at.returns-then-frame-len c in
    let s = shown c.self.inside c.self.invariant.0 c.self.view_is in
    let same : all_frames c.reach.new.table.items c.reach.new.pages.items c.self.inside.count ≡ c.args.self.now = rw (c.reach.ensures.table, c.reach.ensures.pages) (reach-shown s c.args.frame (there o.After-self)).is in
    let past : length c.self.inside.pages.items ≤ c.args.frame = omega arith in
    let zeros : (frame_at c.args.self.now c.args.frame).bytes ≡ zero_page = bytes-shown s c.args.frame c.requires ∙ get_or_past c.self.inside.pages.items c.args.frame zero_page past in
    let kept : set c.args.self.now c.args.frame (record (frame_at c.args.self.now c.args.frame) { bytes = zero_page }) ≡ c.args.self.now =
    ap (λ w. set c.args.self.now c.args.frame (record (frame_at c.args.self.now c.args.frame) { bytes = w })) (sym zeros) ∙ set-get_or c.args.self.now c.args.frame no_frame in
    same ∙ sym kept

pub returns : goal.returns
returns c =
    let s = shown c.self.inside c.self.invariant.0 c.self.view_is in
    rw c.zeros.ensures (paste-shown s c.args.frame zero_page (omega arith))
