use Rattle.std.proofs.Common.{◌≡◌, Option, Some, None, is_some, false, true≢false, set, refl, sym, ap, ◌∙◌}
use Rattle.shm_base.specs.declared.paging.PageRef.{PageRef}
use Rattle.std.proofs.lemmas.List.{set-get_or}
use Rattle.shm_frames.specs.Frame.{no_frame, frame_at}
use Rattle.shm_frames.specs.Table.{free_entry}
use Rattle.shm_frames.proofs.Shown.{shown, clear-shown, edit-shown, entry-there, frame-shown}
use Rattle.shm_frames.proofs.frames.Frames.empty.Goals as goal

none_from : (o : Option PageRef) → is_some o ≡ false → o ≡ None
none_from None e = refl
none_from (Some r) e = absurd (true≢false e)

pub returns-then-is_none : goal.returns-then-is_none
returns-then-is_none c =
    let s = shown c.self.inside c.self.invariant.0 c.self.view_is in
    let free : (frame_at c.args.self.now c.args.frame).owner ≡ None = none_from (frame_at c.args.self.now c.args.frame).owner (rw (frame-shown s c.args.frame, ← c.state_of-was.ensures) (c.if-is_none.ensures)) in
    sym (ap (λ f. set c.args.self.now c.args.frame f) (sym (clear-shown s c.self.invariant.3.clear c.args.frame free)) ∙ set-get_or c.args.self.now c.args.frame no_frame)

pub returns : goal.returns
returns c =
    let s = shown c.self.inside c.self.invariant.0 c.self.view_is in
    edit-shown s c.args.frame c.state_of-was.result (λ x. free_entry) (λ f. record no_frame { bytes = f.bytes }) (λ x b. refl) (entry-there c.self.inside.table.items c.args.frame (rw (← c.state_of-was.ensures) c.if-is_none.ensures)) c.state_of-was.ensures
