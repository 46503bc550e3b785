use Rattle.shm_life.proofs.Names.{◌≡◌, ◌∙◌, ℕ, ap, length, length-replicate, refl, arith, common_steps, take-append_seam, take-replicate, reply_of, replicate}
use Rattle.shm_base.proofs.Padded.{padded}
use Rattle.shm_life.proofs.Accessing.{acted}
use Rattle.shm_life.proofs.kernel.Kernel.serve_access.Goals as goal

pub reply_with-requires-clause-zeros : goal.reply_with-requires-clause-zeros
reply_with-requires-clause-zeros g c =
    let kept = c.access.auto.there in
    let read : c.args.room ≡ length c.access.new.there = grind (arith, common_steps) in
    rw (← read) at (padded c.access.new.there c.access.new.there c.args.room 64 read c.requires.most refl).1

pub returns-in-Err : goal.returns-in-Err
returns-in-Err g c = λ n.
    let size = length-replicate {A = ℕ} c.args.room 0 in
    let did = rw (take-replicate {X = ℕ} c.args.room 64 0 c.requires.most) at c.in-Err.ensures in
    rw size at (acted c.args.act _ _ n c.args.addr (replicate c.args.room 0) c.access.new.there _ _ (rw size c.requires.fits) did)

pub returns : goal.returns
returns g c = λ n.
    let size = length-replicate {A = ℕ} c.args.room 0 in
    let kept = c.access.auto.there in
    let read : c.args.room ≡ length c.access.new.there = grind (arith, common_steps) in
    let reply : c.reply_with.result ≡ reply_of c.args.act c.args.room c.access.new.there = c.reply_with.ensures ∙ ap (reply_of c.args.act c.args.room) (rw read (take-append_seam c.access.new.there _)) in
    let did = rw (take-replicate {X = ℕ} c.args.room 64 0 c.requires.most) at c.in_default.ensures in
    rw reply (rw size at (acted c.args.act _ _ n c.args.addr (replicate c.args.room 0) c.access.new.there _ _ (rw size c.requires.fits) did))
