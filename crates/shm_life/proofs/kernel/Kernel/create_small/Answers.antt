use Rattle.shm_life.proofs.Names.{to_z, of_z, w32, rules, ◌∙◌, ◌≡◌, ◌+◌, ◌≤◌, ℕ, Some, ap, pages_of, reserved, frame_of, made, KeepsMemory}
use Rattle.shm_life.proofs.Created.{created-kept}
use Rattle.shm_life.proofs.Attaching.{on-err}
use Rattle.shm_life.proofs.Running.{true_still}
use Rattle.shm_life.proofs.kernel.Kernel.create_small.Goals as goal

pub invariant_of-self-2 : goal.invariant_of-self-2
invariant_of-self-2 g c = (
  (let h = c.new_head-head.result in
      let size : h.size ≡ c.args.size = ap (λ x. x.size) c.new_head-head.ensures in
      let room : reserved c.self.inside.segments.table + pages_of h.size ≤ c.self.inside.limits.shmall = rw size (rw (← c.self.view_is) at c.requires.shmall) in
      let signed : to_z w32 (of_z w32 c.in-Some.id) ≡ c.in-Some.id = search rules in
      let ok : made c.self.inside.segments.table c.args.key h ≡ Some (c.in-Some.id, c.create.new.self.table) = rw signed at c.in_ok-create.ensures.ok in
      let keeps : KeepsMemory c.self.inside.segments.memory c.create.new.self.memory = c.in_ok-create.ensures.keeps in
      let still : (s page : ℕ) → frame_of c.create.new.self.memory s page ≡ frame_of c.self.inside.segments.memory s page = c.create.ensures.still in
      record {
        kept = created-kept c.self.inside.limits c.self.inside.segments.table c.create.new.self.table c.self.inside.spaces.runners c.args.key h c.in-Some.id c.self.invariant.0.kept ok
            room (ap (λ x. x.dest) c.new_head-head.ensures) (ap (λ x. x.locked) c.new_head-head.ensures);
        frames = keeps.frames ∙ c.self.invariant.0.frames;
        room = c.self.invariant.0.room;
        translated = true_still c.self.inside.spaces.translations c.self.inside.segments.memory c.create.new.self.memory still c.self.invariant.0.translated;
      }),
  c.self.invariant.1,
  c.self.invariant.2,
)

pub returns-in_err-create-clause-memory : goal.returns-in_err-create-clause-memory
returns-in_err-create-clause-memory g c = on-err c.from_residual.result (record { unchanged = search rules; instead = search rules })
