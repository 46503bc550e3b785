use Rattle.shm_runner.proofs.Names.{◌≡◌, subst, sym, silents_as, written_as, IsOutput, world_text}
use Rattle.shm_runner.proofs.Opened.{sound-world, starts}
use Rattle.shm_runner.proofs.Texts.{serial_text}
use Rattle.shm_runner.proofs.serial.run_in.Goals as goal

pub run_lines-requires : goal.run_lines-requires
run_lines-requires g c =
    let law = c.lawful-sound.ensures in
    let w = c.args.world.now in
    starts c.args.script w c.requires.opened c.requires.events c.requires.memory (sound-world w _ law.events law.legal law.counted law.exact law.laws)

pub returns-in-Ok-clause-ok : goal.returns-in-Ok-clause-ok
returns-in-Ok-clause-ok g c =
    let w = c.run_lines.new.world in
    let swap = c.args.world.now.memory.swap in
    let areas = c.args.world.now.opening.areas in
    let (start, steps, ran) = c.in-Ok.ensures in
    let output = serial_text g.P.Pager.failed swap c.args.script areas start steps w ran c.write_world.ensures.sound c.write_world.ensures.counted in
    written_as (IsOutput g.P.Pager.failed swap c.args.script areas) c.write_world.result _ _ (world_text w) output c.write_world.ensures.written

pub returns-in-Ok-clause-silent : goal.returns-in-Ok-clause-silent
returns-in-Ok-clause-silent g c =
    let w = c.run_lines.new.world in
    let swap = c.args.world.now.memory.swap in
    let areas = c.args.world.now.opening.areas in
    let (start, steps, ran) = c.in-Ok.ensures in
    let output = serial_text g.P.Pager.failed swap c.args.script areas start steps w ran c.write_world.ensures.sound c.write_world.ensures.counted in
    let IsText = IsOutput g.P.Pager.failed swap c.args.script areas in
    silents_as (λ text. text ≡ world_text w) IsText c.write_world.result _ _ (λ text e. subst IsText (sym e) output) c.write_world.ensures.silent
