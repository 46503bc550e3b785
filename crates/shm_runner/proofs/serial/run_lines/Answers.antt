use Rattle.shm_runner.proofs.Names.{rules}
use Rattle.shm_runner.proofs.Started.{script-ran}
use Rattle.shm_runner.proofs.serial.run_lines.Goals as goal

pub returns : goal.returns
returns g c =
    let old = c.args.world.now in
    script-ran old.memory.swap c.args.script old.opening.areas old c.reserve.new.self c.requires c.in_ok-reserve.ensures.rest c.run_each.result _ _ _ _ c.run_each.ensures (search rules) (search rules)
