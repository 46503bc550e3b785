use Rattle.shm_life.proofs.Names.{◌≡◌, ◌+◌, ◌-◌, ◌<◌, true, false, None, length, get_or, sym, ◌∙◌, arith, common_steps, nat_tests, within, Process, nat_eq, LAST_PID}
use Rattle.std.specs.HashSet as set
use Rattle.shm_life.proofs.Pids.{out_of_range, twice, one_more, has_more}
use Rattle.shm_life.proofs.start.are_listed_pids_sound.Goals as goal

abbrev nobody : Process
nobody = record { pid = 0; born = None }

pub returns-then-not-is_pid : goal.returns-then-not-is_pid
returns-then-not-is_pid c =
    let ps = c.args.processes.now in
    let i = c.loop-index.index in
    let lt : i - 1 < length ps = omega (arith, c.loop-index.invariant.within, c.loop-index-test.true) in
    let next : i ≡ i - 1 + 1 = omega (arith, c.loop-index-test.true) in
    let out : within 1 LAST_PID (get_or ps (i - 1) nobody).pid ≡ false = grind (arith, nat_tests, c.is_pid.ensures, c.if-not-is_pid.true) in
    sym (out_of_range ps (i - 1) i nobody lt next out)

pub returns-then-not-branch : goal.returns-then-not-branch
returns-then-not-branch c =
    let ps = c.args.processes.now in
    let i = c.loop-index.index in
    let pid = (get_or ps (i - 1) nobody).pid in
    let lt : i - 1 < length ps = omega (arith, c.loop-index.invariant.within, c.loop-index-test.true) in
    let next : i ≡ i - 1 + 1 = omega (arith, c.loop-index-test.true) in
    let there : set.contains nat_eq c.loop-index.later pid ≡ true = grind (arith, nat_tests, c.in_ok-insert.ensures.added, c.if-not-branch.true) in
    sym (twice ps (i - 1) i nobody lt next (sym (c.loop-index.invariant.seen pid) ∙ there))

pub loop-index-preserved : goal.loop-index-preserved
loop-index-preserved c =
    let ps = c.args.processes.now in
    let i = c.loop-index.index in
    let pid = (get_or ps (i - 1) nobody).pid in
    let lt : i - 1 < length ps = omega (arith, c.loop-index.invariant.within, c.loop-index-test.true) in
    let next : i ≡ i - 1 + 1 = omega (arith, c.loop-index-test.true) in
    let ranges : within 1 LAST_PID pid ≡ true = grind (arith, nat_tests, c.is_pid.ensures, c.if-not-is_pid.false) in
    let new : set.contains nat_eq c.loop-index.later pid ≡ false = grind (arith, nat_tests, c.in_ok-insert.ensures.added, c.if-not-branch.false) in
    record {
      within = omega (arith, c.loop-index.invariant.within);
      sound = one_more ps (i - 1) i nobody lt next ranges (sym (c.loop-index.invariant.seen pid) ∙ new) c.loop-index.invariant.sound;
      seen = λ q. grind (arith, nat_tests, common_steps, c.in_ok-insert.ensures.updates.0 q, c.loop-index.invariant.seen q, has_more ps (i - 1) i nobody q lt next);
    }
