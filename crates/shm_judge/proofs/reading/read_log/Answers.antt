use Rattle.shm_judge.proofs.Names.{rules, ◌<◌, arith, length, entries_of}
use Rattle.shm_judge.proofs.Entries.{one-line, refused-line}
use Rattle.shm_judge.proofs.reading.read_log.Goals as goal

pub loop-rest-preserved : goal.loop-rest-preserved
loop-rest-preserved c =
    let some : 0 < length c.loop-rest.rest.now = search rules in
    let shorter = c.past-rest.ensures.shorter some in
    record {
      number = omega (arith, shorter, c.loop-rest.invariant.number);
      entries =
          one-line c.args.script.now.processes c.loop-rest.number c.loop-rest.rest.now c.until.result.now c.past-rest.result.now c.loop-rest.entries.items c.put_line.new.entries.items (entries_of c.args.script.now c.args.text.now) c.loop-rest.invariant.entries
          some c.until.ensures c.past-rest.ensures.value c.in_default.ensures.ok;
    }

pub returns-in-Err-clause-err : goal.returns-in-Err-clause-err
returns-in-Err-clause-err c =
    let some : 0 < length c.loop-rest.rest.now = search rules in
    refused-line c.args.script.now.processes c.loop-rest.number c.loop-rest.rest.now c.until.result.now c.loop-rest.entries.items (entries_of c.args.script.now c.args.text.now) c.in-Err.refused c.loop-rest.invariant.entries some c.until.ensures c.in-Err.ensures.err
