use Rattle.shm_text.proofs.Names.{common_steps, rules, arith, ◌≡◌, ap, refl, [], ◌∷◌, ◌++◌, length, SeenView, lines_of, with_item}
use Rattle.shm_text.proofs.Cut.{length-lines_of-le}
use Rattle.shm_text.proofs.ItemSteps.{goes_on, goes_wrong, goes_to_end, starts, counts_on, limits_go_on, keeps_on, said_wrong, said_by, ok_with}
use Rattle.shm_text.proofs.reading.read_lines.Goals as goal

pub loop-lines-init : goal.loop-lines-init
loop-lines-init c = record {
  so_far = (
    [],
    (
      rw c.new-seen.ensures (starts (lines_of c.args.bytes.now) c.of-lines.result.left c.of-lines.ensures),
      rw c.new-seen.ensures refl,
      λ whole. (c.new-kept.ensures.processes, c.new-kept.ensures.lines),
    ),
  );
  count = grind (arith, common_steps, length-lines_of-le);
  commands = rw c.new-seen.ensures (omega arith);
}

pub loop-lines-preserved : goal.loop-lines-preserved
loop-lines-preserved c =
    let (front, known) = c.loop-lines.invariant.so_far in
    let left : c.loop-lines.lines.left ≡ c.next.new.self.line ∷ c.next.new.self.left = search rules in
    let took = c.in-Ok.ensures.ok in
    record {
      so_far = (
        front ++ with_item took.item [],
        (
          goes_on c.next.new.self.line c.next.new.self.left took.item _ known.0 left took.is took.counts,
          limits_go_on front c.loop-lines.seen c.take_line.new.seen took.item known.1 took.counts,
          keeps_on front c.loop-lines.kept c.take_line.new.kept took.item known.2 took.keeps,
        ),
      );
      count = omega (arith, c.loop-lines.invariant.count, ap length left);
      commands = omega (arith, c.loop-lines.invariant.commands, counts_on c.loop-lines.seen took.item, ap (λ (s : SeenView). s.commands) took.counts);
    }

pub returns-in-Err-clause-fault : goal.returns-in-Err-clause-fault
returns-in-Err-clause-fault c =
    let (front, known) = c.loop-lines.invariant.so_far in
    said_wrong _ _ (goes_wrong c.next.new.self.line c.next.new.self.left c.in-Err.kind known.0 (search rules) c.in-Err.ensures.err)

pub returns-in_default-clause-fault : goal.returns-in_default-clause-fault
returns-in_default-clause-fault c = grind (arith, common_steps, said_by, goes_to_end)

pub returns-in-Some-script-clause-read : goal.returns-in-Some-script-clause-read
returns-in-Some-script-clause-read c = grind (arith, common_steps, said_by, goes_to_end)

pub returns-in-None-clause-fault : goal.returns-in-None-clause-fault
returns-in-None-clause-fault c = grind (arith, common_steps, said_by, goes_to_end, ok_with)
