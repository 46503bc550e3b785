use Rattle.shm_text.proofs.Names.{rules, ◌≡◌, ltb, true, false, Some, refl, le-ltb, command_of}
use Rattle.std.proofs.lemmas.Bool.{lt-ltb}
use Rattle.shm_text.proofs.FirstWords.{command_said}
use Rattle.shm_text.proofs.forms.take_command.Goals as goal

pub returns-clause-ok : goal.returns-clause-ok
returns-clause-ok c =
    let said = command_said c.args.seen.now c.args.words.now c.in_ok-pid.pid c.in_ok-call.call c.in_ok-pid-2.pid c.requires.command (search rules) (search rules) (search rules) in
    let few : ltb c.args.seen.now.commands 100000 ≡ true = lt-ltb _ _ (rw c.commands.ensures at c.if-commands-ge-MOST_COMMANDS.false) in
    record {
      item = Some (command_of c.in_ok-pid-2.pid c.taker-var.result c.in_ok-call.call);
      is = rw (said, few, c.taker-var.ensures) refl;
      counts = c.count.ensures;
      keeps = c.line.ensures;
    }

pub returns-then-commands-ge-MOST_COMMANDS-clause-err : goal.returns-then-commands-ge-MOST_COMMANDS-clause-err
returns-then-commands-ge-MOST_COMMANDS-clause-err c =
    let said = command_said c.args.seen.now c.args.words.now c.in_ok-pid.pid c.in_ok-call.call c.in_ok-pid-2.pid c.requires.command (search rules) (search rules) (search rules) in
    let many : ltb c.args.seen.now.commands 100000 ≡ false = le-ltb _ _ (rw c.commands.ensures at c.if-commands-ge-MOST_COMMANDS.true) in
    rw (said, many) refl
