use Rattle.nogcuvema.proofs.Names.{rules, tests}
use Rattle.nogcuvema.proofs.about.text_of.Goals as goal

pub returns-in_default : goal.returns-in_default
returns-in_default c = search (tests, rules)
