-- The rules of Linux with which a script's machine is opened.
use Rattle.std.specs.Prelude.{Option, Some, None}
use Rattle.shm_base.specs.declared.flags.Rules.{Rules}
use Rattle.shm_text.specs.Script.{ScriptView}
use Rattle.shmcheck.specs.declared.ruling.RuleSet.{RuleSet}
use Rattle.shmcheck.specs.declared.ruling.RuleSet.TheVariants.{Own, Profile, Linux}

-- the rules that replace the script's own, if any do: none of the rules, or all of them
abbrev pub rules_of : RuleSet → Option Rules
rules_of Own = None
rules_of Profile = Some (record { 0 = 0 })
rules_of Linux = Some (record { 0 = 2047 })

abbrev pub opened_with : ScriptView → Option Rules → ScriptView
opened_with script None = script
opened_with script (Some rules) = record script { limits = record script.limits { rules = rules } }

-- the script, opened with these rules
abbrev pub under : RuleSet → ScriptView → ScriptView
under set script = opened_with script (rules_of set)
