use Rattle.std.proofs.Common.{◌≡◌, [], drop}
use Rattle.shm_conditions.specs.Conditions.{has_word_from}
use Rattle.shm_conditions.proofs.reply.has_word.Given as goal

abbrev pub invariant-loop-byte : goal.invariant-loop-byte
invariant-loop-byte l = has_word_from l.word [] l.text ≡ has_word_from l.word l.begun.items (drop l.byte-index l.text)
