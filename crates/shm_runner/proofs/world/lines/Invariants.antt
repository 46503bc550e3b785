use Rattle.shm_runner.proofs.Names.{◌≡◌, ◌+◌, ◌++◌, drop, string_bytes, events_text}
use Rattle.shm_runner.proofs.world.lines.Given as goal

-- the lines so far, and then those of what is left
abbrev pub invariant-loop-event : goal.invariant-loop-event
invariant-loop-event l = record {
  printed : string_bytes l.text ++ events_text l.place (drop l.event-index l.events) ≡ events_text 1 l.events;
  count : l.place ≡ 1 + l.event-index;
}
