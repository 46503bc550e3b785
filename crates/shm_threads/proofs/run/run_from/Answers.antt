use Rattle.shm_threads.proofs.Names.{◌≡◌, ◌≤◌, None, ap, arith, length, refl, subst, WorldState, ScriptView, IsOver, rounds_of}
use Rattle.shm_threads.proofs.Kept.{kept-all}
use Rattle.shm_threads.proofs.Over.{outcome-of}
use Rattle.shm_threads.proofs.Passing.{passed-all}
use Rattle.shm_threads.proofs.Turns.{as-long}
use Rattle.shm_threads.proofs.run.run_from.Goals as goal

pub transcripts_of-transcripts-requires-clause-room : goal.transcripts_of-transcripts-requires-clause-room
transcripts_of-transcripts-requires-clause-room g c =
    let strands = c.in_ok-world.field-0.strands in
    let long = as-long strands.items g.O.Origin.script.processes c.in_ok-world.ensures.over.1.0.running.listed in
    let same : length g.O.Origin.script.processes ≡ length c.args.script.now.processes = ap (λ (s : ScriptView). length s.processes) c.requires.script in
    omega (arith, long, same, c.requires.room.transcripts_fit, strands.ok.0)

pub returns-clause-outcome : goal.returns-clause-outcome
returns-clause-outcome g c =
    let w = c.args.world in
    let script = c.args.script.now in
    let left = c.in_ok-world.field-0 in
    let (made, (over, passed)) = c.in_ok-world.ensures.over in
    let Ends : ScriptView → WorldState → Type 0 = λ s start. IsOver s start left.world left.strands.items made None in
    let here : Ends script w = subst (λ (s : ScriptView). Ends s w) c.requires.script (subst (Ends g.O.Origin.script) c.requires.start over) in
    outcome-of script w left.world w.room left.strands.items made c.transcripts_of-transcripts.result.items here c.history.ensures.legal c.transcripts_of-transcripts.ensures

pub returns-clause-entries : goal.returns-clause-entries
returns-clause-entries g c = kept-all g.O.Origin.is_kept c.in_ok-world.field-0.strands.items c.transcripts_of-transcripts.result.items c.transcripts_of-transcripts.ensures c.in_ok-world.ensures.entries

pub returns-clause-passed : goal.returns-clause-passed
returns-clause-passed g c =
    let script = c.args.script.now in
    let left = c.in_ok-world.field-0 in
    let (made, (over, passed)) = c.in_ok-world.ensures.over in
    let few : length (rounds_of script.lines) ≤ made = subst (λ (s : ScriptView). length (rounds_of s.lines) ≤ made) c.requires.script (over.flushed refl) in
    passed-all g.O.Origin.answers script left.strands.items made c.transcripts_of-transcripts.result.items few c.transcripts_of-transcripts.ensures passed
