use Rattle.shm_threads.proofs.Names.{Bool, All, IfOk, subst, sym, IfErr-weaker, IfOk-weaker, CanEnd, CanStop, IsOutcome, IsKeptAs, HasEntries}
use Rattle.shm_threads.proofs.Least.{stop-end}
use Rattle.shm_threads.proofs.Over.{outcome-passed}
use Rattle.shm_threads.proofs.run.run_with.Goals as goal

pub returns-clause-outcome : goal.returns-clause-outcome
returns-clause-outcome g c =
    let script = c.args.script.now in
    let old = c.args.world in
    let new = c.prepared.new.world in
    IfOk-weaker c.run_from.result (λ r. IsOutcome script new r.0.world r.0.transcripts.items) (λ r. IsOutcome script old r.0.world r.0.transcripts.items)
    (λ r. outcome-passed script old new r.0.world r.0.transcripts.items c.in-Ok.ensures.rest) c.run_from.ensures.outcome

pub returns-clause-error : goal.returns-clause-error
returns-clause-error g c =
    let script = c.args.script.now in
    let answers = g.G.Gate.answers c.args.gate.now in
    let old = c.args.world in
    let new = c.prepared.new.world in
    IfErr-weaker c.run_from.result (CanStop answers script new) (CanEnd answers script old) (λ e. stop-end answers script old new e c.in-Ok.ensures.rest) c.run_from.ensures.error

pub run_from-requires-clause-entries : goal.run_from-requires-clause-entries
run_from-requires-clause-entries g c κs within = subst (λ (b : Bool). All (IsKeptAs b) c.in-Ok.start.strands.items) (sym c.in-Ok.ensures.kept_as) c.in-Ok.ensures.kept

pub returns-clause-entries : goal.returns-clause-entries
returns-clause-entries g c = subst (λ (b : Bool). IfOk c.run_from.result (λ r. All (HasEntries b) r.0.transcripts.items)) c.in-Ok.ensures.kept_as c.run_from.ensures.entries
