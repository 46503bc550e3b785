use Rattle.shm_program.proofs.Names.{◌≡◌, ap, sym, ◌∙◌, Ok, script_of, IsFaultOf, short_script, is_serial, is_reading}
use Rattle.shm_program.proofs.Causes.{refusals, whole_input, refused_serial, refused_reading}
use Rattle.shm_program.proofs.ends.whole_script.Goals as goal

pub returns-in-Ok-clause-read : goal.returns-in-Ok-clause-read
returns-in-Ok-clause-read g c =
    let read : script_of c.in_ok-input.input.items ≡ Ok c.in-Ok.script = ap script_of (sym c.deref.ensures.value) ∙ c.in-Ok.ensures.read in
    whole_input _ _ c.in_ok-input.input.items c.in-Ok.script c.in_ok-input.ensures.taken (c.in_ok-input.ensures.whole (short_script _ _ read)) read

pub returns-in-Ok-clause-whole : goal.returns-in-Ok-clause-whole
returns-in-Ok-clause-whole g c =
    let read : script_of c.in_ok-input.input.items ≡ Ok c.in-Ok.script = ap script_of (sym c.deref.ensures.value) ∙ c.in-Ok.ensures.read in
    c.in_ok-input.ensures.whole (short_script _ _ read)

pub returns-clause-cause : goal.returns-clause-cause
returns-clause-cause g c =
    let same = c.deref.ensures.value in
    let fault : IsFaultOf c.in-Err.refusal (script_of c.in_ok-input.input.items) = rw (← same) c.in-Err.ensures.fault in
    rw c.refused.ensures (refusals c.in-Err.refusal _ _ c.in_ok-input.input.items c.in_ok-input.ensures.taken c.in_ok-input.ensures.whole fault)

pub returns-clause-serial : goal.returns-clause-serial
returns-clause-serial g c = ap is_serial c.refused.ensures ∙ refused_serial c.in-Err.refusal

pub returns-clause-which : goal.returns-clause-which
returns-clause-which g c = ap is_reading c.refused.ensures ∙ refused_reading c.in-Err.refusal
