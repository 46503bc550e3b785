use Rattle.shm_life.proofs.Names.{◌∙◌, sym}
use Rattle.shm_life.proofs.kernel.Kernel.access.Goals as goal

pub returns-in-Some : goal.returns-in-Some
returns-in-Some g c =
    let asked = rw (c.writes.ensures, c.size.ensures, sym c.as_slice.ensures.value ∙ c.in-Some.ensures.sole) at c.in_ok-spans.ensures.places in
    record { by = rw asked c.act.ensures }

pub returns-in-None : goal.returns-in-None
returns-in-None g c =
    let asked = rw (c.writes.ensures, c.size.ensures) at c.in_ok-spans.ensures.places in
    record { by = rw asked c.act_paged.ensures }
