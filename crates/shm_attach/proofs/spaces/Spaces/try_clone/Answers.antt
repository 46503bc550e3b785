use Rattle.shm_attach.proofs.Names.{◌≡◌, ◌∙◌, refl, ap, LostView, no_reservations, rules, same_from_all_zip}
use Rattle.shm_attach.proofs.Copies.{sound-same}
use Rattle.shm_attach.proofs.spaces.Spaces.try_clone.Goals as goal

pub invariant_of-result : goal.invariant_of-result
invariant_of-result c =
    let same : c.in_ok-clone.field-0.entries ≡ c.self.inside.processes.entries = same_from_all_zip _ _ _ c.in_ok-clone.ensures.cases (λ x y both. search rules) in
    let es = c.self.inside.processes.entries in (
      rw same (sound-same no_reservations es c.self.inside.tables c.in_ok-try_clone.field-0 c.in_ok-try_clone.ensures c.self.invariant.0),
      rw same c.self.invariant.1,
      ap (λ (l : LostView). l.most) c.in_ok-try_clone-2.ensures ∙ c.self.invariant.2,
    )

pub returns : goal.returns
returns c =
    let same : c.in_ok-clone.field-0.entries ≡ c.self.inside.processes.entries = same_from_all_zip _ _ _ c.in_ok-clone.ensures.cases (λ x y both. search rules) in
    rw (← c.self.view_is, same, c.in_ok-try_clone.ensures.slots, c.in_ok-try_clone-2.ensures) refl
