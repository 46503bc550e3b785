use Rattle.shm_attach.proofs.Names.{◌≡◌, ◌%◌, Some, inl, inr, cases_eq, eq-eqb, eqb-true, refl, sym, entry_at}
use Rattle.shm_attach.proofs.ByIndex.{alone-none, alone-other, alone-own}
use Rattle.shm_attach.proofs.keys.Keys.is_only_at.Goals as goal

pub returns-in-Some : goal.returns-in-Some
returns-in-Some c =
    let es = c.self.inside.entries.items in
    let seg = c.args.seg in
    let e = c.in-Some.keyed in
    let at : entry_at es (seg % 32768) ≡ Some e = sym c.in-Some.ensures in (
      λ is. rw (← c.self.view_is) (alone-own es seg e at (eqb-true e.seg seg is)),
      λ alone. elim (cases_eq e.seg seg) [
        | inl same ↦ eq-eqb e.seg seg same
        | inr ne ↦ absurd (alone-other es seg e c.self.invariant at ne (rw (← c.self.view_is) at alone))
      ],
    )

pub returns-in-None : goal.returns-in-None
returns-in-None c = (λ is. rw (← c.self.view_is) (alone-none c.self.inside.entries.items c.args.seg (sym c.in-None.ensures)), λ alone. refl)
