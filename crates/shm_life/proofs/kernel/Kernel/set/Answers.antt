use Rattle.shm_life.proofs.Names.{rules, ◌≡◌, ◌%◌, ◌∙◌, List, [], Bool, false, if◌then◌else◌, refl, sym, ap, to_z, of_z, w32, Entry, change, gives, Done, segment_seen, reowned, change-index, change-same, Head, whole, refuses, is_no_owner, sets, Einval}
use Rattle.shm_life.proofs.Running.{unmoved}
use Rattle.shm_life.proofs.Settled.{still-well}
use Rattle.shm_life.proofs.kernel.Kernel.set.Goals as goal

pub invariant_of-self : goal.invariant_of-self
invariant_of-self g c = (
  (let f = reowned c.args.time c.args.uid c.args.gid c.args.mode in
      let same = change-same f (λ s. refl) (λ s. refl) (λ s. refl) c.self.inside.segments.table c.in_ok-found.found.seg in
      rw c.set_owner.ensures (still-well _ _ _ _ _ _ _ _ c.self.invariant.0 same refl c.self.invariant.0.translated)),
  c.self.invariant.1,
  c.self.invariant.2,
)

pub returns : goal.returns
returns g c =
    let m = c.args.self.now.flat in
    let f = c.in_ok-found.found in
    let own = reowned c.args.time c.args.uid c.args.gid c.args.mode in
    let fit : is_no_owner m c.args.uid c.args.gid ≡ false = sym c.is_no_owner.ensures ∙ c.if-is_no_owner.false in
    let act : sets m c.args.time c.args.uid c.args.gid c.args.mode (f.seg % 32768) (segment_seen m.table f) ≡ gives (record m { table = change m.table f.seg own }) Done =
    ap (λ (b : Bool). if b then refuses m Einval else gives (record m { table = change m.table (f.seg % 32768) own }) Done) fit
    ∙ ap (λ (t : List Entry). gives (record m { table = t }) Done) (change-index {T = Head} (whole []) m.table f.seg own) in
    let signed : to_z w32 (of_z w32 c.args.id) ≡ c.args.id = search rules in
    let step = rw signed at (c.in_ok-found.ensures.ok (sets m c.args.time c.args.uid c.args.gid c.args.mode)) ∙ act ∙ rw (← c.self.view_is, c.set_owner.ensures) refl in
    unmoved _ _ _ _ _ step (rw (← c.self.view_is, c.set_owner.ensures) refl)
