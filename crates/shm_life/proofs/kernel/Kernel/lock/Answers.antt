use Rattle.shm_life.proofs.Names.{arith, rules, ◌≡◌, ◌%◌, ◌≤◌, length, List, [], Some, None, refl, sym, ap, ◌∙◌, to_z, of_z, w32, Entry, change, locked, lockable, locks, locks_unless, gives, Done, IsFound, relocked, segment_seen, caller_seen, change-index, Head, whole, StoreView, lock_refusal}
use Rattle.shm_life.proofs.Changed.{relocked-well, lock-few, lock-granted}
use Rattle.shm_life.proofs.Running.{refused_as, keeps_refl, locking}
use Rattle.shm_life.proofs.kernel.Kernel.lock.Given.{Over}
use Rattle.shm_life.proofs.kernel.Kernel.lock.Goals as goal
use Rattle.shm_life.proofs.kernel.Kernel.lock.Goals.{In_default}

few : (g : Over) (c : In_default g) → locked (change c.self.inside.segments.table c.in_ok-found.found.seg (relocked (Some c.args.caller.now.cred.uid))) ≤ lockable c.self.inside.limits
few g c =
    let t = c.self.inside.segments.table in
    let f = c.in_ok-found.found in
    let cred = c.args.caller.now.cred in
    let found : IsFound t f = rw (← c.self.view_is) at c.in_ok-found.ensures.found in
    let none : lock_refusal c.self.inside.limits cred t (segment_seen t f) ≡ None = rw (← c.self.view_is) at (sym c.lock_refusal.ensures ∙ c.in_default.is) in
    lock-few t f c.self.inside.limits cred found c.self.invariant.0.kept.locked (lock-granted c.self.inside.limits cred t (segment_seen t f) none).1

pub returns-in-Some : goal.returns-in-Some
returns-in-Some g c = λ n.
    let m = c.args.self.now.flat in
    let f = c.in_ok-found.found in
    let k = caller_seen c.args.caller.now m.runners in
    let refusal : lock_refusal m.limits k.cred m.table (segment_seen m.table f) ≡ Some c.in-Some.errno = sym c.lock_refusal.ensures ∙ c.in-Some.is in
    let signed : to_z w32 (of_z w32 c.args.id) ≡ c.args.id = search rules in
    refused_as _ _ _ _ _ (rw signed at (c.in_ok-found.ensures.ok (locks m k)) ∙ ap (locks_unless m k (f.seg % 32768)) refusal)

pub set_locked-requires-clause-few : goal.set_locked-requires-clause-few
set_locked-requires-clause-few g c = λ _.
    let few = few g (goal.at.set_locked-requires-clause-few g c).In_default in
    omega (arith, few, c.self.invariant.0.frames, c.self.invariant.0.room)

pub invariant_of-self : goal.invariant_of-self
invariant_of-self g c = (
  (let few = few g (goal.at.invariant_of-self g c).In_default in
      rw c.set_locked.ensures.table (relocked-well _ _ _ _ _ _ c.in_ok-found.found.seg (Some c.args.caller.now.cred.uid) c.self.invariant.0 few (ap (λ (m : StoreView). length m.frames) c.set_locked.ensures.only) c.set_locked.ensures.still)),
  c.self.invariant.1,
  c.self.invariant.2,
)

pub returns : goal.returns
returns g c = λ n.
    let m = c.args.self.now.flat in
    let f = c.in_ok-found.found in
    let k = caller_seen c.args.caller.now m.runners in
    let none : lock_refusal m.limits k.cred m.table (segment_seen m.table f) ≡ None = sym c.lock_refusal.ensures ∙ c.in_default.is in
    let act : locks m k (f.seg % 32768) (segment_seen m.table f) ≡ gives (record m { table = change m.table f.seg (relocked (Some k.cred.uid)) }) Done =
    ap (locks_unless m k (f.seg % 32768)) none
    ∙ ap (λ (t : List Entry). gives (record m { table = t }) Done) (change-index {T = Head} (whole []) m.table f.seg (relocked (Some k.cred.uid))) in
    let signed : to_z w32 (of_z w32 c.args.id) ≡ c.args.id = search rules in
    let step = rw signed at (c.in_ok-found.ensures.ok (locks m k)) ∙ act ∙ rw (← c.self.view_is, c.set_locked.ensures.table, c.set_locked.ensures.only) refl in
    locking _ _ _ _ step refl (search (rules, keeps_refl)) (rw (← c.self.view_is) c.set_locked.ensures.moves)
