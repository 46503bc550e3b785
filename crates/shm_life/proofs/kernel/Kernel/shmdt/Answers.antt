use Rattle.shm_life.proofs.Names.{rules, ◌∙◌, ◌≡◌, ◌∷◌, [], refl, sym, Some, Piece, Machine, origin_of, IsCaller, caller_seen, pieces_at, sizes, shmdt-named, option_map}
use Rattle.shm_life.proofs.Settled.{well-kept}
use Rattle.shm_life.proofs.Going.{Goes, swept-may, named-go}
use Rattle.shm_life.proofs.Running.{granted, kept_refl}
use Rattle.shm_life.proofs.kernel.Kernel.shmdt.Given.{Over}
use Rattle.shm_life.proofs.kernel.Kernel.shmdt.Goals as goal
use Rattle.shm_life.proofs.kernel.Kernel.shmdt.Goals.{In-Some}

named : (g : Over) (c : In-Some g) → option_map (λ (p : Piece). p.seg) (origin_of c.args.addr (pieces_at c.self.inside.spaces.runners c.args.caller.now.index)) ≡ Some c.in-Some.seg
named g c = sym c.detach.ensures.segment ∙ c.in-Some.is

goes : (g : Over) (c : In-Some g) → Goes c.self.inside.limits c.self.inside.segments.table c.detach.new.self.runners (c.in-Some.seg ∷ [])
goes g c =
    let caller = c.args.caller.now in
    let rs = c.self.inside.spaces.runners in
    let is : IsCaller caller rs = rw (← c.self.view_is) at c.requires in
    rw c.in-Some.ensures.gone (named-go c.self.inside.limits c.self.inside.segments.table rs caller c.self.invariant.0.kept is c.args.addr c.in-Some.seg (named g c))

pub after_detach-requires : goal.after_detach-requires
after_detach-requires g c = swept-may _ _ _ (goes g (goal.at.after_detach-requires g c).In-Some)

pub invariant_of-self : goal.invariant_of-self
invariant_of-self g c = rw c.in_default.ensures.none c.self.invariant

pub invariant_of-self-2 : goal.invariant_of-self-2
invariant_of-self-2 g c = (
  (let translated = c.detach.ensures.translated c.self.inside.segments.memory c.self.invariant.0.translated in
      c.after_detach.ensures.well c.self.inside.limits (well-kept _ _ _ _ _ _ _ _ c.self.invariant.0 (goes g (goal.at.invariant_of-self-2 g c).In-Some).kept translated)),
  c.detach.ensures.most ∙ c.self.invariant.1,
  c.self.invariant.2,
)

pub returns : goal.returns
returns g c =
    let rs = c.self.inside.spaces.runners in
    let m : Machine = record { limits = c.self.inside.limits; areas = sizes c.self.inside.segments.memory.swap; table = c.self.inside.segments.table; runners = rs; host_ranges = c.self.inside.host_ranges.items } in
    let step = shmdt-named m c.args.time (caller_seen c.args.caller.now rs) c.args.addr c.in-Some.seg (named g (goal.at.returns g c).In-Some) in
    granted _ _ _ _ _ _ (rw (← c.self.view_is) (step ∙ rw (c.after_detach.ensures.sizes, c.after_detach.ensures.table, c.in-Some.ensures.gone) refl)) refl (search (rules, kept_refl)) (rw (← c.self.view_is) c.after_detach.ensures.ends.moves)
