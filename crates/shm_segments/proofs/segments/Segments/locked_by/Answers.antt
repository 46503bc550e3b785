use Rattle.shm_segments.proofs.Names.{arith, ◌≡◌, sym, ap, ◌∙◌, locked, locked_by_user, locked_of_rows, held, SegmentsView}
use Rattle.shm_segments.proofs.Sums.{locked-joined, locked_by-all, locked_by-joined, locked_by-none}
use Rattle.shm_segments.proofs.segments.Segments.locked_by.Goals as goal

pub returns-then-self-eq0-clause-value : goal.returns-then-self-eq0-clause-value
returns-then-self-eq0-clause-value g c =
    let none : locked_of_rows c.self.inside.table ≡ 0 = omega (arith, c.self.invariant.kept.locked, c.if-self-eq0) in
    sym (locked_by-none c.args.user c.self.inside.table none) ∙ sym (locked_by-joined c.args.user (held c.self.inside.store) c.self.inside.table c.self.invariant.kept.agree)
    ∙ ap (λ (v : SegmentsView). locked_by_user c.args.user v.table) c.self.view_is

pub returns-clause-value : goal.returns-clause-value
returns-clause-value g c =
    c.locked_in.ensures ∙ sym (locked_by-joined c.args.user (held c.self.inside.store) c.self.inside.table c.self.invariant.kept.agree)
    ∙ ap (λ (v : SegmentsView). locked_by_user c.args.user v.table) c.self.view_is

pub returns-clause-few : goal.returns-clause-few
returns-clause-few g c =
    let total : locked_of_rows c.self.inside.table ≡ locked c.args.self.now.table =
    sym (locked-joined (held c.self.inside.store) c.self.inside.table c.self.invariant.kept.agree) ∙ ap (λ (v : SegmentsView). locked v.table) c.self.view_is in
    omega (arith, c.locked_in.ensures, locked_by-all c.args.user c.self.inside.table, total)
