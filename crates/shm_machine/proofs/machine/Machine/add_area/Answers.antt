use Rattle.std.proofs.Common.{ap, ◌≡◌, ◌∙◌, length, subst}
use Rattle.std.proofs.lemmas.List.{length-replicate}
use Rattle.shm_base.specs.Page.{zero_page}
use Rattle.shm_pager.specs.Areas.{area_pages}
use Rattle.shm_pager_core.specs.Pages.{PagerView}
use Rattle.shm_pager.proofs.Made.{made-seen}
use Rattle.shm_slots.specs.View.{fresh}
use Rattle.shm_life.specs.Enlarging.{IsEnlarged}
use Rattle.shm_machine.specs.Opened.{failing_at, pager_made}
use Rattle.shm_pager_core.specs.declared.failing.Side.TheVariants.{Left, Right}
use Rattle.shm_machine.proofs.machine.Machine.add_area.Goals as goal

pub returns : goal.returns
returns c =
    let a = c.args.area.now in
    let s = c.args.self.now.system in
    let failing = failing_at c.args.failures.now 0 in
    let seen = made-seen a.kind a.slots (failing Left) (failing Right) c.in-Ok.pager c.in-Ok.ensures in
    let slots : length (area_pages c.in-Ok.pager) ≡ a.slots = ap (λ (v : PagerView). length v.pages) seen ∙ length-replicate a.slots zero_page in
    subst (λ n. IsEnlarged n (fresh (pager_made c.args.failures.now 0 a)) s c.add_area.result c.add_area.new.self) slots
    (subst (λ (v : PagerView). IsEnlarged (length (area_pages c.in-Ok.pager)) (fresh v) s c.add_area.result c.add_area.new.self) seen c.add_area.ensures)
