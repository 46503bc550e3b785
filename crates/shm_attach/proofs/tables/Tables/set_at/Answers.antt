use Rattle.shm_attach.proofs.Names.{arith, ◌≡◌, ◌∙◌, ap, sym, subst, Some, get, with_value, seg_in, TrueSlot}
use Rattle.shm_attach.proofs.Tied.{counts-kept, tables-kept, tied-table, update-value, true-set}
use Rattle.shm_attach.proofs.tables.Tables.set_at.Goals as goal

pub set-requires : goal.set-requires
set-requires c =
    let both : Some c.in-Some.table.now.seg ≡ Some c.args.page.seg = ap seg_in c.in-Some.ensures.value ∙ c.requires.own in
    cc both

pub returns-in-Some : goal.returns-in-Some
returns-in-Some c =
    let t = c.args.self.now in
    let key = c.args.key in
    let w = c.in-Some.table.now in
    let v = c.set.new.self in
    let there : get t.slab key ≡ Some w = sym c.in-Some.ensures.value in
    record {
      counts = counts-kept t key w v c.requires.tied there c.set.ensures.rest;
      tables = tables-kept t key w v c.requires.tied there c.set.ensures.rest (omega (arith, c.set.ensures.pages));
      translated = λ at all.
          true-set at c.args.page c.args.frame t (with_value t.slab key v) key v c.requires.tied (c.requires.tied.named c.args.page.seg key c.requires.own)
          (update-value t.slab key w v there) (c.set.ensures.translated at (subst (λ o. TrueSlot at o) there (all key))) all;
      tied = tied-table t key w v c.requires.tied there c.set.ensures.rest;
    }
