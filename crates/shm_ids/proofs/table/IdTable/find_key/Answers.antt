use Rattle.shm_ids.proofs.Names.{rules, pos, ◌≡◌, ◌%◌, sym, ap, ◌∙◌, arith, common_steps, get_or_read, id_at, entry_at, unused, identifier, to_z, of_z, w32}
use Rattle.shm_ids.proofs.Keys.{find_key-get}
use Rattle.shm_ids.proofs.Steps.{named}
use Rattle.shm_ids.proofs.Look.{look-found, identifier-mod}
use Rattle.shm_ids.proofs.table.IdTable.find_key.Goals as goal

pub returns-in_err-index-clause-value : goal.returns-in_err-index-clause-value
returns-in_err-index-clause-value g c = grind (arith, common_steps, find_key-get)

pub index-requires : goal.index-requires
index-requires g c =
    let n = named _ _ c.args.key _ _ c.self.invariant.0 (sym c.in_ok-index.ensures.value) in
    search (rules, n.within)

pub id_of-requires-clause-sequence : goal.id_of-requires-clause-sequence
id_of-requires-clause-sequence g c =
    let n = named _ _ c.args.key _ _ c.self.invariant.0 (sym c.in_ok-index.ensures.value) in
    let read = get_or_read _ _ _ n.within c.index.ensures unused in
    rw read n.wear

pub returns-clause-live : goal.returns-clause-live
returns-clause-live g c =
    let t = c.self.inside.entries.items in
    let got = sym c.in_ok-index.ensures.value in
    let n = named _ _ c.args.key _ _ c.self.invariant.0 got in
    let read = get_or_read _ _ _ n.within c.index.ensures unused in
    let id : c.id_of.result ≡ id_at t c.in_ok-index.field-0.now = c.id_of.ensures ∙ ap (λ e. pos (identifier c.in_ok-index.field-0.now e.destroyed)) read in
    let signed : to_z w32 (of_z w32 c.id_of.result) ≡ c.id_of.result = search rules in
    rw (signed, ← c.self.view_is, id) (look-found t _ c.args.key c.in_ok-index.field-0.now _ c.self.invariant.0 got)

pub returns-clause-index : goal.returns-clause-index
returns-clause-index g c =
    let t = c.self.inside.entries.items in
    let i = c.in_ok-index.field-0.now in
    let got = sym c.in_ok-index.ensures.value in
    let n = named _ _ c.args.key _ _ c.self.invariant.0 got in
    let read = get_or_read _ _ _ n.within c.index.ensures unused in
    let id : c.id_of.result ≡ id_at t i = c.id_of.ensures ∙ ap (λ e. pos (identifier i e.destroyed)) read in
    let own : identifier i (entry_at t i).destroyed % 32768 ≡ i = identifier-mod i (entry_at t i).destroyed n.small in
    grind (arith, common_steps, find_key-get)

pub returns-clause-value : goal.returns-clause-value
returns-clause-value g c = grind (arith, common_steps, named, get_or_read, find_key-get)

pub id_of-requires-clause-index : goal.id_of-requires-clause-index
id_of-requires-clause-index g c = (named _ _ c.args.key _ _ c.self.invariant.0 (sym c.in_ok-index.ensures.value)).small
