use Rattle.shm_areas.proofs.Names.{◌≡◌, ◌-◌, leb, leb-true, length, get_or, sym, ap, arith, rules, leb-false, get_or_from_slice_get, lowest_address, Piece}
use Rattle.std.proofs.lemmas.List.Sorted.{IsPartitionPoint-from_clause, IsPartitionedBy-leb}
use Rattle.shm_areas.proofs.Placing.{rising}
use Rattle.shm_areas.proofs.search.count_to.Goals as goal

pub returns-then-last-addr-clause-below : goal.returns-then-last-addr-clause-below
returns-then-last-addr-clause-below c k d lt =
    let pieces = c.args.pieces.now in
    let is_last : (get_or pieces (length pieces - 1) d).base ≡ c.in-Some.last.now.base =
    ap (λ (p : Piece). p.base) (get_or_from_slice_get pieces (length pieces - 1) c.in-Some.last.now d (sym c.in-Some.ensures.value)) in
    let up = rising lowest_address pieces c.requires k (length pieces - 1) d (omega arith) (omega arith) in
    omega (arith, up, is_last, c.if-last-addr.true)

pub returns : goal.returns
returns c =
    let parted = IsPartitionedBy-leb (λ p. p.base) _ c.args.addr (rising lowest_address c.args.pieces.now c.requires) in
    let point = IsPartitionPoint-from_clause (λ p. leb p.base c.args.addr) _ _ c.partition_point.ensures.partitioned parted (λ a r q k. search rules) in
    record {
      bound = c.partition_point.ensures.bound;
      below = λ k d h. leb-true _ _ (point.0 k d (omega arith) h);
      above = λ k d g h. leb-false _ _ (point.1 k d g h);
    }
