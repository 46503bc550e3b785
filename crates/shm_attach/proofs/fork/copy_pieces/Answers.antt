use Rattle.shm_attach.proofs.Names.{length-take, ◌≡◌, ◌+◌, ◌<◌, ◌∙◌, ap, arith, List, length, get_or, take, common_steps, length-map, lowest_address, inserted, bare, nothing, runner_view, runners_view, with_pieces_at, pieces_at, stored_at, no_reservations, bare-get_or}
use Rattle.shm_base.specs.State.{Piece}
use Rattle.shm_attach.proofs.HavingTables.{pieces_at-bare}
use Rattle.shm_attach.proofs.Keeping.{with_pieces_at-same, with_pieces_at-twice, pieces_at-changed, inserted_next, place_next}
use Rattle.shm_attach.proofs.fork.copy_pieces.Goals.{Start, After-pieces}
use Rattle.shm_attach.proofs.fork.copy_pieces.Goals as goal

stands : (c : Start) → c.args.child < length (runners_view c.args.processes.now.entries)
stands c = omega (arith, c.requires.child, length-map c.args.processes.now.entries runner_view)

pub loop-k-init : goal.loop-k-init
loop-k-init c = grind (arith, common_steps, stands, with_pieces_at-same)

-- THE NEXT PIECE

within : (c : After-pieces) → c.loop-k.k < length (stored_at c.args.processes.now.entries c.args.parent)
within c = omega (arith, ap length (c.pieces-count.ensures.value ∙ c.space_at.ensures.stored), c.loop-k-test.true)

within_all : (c : After-pieces) → c.loop-k.k < length (pieces_at (runners_view c.args.processes.now.entries) c.args.parent)
within_all c = grind (arith, common_steps, within, pieces_at-bare, length-map)

next : (c : After-pieces)
    → bare (get_or c.pieces.result.now c.loop-k.k nothing) ≡ get_or (pieces_at (runners_view c.args.processes.now.entries) c.args.parent) c.loop-k.k (bare nothing)
next c = grind (arith, common_steps, bare-get_or, within, pieces_at-bare)

pub put-requires-clause-place : goal.put-requires-clause-place
put-requires-clause-place c = grind (arith, common_steps, pieces_at-changed, stands, next, place_next, within_all)

pub put-requires-clause-room : goal.put-requires-clause-room
put-requires-clause-room c =
    let rs = runners_view c.args.processes.now.entries in
    let b = goal.at.put-requires-clause-room c in
    let own : pieces_at (runners_view c.loop-k.processes.entries) c.args.child ≡ take c.loop-k.k (pieces_at rs c.args.parent) = grind (arith, common_steps, pieces_at-changed, (stands b.Start), c.loop-k.invariant.runners) in
    rw (own, c.loop-k.invariant.most c.args.child) (omega (arith, length-take c.loop-k.k (pieces_at rs c.args.parent), c.loop-k-test.true, c.pieces-count.ensures.count, c.space_at.ensures.most, ap length c.pieces-count.ensures.value, c.requires.room))

pub loop-k-preserved : goal.loop-k-preserved
loop-k-preserved c =
    let rs = runners_view c.args.processes.now.entries in
    let P = pieces_at rs c.args.parent in
    let k = c.loop-k.k in
    let q = bare (get_or c.pieces.result.now k nothing) in
    let kept = c.loop-k.invariant in
    let b = goal.at.loop-k-preserved c in
    let more : inserted q (take k P) ≡ take (k + 1) P =
    ap (λ x. inserted x (take k P)) (next b.After-pieces)
    ∙ inserted_next lowest_address k P (bare nothing) (c.requires.sound.exact.arranged c.args.parent) (within_all b.After-pieces) in
    record {
      runners =
          c.put.ensures.runners
          ∙ ap (λ xs. with_pieces_at xs c.args.child (inserted q)) kept.runners
          ∙ with_pieces_at-twice rs c.args.child (λ (_ : List Piece). take k P) (inserted q) (stands b.Start)
          ∙ ap (λ (ps : List Piece). with_pieces_at rs c.args.child (λ (_ : List Piece). ps)) more;
      count = c.put.ensures.count ∙ kept.count;
      own = c.put.ensures.others c.args.parent c.requires.apart ∙ kept.own;
      sound = c.put.ensures.sound no_reservations kept.sound;
      most = λ j. c.put.ensures.most j ∙ kept.most j;
      translated = λ at all. c.put.ensures.translated at (kept.translated at all);
    }
