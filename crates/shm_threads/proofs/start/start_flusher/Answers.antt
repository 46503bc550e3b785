use Rattle.shm_threads.proofs.Names.{sendable, crosses}
use Rattle.shm_threads.proofs.Sent.{shared_sync}
use Rattle.shm_threads.proofs.start.start_flusher.Goals as goal

pub spawn-requires-send-F : goal.spawn-requires-send-F
spawn-requires-send-F g c κs within =
    let shared = shared_sync g.P.Pager g.O.Origin c.type_bounds.send-P c.type_bounds.send-O in
    search (sendable, crosses) depth 40 fits 30000
