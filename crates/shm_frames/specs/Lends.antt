-- The final value of the frames while the bytes of one are lent as `&mut`.
use Rattle.std.specs.Prelude.{ℕ, List, set}
use Rattle.std.specs.Borrow.{Lends, Fml, MutBor, Array, u8}
use Rattle.shm_frames.specs.Frame.{Frame, frame_at}
use Rattle.shm_base.specs.declared.paging.TheConstants.{PAGE_BYTES}
use Rattle.shm_frames.specs.contracts.frames.Frames.{the_row}

-- after the borrow r ends, the frame has the bytes last written through r, and the others are unchanged
abbrev pub lends_bytes : MutBor (List Frame) → ℕ → MutBor (List ℕ) → Fml
lends_bytes s i r = Lends the_row (Array u8 PAGE_BYTES) s r (λ w. set s.now i (record (frame_at s.now i) { bytes = w }))
