-- What calls of the swap leave of its slots.
use Rattle.shm_fault.proofs.Names.{◌≡◌, Option, None, Some, refl, ap, List, get_or, [], ℕ, Slot, SwapView, SameSlots, slot_bytes}
pub use Rattle.shm_slots.proofs.Slots.{set-cases}

-- slots that are the same hold the same bytes
pub bytes-kept : (s t : SwapView) → SameSlots s t → (from : Option Slot) → slot_bytes t from ≡ slot_bytes s from
bytes-kept s t kept None = refl
bytes-kept s t kept (Some k) = ap (λ (pages : List (List ℕ)). get_or pages k.slot []) (kept.pages k.area)
