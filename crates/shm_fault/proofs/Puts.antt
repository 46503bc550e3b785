-- Bytes put into pages that are in frames, which are dirty then.
use Rattle.shm_fault.proofs.Names.{◌≡◌, ℕ, ◌≤◌, ◌+◌, ◌*◌, ◌/◌, ◌%◌, [], ◌∷◌, List, length, length-set, take, take_all, drop, set, Some, true, refl, sym, ap, ◌∙◌, arith, nat_tests, common_steps, Span, FitsPage, paste, Frame, frame_at, StoreView, held, ref_of, IsStoreSound, frame_by, PutAt}
use Rattle.shm_fault.proofs.Pasted.{length-paste}
use Rattle.shm_fault.specs.Placing.{with_dirty}
use Rattle.shm_fault.proofs.Slots.{set-cases}
use Rattle.shm_fault.proofs.Pages.{has-frame}
use Rattle.shm_fault.proofs.Bytes.{bytes_at}
use Rattle.shm_fault.proofs.Spans.{held-pasted}
use Rattle.shm_fault.proofs.Sound.{sound-stored, bytes-stored, bytes-others}
use Rattle.shm_fault.proofs.Placed.{bare-set}
use Rattle.shm_fault.proofs.Places.{bit-set, dirty-one}

abbrev pub put_in : Frame → ℕ → List ℕ → Frame
put_in x off new = record x { bytes = paste x.bytes off new; dirty = true }

pub puts : (s : StoreView) → IsStoreSound s → (p : Span) (f : ℕ) (new : List ℕ) → FitsPage (held s) p → frame_by s (ref_of p) ≡ Some f → p.len ≡ length new
    → PutAt new (p ∷ []) s (record s { frames = set s.frames f (put_in (frame_at s.frames f) (p.at % 4096) new) })
puts s sound p f new fit at size =
    let r = ref_of p in
    let off = p.at % 4096 in
    let b = (frame_at s.frames f).bytes in
    let x : Frame = put_in (frame_at s.frames f) off new in
    let t : StoreView = record s { frames = set s.frames f x } in
    let has = has-frame s.segs r f at in
    let fits : off + length new ≤ 4096 = omega (arith, fit.2.1, size) in
    let was : bytes_at s r ≡ b = rw at refl in
    let full : length b ≡ 4096 = rw was at (sound.tied.pages r has).whole in
    let whole : length x.bytes ≡ 4096 = length-paste b off new (omega (arith, full, fits)) ∙ full in
    let here : bytes_at t r ≡ paste (bytes_at s r) off new = bytes-stored s sound r f x at refl refl whole ∙ ap (λ l. paste l off new) (sym was) in
    let split : 4096 * (p.at / 4096) + off ≡ p.at = omega arith in
    let all : take p.len new ≡ new = rw size (take_all (length new) new (omega arith)) in
    record {
      written = rw all (rw split at (held-pasted s t sound sound.apart refl r off new has fits here (bytes-others s sound r f x at refl refl whole)));
      bits = λ i. grind (arith, nat_tests, common_steps, set-cases);
      placed = dirty-one p s t f at (bit-set s t f true refl refl refl (bare-set s.frames f x ∙ sym (bare-set s.frames f (record (frame_at s.frames f) { dirty = true }))));
      rest = refl;
      count = length-set s.frames f x;
      sound = sound-stored s sound r f x at refl refl whole;
    }

-- and then into another one
pub put-two : (p q : Span) (bytes : List ℕ) {front back : List ℕ} (s t z : StoreView) → front ≡ take p.len bytes → back ≡ drop p.len bytes → p.len ≡ length front → PutAt front (p ∷ []) s t → PutAt back (q ∷ []) t z → PutAt bytes (p ∷ q ∷ []) s z
unfolding with_dirty
put-two p q bytes {front} {back} s t z is is₂ size put put₂ =
    let all : take p.len front ≡ front = rw size (take_all (length front) front (omega arith)) in
    record {
      written = rw (← is, ← is₂, ← all, ← put.written) put₂.written;
      bits = λ i. put₂.bits i ∙ put.bits i;
      placed = put₂.placed ∙ ap (with_dirty (q ∷ [])) put.placed;
      rest = put₂.rest ∙ ap (λ (v : StoreView). record v { frames = z.frames }) put.rest;
      count = put₂.count ∙ put.count;
      sound = put₂.sound;
    }
