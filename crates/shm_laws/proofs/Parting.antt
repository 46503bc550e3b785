-- Parts of pieces, as the law of permission says it of them.
use Rattle.shm_laws.proofs.Names.{ℕ, ◌≡◌, ◌%◌, All, All-weaker, Piece, parts, IsPart, ShareTheirPages, IsAligned, IsOfAttach, IsPartOf}
use Rattle.shm_attach.proofs.Turned as pieces

pub shares : (p q : Piece) → IsOfAttach p q → ShareTheirPages p q
shares p q h = record { seg = h.seg; pages = h.pages }

part : (p q : Piece) → IsPartOf p q → IsPart p q
part p q h = record { seg = h.attach.seg; writable = h.writable; may_write = h.may_write; pages = h.attach.pages; from = h.from; to = h.to }

pub part_refl : (p : Piece) → IsPart p p
part_refl p = part p p (pieces.part_refl p)

pub all-parts : (from to : ℕ) → from % 4096 ≡ 0 → to % 4096 ≡ 0 → (p : Piece) → IsAligned p → All (λ q. IsPart q p) (parts from to p)
all-parts from to page-from page-to p page = All-weaker (λ q. IsPartOf q p) (λ q. IsPart q p) (λ q h. part q p h) (parts from to p) (pieces.all-parts from to page-from page-to p page)
