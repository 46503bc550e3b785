-- What holds of the machine at each moment of every legal history.
use Rattle.shm_laws.proofs.Names.{ℕ, ◌+◌, List, [], ◌∷◌, ◌++◌, length, Event, Machine, Opening, start_of, IsMove, IsHistory, EachMove, PiecesNameWhatStands, KeysAreApart, AllFillPages}
use Rattle.shm_laws.proofs.Inducting.{each_move, always}
use Rattle.shm_laws.proofs.Stepping.{Moved}
use Rattle.shm_laws.proofs.Fates.{IsMachineSound, sound-after, kind-move}
use Rattle.shm_laws.proofs.Removing.{sound-start}
use Rattle.shm_laws.proofs.Keying.{apart-after}
use Rattle.shm_laws.proofs.Sizing.{filled-after}
use Rattle.shm_laws.proofs.Spacing.{AreInOrder, in-order-move, in-order-start, all-aligned}
use Rattle.shm_laws.proofs.Piecing.{first-move, pieces-after, pieces-start}
use Rattle.shm_laws.proofs.Granting.{each-start}
use Rattle.shm_laws.proofs.Fitting.{Fits, AllFit, fits-move}

pub record IsGood (s : Machine) : Type 0 where
  pub sound : IsMachineSound s
  pub filled : AllFillPages s
  pub keys : KeysAreApart s
  pub spaces : AreInOrder s
  pub pieces : PiecesNameWhatStands s
  pub fits : AllFit s

pub good-start : (o : Opening) → IsGood (start_of o)
good-start o =
    record {
      sound = sound-start o;
      filled = λ id x stands. absurd (cc stands);
      keys = record { one = λ key a b named h k. absurd (cc h.stands); marked = λ id mark. absurd (cc mark.stands) };
      spaces = in-order-start o;
      pieces = pieces-start o;
      fits = each-start (λ pid p. Fits (start_of o) p) o;
    }

pub good-kind : (s : Machine) (n : ℕ) (e : Event) (t : Machine) → IsGood s → IsMove s n e t → Moved s e t
good-kind s n e t good m = kind-move s n e t good.sound.bare m

pub good-move : (s : Machine) (n : ℕ) (e : Event) (t : Machine) → IsGood s → IsMove s n e t → IsGood t
good-move s n e t good m =
    let k = good-kind s n e t good m in
    let pieces = pieces-after s e t good.sound k good.pieces (first-move s n e t m) in
    record {
      sound = sound-after s e t k good.sound;
      filled = filled-after s e t good.sound k good.filled;
      keys = apart-after s e t good.sound k good.keys;
      spaces = in-order-move s n e t good.filled good.spaces m;
      pieces = pieces;
      fits = fits-move s n e t good.sound k (all-aligned s good.spaces) pieces good.fits m;
    }

pub good-at : (o : Opening) (before : List Event) (s : Machine) → IsHistory o before s → IsGood s
good-at o before s h = always o (λ _ u. IsGood u) (λ before s e t _ now m. good-move s (length before + 1) e t now m) (good-start o) before s h

-- what a move between good machines gives holds of each move
pub each_good : (law : Machine → Event → Machine → Type 0) → ((s : Machine) (n : ℕ) (e : Event) (t : Machine) → IsGood s → IsGood t → Moved s e t → IsMove s n e t → law s e t)
    → (o : Opening) (events : List Event) (end : Machine) → IsHistory o events end → EachMove law o events end
each_good law move o events end h =
    (each_move IsGood law (λ s n e t good m. let next = good-move s n e t good m in (next, move s n e t good next (good-kind s n e t good m) m)) 1 (start_of o) events end (good-start o) h).1

-- what a move from a good machine keeps of its history holds after each history
pub kept_good : (o : Opening) (holds : List Event → Machine → Type 0)
    → ((before : List Event) (s : Machine) (e : Event) (t : Machine) → IsHistory o before s → IsGood s → Moved s e t → holds before s → IsMove s (length before + 1) e t → holds (before ++ e ∷ []) t)
    → holds [] (start_of o) → (before : List Event) (s : Machine) → IsHistory o before s → holds before s
kept_good o holds step first before s h =
    always o holds (λ before s e t h now m. let good = good-at o before s h in step before s e t h good (good-kind s (length before + 1) e t good m) now m) first before s h
