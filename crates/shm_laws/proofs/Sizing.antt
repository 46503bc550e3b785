-- Each segment fills its pages, and keeps its size.
use Rattle.shm_laws.proofs.Names.{◌≡◌, ℕ, ◌*◌, ◌%◌, ◌≤◌, length, Option, Some, None, sym, ap, ◌∙◌, inl, inr, arith, Event, Segment, Machine, pages_of, Caller, caller_of, Stands, put, pieces_of_caller, FillsPages, AllFillPages, KeepsSizes}
use Rattle.shm_laws.proofs.Putting.{over-length}
use Rattle.shm_laws.proofs.Stepping.{made_by, Moved}
use Rattle.shm_laws.proofs.Fates.{IsMachineSound}
use Rattle.shm_laws.proofs.Naming.{Before, came-from}

-- the bytes of this many pages
fills-new : (x : Segment) → 1 ≤ x.size → length x.bytes ≡ 4096 * pages_of x.size → FillsPages x
fills-new x some pages = record { some = some; whole = omega (arith, pages); enough = omega (arith, pages); least = omega (arith, pages) }

-- of the same size, and with as many bytes
fills-on : (x y : Segment) → FillsPages x → y.size ≡ x.size → length y.bytes ≡ length x.bytes → FillsPages y
fills-on x y f size long =
    record {
      some = omega (arith, f.some, size);
      whole = omega (arith, f.whole, long);
      enough = omega (arith, f.enough, size, long);
      least = omega (arith, f.least, size, long);
    }

-- one size has one number of bytes
one-length : (x y : Segment) → FillsPages x → FillsPages y → y.size ≡ x.size → length y.bytes ≡ length x.bytes
one-length x y f g size = omega (arith, f.whole, f.enough, f.least, g.whole, g.enough, g.least, size)

fills-before : (s : Machine) (e : Event) (id : ℕ) (y : Segment) → AllFillPages s → Before s e id y → FillsPages y
fills-before s e id y all (inl old) =
    let long = ap length old.bytes ∙ over-length (pieces_of_caller (caller_of s e.pid)) (put e.call e.reply) (id % 32768) old.segment.bytes in
    fills-on old.segment y (all id old.segment old.stood) old.same.size long
fills-before s e id y all (inr new) = by (caller_of s e.pid) new.made
  where
    by : (o : Option Caller) → made_by s.table o e.call y → FillsPages y
    by None none = absurd none
    by (Some c) made = fills-new y made.some made.pages

-- a segment that existed before and still exists has the same size
size-before : (s : Machine) (e : Event) (id : ℕ) (x y : Segment) → Stands s id x → Before s e id y → y.size ≡ x.size
size-before s e id x y stood (inl old) = let one : old.segment ≡ x = cc in old.same.size ∙ ap (λ (w : Segment). w.size) one
size-before s e id x y stood (inr new) = absurd (cc (sym new.makes.0 ∙ stood))

-- ONE MOVE

pub filled-after : (s : Machine) (e : Event) (t : Machine) → IsMachineSound s → Moved s e t → AllFillPages s → AllFillPages t
filled-after s e t sound k all id y stands = fills-before s e id y all (came-from s t e sound k id y stands)

pub keeps-sizes : (s : Machine) (e : Event) (t : Machine) → IsMachineSound s → Moved s e t → AllFillPages s → AllFillPages t → KeepsSizes s e t
keeps-sizes s e t sound k all next id x y stood stands =
    let size = size-before s e id x y stood (came-from s t e sound k id y stands) in (size, one-length x y (all id x stood) (next id y stands) size)
