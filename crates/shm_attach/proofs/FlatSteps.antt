-- The flat machine's steps in terms of the address spaces, for the crates above.
use Rattle.shm_attach.proofs.Names.{◌≡◌, ℕ, true, false, List, [], ◌∷◌, length, map, Option, Some, None, option_map, refl, ap, arith, common_steps, none-some, Bytes, Done, Machine, Place, places, writable_places, byte_at, with_byte, loaded, stored, origin_of, without_named, after_detach, caller_from, gives, with_pieces, shmdt, load, store, unmarked, wanted_in, pieces_by, pieces_of_caller}
use Rattle.shm_base.specs.State.{Entry, Piece, Runner}
use Rattle.shm_base.specs.Callers.{Caller}

-- DETACHING

pub shmdt-named : (s : Machine) (n : ℕ) (c : Caller) (addr seg : ℕ) → option_map (λ (p : Piece). p.seg) (origin_of addr c.pieces) ≡ Some seg
    → shmdt s n c addr ≡ gives (after_detach s n c.pid (with_pieces s.runners c (without_named addr seg c.pieces)) (seg ∷ [])) Done
shmdt-named s n c addr seg named = grind arith

-- ACCESSES

-- the pieces of a live process that makes an access
pub pieces_by-caller : (pid : ℕ) (rs : List Runner) (c : Caller) → caller_from 0 pid rs ≡ Some c → pieces_by pid rs ≡ c.pieces
pieces_by-caller pid rs c found = ap pieces_of_caller found

-- reading and writing bytes ignores whether places are writable
pub loaded-unmarked : (table : List Entry) (ps : List Place) → loaded table (map unmarked ps) ≡ loaded table ps
loaded-unmarked table [] = refl
loaded-unmarked table (p ∷ ps) = ap (λ (bs : List ℕ). byte_at table p ∷ bs) (loaded-unmarked table ps)

pub stored-unmarked : (table : List Entry) (ps : List Place) (bs : List ℕ) → stored table (map unmarked ps) bs ≡ stored table ps bs
stored-unmarked table [] bs = refl
stored-unmarked table (p ∷ ps) [] = refl
stored-unmarked table (p ∷ ps) (b ∷ bs) = stored-unmarked (with_byte table p b) ps bs

-- the places exist, and without the marks they are these
pub record AreAsked (asked : Option (List Place)) (wanted : List Place) : Type 0 where
  pub ps : List Place
  pub there : asked ≡ Some ps
  pub same : map unmarked ps ≡ wanted

pub are_asked : (o : Option (List Place)) (wanted : List Place) → option_map (map unmarked) o ≡ Some wanted → AreAsked o wanted
are_asked None wanted is = absurd (none-some wanted is)
are_asked (Some ps) wanted is = record { ps = ps; there = refl; same = cc is }

pub load-wanted : (s : Machine) (ps : List Piece) (addr len : ℕ) (wanted : List Place) → wanted_in false ps addr len ≡ Some wanted
    → load s (places ps addr len) ≡ gives s (Bytes (loaded s.table wanted))
load-wanted s ps addr len wanted is = grind (arith, common_steps, are_asked, loaded-unmarked)

pub store-wanted : (s : Machine) (ps : List Piece) (addr : ℕ) (bytes : List ℕ) (wanted : List Place) → wanted_in true ps addr (length bytes) ≡ Some wanted
    → store s bytes (writable_places ps addr (length bytes)) ≡ gives (record s { table = stored s.table wanted bytes }) Done
store-wanted s ps addr bytes wanted is = grind (arith, common_steps, are_asked, stored-unmarked)
