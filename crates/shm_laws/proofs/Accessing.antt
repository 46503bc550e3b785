-- The places of an access: each lies in a piece, and each of a write in a writable one; and what the access does there.
use Rattle.shm_laws.proofs.Names.{◌≡◌, ℕ, suc, zero, ◌+◌, ◌<◌, true, false, List, [], ◌∷◌, length, Option, Some, slice_get, refl, sym, ap, ◌∙◌, inl, inr, arith, get_or, common_steps, Contains, cases_Bool, and_parts, none-some, slice_get-get_or, Piece, Place, covers, place_by, place, places, all_writable, only_writable, ◌⊎◌, ◌%◌, ◌^◌, None, true≢false, w64, to_le_bytes, ProcessCall, Load, Store, Xadd, Exchange, CompareExchange, Reply, Done, Number, Bytes, Machine, Caller, Outcome, acts, load, store, xadd, exchange, compare_exchange, number_at, loaded, stored, same_bytes, writable_places, is_refusal, Reach, reach, Put, put, subst, pick_by}

-- the piece in which an address lies
pub record LiesIn (ps : List Piece) (a : ℕ) (q : Place) : Type 0 where
  pub piece : Piece
  pub is : Contains ps piece
  pub covered : covers piece a ≡ true
  pub spot : q ≡ place_by piece a

pub lies-in : (ps : List Piece) (a : ℕ) (q : Place) → place ps a ≡ Some q → LiesIn ps a q
lies-in [] a q found = absurd (none-some q found)
lies-in (p ∷ ps) a q found =
    elim (cases_Bool (covers p a)) [
      | inl h ↦ record { piece = p; is = (0, omega arith, refl); covered = h; spot = grind arith }
      | inr h ↦
          let l = lies-in ps a q (rw h at found) in
          record { piece = l.piece; is = (suc l.is.0, omega (arith, l.is.1), l.is.2); covered = l.covered; spot = l.spot }
    ]

-- the number of bytes is the same
pub places-length : (ps : List Piece) (a n : ℕ) (qs : List Place) → places ps a n ≡ Some qs → length qs ≡ n
places-length ps a zero qs found = let same : [] ≡ qs = cc found in ap length (sym same)
places-length ps a (suc n) qs found = grind (arith, places-length ps (a + 1) n)

-- the place of one address of an access
pub record PlaceOf (ps : List Piece) (a : ℕ) (qs : List Place) (k : ℕ) : Type 0 where
  pub spot : Place
  pub at : slice_get qs k ≡ Some spot
  pub is : place ps (a + k) ≡ Some spot

places-at : (ps : List Piece) (a n : ℕ) (qs : List Place) → places ps a n ≡ Some qs → (k : ℕ) → k < n → slice_get qs k ≡ place ps (a + k)
places-at ps a zero qs found k lt = absurd (omega (arith, lt))
places-at ps a (suc n) qs found zero lt = let here : a + 0 ≡ a = omega arith in rw here (grind arith)
places-at ps a (suc n) qs found (suc k) lt = let next : a + suc k ≡ (a + 1) + k = omega arith in rw next (grind (arith, places-at ps (a + 1) n))

nowhere : Place
nowhere = record { seg = 0; at = 0; writable = false }

pub place-of : (ps : List Piece) (a n : ℕ) (qs : List Place) → places ps a n ≡ Some qs → (k : ℕ) → k < n → PlaceOf ps a qs k
place-of ps a n qs found k lt =
    let long = places-length ps a n qs found in
    let at = slice_get-get_or qs k nowhere (omega (arith, lt, long)) in
    record { spot = get_or qs k nowhere; at = at; is = sym (places-at ps a n qs found k lt) ∙ at }

pub writable-at : (qs : List Place) (k : ℕ) (q : Place) → all_writable qs ≡ true → slice_get qs k ≡ Some q → q.writable ≡ true
writable-at [] k q all at = absurd (none-some q at)
writable-at (p ∷ ps) zero q all at = grind (arith, common_steps)
writable-at (p ∷ ps) (suc k) q all at = writable-at ps k q (and_parts p.writable (all_writable ps) all).1 at

-- the places of a write are those of the access, and all are writable
pub writable-parts : (o : Option (List Place)) (qs : List Place) → only_writable o ≡ Some qs → (o ≡ Some qs) × (all_writable qs ≡ true)
writable-parts o qs found = grind arith

-- WHAT AN ACCESS DOES

-- the reply to an access that is not refused has no value, or has what was at its places
abbrev pub Tells : Machine → List Place → Reply → Type 0
Tells s spots reply = (reply ≡ Done) ⊎ ((reply ≡ Number (number_at s spots)) ⊎ (reply ≡ Bytes (loaded s.table spots)))

-- such an access finds its places
pub record Finds (s : Machine) (c : Caller) (r : Reach) (reply : Reply) : Type 0 where
  pub spots : List Place
  pub found : places c.pieces r.from r.len ≡ Some spots
  pub writable : r.writes ≡ true → all_writable spots ≡ true
  pub told : Tells s spots reply

-- an access that puts bytes stores them at its places
pub record Stores (s : Machine) (c : Caller) (p : Option Put) (t : Machine) : Type 0 where
  pub what : Put
  pub puts : p ≡ Some what
  pub spots : List Place
  pub found : places c.pieces what.from (length what.bytes) ≡ Some spots
  pub state : t ≡ record s { table = stored s.table spots what.bytes }

-- an access that puts nothing leaves the machine as it was; any other stores its bytes
abbrev pub Changes : Machine → Caller → Option Put → Machine → Type 0
Changes s c p t = ((p ≡ None) × (t ≡ s)) ⊎ Stores s c p t

pub record Accesses (s : Machine) (c : Caller) (r : Reach) (p : Option Put) (o : Outcome) : Type 0 where
  pub finds : (is_refusal o.reply ≡ true) ⊎ Finds s c r o.reply
  pub changes : Changes s c p o.state

module _ (s : Machine) (n : ℕ) (c : Caller) where
  -- a call that is no access puts nothing
  abbrev pub AccessBy : ProcessCall → Outcome → Option Reach → Type 0
  AccessBy call o None = put call o.reply ≡ None
  AccessBy call o (Some r) = Accesses s c r (put call o.reply) o

  load-by : (a len : ℕ) (o : Option (List Place)) → places c.pieces a len ≡ o → AccessBy (Load a len) (load s o) (reach (Load a len))
  load-by a len None is = record { finds = inl refl; changes = inl (refl, refl) }
  load-by a len (Some qs) is =
      record { finds = inr (record { spots = qs; found = is; writable = λ w. absurd (true≢false (sym w)); told = inr (inr refl) }); changes = inl (refl, refl) }

  -- what a write does at the places that it finds
  abbrev WriteAt : ProcessCall → List Place → Outcome → Type 0
  WriteAt call qs o = Tells s qs o.reply × Changes s c (put call o.reply) o.state

  write-by : (call : ProcessCall) (a len : ℕ) (act : Option (List Place) → Outcome) → (is_refusal (act None).reply ≡ true) × (put call (act None).reply ≡ None) × ((act None).state ≡ s)
      → ((qs : List Place) → places c.pieces a len ≡ Some qs → WriteAt call qs (act (Some qs)))
      → (o : Option (List Place)) → writable_places c.pieces a len ≡ o → AccessBy call (act o) (Some (record { from = a; len = len; writes = true }))
  write-by call a len act none some None is = record { finds = inl none.0; changes = inl (none.1, none.2) }
  write-by call a len act none some (Some qs) is =
      let there = writable-parts (places c.pieces a len) qs is in
      let did = some qs there.0 in
      record { finds = inr (record { spots = qs; found = there.0; writable = λ w. there.1; told = did.0 }); changes = did.1 }

  puts-at : (a : ℕ) (vs : List ℕ) (qs : List Place) → places c.pieces a (length vs) ≡ Some qs → Stores s c (Some (record { from = a; bytes = vs })) (record s { table = stored s.table qs vs })
  puts-at a vs qs found = record { what = record { from = a; bytes = vs }; puts = refl; spots = qs; found = found; state = refl }

  pub access-by : (call : ProcessCall) → AccessBy call (acts s n c call) (reach call)
  access-by (Load a len) = load-by a len (places c.pieces a len) refl
  access-by (Store bytes a) =
      write-by (Store bytes a) a (length bytes) (store s bytes) (refl, refl, refl) (λ qs found. (inl refl, inr (puts-at a bytes qs found))) (writable_places c.pieces a (length bytes)) refl
  access-by (Xadd a add) =
      write-by (Xadd a add) a 8 (xadd s add) (refl, refl, refl)
      (λ qs found. (inr (inl refl), inr (puts-at a (to_le_bytes w64 ((number_at s qs + add) % 2 ^ 64)) qs found))) (writable_places c.pieces a 8) refl
  access-by (Exchange bytes a) =
      write-by (Exchange bytes a) a (length bytes) (exchange s bytes) (refl, refl, refl) (λ qs found. (inr (inr refl), inr (puts-at a bytes qs found))) (writable_places c.pieces a (length bytes)) refl
  access-by (CompareExchange expected desired a) =
      write-by (CompareExchange expected desired a) a (length desired) (compare_exchange s expected desired) (refl, refl, refl)
      (λ qs found. pick_by (WriteAt (CompareExchange expected desired a) qs) (same_bytes (loaded s.table qs) expected) _ _
      (λ met. (inr (inr refl), inr (rw met (puts-at a desired qs found)))) (λ other. (inr (inr refl), inl (rw other refl, refl))))
      (writable_places c.pieces a (length desired)) refl
  access-by call = refl

  pub accesses : (call : ProcessCall) (r : Reach) → reach call ≡ Some r → let o = acts s n c call in Accesses s c r (put call o.reply) o
  accesses call r is = subst (AccessBy call (acts s n c call)) is (access-by call)
