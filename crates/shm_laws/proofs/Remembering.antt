-- Each byte is that of its last writer, and so is each byte that an event returns.
use Rattle.shm_laws.proofs.Names.{◌≡◌, ◌⊎◌, ℕ, ◌+◌, ◌-◌, ◌*◌, ◌%◌, ◌<◌, true, List, [], ◌∷◌, ◌++◌, length, Option, Some, None, slice_get, refl, sym, ap, subst, ◌∙◌, inl, inr, arith, w64, from_le_bytes, option_map, length-map, common_steps, none-some, slice_get-map, slice_get-get_or, slice_get_within, ProcessCall, Reply, Bytes, Number, Event, Segment, Piece, Machine, Opening, Place, covers, place_by, place, places, byte_at, loaded, Caller, Outcome, caller_of, acts, is_refusal, IsMove, IsHistory, Stands, Began, Lasted, Put, put, pieces_of_caller, IsByte, Writes, Spares, IsLast, Remembers, AreLast, Recalls, HasLastWriters, Reach, reach, Done}
use Rattle.shm_laws.proofs.Accessing.{place-of, places-length, Finds, accesses, AccessBy, access-by}
use Rattle.shm_laws.proofs.Fitting.{one-index, Fits, AllFit, spot-fits}
use Rattle.shm_laws.proofs.Holding.{IsGood, good-at, kept_good}
use Rattle.shm_laws.proofs.Looks.{stands-at}
use Rattle.shm_laws.proofs.Naming.{Before, came-from}
use Rattle.shm_laws.proofs.Putting.{IsSpot, Hit, Miss, byte-after, zero-byte}
use Rattle.shm_laws.proofs.Refusing.{by-move, refused-put}
use Rattle.shm_laws.proofs.Stepping.{Moved, over_put, overlay}

-- WHAT PUTS HAS PLACES

module _ (s : Machine) (n : ℕ) (c : Caller) where
  abbrev Placed : ProcessCall → Outcome → Type 0
  Placed call o = (p : Put) → put call o.reply ≡ Some p → (qs : List Place) × (places c.pieces p.from (length p.bytes) ≡ Some qs)

  placed-acts : (call : ProcessCall) → Placed call (acts s n c call)
  placed-acts call p puts = by (reach call) (access-by s n c call)
    where
      by : (r : Option Reach) → AccessBy s n c call (acts s n c call) r → (qs : List Place) × (places c.pieces p.from (length p.bytes) ≡ Some qs)
      by None none = absurd (none-some p (sym none ∙ puts))
      by (Some r) k =
          elim k.changes [
            | inl none ↦ absurd (none-some p (sym none.0 ∙ puts))
            | inr h ↦ (h.spots, subst (λ (x : Put). places c.pieces x.from (length x.bytes) ≡ Some h.spots) (cc (sym h.puts ∙ puts)) h.found)
          ]

abbrev PlacedBy : Option Caller → ProcessCall → Reply → Type 0
PlacedBy o call reply = (p : Put) → put call reply ≡ Some p → (qs : List Place) × (places (pieces_of_caller o) p.from (length p.bytes) ≡ Some qs)

placed-move : (s : Machine) (n : ℕ) (e : Event) (t : Machine) → IsMove s n e t → PlacedBy (caller_of s e.pid) e.call e.reply
placed-move s n e t =
    by-move s n e t (λ r u. PlacedBy (caller_of s e.pid) e.call r) (λ c is. rw is (placed-acts s n c e.call))
    (λ r no p puts. absurd (none-some p (sym (refused-put e.call r no) ∙ puts)))

-- at the index of a segment it is that segment's
spot-names : (s : Machine) (pid a id : ℕ) (q : Place) (x : Segment) → AllFit s → place (pieces_of_caller (caller_of s pid)) a ≡ Some q → Stands s id x → q.seg % 32768 ≡ id % 32768 → q.seg ≡ id
spot-names s pid a id q x fits found stands index =
    let f = spot-fits s pid a q fits found in
    let seg : q.seg ≡ f.piece.seg = ap (λ (r : Place). r.seg) f.spot in
    one-index s q.seg id f.fits.segment x (subst (λ m. Stands s m f.fits.segment) (sym seg) f.fits.stands) stands index

-- WHAT A MOVE DOES TO A BYTE

module _ (s : Machine) (n : ℕ) (e : Event) (t : Machine) (fits : AllFit s) (m : IsMove s n e t) (id at b : ℕ) (x : Segment) (stands : Stands s id x) where
  abbrev Touched : Type 0
  Touched = Writes s e id at b ⊎ (Spares s e id at × (slice_get x.bytes at ≡ Some b))

  module _ (p : Put) (puts : put e.call e.reply ≡ Some p) (qs : List Place) (found : places (pieces_of_caller (caller_of s e.pid)) p.from (length p.bytes) ≡ Some qs) where
    -- an address that is the byte has a place that is
    spot-of : (k : ℕ) → k < length p.bytes → IsByte s e.pid (p.from + k) id at → (q : Place) × (slice_get qs k ≡ Some q) × IsSpot (id % 32768) at q
    spot-of k lt here =
        let o = place-of (pieces_of_caller (caller_of s e.pid)) p.from (length p.bytes) qs found k lt in
        let same : Some o.spot ≡ Some (record { seg = id; at = at; writable = here.0 }) = sym o.is ∙ here.1 in
        let is : o.spot ≡ record { seg = id; at = at; writable = here.0 } = cc same in
        (o.spot, o.at, record { index = ap (λ (q : Place). q.seg % 32768) is; here = ap (λ (q : Place). q.at) is })

    -- and a place that is the byte has an address
    byte-of : (k : ℕ) (q : Place) → k < length p.bytes → slice_get qs k ≡ Some q → IsSpot (id % 32768) at q → IsByte s e.pid (p.from + k) id at
    byte-of k q lt is spot =
        let o = place-of (pieces_of_caller (caller_of s e.pid)) p.from (length p.bytes) qs found k lt in
        let own : Some o.spot ≡ Some q = sym o.at ∙ is in
        let there : place (pieces_of_caller (caller_of s e.pid)) (p.from + k) ≡ Some q = o.is ∙ own in
        let name : q.seg ≡ id = spot-names s e.pid (p.from + k) id q x fits there stands spot.index in
        (q.writable, there ∙ (λ j. Some (record { seg = name j; at = spot.here j; writable = q.writable })))

    hit-writes : Hit (id % 32768) at b qs p.bytes → Writes s e id at b
    hit-writes h =
        record {
          what = p;
          puts = puts;
          k = h.k;
          byte = h.byte;
          here = byte-of h.k h.spot (slice_get_within p.bytes h.k b h.byte) h.is h.hits;
          last = λ j gt lt here. let s = spot-of j lt here in h.last j s.0 gt lt s.1 s.2;
        }

    miss-spares : Miss (id % 32768) at qs p.bytes → Spares s e id at
    miss-spares miss other says k lt here =
        let same : other ≡ p = cc (sym says ∙ puts) in
        let lt' : k < length p.bytes = subst (λ (r : Put). k < length r.bytes) same lt in
        let here' : IsByte s e.pid (p.from + k) id at = subst (λ (r : Put). IsByte s e.pid (r.from + k) id at) same here in
        let s = spot-of k lt' here' in
        miss k s.0 lt' s.1 s.2

  touched-by : (o : Option Put) → put e.call e.reply ≡ o → slice_get (over_put (pieces_of_caller (caller_of s e.pid)) o (id % 32768) x.bytes) at ≡ Some b → Touched
  touched-by None is h = inr (λ other says k lt here. none-some other (sym is ∙ says), h)
  touched-by (Some p) is h =
      let l = placed-move s n e t m p is in
      let now : slice_get (over_put (pieces_of_caller (caller_of s e.pid)) (Some p) (id % 32768) x.bytes) at ≡ Some b = h in
      either l (byte-after (id % 32768) at b l.0 p.bytes x.bytes (rw l.1 at now))
    where
      either : (l : (qs : List Place) × (places (pieces_of_caller (caller_of s e.pid)) p.from (length p.bytes) ≡ Some qs))
          → Hit (id % 32768) at b l.0 p.bytes ⊎ (Miss (id % 32768) at l.0 p.bytes × (slice_get x.bytes at ≡ Some b)) → Touched
      either l (inl hit) = inl (hit-writes p is l.0 l.1 hit)
      either l (inr miss) = inr (miss-spares p is l.0 l.1 miss.0, miss.1)

  touched : slice_get (overlay s e (id % 32768) x.bytes) at ≡ Some b → Touched
  touched h = touched-by (put e.call e.reply) refl h

-- AT ALL TIMES

pub record Recollects (o : Opening) (before : List Event) (s : Machine) : Type 0 where
  pub good : IsGood s
  pub bytes : Remembers o before s

remembers-on : (o : Opening) (before : List Event) (s : Machine) (e : Event) (t : Machine) → IsHistory o before s → IsGood s → Moved s e t → Remembers o before s → IsMove s (length before + 1) e t → Remembers o (before ++ e ∷ []) t
remembers-on o before s e t h good k now m id at b y stands is = from (came-from s t e good.sound k id y stands)
  where
    from : Before s e id y → IsLast o (before ++ e ∷ []) id at b
    from (inr new) =
        inr (zero-byte new.zeros.0 at b (ap (λ bs. slice_get bs at) (sym new.zeros.1) ∙ is), Began before s e h new.makes)
    from (inl old) = what (touched s (length before + 1) e t good.fits m id at b old.segment old.stood (ap (λ bs. slice_get bs at) (sym old.bytes) ∙ is))
      where
        kept : Spares s e id at → IsLast o before id at b → IsLast o (before ++ e ∷ []) id at b
        kept spares (inl since) = inl (Lasted before s e h spares since)
        kept spares (inr since) = inr (since.0, Lasted before s e h spares since.1)

        what : Writes s e id at b ⊎ (Spares s e id at × (slice_get old.segment.bytes at ≡ Some b)) → IsLast o (before ++ e ∷ []) id at b
        what (inl writes) = inl (Began before s e h writes)
        what (inr spared) = kept spared.0 (now id at b old.segment old.stood spared.1)

recollects : (o : Opening) (before : List Event) (s : Machine) → IsHistory o before s → Recollects o before s
recollects o before s h =
    record { good = good-at o before s h; bytes = kept_good o (Remembers o) (remembers-on o) (λ id at b x stands is. absurd (cc stands)) before s h }

-- WHAT IS ANSWERED

-- the byte at a place that fits
byte-there : (s : Machine) (p : Piece) (a : ℕ) (f : Fits s p) → covers p a ≡ true
    → slice_get f.segment.bytes (4096 * p.first_page + (a - p.base)) ≡ Some (byte_at s.table (place_by p a))
byte-there s p a f covered = grind (arith, common_steps, stands-at, slice_get-get_or)

recall-places : (o : Opening) (before : List Event) (s : Machine) (pid a len : ℕ) (qs : List Place) → Recollects o before s
    → places (pieces_of_caller (caller_of s pid)) a len ≡ Some qs → AreLast o before s pid a len (loaded s.table qs)
recall-places o before s pid a len qs now found =
    record { long = length-map qs (byte_at s.table) ∙ places-length (pieces_of_caller (caller_of s pid)) a len qs found; each = each }
  where
    each : (k b : ℕ) → slice_get (loaded s.table qs) k ≡ Some b → (id : ℕ) × (at : ℕ) × IsByte s pid (a + k) id at × IsLast o before id at b
    each k b is =
        let within = slice_get_within (loaded s.table qs) k b is in
        let long = length-map qs (byte_at s.table) in
        let count = places-length (pieces_of_caller (caller_of s pid)) a len qs found in
        let spot = place-of (pieces_of_caller (caller_of s pid)) a len qs found k (omega (arith, within, long, count)) in
        let f = spot-fits s pid (a + k) spot.spot now.good.fits spot.is in
        let p = f.piece in
        let at = 4096 * p.first_page + ((a + k) - p.base) in
        let read : Some (byte_at s.table spot.spot) ≡ Some b = ap (option_map (byte_at s.table)) (sym spot.at) ∙ sym (slice_get-map (byte_at s.table) qs k) ∙ is in
        let there : slice_get f.fits.segment.bytes at ≡ Some (byte_at s.table spot.spot) =
        subst (λ q. slice_get f.fits.segment.bytes at ≡ Some (byte_at s.table q)) (sym f.spot) (byte-there s p (a + k) f.fits f.covered) in
        let value : slice_get f.fits.segment.bytes at ≡ Some b = there ∙ read in
        (p.seg, at, (p.writable, spot.is ∙ ap (λ (q : Place). Some q) f.spot), now.bytes p.seg at b f.fits.segment f.fits.stands value)

module _ (o : Opening) (before : List Event) (s : Machine) (n : ℕ) (e : Event) (t : Machine) (now : Recollects o before s) (m : IsMove s n e t) where
  -- what an access replies
  abbrev Told : Reach → Reply → Type 0
  Told r reply =
      (bytes : List ℕ) × AreLast o before s e.pid r.from r.len bytes × ((reply ≡ Done) ⊎ ((reply ≡ Number (from_le_bytes w64 bytes)) ⊎ (reply ≡ Bytes bytes)))

  told-by : (r : Reach) → reach e.call ≡ Some r → (is_refusal e.reply ≡ true) ⊎ Told r e.reply
  told-by r is = by-move s n e t (λ reply u. (is_refusal reply ≡ true) ⊎ Told r reply) (λ c live. by c live (accesses s n c e.call r is).finds) (λ reply no. inl no) m
    where
      by : (c : Caller) → caller_of s e.pid ≡ Some c → let reply = (acts s n c e.call).reply in (is_refusal reply ≡ true) ⊎ Finds s c r reply → (is_refusal reply ≡ true) ⊎ Told r reply
      by c live (inl refused) = inl refused
      by c live (inr f) =
          inr (loaded s.table f.spots, recall-places o before s e.pid r.from r.len f.spots now (ap (λ h. places (pieces_of_caller h) r.from r.len) live ∙ f.found), f.told)

  bytes-last : (r : Reach) (bytes : List ℕ) → reach e.call ≡ Some r → e.reply ≡ Bytes bytes → AreLast o before s e.pid r.from r.len bytes
  bytes-last r bytes is told = grind (arith, told-by r is)

  number-last : (r : Reach) (old : ℕ) → reach e.call ≡ Some r → e.reply ≡ Number old → (bytes : List ℕ) × (old ≡ from_le_bytes w64 bytes) × AreLast o before s e.pid r.from r.len bytes
  number-last r old is told = grind (arith, told-by r is)

  recalls : Recalls o before s e t
  recalls =
      record {
        load = λ a len bytes asked. bytes-last _ bytes (ap reach asked);
        xadd = λ a add old asked. number-last _ old (ap reach asked);
        exchange = λ a new bytes asked. bytes-last _ bytes (ap reach asked);
        compare_exchange = λ a expected desired bytes asked. bytes-last _ bytes (ap reach asked);
      }

-- of every legal history
pub has_last_writers : (o : Opening) (events : List Event) (end : Machine) → IsHistory o events end → HasLastWriters o events end
has_last_writers o events end h = grind (arith, common_steps, recollects, recalls)
