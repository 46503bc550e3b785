-- A call sees no byte that is hidden from its process.
use Rattle.shm_laws.proofs.Names.{◌≡◌, ◌⊎◌, ℕ, ◌+◌, ◌/◌, ◌%◌, Bool, true, false, List, [], ◌∷◌, length, Option, Some, None, refl, sym, ap, subst, ◌∙◌, inl, inr, arith, common_steps, slice_get_within, ProcessCall, Event, Place, place, places, stored, Entry, Piece, Machine, Opening, identifier, destroyed_in, destroyed_at, Outcome, Caller, caller_of, acts, step_by, step, is_failure, IsMove, IsHistory, HasPiece, Reach, reach, veiled_from, veil, DifferIn, HasNone, IsPrivate, IsAsked, IsBlindOn, IsIsolated, pieces_of_caller, clear_step, first_clear, rest_clear, Reply, option_map, suc, put}
use Rattle.shm_life.proofs.Seeing.{AreHidden, is_hidden, seen, seen-destroyed, seen_table, stored-hidden}
use Rattle.shm_life.proofs.SeenSteps.{acts-seen, see, told}
use Rattle.shm_laws.proofs.Refusing.{by-move}
use Rattle.shm_laws.proofs.Accessing.{place-of, places-length, Changes, accesses}
use Rattle.shm_laws.proofs.Fitting.{spot-fits}
use Rattle.shm_laws.proofs.Holding.{IsGood, good-move, good-at}
use Rattle.shm_laws.proofs.Looks.{stands-at}

-- the outcome with those bytes hidden
abbrev out : (ℕ → Bool) → Outcome → Outcome
out hidden o = record { reply = o.reply; state = veil hidden o.state }

-- THE MACHINE WITH THOSE BYTES HIDDEN

-- whether a segment's bytes are hidden, by its index and by how many segments were destroyed there
abbrev hides : (ℕ → Bool) → ℕ → ℕ → Bool
hides hidden i d = hidden (identifier i d)

-- hiding these bytes is to see the table with the times that it has
table-seen : (hidden : ℕ → Bool) (h : ℕ → ℕ → Bool) (k : ℕ) → ((i d : ℕ) → hidden (identifier (k + i) d) ≡ h i d) → (t : List Entry) → veiled_from hidden k t ≡ seen_table (λ m. m) h t
table-seen hidden h k is [] = refl
table-seen hidden h k is (e ∷ es) =
    let here : k ≡ k + 0 = omega arith in
    let first : hidden (identifier k e.destroyed) ≡ h 0 e.destroyed = ap (λ m. hidden (identifier m e.destroyed)) here ∙ is 0 e.destroyed in
    λ j. record e { segment = option_map (seen (λ m. m) (first j)) e.segment } ∷ table-seen hidden (λ i. h (suc i)) (k + 1) next es j
  where
    next : (i d : ℕ) → hidden (identifier ((k + 1) + i) d) ≡ h (suc i) d
    next i d = let up : (k + 1) + i ≡ k + suc i = omega arith in ap (λ m. hidden (identifier m d)) up ∙ is (suc i) d

veil-seen : (hidden : ℕ → Bool) (s : Machine) → veil hidden s ≡ see (λ m. m) (hides hidden) s
veil-seen hidden s = ap (λ t. record s { table = t }) (table-seen hidden (hides hidden) 0 same s.table)
  where
    same : (i d : ℕ) → hidden (identifier (0 + i) d) ≡ hides hidden i d
    same i d = let here : 0 + i ≡ i = omega arith in ap (λ m. hidden (identifier m d)) here

told-same : (r : Reply) → told (λ m. m) r ≡ r
told-same r = grind arith

veil-destroyed : (hidden : ℕ → Bool) (s : Machine) (i : ℕ) → destroyed_at (veil hidden s).table i ≡ destroyed_at s.table i
veil-destroyed hidden s i = ap (λ (m : Machine). destroyed_at m.table i) (veil-seen hidden s) ∙ seen-destroyed (λ m. m) (hides hidden) s.table i

-- each place of these pieces is hidden, or none is
abbrev AllHidden : (ℕ → Bool) → Bool → List Entry → List Piece → Type 0
AllHidden hidden b t ps = (a : ℕ) (q : Place) → place ps a ≡ Some q → is_hidden (hides hidden) t q ≡ b

-- so is each place of an access
access-hidden : (hidden : ℕ → Bool) (b : Bool) (t : List Entry) (ps : List Piece) → AllHidden hidden b t ps → (a len : ℕ) (qs : List Place) → places ps a len ≡ Some qs → AreHidden (hides hidden) b t qs
access-hidden hidden b t ps all a len qs found k q is =
    let within = slice_get_within qs k q is in
    let long = places-length ps a len qs found in
    let spot = place-of ps a len qs found k (omega (arith, within, long)) in
    all (a + k) q (spot.is ∙ sym spot.at ∙ is)

-- ONE TURN

-- each place of the process is hidden, or none is
abbrev OwnHidden : (ℕ → Bool) → Bool → Machine → ℕ → Type 0
OwnHidden hidden b s pid = AllHidden hidden b s.table (pieces_of_caller (caller_of s pid))

-- a call of a process that sees no hidden byte
out-by : (hidden : ℕ → Bool) (s : Machine) (n : ℕ) (call : ProcessCall) (o : Option Caller) → AllHidden hidden false s.table (pieces_of_caller o) → step_by (veil hidden s) n call o ≡ out hidden (step_by s n call o)
out-by hidden s n call None clear = refl
out-by hidden s n call (Some c) clear =
    let o = acts s n c call in
    ap (λ m. acts m n c call) (veil-seen hidden s)
    ∙ acts-seen (λ m. m) (hides hidden) refl s n c (access-hidden hidden false s.table c.pieces clear) call
    ∙ (λ j. record { reply = told-same o.reply j; state = sym (veil-seen hidden o.state) j })

-- whether a place of the process is hidden is whether its piece's segment is
spot-hidden : (hidden : ℕ → Bool) (s : Machine) (pid : ℕ) (b : Bool) → IsGood s → ((p : Piece) → HasPiece s pid p → hidden p.seg ≡ b) → OwnHidden hidden b s pid
spot-hidden hidden s pid b good each a q found =
    let f = spot-fits s pid a q good.fits found in
    let seg : q.seg ≡ f.piece.seg = ap (λ (r : Place). r.seg) f.spot in
    let count : destroyed_at s.table (q.seg % 32768) ≡ q.seg / 32768 =
    ap (λ m. destroyed_at s.table (m % 32768)) seg ∙ ap destroyed_in (stands-at s.table f.piece.seg f.fits.segment f.fits.stands) ∙ ap (λ m. m / 32768) (sym seg) in
    let own : identifier (q.seg % 32768) (destroyed_at s.table (q.seg % 32768)) ≡ q.seg = omega (arith, count) in
    ap hidden (own ∙ seg) ∙ each f.piece f.has

-- and the same in a machine that differs in the hidden bytes
other-hidden : (hidden : ℕ → Bool) (s other : Machine) (pid : ℕ) (b : Bool) → DifferIn hidden s other → OwnHidden hidden b s pid → OwnHidden hidden b other pid
other-hidden hidden s other pid b differ own a q found =
    let runners : other.runners ≡ s.runners = ap (λ (m : Machine). m.runners) (sym differ) in
    let there : place (pieces_of_caller (caller_of s pid)) a ≡ Some q = ap (λ rs. place (pieces_of_caller (caller_of (record s { runners = rs }) pid)) a) (sym runners) ∙ found in
    let i = q.seg % 32768 in
    let count : destroyed_at other.table i ≡ destroyed_at s.table i =
    sym (veil-destroyed hidden other i) ∙ ap (λ (m : Machine). destroyed_at m.table i) (sym differ) ∙ veil-destroyed hidden s i in
    ap (hides hidden i) count ∙ own a q there

blind-step : (hidden : ℕ → Bool) (s other : Machine) (n pid : ℕ) (call : ProcessCall) → DifferIn hidden s other → OwnHidden hidden false s pid
    → out hidden (step s n pid call) ≡ out hidden (step other n pid call)
blind-step hidden s other n pid call differ clear =
    sym (out-by hidden s n call (caller_of s pid) clear) ∙ ap (λ m. step m n pid call) differ
    ∙ out-by hidden other n call (caller_of other pid) (other-hidden hidden s other pid false differ clear)

pub blind-move : (s : Machine) (n : ℕ) (e : Event) (t : Machine) → IsGood s → IsMove s n e t → (hidden : ℕ → Bool) (other : Machine) → HasNone hidden s e.pid → DifferIn hidden s other
    → (after : Machine) × IsMove other n e after × DifferIn hidden t after
blind-move s n e t good m hidden other none differ = by m
  where
    same : out hidden (step s n e.pid e.call) ≡ out hidden (step other n e.pid e.call)
    same = blind-step hidden s other n e.pid e.call differ (spot-hidden hidden s e.pid false good none)

    reply : (step other n e.pid e.call).reply ≡ (step s n e.pid e.call).reply
    reply = ap (λ (o : Outcome). o.reply) (sym same)

    by : IsMove s n e t → (after : Machine) × IsMove other n e after × DifferIn hidden t after
    by (inl step_to) = grind (arith, common_steps, reply, same)
    by (inr x) = grind (arith, common_steps, reply)

-- WHAT IS PRIVATE

module _ (hidden : ℕ → Bool) (s : Machine) (n : ℕ) (c : Caller) (own : AllHidden hidden true s.table c.pieces) where
  private-acts : (call : ProcessCall) (r : Reach) → reach call ≡ Some r → veil hidden (acts s n c call).state ≡ veil hidden s
  private-acts call r is = by (accesses s n c call r is).changes
    where
      by : let o = acts s n c call in Changes s c (put call o.reply) o.state → veil hidden o.state ≡ veil hidden s
      by (inl k) = ap (veil hidden) k.1
      by (inr k) =
          ap (veil hidden) k.state ∙ veil-seen hidden (record s { table = stored s.table k.spots k.what.bytes })
          ∙ ap (λ t. record s { table = t }) (stored-hidden (λ m. m) (hides hidden) s.table k.spots k.what.bytes (access-hidden hidden true s.table c.pieces own k.what.from (length k.what.bytes) k.spots k.found))
          ∙ sym (veil-seen hidden s)

-- an access to what is hidden leaves the rest
private-move : (hidden : ℕ → Bool) (s : Machine) (n : ℕ) (e : Event) (t : Machine) (r : Reach) → reach e.call ≡ Some r → OwnHidden hidden true s e.pid → IsMove s n e t → DifferIn hidden t s
private-move hidden s n e t r is own =
    by-move s n e t (λ x u. DifferIn hidden u s) (λ c live. private-acts hidden s n c (λ a q at. own a q (rw live at)) e.call r is) (λ x no. refl)

-- FROM A MOMENT ON

abbrev Asks : (ℕ → Bool) → Machine → Event → Event → Type 0
Asks hidden u e f = IsAsked hidden u e f ⊎ IsPrivate hidden u e f

abbrev Alike : (ℕ → Bool) → Machine → Event → Event → Type 0
Alike hidden u e f = (f ≡ e) ⊎ IsPrivate hidden u e f

-- one turn of two that go side by side
record OneTurn (hidden : ℕ → Bool) (s : Machine) (e f : Event) (u v : Machine) : Type 0 where
  alike : Alike hidden s e f
  differ : DifferIn hidden u v

one-turn : (hidden : ℕ → Bool) (s other : Machine) (n : ℕ) (e f : Event) (u v : Machine) → IsGood s → DifferIn hidden s other → IsMove s n e u → IsMove other n f v
    → is_failure e.call e.reply ≡ false → is_failure f.call f.reply ≡ false → Asks hidden s e f → OneTurn hidden s e f u v
one-turn hidden s other n e f u v good differ m k a b (inl asks) =
    let left = clear_step s n e u a m in
    let right = clear_step other n f v b k in
    let same = blind-step hidden s other n e.pid e.call differ (spot-hidden hidden s e.pid false good asks.none) in
    let there : step other n f.pid f.call ≡ step other n e.pid e.call = λ j. step other n (asks.process j) (asks.call j) in
    let both : out hidden (record { reply = f.reply; state = v }) ≡ out hidden (record { reply = e.reply; state = u }) =
    ap (out hidden) (sym right ∙ there) ∙ sym same ∙ ap (out hidden) left in
    record {
      alike = inl (λ j. record { pid = asks.process j; call = asks.call j; reply = (both j).reply });
      differ = sym (ap (λ (o : Outcome). o.state) both);
    }
one-turn hidden s other n e f u v good differ m k a b (inr private) =
    let own = spot-hidden hidden s e.pid true good private.own in
    let other-own : OwnHidden hidden true other f.pid = subst (OwnHidden hidden true other) (sym private.process) (other-hidden hidden s other e.pid true differ own) in
    record {
      alike = inr private;
      differ = private-move hidden s n e u private.left.0 private.left.1 own m ∙ differ ∙ sym (private-move hidden other n f v private.right.0 private.right.1 other-own k);
    }

blind-on : (n : ℕ) (s : Machine) (events : List Event) (t : Machine) → IsGood s → IsBlindOn n s events t
blind-on n s [] t good hidden other [] after differ legal a b beside = (beside, ap (veil hidden) beside ∙ differ ∙ ap (veil hidden) (sym legal))
blind-on n s [] t good hidden other (f ∷ fs) after differ legal a b beside = absurd beside
blind-on n s (e ∷ es) t good hidden other [] after differ legal a b beside = absurd beside
blind-on n s (e ∷ es) t good hidden other (f ∷ fs) after differ legal a b beside =
    let one = one-turn hidden s other n e f beside.0 legal.0 good differ beside.1 legal.1 (first_clear e es a) (first_clear f fs b) beside.2 in
    let more = blind-on (n + 1) beside.0 es t (good-move s n e beside.0 good beside.1) hidden legal.0 fs after one.differ legal.2 (rest_clear e es a) (rest_clear f fs b) beside.3 in
    ((beside.0, beside.1, one.alike, more.0), more.1)

-- of every legal history
pub is_isolated : (o : Opening) (events : List Event) (end : Machine) → IsHistory o events end → IsIsolated o events end
is_isolated o events end h =
    record {
      turns = λ before s e t turn hidden other none differ. blind-move s (length before + 1) e t (good-at o before s turn.leads) turn.move hidden other none differ;
      onwards = λ before s m. blind-on (length before + 1) s m.after end (good-at o before s m.leads);
    }
