-- Changes of a table that keep what a segment was made as, and its mark; and what becomes of its bytes.
use Rattle.shm_laws.proofs.Names.{◌≡◌, ◌≢◌, ◌⊎◌, ℕ, suc, zero, ◌+◌, ◌%◌, ◌==◌, if◌then◌else◌, List, [], ◌∷◌, Option, Some, slice_get, slice_set, refl, sym, subst, ◌∙◌, inl, inr, arith, eq-eqb, ne_eqb, common_steps, none-some, option_map, cases_eq, Segment, Entry, Runner, Place, set_in, with_byte, byte_set, stored, change, with_entry, detached, detach_all, swept_at, swept_from, swept, IsSame, get-set_same, get-set_other, change_all, attach_all, attached}

pub same_refl : (x : Segment) → IsSame x x
same_refl x = record { size = refl; cpid = refl; cuid = refl; cgid = refl }

pub same_trans : (x y z : Segment) → IsSame x y → IsSame y z → IsSame x z
same_trans x y z a b = record { size = b.size ∙ a.size; cpid = b.cpid ∙ a.cpid; cuid = b.cuid ∙ a.cuid; cgid = b.cgid ∙ a.cgid }

-- it has the same key, and is marked if it was
pub record IsAlike (x y : Segment) : Type 0 where
  pub key : y.key ≡ x.key
  pub dest : y.dest ≡ x.dest

pub alike_refl : (x : Segment) → IsAlike x x
alike_refl x = record { key = refl; dest = refl }

pub alike_trans : (x y z : Segment) → IsAlike x y → IsAlike y z → IsAlike x z
alike_trans x y z a b = record { key = b.key ∙ a.key; dest = b.dest ∙ a.dest }

-- the entry at an index is changed in this way, and its bytes become these
pub record Turned (over : List ℕ → List ℕ) (t u : List Entry) (i : ℕ) : Type 0 where
  pub turn : Segment → Segment
  pub same : (x : Segment) → IsSame x (turn x)
  pub alike : (x : Segment) → IsAlike x (turn x)
  pub bytes : (x : Segment) → (turn x).bytes ≡ over x.bytes
  pub at : slice_get u i ≡ option_map (with_entry turn) (slice_get t i)

pub entry-none : (o : Option Entry) → option_map (with_entry (λ x. x)) o ≡ o
entry-none o = grind arith

entry-twice : (f g : Segment → Segment) (o : Option Entry) → option_map (with_entry g) (option_map (with_entry f) o) ≡ option_map (with_entry (λ x. g (f x))) o
entry-twice f g o = grind arith

pub turned-over : (f g : List ℕ → List ℕ) (t u : List Entry) (i : ℕ) → ((bytes : List ℕ) → f bytes ≡ g bytes) → Turned f t u i → Turned g t u i
turned-over f g t u i become a = record { turn = a.turn; same = a.same; alike = a.alike; bytes = λ x. a.bytes x ∙ become x.bytes; at = a.at }

-- they stay
abbrev pub unchanged : List ℕ → List ℕ
unchanged bytes = bytes

pub turned-as : (t u : List Entry) (i : ℕ) → slice_get u i ≡ slice_get t i → Turned unchanged t u i
turned-as t u i is = record { turn = λ x. x; same = same_refl; alike = alike_refl; bytes = λ x. refl; at = is ∙ sym (entry-none (slice_get t i)) }

pub turned-refl : (t : List Entry) (i : ℕ) → Turned unchanged t t i
turned-refl t i = turned-as t t i refl

pub turned-trans : (f g : List ℕ → List ℕ) (t u v : List Entry) (i : ℕ) → Turned f t u i → Turned g u v i → Turned (λ bytes. g (f bytes)) t v i
turned-trans f g t u v i a b = grind (arith, common_steps, same_trans, alike_trans, entry-twice)

-- ONE ENTRY

-- what is read where it was set
pub set-got : {X : Type 0} (xs : List X) (i : ℕ) (v x : X) → slice_get (slice_set xs i v) i ≡ Some x → v ≡ x
set-got [] i v x h = absurd (none-some x h)
set-got (y ∷ ys) zero v x h = cc h
set-got (y ∷ ys) (suc i) v x h = set-got ys i v x h

pub set_in-here : (t : List Entry) (k : ℕ) (g : Entry → Entry) (o : Option Entry) → slice_get t k ≡ o → slice_get (set_in t k g o) k ≡ option_map g o
set_in-here t k g o is = grind (arith, get-set_same)

pub set_in-there : (t : List Entry) (k i : ℕ) (g : Entry → Entry) (o : Option Entry) → k ≢ i → slice_get (set_in t k g o) i ≡ slice_get t i
set_in-there t k i g o apart = grind (arith, get-set_other)

module _ (f : Segment → Segment) (same : (x : Segment) → IsSame x (f x)) (alike : (x : Segment) → IsAlike x (f x)) where
  turned-here : (over : List ℕ → List ℕ) (t : List Entry) (k : ℕ) → ((x : Segment) → (f x).bytes ≡ over x.bytes) → Turned over t (set_in t k (with_entry f) (slice_get t k)) k
  turned-here over t k bytes = record { turn = f; same = same; alike = alike; bytes = bytes; at = set_in-here t k (with_entry f) (slice_get t k) refl }

  turned-there : (t : List Entry) (k i : ℕ) → k ≢ i → Turned unchanged t (set_in t k (with_entry f) (slice_get t k)) i
  turned-there t k i apart = turned-as t (set_in t k (with_entry f) (slice_get t k)) i (set_in-there t k i (with_entry f) (slice_get t k) apart)

  pub turned-change : ((x : Segment) → (f x).bytes ≡ x.bytes) → (t : List Entry) (id i : ℕ) → Turned unchanged t (change t id f) i
  turned-change bytes t id i = grind (arith, common_steps, inl, turned-here, inr, turned-there)

-- MANY

turned-all : (f : Segment → Segment) → ((x : Segment) → IsSame x (f x)) → ((x : Segment) → IsAlike x (f x)) → ((x : Segment) → (f x).bytes ≡ x.bytes)
    → (ids : List ℕ) (t : List Entry) (i : ℕ) → Turned unchanged t (change_all f t ids) i
turned-all f same alike bytes [] t i = turned-refl t i
turned-all f same alike bytes (id ∷ ids) t i =
    turned-trans unchanged unchanged t (change t id f) (change_all f (change t id f) ids) i (turned-change f same alike bytes t id i)
    (turned-all f same alike bytes ids (change t id f) i)

pub turned-detach : (n pid : ℕ) (ids : List ℕ) (t : List Entry) (i : ℕ) → Turned unchanged t (detach_all n pid t ids) i
turned-detach n pid = turned-all (detached n pid) (λ x. record { size = refl; cpid = refl; cuid = refl; cgid = refl }) (λ x. record { key = refl; dest = refl }) (λ x. refl)

pub turned-attach : (n pid : ℕ) (ids : List ℕ) (t : List Entry) (i : ℕ) → Turned unchanged t (attach_all n pid t ids) i
turned-attach n pid = turned-all (attached n pid) (λ x. record { size = refl; cpid = refl; cuid = refl; cgid = refl }) (λ x. record { key = refl; dest = refl }) (λ x. refl)

-- one byte that is put, if it is one of the index's
abbrev pub byte_in : ℕ → Place → ℕ → List ℕ → List ℕ
byte_in i p v bytes = if p.seg % 32768 == i then slice_set bytes p.at v else bytes

-- and many of them, in their order
abbrev pub puts_in : ℕ → List Place → List ℕ → List ℕ → List ℕ
puts_in i [] vs bytes = bytes
puts_in i (p ∷ ps) [] bytes = bytes
puts_in i (p ∷ ps) (v ∷ vs) bytes = puts_in i ps vs (byte_in i p v bytes)

turned-byte : (p : Place) (v : ℕ) (t : List Entry) (i : ℕ) → Turned (byte_in i p v) t (with_byte t p v) i
turned-byte p v t i = by (cases_eq (p.seg % 32768) i)
  where
    same : (x : Segment) → IsSame x (byte_set p.at v x)
    same x = record { size = refl; cpid = refl; cuid = refl; cgid = refl }

    alike : (x : Segment) → IsAlike x (byte_set p.at v x)
    alike x = record { key = refl; dest = refl }

    by : (p.seg % 32768 ≡ i) ⊎ (p.seg % 32768 ≢ i) → Turned (byte_in i p v) t (with_byte t p v) i
    by (inl h) =
        turned-over (λ bytes. slice_set bytes p.at v) (byte_in i p v) t (with_byte t p v) i (λ bytes. rw (eq-eqb (p.seg % 32768) i h) refl)
        (subst (Turned (λ bytes. slice_set bytes p.at v) t (with_byte t p v)) h
        (turned-here (byte_set p.at v) same alike (λ bytes. slice_set bytes p.at v) t (p.seg % 32768) (λ x. refl)))
    by (inr apart) =
        turned-over unchanged (byte_in i p v) t (with_byte t p v) i (λ bytes. rw (ne_eqb (p.seg % 32768) i apart) refl)
        (turned-there (byte_set p.at v) same alike t (p.seg % 32768) i apart)

pub turned-stored : (ps : List Place) (vs : List ℕ) (t : List Entry) (i : ℕ) → Turned (puts_in i ps vs) t (stored t ps vs) i
turned-stored [] vs t i = turned-refl t i
turned-stored (p ∷ ps) [] t i = turned-refl t i
turned-stored (p ∷ ps) (v ∷ vs) t i =
    turned-trans (byte_in i p v) (puts_in i ps vs) t (with_byte t p v) (stored (with_byte t p v) ps vs) i
    (turned-byte p v t i) (turned-stored ps vs (with_byte t p v) i)

-- THE SWEEP

abbrev pub swept_entry : ℕ → List Runner → Entry → Entry
swept_entry i rs e = swept_at i rs e.destroyed e.segment

swept_from-get : (k i : ℕ) (rs : List Runner) (t : List Entry) → slice_get (swept_from k rs t) i ≡ option_map (swept_entry (k + i) rs) (slice_get t i)
swept_from-get k i rs [] = refl
swept_from-get k zero rs (e ∷ es) = let here : k + 0 ≡ k = omega arith in rw here refl
swept_from-get k (suc i) rs (e ∷ es) = let next : k + suc i ≡ (k + 1) + i = omega arith in rw next (swept_from-get (k + 1) i rs es)

pub swept-get : (rs : List Runner) (t : List Entry) (i : ℕ) → slice_get (swept rs t) i ≡ option_map (swept_entry i rs) (slice_get t i)
swept-get rs t i = let here : 0 + i ≡ i = omega arith in rw here at (swept_from-get 0 i rs t)
