-- Each of the four kinds of step on a gauge's cell keeps its rule.
use Rattle.std.proofs.Common.{◌≡◌, ◌≢◌, ℕ, zero, suc, ◌≤◌, List, [], ◌∷◌, ◌++◌, set, true, false, true≢false, refl, sym, ap, ◌∙◌, subst, ⊎_elim, le_refl, le_trans, arith, append_assoc, append-nil}
use mathlib.Core.Option.{some, some-ne-none, some-injective}
use lib.ListN.{get_elem?}
use Rattle.crossbeam_utils.specs.Register.{Turns, Forks}
use Rattle.atomic_table.proofs.Lists.{at_set, at_snoc, set_again, set_else, at_longer}
use Rattle.shm_history.specs.declared.cell.Reading.{Reading}
use Rattle.shm_history.specs.declared.cell.SeatView.{SeatView}
use Rattle.shm_history.specs.Gauges.{zeros, cell_words, numbers_of, IsReading, last_of, StartsWith, Fits, keeping, having_seen, IsGaugeSound, IsLoad, IsStore}

set_there : (l : List SeatView) (i : ℕ) (a b : SeatView) → get_elem? l i ≡ some b → get_elem? (set l i a) i ≡ some a
set_there [] i a b e = absurd (some-ne-none b (sym e))
set_there (x ∷ xs) zero a b e = refl
set_there (x ∷ xs) (suc i) a b e = set_there xs i a b e

off : false ≡ true → ⊥
off e = true≢false (sym e)

fits_set : (seat : ℕ) (now : Reading) (all : List Reading) (views : List SeatView) (by : ℕ) (w : SeatView) → ((j : ℕ) (u : SeatView) → j ≢ by → get_elem? views j ≡ some u → Fits seat now all j u) → Fits seat now all by w → (j : ℕ) (u : SeatView) → get_elem? (set views by w) j ≡ some u → Fits seat now all j u
fits_set seat now all views by w others mine j u e =
    ⊎_elim
    (λ (x : (j ≡ by) × (w ≡ u)). subst (λ (y : ℕ × SeatView). Fits seat now all y.0 y.1) (λ i. (sym x.0 i, x.1 i)) mine)
    (λ (x : (j ≢ by) × (get_elem? views j ≡ some u)). others j u x.0 x.1)
    (at_set views by j w u e)

same_view : (views : List SeatView) (i j : ℕ) (v w : SeatView) → get_elem? views i ≡ some v → get_elem? views j ≡ some w → i ≡ j → v ≡ w
same_view views i j v w at there e = some-injective v w (sym at ∙ ap (λ k. get_elem? views k) e ∙ there)

last-snoc : (d : Reading) (rs : List Reading) (r : Reading) → last_of d (rs ++ r ∷ []) ≡ r
last-snoc d [] r = refl
last-snoc d (x ∷ rs) r = last-snoc x rs r

all-begin : (all : List Reading) → StartsWith all all
all-begin all = ([], sym (append-nil all))

-- make
pub begins : IsGaugeSound (cell_words zeros) (keeping zeros [] ∷ [])
begins = record { seat = 0; now = zeros; all = []; is = refl; bounds = (omega arith, omega arith, omega arith); latest = refl; there = refl; fits = one }
  where
    one : (by : ℕ) (v : SeatView) → get_elem? (keeping zeros [] ∷ []) by ≡ some v → Fits 0 zeros [] by v
    one zero v e = subst (Fits 0 zeros [] 0) (some-injective _ _ e) (record { keeper = λ _. refl; events = le_refl 0; begins = ([], refl); last = refl })
    one (suc by) v e = absurd (some-ne-none v (sym e))

-- split
pub forks : (by : ℕ) (v : SeatView) → Forks IsGaugeSound by v v (having_seen v.seen v.stored)
forks by v words views h at =
    let back = set_again views by v at in
    let own = h.fits by v at in
    record {
      seat = h.seat;
      now = h.now;
      all = h.all;
      is = h.is;
      bounds = h.bounds;
      latest = h.latest;
      there = at_longer (set views by v) (having_seen v.seen v.stored ∷ []) h.seat (keeping h.now h.all) (ap (λ l. get_elem? l h.seat) back ∙ h.there);
      fits = λ j u e. ⊎_elim
          (λ was. h.fits j u (subst (λ l. get_elem? l j ≡ some u) back was))
          (λ (same : having_seen v.seen v.stored ≡ u). subst (Fits h.seat h.now h.all j) same (record { keeper = λ c. absurd (off c); events = own.events; begins = own.begins; last = own.last }))
          (at_snoc (set views by v) (having_seen v.seen v.stored) u j e);
    }

-- load
pub loads : (by : ℕ) (v : SeatView) → v.is_keeper ≡ false → Turns IsGaugeSound by v (λ x. x) IsLoad
loads by v reads words views h at =
    let w = having_seen h.now h.all in
    let apart : h.seat ≢ by = λ e. true≢false (ap (λ (u : SeatView). u.is_keeper) (same_view views h.seat by (keeping h.now h.all) v h.there at e) ∙ reads) in (
      w,
      record {
        seat = h.seat;
        now = h.now;
        all = h.all;
        is = h.is;
        bounds = h.bounds;
        latest = h.latest;
        there = set_else views by h.seat w apart ∙ h.there;
        fits = fits_set h.seat h.now h.all views by w (λ j u _ e. h.fits j u e) (record { keeper = λ c. absurd (off c); events = le_refl _; begins = all-begin h.all; last = h.latest });
      },
      record { reader = refl; seen = ap numbers_of (sym h.is); bounds = h.bounds; later = (h.fits by v at).events; grows = (h.fits by v at).begins; last = h.latest },
    )

grow : (all seen : List Reading) (r : Reading) → StartsWith all seen → StartsWith (all ++ r ∷ []) seen
grow all seen r s = (s.0 ++ r ∷ [], ap (λ l. l ++ r ∷ []) s.1 ∙ append_assoc seen s.0 (r ∷ []))

-- store
pub stores : (by : ℕ) (old new : Reading) (before : List Reading) → old.events ≤ new.events → IsReading new → Turns IsGaugeSound by (keeping old before) (λ _. cell_words new) IsStore
stores by old new before more sound words views h at =
    let mine : by ≡ h.seat = (h.fits by (keeping old before) at).keeper refl in
    let known : keeping old before ≡ keeping h.now h.all = same_view views by h.seat (keeping old before) (keeping h.now h.all) at h.there mine in
    let more' : h.now.events ≤ new.events = subst (λ (u : SeatView). u.seen.events ≤ new.events) known more in
    let same : before ≡ h.all = ap (λ (u : SeatView). u.stored) known in
    let later = before ++ new ∷ [] in
    let w = keeping new later in (
      w,
      record {
        seat = by;
        now = new;
        all = later;
        is = refl;
        bounds = sound;
        latest = sym (last-snoc zeros before new);
        there = set_there views by w (keeping old before) at;
        fits = fits_set by new later views by w
            (λ j u apart e. (let f = h.fits j u e in record { keeper = λ k. f.keeper k ∙ sym mine; events = le_trans f.events more'; begins = grow before u.stored new (subst (λ l. StartsWith l u.stored) (sym same) f.begins); last = f.last }))
            (record { keeper = λ _. refl; events = le_refl _; begins = all-begin later; last = sym (last-snoc zeros before new) });
      },
      refl,
    )

-- the store, at a view and words that are known
pub stores_as : (by : ℕ) (v : SeatView) (old new : Reading) (before : List Reading) (words : List ℕ) → v ≡ keeping old before → words ≡ cell_words new → old.events ≤ new.events → IsReading new → Turns IsGaugeSound by v (λ _. words) IsStore
stores_as by v old new before words is these more sound =
    subst (λ (p : SeatView × List ℕ). Turns IsGaugeSound by p.0 (λ _. p.1) IsStore) (λ i. (sym is i, sym these i)) (stores by old new before more sound)
