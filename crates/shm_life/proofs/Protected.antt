-- mprotect, from what the address spaces answer.
use Rattle.shm_life.proofs.Names.{◌≡◌, ◌∙◌, ℕ, Bool, refl, ap, sym, Machine, Result, Ok, Err, Caller, with_pieces, after_split, done_or, mprotect, protects, protects_pieces, Reply, Errno, refusal_in, done, replied}

done-or : (r : Result (Unit {0}) Errno) → done_or (refusal_in r) ≡ replied done r
done-or (Ok t) = refl
done-or (Err e) = refl

pub mprotect-as : (s : Machine) (n : ℕ) (k : Caller) (most : ℕ) (w : Bool) (addr len : ℕ) (r : Result (Unit {0}) Errno) → most ≡ s.limits.most_pieces → refusal_in r ≡ (protects_pieces most w addr len k.pieces).refusal
    → mprotect s n k addr len w
    ≡ record {
      reply = replied done r;
      state = record s {
        table = after_split s n k (protects_pieces most w addr len k.pieces).split;
        runners = with_pieces s.runners k (protects_pieces most w addr len k.pieces).pieces;
      };
    }
mprotect-as s n k most w addr len r same is =
    let x = protects_pieces most w addr len k.pieces in
    ap (λ (m : ℕ). protects s n k (protects_pieces m w addr len k.pieces)) (sym same)
    ∙ ap (λ (reply : Reply). record { reply = reply; state = record s { table = after_split s n k x.split; runners = with_pieces s.runners k x.pieces } }) (ap done_or (sym is) ∙ done-or r)
