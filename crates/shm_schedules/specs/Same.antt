-- Equality of replies.
use Rattle.std.specs.Prelude.{◌≡◌, ◌&&◌, Bool, true, false, List, ℕ}
use Rattle.std.specs.Bool.{Decides}
use Rattle.std.specs.Cmp.Lexicographic.{pointwise, pointwise_decides}
use Rattle.std.proofs.Common.{refl, rules}
use Rattle.std.proofs.lemmas.Bool.Decides.{Decides-and, Decides-like}
use Rattle.std.specs.Cmp.{unsigned_Decides}
use Rattle.shm_base.specs.Calls.{ProcessCall}
use Rattle.shm_base.specs.declared.call.Call.TheVariants as calls
use Rattle.shm_base.specs.declared.call.Event.{Event}
use Rattle.shm_base.specs.declared.call.Reply.{Reply}
use Rattle.shm_base.specs.declared.call.ShmidDs.{ShmidDs}
use Rattle.shm_base.specs.declared.errno.Errno.{Errno}
use Rattle.shm_base.specs.declared.call.Reply.TheVariants.{Id, Addr, Bytes, Number, Stat, Done, Refused}
use Rattle.shm_base.specs.contracts.call.EventPartialEq.TheImpl as event
use Rattle.shm_base.specs.contracts.call.ReplyPartialEq.TheImpl as reply
use Rattle.shm_base.specs.contracts.call.ShmidDsPartialEq.TheImpl as ds
use Rattle.shm_base.specs.contracts.errno.ErrnoPartialEq.TheImpl as errno

pub same-errno : (a b : Errno) → Decides (errno.ghosts.eq a b) (a ≡ b)
same-errno a b = search rules

pub same-ds : (a b : ShmidDs) → Decides (ds.ghosts.eq a b) (a ≡ b)
same-ds a b =
    let both = λ (m n : ℕ). unsigned_Decides m n in
    Decides-like _
    (λ t i. record {
      key = t.0 i;
      perm = record { uid = t.1.0.0 i; gid = t.1.0.1.0 i; cuid = t.1.0.1.1.0 i; cgid = t.1.0.1.1.1.0 i; mode = t.1.0.1.1.1.1 i };
      status = record { 0 = t.1.1.0 i };
      cpid = t.1.1.1.0 i;
      lpid = t.1.1.1.1.0 i;
      nattch = t.1.1.1.1.1.0 i;
      size = t.1.1.1.1.1.1.0 i;
      atime = t.1.1.1.1.1.1.1.0 i;
      dtime = t.1.1.1.1.1.1.1.1.0 i;
      ctime = t.1.1.1.1.1.1.1.1.1 i;
    })
    (λ e. (
      λ i. (e i).key,
      (
        (λ i. (e i).perm.uid, (λ i. (e i).perm.gid, (λ i. (e i).perm.cuid, (λ i. (e i).perm.cgid, λ i. (e i).perm.mode)))),
        (λ i. (e i).status.0, (λ i. (e i).cpid, (λ i. (e i).lpid, (λ i. (e i).nattch, (λ i. (e i).size, (λ i. (e i).atime, (λ i. (e i).dtime, λ i. (e i).ctime))))))),
      ),
    ))
    (Decides-and _ _ (both _ _)
    (Decides-and _ _ (Decides-and _ _ (both _ _) (Decides-and _ _ (both _ _) (Decides-and _ _ (both _ _) (Decides-and _ _ (both _ _) (both _ _)))))
    (Decides-and _ _ (both _ _) (Decides-and _ _ (both _ _) (Decides-and _ _ (both _ _) (Decides-and _ _ (both _ _) (Decides-and _ _ (both _ _) (Decides-and _ _ (both _ _) (Decides-and _ _ (both _ _) (both _ _))))))))))

-- `==` says whether two replies are the same
pub same-reply : (a b : Reply) → Decides (reply.ghosts.eq a b) (a ≡ b)
same-reply (Id a) b = search rules
same-reply (Addr a) b = search rules
same-reply (Bytes a) b = search rules
same-reply (Number a) b = search rules
same-reply (Stat a) b = search (same-ds, rules)
same-reply Done b = search rules
same-reply (Refused a) b = search (same-errno, rules)

-- whether two lists of replies are the same
abbrev pub replies_eq : List Reply → List Reply → Bool
replies_eq = pointwise reply.ghosts.eq

pub same-replies : (a b : List Reply) → Decides (replies_eq a b) (a ≡ b)
same-replies = pointwise_decides same-reply

-- whether two outcomes are the same
abbrev pub outcome_eq : List (List Reply) → List (List Reply) → Bool
outcome_eq = pointwise replies_eq

pub same-outcomes : (a b : List (List Reply)) → Decides (outcome_eq a b) (a ≡ b)
same-outcomes = pointwise_decides same-replies

abbrev by_one : ProcessCall → Event
by_one call = record { pid = 0; call = call; reply = Done }

-- `==` says whether two calls are the same
pub same-call : (c d : ProcessCall) → Decides (event.ghosts.eq (by_one c) (by_one d)) (c ≡ d)
same-call (calls.Shmget key size mode flags) d = search rules
same-call (calls.Shmat id addr flags) d = search rules
same-call (calls.Shmdt addr) d = search rules
same-call (calls.Stat id) d = search rules
same-call (calls.Set id uid gid mode) d = search rules
same-call (calls.Rmid id) d = search rules
same-call (calls.Lock id) d = search rules
same-call (calls.Unlock id) d = search rules
same-call (calls.Load addr len) d = search rules
same-call (calls.Store chunk addr) d = search rules
same-call (calls.Xadd addr add) d = search rules
same-call (calls.Exchange chunk addr) d = search rules
same-call (calls.CompareExchange expected desired addr) d = search rules
same-call (calls.Fork child) d = search rules
same-call calls.Exec d = search rules
same-call calls.Exit d = search rules
same-call (calls.Swapoff area) d = search rules
same-call (calls.Munmap addr len) d = search rules
same-call (calls.Mprotect addr len writable) d = search rules
same-call (calls.Setuid uid gid) d = search rules

pub and-true : (b : Bool) → b ≡ (b && true)
and-true true = refl
and-true false = refl
