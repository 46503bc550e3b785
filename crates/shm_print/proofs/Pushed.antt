-- What was appended to a text.
use Rattle.std.proofs.Common.{◌≡◌, ℕ, List, ◌++◌, Ok, Err, append_assoc, refl}
use Rattle.std.specs.Prelude.{Result, OnOk, is_ok, codes, if◌then◌else◌}
use Rattle.std.specs.Fmt.{decimal}
use Rattle.shm_base.specs.declared.call.Event.{Event}
use Rattle.shm_print.specs.Text.{asked_text, call_text, reply_text, event_text}

pub pushed : {E : Type 0} (r : Result (Unit {0}) E) (a b t : List ℕ) → b ≡ (if is_ok r then a ++ t else a) → OnOk r (b ≡ a ++ t)
pushed (Ok _) a b t e = e
pushed (Err _) a b t e = tt

-- a word, an address and two operands, part by part
pub operands_pushed : {E : Type 0} (r : Result (Unit {0}) E) (a b c word addr one two : List ℕ)
    → b ≡ a ++ (word ++ (addr ++ (codes " " ++ one))) → OnOk r (c ≡ b ++ (codes " " ++ two))
    → OnOk r (c ≡ a ++ (word ++ (addr ++ (codes " " ++ (one ++ (codes " " ++ two))))))
operands_pushed (Ok _) a b c word addr one two p u = rw (u, p) (simp append_assoc refl)
operands_pushed (Err _) a b c word addr one two p u = tt

-- the line of an event up to its reply, part by part
pub asked_pushed : {E : Type 0} (r : Result (Unit {0}) E) (event : Event) (a b c d : List ℕ)
    → b ≡ a ++ (decimal event.pid ++ codes " ") → c ≡ b ++ call_text event.call → d ≡ (if is_ok r then c ++ codes " = " else c)
    → OnOk r (d ≡ a ++ asked_text event)
asked_pushed (Ok _) event a b c d p q u = rw (u, q, p) (simp append_assoc refl)
asked_pushed (Err _) event a b c d p q u = tt

-- the whole line, part by part
pub event_pushed : {E : Type 0} (r : Result (Unit {0}) E) (place : ℕ) (event : Event) (a b c d e f : List ℕ)
    → b ≡ a ++ decimal place → c ≡ b ++ codes " " → d ≡ c ++ asked_text event → e ≡ d ++ reply_text event.reply
    → f ≡ (if is_ok r then e ++ codes "\n" else e) → OnOk r (f ≡ a ++ event_text place event)
event_pushed (Ok _) place event a b c d e f p q u v w = rw (w, v, u, q, p) (simp append_assoc refl)
event_pushed (Err _) place event a b c d e f p q u v w = tt
