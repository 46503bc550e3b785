-- The events of one process from a place on, and its next line.
use Rattle.std.specs.Prelude.{◌≡◌, ◌<◌, ℕ, ◌+◌, List, ◌∷◌, Option, Some, length, drop, map, slice_index_or}
use Rattle.std.proofs.Common.{sym, ap, ◌∙◌, arith}
use Rattle.std.proofs.Math.Seq.{drop-cons}
use Rattle.shm_base.specs.History.{own_part}
use Rattle.shm_base.specs.declared.call.Event.{Event}
use Rattle.shm_base.specs.declared.call.Reply.{Reply}
use Rattle.shm_text.specs.Form.{CommandView}
use Rattle.shm_text.specs.Variables.{values_after}
use Rattle.shm_text.specs.declared.script.Line.{Line}
use Rattle.shm_text.specs.declared.script.Line.TheVariants.{Command}
use Rattle.shm_schedules.specs.Schedules.{next_call, replies_to, reply_of}

pub own-take :
    (pid : ℕ) (events : List Event) (i : ℕ) (e : Event)
    → i < length events → e ≡ slice_index_or events i e → e.pid ≡ pid → own_part pid (drop i events) ≡ e ∷ own_part pid (drop (i + 1) events)
own-take pid events i e lt is same = grind (arith, drop-cons events i e)

own-line :
    (pid : ℕ) (values : List (Option ℕ)) (c : CommandView) (rest : List Line) (r : Reply) (replies : List Reply)
    → c.pid ≡ pid → next_call pid values (Command c ∷ rest) (r ∷ replies) ≡ next_call pid (values_after values c.var (Some r)) rest replies
own-line pid values c rest r replies same = grind arith

-- the first line without a reply, once the one before it has its own
pub next-own :
    (pid : ℕ) (values : List (Option ℕ)) (lines : List Line) (i : ℕ) (line : Line) (c : CommandView) (events : List Event) (place next : ℕ) (e : Event)
    → i < length lines → line ≡ slice_index_or lines i line → line ≡ Command c → c.pid ≡ pid
    → own_part pid (drop next events) ≡ own_part pid (drop place events)
    → next < length events → e ≡ slice_index_or events next e → e.pid ≡ pid
    → next_call pid values (drop i lines) (replies_to pid (drop place events))
    ≡ next_call pid (values_after values c.var (Some e.reply)) (drop (i + 1) lines) (replies_to pid (drop (next + 1) events))
next-own pid values lines i line c events place next e i-lt is command same own next-lt e-is mine =
    let a : drop i lines ≡ Command c ∷ drop (i + 1) lines = grind (arith, drop-cons lines i line) in
    let b : replies_to pid (drop place events) ≡ e.reply ∷ replies_to pid (drop (next + 1) events) = ap (map reply_of) (sym own ∙ own-take pid events next e next-lt e-is mine) in
    rw (a, b) (own-line pid values c (drop (i + 1) lines) e.reply (replies_to pid (drop (next + 1) events)) same)
