-- Runs with one key are equivalent: they continue by the same calls, to runs with one key.
use Rattle.shm_outcomes.proofs.Names.{◌≡◌, ℕ, ◌++◌, ◌∷◌, [], length, Option, Some, None, option_map, refl, sym, ap, ◌∙◌, none-some, Machine, ProcessCall, ScriptView, Node, event_after, successor, key_at, effects_after, relevant_key, Key, key_of, outcome_of, replies_after, Run, after, fresh, goes, next, IsOver, IsReached, replies-after, replies-same, follower-reached, made-by}
use Rattle.shm_outcomes.proofs.Relevance.{GoSame, after-same, go-same, next-same, reply-same}
use Rattle.shm_outcomes.proofs.Replaying.{reached-next}

-- if a node has the key of its run, its successors have the keys of theirs
pub successor-key :
    (script : ScriptView) (machine : Machine) (b : Node) → IsReached script (fresh machine) b.run → key_at b ≡ key_of script (fresh machine) b.run
    → (pid : ℕ) (call : ProcessCall) → key_at (successor script b pid call) ≡ key_of script (fresh machine) (after b.run pid call)
successor-key script machine b reached same pid call =
    let e = event_after b.run pid call in
    let replies = ap (λ (k : Key). replies_after script.processes e k.replies) same ∙ replies-after script.processes b.run.events e in
    let effects = ap (λ (k : Key). effects_after b.run.machine e k.effects) same ∙ sym (reached-next script machine b.run reached e) in
    λ j. record { count = length (after b.run pid call).events; replies = replies j; effects = effects j }

pub record AreEquivalent (script : ScriptView) (machine : Machine) (a b : Run) : Type 0 where
  pub left : IsReached script (fresh machine) a
  pub right : IsReached script (fresh machine) b
  pub key : key_of script (fresh machine) a ≡ key_of script (fresh machine) b

module _ (script : ScriptView) (machine : Machine) (a b : Run) (both : AreEquivalent script machine a b) where
  group : GoSame script machine a b
  group = go-same script machine a b both.left both.right (ap (relevant_key script) both.key)

  after-key : (pid : ℕ) (call : ProcessCall) → key_of script (fresh machine) (after a pid call) ≡ key_of script (fresh machine) (after b pid call)
  after-key pid call =
      let e = event_after a pid call in
      let f = event_after b pid call in
      let same = after-same script machine a b pid call both.left both.right group in
      let replies : outcome_of script (a.events ++ e ∷ []) ≡ outcome_of script (b.events ++ f ∷ []) =
      sym (replies-after script.processes a.events e)
      ∙ replies-same script.processes e f refl (reply-same script machine a b pid call group) (outcome_of script a.events)
      ∙ ap (λ (k : Key). replies_after script.processes f k.replies) both.key
      ∙ replies-after script.processes b.events f in
      λ j. record { count = same.count j; replies = replies j; effects = same.effects j }

  -- if one can continue, the other can
  pub equivalent-goes : (pid : ℕ) (m : Run) → goes script pid a ≡ Some m → (n : Run) × (goes script pid b ≡ Some n) × AreEquivalent script machine m n
  equivalent-goes pid m follows =
      let made = made-by (next script a pid) a pid m follows in
      let n = after b pid made.0 in
      let there : goes script pid b ≡ Some n = ap (option_map (after b pid)) (sym (next-same script machine a b pid group) ∙ made.1) in (
        n,
        there,
        record {
          left = follower-reached script (fresh machine) a both.left pid m follows;
          right = follower-reached script (fresh machine) b both.right pid n there;
          key = ap (key_of script (fresh machine)) (sym made.2) ∙ after-key pid made.0;
        },
      )

  -- and both are over, or neither
  pub equivalent-over : IsOver script a → IsOver script b
  equivalent-over over pid = by (next script b pid) refl
    where
      by : (o : Option ProcessCall) → next script b pid ≡ o → option_map (after b pid) o ≡ None
      by None is = refl
      by (Some call) is =
          let there : next script a pid ≡ Some call = next-same script machine a b pid group ∙ is in
          absurd (none-some (after a pid call) (sym (over pid) ∙ ap (option_map (after a pid)) there))
