-- Equality of keys and states.
use Rattle.shm_outcomes.proofs.Names.{◌≡◌, Bool, Decides, unsigned_Decides, Decides-and, Decides-like, same-outcomes, Key, State, same-effects}
use Rattle.shm_outcomes.specs.contracts.keys.KeyPartialEq.TheImpl as key
use Rattle.shm_outcomes.specs.contracts.frontier.StatePartialEq.TheImpl as state

abbrev pub key_eq : Key → Key → Bool
key_eq = key.ghosts.eq

pub same-key : (a b : Key) → Decides (key_eq a b) (a ≡ b)
same-key a b =
    Decides-like _ (λ t i. record { count = t.0 i; replies = t.1.0 i; effects = t.1.1 i }) (λ e. (λ i. (e i).count, (λ i. (e i).replies, λ i. (e i).effects)))
    (Decides-and _ _ (unsigned_Decides _ _) (Decides-and _ _ (same-outcomes a.replies b.replies) (same-effects a.effects b.effects)))

abbrev pub state_eq : State → State → Bool
state_eq = state.ghosts.eq

pub equal-states : (a b : State) → Decides (state_eq a b) (a ≡ b)
equal-states a b =
    Decides-like _ (λ t i. record { group = t.0 i; replies = t.1 i }) (λ e. (λ i. (e i).group, λ i. (e i).replies))
    (Decides-and _ _ (unsigned_Decides _ _) (same-outcomes a.replies b.replies))
