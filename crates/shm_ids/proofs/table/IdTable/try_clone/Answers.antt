use Rattle.shm_ids.proofs.Names.{◌≡◌, ℕ, rules, nat_eq, get}
use Rattle.std.proofs.lemmas.List.Elements.{same_from_all_zip}
use Rattle.shm_ids.proofs.Steps.{Keyed-same}
use Rattle.shm_ids.proofs.table.IdTable.try_clone.Goals as goal

pub invariant_of-result : goal.invariant_of-result
invariant_of-result g c =
    let items : c.in_ok-entries.entries.items ≡ c.self.inside.entries.items = c.in_ok-entries.ensures in
    let keys : c.in_ok-keys.keys.entries ≡ c.self.inside.keys.entries = same_from_all_zip _ _ _ c.in_ok-keys.ensures.cases (λ x y both. search rules) in
    let same : (q : ℕ) → get nat_eq c.in_ok-keys.keys q ≡ get nat_eq c.self.inside.keys q = λ q. search (rules, keys) in (
      record {
        identifiers = rw items c.self.invariant.0.identifiers;
        known = record { taken = c.give_open.ensures.taken; room = search rules };
        keyed = rw items (Keyed-same _ _ _ c.self.invariant.0.keyed same);
      },
      rw items c.self.invariant.1,
    )
