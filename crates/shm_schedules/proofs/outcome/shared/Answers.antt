use Rattle.std.specs.Prelude.{◌≡◌, IfSome, Some}
use Rattle.std.specs.List.{find}
use Rattle.std.proofs.Common.{rules, subst, sym}
use Rattle.std.proofs.lemmas.Map.Made.{IfSome-find_same}
use Rattle.shm_schedules.specs.Same.{replies_eq, same-replies}
use Rattle.shm_schedules.proofs.outcome.shared.Goals as goal

pub returns-in-Some : goal.returns-in-Some
returns-in-Some c =
    let found : Some c.in-Some.known.now ≡ find (replies_eq c.args.list) c.args.lists.now.keys = search rules in
    let same = subst (λ o. IfSome o (λ k. k ≡ c.args.list)) (sym found) (IfSome-find_same same-replies c.args.list c.args.lists.now.keys) in
    search rules
