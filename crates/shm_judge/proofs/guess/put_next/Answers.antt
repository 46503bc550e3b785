use Rattle.shm_judge.proofs.Names.{rules, ◌≡◌, All, Some, subst, sym, All-push, goes, IsReached, follower-reached}
use Rattle.shm_judge.proofs.guess.put_next.Goals as goal

pub returns : goal.returns
returns g c =
    let goes-on : goes c.args.script.now c.args.entry.now.pid c.index.result.now ≡ Some c.in-Some.next = search rules in
    record {
      reached =
          λ first all.
          (let at : IsReached c.args.script.now first c.index.result.now = subst (IsReached c.args.script.now first) (sym c.index.ensures) (all _ c.index.result.now (search rules)) in
          subst (All (IsReached c.args.script.now first)) (sym c.in_ok-push.ensures.items)
          (All-push (IsReached c.args.script.now first) c.forget_first.new.stack.items c.in-Some.next (c.forget_first.ensures.reached c.args.script.now first all)
          (follower-reached c.args.script.now first c.index.result.now at c.args.entry.now.pid c.in-Some.next goes-on)));
    }
