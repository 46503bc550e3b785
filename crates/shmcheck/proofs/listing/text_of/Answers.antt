use Rattle.std.proofs.Common.{rules, ◌≡◌, ◌∙◌, ap, true}
use Rattle.shm_outcomes.specs.Text.{outcomes_text}
use Rattle.shmcheck.proofs.Texts.{masked-text}
use Rattle.shmcheck.proofs.listing.text_of.Goals as goal

pub returns : goal.returns
returns c =
    let yes : c.args.masked ≡ true = search rules in
    λ first h.
    masked-text c.args.masked c.args.script.now first c.in_ok-others.others.items c.in_ok-text.text.items yes (c.in_ok-others.ensures c.args.script.now first (search rules))
    (c.in_ok-text.ensures ∙ ap (outcomes_text true c.args.script.now) c.deref.ensures.value)
