-- `none` makes the null pointer.
use Rattle.nogcuvema.proofs.Names.{[], ◌∷◌, refl, lit<, Option, emp, id⊢, ftrue, ‵, raw, ◌⊛◌, ◌$◌, ◌∵◌, !, qed, by, keep, split, use0, no_more, and_then, returns, enter, lit, alloc_all, pass_all, free_all, look_at, sets, agg, fact, fact_i, tables, null_ptr, ptr_val, nothing, walk_of, proved_at, leaves, Machine, owned}
use Rattle.std.specs.Prelude.{None, ◌≡◌}
use Rattle.nogcuvema.proofs.KeptSteps.{alone, token, kept_in}
use Rattle.nogcuvema.specs.contracts.owned.Kept.none as f
use Rattle.nogcuvema.proofs.owned.Kept.none.Statement.{statement}
use Rattle.nogcuvema.proofs.owned.Kept.none.Code as code

pub none_spec : {M : Type 1} → statement M
none_spec 𝓤 𝓛 𝓜 𝓡 wired =
    let H = 𝓛.H in let 𝓣 = tables 𝓤 H 𝓜 𝓡 𝓡.env in let c = f.clauses 𝓛 𝓜.mem 𝓡.returns in
    proved_at 𝓛 f.ended tt c 𝓜 𝓡 tt f.Key.name code.function (code.unfolded 𝓤 H 𝓜 𝓡 wired) (λ z are.
    let Post = (walk_of 𝓛 f.ended tt c).post z in
    let none : Option Machine = None in
    qed 𝓛 ((‵ ftrue ⊛ ‵ ftrue) ∷ ‵ ftrue ∷ []) ∵ split ! $
    enter ! 𝓣.C 𝓣.Λ code.function [] Post $ alloc_all ! (λ l. pass_all ! refl tt $
    sets ! (agg ! (and_then ! (lit ! tt) (no_more !))) refl (tt, (record { fits = lit< tt }, tt)) $
    use0 𝓛 (‵ (owned token null_ptr none)) (id⊢ 𝓤 (emp 𝓤)) $ kept_in ! null_ptr none $
    use0 𝓛 (raw (fact 𝓤 (none ≡ none))) (fact_i 𝓤 (none ≡ none) (emp 𝓤) refl) $ nothing ! $ nothing ! $
    returns ! (look_at ! 0 refl) $ free_all ! refl $ keep ! (0 ∷ 1 ∷ 3 ∷ 2 ∷ []) $
    by ! (leaves 𝓛 f.ended tt c z (alone (ptr_val null_ptr)) (record { at = null_ptr; value = none }) tt tt)))
