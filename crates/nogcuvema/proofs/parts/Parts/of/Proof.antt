-- `of`: the parts own what `into_raw_with_allocator` returns.
use Rattle.nogcuvema.proofs.Names.{refl, sym, subst, ap, ◌∙◌, List, [], ◌∷◌, ◌++◌, Ura, Fn, Args, Dict, a_type, dcons, dnil, inst_fn, Val, vstruct, of_list, SProp, ent, id⊢, never, fst∗, ftrue, fsep, WpFn, Tables, Memory, Routine, Logic, sem, Fun, fact, tables, fm_of, Item, ⋆, ‵, raw, ◌⊛◌, some, later, ◌$◌, ◌∵◌, !, qed, by, move, use1, join, split, split3, pick, rewrite, fsplit, fjoin, fpick, feq_l, suffices, await, done, whole, sub, agg, stop, fld, no_more, and_then, of_opd, returns, enter, alloc_all, pass_all, free_all, look_at, get, get_in, sets, lands_as, no, bounded, Ptr, block_ptr, null_ptr, ptr_val, in_a_block, plain, heard, nothing, only, Tuple, calls_at, Ended, Clauses, triple_of, Triple, Contract, says, Stays, stay_dropped, walk_of, ends_at, token, handle_tells, Goes-blank, box_owns, proved_at, Bx, D, τ, R, P, B, word, box_typed, box_out, box_in}
use Rattle.std.proofs.Common.{◌≡◌}
use mir.Raw.{raw as bare}
use contract.Running.{tables_of}
use types.Kit.{drop}
use denote.RawPtr.{RawPtr}
use Rattle.std.specs.contracts.boxed.Box.into_raw_with_allocator as opening
use Rattle.std.proofs.boxed.Box.into_raw_with_allocator.Symbol as symbol
use Rattle.std.proofs.boxed.Box.into_raw_with_allocator.Met as opening-met
use Rattle.nogcuvema.proofs.PartsSteps.{PartsOf, tokens, outlived}
use Rattle.nogcuvema.specs.contracts.parts.Parts.of as f
use Rattle.nogcuvema.proofs.parts.Parts.of.Statement.{statement}
use Rattle.nogcuvema.proofs.parts.Parts.of.Code as code

module _ (E : Bx) (glue : Dict) where
  abbrev type_args : Args
  type_args = bounded (a_type ∷ a_type ∷ []) (E.row, (E.al.row, tt)) (dcons E.al.d (dcons E.al.drops (dcons glue dnil)))

  abbrev body : Fn
  body = inst_fn type_args code.function

  abbrev ended : Ended
  ended = f.ended E.row E.al.row E.al.g E.al.d E.al.drops glue

  abbrev stayed : Stays ended.signature.params ended.kept
  stayed = (stay_dropped (plain (λ _. B E)) no, tt)

  module _ {M : Type 1} {𝓤 : Ura M} (𝓛 : Logic 𝓤) (at_mem : Memory → SProp 𝓤) (run : Routine → Fun 𝓤) (𝓣 : Tables 𝓤 𝓛.H) where
    open 𝓛 use {H}

    abbrev clauses : Clauses 𝓤 ended
    clauses = f.clauses E.row E.al.row E.al.g E.al.d E.al.drops glue 𝓛 at_mem run

    abbrev Opens : Contract 𝓤
    Opens = triple_of 𝓛 (opening.signature E.row E.al.row E.al.g E.al.d E.al.drops glue) (opening.spec E.row E.al.row E.al.g E.al.d E.al.drops glue 𝓛 at_mem run)

    -- the result of the call: the pointer, the handle, and the block that it points to
    abbrev opened : (boxed : D E) (ts : Item 𝓤) → Val → Item 𝓤
    opened boxed ts u =
        later (some (λ (r : Ptr × E.al.row.Denot).
        (ts ⊛ ‵ ((Tuple (RawPtr ∷ P E ∷ [])).own_val r (u ∷ []))) ⊛ some (λ (_ : (Unit {0} × (Unit {0} × Unit {0})) × Unit {0}).
        ‵ (fsep (fsep ftrue (fsep ftrue ftrue)) ftrue) ⊛ (raw (fact 𝓤 (r.1 ≡ boxed.alloc)) ⊛ ‵ (box_owns (token E.al boxed.alloc) (R E) r.0 boxed.value)))))

    walk : Triple 𝓤 (𝓣.C (symbol.name type_args)) Opens → (z : (walk_of 𝓛 ended stayed clauses).Ghost)
        → ent 𝓤 ((walk_of 𝓛 ended stayed clauses).pre z) (WpFn 𝓤 H 𝓣.C 𝓣.Λ body (z.0.4.0 ++ []) ((walk_of 𝓛 ended stayed clauses).post z))
    walk known z =
        let κs = z.0.0 in let qs = z.0.1 in let boxed = z.0.3.0 in let Post = (walk_of 𝓛 ended stayed clauses).post z in
        let ts = tokens E 𝓛 κs.0 κs.1.0 qs.0 qs.1.0 in let alive = outlived E 𝓛 κs.0 κs.1.0 in
        qed 𝓛 ((ts ⊛ ‵ (fsep ((B E).own_val boxed z.0.4.0) ftrue)) ∷ alive ∷ []) ∵ split ! $ move ! (1 ∷ []) $ fsplit ! $
        box_out E ! boxed z.0.4.0 (λ b o handle at spelled fits. box_in E ! boxed b o boxed.value at refl $
        let w = word E handle b o in
        let asked : Opens.Ghost = ((κs, qs, tt, (boxed, tt), (w ∷ [], tt)), tt) in
        let Γ : List (Item 𝓤) = ‵ ((B E).own_val boxed (w ∷ [])) ∷ ‵ ftrue ∷ ts ∷ alive ∷ [] in
        by ! (subst (λ (us : List Val). ent 𝓤 (⋆ 𝓛 Γ) (WpFn 𝓤 H 𝓣.C 𝓣.Λ body (us ++ []) Post)) (sym spelled)
        (qed 𝓛 Γ ∵ enter ! 𝓣.C 𝓣.Λ body (w ∷ []) _ $ alloc_all ! (λ ls. pass_all ! refl (box_typed E handle b o fits, tt) $
        sets ! (of_opd ! (get ! refl)) refl (box_typed E handle b o fits) $
        fjoin ! $ move ! (1 ∷ 0 ∷ []) $ join ! $ join ! $ use1 𝓛 (raw (Opens.pre asked)) (id⊢ 𝓤 _) $
        calls_at ! (fm_of 𝓤 H 𝓛.laws 𝓣) Opens known asked (and_then ! (get ! refl) (no_more !)) (λ u.
        use1 𝓛 (opened boxed ts u) (id⊢ 𝓤 _) $
        await ! tt $ pick ! (λ r. split ! $ move ! (1 ∷ []) $ pick ! (λ _. split3 ! $ drop ! $ heard ! (r.1 ≡ boxed.alloc) (λ same.
        in_a_block ! r.0 (λ p. box_owns (token E.al boxed.alloc) (R E) p boxed.value) (fst∗ 𝓤 (never 𝓤) (sem 𝓛 (token E.al boxed.alloc (bare (τ E)) null_ptr))) (λ c i there.
        move ! (1 ∷ []) $ split ! $ move ! (1 ∷ []) $ fpick ! (λ parts. fsplit ! $ feq_l ! (λ both. fsplit ! $ feq_l ! (λ first. fsplit ! $
        rewrite ! 0 (λ (a : E.al.row.Denot). ‵ (E.al.row.own_val a parts.1.0)) same refl $ handle_tells E.al ! boxed.alloc parts.1.0 (λ by_alloc second held.
        let made : (PartsOf E).Denot = record { ptr = block_ptr c i; alloc = boxed.alloc; value = boxed.value } in
        let whole_box : D E = record { ptr = block_ptr c i; alloc = boxed.alloc; value = boxed.value } in
        lands_as ! (ap only (both ∙ (λ j. vstruct (of_list ((first ∙ ap (λ (p : Ptr). ptr_val p ∷ []) there) j ++ (second j ++ []))) ∷ []))) refl (box_typed E by_alloc c i held) $
        sets ! (of_opd ! (get_in ! (fld ! refl (stop !)) (sub ! 0 refl (whole !)))) refl (tt, tt) $
        sets ! (of_opd ! (get_in ! (fld ! refl (stop !)) (sub ! 1 refl (whole !)))) refl held $
        sets ! (of_opd ! (get ! refl)) refl held $
        sets ! (agg ! (and_then ! (get ! refl) (and_then ! (get ! refl) (no_more !)))) refl (box_typed E by_alloc c i held) $
        returns ! (look_at ! 0 refl) $ free_all ! refl $
        -- [the handle; true; the tokens; the value with the right to free it]
        move ! (3 ∷ []) $ fsplit ! $ box_in E ! whole_box c i boxed.value refl refl $
        use1 𝓛 (‵ ((PartsOf E).own_val made (word E by_alloc c i ∷ []))) (id⊢ 𝓤 _) $ move ! (1 ∷ []) $ drop ! $
        suffices ! _ (ends_at 𝓛 ended stayed clauses z (word E by_alloc c i) made ((tt, (tt, tt)), tt) (tt, tt)) $ says ! refl $
        nothing ! $ nothing ! $ fjoin ! $ join ! $ move ! (1 ∷ 0 ∷ []) $ join ! $ done !)))))))))))))

pub of_spec : {M : Type 1} → statement M
unfolding tables_of
of_spec 𝓤 𝓛 𝓜 𝓡 wired X Z LX LZ g d drops glue allocator met-drops met-glue =
    let E : Bx = record { row = X; laws = LX; al = record { row = Z; laws = LZ; g = g; d = d; drops = drops } } in
    let 𝓣 = tables 𝓤 𝓛.H 𝓜 𝓡 𝓡.env in
    let known = opening-met.met 𝓤 𝓛 𝓜 𝓡 (code.calls-std_alloc::boxed::Box::into_raw_with_allocator 𝓡.env wired) X Z LX LZ g d drops glue allocator met-drops met-glue in
    proved_at 𝓛 (ended E glue) (stayed E glue) (clauses E glue 𝓛 𝓜.mem 𝓡.returns (tables_of 𝓤 𝓛.H 𝓜 𝓣)) 𝓜 𝓡 (Goes-blank 𝓛 2 (plain (λ _. B E)) no (λ κs x w. tt), tt)
    (f.Key.name (type_args E glue)) (body E glue) (code.unfolded 𝓤 𝓛.H 𝓜 𝓡 wired (X, (Z, tt)) d drops glue)
    (λ z are. walk E glue 𝓛 𝓜.mem 𝓡.returns (tables_of 𝓤 𝓛.H 𝓜 𝓣) known z)
