-- `into_box`: what the parts own is what `from_raw` asks for.
use Rattle.nogcuvema.proofs.Names.{refl, sym, subst, ap, List, [], ◌∷◌, ◌++◌, T, Ura, Fn, Body, place, copy, assign, rv_opd, seq, return, inst_fn, Val, vptr, has_ty, WT, SProp, ent, id⊢, ftrue, fsep, WpFn, Tables, Memory, Routine, Logic, ◌⊑◌, Fun, fact, tables, fm_of, Item, ⋆, at_ret, ‵, raw, ◌⊛◌, some, later, ◌$◌, ◌∵◌, !, qed, by, move, use1, join, split, split3, pick, rewrite, fsplit, fjoin, feq_i, suffices, await, done, whole, sub, stop, fld, no_more, and_then, of_opd, returns, enter, first, blocks, exec, alloc_all, pass_all, free_all, look_at, get, get_in, sets, lands_last, env, no, block_ptr, plain, heard, nothing, only, calls_at_last, Ended, Clauses, triple_of, Triple, Contract, says, Stays, stay_dropped, walk_of, ends_at, token, Goes-blank, box_owns, proved_at, Bx, D, R, P, B, args, box_ty, word, box_typed, box_out, box_in}
use Rattle.std.proofs.Common.{◌≡◌}
use contract.Running.{tables_of}
use types.Kit.{drop}
use Rattle.std.specs.contracts.boxed.Box.from_raw as closing
use Rattle.std.proofs.boxed.Box.from_raw.Symbol as symbol
use Rattle.std.proofs.boxed.Box.from_raw.Met as closing-met
use Rattle.nogcuvema.proofs.PartsSteps.{PartsOf, tokens}
use Rattle.nogcuvema.specs.contracts.parts.Parts.into_box as f
use Rattle.nogcuvema.proofs.parts.Parts.into_box.Statement.{statement}
use Rattle.nogcuvema.proofs.parts.Parts.into_box.Code as code

-- what runs when the call has answered
abbrev after_call : Body
after_call = seq (assign (place 0 []) (rv_opd (copy (place 4 [])))) return

module _ (E : Bx) where
  abbrev body : Fn
  body = inst_fn (args E) code.function

  abbrev ended : Ended
  ended = f.ended E.row E.al.row E.al.g E.al.d E.al.drops

  abbrev stayed : Stays ended.signature.params ended.kept
  stayed = (stay_dropped (plain (λ _. PartsOf E)) no, tt)

  module _ {M : Type 1} {𝓤 : Ura M} (𝓛 : Logic 𝓤) (at_mem : Memory → SProp 𝓤) (run : Routine → Fun 𝓤) (𝓣 : Tables 𝓤 𝓛.H) where
    open 𝓛 use {H}

    abbrev clauses : Clauses 𝓤 ended
    clauses = f.clauses E.row E.al.row E.al.g E.al.d E.al.drops 𝓛 at_mem run

    abbrev Closes : Contract 𝓤
    Closes = triple_of 𝓛 (closing.signature E.row E.al.row E.al.g E.al.d E.al.drops) (closing.spec E.row E.al.row E.al.g E.al.d E.al.drops 𝓛 at_mem run)

    -- what the call gives back: a box of the same value and allocator
    abbrev closed : (parts : D E) (ts : Item 𝓤) → Val → Item 𝓤
    closed parts ts u =
        later (some (λ (r : D E). (ts ⊛ ‵ ((B E).own_val r (u ∷ []))) ⊛ some (λ (_ : Unit {0} × (Unit {0} × Unit {0})).
        ‵ (fsep ftrue (fsep ftrue ftrue)) ⊛ (raw (fact 𝓤 (r.value ≡ parts.value)) ⊛ raw (fact 𝓤 (r.alloc ≡ parts.alloc))))))

    walk : Triple 𝓤 (𝓣.C (symbol.name (args E))) Closes → (z : (walk_of 𝓛 ended stayed clauses).Ghost)
        → ent 𝓤 ((walk_of 𝓛 ended stayed clauses).pre z) (WpFn 𝓤 H 𝓣.C 𝓣.Λ body (z.0.4.0 ++ []) ((walk_of 𝓛 ended stayed clauses).post z))
    walk known z =
        let κs = z.0.0 in let qs = z.0.1 in let given = z.0.3.0 in let Post = (walk_of 𝓛 ended stayed clauses).post z in
        let parts : D E = record { ptr = given.ptr; alloc = given.alloc; value = given.value } in
        let ts = tokens E 𝓛 κs.0 κs.1.0 qs.0 qs.1.0 in
        let alive : Item 𝓤 = raw (fact 𝓤 (κs.0 ⊑ E.row.lives)) ⊛ raw (fact 𝓤 (κs.1.0 ⊑ E.al.row.lives)) ⊛ ‵ ftrue in
        qed 𝓛 ((ts ⊛ ‵ (fsep ((B E).own_val parts z.0.4.0) ftrue)) ∷ alive ∷ []) ∵ split ! $ move ! (1 ∷ []) $ fsplit ! $
        box_out E ! parts z.0.4.0 (λ b o handle at spelled fits. fjoin ! $
        let w = word E handle b o in
        let asked : Closes.Ghost = ((κs, qs, tt, (parts.alloc, (block_ptr b o, tt)), (handle ∷ [], (vptr b o ∷ [], tt))), parts.value) in
        let Γ : List (Item 𝓤) = ‵ (box_owns (token E.al parts.alloc) (R E) (block_ptr b o) parts.value) ∷ ‵ ((P E).own_val parts.alloc (handle ∷ [])) ∷ ‵ ftrue ∷ ts ∷ alive ∷ [] in
        by ! (subst (λ (us : List Val). ent 𝓤 (⋆ 𝓛 Γ) (WpFn 𝓤 H 𝓣.C 𝓣.Λ body (us ++ []) Post)) (sym spelled)
        (qed 𝓛 Γ ∵ enter ! 𝓣.C 𝓣.Λ body (w ∷ []) _ $ alloc_all ! (λ ls. pass_all ! refl (box_typed E handle b o fits, tt) $
        sets ! (of_opd ! (get_in ! (fld ! refl (stop !)) (sub ! 0 refl (whole !)))) refl (tt, tt) $
        sets ! (of_opd ! (get_in ! (fld ! refl (stop !)) (sub ! 1 refl (whole !)))) refl fits $
        first ! $ blocks ! $ sets ! (of_opd ! (get ! refl)) refl fits $
        move ! (4 ∷ []) $ split3 ! $ move ! (2 ∷ []) $ drop ! $ move ! (1 ∷ 2 ∷ []) $ join ! $ move ! (1 ∷ 0 ∷ []) $ join ! $
        -- [what it asks for; the handle; true; the tokens]
        move ! (2 ∷ []) $ feq_i ! (List Val) (vptr b o ∷ []) (vptr b o ∷ []) refl $ fjoin ! $
        move ! (2 ∷ 0 ∷ []) $ fjoin ! $ move ! (2 ∷ 0 ∷ []) $ join ! $ join ! $ use1 𝓛 (raw (Closes.pre asked)) (id⊢ 𝓤 _) $
        calls_at_last ! (fm_of 𝓤 H 𝓛.laws 𝓣) Closes known asked (and_then ! (get ! refl) (and_then ! (get ! refl) (no_more !))) (λ u.
        use1 𝓛 (closed parts ts u) (id⊢ 𝓤 _) $
        await ! tt $ pick ! (λ r. split ! $ move ! (1 ∷ []) $ pick ! (λ _. split3 ! $ drop ! $ heard ! (r.value ≡ parts.value) (λ same. drop ! $ split ! $ move ! (1 ∷ []) $
        box_out E ! r (u ∷ []) (λ c i by_alloc there word-is held. box_in E ! r c i r.value there refl $
        rewrite ! 0 (λ (us : List Val). ‵ ((B E).own_val r us)) (sym word-is) refl $
        let typed : T (has_ty (box_ty E) u) × WT u = subst (λ (v : Val). T (has_ty (box_ty E) v) × WT v) (sym (ap only word-is)) (box_typed E by_alloc c i held) in
        lands_last ! refl typed $ exec ! 𝓣.C 𝓣.Λ (env body.locals ls) after_call (at_ret (env body.locals ls) Post) $
        sets ! (of_opd ! (get ! refl)) refl typed $ returns ! (look_at ! 0 refl) $ free_all ! refl $
        suffices ! _ (ends_at 𝓛 ended stayed clauses z u r ((tt, (tt, tt)), tt) (tt, tt)) $ says ! same $
        nothing ! $ nothing ! $ fjoin ! $ join ! $ move ! (1 ∷ 0 ∷ []) $ join ! $ done !)))))))))

pub into_box_spec : {M : Type 1} → statement M
unfolding tables_of
into_box_spec 𝓤 𝓛 𝓜 𝓡 wired X Z LX LZ g d drops allocator met-drops =
    let E : Bx = record { row = X; laws = LX; al = record { row = Z; laws = LZ; g = g; d = d; drops = drops } } in
    let 𝓣 = tables 𝓤 𝓛.H 𝓜 𝓡 𝓡.env in
    let known = closing-met.met 𝓤 𝓛 𝓜 𝓡 (code.calls-std_alloc::boxed::Box::from_raw 𝓡.env wired) X Z LX LZ g d drops allocator met-drops in
    proved_at 𝓛 (ended E) (stayed E) (clauses E 𝓛 𝓜.mem 𝓡.returns (tables_of 𝓤 𝓛.H 𝓜 𝓣)) 𝓜 𝓡 (Goes-blank 𝓛 2 (plain (λ _. PartsOf E)) no (λ κs x w. tt), tt)
    (f.Key.name (args E)) (body E) (code.unfolded 𝓤 𝓛.H 𝓜 𝓡 wired (X, (Z, tt)) d drops)
    (λ z are. walk E 𝓛 𝓜.mem 𝓡.returns (tables_of 𝓤 𝓛.H 𝓜 𝓣) known z)
