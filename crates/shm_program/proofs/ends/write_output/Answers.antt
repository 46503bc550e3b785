use Rattle.shm_program.proofs.Names.{arith, rules, length, length-append, ◌<◌, [], subst, append-nil, Option, ◌≡◌, ℕ, List, ◌++◌, ◌∙◌, take, drop, sym, ap, append_assoc, Appends-trans, Appends-kept, Appends, IsPart, take-append_seam, take-append-drop, common_steps}
use Rattle.shm_program.proofs.ends.write_output.Goals as goal

-- what was written and what is left make the whole
split_more : (bytes done rest left : List ℕ) (n : ℕ) → bytes ≡ done ++ rest → left ≡ drop n rest → bytes ≡ (done ++ take n rest) ++ left
split_more bytes done rest left n e is = e ∙ ap (λ l. done ++ l) (sym (take-append-drop n rest)) ∙ sym (append_assoc done (take n rest) (drop n rest)) ∙ ap (λ l. (done ++ take n rest) ++ l) (sym is)

pub loop-rest-preserved : goal.loop-rest-preserved
loop-rest-preserved g c =
    let (done, split, written) = c.loop-rest.invariant in (
      done ++ take c.in-Ok.count c.loop-rest.rest.now,
      split_more c.args.bytes.now done c.loop-rest.rest.now _ c.in-Ok.count split (grind (arith, common_steps)),
      Appends-trans _ _ _ _ _ written c.in-Ok.ensures.bytes,
    )

-- what was written so far is a beginning
part : (a b : Option (List ℕ)) (bytes done rest : List ℕ) → bytes ≡ done ++ rest → 0 < length rest → Appends a b done → IsPart bytes a b
part a b bytes done rest split more written =
    let sum = length-append done rest in
    let all = ap length split in
    (length done, omega (arith, sum, all), subst (Appends a b) (sym (take-append_seam done rest) ∙ ap (take (length done)) (sym split)) written)

-- a writer that took no byte added none
no-more : (a b c : Option (List ℕ)) (done rest : List ℕ) (n : ℕ) → n ≡ 0 → Appends a b done → Appends b c (take n rest) → Appends a c done
no-more a b c done rest n is p q = subst (Appends a c) (append-nil done) (Appends-trans a b c done [] p (subst (λ (k : ℕ). Appends b c (take k rest)) is q))

pub returns-in-Ok-eq0-clause-err : goal.returns-in-Ok-eq0-clause-err
returns-in-Ok-eq0-clause-err g c =
    let (done, split, written) = c.loop-rest.invariant in
    part _ _ c.args.bytes.now done c.loop-rest.rest.now split (grind (arith, common_steps)) (no-more _ _ _ done c.loop-rest.rest.now c.in-Ok-eq0.field-0 (search rules) written c.in-Ok-eq0.ensures.bytes)

pub returns-in-Err-clause-err : goal.returns-in-Err-clause-err
returns-in-Err-clause-err g c =
    let (done, split, written) = c.loop-rest.invariant in
    part _ _ c.args.bytes.now done c.loop-rest.rest.now split (grind (arith, common_steps)) (Appends-kept _ _ _ done written c.in-Err.ensures.bytes)
