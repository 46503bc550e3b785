use Rattle.shm_text.proofs.Names.{common_steps, arith, ◌≡◌, ◌+◌, ◌-◌, ◌++◌, ◌∙◌, sym, ap, refl, true, length, take, drop, get_or, take_all, list_all, is_allowed, is_space, with_word, first_line, line_end}
use Rattle.shm_text.proofs.Scanning.{none_inside, of_word, of_space, of_neither, more_inside, more_allowed, not_allowed, scanned, scanned_all}
use Rattle.shm_text.proofs.Ends.{ends_behind, ends_at, on_line, byte_of_line, length_line, no_lf, word_of_line, last_line}
use Rattle.shm_text.proofs.words.Words.take.Goals as goal
use Rattle.shm_text.proofs.words.Words.take.Goals.{Then-text-at-eq10}

pub loop-at-preserved-then-is_of_word : goal.loop-at-preserved-then-is_of_word
loop-at-preserved-then-is_of_word c =
    let l = c.loop-at in
    let text = c.args.text.now in
    let tests = of_word (get_or text l.at 0) (sym (c.if-is_of_word.ensures)) in
    let on = ends_behind text l.at l.invariant.on c.loop-at-test.true (no_lf (get_or text l.at 0) tests.0) in
    let byte = byte_of_line text l.at on in
    record {
      begun = omega arith;
      on = on;
      words = l.invariant.words;
      inside = more_inside (first_line text) l.start l.at l.invariant.begun (on_line text l.at on) (rw byte tests.1) l.invariant.inside;
      allowed = more_allowed (first_line text) l.at l.allowed (on_line text l.at on) (rw byte tests.0) l.invariant.allowed;
    }

pub loop-at-preserved-then-is_space : goal.loop-at-preserved-then-is_space
loop-at-preserved-then-is_space c =
    let l = c.loop-at in
    let text = c.args.text.now in
    let line = first_line text in
    let space : is_space (get_or text l.at 0) ≡ true = sym (c.if-is_space.ensures) in
    let allowed = of_space (get_or text l.at 0) space in
    let on = ends_behind text l.at l.invariant.on c.loop-at-test.true (no_lf (get_or text l.at 0) allowed) in
    let byte = byte_of_line text l.at on in
    let kept = c.keep.ensures ∙ ap (λ w. take 8 (l.self ++ with_word w)) (word_of_line text l.start l.at l.invariant.begun l.invariant.on) in
    record {
      begun = omega arith;
      on = on;
      words = scanned line l.start l.at l.self c.keep.new.self l.invariant.begun (on_line text l.at on) (rw byte space) l.invariant.inside l.invariant.words kept;
      inside = none_inside line (l.at + 1);
      allowed = more_allowed line l.at l.allowed (on_line text l.at on) (rw byte allowed) l.invariant.allowed;
    }

pub loop-at-preserved : goal.loop-at-preserved
loop-at-preserved c = grind (arith, common_steps, ends_behind, byte_of_line, more_inside, on_line, not_allowed, of_neither)

ended : (c : Then-text-at-eq10) → c.loop-at.at ≡ line_end c.args.text.now
ended c = ends_at c.args.text.now c.loop-at.at c.loop-at.invariant.on c.loop-at-test.true (rw c.if-text-at-eq10.true refl)

pub returns-then-text-at-eq10-clause-end : goal.returns-then-text-at-eq10-clause-end
returns-then-text-at-eq10-clause-end c = ended (goal.at.returns-then-text-at-eq10-clause-end c).Then-text-at-eq10

pub returns-then-text-at-eq10-clause-words : goal.returns-then-text-at-eq10-clause-words
returns-then-text-at-eq10-clause-words c =
    let l = c.loop-at in
    let text = c.args.text.now in
    let end : l.at ≡ length (first_line text) = ended (goal.at.returns-then-text-at-eq10-clause-words c).Then-text-at-eq10 ∙ sym (length_line text) in
    let kept =
    c.keep-then-text-at-eq10.ensures
    ∙ ap (λ w. take 8 (l.self ++ with_word w)) (word_of_line text l.start l.at l.invariant.begun l.invariant.on ∙ ap (λ n. take (n - l.start) (drop l.start (first_line text))) end) in
    scanned_all (first_line text) l.start l.at l.self c.keep-then-text-at-eq10.new.self l.invariant.begun (omega (arith, end)) l.invariant.inside l.invariant.words kept

pub returns-then-text-at-eq10-clause-allowed : goal.returns-then-text-at-eq10-clause-allowed
returns-then-text-at-eq10-clause-allowed c =
    let l = c.loop-at in
    let text = c.args.text.now in
    let end = ended (goal.at.returns-then-text-at-eq10-clause-allowed c).Then-text-at-eq10 in
    l.invariant.allowed ∙ ap (list_all is_allowed) (take_all l.at (first_line text) (omega (arith, end, length_line text)))

pub returns-clause-words : goal.returns-clause-words
returns-clause-words c =
    let l = c.loop-at in
    let text = c.args.text.now in
    let whole = last_line text l.at l.invariant.on c.loop-at-test.false in
    rw whole
    (scanned_all text l.start l.at l.self c.keep-2.new.self l.invariant.begun c.loop-at-test.false (rw whole at l.invariant.inside) (rw whole at l.invariant.words) c.keep-2.ensures)
