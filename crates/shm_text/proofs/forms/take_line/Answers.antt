use Rattle.shm_text.proofs.Names.{rules, refl, sym, None, append-nil}
use Rattle.shm_text.specs.Reading.{line_item}
use Rattle.shm_text.proofs.FirstWords.{same_words}
use Rattle.shm_text.proofs.forms.take_line.Goals as goal

pub returns-then-is_skipped-clause-ok : goal.returns-then-is_skipped-clause-ok
unfolding line_item
returns-then-is_skipped-clause-ok c = record {
  item = None;
  is = search (rules, same_words);
  counts = refl;
  keeps = λ whole. (whole, sym (append-nil c.args.kept.now.processes), sym (append-nil c.args.kept.now.lines));
}
